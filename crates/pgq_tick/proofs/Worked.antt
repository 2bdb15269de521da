-- Worked settings, by computation.
use Rattle.std.proofs.Common.{◌≡◌, pos, true, List, ℕ, Ok, Err, refl}
use lib.Chars.{codes}
use Rattle.sky_model.specs.Config.{Config, default_config, param_of}
use Rattle.pgq_tick.specs.declared.config.ConfigFault.TheVariants.{NoParam, BadValue}
use Rattle.pgq_tick.specs.declared.config.ConfigFault.{ConfigFault}
use Rattle.std.specs.Prelude.{Result}
use Rattle.pgq_tick.specs.Config.{set_to}

-- the default settings, with a parameter set
abbrev set : List ℕ → List ℕ → Result Config ConfigFault
set param value = set_to default_config (param_of param) value

fewest : set (codes "ticker_max_count") (codes "1") ≡ Ok (record default_config { max_count = 1 })
fewest = refl

most : set (codes "ticker_max_count") (codes "1000000000") ≡ Ok (record default_config { max_count = 1_000_000_000 })
most = refl

none_at_all : set (codes "ticker_max_count") (codes "0") ≡ Err BadValue
none_at_all = refl

too_many : set (codes "ticker_max_count") (codes "1000000001") ≡ Err BadValue
too_many = refl

count_with_a_unit : set (codes "ticker_max_count") (codes "3s") ≡ Err BadValue
count_with_a_unit = refl

count_with_a_zero_in_front : set (codes "ticker_max_count") (codes "01") ≡ Err BadValue
count_with_a_zero_in_front = refl

no_lag : set (codes "ticker_max_lag") (codes "0us") ≡ Ok (record default_config { max_lag = pos 0 })
no_lag = refl

longest_lag : set (codes "ticker_max_lag") (codes "10000000000000us") ≡ Ok (record default_config { max_lag = pos 10_000_000_000_000 })
longest_lag = refl

lag_too_long : set (codes "ticker_max_lag") (codes "10000000000001us") ≡ Err BadValue
lag_too_long = refl

lag_below_zero : set (codes "ticker_max_lag") (codes "-1us") ≡ Err BadValue
lag_below_zero = refl

lag_without_a_unit : set (codes "ticker_max_lag") (codes "3") ≡ Err BadValue
lag_without_a_unit = refl

no_idle_period : set (codes "ticker_idle_period") (codes "0 d") ≡ Ok (record default_config { idle_period = pos 0 })
no_idle_period = refl

longest_idle_period : set (codes "ticker_idle_period") (codes "10000000 s") ≡ Ok (record default_config { idle_period = pos 10_000_000_000_000 })
longest_idle_period = refl

idle_period_too_long : set (codes "ticker_idle_period") (codes "10000001 s") ≡ Err BadValue
idle_period_too_long = refl

no_rotation_period : set (codes "rotation_period") (codes "0h") ≡ Ok (record default_config { rotation_period = pos 0 })
no_rotation_period = refl

longest_rotation_period : set (codes "rotation_period") (codes "10000000000ms") ≡ Ok (record default_config { rotation_period = pos 10_000_000_000_000 })
longest_rotation_period = refl

rotation_period_too_long : set (codes "rotation_period") (codes "10000000001ms") ≡ Err BadValue
rotation_period_too_long = refl

paused : set (codes "ticker_paused") (codes "true") ≡ Ok (record default_config { paused = true })
paused = refl

not_paused : set (codes "ticker_paused") (codes "false") ≡ Ok default_config
not_paused = refl

neither : set (codes "ticker_paused") (codes "1") ≡ Err BadValue
neither = refl

no_parameter : set (codes "ticker_max_lags") (codes "3s") ≡ Err NoParam
no_parameter = refl

no_parameter_of_large_letters : set (codes "TICKER_MAX_LAG") (codes "3s") ≡ Err NoParam
no_parameter_of_large_letters = refl

-- the same rotation period in every unit
abbrev set_period : List ℕ → Result Config ConfigFault
set_period value = set (codes "rotation_period") value

in_us : set_period (codes "172800000000us") ≡ Ok (record default_config { rotation_period = pos 172_800_000_000 })
in_us = refl

in_microseconds : set_period (codes "172800000000 microseconds") ≡ set_period (codes "172800000000us")
in_microseconds = refl

in_microsecond : set_period (codes "172800000000microsecond") ≡ set_period (codes "172800000000us")
in_microsecond = refl

in_ms : set_period (codes "172800000ms") ≡ set_period (codes "172800000000us")
in_ms = refl

in_millisecond : set_period (codes "172800000 millisecond") ≡ set_period (codes "172800000000us")
in_millisecond = refl

in_milliseconds : set_period (codes "172800000 milliseconds") ≡ set_period (codes "172800000000us")
in_milliseconds = refl

in_s : set_period (codes "172800 s") ≡ set_period (codes "172800000000us")
in_s = refl

in_second : set_period (codes "172800second") ≡ set_period (codes "172800000000us")
in_second = refl

in_seconds : set_period (codes "172800 seconds") ≡ set_period (codes "172800000000us")
in_seconds = refl

in_min : set_period (codes "2880min") ≡ set_period (codes "172800000000us")
in_min = refl

in_minute : set_period (codes "2880 minute") ≡ set_period (codes "172800000000us")
in_minute = refl

in_minutes : set_period (codes "2880 minutes") ≡ set_period (codes "172800000000us")
in_minutes = refl

in_h : set_period (codes "48h") ≡ set_period (codes "172800000000us")
in_h = refl

in_hour : set_period (codes "48 hour") ≡ set_period (codes "172800000000us")
in_hour = refl

in_hours : set_period (codes "48 hours") ≡ set_period (codes "172800000000us")
in_hours = refl

in_d : set_period (codes "2d") ≡ set_period (codes "172800000000us")
in_d = refl

in_day : set_period (codes "2 day") ≡ set_period (codes "172800000000us")
in_day = refl

in_days : set_period (codes "2days") ≡ set_period (codes "172800000000us")
in_days = refl
