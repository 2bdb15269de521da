-- The settings of a queue, and which values each of its parameters can have.
use Rattle.std.specs.Prelude.{ℕ, ◌==◌, ℤ, pos, Bool, true, false, if◌then◌else◌, List, [], ◌∷◌, Option, Some, None, option_map, find, bytes_eq, codes}
use Rattle.std.specs.Option.{option_and_then}
use Rattle.sky_val.specs.Numbers.{number_of}
use Rattle.sky_val.specs.Intervals.{interval_of}

-- the times are in microseconds
pub record Config : Type 0 where
  pub max_count : ℕ
  pub max_lag : ℤ
  pub idle_period : ℤ
  pub rotation_period : ℤ
  pub paused : Bool

-- the default settings: 500 events, 3 seconds, 1 minute, 2 hours
abbrev pub default_config : Config
default_config = record {
  max_count = 500;
  max_lag = pos 3_000_000;
  idle_period = pos 60_000_000;
  rotation_period = pos 7_200_000_000;
  paused = false;
}

pub data Param : Type 0 where
  ticker_max_count : Param
  ticker_max_lag : Param
  ticker_idle_period : Param
  rotation_period : Param
  ticker_paused : Param

-- the parameters and their names
abbrev pub params : List (List ℕ × Param)
params =
    (codes "ticker_max_count", ticker_max_count)
    ∷ (codes "ticker_max_lag", ticker_max_lag)
    ∷ (codes "ticker_idle_period", ticker_idle_period)
    ∷ (codes "rotation_period", rotation_period)
    ∷ (codes "ticker_paused", ticker_paused)
    ∷ []

-- the parameter of a name
abbrev pub param_of : List ℕ → Option Param
param_of name = option_map (λ param. param.1) (find (λ param. bytes_eq name param.0) params)

-- a number of events, which isn't 0
abbrev pub count_of : List ℕ → Option ℕ
count_of w = option_and_then (λ n. if n == 0 then None else Some n) (number_of 1_000_000_000 w)

-- `true` or `false`
abbrev pub flag_of : List ℕ → Option Bool
flag_of w = if bytes_eq w (codes "true") then Some true else if bytes_eq w (codes "false") then Some false else None

-- the settings with a parameter set to what a text writes, if it can have that value
abbrev pub configured_by : Config → Param → List ℕ → Option Config
configured_by c ticker_max_count w = option_map (λ n. record c { max_count = n }) (count_of w)
configured_by c ticker_max_lag w = option_map (λ time. record c { max_lag = pos time }) (interval_of w)
configured_by c ticker_idle_period w = option_map (λ time. record c { idle_period = pos time }) (interval_of w)
configured_by c rotation_period w = option_map (λ time. record c { rotation_period = pos time }) (interval_of w)
configured_by c ticker_paused w = option_map (λ paused. record c { paused = paused }) (flag_of w)
