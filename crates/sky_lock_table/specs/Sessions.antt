-- What vectors by session number record: the keys of each session, and the arrival of each that waits.
use Rattle.std.specs.Prelude.{◌≡◌, ℕ, zero, suc, ◌==◌, ◌&&◌, nat_lt, Bool, false, if◌then◌else◌, List, [], ◌∷◌, Option, None, vec_len, vec_capacity}
use Rattle.std.specs.List.{list_any}
use Rattle.std.specs.declared.vec.Vec.{Vec}
use Rattle.std.specs.Global.{Global}
use Rattle.std.specs.Ordering.{nat_cmp, eq_by_cmp}
use Rattle.sky_lock_table.specs.declared.lock_key.LockKey.{LockKey}
use Rattle.sky_lock_table.specs.Order.{lock_cmp}

-- what is at a number, by this reading, or the default past the end
abbrev pub at_number : {X Y : Type 0} → (X → Y) → Y → List X → ℕ → Y
at_number read rest [] n = rest
at_number read rest (x ∷ xs) zero = read x
at_number read rest (x ∷ xs) (suc n) = at_number read rest xs n

-- ---- the keys of each session

abbrev pub KeysBySession : Type 0
KeysBySession = List (Vec LockKey Global)

-- those that are listed for a session
abbrev pub keys_of : KeysBySession → ℕ → List LockKey
keys_of keys who = at_number (λ (v : Vec LockKey Global). v.items) [] keys who

abbrev pub has_key : KeysBySession → ℕ → LockKey → Bool
has_key keys who key = list_any (λ k. eq_by_cmp lock_cmp key k) (keys_of keys who)

-- whether a key can be listed for a session without taking memory
abbrev pub has_room : KeysBySession → ℕ → Bool
has_room keys who = at_number (λ (v : Vec LockKey Global). nat_lt (vec_len v) (vec_capacity v)) false keys who

-- all is as before
abbrev pub KeepsKeys : KeysBySession → KeysBySession → Type 0
KeepsKeys old new = (s : ℕ) (q : LockKey) → has_key new s q ≡ has_key old s q

-- the key is now one of the session's, or is no more, and all else is as before
abbrev pub ChangesKey : KeysBySession → ℕ → LockKey → Bool → KeysBySession → Type 0
ChangesKey old who key there new = (s : ℕ) (q : LockKey) → has_key new s q ≡ (if s == who && eq_by_cmp lock_cmp key q then there else has_key old s q)

-- ---- the arrival of each session

-- a session's arrival, if it waits
abbrev pub arrival_of : List (Option ℕ) → ℕ → Option ℕ
arrival_of arrivals who = at_number (λ (a : Option ℕ). a) None arrivals who

-- all are as before
abbrev pub KeepsArrivalsOf : List (Option ℕ) → List (Option ℕ) → Type 0
KeepsArrivalsOf old new = (s : ℕ) → arrival_of new s ≡ arrival_of old s

-- the session has this arrival now, or none, and the others have what they had
abbrev pub ChangesArrivalOf : List (Option ℕ) → ℕ → Option ℕ → List (Option ℕ) → Type 0
ChangesArrivalOf old who now new = (s : ℕ) → arrival_of new s ≡ (if eq_by_cmp nat_cmp who s then now else arrival_of old s)
