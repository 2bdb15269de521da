-- Proofs by whether a test holds, and whether there is a value.
use Rattle.std.proofs.Common.{◌≡◌, ℕ, Bool, true, false, ◌==◌, cond, Option, Some, None, IfSome, option_map, Ok, Err, IfOk, refl}
use Rattle.std.specs.Option.{option_or, option_and_then}
use Rattle.std.proofs.lemmas.Bool.{eqb-true, cond_both}
use Rattle.sky_model.specs.Sessions.{Block, outside, inside, failed}
use Rattle.sky_model.specs.Outcome.{Checked, ◌>>=◌}

-- what holds of a test if it holds and if it fails
pub by_test : (P : Bool → Type 0) (b : Bool) → (b ≡ true → P true) → (b ≡ false → P false) → P b
by_test P true here there = here refl
by_test P false here there = there refl

-- and of whether two numbers are the same
pub by_same : (P : Bool → Type 0) (m n : ℕ) → (m ≡ n → P true) → ((m == n) ≡ false → P false) → P (m == n)
by_same P m n here there = by_test P (m == n) (λ is. here (eqb-true m n is)) there

-- and of a block
pub by_block : (P : Block → Type 0) → P outside → P inside → P failed → (b : Block) → P b
by_block P out within aborted outside = out
by_block P out within aborted inside = within
by_block P out within aborted failed = aborted

-- ---- what holds of a value, if there is one

-- by a test
pub if_cond : {A : Type 0} (P : A → Type 0) (b : Bool) (x y : Option A) → (b ≡ true → IfSome x P) → (b ≡ false → IfSome y P) → IfSome (cond b x y) P
if_cond P b x y here there = cond_both b x y (λ o. IfSome o P) here there

-- which lets one through
pub if_only : {A : Type 0} (P : A → Type 0) (b : Bool) (x : Option A) → (b ≡ true → IfSome x P) → IfSome (cond b x None) P
if_only P b x here = if_cond P b x None here (λ _. tt)

pub if_map : {A B : Type 0} (P : B → Type 0) (f : A → B) (o : Option A) → IfSome o (λ a. P (f a)) → IfSome (option_map f o) P
if_map P f None some = tt
if_map P f (Some a) some = some

pub if_then : {A B : Type 0} (P : B → Type 0) (f : A → Option B) (o : Option A) → IfSome o (λ a. IfSome (f a) P) → IfSome (option_and_then f o) P
if_then P f None some = tt
if_then P f (Some a) some = some

pub if_or : {A : Type 0} (P : A → Type 0) (x y : Option A) → IfSome x P → IfSome y P → IfSome (option_or x y) P
if_or P None y some other = other
if_or P (Some a) y some other = some

-- what is done with a value that isn't refused
pub ok-then : {A B : Type 0} (P : B → Type 0) (x : Checked A) (f : A → Checked B) → ((a : A) → x ≡ Ok a → IfOk (f a) P) → IfOk (x >>= f) P
ok-then P (Ok a) f also = also a refl
ok-then P (Err refusal) f also = tt
