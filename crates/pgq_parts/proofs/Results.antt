-- What holds of a result.
use Rattle.std.proofs.Common.{Result, Ok, Err, OnOk, ◌≡◌, true, is_ok}

-- what follows if there is no error
pub on-ok : {A E P Q : Type 0} → (r : Result A E) → OnOk r P → (P → Q) → OnOk r Q
on-ok (Ok a) holds then = then holds
on-ok (Err e) holds then = tt

-- the same of a result that is handed on
pub on-same : {A E P Q : Type 0} → (r s : Result A E) → r ≡ s → OnOk s P → (P → Q) → OnOk r Q
on-same (Ok a) (Ok b) same holds then = then holds
on-same (Ok a) (Err e) same holds then = absurd (cc)
on-same (Err e) s same holds then = tt

-- and what follows from two things
pub on-both : {A E P Q R : Type 0} → (r s : Result A E) → r ≡ s → OnOk s P → OnOk s Q → (P → Q → R) → OnOk r R
on-both (Ok a) (Ok b) same one other then = then one other
on-both (Ok a) (Err e) same one other then = absurd (cc)
on-both (Err e) s same one other then = tt

-- what holds if there is no error
pub if-ok : {A E P : Type 0} → (r : Result A E) → OnOk r P → is_ok r ≡ true → P
if-ok (Ok a) holds ok = holds
if-ok (Err e) holds ok = absurd (cc)
