-- What a text that grew begins with, and what a step that failed leaves.
use Rattle.std.proofs.Common.{◌≡◌, ℕ, List, [], ◌++◌, length, drop, refl, sym, ap, ◌∙◌, append_assoc, append-nil}
use Rattle.std.specs.Prelude.{Result, Ok, Err, IsErr, OnOk, OnErr}
use Rattle.std.proofs.lemmas.List.{drop_at}
use Rattle.std.proofs.lemmas.Result.{IfOk-from_err, on_ok_weaker, on_err_weaker}
use Rattle.sky_print.specs.Kept.{Keeps}

-- what grew at its end begins with what was there
pub Keeps-grown : (old more new : List ℕ) → new ≡ old ++ more → Keeps old new
Keeps-grown old more new is = is ∙ ap (λ rest. old ++ rest) (sym (ap (drop (length old)) is ∙ drop_at old more (length old) refl))

pub Keeps-behind : (old text mid new : List ℕ) → mid ≡ old ++ text → Keeps mid new → Keeps old new
Keeps-behind old text mid new before kept =
    let more = drop (length mid) new in
    Keeps-grown old (text ++ more) new (kept ∙ ap (λ front. front ++ more) before ∙ append_assoc old text more)

-- a step that failed, after a text that was appended
pub ok-failed : {T E : Type 0} (r : Result T E) (P : Type 0) → IsErr r → OnOk r P
ok-failed r P failed = IfOk-from_err r (λ _. P) failed

pub kept-failed : {T E : Type 0} (r : Result T E) (old text mid new : List ℕ) → mid ≡ old ++ text → Keeps mid new → OnErr r (Keeps old new)
kept-failed (Ok v) old text mid new before kept = tt
kept-failed (Err e) old text mid new before kept = Keeps-behind old text mid new before kept

pub kept-first : {T E : Type 0} (r : Result T E) (old new : List ℕ) → Keeps old new → OnErr r (Keeps old new)
kept-first (Ok v) old new kept = tt
kept-first (Err e) old new kept = kept

-- the same after two texts, and where nothing more was appended
pub kept-words : {T E : Type 0} (r : Result T E) (old first text mid new : List ℕ) → mid ≡ old ++ first ++ text → Keeps mid new → OnErr r (Keeps old new)
kept-words r old first text mid new before = kept-failed r old (first ++ text) mid new (before ∙ append_assoc old first text)

pub kept-stopped : {T E : Type 0} (r : Result T E) (old text new : List ℕ) → new ≡ old ++ text → OnErr r (Keeps old new)
kept-stopped (Ok v) old text new is = tt
kept-stopped (Err e) old text new is = Keeps-grown old text new is

-- a last step, after a text that was appended
pub ok-last : {T E : Type 0} (r : Result T E) (old text mid new more whole : List ℕ) → mid ≡ old ++ text → text ++ more ≡ whole → OnOk r (new ≡ mid ++ more) → OnOk r (new ≡ old ++ whole)
ok-last r old text mid new more whole before is =
    on_ok_weaker r (λ behind. behind ∙ ap (λ front. front ++ more) before ∙ append_assoc old text more ∙ ap (λ rest. old ++ rest) is)

pub kept-last : {T E : Type 0} (r : Result T E) (old text mid new : List ℕ) → mid ≡ old ++ text → OnErr r (Keeps mid new) → OnErr r (Keeps old new)
kept-last r old text mid new before = on_err_weaker r (Keeps-behind old text mid new before)

pub ok-end : {T E : Type 0} (r : Result T E) (old text new : List ℕ) → OnOk r (new ≡ old ++ text) → OnOk r (new ≡ old ++ (text ++ []))
ok-end r old text new = on_ok_weaker r (λ is. is ∙ ap (λ more. old ++ more) (sym (append-nil text)))
