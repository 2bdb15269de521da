-- What is done in a session's own transaction, part by part.
use Rattle.std.proofs.Common.{◌≡◌, ℕ, List, [], ◌∷◌, ◌++◌, Bool, true, false, Option, Some, None, Ok, Err, refl, sym, ◌∙◌, ap, append_assoc, eq-eqb, if◌then◌else◌}
use Rattle.sky_urlenc.specs.RowEvents.{op_of}
use Rattle.sky_model.specs.History.{Mark, ended, tabled, wrote}
use Rattle.sky_model.specs.State.{RowPart, with_txid, after_part, after_part_marks}
use Rattle.sky_model.specs.Outcome.{Checked}
use Rattle.sky_model.specs.OwnTransaction.{own_or_next, txid_for, begin_of, commit_of, in_own}
use Rattle.sky_row_store.specs.declared.effect.Effect.TheVariants.{Wrote, Committed, Aborted}
use Rattle.sky_row_store.specs.Effects.{EffectsView, effects_by, with_effects}

-- the marks of two lists, one after the other
pub after-append : (d : RowPart) (xs ys : List Mark) → after_part_marks d (xs ++ ys) ≡ after_part_marks (after_part_marks d xs) ys
after-append d [] ys = refl
after-append d (x ∷ xs) ys = after-append (after_part d x) xs ys

-- the effects of two lists of marks, one after the other
pub effects-append : (w : Bool) (xs ys : List Mark) → effects_by w (xs ++ ys) ≡ effects_by w xs ++ effects_by w ys
effects-append w [] ys = refl
effects-append w (ended who t true ∷ xs) ys = ap (λ es. Committed t ∷ es) (effects-append w xs ys)
effects-append w (ended who t false ∷ xs) ys = ap (λ es. Aborted t ∷ es) (effects-append w xs ys)
effects-append true (tabled (wrote who t table key old new) ∷ xs) ys = ap (λ es. Wrote t table (op_of old new) old new ∷ es) (effects-append true xs ys)
effects-append false (tabled (wrote who t table key old new) ∷ xs) ys = effects-append false xs ys
effects-append w (mark ∷ xs) ys = effects-append w xs ys

pub with-append : (e : EffectsView) (xs ys : List Mark) → with_effects (with_effects e xs) ys ≡ with_effects e (xs ++ ys)
with-append e xs ys =
    ap (λ items. record e { items = items }) (append_assoc e.items (effects_by e.whole xs) (effects_by e.whole ys) ∙ ap (λ es. e.items ++ es) (sym (effects-append e.whole xs ys)))

-- the id that was found, or 0
abbrev found_id : Checked ℕ → ℕ
found_id (Ok t) = t
found_id (Err refusal) = 0

-- a session has its id as soon as its transaction begins
pub begun-txid : (d new : RowPart) (who t : ℕ) → txid_for d who ≡ Ok t → new ≡ after_part_marks d (begin_of who t (d.session who).txid) → (new.session who).txid ≡ Some t
begun-txid d new who t is begun = ap (λ (p : RowPart). (p.session who).txid) begun ∙ by (d.session who).txid refl
  where
    by : (o : Option ℕ) → (d.session who).txid ≡ o → ((after_part_marks d (begin_of who t o)).session who).txid ≡ Some t
    by None e = ap (λ b. (if b then with_txid (Some t) (d.session who) else d.session who).txid) (eq-eqb who who refl)
    by (Some u) e = e ∙ ap (λ r. Some (found_id r)) (sym (ap (own_or_next d) e) ∙ is)

-- and is in its block as before
pub begun-block : (d : RowPart) (who t : ℕ) (o : Option ℕ) → ((after_part_marks d (begin_of who t o)).session who).block ≡ (d.session who).block
begun-block d who t None = ap (λ b. (if b then with_txid (Some t) (d.session who) else d.session who).block) (eq-eqb who who refl)
begun-block d who t (Some own) = refl

-- what is done in the transaction, and its end if it is of one statement
pub part-written : (d one two three : RowPart) (who t : ℕ) (marks : List Mark) → one ≡ after_part_marks d (begin_of who t (d.session who).txid) → two ≡ after_part_marks one marks
    → (two.session who).block ≡ (d.session who).block → three ≡ after_part_marks two (commit_of who t (two.session who).block) → three ≡ after_part_marks d (in_own who t (d.session who) marks)
part-written d one two three who t marks first second same third =
    third ∙ ap (λ block. after_part_marks two (commit_of who t block)) same
    ∙ ap (λ p. after_part_marks p ends) (second ∙ ap (λ p. after_part_marks p marks) first ∙ sym (after-append d begins marks))
    ∙ sym (after-append d (begins ++ marks) ends)
  where
    begins : List Mark
    begins = begin_of who t (d.session who).txid

    ends : List Mark
    ends = commit_of who t (d.session who).block

pub begun-told : (e : EffectsView) (who t : ℕ) (own : Option ℕ) (marks ends : List Mark) → with_effects e (begin_of who t own ++ marks ++ ends) ≡ with_effects e (marks ++ ends)
begun-told e who t None marks ends = refl
begun-told e who t (Some own) marks ends = refl
