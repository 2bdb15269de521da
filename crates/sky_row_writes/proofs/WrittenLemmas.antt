-- A write in a session's transaction.
use Rattle.std.proofs.Common.{◌≡◌, ℕ, List, [], ◌∷◌, ◌++◌, Bool, true, false, Option, Some, None, Ok, Err, refl, sym, ◌∙◌, ap}
use Rattle.std.specs.Prelude.{not, ◌&&◌}
use Rattle.sky_val.specs.declared.val.Val.{Val}
use Rattle.sky_model.specs.History.{Mark, of_session, tabled, wrote}
use Rattle.sky_model.specs.Sessions.{Block, outside, inside, failed, Session}
use Rattle.sky_model.specs.State.{RowPart, after_part, after_part_marks}
use Rattle.sky_model.specs.declared.reply.Reply.TheVariants.{Number}
use Rattle.sky_model.specs.declared.reply.Refusal.{Refusal}
use Rattle.sky_model.specs.declared.reply.Refusal.TheVariants.{EventIdsSpent}
use Rattle.sky_model.specs.Outcome.{◌>>=◌, ◌>>◌, refused_if, does_marks}
use Rattle.sky_model.specs.OwnTransaction.{txid_for, begin_of, commit_of, in_own}
use Rattle.sky_model.specs.StepRows.{writes_key}
use Rattle.sky_model.specs.Gates.{Gate, takes_all, gated}
use Rattle.sky_state.specs.Views.{RowStateView}
use Rattle.sky_state.specs.Seen.{places_in}
use Rattle.sky_row_writes.proofs.OwnLemmas.{begun-txid, begun-block}

-- a transaction that gets its id holds what it held
pub holder-begun : (d : RowPart) (who t : ℕ) (own : Option ℕ) → (after_part_marks d (begin_of who t own)).holder ≡ d.holder
holder-begun d who t None = refl
holder-begun d who t (Some u) = refl

-- a key is found where it was, if neither tables nor locks have changed
pub places-kept : (old new : RowStateView) (table : ℕ) (key : List Val) → new.tables ≡ old.tables → new.locks ≡ old.locks → places_in old table key ≡ places_in new table key
places-kept old new table key tables locks = λ i. places_in (record old { tables = sym tables i; locks = sym locks i }) table key

-- a session has its transaction's id after the write
pub owns-written : (d one two : RowPart) (who t table : ℕ) (key : List Val) (old new : Option (List Val)) → txid_for d who ≡ Ok t → one ≡ after_part_marks d (begin_of who t (d.session who).txid)
    → two ≡ after_part one (tabled (wrote (of_session who) t table key old new)) → (two.session who).txid ≡ Some t
owns-written d one two who t table key old new e first second =
    ap (λ (p : RowPart). (p.session who).txid) second ∙ begun-txid d one who t e first

-- and is in its block as before
pub in_block : (d one two : RowPart) (who t table : ℕ) (key : List Val) (old new : Option (List Val)) → one ≡ after_part_marks d (begin_of who t (d.session who).txid)
    → two ≡ after_part one (tabled (wrote (of_session who) t table key old new)) → (two.session who).block ≡ (d.session who).block
in_block d one two who t table key old new first second =
    ap (λ (p : RowPart). (p.session who).block) second ∙ ap (λ (p : RowPart). (p.session who).block) first ∙ begun-block d who t (d.session who).txid

-- the old row isn't part of what is kept
pub same-parts : (d : RowPart) (who t table : ℕ) (key : List Val) (old new : Option (List Val)) (own : Option ℕ) (ends : List Mark)
    → after_part_marks d (begin_of who t own ++ (tabled (wrote (of_session who) t table key None new) ∷ []) ++ ends) ≡ after_part_marks d (begin_of who t own ++ (tabled (wrote (of_session who) t table key old new) ∷ []) ++ ends)
same-parts d who t table key old new None ends = refl
same-parts d who t table key old new (Some own) ends = refl

and-true : (b : Bool) → (b && true) ≡ b
and-true true = refl
and-true false = refl

-- of what a session writes a gate is asked for the write alone
written-takes : {G : Type 0} (gate : Gate G) (g : G) (who t : ℕ) (s : Session) (table : ℕ) (key : List Val) (old new : Option (List Val))
    → takes_all gate g (in_own who t s (tabled (wrote (of_session who) t table key old new) ∷ [])) ≡ gate.has_room g (record { table = table; old = old; new = new })
written-takes gate g who t s table key old new = of s.txid s.block
  where
    of : (o : Option ℕ) (b : Block)
        → takes_all gate g (begin_of who t o ++ (tabled (wrote (of_session who) t table key old new) ∷ []) ++ commit_of who t b) ≡ gate.has_room g (record { table = table; old = old; new = new })
    of None outside = and-true _
    of None inside = and-true _
    of None failed = and-true _
    of (Some own) outside = and-true _
    of (Some own) inside = and-true _
    of (Some own) failed = and-true _

-- what a write does if the gate has room for it
pub gated-has_room : {G : Type 0} (gate : Gate G) (g : G) (d : RowPart) (who t table : ℕ) (key : List Val) (old new : Option (List Val)) → txid_for d who ≡ Ok t
    → gate.has_room g (record { table = table; old = old; new = new }) ≡ true
    → gated gate g (writes_key d who table key old new) ≡ does_marks (Number 1) (in_own who t (d.session who) (tabled (wrote (of_session who) t table key old new) ∷ []))
gated-has_room gate g d who t table key old new is room =
    ap (λ c. gated gate g (c >>= (λ u. does_marks (Number 1) (in_own who u (d.session who) (tabled (wrote (of_session who) u table key old new) ∷ []))))) is
    ∙ ap (λ b. refused_if (not b) EventIdsSpent >> does_marks (Number 1) (in_own who t (d.session who) (tabled (wrote (of_session who) t table key old new) ∷ [])))
    (written-takes gate g who t (d.session who) table key old new ∙ room)

-- if it has none, the write is refused
pub gated-no_room : {G : Type 0} (gate : Gate G) (g : G) (d : RowPart) (who t table : ℕ) (key : List Val) (old new : Option (List Val)) → txid_for d who ≡ Ok t
    → gate.has_room g (record { table = table; old = old; new = new }) ≡ false → gated gate g (writes_key d who table key old new) ≡ Err EventIdsSpent
gated-no_room gate g d who t table key old new is full =
    ap (λ c. gated gate g (c >>= (λ u. does_marks (Number 1) (in_own who u (d.session who) (tabled (wrote (of_session who) u table key old new) ∷ []))))) is
    ∙ ap (λ b. refused_if (not b) EventIdsSpent >> does_marks (Number 1) (in_own who t (d.session who) (tabled (wrote (of_session who) t table key old new) ∷ [])))
    (written-takes gate g who t (d.session who) table key old new ∙ full)

-- and so it is if there is no id for the transaction
pub gated-no_id : {G : Type 0} (gate : Gate G) (g : G) (d : RowPart) (who table : ℕ) (key : List Val) (old new : Option (List Val)) (refusal : Refusal) → txid_for d who ≡ Err refusal
    → gated gate g (writes_key d who table key old new) ≡ Err refusal
gated-no_id gate g d who table key old new refusal is =
    ap (λ c. gated gate g (c >>= (λ u. does_marks (Number 1) (in_own who u (d.session who) (tabled (wrote (of_session who) u table key old new) ∷ []))))) is
