-- Calls for nodes that leave the tables of leaves as they are.
use Rattle.std.proofs.Common.{◌≡◌, ℕ, List, [], ◌∷◌, ◌++◌, map, Bool, true, false, refl, not, arith, ◌||◌}
use Rattle.londiste_state.specs.declared.state.TableState.TheVariants.{Absent, InCopy}
use Rattle.sky_model.specs.declared.reply.Reply.TheVariants.{Null}
use Rattle.sky_model.specs.History.{Mark, of_worker, tabled, wrote, noded, set_removed, leaf_added, state_set, copied, applied, within, Past}
use Rattle.sky_model.specs.Copies.{copy_txid}
use Rattle.sky_model.specs.State.{Database, database_of}
use Rattle.sky_model.specs.Outcome.{Outcome, Checked, answers}
use Rattle.sky_model.specs.StepNode.{NodeCall, moving, lists, table_number, may_serve, call_form, node_does}
use Rattle.sky_model.specs.World.{history_in, on_top}
use Rattle.sky_histories.proofs.CopyCalls.{gives-there}
use Rattle.sky_histories.proofs.StatementMarks.{EachMark, each-rest, each-given, when-true, Gives, AnyReply, after, either}
use Rattle.sky_laws_replicas.proofs.SessionsMarks.{is_sessions}
use Rattle.sky_laws_replicas.proofs.CallPasts.{call_marks, called, after_calls}
use Rattle.sky_laws_synced.proofs.Going.{MarkSuits, KeptGoes, suits-step}
use Rattle.sky_model.specs.CallPermits.{CallMarkKinds, may_be_left, kinds_of_call}
use Rattle.sky_laws_replicas.proofs.CallMarks.{gives-call, given_up-then}

-- whether a mark is such a one: no table leaves a set or joins a leaf by it, goes on from a copy, or is copied or written by a worker
abbrev pub is_plain : Mark → Bool
is_plain (noded (set_removed name)) = false
is_plain (noded (leaf_added name)) = false
is_plain (noded (state_set name Absent)) = true
is_plain (noded (state_set name InCopy)) = true
is_plain (noded (state_set name state)) = false
is_plain (noded (copied name under tick)) = false
is_plain (noded (applied pick tick)) = false
is_plain (tabled (wrote of_worker t table key old new)) = false
is_plain mark = true

plain-suits : (past : Past) (e : ℕ) (mark : Mark) → is_plain mark ≡ true → MarkSuits past e mark
plain-suits past e (noded (set_removed name)) is = absurd (cc is)
plain-suits past e (noded (leaf_added name)) is = absurd (cc is)
plain-suits past e (noded (state_set name Absent)) is = tt
plain-suits past e (noded (state_set name InCopy)) is = tt
plain-suits past e (noded (state_set name state)) is = absurd (cc is)
plain-suits past e (noded (copied name under tick)) is = absurd (cc is)
plain-suits past e (noded (applied pick tick)) is = absurd (cc is)
plain-suits past e (tabled (wrote of_worker t table key old new)) is = absurd (cc is)
plain-suits past e mark is = tt

pub kept-mark : (past : Past) (e : ℕ) (mark : Mark) → is_plain mark ≡ true → KeptGoes past → KeptGoes (within e mark ∷ past)
kept-mark past e mark is kept = suits-step past (within e mark) (λ _ _. plain-suits past e mark is) kept

pub kept-marks : (past : Past) (e : ℕ) (marks : List Mark) → EachMark is_plain marks → KeptGoes past → KeptGoes (on_top past (map (within e) marks))
kept-marks past e [] each kept = kept
kept-marks past e (mark ∷ marks) each kept =
    kept-marks (within e mark ∷ past) e marks (each-rest is_plain mark marks each) (kept-mark past e mark (when-true (EachMark is_plain marks) (is_plain mark) each) kept)

-- so are those of sessions
pub sessions-plain : (mark : Mark) → is_sessions mark ≡ true → is_plain mark ≡ true
sessions-plain (noded (set_removed name)) is = absurd (cc is)
sessions-plain (noded (leaf_added name)) is = absurd (cc is)
sessions-plain (noded (state_set name state)) is = absurd (cc is)
sessions-plain (noded (copied name under tick)) is = absurd (cc is)
sessions-plain (noded (applied pick tick)) is = absurd (cc is)
sessions-plain (tabled (wrote of_worker t table key old new)) is = absurd (cc is)
sessions-plain mark is = refl

-- ---- calls

abbrev pub Plain : Checked Outcome → Type 0
Plain c = Gives AnyReply is_plain c

-- kinds of such marks
abbrev pub are_plain : CallMarkKinds → Bool
are_plain k = not (k.unlists || k.adds || k.moves || k.ends_copy || k.applies)

plain-if : (k : CallMarkKinds) → are_plain k ≡ true → (mark : Mark) → may_be_left k mark ≡ true → is_plain mark ≡ true
plain-if k plain (noded (set_removed name)) e = absurd (grind (arith, plain, e))
plain-if k plain (noded (leaf_added name)) e = absurd (grind (arith, plain, e))
plain-if k plain (noded (state_set name state)) e = absurd (grind (arith, plain, e))
plain-if k plain (noded (copied name under tick)) e = absurd (grind (arith, plain, e))
plain-if k plain (noded (applied pick tick)) e = absurd (grind (arith, plain, e))
plain-if k plain (tabled (wrote of_worker t table key old new)) e = absurd (grind (arith, plain, e))
plain-if k plain mark e = refl

-- whether a call leaves them so
abbrev pub is_plain_call : NodeCall → Bool
is_plain_call (moving name InCopy) = true
is_plain_call call = are_plain (kinds_of_call call)

pub plain-lists : (d : Database) (queue table : ℕ) (name : List ℕ) → Plain (lists d queue table name)
plain-lists d queue table name = search (after)

plain-form : (d : Database) (call : NodeCall) → is_plain_call call ≡ true → Plain (call_form d call)
plain-form d (moving name InCopy) e =
    gives-there is_plain (table_number d name) _ (λ table. (tt, given_up-then is_plain (λ n t. refl) (λ n. refl) table name (copy_txid table d.copies) (noded (state_set name InCopy) ∷ []) tt))
plain-form d (moving name state) e = absurd (cc e)
plain-form d call e = gives-call is_plain call (plain-if (kinds_of_call call) e) d

pub plain-does : (d : Database) (call : NodeCall) → is_plain_call call ≡ true → Plain (node_does d call)
plain-does d call e = either AnyReply is_plain (may_serve call d.node) (call_form d call) (answers Null) (plain-form d call e) (tt, tt)

abbrev pub ArePlain : List NodeCall → Type 0
ArePlain [] = Unit {0}
ArePlain (call ∷ calls) = (is_plain_call call ≡ true) × ArePlain calls

pub plain-append : (xs ys : List NodeCall) → ArePlain xs → ArePlain ys → ArePlain (xs ++ ys)
plain-append [] ys all also = also
plain-append (x ∷ xs) ys all also = (all.0, plain-append xs ys all.1 also)

pub kept-call : (past : Past) (d : ℕ) (call : NodeCall) → is_plain_call call ≡ true → KeptGoes past → KeptGoes (called past d call)
kept-call past d call is kept =
    kept-marks past d (call_marks (history_in past d) call) (each-given AnyReply is_plain (node_does (database_of (history_in past d)) call) (plain-does (database_of (history_in past d)) call is)) kept

pub kept-calls : (past : Past) (d : ℕ) (calls : List NodeCall) → ArePlain calls → KeptGoes past → KeptGoes (after_calls past d calls)
kept-calls past d [] all kept = kept
kept-calls past d (call ∷ calls) all kept = kept-calls (called past d call) d calls all.1 (kept-call past d call all.0 kept)
