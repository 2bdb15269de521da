-- Where a copy of a table begins, and where it is said that one was copied, the table is being copied in its leaf.
use Rattle.std.proofs.Common.{◌≡◌, ◌||◌, ◌^◌, ℕ, nat_le, List, [], ◌∷◌, ◌++◌, Bool, true, false, Option, Some, None, Ok, subst, refl, if◌then◌else◌, not, arith, ◌||◌}
use Rattle.sky_names.specs.Places.{place_of}
use Rattle.sky_model.specs.declared.reply.Reply.TheVariants.{Done, Null}
use Rattle.sky_model.specs.declared.reply.Refusal.TheVariants.{TxidsSpent}
use Rattle.sky_model.specs.History.{Mark, of_copy, began, noded, copied, History}
use Rattle.sky_model.specs.Transactions.{next_txid}
use Rattle.sky_model.specs.Copies.{copies, copy_txid}
use Rattle.sky_model.specs.Rows.{Write, table_names}
use Rattle.sky_model.specs.Nodes.{node}
use Rattle.sky_model.specs.State.{RowPart, part_of, after_part, database_of}
use Rattle.sky_model.specs.Outcome.{Checked, Outcome, ◌>>=◌, ◌>>◌, refused_if, answers, does_marks, marks_of}
use Rattle.sky_model.specs.Reader.{database_by_history}
use Rattle.sky_model.specs.Settling.{marked}
use Rattle.sky_model.specs.StepCopy.{copy_write, copy_writes, deletions, rows_now, begins_copy}
use Rattle.sky_model.specs.StepNode.{NodeCall, beginning_copy, ending_copy, if_there, may_copy, may_serve, call_form, node_does}
use Rattle.sky_model.specs.Promises.{after_all}
use Rattle.sky_model.specs.DatabaseCalls.{DatabaseCall, served, database_does, database_part}
use Rattle.sky_model.specs.World.{history_in}
use Rattle.sky_model.specs.Calls.{Call, past_of}
use Rattle.sky_histories.proofs.Histories.{histories_are_made_by_own_calls}
use Rattle.sky_histories.proofs.StatementMarks.{EachMark, each-map, each-rest, each-given, when-true, AnyReply}
use Rattle.sky_model.proofs.Cases.{by_test}
use Rattle.sky_model.specs.CallPermits.{CallMarkKinds, may_be_left, kinds_of_call}
use Rattle.sky_laws_replicas.proofs.CallMarks.{gives-call}
use Rattle.sky_laws_replicas.proofs.SessionsMarks.{is_sessions, sessions-does}

-- the table of a number has a name by which it is being copied
pub record IsInCopy (h : History) (table : ℕ) : Type 0 where
  pub name : List ℕ
  pub there : place_of name (table_names h) ≡ Some table
  pub may : may_copy name (node h) ≡ true

-- so it is where a mark comes by which a copy of it begins, or has ended
abbrev pub MarkInCopy : History → Mark → Type 0
MarkInCopy h (began (of_copy table) t) = IsInCopy h table
MarkInCopy h (noded (copied name under tick)) = may_copy name (node h) ≡ true
MarkInCopy h mark = Unit {0}

abbrev pub AllInCopy : History → Type 0
AllInCopy [] = Unit {0}
AllInCopy (mark ∷ h) = MarkInCopy h mark × AllInCopy h

pub in-copy-below : (later : List Mark) (p : History) → AllInCopy (later ++ p) → AllInCopy p
in-copy-below [] p all = all
in-copy-below (mark ∷ later) p all = in-copy-below later p all.1

-- ---- other marks

abbrev is_aside : Mark → Bool
is_aside (began (of_copy table) t) = false
is_aside (noded (copied name under tick)) = false
is_aside mark = true

aside-mark : (h : History) (mark : Mark) → is_aside mark ≡ true → MarkInCopy h mark
aside-mark h (began (of_copy table) t) e = absurd (cc e)
aside-mark h (noded (copied name under tick)) e = absurd (cc e)
aside-mark h mark e = tt

aside-marks : (h : History) (marks : List Mark) → EachMark is_aside marks → AllInCopy h → AllInCopy (marked h marks)
aside-marks h [] each all = all
aside-marks h (mark ∷ marks) each all =
    aside-marks (mark ∷ h) marks (each-rest is_aside mark marks each) (aside-mark h mark (when-true (EachMark is_aside marks) (is_aside mark) each), all)

sessions-aside : (mark : Mark) → is_sessions mark ≡ true → is_aside mark ≡ true
sessions-aside (began (of_copy table) t) e = absurd (cc e)
sessions-aside (noded (copied name under tick)) e = absurd (cc e)
sessions-aside mark e = refl

after-sessions : (h : History) (marks : List Mark) → EachMark is_sessions marks → AllInCopy h → AllInCopy (marked h marks)
after-sessions h marks each all = aside-marks h marks (each-map is_sessions is_aside sessions-aside marks each) all

-- ---- calls for nodes

aside-written : (d : RowPart) (table t : ℕ) (ws : List Write) → EachMark is_aside (copy_writes d table t ws)
aside-written d table t [] = tt
aside-written d table t (w ∷ ws) = aside-written (after_part d (copy_write d table t w)) table t ws

-- kinds of such marks: a copy neither begins nor ends
abbrev are_aside : CallMarkKinds → Bool
are_aside k = not (k.begins_copy || k.ends_copy)

aside-if : (k : CallMarkKinds) → are_aside k ≡ true → (mark : Mark) → may_be_left k mark ≡ true → is_aside mark ≡ true
aside-if k aside (began (of_copy table) t) e = absurd (grind (arith, aside, e))
aside-if k aside (noded (copied name under tick)) e = absurd (grind (arith, aside, e))
aside-if k aside mark e = refl

after-begins : (h : History) (table : ℕ) (o : Option ℕ) → IsInCopy h table → AllInCopy h → AllInCopy (marked h (marks_of (begins_copy (database_of h) table o)))
after-begins h table (Some t) is all = all
after-begins h table None is all = of (nat_le (2 ^ 62) (next_txid h))
  where
    of : (spent : Bool) → AllInCopy (marked h (marks_of ((refused_if spent TxidsSpent >> Ok (next_txid h))
        >>= (λ t. does_marks Done (began (of_copy table) t ∷ copy_writes (after_part (part_of h) (began (of_copy table) t)) table t (deletions (rows_now (part_of h) table)))))))
    of true = all
    of false =
        let ws : List Write = deletions (rows_now (part_of h) table) in
        aside-marks (began (of_copy table) (next_txid h) ∷ h) (copy_writes (after_part (part_of h) (began (of_copy table) (next_txid h))) table (next_txid h) ws)
        (aside-written (after_part (part_of h) (began (of_copy table) (next_txid h))) table (next_txid h) ws) (is, all)

after-there : {A : Type 0} (h : History) (o : Option A) (f : A → Checked Outcome) → AllInCopy h → ((a : A) → o ≡ Some a → AllInCopy (marked h (marks_of (f a)))) → AllInCopy (marked h (marks_of (if_there o f)))
after-there h None f all also = all
after-there h (Some a) f all also = also a refl

after-copying : (h : History) (call : NodeCall) → may_serve call (node h) ≡ true → are_aside (kinds_of_call call) ≡ false → AllInCopy h → AllInCopy (marked h (marks_of (call_form (database_of h) call)))
after-copying h (beginning_copy name) may e all =
    after-there h (place_of name (table_names h)) _ all (λ table there. after-begins h table (copy_txid table (copies h)) (record { name = name; there = there; may = may }) all)
after-copying h (ending_copy name under tick) may e all = after-there h (place_of name (table_names h)) _ all (λ table _. after-there h (copy_txid table (copies h)) _ all (λ t _. (may, (tt, all))))
after-copying h _ may e all = absurd (cc e)

after-call : (h : History) (call : NodeCall) → may_serve call (node h) ≡ true → AllInCopy h → AllInCopy (marked h (marks_of (call_form (database_of h) call)))
after-call h call may all =
    by_test (λ b. are_aside (kinds_of_call call) ≡ b → AllInCopy (marked h (marks_of (call_form (database_of h) call)))) (are_aside (kinds_of_call call))
    (λ _ aside. aside-marks h (marks_of (call_form (database_of h) call)) (each-given AnyReply is_aside (call_form (database_of h) call) (gives-call is_aside call (aside-if (kinds_of_call call) aside) (database_of h))) all)
    (λ _ copies. after-copying h call may copies all) refl

after-node : (h : History) (call : NodeCall) → AllInCopy h → AllInCopy (marked h (marks_of (node_does (database_of h) call)))
after-node h call all =
    by_test (λ b. AllInCopy (marked h (marks_of (if b then call_form (database_of h) call else answers Null)))) (may_serve call (node h)) (λ may. after-call h call may all) (λ _. all)

-- ---- all calls

after-does : (h : History) (call : DatabaseCall) → AllInCopy h → AllInCopy (marked h (database_does database_by_history h call).marks)
after-does h (served call) all = after-node h call all
after-does h call all = after-sessions h (database_does database_by_history h call).marks (sessions-does h call refl) all

in-copy-calls : (calls : List DatabaseCall) → AllInCopy (after_all database_part calls)
in-copy-calls [] = tt
in-copy-calls (call ∷ calls) = after-does (after_all database_part calls) call (in-copy-calls calls)

pub in-copy-past : (calls : List Call) (database : ℕ) → AllInCopy (history_in (past_of calls) database)
in-copy-past calls database = let made = histories_are_made_by_own_calls calls database in subst AllInCopy made.make (in-copy-calls made.own_calls)
