-- Each hold of a database is that of what a worker has in hand: what the moves of workers, and all other facts, leave of it.
use Rattle.std.proofs.Common.{arith, ◌≡◌, ℕ, ◌==◌, ◌^◌, nat_le, nat_lt, List, [], ◌∷◌, ◌++◌, map, length, Bool, true, false, not, ◌||◌, Option, Some, None, Ok, IfOk, option_map, option_and_then, refl, sym, ap, subst, ◌∙◌, if◌then◌else◌}
use Rattle.std.specs.List.{list_any}
use Rattle.std.proofs.lemmas.Bool.{eqb-true}
use Rattle.std.proofs.lemmas.List.Folds.{list_any-append}
use Rattle.sky_val.specs.declared.val.Val.{Val}
use Rattle.sky_val.specs.Entries.{Entries}
use Rattle.sky_txid.specs.Snapshot.{SnapshotView}
use Rattle.sky_model.specs.declared.reply.Reply.TheVariants.{Done, Null}
use Rattle.sky_model.specs.declared.reply.Refusal.TheVariants.{IdsSpent, TooMany, TxidsSpent}
use Rattle.sky_model.specs.declared.reply.Limit.TheVariants.{Consumers}
use Rattle.sky_model.specs.History.{Mark, of_copy, noded, hold_begun, hold_ended, History, Fact, within, node_made, in_hand, Past}
use Rattle.sky_model.specs.Hands.{CopyHand, of_copy}
use Rattle.sky_model.specs.Transactions.{next_txid, snapshot}
use Rattle.sky_model.specs.Copies.{copies, copy_txid, Hold, holds, without_hold, least_free}
use Rattle.sky_model.specs.Nodes.{node}
use Rattle.sky_model.specs.State.{part_of, Database, database_of}
use Rattle.sky_model.specs.ShownRows.{snapshot_now}
use Rattle.sky_model.specs.Outcome.{Checked, ◌>>=◌, ◌>>◌, refused_if, answers, does_marks, marks_of}
use Rattle.sky_model.specs.StepConsumer.{sub_ids_spent}
use Rattle.sky_model.specs.StepNode.{NodeCall, joining, parting, beginning_copy, copying_rows, ending_copy, holding, letting_go, is_full, may_copy, node_does}
use Rattle.sky_model.specs.WorkerMoves.{Move, behind_calls}
use Rattle.sky_model.specs.CopyMoves.{piece_size, held_snapshot, rows_from, rows_of, last_key, copies_piece, next_piece, copy_consumer, first_hand, starts_copy, copy_running, under_way, continues, starts_or_continues, lets_go_for}
use Rattle.sky_model.specs.WorkersOfWorld.{move_facts}
use Rattle.sky_model.specs.Settling.{marked}
use Rattle.sky_model.specs.World.{world_of, history_in, on_top}
use Rattle.sky_histories.proofs.Legal.{Fine}
use Rattle.sky_histories.proofs.Histories.{AllLegal}
use Rattle.sky_histories.proofs.StatementMarks.{EachMark, each-rest, when-true}
use Rattle.sky_model.proofs.Cases.{by_test, by_same}
use Rattle.sky_laws_replicas.specs.LawsOfReplicas.{copy_in_hand}
use Rattle.sky_laws_replicas.proofs.NodeNames.{source_of}
use Rattle.sky_laws_replicas.proofs.HandsAt.{is_at, AreOne, one-at, at-itself, hand-is}
use Rattle.sky_laws_replicas.proofs.Copying.{copy-found}
use Rattle.sky_laws_replicas.proofs.Keeping.{legal-before, fine-within, Noded, noded-within, source-within, source-made, Copying, Keeps, Kept, keeps_copies, FactFits, FactsFit, made-noded, handed-same}
use Rattle.sky_laws_replicas.proofs.Others.{each_table, other_than, legal-under}
use Rattle.sky_model.specs.CallPermits.{CallMarkKinds, may_be_left, kinds_of_call}
use Rattle.sky_laws_replicas.proofs.CallMarks.{each-does}
use Rattle.sky_laws_replicas.proofs.CallPasts.{call_marks, called, after_calls, on-move, history-called}
use Rattle.sky_laws_replicas.proofs.Sources.{IsAlike}
use Rattle.sky_laws_replicas.proofs.CopySteps.{StillFrom, copy_handed, copy-again}
use Rattle.sky_laws_replicas.proofs.KeptMoves.{last_move, next_move, still-called, number-is}

-- whether a number is that of a hold
abbrev pub is_held : ℕ → List Hold → Bool
is_held number hs = list_any (λ (x : Hold). x.number == number) hs

-- who has a hold in hand: the worker of one of these tables, or else it is the own hold of one worker, in the database of its provider
pub data Holder (among : ℕ → List ℕ → Bool) (p : ℕ) (own : Option ℕ) (past : Past) (r number : ℕ) : Type 0 where
  others : (e : ℕ) (other : List ℕ) (hand : CopyHand) → among e other ≡ true → copy_in_hand past e other ≡ Some hand → source_of past e ≡ Some r → hand.hold ≡ number → Holder among p own past r number
  owns : r ≡ p → own ≡ Some number → Holder among p own past r number

-- each hold has one
pub record Held (among : ℕ → List ℕ → Bool) (p : ℕ) (own : Option ℕ) (past : Past) : Type 0 where
  pub all_noded : Noded past
  pub holders : (r number : ℕ) → is_held number (holds (history_in past r)) ≡ true → Holder among p own past r number

abbrev pub KeptHeld : (ℕ → List ℕ → Bool) → ℕ → Option ℕ → Past → Type 0
KeptHeld among p own past = AllLegal past → Held among p own past

-- all of them are those of tables
abbrev pub AllHeld : Past → Type 0
AllHeld past = KeptHeld each_table 0 None past

-- ---- marks by which no snapshot is held

abbrev holds_no_more : Mark → Bool
holds_no_more (noded (hold_begun number)) = false
holds_no_more mark = true

held-less : (number other : ℕ) (hs : List Hold) → is_held number (without_hold other hs) ≡ true → is_held number hs ≡ true
held-less number other [] is = is
held-less number other (x ∷ hs) is = grind (arith, held-less number other hs, is)

held-before : (h : History) (mark : Mark) (number : ℕ) → holds_no_more mark ≡ true → is_held number (holds (mark ∷ h)) ≡ true → is_held number (holds h) ≡ true
held-before h (noded (hold_begun other)) number e is = absurd (cc e)
held-before h (noded (hold_ended other)) number e is = held-less number other (holds h) is
held-before h mark number e is = is

-- a holder of one past is one of another, in which the workers have the same in hand
holder-same : {among : ℕ → List ℕ → Bool} {p : ℕ} {own : Option ℕ} {r number : ℕ} (past now : Past) → ((e : ℕ) (other : List ℕ) → copy_in_hand now e other ≡ copy_in_hand past e other)
    → ((e q : ℕ) → source_of past e ≡ Some q → source_of now e ≡ Some q) → Holder among p own past r number → Holder among p own now r number
holder-same {r = r} past now same still (others e other hand is has from number_is) = others e other hand is (same e other ∙ has) (still e r from) number_is
holder-same past now same still (owns at is) = owns at is

module _ (among : ℕ → List ℕ → Bool) (p : ℕ) (own : Option ℕ) where
  held-within : (past : Past) (e : ℕ) (mark : Mark) → holds_no_more mark ≡ true → KeptHeld among p own past → KeptHeld among p own (within e mark ∷ past)
  held-within past e mark none kept after =
      let fine : Fine (history_in past e) mark = fine-within past e mark after in
      let k : Held among p own past = kept (legal-before past (within e mark) after) in
      record {
        all_noded = noded-within past e mark fine k.all_noded;
        holders = λ r number is.
            holder-same past (within e mark ∷ past) (λ f other. refl) (λ f q from. source-within past e mark f q k.all_noded fine from)
            (k.holders r number
            (by_same (λ b. is_held number (holds (if b then mark ∷ history_in past r else history_in past r)) ≡ true → is_held number (holds (history_in past r)) ≡ true) e r
            (λ _ now. held-before (history_in past r) mark number none now) (λ _ now. now) is));
      }

  held-marks : (past : Past) (e : ℕ) (marks : List Mark) → EachMark holds_no_more marks → KeptHeld among p own past → KeptHeld among p own (on_top past (map (within e) marks))
  held-marks past e [] each kept = kept
  held-marks past e (mark ∷ marks) each kept =
      held-marks (within e mark ∷ past) e marks (each-rest holds_no_more mark marks each)
      (held-within past e mark (when-true (EachMark holds_no_more marks) (holds_no_more mark) each) kept)

-- ---- other facts

quiet-holds : (mark : Mark) → keeps_copies mark ≡ true → holds_no_more mark ≡ true
quiet-holds (noded (hold_begun number)) e = absurd (cc e)
quiet-holds mark e = refl

held-step : (past : Past) (fact : Fact) → FactFits past fact → AllHeld past → AllHeld (fact ∷ past)
held-step past (within e mark) quiet kept after = held-within each_table 0 None past e mark (quiet-holds mark quiet) kept after
held-step past (node_made e) has kept after =
    let k : Held each_table 0 None past = kept (legal-before past (node_made e) after) in
    record {
      all_noded = made-noded past e has k.all_noded;
      holders = λ r number is. holder-same past (node_made e ∷ past) (λ f other. refl) (λ f q from. source-made past e f q from) (k.holders r number is);
    }
held-step past (in_hand e other hand) same kept after =
    let k : Held each_table 0 None past = kept (legal-before past (in_hand e other hand) after) in
    record {
      all_noded = k.all_noded;
      holders = λ r number is. holder-same past (in_hand e other hand ∷ past) (handed-same past e other hand same) (λ f q from. from) (k.holders r number is);
    }
held-step past _ fits kept after =
    let k : Held each_table 0 None past = kept (λ d. after d) in
    record { all_noded = k.all_noded; holders = λ r number is. holder-same past _ (λ f other. refl) (λ f q from. from) (k.holders r number is) }

pub held-steps : (past : Past) (facts : List Fact) → FactsFit past facts → AllHeld past → AllHeld (on_top past facts)
held-steps past [] fit kept = kept
held-steps past (fact ∷ facts) fit kept = held-steps (fact ∷ past) facts fit.1 (held-step past fact fit.0 kept)

-- ---- calls for nodes

none-if : (k : CallMarkKinds) → k.holds ≡ false → (mark : Mark) → may_be_left k mark ≡ true → holds_no_more mark ≡ true
none-if k none (noded (hold_begun number)) e = absurd (cc (sym none ∙ e))
none-if k none mark e = refl

-- the calls of a move but the one by which a snapshot is held
abbrev pub IsOther : NodeCall → Type 0
IsOther holding = ⊥
IsOther call = Unit {0}

none-does : (d : Database) (call : NodeCall) → IsOther call → EachMark holds_no_more (marks_of (node_does d call))
none-does d holding is = absurd is
none-does d call is = each-does holds_no_more call (none-if (kinds_of_call call) refl) d

abbrev pub AreOther : List NodeCall → Type 0
AreOther [] = Unit {0}
AreOther (call ∷ calls) = IsOther call × AreOther calls

module _ (among : ℕ → List ℕ → Bool) (p : ℕ) (own : Option ℕ) where
  held-call : (past : Past) (e : ℕ) (call : NodeCall) → IsOther call → KeptHeld among p own past → KeptHeld among p own (called past e call)
  held-call past e call is kept =
      held-marks among p own past e (call_marks (history_in past e) call) (none-does (database_of (history_in past e)) call is) kept

  held-calls : (past : Past) (e : ℕ) (calls : List NodeCall) → AreOther calls → KeptHeld among p own past → KeptHeld among p own (after_calls past e calls)
  held-calls past e [] are kept = kept
  held-calls past e (call ∷ calls) are kept = held-calls (called past e call) e calls are.1 (held-call past e call are.0 kept)

-- ---- the own hold

none-left : (number : ℕ) (held : List Hold) → list_any (λ (x : Hold). x.number == number) (without_hold number held) ≡ false
none-left number [] = refl
none-left number (x ∷ held) =
    by_test (λ b. list_any (λ (y : Hold). y.number == number) (if not b then x ∷ without_hold number held else without_hold number held) ≡ false) (x.number == number)
    (λ _. none-left number held) (λ other. ap (λ b. b || list_any (λ (y : Hold). y.number == number) (without_hold number held)) other ∙ none-left number held)

pub let-go : (h : History) (number : ℕ) → list_any (λ (x : Hold). x.number == number) (holds (marked h (call_marks h (letting_go number)))) ≡ false
let-go h number =
    by_test (λ b. list_any (λ (x : Hold). x.number == number) (holds (marked h (marks_of (if b then does_marks Done (noded (hold_ended number) ∷ []) else answers Null)))) ≡ false)
    (list_any (λ (x : Hold). x.number == number) (holds h)) (λ _. none-left number (holds h)) (λ none. none)

-- it is let go
lets-held : (among : ℕ → List ℕ → Bool) (p number : ℕ) (past : Past) → KeptHeld among p (Some number) past → KeptHeld among p None (called past p (letting_go number))
lets-held among p number past kept after =
    let k : Held among p (Some number) now = held-call among p (Some number) past p (letting_go number) tt kept after in record { all_noded = k.all_noded; holders = λ r n is. of r n is (k.holders r n is) }
  where
    now : Past
    now = called past p (letting_go number)

    gone : is_held number (holds (history_in now p)) ≡ false
    gone = ap (λ g. is_held number (holds g)) (history-called past p (letting_go number)) ∙ let-go (history_in past p) number

    of : (r n : ℕ) → is_held n (holds (history_in now r)) ≡ true → Holder among p (Some number) now r n → Holder among p None now r n
    of r n is (others e other hand mine has from number_is) = others e other hand mine has from number_is
    of r n is (owns at own) =
        let one : number ≡ n = cc own in
        absurd (cc (sym gone ∙ ap (λ m. is_held m (holds (history_in now p))) one ∙ ap (λ q. is_held n (holds (history_in now q))) (sym at) ∙ is))

-- it begins
begins-held : (among : ℕ → List ℕ → Bool) (p : ℕ) (past : Past) → KeptHeld among p None past → KeptHeld among p (Some (least_free (map Hold.number (holds (history_in past p))))) (called past p holding)
begins-held among p past kept after = record {
  all_noded = noded-within past p mark fine k.all_noded;
  holders = λ r n is.
      by_same (λ b. is_held n (holds (if b then mark ∷ history_in past r else history_in past r)) ≡ true → Holder among p (Some number) (within p mark ∷ past) r n) p r
      (λ same now. here r n same now) (λ _ now. old r n now) is;
}
  where
    number : ℕ
    number = least_free (map Hold.number (holds (history_in past p)))

    mark : Mark
    mark = noded (hold_begun number)

    fine : Fine (history_in past p) mark
    fine = fine-within past p mark after

    k : Held among p None past
    k = kept (legal-before past (within p mark) after)

    old : (r n : ℕ) → is_held n (holds (history_in past r)) ≡ true → Holder among p (Some number) (within p mark ∷ past) r n
    old r n is = of (k.holders r n is)
      where
        of : Holder among p None past r n → Holder among p (Some number) (within p mark ∷ past) r n
        of (others e other hand mine has from number_is) = others e other hand mine has (source-within past p mark e r k.all_noded fine from) number_is
        of (owns at none) = absurd (cc none)

    here : (r n : ℕ) → p ≡ r → is_held n (holds (history_in past r) ++ record { number = number; snapshot = snapshot (history_in past r) } ∷ []) ≡ true → Holder among p (Some number) (within p mark ∷ past) r n
    here r n same now =
        by_test (λ b. is_held n (holds (history_in past r)) ≡ b → (b || (number == n || false)) ≡ true → Holder among p (Some number) (within p mark ∷ past) r n) (is_held n (holds (history_in past r)))
        (λ _ there _. old r n there) (λ _ _ last. owns (sym same) (ap Some (eqb-true number n (grind (arith, last))))) refl
        (sym (list_any-append (λ (x : Hold). x.number == n) (holds (history_in past r)) (record { number = number; snapshot = snapshot (history_in past r) } ∷ [])) ∙ now)

-- ---- what the own worker has in hand

-- a hold that isn't the own one is another worker's
own-held : (d p : ℕ) (name : List ℕ) (past : Past) → source_of past d ≡ Some p → (o : Option CopyHand) → copy_in_hand past d name ≡ o → AllHeld past → KeptHeld (other_than d name) p (option_map CopyHand.hold o) past
own-held d p name past from o has kept legal = record { all_noded = k.all_noded; holders = λ r n is. of r n (k.holders r n is) }
  where
    k : Held each_table 0 None past
    k = kept legal

    own : (r n : ℕ) (hand : CopyHand) → copy_in_hand past d name ≡ Some hand → source_of past d ≡ Some r → hand.hold ≡ n → Holder (other_than d name) p (option_map CopyHand.hold o) past r n
    own r n hand mine comes number_is =
        let one : Some r ≡ Some p = sym comes ∙ from in owns (cc one) (ap (option_map CopyHand.hold) (sym has ∙ mine) ∙ ap Some number_is)

    of : (r n : ℕ) → Holder each_table 0 None past r n → Holder (other_than d name) p (option_map CopyHand.hold o) past r n
    of r n (owns at none) = absurd (cc none)
    of r n (others e other hand _ mine comes number_is) =
        by_test (λ b. is_at d name e other ≡ b → Holder (other_than d name) p (option_map CopyHand.hold o) past r n) (is_at d name e other)
        (λ _ at. let one : AreOne d name e other = one-at d name e other at in
        own r n hand (ap (copy_in_hand past d) one.table ∙ ap (λ q. copy_in_hand past q other) one.database ∙ mine) (ap (source_of past) one.database ∙ comes) number_is)
        (λ _ no. others e other hand (ap not no) mine comes number_is) refl

isnt : (b : Bool) → not b ≡ true → b ≡ false
isnt true e = absurd (cc e)
isnt false e = refl

-- it has nothing
puts-held : (d p : ℕ) (name : List ℕ) (past : Past) → KeptHeld (other_than d name) p None past → AllHeld (in_hand d name None ∷ past)
puts-held d p name past kept after = record { all_noded = k.all_noded; holders = λ r n is. of r n (k.holders r n is) }
  where
    k : Held (other_than d name) p None past
    k = kept (legal-before past (in_hand d name None) after)

    of : (r n : ℕ) → Holder (other_than d name) p None past r n → Holder each_table 0 None (in_hand d name None ∷ past) r n
    of r n (owns at none) = absurd (cc none)
    of r n (others e other hand differ has comes number_is) =
        others e other hand refl (hand-is past d name None e other ∙ ap (λ b. if b then None else copy_in_hand past e other) (isnt (is_at d name e other) differ) ∙ has) comes number_is

-- or this
takes-held : (d p : ℕ) (name : List ℕ) (hand : CopyHand) (past : Past) → (AllLegal past → source_of past d ≡ Some p) → KeptHeld (other_than d name) p (Some hand.hold) past → AllHeld (in_hand d name (Some (of_copy hand)) ∷ past)
takes-held d p name hand past from kept after = record { all_noded = k.all_noded; holders = λ r n is. of r n (k.holders r n is) }
  where
    legal : AllLegal past
    legal = legal-before past (in_hand d name (Some (of_copy hand))) after

    k : Held (other_than d name) p (Some hand.hold) past
    k = kept legal

    of : (r n : ℕ) → Holder (other_than d name) p (Some hand.hold) past r n → Holder each_table 0 None (in_hand d name (Some (of_copy hand)) ∷ past) r n
    of r n (owns at own) =
        others d name hand refl (hand-is past d name (Some (of_copy hand)) d name ∙ ap (λ b. if b then Some hand else copy_in_hand past d name) (at-itself d name)) (from legal ∙ ap Some (sym at)) (cc own)
    of r n (others e other theirs differ has comes number_is) =
        others e other theirs refl (hand-is past d name (Some (of_copy hand)) e other ∙ ap (λ b. if b then Some hand else copy_in_hand past e other) (isnt (is_at d name e other) differ) ∙ has) comes number_is

-- ---- moves

abbrev pub MoveHeld : {H : Type 0} → Past → (p d : ℕ) → (Option H → Fact) → Move H → Type 0
MoveHeld past p d handed move = AllHeld (on_top past (move_facts (world_of past) p d handed move))

pub move-held : {H : Type 0} (past : Past) (p d : ℕ) (handed : Option H → Fact) (move : Move H) → AllHeld (handed move.hand ∷ after_calls (after_calls past p move.provider) d move.replica) → MoveHeld past p d handed move
move-held past p d handed move held = subst AllHeld (sym (on-move past p d handed move)) held

-- the provider's database stays the same
still-calls : (past : Past) (e : ℕ) (calls : List NodeCall) (d p : ℕ) → (AllLegal past → StillFrom past d p) → AllLegal (after_calls past e calls) → StillFrom (after_calls past e calls) d p
still-calls past e [] d p from = from
still-calls past e (call ∷ calls) d p from = still-calls (called past e call) e calls d p (still-called past e call d p from)

still-from : (past : Past) (d p : ℕ) → source_of past d ≡ Some p → AllHeld past → AllLegal past → StillFrom past d p
still-from past d p from held legal = record { all = (held legal).all_noded; from = from }

lets-go-for : (d p : ℕ) (name : List ℕ) (past : Past) (o : Option CopyHand) → KeptHeld (other_than d name) p (option_map CopyHand.hold o) past → KeptHeld (other_than d name) p None (after_calls past p (lets_go_for o))
lets-go-for d p name past None kept = kept
lets-go-for d p name past (Some hand) kept = lets-held (other_than d name) p hand.hold past kept

-- one after which the worker has nothing in hand
pub down-held : (past : Past) (d p : ℕ) (name : List ℕ) (o : Option CopyHand) (more replica : List NodeCall) → AreOther more → AreOther replica → copy_in_hand past d name ≡ o → source_of past d ≡ Some p → AllHeld past
    → AllHeld (in_hand d name None ∷ after_calls (after_calls (after_calls past p (lets_go_for o)) p more) d replica)
down-held past d p name o more replica more_are replica_are has from held =
    let first : Past = after_calls past p (lets_go_for o) in
    let second : Past = after_calls first p more in
    puts-held d p name (after_calls second d replica)
    (held-calls (other_than d name) p None second d replica replica_are
    (held-calls (other_than d name) p None first p more more_are (lets-go-for d p name past o (own-held d p name past from o has held))))

-- a copy that is in hand goes on
continue-held : (past : Past) (d p : ℕ) (name : List ℕ) (hand : CopyHand) (under : SnapshotView) (piece : Entries (List Val)) → copy_in_hand past d name ≡ Some hand → source_of past d ≡ Some p → AllHeld past
    → MoveHeld past p d (copy_handed d name) (copies_piece name under hand piece)
continue-held past d p name hand under piece has from held =
    by_test (λ b. MoveHeld past p d (copy_handed d name) (if b then last_move name under hand piece else next_move name hand piece)) (nat_lt (length piece) piece_size)
    (λ _. move-held past p d (copy_handed d name) (last_move name under hand piece)
    (down-held past d p name (Some hand) [] (copying_rows name (rows_of piece) ∷ ending_copy name under hand.tick ∷ []) tt (tt, (tt, tt)) has from held))
    (λ _. move-held past p d (copy_handed d name) (next_move name hand piece)
    (takes-held d p name (record hand { last = last_key hand.last piece }) (called past d (copying_rows name (rows_of piece)))
    (λ after. (still-called past d (copying_rows name (rows_of piece)) d p (still-from past d p from held) after).from)
    (held-call (other_than d name) p (Some hand.hold) past d (copying_rows name (rows_of piece)) tt (own-held d p name past from (Some hand) has held))))

-- a copy begins
module _ (past : Past) (d p : ℕ) (name consumer : List ℕ) (legal : AllLegal past) (k : Keeps each_table past) (held : AllHeld past)
    (alike : IsAlike past d p name) (may : may_copy name (node (history_in past d)) ≡ true) (none : copy_txid alike.table (copies (history_in past d)) ≡ None)
    (unspent : nat_le (2 ^ 62) (next_txid (history_in past d)) ≡ false) where
  abbrev hand : CopyHand
  hand = first_hand (database_of (history_in past p))

  abbrev second : Past
  second = called (called past p (parting consumer)) p (joining consumer)

  abbrev third : Past
  third = called second p holding

  nothing : (o : Option CopyHand) → copy_in_hand past d name ≡ o → o ≡ None
  nothing None has = refl
  nothing (Some x) has =
      let c : Copying past d name x = k.copying d name x refl has in
      let one : Some c.table ≡ Some alike.table = sym c.here.named ∙ alike.here in
      let same : c.table ≡ alike.table = cc one in
      absurd (cc (sym (copy-found (history_in past d) (legal d) c.table c.t c.here.runs) ∙ ap (λ n. copy_txid n (copies (history_in past d))) same ∙ none))

  held-third : KeptHeld (other_than d name) p (Some hand.hold) third
  held-third =
      subst (λ n. KeptHeld (other_than d name) p (Some n) third) (number-is past d p name consumer legal k alike may none unspent)
      (begins-held (other_than d name) p second
      (held-calls (other_than d name) p None past p (parting consumer ∷ joining consumer ∷ []) (tt, (tt, tt)) (own-held d p name past alike.source.from None (nothing (copy_in_hand past d name) refl) held)))

  from-third : AllLegal third → StillFrom third d p
  from-third = still-calls past p (parting consumer ∷ joining consumer ∷ holding ∷ []) d p (still-from past d p alike.source.from held)

  begin-held : (under : SnapshotView) (piece : Entries (List Val))
      → MoveHeld past p d (copy_handed d name) (behind_calls (parting consumer ∷ joining consumer ∷ holding ∷ []) (beginning_copy name ∷ []) (copies_piece name under hand piece))
  begin-held under piece =
      by_test (λ b. MoveHeld past p d (copy_handed d name) (behind_calls (parting consumer ∷ joining consumer ∷ holding ∷ []) (beginning_copy name ∷ []) (if b then last_move name under hand piece else next_move name hand piece)))
      (nat_lt (length piece) piece_size)
      (λ _. move-held past p d (copy_handed d name) (behind_calls (parting consumer ∷ joining consumer ∷ holding ∷ []) (beginning_copy name ∷ []) (last_move name under hand piece))
      (let ending : List NodeCall = beginning_copy name ∷ copying_rows name (rows_of piece) ∷ ending_copy name under hand.tick ∷ [] in
      puts-held d p name (after_calls (called third p (letting_go hand.hold)) d ending)
      (held-calls (other_than d name) p None (called third p (letting_go hand.hold)) d ending (tt, (tt, (tt, tt))) (lets-held (other_than d name) p hand.hold third held-third))))
      (λ _. move-held past p d (copy_handed d name) (behind_calls (parting consumer ∷ joining consumer ∷ holding ∷ []) (beginning_copy name ∷ []) (next_move name hand piece))
      (let going : List NodeCall = beginning_copy name ∷ copying_rows name (rows_of piece) ∷ [] in
      takes-held d p name (record hand { last = last_key hand.last piece }) (after_calls third d going) (λ after. (still-calls third d going d p from-third after).from)
      (held-calls (other_than d name) p (Some hand.hold) third d going (tt, (tt, tt)) held-third)))

-- ---- the statement

-- what holds if it isn't refused
abbrev IfHeld : Past → (p d : ℕ) → List ℕ → Checked (Move CopyHand) → Type 0
IfHeld past p d name c = IfOk c (λ move. MoveHeld past p d (copy_handed d name) move)

-- nothing but what is printed
prints-held : (past : Past) (p d : ℕ) (name : List ℕ) (hand : Option CopyHand) → copy_in_hand past d name ≡ hand → AllHeld past → AllHeld (copy_handed d name hand ∷ past)
prints-held past p d name hand same held = held-step past (copy_handed d name hand) (same ∙ sym (copy-again hand)) held

starts-held : (past : Past) (d p : ℕ) (name : List ℕ) → Kept each_table past → AllHeld past → (alike : IsAlike past d p name) → may_copy name (node (history_in past d)) ≡ true
    → copy_txid alike.table (copies (history_in past d)) ≡ None → IfHeld past p d name (starts_copy (database_of (history_in past p)) (database_of (history_in past d)) name)
starts-held past d p name kept held alike may none =
    of (is_full there consumer) (sub_ids_spent there) (nat_le (2 ^ 62) (next_txid (history_in past d))) refl
  where
    there : Database
    there = database_of (history_in past p)

    consumer : List ℕ
    consumer = copy_consumer (node (history_in past d))

    under : SnapshotView
    under = snapshot_now (part_of (history_in past p))

    move : Move CopyHand
    move = behind_calls (parting consumer ∷ joining consumer ∷ holding ∷ []) (beginning_copy name ∷ []) (next_piece there name under (first_hand there))

    of : (full spent last : Bool) → nat_le (2 ^ 62) (next_txid (history_in past d)) ≡ last
        → IfHeld past p d name (refused_if full (TooMany Consumers) >> (refused_if spent IdsSpent >> ((refused_if last TxidsSpent >> Ok (next_txid (history_in past d))) >>= (λ t. Ok move))))
    of true spent last is = tt
    of false true last is = tt
    of false false true is = tt
    of false false false is = λ after.
        let legal : AllLegal past = legal-under past (move_facts (world_of past) p d (copy_handed d name) move) after in
        begin-held past d p name consumer legal (kept legal) held alike may none is under (rows_from there name under (first_hand there).last piece_size) after

pub copy-held : (past : Past) (d p : ℕ) (name : List ℕ) → Kept each_table past → AllHeld past → IsAlike past d p name → may_copy name (node (history_in past d)) ≡ true
    → IfHeld past p d name (starts_or_continues (database_of (history_in past p)) (database_of (history_in past d)) name (copy_in_hand past d name) (copy_running (database_of (history_in past d)) name))
copy-held past d p name kept all alike may = running may (copy_running (database_of (history_in past d)) name) refl
  where
    there : Database
    there = database_of (history_in past p)

    going : (hand : Option CopyHand) → copy_in_hand past d name ≡ hand → (o : Option (CopyHand × SnapshotView)) → under_way there hand ≡ o → IfHeld past p d name (continues there name hand o)
    going hand has None way = prints-held past p d name hand has all
    going None has (Some x) way = absurd (cc way)
    going (Some hand) has (Some x) way = held (held_snapshot there hand.hold) way
      where
        held : (o : Option SnapshotView) → option_map (λ snapshot. (hand, snapshot)) o ≡ Some x → MoveHeld past p d (copy_handed d name) (next_piece there name x.1 x.0)
        held None e = absurd (cc e)
        held (Some under) e =
            let one : (hand, under) ≡ x = cc e in
            subst (λ (y : CopyHand × SnapshotView). MoveHeld past p d (copy_handed d name) (next_piece there name y.1 y.0)) one
            (continue-held past d p name hand under (rows_from there name under hand.last piece_size) has alike.source.from all)

    running : may_copy name (node (history_in past d)) ≡ true → (o : Option ℕ) → copy_running (database_of (history_in past d)) name ≡ o
        → IfHeld past p d name (starts_or_continues there (database_of (history_in past d)) name (copy_in_hand past d name) o)
    running may None is = starts-held past d p name kept all alike may (sym (ap (λ o. option_and_then (λ t. copy_txid t (copies (history_in past d))) o) alike.here) ∙ is)
    running may (Some t) is = going (copy_in_hand past d name) refl (under_way there (copy_in_hand past d name)) refl
