-- What `copy_step` keeps.
use Rattle.std.proofs.Common.{arith, ◌≡◌, ℕ, ◌==◌, ◌^◌, nat_le, nat_lt, List, [], ◌∷◌, ◌++◌, map, length, take, drop, Bool, true, false, ◌||◌, Option, Some, None, Ok, IfOk, option_map, option_and_then, unwrap_or, find, append-nil, take-append-drop, refl, sym, ap, subst, ◌∙◌, if◌then◌else◌}
use Rattle.std.specs.List.{list_any}
use Rattle.std.proofs.lemmas.Bool.Decides.{nat_tests}
use Rattle.sky_val.specs.declared.val.Val.{Val}
use Rattle.sky_val.specs.Entries.{Entries, is_in_order}
use Rattle.sky_names.specs.Places.{place_of}
use Rattle.sky_txid.specs.Ids.{contains}
use Rattle.sky_txid.specs.Snapshot.{SnapshotView}
use Rattle.londiste_state.specs.declared.state.TableState.TheVariants.{CatchingUp}
use Rattle.sky_model.specs.declared.reply.Reply.TheVariants.{Done, Null, TableMoved, RowsCopied, AwaitsTable}
use Rattle.sky_model.specs.declared.reply.Refusal.TheVariants.{IdsSpent, TooMany, TxidsSpent}
use Rattle.sky_model.specs.declared.reply.Limit.TheVariants.{Consumers}
use Rattle.sky_model.specs.History.{Mark, of_copy, began, queued, registered, unregistered, opened, closed, NodeMark, noded, joined, parted, hold_begun, hold_ended, History, within, Past}
use Rattle.sky_model.specs.Hands.{CopyHand}
use Rattle.sky_model.specs.Transactions.{next_txid, snapshot}
use Rattle.sky_model.specs.Copies.{copies, copy_txid, Hold, holds, least_free}
use Rattle.sky_model.specs.Rows.{table_names, columns_of, rows}
use Rattle.sky_model.specs.Nodes.{node}
use Rattle.sky_model.specs.Queues.{queues}
use Rattle.sky_model.specs.StepQueue.{newest_id}
use Rattle.sky_model.specs.State.{queue_of, part_of, after_part, Database, database_of}
use Rattle.sky_model.specs.ShownRows.{snapshot_now}
use Rattle.sky_model.specs.Outcome.{Checked, ◌>>=◌, ◌>>◌, refused_if, answers, does_marks, marks_of}
use Rattle.sky_model.specs.StepCopy.{copy_writes, deletions, rows_now}
use Rattle.sky_model.specs.StepConsumer.{sub_ids_spent}
use Rattle.sky_model.specs.StepNode.{NodeCall, joining, parting, holding, letting_go, beginning_copy, copying_rows, ending_copy, is_full, may_copy, node_does}
use Rattle.sky_model.specs.WorkerMoves.{Move, behind_calls}
use Rattle.sky_model.specs.CopyMoves.{newest_of, piece_size, held_snapshot, rows_from, rows_of, last_key, copies_piece, next_piece, copy_consumer, first_hand, starts_copy, copy_running, under_way, continues, starts_or_continues}
use Rattle.sky_model.specs.WorkersOfWorld.{move_facts}
use Rattle.sky_model.specs.Settling.{marked}
use Rattle.sky_model.specs.World.{world_of, history_in, on_top}
use Rattle.sky_histories.proofs.Histories.{AllLegal}
use Rattle.sky_histories.proofs.Good.{same-session}
use Rattle.sky_model.proofs.LeastNumbers.{least-free}
use Rattle.sky_histories.proofs.NodeCalls.{is_for_consumers, gives-consumers}
use Rattle.sky_histories.proofs.Legal.{queue_of_set}
use Rattle.sky_histories.proofs.NodeReadings.{set-number, is_change, same-node}
use Rattle.sky_histories.proofs.StatementMarks.{EachMark, each-given, each-rest, when-true, Gives, AnyReply}
use Rattle.sky_model.proofs.Cases.{by_test, by_same}
use Rattle.sky_laws_replicas.specs.LawsOfReplicas.{let_go_if, CopyBegan, copy_in_hand}
use Rattle.sky_laws_replicas.proofs.Pieces.{last_key-append, all-taken}
use Rattle.sky_laws_replicas.proofs.FittingRows.{AllFit, fit-front, fit-back}
use Rattle.sky_laws_replicas.proofs.HeldRows.{piece-is, held-fit, rows-in-order}
use Rattle.sky_laws_replicas.proofs.Sources.{IsAlike}
use Rattle.sky_laws_replicas.proofs.Copying.{Holds, held_at}
use Rattle.sky_laws_replicas.proofs.Keeping.{began-under, Copying, Keeps, Kept, keeps_copies}
use Rattle.sky_laws_replicas.proofs.Others.{each_table, other_than, by-before, legal-under, fewer, Free, own-free, KeptFree, is_own, own-marks, own-marks-free, quiet-marks, begins-hold}
use Rattle.sky_laws_replicas.proofs.CallPasts.{call_marks, called, history-called, history-elsewhere, quiet-call, lets-go, own-call, beginning-marks}
use Rattle.sky_laws_replicas.proofs.CopySteps.{StillFrom, still-marks, copy_handed, MoveKept, move-kept, prints-kept, AtCopy, at-copy, Begins, begins, Source, ends, goes}

-- the first rows of some, and the others
record Cut (n : ℕ) (es : Entries (List Val)) : Type 0 where
  piece : Entries (List Val)
  others : Entries (List Val)
  is : es ≡ piece ++ others
  taken : take n es ≡ piece
  all : nat_lt (length piece) n ≡ true → others ≡ []

cut : (n : ℕ) (es : Entries (List Val)) → Cut n es
cut n es = record { piece = take n es; others = drop n es; is = sym (take-append-drop n es); taken = refl; all = all-taken n es }

-- the two ends of a piece
abbrev pub last_move : List ℕ → SnapshotView → CopyHand → Entries (List Val) → Move CopyHand
last_move name under hand piece = record {
  provider = letting_go hand.hold ∷ [];
  replica = copying_rows name (rows_of piece) ∷ ending_copy name under hand.tick ∷ [];
  replies = RowsCopied (length piece) ∷ TableMoved name CatchingUp ∷ [];
  hand = None;
}

abbrev pub next_move : List ℕ → CopyHand → Entries (List Val) → Move CopyHand
next_move name hand piece = record {
  provider = [];
  replica = copying_rows name (rows_of piece) ∷ [];
  replies = RowsCopied (length piece) ∷ [];
  hand = Some (record hand { last = last_key hand.last piece });
}

-- a leaf has still the provider's database that it had after a call
pub still-called : (past : Past) (e : ℕ) (call : NodeCall) (d p : ℕ) → (AllLegal past → StillFrom past d p) → AllLegal (called past e call) → StillFrom (called past e call) d p
still-called past e call d p from after =
    still-marks past e (call_marks (history_in past e) call) d p after (from (legal-under past (map (within e) (call_marks (history_in past e) call)) after))

-- ---- a copy that is in hand goes on

module _ (past : Past) (d p : ℕ) (name : List ℕ) (hand : CopyHand) (under : SnapshotView) (legal : AllLegal past) (k : Keeps each_table past) (has : copy_in_hand past d name ≡ Some hand)
    (alike : IsAlike past d p name) (may : may_copy name (node (history_in past d)) ≡ true) (is_held : held_snapshot (database_of (history_in past p)) hand.hold ≡ Some under) where
  abbrev c : Copying past d name hand
  c = k.copying d name hand refl has

  same-p : c.p ≡ p
  same-p = let one : Some c.p ≡ Some p = sym c.from ∙ alike.source.from in cc one

  abbrev held : History
  held = history_in c.before p

  there : Holds (history_in past p) hand.hold held
  there = subst (λ q. Holds (history_in past q) hand.hold (history_in c.before q)) same-p c.there

  source : Source past d p name c.table c.t hand.hold false c.before c.source hand.tick
  source = record {
    copy_began = subst (λ q. CopyBegan past d q c.table c.t hand.hold false c.before) same-p c.copy_began;
    named = ap (λ q. place_of name (table_names (history_in c.before q))) (sym same-p) ∙ c.source_named;
    newest = ap (λ q. newest_of (database_of (history_in c.before q))) (sym same-p) ∙ c.from_newest;
  }

  rows-held : rows c.source held ≡ c.made ++ c.rest
  rows-held = ap (λ q. rows c.source (history_in c.before q)) (sym same-p) ∙ c.rows_are

  under-is : under ≡ snapshot held
  under-is = let one : Some under ≡ Some (snapshot held) = sym is_held ∙ there.is in cc one

  fit-there : (place_of name (table_names (history_in past p)) ≡ Some c.source) × AllFit (columns_of c.source (history_in past p)) (rows c.source held)
  fit-there = held-fit (history_in past p) (legal p) there.later held there.place name c.source source.named

  columns-are : columns_of c.source (history_in past p) ≡ columns_of c.table (history_in past d)
  columns-are =
      let one : Some alike.number ≡ Some c.source = sym alike.there ∙ fit-there.0 in
      let two : Some alike.table ≡ Some c.table = sym alike.here ∙ c.here.named in
      let m : alike.number ≡ c.source = cc one in
      let n : alike.table ≡ c.table = cc two in
      ap (λ x. columns_of x (history_in past p)) (sym m) ∙ sym alike.columns ∙ ap (λ x. columns_of x (history_in past d)) n

  free : KeptFree p d name hand.hold past
  free l = (fewer d name past k l, own-free past p d name hand k has alike.source.from)

  continue-piece : (piece others : Entries (List Val)) → c.rest ≡ piece ++ others → (nat_lt (length piece) piece_size ≡ true → others ≡ []) → MoveKept past p d (copy_handed d name) (copies_piece name under hand piece)
  continue-piece piece others cut_is all =
      by_test (λ b. nat_lt (length piece) piece_size ≡ b → MoveKept past p d (copy_handed d name) (if b then last_move name under hand piece else next_move name hand piece)) (nat_lt (length piece) piece_size)
      (λ _ less. last-piece (all less)) (λ _ _. next-piece) refl
    where
      rows-are : rows c.source held ≡ c.made ++ (piece ++ others)
      rows-are = rows-held ∙ ap (λ x. c.made ++ x) cut_is

      order : is_in_order (c.made ++ (piece ++ others)) ≡ true
      order = ap is_in_order (sym rows-are) ∙ rows-in-order c.source held

      fits : AllFit (columns_of c.table (history_in past d)) piece
      fits = fit-front (columns_of c.table (history_in past d)) piece others
          (fit-back (columns_of c.table (history_in past d)) c.made (piece ++ others) (subst (λ cs. AllFit cs (c.made ++ (piece ++ others))) columns-are (subst (AllFit (columns_of c.source (history_in past p))) rows-are fit-there.1)))

      at : AtCopy (history_in past d) name c.table c.t c.made
      at = at-copy (history_in past d) (legal d) name c.table c.t c.made c.here may

      first : Past
      first = called past p (letting_go hand.hold)

      still-here : history_in past d ≡ history_in first d
      still-here = sym (history-elsewhere past p (letting_go hand.hold) d alike.source.other)

      last-piece : others ≡ [] → MoveKept past p d (copy_handed d name) (last_move name under hand piece)
      last-piece none =
          move-kept past p d (copy_handed d name) (last_move name under hand piece)
          (ends first d p name c.table c.t hand.hold false c.made piece c.before c.source under hand.tick
          (subst (λ g. AtCopy g name c.table c.t c.made) still-here at) (subst (λ g. AllFit (columns_of c.table g) piece) still-here fits)
          (subst (λ x. is_in_order (c.made ++ (piece ++ x)) ≡ true) none order)
          (record { copy_began = began-under (map (within p) (call_marks (history_in past p) (letting_go hand.hold))) source.copy_began; named = source.named; newest = source.newest })
          (sym under-is) (rows-are ∙ ap (λ x. c.made ++ x) (ap (λ x. piece ++ x) none ∙ append-nil piece))
          (still-called past p (letting_go hand.hold) d p (λ _. record { all = k.all_noded; from = alike.source.from })) (lets-go p d name hand.hold past free))

      next-piece : MoveKept past p d (copy_handed d name) (next_move name hand piece)
      next-piece =
          move-kept past p d (copy_handed d name) (next_move name hand piece)
          (goes past d p name c.table c.t c.made piece others c.before c.source (record hand { last = last_key hand.last piece }) alike.source.other at fits order there source rows-are
          (ap (λ o. last_key o piece) c.last ∙ sym (last_key-append None c.made piece)) (λ _. record { all = k.all_noded; from = alike.source.from }) free)

  pub continue-kept : MoveKept past p d (copy_handed d name) (next_piece (database_of (history_in past p)) name under hand)
  continue-kept =
      let x : Cut piece_size c.rest = cut piece_size c.rest in
      subst (λ rs. MoveKept past p d (copy_handed d name) (copies_piece name under hand rs))
      (sym (ap (λ s. rows_from (database_of (history_in past p)) name s hand.last piece_size) under-is
      ∙ piece-is (history_in past p) (legal p) there.later held there.place name c.source source.named c.made c.rest rows-held hand.last c.last piece_size ∙ x.taken))
      (continue-piece x.piece x.others x.is x.all)

-- ---- a copy begins

-- calls for consumers leave holds, the snapshot, the tables' names and their rows as they are
record IsAsRead (h g : History) : Type 0 where
  holds_are : holds g ≡ holds h
  snapshot_is : snapshot g ≡ snapshot h
  names_are : table_names g ≡ table_names h
  rows_are : (table : ℕ) → rows table g ≡ rows table h
  newest_is : newest_of (database_of g) ≡ newest_of (database_of h)

as-before : (h g f : History) → IsAsRead h g → IsAsRead g f → IsAsRead h f
as-before h g f one two = record {
  holds_are = two.holds_are ∙ one.holds_are;
  snapshot_is = two.snapshot_is ∙ one.snapshot_is;
  names_are = two.names_are ∙ one.names_are;
  rows_are = λ table. two.rows_are table ∙ one.rows_are table;
  newest_is = two.newest_is ∙ one.newest_is;
}

-- nor do they make a tick
newest-is : (h : History) → newest_of (database_of h) ≡ unwrap_or (option_map (λ q. newest_id (queue_of h q)) (queue_of_set (queues h) (node h))) 0
newest-is h = ap (λ o. unwrap_or (option_map (λ q. newest_id (queue_of h q)) o) 0) (set-number (database_of h))

newest-noded : (h : History) (mark : NodeMark) → is_change mark ≡ true → newest_of (database_of (noded mark ∷ h)) ≡ newest_of (database_of h)
newest-noded h mark change =
    newest-is (noded mark ∷ h) ∙ ap (λ o. unwrap_or (option_map (λ q. newest_id (queue_of h q)) o) 0) ((same-node mark change (node h)).set (queues h)) ∙ sym (newest-is h)

newest-same : (h : History) (mark : Mark) → is_for_consumers mark ≡ true → newest_of (database_of (mark ∷ h)) ≡ newest_of (database_of h)
newest-same h (queued (registered q name sub tick)) e = newest-is (queued (registered q name sub tick) ∷ h) ∙ sym (newest-is h)
newest-same h (queued (unregistered q name sub)) e = newest-is (queued (unregistered q name sub) ∷ h) ∙ sym (newest-is h)
newest-same h (queued (opened batch)) e = newest-is (queued (opened batch) ∷ h) ∙ sym (newest-is h)
newest-same h (queued (closed batch)) e = newest-is (queued (closed batch) ∷ h) ∙ sym (newest-is h)
newest-same h (noded (joined consumer)) e = newest-noded h (joined consumer) refl
newest-same h (noded (parted consumer)) e = newest-noded h (parted consumer) refl
newest-same h _ e = absurd (cc e)

same-read : (h : History) (mark : Mark) → is_for_consumers mark ≡ true → IsAsRead h (mark ∷ h)
same-read h (queued mark) e = record { holds_are = refl; snapshot_is = refl; names_are = refl; rows_are = λ table. refl; newest_is = newest-same h (queued mark) e }
same-read h (noded (joined consumer)) e = record { holds_are = refl; snapshot_is = refl; names_are = refl; rows_are = λ table. refl; newest_is = newest-same h (noded (joined consumer)) e }
same-read h (noded (parted consumer)) e = record { holds_are = refl; snapshot_is = refl; names_are = refl; rows_are = λ table. refl; newest_is = newest-same h (noded (parted consumer)) e }
same-read h _ e = absurd (cc e)

consumers-same : (h : History) (marks : List Mark) → EachMark is_for_consumers marks → IsAsRead h (marked h marks)
consumers-same h [] each = record { holds_are = refl; snapshot_is = refl; names_are = refl; rows_are = λ table. refl; newest_is = refl }
consumers-same h (mark ∷ marks) each =
    as-before h (mark ∷ h) (marked (mark ∷ h) marks) (same-read h mark (when-true (EachMark is_for_consumers marks) (is_for_consumers mark) each))
    (consumers-same (mark ∷ h) marks (each-rest is_for_consumers mark marks each))

held-none : (n : ℕ) (hs : List Hold) → contains n (map Hold.number hs) ≡ false → held_at n hs ≡ None
held-none n [] none = refl
held-none n (x ∷ hs) none = grind (arith, nat_tests, none, held-none n hs)

held-last : (n : ℕ) (hs : List Hold) (s : SnapshotView) → contains n (map Hold.number hs) ≡ false → held_at n (hs ++ record { number = n; snapshot = s } ∷ []) ≡ Some s
held-last n [] s none = ap (λ b. option_map Hold.snapshot (if b then Some (record { number = n; snapshot = s }) else None)) (same-session n)
held-last n (x ∷ hs) s none = grind (arith, nat_tests, none, held-last n hs s)

held-some : (n : ℕ) (hs : List Hold) (s : SnapshotView) → held_at n hs ≡ Some s → list_any (λ (x : Hold). x.number == n) hs ≡ true
held-some n [] s is = absurd (cc is)
held-some n (x ∷ hs) s is =
    by_test (λ b. option_map Hold.snapshot (if b then Some x else find (λ (y : Hold). y.number == n) hs) ≡ Some s → (b || list_any (λ (y : Hold). y.number == n) hs) ≡ true) (x.number == n)
    (λ _ _. refl) (λ _ rest. held-some n hs s rest) is

module _ (past : Past) (d p : ℕ) (name consumer : List ℕ) (legal : AllLegal past) (k : Keeps each_table past)
    (alike : IsAlike past d p name) (may : may_copy name (node (history_in past d)) ≡ true) (none : copy_txid alike.table (copies (history_in past d)) ≡ None)
    (unspent : nat_le (2 ^ 62) (next_txid (history_in past d)) ≡ false) where
  abbrev h : History
  h = history_in past d

  abbrev first : Past
  first = called past p (parting consumer)

  abbrev second : Past
  second = called first p (joining consumer)

  abbrev third : Past
  third = called second p holding

  abbrev hand : CopyHand
  hand = first_hand (database_of (history_in past p))

  -- after one call
  read-called : (q : Past) (call : NodeCall) → Gives AnyReply is_for_consumers (node_does (database_of (history_in q p)) call) → IsAsRead (history_in q p) (history_in (called q p call) p)
  read-called q call gives =
      subst (IsAsRead (history_in q p)) (sym (history-called q p call))
      (consumers-same (history_in q p) (call_marks (history_in q p) call) (each-given AnyReply is_for_consumers (node_does (database_of (history_in q p)) call) gives))

  as-read : IsAsRead (history_in past p) (history_in second p)
  as-read =
      as-before (history_in past p) (history_in first p) (history_in second p)
      (read-called past (parting consumer) (gives-consumers (database_of (history_in past p)) (parting consumer) refl))
      (read-called first (joining consumer) (gives-consumers (database_of (history_in first p)) (joining consumer) refl))

  second-d : history_in second d ≡ history_in past d
  second-d = history-elsewhere first p (joining consumer) d alike.source.other ∙ history-elsewhere past p (parting consumer) d alike.source.other

  third-d : history_in third d ≡ history_in past d
  third-d = history-elsewhere second p holding d alike.source.other ∙ second-d

  kept-second : Kept (other_than d name) second
  kept-second =
      quiet-marks first p d name (call_marks (history_in first p) (joining consumer))
      (each-given AnyReply keeps_copies (node_does (database_of (history_in first p)) (joining consumer)) (quiet-call (database_of (history_in first p)) (joining consumer) refl))
      (quiet-marks past p d name (call_marks (history_in past p) (parting consumer))
      (each-given AnyReply keeps_copies (node_does (database_of (history_in past p)) (parting consumer)) (quiet-call (database_of (history_in past p)) (parting consumer) refl)) (fewer d name past k))

  -- the number of the hold is new
  pub number-is : least_free (map Hold.number (holds (history_in second p))) ≡ hand.hold
  number-is = ap (λ hs. least_free (map Hold.number hs)) as-read.holds_are

  new : contains hand.hold (map Hold.number (holds (history_in second p))) ≡ false
  new = ap (λ n. contains n (map Hold.number (holds (history_in second p)))) (sym number-is) ∙ (least-free (map Hold.number (holds (history_in second p)))).0

  free-second : KeptFree p d name hand.hold second
  free-second after = (kept-second after, free)
    where
      free : Free second p d name hand.hold
      free e other theirs differ has from =
          by_same (λ b. b ≡ false) hand.hold theirs.hold
          (λ same.
          let x : Copying second e other theirs = (kept-second after).copying e other theirs differ has in
          let one : Some x.p ≡ Some p = sym x.from ∙ from in
          let q : x.p ≡ p = cc one in
          let held : held_at theirs.hold (holds (history_in second p)) ≡ Some (snapshot (history_in x.before x.p)) = ap (λ r. held_at theirs.hold (holds (history_in second r))) (sym q) ∙ x.there.is in
          absurd (cc (sym (held-none hand.hold (holds (history_in second p)) new) ∙ ap (λ n. held_at n (holds (history_in second p))) same ∙ held))) (λ _. refl)

  free-third : KeptFree p d name hand.hold third
  free-third = begins-hold p d name hand.hold (least_free (map Hold.number (holds (history_in second p)))) second free-second

  -- it is held, with the snapshot and the rows of the table as they were read
  abbrev taken_at : History
  taken_at = history_in second p

  held-third : held_at hand.hold (holds (history_in third p)) ≡ Some (snapshot taken_at)
  held-third =
      ap (λ g. held_at hand.hold (holds g)) (history-called second p holding)
      ∙ ap (λ n. held_at hand.hold (holds taken_at ++ record { number = n; snapshot = snapshot taken_at } ∷ [])) number-is
      ∙ held-last hand.hold (holds taken_at) (snapshot taken_at) new

  held-there : Holds (history_in third p) hand.hold taken_at
  held-there = record { later = noded (hold_begun (least_free (map Hold.number (holds taken_at)))) ∷ []; place = history-called second p holding; is = held-third }

  named-held : place_of name (table_names taken_at) ≡ Some alike.number
  named-held = ap (place_of name) as-read.names_are ∙ alike.there

  third-is : third ≡ within p (noded (hold_begun hand.hold)) ∷ second
  third-is = ap (λ n. within p (noded (hold_begun n)) ∷ second) number-is

  -- so it is no longer, if it is let go at once
  let-go : called third p (letting_go hand.hold) ≡ within p (noded (hold_ended hand.hold)) ∷ third
  let-go = ap (λ b. on_top third (map (within p) (marks_of (if b then does_marks Done (noded (hold_ended hand.hold) ∷ []) else answers Null)))) (held-some hand.hold (holds (history_in third p)) (snapshot taken_at) held-third)

  from-third : AllLegal third → StillFrom third d p
  from-third =
      still-called second p holding d p
      (still-called first p (joining consumer) d p (still-called past p (parting consumer) d p (λ _. record { all = k.all_noded; from = alike.source.from })))

  apart : (d == p) ≡ false
  apart = let o : (p == d) ≡ false = alike.source.other in grind (arith, nat_tests, o)

  abbrev t : ℕ
  t = next_txid (history_in past d)

  -- the database of the replica once the copy has begun, at a past in which it was as before
  begun-at : (q : Past) → history_in q d ≡ history_in past d → Begins (history_in past d) (history_in (called q d (beginning_copy name)) d) name alike.table
  begun-at q same =
      subst (λ g. Begins (history_in past d) g name alike.table)
      (ap (λ g. marked g (call_marks g (beginning_copy name))) (sym same) ∙ sym (history-called q d (beginning_copy name)))
      (begins (history_in past d) (legal d) name alike.table may alike.here none unspent)

  -- the copy begins right then
  began-at : (q : Past) (at_once : Bool) → history_in q d ≡ history_in past d → q ≡ let_go_if at_once p hand.hold ++ within p (noded (hold_begun hand.hold)) ∷ second
      → CopyBegan (called q d (beginning_copy name)) d p alike.table t hand.hold at_once second
  began-at q at_once same is =
      subst (λ ms. CopyBegan (on_top q (map (within d) ms)) d p alike.table t hand.hold at_once second)
      (sym (ap (λ g. call_marks g (beginning_copy name)) same ∙ beginning-marks (history_in past d) name alike.table may alike.here none unspent))
      (began-under (map (within d) (copy_writes (after_part (part_of (history_in past d)) (began (of_copy alike.table) t)) alike.table t (deletions (rows_now (part_of (history_in past d)) alike.table))))
      (record { later = []; is = ap (λ x. within d (began (of_copy alike.table) t) ∷ x) is }))

  all-fit : AllFit (columns_of alike.table (history_in past d)) (rows alike.number (history_in past p))
  all-fit = subst (λ cs. AllFit cs (rows alike.number (history_in past p))) (sym alike.columns) (held-fit (history_in past p) (legal p) [] (history_in past p) refl name alike.number alike.there).1

  begin-piece : (piece others : Entries (List Val)) → rows alike.number (history_in past p) ≡ piece ++ others → (nat_lt (length piece) piece_size ≡ true → others ≡ [])
      → MoveKept past p d (copy_handed d name) (behind_calls (parting consumer ∷ joining consumer ∷ holding ∷ []) (beginning_copy name ∷ []) (copies_piece name (snapshot (history_in past p)) hand piece))
  begin-piece piece others rows-are all =
      by_test (λ b. nat_lt (length piece) piece_size ≡ b
      → MoveKept past p d (copy_handed d name) (behind_calls (parting consumer ∷ joining consumer ∷ holding ∷ []) (beginning_copy name ∷ []) (if b then last_move name under hand piece else next_move name hand piece)))
      (nat_lt (length piece) piece_size) (λ _ less. last-piece (all less)) (λ _ _. next-piece) refl
    where
      under : SnapshotView
      under = snapshot (history_in past p)

      order : is_in_order (piece ++ others) ≡ true
      order = ap is_in_order (sym rows-are) ∙ rows-in-order alike.number (history_in past p)

      fits : AllFit (columns_of alike.table (history_in past d)) piece
      fits = fit-front (columns_of alike.table (history_in past d)) piece others (subst (AllFit (columns_of alike.table (history_in past d))) rows-are all-fit)

      own : (g : History) → place_of name (table_names g) ≡ Some alike.table → EachMark (is_own name alike.table) (call_marks g (beginning_copy name))
      own g at = own-call g name alike.table (beginning_copy name) at refl

      last-piece : others ≡ [] → MoveKept past p d (copy_handed d name) (behind_calls (parting consumer ∷ joining consumer ∷ holding ∷ []) (beginning_copy name ∷ []) (last_move name under hand piece))
      last-piece no_more =
          move-kept past p d (copy_handed d name) (behind_calls (parting consumer ∷ joining consumer ∷ holding ∷ []) (beginning_copy name ∷ []) (last_move name under hand piece))
          (ends fifth d p name alike.table t hand.hold true [] piece second alike.number under hand.tick start.at
          (subst (λ cs. AllFit cs piece) (sym start.columns) fits) (subst (λ x. is_in_order (piece ++ x) ≡ true) no_more order)
          (record { copy_began = began-at fourth true fourth-d (let-go ∙ ap (λ q. within p (noded (hold_ended hand.hold)) ∷ q) third-is); named = named-held; newest = as-read.newest_is })
          as-read.snapshot_is (as-read.rows_are alike.number ∙ rows-are ∙ ap (λ x. piece ++ x) no_more ∙ append-nil piece)
          (still-called fourth d (beginning_copy name) d p (still-called third p (letting_go hand.hold) d p from-third)) kept-fifth)
        where
          fourth : Past
          fourth = called third p (letting_go hand.hold)

          fourth-d : history_in fourth d ≡ history_in past d
          fourth-d = history-elsewhere third p (letting_go hand.hold) d alike.source.other ∙ third-d

          fifth : Past
          fifth = called fourth d (beginning_copy name)

          start : Begins (history_in past d) (history_in fifth d) name alike.table
          start = begun-at fourth fourth-d

          kept-fifth : Kept (other_than d name) fifth
          kept-fifth =
              let at : place_of name (table_names (history_in fourth d)) ≡ Some alike.table = ap (λ g. place_of name (table_names g)) fourth-d ∙ alike.here in
              own-marks fourth d name alike.table (call_marks (history_in fourth d) (beginning_copy name)) at (own (history_in fourth d) at) (lets-go p d name hand.hold third free-third)

      next-piece : MoveKept past p d (copy_handed d name) (behind_calls (parting consumer ∷ joining consumer ∷ holding ∷ []) (beginning_copy name ∷ []) (next_move name hand piece))
      next-piece =
          move-kept past p d (copy_handed d name) (behind_calls (parting consumer ∷ joining consumer ∷ holding ∷ []) (beginning_copy name ∷ []) (next_move name hand piece))
          (goes fourth d p name alike.table t [] piece others second alike.number (record hand { last = last_key hand.last piece }) alike.source.other start.at
          (subst (λ cs. AllFit cs piece) (sym start.columns) fits) order
          (subst (λ g. Holds g hand.hold taken_at) (sym (history-elsewhere third d (beginning_copy name) p apart)) held-there)
          (record { copy_began = began-at third false third-d third-is; named = named-held; newest = as-read.newest_is }) (as-read.rows_are alike.number ∙ rows-are) refl
          (still-called third d (beginning_copy name) d p from-third) free-fourth)
        where
          fourth : Past
          fourth = called third d (beginning_copy name)

          start : Begins (history_in past d) (history_in fourth d) name alike.table
          start = begun-at third third-d

          free-fourth : KeptFree p d name hand.hold fourth
          free-fourth =
              let at : place_of name (table_names (history_in third d)) ≡ Some alike.table = ap (λ g. place_of name (table_names g)) third-d ∙ alike.here in
              own-marks-free p hand.hold third d name alike.table (call_marks (history_in third d) (beginning_copy name)) at (own (history_in third d) at) free-third

  pub begin-kept : MoveKept past p d (copy_handed d name) (behind_calls (parting consumer ∷ joining consumer ∷ holding ∷ []) (beginning_copy name ∷ [])
      (next_piece (database_of (history_in past p)) name (snapshot_now (part_of (history_in past p))) (first_hand (database_of (history_in past p)))))
  begin-kept =
      let x : Cut piece_size (rows alike.number (history_in past p)) = cut piece_size (rows alike.number (history_in past p)) in
      subst (λ rs. MoveKept past p d (copy_handed d name) (behind_calls (parting consumer ∷ joining consumer ∷ holding ∷ []) (beginning_copy name ∷ []) (copies_piece name (snapshot (history_in past p)) hand rs)))
      (sym (piece-is (history_in past p) (legal p) [] (history_in past p) refl name alike.number alike.there [] (rows alike.number (history_in past p)) refl None refl piece_size ∙ x.taken))
      (begin-piece x.piece x.others x.is x.all)

-- ---- the statement

-- what is kept if it isn't refused
abbrev IfKept : Past → (p d : ℕ) → List ℕ → Checked (Move CopyHand) → Type 0
IfKept past p d name c = IfOk c (λ move. MoveKept past p d (copy_handed d name) move)

-- what may be assumed of a past in which a move is made
abbrev Assumed : Past → Type 0
Assumed past = (facts : _) → (AllLegal past → Keeps each_table past → Kept each_table (on_top past facts)) → Kept each_table (on_top past facts)

starts-kept : (past : Past) (d p : ℕ) (name : List ℕ) → Assumed past → (alike : IsAlike past d p name) → may_copy name (node (history_in past d)) ≡ true → copy_txid alike.table (copies (history_in past d)) ≡ None
    → IfKept past p d name (starts_copy (database_of (history_in past p)) (database_of (history_in past d)) name)
starts-kept past d p name assumed alike may none =
    of (is_full there consumer) (sub_ids_spent there) (nat_le (2 ^ 62) (next_txid (history_in past d))) refl
  where
    there : Database
    there = database_of (history_in past p)

    consumer : List ℕ
    consumer = copy_consumer (node (history_in past d))

    move : Move CopyHand
    move = behind_calls (parting consumer ∷ joining consumer ∷ holding ∷ []) (beginning_copy name ∷ []) (next_piece there name (snapshot_now (part_of (history_in past p))) (first_hand there))

    of : (full spent last : Bool) → nat_le (2 ^ 62) (next_txid (history_in past d)) ≡ last
        → IfKept past p d name (refused_if full (TooMany Consumers) >> (refused_if spent IdsSpent >> ((refused_if last TxidsSpent >> Ok (next_txid (history_in past d))) >>= (λ t. Ok move))))
    of true spent last is = tt
    of false true last is = tt
    of false false true is = tt
    of false false false is = assumed (move_facts (world_of past) p d (copy_handed d name) move) (λ legal k. begin-kept past d p name consumer legal k alike may none is)

-- a table that is to be copied
pub copy-kept : (past : Past) (d p : ℕ) (name : List ℕ) → Kept each_table past → IsAlike past d p name → may_copy name (node (history_in past d)) ≡ true
    → IfKept past p d name (starts_or_continues (database_of (history_in past p)) (database_of (history_in past d)) name (copy_in_hand past d name) (copy_running (database_of (history_in past d)) name))
copy-kept past d p name kept alike may = running may (copy_running (database_of (history_in past d)) name) refl
  where
    assumed : Assumed past
    assumed facts so = by-before past facts so kept

    going : (hand : Option CopyHand) → copy_in_hand past d name ≡ hand → may_copy name (node (history_in past d)) ≡ true
        → (o : Option (CopyHand × SnapshotView)) → under_way (database_of (history_in past p)) hand ≡ o → IfKept past p d name (continues (database_of (history_in past p)) name hand o)
    going hand has may None way = prints-kept past p d name (AwaitsTable name) hand has kept
    going None has may (Some x) way = absurd (cc way)
    going (Some hand) has may (Some x) way = held (held_snapshot (database_of (history_in past p)) hand.hold) refl way
      where
        held : (o : Option SnapshotView) → held_snapshot (database_of (history_in past p)) hand.hold ≡ o → option_map (λ snapshot. (hand, snapshot)) o ≡ Some x
            → MoveKept past p d (copy_handed d name) (next_piece (database_of (history_in past p)) name x.1 x.0)
        held None is e = absurd (cc e)
        held (Some under) is e =
            let one : (hand, under) ≡ x = cc e in
            subst (λ (y : CopyHand × SnapshotView). MoveKept past p d (copy_handed d name) (next_piece (database_of (history_in past p)) name y.1 y.0)) one
            (assumed (move_facts (world_of past) p d (copy_handed d name) (next_piece (database_of (history_in past p)) name under hand)) (λ legal k. continue-kept past d p name hand under legal k has alike may is))

    running : may_copy name (node (history_in past d)) ≡ true → (o : Option ℕ) → copy_running (database_of (history_in past d)) name ≡ o
        → IfKept past p d name (starts_or_continues (database_of (history_in past p)) (database_of (history_in past d)) name (copy_in_hand past d name) o)
    running may None is =
        starts-kept past d p name assumed alike may (sym (ap (λ o. option_and_then (λ t. copy_txid t (copies (history_in past d))) o) alike.here) ∙ is)
    running may (Some t) is = going (copy_in_hand past d name) refl may (under_way (database_of (history_in past p)) (copy_in_hand past d name)) refl
