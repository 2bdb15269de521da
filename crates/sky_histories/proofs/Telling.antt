-- A gate for the writes of a row part, and a whole database that records them, do the same.
use Rattle.std.proofs.Common.{◌≡◌, ℕ, zero, suc, ℤ, ◌+◌, ◌^◌, Bool, true, false, nat_le, List, [], ◌∷◌, ◌++◌, Option, Some, None, Ok, Err, MatchResult, length, refl, sym, ap, subst, if◌then◌else◌, not, ◌&&◌, is_ok}
use Rattle.sky_val.specs.declared.val.Val.{Val}
use Rattle.sky_keys.specs.Waits.{Waiting, is_waiting}
use Rattle.sky_urlenc.specs.RowEvents.{RowEvent}
use Rattle.sky_model.specs.declared.stmt.RowStmt.{RowStmt}
use Rattle.sky_model.specs.declared.reply.Reply.TheVariants.{Refused}
use Rattle.sky_model.specs.declared.reply.Refusal.{Refusal}
use Rattle.sky_model.specs.declared.reply.Refusal.TheVariants.{EventIdsSpent}
use Rattle.sky_model.specs.History.{Mark, Whose, ended, sight_taken, of_session, tabled, wrote, waited, read_only, queued, noded, of_copy, began}
use Rattle.sky_model.specs.Sessions.{Session}
use Rattle.sky_model.specs.State.{RowPart, after_part, after_part_marks, Database, after_mark, after_marks}
use Rattle.sky_model.specs.ShownRows.{rows_by}
use Rattle.sky_model.specs.Outcome.{Outcome, Checked, ◌>>=◌, ◌>>◌, refused_if, does_marks, abort, or_refused}
use Rattle.sky_model.specs.Allowed.{where_of_row, allowed}
use Rattle.sky_model.specs.Made.{takes_sight, looking, runs_if}
use Rattle.sky_model.specs.Telling.{events_of_write, told_event, event_marks, told_by, told_of, with_told, tells}
use Rattle.sky_model.specs.Reader.{part_by_itself, database_by_itself, within_part}
use Rattle.sky_model.specs.Gates.{Gate, takes, passed, takes_all, passed_all, gated, by_gate}
use Rattle.sky_model.specs.Settling.{Turn, turn_of, behind_marks, and_then, ready, attempted, resumed, goes_on, settles, settling, with_settling}
use Rattle.sky_model.specs.Calls.{row_form, row_making, row_statement, row_turn}
use Rattle.sky_histories.proofs.StatementMarks.{each-rest}
use Rattle.sky_histories.proofs.RowOutcomes.{is_of_rows, RowMarks, OfRows, abort-rows, attempts-rows, form-rows}
use Rattle.sky_histories.proofs.GatedLemmas.{gated-behind, passed-append, WritesNone, plain-abort}
use Rattle.sky_histories.proofs.DatabaseStanding.{after_marks-append, behind-all}
use Rattle.sky_histories.proofs.Inserted.{Inserted, none, kept, with_raised, with_put, inserted-same, inserted-append}
use Rattle.sky_model.proofs.Cases.{by_test}

-- a mark that is neither a session's write nor a queue's or the node's, and rolls no transaction back
abbrev pub IsOther : Mark → Type 0
IsOther (tabled (wrote (of_session who) t table key old new)) = ⊥
IsOther (queued mark) = ⊥
IsOther (noded mark) = ⊥
IsOther (ended whose t false) = ⊥
IsOther _ = Unit {0}

-- a gate keeps what records writes at this time: whether there are ids for their events, and what they leave
pub record TellsAlike {G : Type 0} (gate : Gate G) (now : ℤ) (related : Database → RowPart → G → Type 0) : Type 0 where
  pub part : (d : Database) (p : RowPart) (g : G) → related d p g → d.part ≡ p
  pub other : (d : Database) (p : RowPart) (g : G) (mark : Mark) → IsOther mark → related d p g → related (after_mark d mark) (after_part p mark) g
  pub undone : (d : Database) (p : RowPart) (g : G) (whose : Whose) (t : ℕ) → related d p g → related (after_mark d (ended whose t false)) (after_part p (ended whose t false)) (gate.undone g t)
  pub room : (d : Database) (p : RowPart) (g : G) (who t table : ℕ) (key : List Val) (old new : Option (List Val)) → related d p g
      → takes gate g (tabled (wrote (of_session who) t table key old new))
      ≡ is_ok (told_of (after_mark d (tabled (wrote (of_session who) t table key old new))) now (tabled (wrote (of_session who) t table key old new)))
  pub wrote : (d : Database) (p : RowPart) (g : G) (who t table : ℕ) (key : List Val) (old new : Option (List Val)) (told : List Mark) → related d p g
      → told_of (after_mark d (tabled (wrote (of_session who) t table key old new))) now (tabled (wrote (of_session who) t table key old new)) ≡ Ok told
      → related (after_marks d (tabled (wrote (of_session who) t table key old new) ∷ told)) (after_part p (tabled (wrote (of_session who) t table key old new)))
      (passed gate g (tabled (wrote (of_session who) t table key old new)))

-- the answer is the same, the database has the marks of events among those of the row part, and all is alike after them
record SameOutcome {G : Type 0} (gate : Gate G) (related : Database → RowPart → G → Type 0) (d : Database) (p : RowPart) (g : G) (behind_gate told : Outcome) : Type 0 where
  reply : told.reply ≡ behind_gate.reply
  inserted : Inserted behind_gate.marks told.marks
  stands : related (after_marks d told.marks) (after_part_marks p behind_gate.marks) (passed_all gate g behind_gate.marks)

-- the same of a turn with a gate and one that is recorded
pub record SameTold {G : Type 0} (gate : Gate G) (related : Database → RowPart → G → Type 0) (d : Database) (p : RowPart) (g : G) (behind_gate told : Turn) : Type 0 where
  pub answers : told.answers ≡ behind_gate.answers
  pub inserted : Inserted behind_gate.marks told.marks
  pub stands : related (after_marks d told.marks) (after_part_marks p behind_gate.marks) (passed_all gate g behind_gate.marks)

part_marks-append : (p : RowPart) (xs ys : List Mark) → after_part_marks p (xs ++ ys) ≡ after_part_marks (after_part_marks p xs) ys
part_marks-append p [] ys = refl
part_marks-append p (x ∷ xs) ys = part_marks-append (after_part p x) xs ys

-- ---- what records a write

-- marks of events, or the refusal if there are no ids for them
abbrev pub EventMarks : Checked (List Mark) → Type 0
EventMarks (Ok marks) = Inserted [] marks
EventMarks (Err refusal) = refusal ≡ EventIdsSpent

pub told_by-events : (d : Database) (now : ℤ) (t : ℕ) (es : List RowEvent) → EventMarks (told_by d now t es)
told_by-events d now t [] = none
told_by-events d now t (e ∷ es) = of (nat_le (2 ^ 62) id) (told_by-events (after_marks d (event_marks e.queue (told_event id now t e))) now t es)
  where
    id : ℕ
    id = (d.queue e.queue).seq + 1

    joined : (x : Checked (List Mark)) → EventMarks x → EventMarks (x >>= (λ rest. Ok (event_marks e.queue (told_event id now t e) ++ rest)))
    joined (Err refusal) only = only
    joined (Ok rest) only = with_raised e.queue id (with_put e.queue (told_event id now t e) only)

    of : (b : Bool) → EventMarks (told_by (after_marks d (event_marks e.queue (told_event id now t e))) now t es)
        → EventMarks ((refused_if b EventIdsSpent >> Ok id) >>= (λ n. told_by (after_marks d (event_marks e.queue (told_event n now t e))) now t es
        >>= (λ rest. Ok (event_marks e.queue (told_event n now t e) ++ rest))))
    of true only = refl
    of false only = joined (told_by (after_marks d (event_marks e.queue (told_event id now t e))) now t es) only

module _ {G : Type 0} (gate : Gate G) (now : ℤ) (related : Database → RowPart → G → Type 0) (alike : TellsAlike gate now related) where
  abbrev Outcomes : Database → RowPart → G → Outcome → Outcome → Type 0
  Outcomes d p g behind_gate told = SameOutcome gate related d p g behind_gate told

  abbrev Turns : Database → RowPart → G → Turn → Turn → Type 0
  Turns d p g behind_gate told = SameTold gate related d p g behind_gate told

  -- marks among which there is no write
  others : (marks : List Mark) → RowMarks marks → WritesNone marks → (d : Database) (p : RowPart) (g : G) → related d p g
      → related (after_marks d marks) (after_part_marks p marks) (passed_all gate g marks)
  others [] rows plain d p g is = is
  others (queued mark ∷ marks) rows plain d p g is = absurd rows
  others (noded mark ∷ marks) rows plain d p g is = absurd rows
  others (tabled (wrote who t table key old new) ∷ marks) rows plain d p g is = absurd plain
  others (tabled (read_only table on) ∷ marks) rows plain d p g is = absurd rows
  others (began (of_copy table) t ∷ marks) rows plain d p g is = absurd rows
  others (ended (of_copy table) t committed ∷ marks) rows plain d p g is = absurd rows
  others (ended whose t false ∷ marks) rows plain d p g is =
      others marks rows plain (after_mark d (ended whose t false)) (after_part p (ended whose t false)) (gate.undone g t) (alike.undone d p g whose t is)
  others (mark ∷ marks) rows plain d p g is = others marks rows plain (after_mark d mark) (after_part p mark) g (alike.other d p g mark tt is)

  -- a gate takes a mark, and it is recorded; or neither
  abbrev ToldMark : Database → RowPart → G → Mark → Bool → Checked (List Mark) → Type 0
  ToldMark d p g mark b x = MatchResult x (λ told. (b ≡ true) × Inserted [] told × related (after_marks d (mark ∷ told)) (after_part p mark) (passed gate g mark)) (λ refusal. (b ≡ false) × (refusal ≡ EventIdsSpent))

  told-mark : (mark : Mark) (marks : List Mark) → RowMarks (mark ∷ marks) → (d : Database) (p : RowPart) (g : G) → related d p g
      → ToldMark d p g mark (takes gate g mark) (told_of (after_mark d mark) now mark)
  told-mark (queued mark) marks rows d p g is = absurd rows
  told-mark (noded mark) marks rows d p g is = absurd rows
  told-mark (tabled (wrote (of_session who) t table key old new)) marks rows d p g is =
      of (takes gate g write) (told_of (after_mark d write) now write) refl (alike.room d p g who t table key old new is)
      (told_by-events (after_mark d write) now t (events_of_write (after_mark d write) table old new))
    where
      write : Mark
      write = tabled (wrote (of_session who) t table key old new)

      of : (b : Bool) (x : Checked (List Mark)) → told_of (after_mark d write) now write ≡ x → b ≡ is_ok x → EventMarks x → ToldMark d p g write b x
      of b (Ok told) same room only = (room, only, alike.wrote d p g who t table key old new told is same)
      of b (Err refusal) same room only = (room, only)
  told-mark (ended whose t false) marks rows d p g is = (refl, none, alike.undone d p g whose t is)
  told-mark mark marks rows d p g is = (refl, none, alike.other d p g mark tt is)

  -- the same of marks
  abbrev ToldMarks : Database → RowPart → G → List Mark → Bool → Checked (List Mark) → Type 0
  ToldMarks d p g marks b x = MatchResult x (λ told. (b ≡ true) × Inserted marks told × related (after_marks d told) (after_part_marks p marks) (passed_all gate g marks)) (λ refusal. (b ≡ false) × (refusal ≡ EventIdsSpent))

  told-marks : (marks : List Mark) → RowMarks marks → (d : Database) (p : RowPart) (g : G) → related d p g → ToldMarks d p g marks (takes_all gate g marks) (with_told d now marks)
  told-marks [] rows d p g is = (refl, none, is)
  told-marks (mark ∷ marks) rows d p g is =
      of (takes gate g mark) (told_of (after_mark d mark) now mark) (told-mark mark marks rows d p g is) (told-marks marks (each-rest is_of_rows mark marks rows))
    where
      joined : (told : List Mark) → Inserted [] told → (b : Bool) (x : Checked (List Mark)) → ToldMarks (after_marks d (mark ∷ told)) (after_part p mark) (passed gate g mark) marks b x
          → ToldMarks d p g (mark ∷ marks) b (x >>= (λ rest. Ok (mark ∷ told ++ rest)))
      joined told only b (Ok rest) same = (
        same.0,
        kept mark (inserted-append only same.1),
        subst (λ e. related e (after_part_marks p (mark ∷ marks)) (passed_all gate g (mark ∷ marks))) (sym (after_marks-append (after_mark d mark) told rest)) same.2,
      )
      joined told only b (Err refusal) same = same

      of : (b : Bool) (x : Checked (List Mark)) → ToldMark d p g mark b x
          → ((e : Database) (q : RowPart) (k : G) → related e q k → ToldMarks e q k marks (takes_all gate k marks) (with_told e now marks))
          → ToldMarks d p g (mark ∷ marks) (b && takes_all gate (passed gate g mark) marks) (x >>= (λ told. with_told (after_marks d (mark ∷ told)) now marks >>= (λ rest. Ok (mark ∷ told ++ rest))))
      of b (Ok told) same ih =
          let all : Bool = takes_all gate (passed gate g mark) marks in
          let more = with_told (after_marks d (mark ∷ told)) now marks in
          subst (λ c. ToldMarks d p g (mark ∷ marks) (c && all) (more >>= (λ rest. Ok (mark ∷ told ++ rest)))) (sym same.0)
          (joined told same.1 all more (ih (after_marks d (mark ∷ told)) (after_part p mark) (passed gate g mark) same.2))
      of b (Err refusal) same ih = (ap (λ c. c && takes_all gate (passed gate g mark) marks) same.0, same.1)

  -- ---- what a statement does

  abbrev SameChecked : Database → RowPart → G → Checked Outcome → Checked Outcome → Type 0
  SameChecked d p g (Ok behind_gate) (Ok told) = Outcomes d p g behind_gate told
  SameChecked d p g (Ok behind_gate) (Err refusal) = ⊥
  SameChecked d p g (Err refusal) (Ok told) = ⊥
  SameChecked d p g (Err refusal) (Err also) = also ≡ refusal

  told-checked : (c : Checked Outcome) → OfRows c → (d : Database) (p : RowPart) (g : G) → related d p g → SameChecked d p g (gated gate g c) (tells d now c)
  told-checked (Err refusal) rows d p g is = refl
  told-checked (Ok o) rows d p g is = of (takes_all gate g o.marks) (with_told d now o.marks) (told-marks o.marks rows.1 d p g is)
    where
      of : (b : Bool) (x : Checked (List Mark)) → ToldMarks d p g o.marks b x → SameChecked d p g (refused_if (not b) EventIdsSpent >> Ok o) (x >>= (λ marks. does_marks o.reply marks))
      of b (Ok told) same = subst (λ c. SameChecked d p g (refused_if (not c) EventIdsSpent >> Ok o) (does_marks o.reply told)) (sym same.0) (record { reply = refl; inserted = same.1; stands = same.2 })
      of b (Err refusal) same = subst (λ c. SameChecked d p g (refused_if (not c) EventIdsSpent >> Ok o) (Err refusal)) (sym same.0) same.1

  told-settled : (who : ℕ) (s : Session) (c c' : Checked Outcome) (d : Database) (p : RowPart) (g : G) → related d p g → SameChecked d p g c c'
      → Outcomes d p g (or_refused who s c) (or_refused who s c')
  told-settled who s (Ok behind_gate) (Ok told) d p g is same = same
  told-settled who s (Ok behind_gate) (Err refusal) d p g is same = absurd same
  told-settled who s (Err refusal) (Ok told) d p g is same = absurd same
  told-settled who s (Err refusal) (Err also) d p g is same = record {
    reply = ap Refused same;
    inserted = subst (λ x. Inserted (marks refusal) (marks x)) (sym same) (inserted-same (marks refusal));
    stands = subst (λ x. related (after_marks d (marks x)) (after_part_marks p (marks refusal)) (passed_all gate g (marks refusal))) (sym same)
        (others (marks refusal) (abort-rows who s.block s.txid refusal) (plain-abort who s.block s.txid refusal) d p g is);
  }
    where
      marks : Refusal → List Mark
      marks x = abort who s.block s.txid x

  told-does : (who : ℕ) (s : Session) (c : Checked Outcome) → OfRows c → (d : Database) (p : RowPart) (g : G) → related d p g
      → Outcomes d p g (or_refused who s (gated gate g c)) (or_refused who s (tells d now c))
  told-does who s c rows d p g is = told-settled who s (gated gate g c) (tells d now c) d p g is (told-checked c rows d p g is)

  -- so with a database's own row part, and with any that is like it
  at-own : (d : Database) (p : RowPart) (g : G) (Q : RowPart → Type 0) → related d p g → (related d d.part g → Q d.part) → Q p
  at-own d p g Q is own = subst Q (alike.part d p g is) (own (subst (λ x. related d x g) (sym (alike.part d p g is)) is))

  told-runs : (who : ℕ) (stmt : RowStmt) (may : Checked (Unit {0})) (d : Database) (g : G) → related d d.part g
      → Outcomes d d.part g (runs_if (row_making (by_gate gate part_by_itself) who stmt) (where_of_row stmt) who (d.part, g) may)
      (runs_if (row_making (within_part database_by_itself now) who stmt) (where_of_row stmt) who d may)
  told-runs who stmt (Err refusal) d g is = told-settled who (d.part.session who) (Err refusal) (Err refusal) d d.part g is refl
  told-runs who stmt (Ok _) d g is =
      by_test (λ b. Outcomes d d.part g (if b then looking who (here shown) else here d) (if b then looking who (there shown) else there d)) (takes_sight (where_of_row stmt) (d.part.session who).sight)
      (λ _. let same = told shown (alike.other d d.part g (sight_taken who) tt is) in record { reply = same.reply; inserted = kept (sight_taken who) same.inserted; stands = same.stands }) (λ _. told d is)
    where
      shown : Database
      shown = after_mark d (sight_taken who)

      here : Database → Outcome
      here e = or_refused who (e.part.session who) (gated gate g (row_form e.part (rows_by e.part) who stmt))

      there : Database → Outcome
      there e = or_refused who (e.part.session who) (tells e now (row_form e.part (rows_by e.part) who stmt))

      told : (e : Database) → related e e.part g → Outcomes e e.part g (here e) (there e)
      told e is = told-does who (e.part.session who) _ (form-rows e.part (rows_by e.part) who stmt) e e.part g is

  -- ---- what it unblocks

  told-then : (d : Database) (p : RowPart) (g : G) (turn turn' : Turn) (rest : RowPart × G → Turn) (rest' : Database → Turn) → Turns d p g turn turn'
      → ((e : Database) (q : RowPart) (k : G) → related e q k → Turns e q k (rest (q, k)) (rest' e))
      → Turns d p g (and_then (by_gate gate part_by_itself) (p, g) turn rest) (and_then (within_part database_by_itself now) d turn' rest')
  told-then d p g turn turn' rest rest' same also = record {
    answers = λ i. same.answers i ++ later.answers i;
    inserted = inserted-append same.inserted later.inserted;
    stands =
        subst (λ x. related x (after_part_marks p (turn.marks ++ behind.marks)) (passed_all gate g (turn.marks ++ behind.marks))) (sym (after_marks-append d turn'.marks behind'.marks))
        (subst (λ x. related (after_marks e behind'.marks) x (passed_all gate g (turn.marks ++ behind.marks))) (sym (part_marks-append p turn.marks behind.marks))
        (subst (λ x. related (after_marks e behind'.marks) (after_part_marks q behind.marks) x) (sym (passed-append gate g turn.marks behind.marks)) later.stands));
  }
    where
      e : Database
      e = after_marks d turn'.marks

      q : RowPart
      q = after_part_marks p turn.marks

      k : G
      k = passed_all gate g turn.marks

      behind : Turn
      behind = rest (behind_marks (by_gate gate part_by_itself) (p, g) turn.marks)

      behind' : Turn
      behind' = rest' (behind_marks (within_part database_by_itself now) d turn'.marks)

      later : Turns e q k behind behind'
      later =
          subst (λ x. Turns e q k (rest x) behind') (sym (gated-behind gate p g turn.marks))
          (subst (λ x. Turns e q k (rest (q, k)) (rest' x)) (sym (behind-all now d turn'.marks)) (also e q k same.stands))

  told-resumed : (w : Waiting) (d : Database) (g : G) → related d d.part g
      → Turns d d.part g (resumed (by_gate gate part_by_itself) (d.part, g) w) (resumed (within_part database_by_itself now) d w)
  told-resumed w d g is = record { answers = ap (λ reply. (w.who, reply) ∷ []) tried.reply; inserted = kept (tabled (waited w.who)) tried.inserted; stands = tried.stands }
    where
      behind : Database
      behind = after_mark d (tabled (waited w.who))

      tried : Outcomes behind behind.part g (attempted (by_gate gate part_by_itself) w (d.part.attempt w.who) (behind.part, g)) (attempted (within_part database_by_itself now) w (d.part.attempt w.who) behind)
      tried =
          told-does w.who (behind.part.session w.who) _ (attempts-rows behind.part ((rows_by behind.part).key w.who w.table w.key) w.who w.table w.key (d.part.attempt w.who)) behind behind.part g
          (alike.other d d.part g (tabled (waited w.who)) tt is)

  told-goes_on : (rest : RowPart × G → Turn) (rest' : Database → Turn) (o : Option Waiting) (d : Database) (g : G) → related d d.part g
      → ((e : Database) (q : RowPart) (k : G) → related e q k → Turns e q k (rest (q, k)) (rest' e))
      → Turns d d.part g (goes_on (by_gate gate part_by_itself) (d.part, g) rest o) (goes_on (within_part database_by_itself now) d rest' o)
  told-goes_on rest rest' None d g is also = record { answers = refl; inserted = none; stands = is }
  told-goes_on rest rest' (Some w) d g is also = told-then d d.part g _ _ rest rest' (told-resumed w d g is) also

  told-settles : (n : ℕ) (d : Database) (p : RowPart) (g : G) → related d p g
      → Turns d p g (settles (by_gate gate part_by_itself) n (p, g)) (settles (within_part database_by_itself now) n d)
  told-settles zero d p g is = record { answers = refl; inserted = none; stands = is }
  told-settles (suc n) d p g is =
      at-own d p g (λ x. Turns d x g (settles (by_gate gate part_by_itself) (suc n) (x, g)) (settles (within_part database_by_itself now) (suc n) d)) is
      (λ own. told-goes_on (settles (by_gate gate part_by_itself) n) (settles (within_part database_by_itself now) n) (ready d.part) d g own (told-settles n))

  -- those that resume do the same
  pub settling-told : (d : Database) (p : RowPart) (g : G) → related d p g
      → SameTold gate related d p g (settling (by_gate gate part_by_itself) (p, g)) (settling (within_part database_by_itself now) d)
  settling-told d p g is =
      at-own d p g (λ x. Turns d x g (settling (by_gate gate part_by_itself) (x, g)) (settling (within_part database_by_itself now) d)) is (λ own. told-settles (length d.part.waiting) d d.part g own)

  -- so does a turn with those that it unblocks
  pub with_settling-told : (d : Database) (p : RowPart) (g : G) (turn turn' : Turn) → SameTold gate related d p g turn turn'
      → SameTold gate related d p g (with_settling (by_gate gate part_by_itself) (p, g) turn) (with_settling (within_part database_by_itself now) d turn')
  with_settling-told d p g turn turn' same =
      told-then d p g turn turn' (settling (by_gate gate part_by_itself)) (settling (within_part database_by_itself now)) same settling-told

  -- and a statement on rows
  pub row_turn-told : (d : Database) (p : RowPart) (g : G) (who : ℕ) (stmt : RowStmt) → related d p g
      → SameTold gate related d p g (row_turn (by_gate gate part_by_itself) (p, g) who stmt) (row_turn (within_part database_by_itself now) d who stmt)
  row_turn-told d p g who stmt is =
      at-own d p g (λ x. Turns d x g (row_turn (by_gate gate part_by_itself) (x, g) who stmt) (row_turn (within_part database_by_itself now) d who stmt)) is (λ own.
      let same = told-runs who stmt (allowed (is_waiting who d.part.waiting) (d.part.session who).is_open (d.part.session who).block (where_of_row stmt)) d g own in
      with_settling-told d d.part g (turn_of who (row_statement (by_gate gate part_by_itself) (d.part, g) who stmt)) (turn_of who (row_statement (within_part database_by_itself now) d who stmt))
      (record { answers = ap (λ reply. (who, reply) ∷ []) same.reply; inserted = same.inserted; stands = same.stands }))
