-- What `scan` and `get` print: the rows that their session is shown.
use Rattle.std.proofs.Common.{◌≡◌, ℕ, zero, suc, ℤ, List, [], ◌∷◌, map, length, Bool, true, false, Option, Some, None, Ok, Err, is_ok, ◌⊎◌, inl, inr, refl, sym, ap, subst, ◌∙◌, if◌then◌else◌}
use Rattle.sky_val.specs.declared.val.Val.{Val}
use Rattle.sky_val.specs.Entries.{at}
use Rattle.sky_val.specs.Schemas.{key_columns}
use Rattle.sky_keys.specs.Waits.{is_waiting}
use Rattle.sky_names.specs.Places.{place_of}
use Rattle.sky_model.specs.declared.stmt.Stmt.TheVariants.{Db}
use Rattle.sky_model.specs.declared.stmt.DbStmt.TheVariants.{Row}
use Rattle.sky_model.specs.declared.stmt.RowStmt.TheVariants.{Get, Scan}
use Rattle.sky_model.specs.declared.stmt.Where.TheVariants.{WhenReading}
use Rattle.sky_model.specs.declared.reply.Reply.{Reply}
use Rattle.sky_model.specs.declared.reply.Reply.TheVariants as replies
use Rattle.sky_model.specs.declared.reply.Refusal.TheVariants.{NoTable}
use Rattle.sky_model.specs.History.{sight_taken, History, Past}
use Rattle.sky_model.specs.Transactions.{snapshot}
use Rattle.sky_model.specs.Sessions.{has_open, block, own_txid, Sight, at_each, at_first, at_place, sight, sight_by, place_of_sight}
use Rattle.sky_model.specs.Rows.{table_names, columns_of, rows, put_all, own_writes, rows_shown}
use Rattle.sky_model.specs.Locks.{waiting}
use Rattle.sky_model.specs.State.{part_of, database_of}
use Rattle.sky_model.specs.Outcome.{Outcome, Checked, ◌>>=◌, ◌>>◌, found_or, answers, after_marks_of, or_refused}
use Rattle.sky_model.specs.StepRows.{fits, row_or_none}
use Rattle.sky_model.specs.Telling.{tells}
use Rattle.sky_model.specs.Allowed.{allowed}
use Rattle.sky_model.specs.Made.{Making, takes_sight, runs, looking, runs_if}
use Rattle.sky_model.specs.Reader.{shown_in, by_past, database_by_history, within_part}
use Rattle.sky_model.specs.Settling.{Turn, turn_of, rests, ready, goes_on, settles, with_settling}
use Rattle.sky_model.specs.World.{world_of, session_names, home, history_in}
use Rattle.sky_model.specs.Calls.{form, making, statement, db_stmt_does, Call, called, answers_of, past_of}
use Rattle.sky_histories.proofs.Histories.{histories_are_made_by_own_calls, same-turn-within}
use Rattle.sky_laws.proofs.LockLaws.{nothing_is_ready}
use Rattle.sky_histories.proofs.Good.{same-session}
use Rattle.sky_laws_synced.specs.LawsOfSeen.{may_make, ScansPrintRowsShown, row_reply, GetsPrintRowsShown}

-- ---- rows where a sight is just taken

own-looked : (n who : ℕ) (own : Option ℕ) (h : History) → own_writes n own (sight_taken who ∷ h) ≡ own_writes n own h
own-looked n who None h = refl
own-looked n who (Some t) h = refl

rows-looked : (n who : ℕ) (h : History) → sight who h ≡ at_first → rows_shown who n (sight_taken who ∷ h) ≡ rows_shown who n h
rows-looked n who h is =
    ap (λ b. put_all (own_writes n (own_txid who h) (sight_taken who ∷ h)) (rows n (place_of_sight (sight_taken who ∷ h) (if b then at_place h else sight who h)))) (same-session who)
    ∙ ap (λ ws. put_all ws (rows n h)) (own-looked n who (own_txid who h) h)
    ∙ sym (ap (λ s. put_all (own_writes n (own_txid who h) h) (rows n (place_of_sight h s))) is)

-- ---- a statement that reads

-- it answers, and leaves no mark but that of its sight
abbrev Answers : ℕ → Reply → Outcome → Type 0
Answers who reply o = (o ≡ record { reply = reply; marks = [] }) ⊎ (o ≡ record { reply = reply; marks = sight_taken who ∷ [] })

module _ (h : History) (who : ℕ) (reply : Reply) where
  runs-reads : (m : Making History) → (m.session h).sight ≡ sight_by snapshot (sight who h) → m.outcome h ≡ answers reply → (sight who h ≡ at_first → m.outcome (m.behind h (sight_taken who)) ≡ answers reply)
      → (may : Checked (Unit {0})) → is_ok may ≡ true → Answers who reply (runs_if m WhenReading who h may)
  runs-reads m sights soon late (Err refusal) ok = absurd (cc ok)
  runs-reads m sights soon late (Ok _) ok = of (sight who h) refl
    where
      g : History
      g = m.behind h (sight_taken who)

      either : Bool → Outcome
      either b = if b then looking who (runs m who g) else runs m who h

      own : takes_sight WhenReading (m.session h).sight ≡ false → Answers who reply (either (takes_sight WhenReading (m.session h).sight))
      own takes = inl (ap either takes ∙ ap (or_refused who (m.session h)) soon)

      of : (s : Sight History) → sight who h ≡ s → Answers who reply (either (takes_sight WhenReading (m.session h).sight))
      of at_each is = own (ap (takes_sight WhenReading) (sights ∙ ap (sight_by snapshot) is))
      of (at_place k) is = own (ap (takes_sight WhenReading) (sights ∙ ap (sight_by snapshot) is))
      of at_first is = inr (ap either (ap (takes_sight WhenReading) (sights ∙ ap (sight_by snapshot) is)) ∙ ap (λ c. looking who (or_refused who (m.session g) c)) (late is))

-- those that wait still wait
settles-none : (now : ℤ) (n : ℕ) (g : History) → ready (part_of g) ≡ None → settles (within_part database_by_history now) n g ≡ rests
settles-none now zero g none = refl
settles-none now (suc n) g none = ap (goes_on (within_part database_by_history now) g (settles (within_part database_by_history now) n)) none

turn-reads : (h : History) (who : ℕ) (reply : Reply) (now : ℤ) → ready (part_of h) ≡ None → (o : Outcome) → Answers who reply o
    → (with_settling (within_part database_by_history now) h (turn_of who o)).answers ≡ (who, reply) ∷ []
turn-reads h who reply now none o (inl is) =
    ap (λ x. (with_settling (within_part database_by_history now) h (turn_of who x)).answers) is ∙ ap (λ (x : Turn). (who, reply) ∷ x.answers) (settles-none now (length (waiting h)) h none)
turn-reads h who reply now none o (inr is) =
    ap (λ x. (with_settling (within_part database_by_history now) h (turn_of who x)).answers) is
    ∙ ap (λ (x : Turn). (who, reply) ∷ x.answers) (settles-none now (length (waiting h)) (sight_taken who ∷ h) none)

-- ---- a call

module _ (calls : List Call) (name : List ℕ) (who d : ℕ) where
  abbrev past : Past
  past = past_of calls

  abbrev h : History
  h = history_in past d

  abbrev now : ℤ
  now = (world_of past).now

  idle : ready (part_of h) ≡ None
  idle = let made = histories_are_made_by_own_calls calls d in subst (λ g. ready (part_of g) ≡ None) made.make (nothing_is_ready made.own_calls)

  -- ---- `scan`

  scan-form : (table : List ℕ) (n : ℕ) (g : History) → place_of table (table_names g) ≡ Some n → form (database_of g) (shown_in g) now who (Row (Scan table)) ≡ answers (replies.Rows (map (λ e. e.1) (rows_shown who n g)))
  scan-form table n g there =
      ap (λ o. after_marks_of [] (tells (database_of g) now (found_or o (NoTable table) >>= (λ t. answers (replies.Rows (map (λ e. e.1) (rows_shown who t g))))))) there

  pub scan-prints : (table : List ℕ) (n : ℕ) → place_of name (session_names past) ≡ Some who → home past who ≡ Some d → may_make (database_of h) who (Row (Scan table)) ≡ true → place_of table (table_names h) ≡ Some n
      → answers_of past (record { who = name; stmt = Db (Row (Scan table)) }) ≡ (who, replies.Rows (map (λ e. e.1) (rows_shown who n h))) ∷ []
  scan-prints table n called_is home_is may there =
      ap (λ o. (called by_past past (record { who = name; stmt = Db (Row (Scan table)) }) o).answers) called_is
      ∙ ap (λ o. (db_stmt_does by_past past who (Row (Scan table)) o).answers) home_is
      ∙ ap (λ (x : Turn). x.answers) (same-turn-within past d now who (Row (Scan table)))
      ∙ turn-reads h who reply now idle (statement database_by_history h now who (Row (Scan table)))
      (runs-reads h who reply (making database_by_history now who (Row (Scan table))) refl (scan-form table n h there)
      (λ is. scan-form table n (sight_taken who ∷ h) there ∙ ap (λ rs. answers (replies.Rows (map (λ e. e.1) rs))) (rows-looked n who h is))
      (allowed (is_waiting who (waiting h)) (has_open who h) (block who h) WhenReading) may)
    where
      reply : Reply
      reply = replies.Rows (map (λ e. e.1) (rows_shown who n h))

  -- ---- `get`

  row-answer : (o : Option (List Val)) → row_or_none o ≡ answers (row_reply o)
  row-answer None = refl
  row-answer (Some row) = refl

  get-form : (table : List ℕ) (key : List Val) (n : ℕ) (g : History) → place_of table (table_names g) ≡ Some n → fits (key_columns (columns_of n g)) key ≡ Ok tt
      → form (database_of g) (shown_in g) now who (Row (Get table key)) ≡ answers (row_reply (at key (rows_shown who n g)))
  get-form table key n g there fit =
      ap (λ o. after_marks_of [] (tells (database_of g) now (found_or o (NoTable table) >>= (λ t. fits (key_columns (columns_of t g)) key >> row_or_none (at key (rows_shown who t g)))))) there
      ∙ ap (λ c. after_marks_of [] (tells (database_of g) now (c >> row_or_none (at key (rows_shown who n g))))) fit
      ∙ ap (λ c. after_marks_of [] (tells (database_of g) now c)) (row-answer (at key (rows_shown who n g)))

  pub get-prints : (table : List ℕ) (key : List Val) (n : ℕ) → place_of name (session_names past) ≡ Some who → home past who ≡ Some d → may_make (database_of h) who (Row (Get table key)) ≡ true
      → place_of table (table_names h) ≡ Some n → fits (key_columns (columns_of n h)) key ≡ Ok tt
      → answers_of past (record { who = name; stmt = Db (Row (Get table key)) }) ≡ (who, row_reply (at key (rows_shown who n h))) ∷ []
  get-prints table key n called_is home_is may there fit =
      ap (λ o. (called by_past past (record { who = name; stmt = Db (Row (Get table key)) }) o).answers) called_is
      ∙ ap (λ o. (db_stmt_does by_past past who (Row (Get table key)) o).answers) home_is
      ∙ ap (λ (x : Turn). x.answers) (same-turn-within past d now who (Row (Get table key)))
      ∙ turn-reads h who reply now idle (statement database_by_history h now who (Row (Get table key)))
      (runs-reads h who reply (making database_by_history now who (Row (Get table key))) refl (get-form table key n h there fit)
      (λ is. get-form table key n (sight_taken who ∷ h) there fit ∙ ap (λ rs. answers (row_reply (at key rs))) (rows-looked n who h is))
      (allowed (is_waiting who (waiting h)) (has_open who h) (block who h) WhenReading) may)
    where
      reply : Reply
      reply = row_reply (at key (rows_shown who n h))

pub scans_print_rows_shown : ScansPrintRowsShown
scans_print_rows_shown calls name who d table n = scan-prints calls name who d table n

pub gets_print_rows_shown : GetsPrintRowsShown
gets_print_rows_shown calls name who d table key n = get-prints calls name who d table key n
