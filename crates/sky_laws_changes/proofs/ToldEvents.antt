-- The events that record a write: which of them are a table's in a queue, and what they say.
use Rattle.std.proofs.Common.{◌≡◌, ℕ, ℤ, Bool, true, false, not, ◌&&◌, ◌==◌, nat_lt, List, [], ◌∷◌, ◌++◌, Option, Some, None, Ok, Err, IfSome, is_none, is_some, length, filter, map, bytes_eq, refl, sym, ◌∙◌, ap, subst, if◌then◌else◌, append_assoc, append-nil, arith}
use Rattle.std.specs.List.{list_all, list_any}
use Rattle.std.specs.Option.{option_and_then}
use Rattle.std.specs.Result.{result_ok}
use Rattle.std.proofs.lemmas.List.Elements.{filter-append}
use Rattle.sky_val.specs.declared.val.Val.{Val}
use Rattle.sky_val.specs.declared.column.Column.{Column}
use Rattle.sky_val.specs.declared.event.Event.{Event}
use Rattle.sky_val.specs.declared.op.Op.{Op}
use Rattle.sky_val.specs.declared.op.Op.TheVariants.{Insert, Update, Delete}
use Rattle.sky_val.specs.Entries.{Entries, at}
use Rattle.sky_val.specs.Schemas.{key_of}
use Rattle.sky_urlenc.specs.EventType.{event_type}
use Rattle.sky_urlenc.specs.RowText.{row_text}
use Rattle.sky_urlenc.specs.RowEvents.{Trigger, TracedWrite, op_of, changed_columns, leaves_out, RowEvent, event_of, events_of}
use Rattle.sky_urlenc.specs.ReadRow.{read_row}
use Rattle.sky_urlenc.specs.Changes.{Change, change_of, may_do, after_op}
use Rattle.sky_urlenc.specs.Changes as change
use Rattle.sky_urlenc.proofs.ReadBack.{read_back}
use Rattle.sky_model.specs.History.{Mark, queued, raised, put, History}
use Rattle.sky_model.specs.Queues.{events}
use Rattle.sky_model.specs.Rows as rows_of
use Rattle.sky_model.specs.State.{Database, after_marks}
use Rattle.sky_model.specs.Outcome.{Checked, ◌>>=◌}
use Rattle.sky_model.specs.Telling.{told_event, event_marks, told_by}
use Rattle.sky_model.specs.StepQueue.{next_event_id}
use Rattle.sky_model.specs.StepNode.{set_trigger}
use Rattle.sky_model.specs.Settling.{marked}
use Rattle.sky_model.specs.LawsOfWrites.{IsRowOf}
use Rattle.sky_model.proofs.Cases.{by_test}
use Rattle.sky_laws_changes.specs.TableEvents.{changes_table, table_events}
use Rattle.sky_laws_changes.proofs.HeldValues.{AreHeld, holds-all}
use Rattle.sky_laws_changes.proofs.PlainMarks.{IsTableOf}
use Rattle.sky_laws_changes.proofs.WriteLists.{Written}

-- ---- which are a table's

-- whether an event is one of a table's
abbrev pub is_event : List ℕ → Event → Bool
is_event name e = is_none e.ev_owner && changes_table name e

-- the type of an event says what was done
pub op-read : (op : Op) (columns : List Column) → change.op_named (event_type op columns) ≡ Some op
op-read Insert columns = refl
op-read Update columns = refl
op-read Delete columns = refl

-- an event of one trigger after another
pub data Adds (now : ℤ) (t : ℕ) (w : TracedWrite) : List Trigger → List Event → Type 0 where
  no_more : Adds now t w [] []
  one_more : {triggers : List Trigger} {es : List Event} (id : ℕ) (trigger : Trigger) → Adds now t w triggers es → Adds now t w (trigger ∷ triggers) (told_event id now t (event_of w trigger) ∷ es)

-- what records a write comes apart
record First (d : Database) (now : ℤ) (t : ℕ) (e : RowEvent) (es : List RowEvent) (marks : List Mark) : Type 0 where
  id : ℕ
  rest : List Mark
  later : told_by (after_marks d (event_marks e.queue (told_event id now t e))) now t es ≡ Ok rest
  is : event_marks e.queue (told_event id now t e) ++ rest ≡ marks

first : (d : Database) (now : ℤ) (t : ℕ) (e : RowEvent) (es : List RowEvent) (marks : List Mark) → told_by d now t (e ∷ es) ≡ Ok marks → First d now t e es marks
first d now t e es marks same = of (next_event_id (d.queue e.queue)) same
  where
    rest-of : (id : ℕ) (c : Checked (List Mark)) → told_by (after_marks d (event_marks e.queue (told_event id now t e))) now t es ≡ c
        → (c >>= (λ rest. Ok (event_marks e.queue (told_event id now t e) ++ rest))) ≡ Ok marks → First d now t e es marks
    rest-of id (Ok rest) is all = record { id = id; rest = rest; later = is; is = cc }
    rest-of id (Err refusal) is all = absurd (cc)

    of : (c : Checked ℕ) → (c >>= (λ id. told_by (after_marks d (event_marks e.queue (told_event id now t e))) now t es >>= (λ rest. Ok (event_marks e.queue (told_event id now t e) ++ rest)))) ≡ Ok marks
        → First d now t e es marks
    of (Ok id) all = rest-of id (told_by (after_marks d (event_marks e.queue (told_event id now t e))) now t es) refl all
    of (Err refusal) all = absurd (cc)

module _ (name : List ℕ) (q : ℕ) (now : ℤ) (t : ℕ) (w : TracedWrite) where
  -- whether a trigger makes an event of the table of this name in this queue
  abbrev pub hits : Trigger → Bool
  hits trigger = bytes_eq name w.table && (trigger.queue == q && not (leaves_out trigger w.columns w.old w.new))

  pub record AddsTo (triggers : List Trigger) (marks : List Mark) (k : History) : Type 0 where
    pub more : List Event
    pub pairs : Adds now t w triggers more
    pub stands : table_events name (events q (marked k marks)) ≡ table_events name (events q k) ++ more

  is-event : (id : ℕ) (trigger : Trigger) → is_event name (told_event id now t (event_of w trigger)) ≡ bytes_eq name w.table
  is-event id trigger = ap (λ o. is_some o && bytes_eq name w.table) (op-read (op_of w.old w.new) w.columns)

  -- the table's events in the queue once such an event is put
  put-one : (id : ℕ) (trigger : Trigger) (k : History) (b : Bool) → (trigger.queue == q) ≡ b
      → table_events name (events q (queued (put trigger.queue (told_event id now t (event_of w trigger))) ∷ queued (raised trigger.queue id) ∷ k))
      ≡ table_events name (events q k) ++ (if bytes_eq name w.table && b then told_event id now t (event_of w trigger) ∷ [] else [])
  put-one id trigger k b same = ap (λ c. table_events name (if c then events q k ++ e ∷ [] else events q k)) same ∙ of b
    where
      e : Event
      e = told_event id now t (event_of w trigger)

      one : table_events name (e ∷ []) ≡ (if bytes_eq name w.table && true then e ∷ [] else [])
      one = ap (λ b. if b then e ∷ [] else []) (is-event id trigger) ∙ by_test (λ b. (if b then e ∷ [] else []) ≡ (if b && true then e ∷ [] else [])) (bytes_eq name w.table) (λ _. refl) (λ _. refl)

      nothing : (b : Bool) → (if b && false then e ∷ [] else []) ≡ []
      nothing true = refl
      nothing false = refl

      of : (b : Bool) → table_events name (if b then events q k ++ e ∷ [] else events q k) ≡ table_events name (events q k) ++ (if bytes_eq name w.table && b then e ∷ [] else [])
      of true = filter-append (is_event name) (events q k) (e ∷ []) ∙ ap (λ es. table_events name (events q k) ++ es) one
      of false = sym (ap (λ es. table_events name (events q k) ++ es) (nothing (bytes_eq name w.table)) ∙ append-nil (table_events name (events q k)))

  pub told-adds : (ts : List Trigger) (d : Database) (marks : List Mark) → told_by d now t (events_of w ts) ≡ Ok marks → (k : History) → AddsTo (filter hits ts) marks k
  told-adds [] d marks all k =
      let same : [] ≡ marks = cc in
      subst (λ ms. AddsTo [] ms k) same (record { more = []; pairs = no_more; stands = sym (append-nil (table_events name (events q k))) })
  told-adds (trigger ∷ ts) d marks all k =
      by_test (λ b. leaves_out trigger w.columns w.old w.new ≡ b → told_by d now t (map (event_of w) (if not b then trigger ∷ kept else kept)) ≡ Ok marks
      → AddsTo (if bytes_eq name w.table && (trigger.queue == q && not b) then trigger ∷ filter hits ts else filter hits ts) marks k) (leaves_out trigger w.columns w.old w.new)
      (λ _ _ rest. subst (λ b. AddsTo (if b then trigger ∷ filter hits ts else filter hits ts) marks k) (sym (left (bytes_eq name w.table) (trigger.queue == q))) (told-adds ts d marks rest k))
      (λ _ _ more. taken more (λ e marks' rest. told-adds ts (after_marks d e) marks' rest)) refl all
    where
      kept : List Trigger
      kept = filter (λ x. not (leaves_out x w.columns w.old w.new)) ts

      left : (a b : Bool) → (a && (b && false)) ≡ false
      left true true = refl
      left true false = refl
      left false b = refl

      taken : told_by d now t (event_of w trigger ∷ events_of w ts) ≡ Ok marks
          → ((e marks' : List Mark) → told_by (after_marks d e) now t (events_of w ts) ≡ Ok marks' → (k' : History) → AddsTo (filter hits ts) marks' k')
          → AddsTo (if bytes_eq name w.table && (trigger.queue == q && true) then trigger ∷ filter hits ts else filter hits ts) marks k
      taken all also = subst (λ ms. AddsTo (if bytes_eq name w.table && (trigger.queue == q && true) then trigger ∷ filter hits ts else filter hits ts) ms k) f.is here_too
        where
          f : First d now t (event_of w trigger) (events_of w ts) marks
          f = first d now t (event_of w trigger) (events_of w ts) marks all

          e : Event
          e = told_event f.id now t (event_of w trigger)

          g : History
          g = queued (put trigger.queue e) ∷ queued (raised trigger.queue f.id) ∷ k

          later : AddsTo (filter hits ts) f.rest g
          later = also (event_marks trigger.queue e) f.rest f.later g

          here_too : AddsTo (if bytes_eq name w.table && (trigger.queue == q && true) then trigger ∷ filter hits ts else filter hits ts) (event_marks trigger.queue e ++ f.rest) k
          here_too = of (bytes_eq name w.table) (trigger.queue == q) (later.stands ∙ ap (λ es. es ++ later.more) (put-one f.id trigger k (trigger.queue == q) refl))
            where
              of : (a b : Bool) → table_events name (events q (marked g f.rest)) ≡ (table_events name (events q k) ++ (if a && b then e ∷ [] else [])) ++ later.more
                  → AddsTo (if a && (b && true) then trigger ∷ filter hits ts else filter hits ts) (event_marks trigger.queue e ++ f.rest) k
              of true true stands = record { more = e ∷ later.more; pairs = one_more f.id trigger later.pairs; stands = stands ∙ append_assoc (table_events name (events q k)) (e ∷ []) later.more }
              of true false stands = record { more = later.more; pairs = later.pairs; stands = stands ∙ ap (λ es. es ++ later.more) (append-nil (table_events name (events q k))) }
              of false b stands = record { more = later.more; pairs = later.pairs; stands = stands ∙ ap (λ es. es ++ later.more) (append-nil (table_events name (events q k))) }

-- ---- what they say

-- an event says what a write did
pub record Says (columns : List Column) (e : Event) (w : Written) : Type 0 where
  pub by : e.ev_txid ≡ w.by
  pub did : Change
  pub is : change_of columns e ≡ Some did
  pub key : key_of columns did.row ≡ w.key
  pub does : (rows : Entries (List Val)) → after_op did.op w.key did.row rows ≡ rows_of.put w.key w.new rows
  pub may : (rows : Entries (List Val)) → at w.key rows ≡ w.old → may_do did.op w.key rows ≡ true

-- a write by this transaction of a table of this name
abbrev pub write_in_table : List ℕ → List Column → (old new : Option (List Val)) → TracedWrite
write_in_table name columns old new = record { table = name; columns = columns; old = old; new = new }

-- a row is read back from its text
reads : (columns : List Column) (key row : List Val) → IsTableOf columns → IsRowOf columns key row → AreHeld row → result_ok (read_row columns (row_text columns row)) ≡ Some row
reads columns key row is fits held = ap result_ok (read_back columns row is.apart fits.0 (holds-all columns row is.words held) is.named)

change-is : (columns : List Column) (op : Op) (row : List Val) (e : Event) → e.ev_type ≡ Some (event_type op columns) → e.ev_data ≡ Some (row_text columns row)
    → result_ok (read_row columns (row_text columns row)) ≡ Some row → change_of columns e ≡ Some (record { op = op; row = row })
change-is columns op row e kind text back =
    (λ i. option_and_then (λ name. option_and_then (λ o. option_and_then (λ body. option_and_then (λ r. Some (record { op = o; row = r })) (result_ok (read_row columns body))) (text i)) (change.op_named name)) (kind i))
    ∙ ap (λ o. option_and_then (λ x. option_and_then (λ r. Some (record { op = x; row = r })) (result_ok (read_row columns (row_text columns row)))) o) (op-read op columns)
    ∙ ap (λ o. option_and_then (λ r. Some (record { op = op; row = r })) o) back

-- the event of a set's trigger says it
pub says-set : (name : List ℕ) (columns : List Column) (id : ℕ) (now : ℤ) (q t : ℕ) (key : List Val) (old new : Option (List Val)) (listed : Bool) → IsTableOf columns → (old ≡ None → is_some new ≡ true)
    → IfSome old (IsRowOf columns key) → IfSome new (IsRowOf columns key) → IfSome old AreHeld → IfSome new AreHeld
    → Says columns (told_event id now t (event_of (write_in_table name columns old new) (set_trigger q))) (record { by = t; key = key; old = old; new = new; listed = listed })
says-set name columns id now q t key None None listed is some fits_old fits_new held_old held_new = absurd (cc (some refl))
says-set name columns id now q t key None (Some row) listed is some fits_old fits_new held_old held_new = record {
  by = refl;
  did = record { op = Insert; row = row };
  is = change-is columns Insert row (told_event id now t (event_of (write_in_table name columns None (Some row)) (set_trigger q))) refl refl (reads columns key row is fits_new held_new);
  key = fits_new.1;
  does = λ rows. refl;
  may = λ rows there. ap is_none there;
}
says-set name columns id now q t key (Some row) None listed is some fits_old fits_new held_old held_new = record {
  by = refl;
  did = record { op = Delete; row = row };
  is = change-is columns Delete row (told_event id now t (event_of (write_in_table name columns (Some row) None) (set_trigger q))) refl refl (reads columns key row is fits_old held_old);
  key = fits_old.1;
  does = λ rows. refl;
  may = λ rows there. ap is_some there;
}
says-set name columns id now q t key (Some row) (Some next) listed is some fits_old fits_new held_old held_new = record {
  by = refl;
  did = record { op = Update; row = next };
  is = change-is columns Update next (told_event id now t (event_of (write_in_table name columns (Some row) (Some next)) (set_trigger q))) refl refl (reads columns key next is fits_new held_new);
  key = fits_new.1;
  does = λ rows. refl;
  may = λ rows there. ap is_some there;
}

-- ---- events that say what writes did

-- the events, the oldest first, say what the writes did, the newest first, of those that were made while the table was in the set
pub data Tells (columns : List Column) : List Event → List Written → Type 0 where
  none_told : Tells columns [] []
  untold : {es : List Event} {ws : List Written} (w : Written) → w.listed ≡ false → Tells columns es ws → Tells columns es (w ∷ ws)
  told : {es : List Event} {ws : List Written} (w : Written) (e : Event) → Says columns e w → Tells columns es ws → Tells columns (es ++ e ∷ []) (w ∷ ws)

-- a set's trigger ignores nothing
pub ignores-none : (q : ℕ) (columns : List Column) (old new : Option (List Val)) → leaves_out (set_trigger q) columns old new ≡ false
ignores-none q columns None new = refl
ignores-none q columns (Some old) None = refl
ignores-none q columns (Some old) (Some new) = of (changed_columns columns old new)
  where
    of : (names : List (List ℕ)) → (nat_lt 0 (length names) && list_all (λ name. list_any (bytes_eq name) []) names) ≡ false
    of [] = refl
    of (x ∷ xs) = grind arith
