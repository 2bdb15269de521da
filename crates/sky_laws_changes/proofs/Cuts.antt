-- Each history that calls in form make is cut into pieces: plain marks, writes with the events that record them, and the few others.
use Rattle.std.proofs.Common.{◌≡◌, ℕ, ℤ, List, [], ◌∷◌, true, false, Option, Some, None, Ok, IfSome, is_some, refl, sym, ◌∙◌, ap, subst, if◌then◌else◌, filter}
use Rattle.sky_val.specs.declared.val.Val.{Val}
use Rattle.sky_val.specs.declared.event.Event.{Event}
use Rattle.pgq_retry.specs.declared.retry.Retry.{Retry}
use Rattle.sky_model.specs.History.{Whose, Mark, of_session, tabled, wrote, queued, made, raised, put, returned, traced, untraced, noded, root_made, set_added, set_removed, leaf_made, History}
use Rattle.sky_model.specs.Nodes.{node, is_leaf, set_tables}
use Rattle.sky_model.specs.Queues.{queues}
use Rattle.sky_model.specs.State.{Database, database_of}
use Rattle.sky_model.specs.Triggers.{is_sets, triggers}
use Rattle.sky_model.specs.StepQueue.{tells_of_rows}
use Rattle.sky_model.specs.StepNode.{set_trigger}
use Rattle.sky_model.specs.Retries.{brought_by}
use Rattle.sky_model.specs.Rows.{table_names}
use Rattle.sky_model.specs.LawsOfNodes.{is_one_of, triggers_into}
use Rattle.sky_model.specs.Telling.{events_of_write, told_of}
use Rattle.sky_model.specs.Settling.{marked}
use Rattle.sky_histories.proofs.Legal.{queue_of_set}
use Rattle.sky_histories.proofs.NodeReadings.{same-node}
use Rattle.sky_histories.proofs.Telling.{EventMarks, told_by-events}
use Rattle.sky_histories.proofs.Inserted.{Inserted, none, with_raised, with_put}
use Rattle.sky_laws_changes.proofs.HeldValues.{AreHeld}
use Rattle.sky_laws_changes.proofs.HeldRows.{AllHeld}
use Rattle.sky_laws_changes.proofs.PlainMarks.{Plain}

-- a session's write, and a copy's
abbrev pub write_of : (who t table : ℕ) → List Val → (old new : Option (List Val)) → Mark
write_of who t table key old new = tabled (wrote (of_session who) t table key old new)

-- each table of the set has the set's trigger, and no other table has one
abbrev pub Tracing : History → Type 0
Tracing h = (n : ℕ) → filter (is_sets n) (triggers h) ≡ (if is_one_of (table_names h) (set_tables (node h)) n then triggers_into n (queue_of_set (queues h) (node h)) else [])

-- a history is cut into pieces
pub data Cut : History → Type 0 where
  nothing : Cut []
  -- a plain mark
  plain : {h : History} (mark : Mark) → Cut h → Plain mark → Cut (mark ∷ h)
  -- a session's write, with the events that record it
  writes : {h : History} (who t table : ℕ) (key : List Val) (old new : Option (List Val)) (time : ℤ) (events : List Mark) → Cut h
      → told_of (database_of (write_of who t table key old new ∷ h)) time (write_of who t table key old new) ≡ Ok events
      → (old ≡ None → is_some new ≡ true) → (is_leaf (node h) ≡ false → IfSome new AreHeld) → Cut (marked (write_of who t table key old new ∷ h) events)
  -- a write that nothing records, in a leaf's database
  leaf_writes : {h : History} (whose : Whose) (t table : ℕ) (key : List Val) (old new : Option (List Val)) → Cut h → is_leaf (node h) ≡ true → Cut (tabled (wrote whose t table key old new) ∷ h)
  -- an event that a session stores, whose type isn't reserved if the queue is the set's
  inserts : {h : History} (q value : ℕ) (e : Event) → Cut h → (queue_of_set (queues h) (node h) ≡ Some q → tells_of_rows e.ev_type ≡ false) → Cut (queued (put q e) ∷ queued (raised q value) ∷ h)
  -- a retry that comes back
  returns : {h : History} (retry : Retry) (t : ℕ) (moment : ℤ) → Cut h → Cut (queued (returned retry moment) ∷ queued (put retry.queue (brought_by t retry.event)) ∷ h)
  -- a table that joins a set; one that leaves it
  lists : {h : History} (name : List ℕ) (table q : ℕ) → Cut h → Tracing (queued (traced table None (set_trigger q)) ∷ noded (set_added name) ∷ h)
      → Cut (queued (traced table None (set_trigger q)) ∷ noded (set_added name) ∷ h)
  unlists : {h : History} (name : List ℕ) (table : ℕ) → Cut h → Tracing (queued (untraced table) ∷ noded (set_removed name) ∷ h) → Cut (queued (untraced table) ∷ noded (set_removed name) ∷ h)
  -- a root, with the queue of its set
  roots : {h : History} (name queue : List ℕ) (t : ℕ) (time : ℤ) → Cut h → node h ≡ None → Cut (noded (root_made name queue) ∷ queued (made queue t time) ∷ h)

-- ---- events that record a write leave all but the queues

-- marks of events alone
abbrev pub Events : List Mark → Type 0
Events marks = Inserted [] marks

pub node-events : (h : History) (marks : List Mark) → Events marks → node (marked h marks) ≡ node h
node-events h _ none = refl
node-events h _ (with_raised {ys = ys} queue value more) = node-events (queued (raised queue value) ∷ h) ys more
node-events h _ (with_put {ys = ys} queue event more) = node-events (queued (put queue event) ∷ h) ys more

held-events : (h : History) (marks : List Mark) → Events marks → AllHeld h → AllHeld (marked h marks)
held-events h _ none held = held
held-events h _ (with_raised {ys = ys} queue value more) held = held-events (queued (raised queue value) ∷ h) ys more held
held-events h _ (with_put {ys = ys} queue event more) held = held-events (queued (put queue event) ∷ h) ys more held

-- ---- what is written is held, unless the database is a leaf's

leaf-plain : (h : History) (mark : Mark) → Plain mark → is_leaf (node (mark ∷ h)) ≡ false → is_leaf (node h) ≡ false
leaf-plain h (noded (root_made name queue)) is e = absurd is
leaf-plain h (noded (set_added table)) is e = absurd is
leaf-plain h (noded (set_removed table)) is e = absurd is
leaf-plain h (noded (leaf_made name provider tick)) is e = absurd (cc)
leaf-plain h (noded mark) is e = sym (same-node mark refl (node h)).leaf ∙ e
leaf-plain h _ is e = e

held-plain : (h : History) (mark : Mark) → Plain mark → AllHeld h → AllHeld (mark ∷ h)
held-plain h (tabled (wrote whose t n key old new)) is held = absurd is
held-plain h _ is held = held

pub told-only : (h : History) (time : ℤ) (mark : Mark) (events : List Mark) → told_of (database_of (mark ∷ h)) time mark ≡ Ok events → Events events
told-only h time mark events same = subst EventMarks same (told_of-events (database_of (mark ∷ h)) time mark)
  where
    told_of-events : (d : Database) (now : ℤ) (m : Mark) → EventMarks (told_of d now m)
    told_of-events d now (tabled (wrote (of_session who) t table key old new)) = told_by-events d now t (events_of_write d table old new)
    told_of-events d now _ = none

pub cut-held : (h : History) → Cut h → is_leaf (node h) ≡ false → AllHeld h
cut-held _ nothing free = tt
cut-held _ (plain {h = h} mark cut is) free = held-plain h mark is (cut-held h cut (leaf-plain h mark is free))
cut-held _ (writes {h = h} who t table key old new time events cut told some held) free =
    let only : Events events = told-only h time (write_of who t table key old new) events told in
    let was : is_leaf (node h) ≡ false = ap is_leaf (sym (node-events (write_of who t table key old new ∷ h) events only)) ∙ free in
    held-events (write_of who t table key old new ∷ h) events only (held was, cut-held h cut was)
cut-held _ (leaf_writes whose t table key old new cut leaf) free = absurd (cc (sym leaf ∙ free))
cut-held _ (inserts {h = h} q value e cut is) free = cut-held h cut free
cut-held _ (returns {h = h} retry t moment cut) free = cut-held h cut free
cut-held _ (lists {h = h} name table q cut traces) free = cut-held h cut (sym (same-node (set_added name) refl (node h)).leaf ∙ free)
cut-held _ (unlists {h = h} name table cut traces) free = cut-held h cut (sym (same-node (set_removed name) refl (node h)).leaf ∙ free)
cut-held _ (roots {h = h} name queue t time cut bare) free = cut-held h cut (ap is_leaf bare)
