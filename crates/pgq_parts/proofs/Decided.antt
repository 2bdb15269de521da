-- A statement whose tests come first: it stops at one of them, or does what they decided.
use Rattle.std.proofs.Common.{Err, ◌≡◌, ℕ, ◌<◌, List, [], ◌∷◌, ◌++◌, true, false, nat_le, length, option_map, Some, Ok, refl, sym, ◌∙◌, ap, subst, arith}
use Rattle.std.proofs.lemmas.Bool.Decides.{nat_tests}
use Rattle.std.specs.Prelude.{find, not}
use Rattle.sky_names.specs.Places.{place_of}
use Rattle.sky_model.specs.declared.stmt.AddedTrigger.{AddedTrigger}
use Rattle.sky_model.specs.declared.reply.Reply.{Reply}
use Rattle.sky_model.specs.declared.reply.Reply.TheVariants.{Done}
use Rattle.sky_model.specs.declared.reply.Limit.TheVariants.{Triggers}
use Rattle.sky_model.specs.declared.reply.Refusal.TheVariants.{BadColumn, NoTable, SetQueue, TableBusy, TooMany, TriggerExists}
use Rattle.sky_model.specs.declared.stop.Stop.{Stop}
use Rattle.sky_model.specs.declared.stop.Stop.TheVariants as stops
use Rattle.sky_model.specs.History.{QueueMark, queued, traced}
use Rattle.sky_model.specs.Nodes.{is_set_queue}
use Rattle.sky_model.specs.Outcome.{Outcome, Checked, ◌>>=◌, ◌>>◌, refused_if, refused_by, found_or, does_marks}
use Rattle.sky_model.specs.Printed.{ReplyHasMoments}
use Rattle.sky_model.specs.ShownRows.{least_writer}
use Rattle.sky_model.specs.State.{RowPart, Database, after_mark}
use Rattle.sky_model.specs.StepQueue.{queue_called}
use Rattle.sky_model.specs.StepTrigger.{has_trigger, may_ignore, add_trigger}
use Rattle.sky_model.specs.Stops.{Stops, StopsAs, Keeps}
use Rattle.sky_model.specs.Triggers.{TableTrigger, triggers_of}
use Rattle.pgq_parts.specs.Triggering.{queue_of_no_set, trigger_fits}
use Rattle.pgq_parts.proofs.Databases.{Runs}

-- it stops, and has changed nothing
pub stops-there : {S A B : Type 0} (stop : Stop) (s : S) (replies : B) (checked : Checked A) → StopsAs stop checked → Stops stop s s checked × Keeps stop replies replies
stops-there (stops.Refused refusal) s replies checked is = (record { refused = is; same = refl }, refl)
stops-there stops.NoMemory s replies checked is = (tt, tt)

-- it makes one mark
pub does-mark : (d s : Database) (before after : List (ℕ × Reply)) (who : ℕ) (reply : Reply) (mark : QueueMark) (checked : Checked Outcome) → checked ≡ does_marks reply (queued mark ∷ [])
    → s ≡ after_mark d (queued mark) → after ≡ before ++ (who, reply) ∷ [] → ReplyHasMoments reply → Runs d s before after who checked
does-mark d s before after who reply mark checked decided changed pushed moments = subst (Runs d s before after who) (sym decided) (record { accepted = refl; replied = pushed; changed = changed }, moments)

-- ---- the tests of `add_trigger`

-- a trigger that is to ignore a column that it may not, or memory ran out
pub bad-column : (part : RowPart) (triggers : List TableTrigger) (n : ℕ) (name : List ℕ) (ignored : List (List ℕ)) → has_trigger name (triggers_of n triggers) ≡ false → length (triggers_of n triggers) < 8
    → (stop : Stop) → StopsAs stop (refused_by (option_map BadColumn (find (λ x. not (may_ignore (part.columns n) x)) ignored))) → StopsAs stop (trigger_fits part triggers n name ignored)
bad-column part triggers n name ignored new few stops.NoMemory bad = tt
bad-column part triggers n name ignored new few (stops.Refused refusal) bad =
    λ i. refused_if (new i) (TriggerExists name) >> (refused_if (free i) (TooMany Triggers) >> (bad i >> refused_by (option_map TableBusy (least_writer part n))))
  where
    free : nat_le 8 (length (triggers_of n triggers)) ≡ false
    free = grind (arith, nat_tests)

-- the queue of a name, which may be no set's
pub not-there : (queue : List ℕ) (d : Database) (stop : Stop) → StopsAs stop (queue_called queue d) → StopsAs stop (queue_of_no_set queue d)
not-there queue d stops.NoMemory is = tt
not-there queue d (stops.Refused refusal) is = ap (λ c. c >>= (λ q. refused_if (is_set_queue queue d.node) SetQueue >> Ok q)) is

pub is-sets : (queue : List ℕ) (d : Database) (n : ℕ) → queue_called queue d ≡ Ok n → is_set_queue queue d.node ≡ true → queue_of_no_set queue d ≡ Err SetQueue
is-sets queue d n is set = λ i. is i >>= (λ q. refused_if (set i) SetQueue >> Ok q)

pub is-free : (queue : List ℕ) (d : Database) (n : ℕ) → queue_called queue d ≡ Ok n → is_set_queue queue d.node ≡ false → queue_of_no_set queue d ≡ Ok n
is-free queue d n is unset = λ i. is i >>= (λ q. refused_if (unset i) SetQueue >> Ok q)

module _ (d : Database) (asked : AddedTrigger) where
  -- the tests of a table, in their order
  abbrev is_new : ℕ → Checked (Unit {0})
  is_new t = refused_if (has_trigger asked.name (triggers_of t d.triggers)) (TriggerExists asked.name)

  abbrev has_room : ℕ → Checked (Unit {0})
  has_room t = refused_if (nat_le 8 (length (triggers_of t d.triggers))) (TooMany Triggers)

  abbrev ignores : ℕ → Checked (Unit {0})
  ignores t = refused_by (option_map BadColumn (find (λ x. not (may_ignore (d.part.columns t) x)) asked.ignored))

  abbrev is_idle : ℕ → Checked (Unit {0})
  is_idle t = refused_by (option_map TableBusy (least_writer d.part t))

  abbrev marks_made : ℕ → ℕ → Checked Outcome
  marks_made t q = does_marks Done (queued (traced t (Some asked.name) (record { queue = q; backup = asked.backup; ignored = asked.ignored })) ∷ [])

  -- what is left once the table's number is known, and its queue's
  abbrev of_queue : ℕ → ℕ → Checked Outcome
  of_queue t q = is_new t >> (has_room t >> (ignores t >> (is_idle t >> marks_made t q)))

  abbrev of_table : ℕ → Checked Outcome
  of_table t = queue_called asked.queue d >>= (λ q. refused_if (is_set_queue asked.queue d.node) SetQueue >> of_queue t q)

  -- four tests as one
  tested : (a b c e : Checked (Unit {0})) (rest : Checked Outcome) → (a >> (b >> (c >> e))) ≡ Ok tt → (a >> (b >> (c >> (e >> rest)))) ≡ rest
  tested (Ok u) (Ok v) (Ok w) (Ok x) rest is = refl
  tested (Ok u) (Ok v) (Ok w) (Err r) rest is = absurd (cc)
  tested (Ok u) (Ok v) (Err r) e rest is = absurd (cc)
  tested (Ok u) (Err r) c e rest is = absurd (cc)
  tested (Err r) b c e rest is = absurd (cc)

  failed : (a b c e : Checked (Unit {0})) (rest : Checked Outcome) (stop : Stop) → StopsAs stop (a >> (b >> (c >> e))) → StopsAs stop (a >> (b >> (c >> (e >> rest))))
  failed a b c e rest stops.NoMemory is = tt
  failed (Ok u) (Ok v) (Ok w) (Err r) rest (stops.Refused refusal) is = cc
  failed (Ok u) (Ok v) (Ok w) (Ok x) rest (stops.Refused refusal) is = absurd (cc)
  failed (Ok u) (Ok v) (Err r) e rest (stops.Refused refusal) is = cc
  failed (Ok u) (Err r) c e rest (stops.Refused refusal) is = cc
  failed (Err r) b c e rest (stops.Refused refusal) is = cc

  -- a test before what depends on the value
  guarded : (known : Checked ℕ) (test : Checked (Unit {0})) (next : ℕ → Checked Outcome) (stop : Stop) → StopsAs stop (known >>= (λ q. test >> Ok q)) → StopsAs stop (known >>= (λ q. test >> next q))
  guarded known test next stops.NoMemory is = tt
  guarded (Err r) test next (stops.Refused refusal) is = cc
  guarded (Ok q) (Err r) next (stops.Refused refusal) is = cc
  guarded (Ok q) (Ok u) next (stops.Refused refusal) is = absurd (cc)

  past : (known : Checked ℕ) (test : Checked (Unit {0})) (next : ℕ → Checked Outcome) (n : ℕ) → (known >>= (λ q. test >> Ok q)) ≡ Ok n → (known >>= (λ q. test >> next q)) ≡ next n
  past (Err r) test next n is = absurd (cc)
  past (Ok q) (Err r) next n is = absurd (cc)
  past (Ok q) (Ok u) next n is = let same : q ≡ n = cc in ap next same

  there : (t : ℕ) → place_of asked.table d.part.tables ≡ Some t → add_trigger d asked ≡ of_table t
  there t is = ap (λ o. found_or o (NoTable asked.table) >>= of_table) is

  pub no-queue : (t : ℕ) → place_of asked.table d.part.tables ≡ Some t → (stop : Stop) → StopsAs stop (queue_of_no_set asked.queue d) → StopsAs stop (add_trigger d asked)
  no-queue t is stop bad = subst (StopsAs stop) (sym (there t is)) (guarded (queue_called asked.queue d) (refused_if (is_set_queue asked.queue d.node) SetQueue) (of_queue t) stop bad)

  known : (t q : ℕ) → place_of asked.table d.part.tables ≡ Some t → queue_of_no_set asked.queue d ≡ Ok q → add_trigger d asked ≡ of_queue t q
  known t q is at = there t is ∙ past (queue_called asked.queue d) (refused_if (is_set_queue asked.queue d.node) SetQueue) (of_queue t) q at

  pub no-fit : (t q : ℕ) → place_of asked.table d.part.tables ≡ Some t → queue_of_no_set asked.queue d ≡ Ok q → (stop : Stop) → StopsAs stop (trigger_fits d.part d.triggers t asked.name asked.ignored)
      → StopsAs stop (add_trigger d asked)
  no-fit t q is at stop bad = subst (StopsAs stop) (sym (known t q is at)) (failed (is_new t) (has_room t) (ignores t) (is_idle t) (marks_made t q) stop bad)

  pub adds : (t q : ℕ) → place_of asked.table d.part.tables ≡ Some t → queue_of_no_set asked.queue d ≡ Ok q → trigger_fits d.part d.triggers t asked.name asked.ignored ≡ Ok tt
      → (trigger : TableTrigger) → trigger ≡ record { table = t; name = Some asked.name; trigger = record { queue = q; backup = asked.backup; ignored = asked.ignored } }
      → add_trigger d asked ≡ does_marks Done (queued (traced trigger.table trigger.name trigger.trigger) ∷ [])
  adds t q is at fits trigger made = known t q is at ∙ tested (is_new t) (has_room t) (ignores t) (is_idle t) (marks_made t q) fits ∙ ap (λ (x : TableTrigger). does_marks Done (queued (traced x.table x.name x.trigger) ∷ [])) (sym made)
