-- How a queue is set anew.
use Rattle.std.proofs.Common.{◌≡◌, ℕ, List, [], ◌∷◌, ◌++◌, Option, Some, None, Result, Ok, Err, true, is_ok, refl, sym, ◌∙◌, ap, subst}
use Rattle.std.specs.Prelude.{ok_or}
use Rattle.sky_model.specs.declared.stmt.QueueSetting.{QueueSetting}
use Rattle.sky_model.specs.declared.reply.Reply.{Reply}
use Rattle.sky_model.specs.declared.reply.Reply.TheVariants.{Number}
use Rattle.sky_model.specs.declared.reply.Refusal.{Refusal}
use Rattle.sky_model.specs.declared.reply.Refusal.TheVariants.{NoParam, BadValue}
use Rattle.sky_model.specs.Config.{Config, Param, param_of, configured_by}
use Rattle.sky_model.specs.History.{queued, configured}
use Rattle.sky_model.specs.State.{Database, after_mark}
use Rattle.sky_model.specs.Outcome.{Outcome, Checked, ◌>>=◌, found_or, does_marks}
use Rattle.sky_model.specs.StepQueue.{queue_called, set_queue_config}
use Rattle.pgq_tick.specs.declared.config.ConfigFault.{ConfigFault}
use Rattle.pgq_tick.specs.declared.config.ConfigFault.TheVariants as fault
use Rattle.pgq_tick.specs.Config.{set_to}
use Rattle.pgq_parts.proofs.Databases.{Runs}
use Rattle.pgq_parts.specs.Configured.{refusal_for, configured_as, Configures}
use Rattle.sky_model.specs.Stops.{Refuses}
use Rattle.sky_state.specs.Seen.{seen}
use Rattle.pgq_queues.specs.Views.{QueuesView}
use Rattle.pgq_queues.specs.Seen.{queue_at, seen_with, Beside}
use Rattle.pgq_parts.specs.Views.{DbView}
use Rattle.pgq_parts.specs.Seen.{with_node, seen_database}

-- a parameter is set as it is by the queue's settings
abbrev as_checked : List ℕ → Result Config ConfigFault → Checked Config
as_checked param (Ok c) = Ok c
as_checked param (Err f) = Err (refusal_for param f)

set-checked : (c : Config) (param value : List ℕ) → configured_as c param value ≡ as_checked param (set_to c (param_of param) value)
set-checked c param value = by (param_of param)
  where
    of : (o : Option Config) → found_or o (BadValue param) ≡ as_checked param (ok_or o fault.BadValue)
    of None = refl
    of (Some config) = refl

    by : (o : Option Param) → (found_or o (NoParam param) >>= (λ p. found_or (configured_by c p value) (BadValue param))) ≡ as_checked param (set_to c o value)
    by None = refl
    by (Some p) = of (configured_by c p value)

pub set-done : (c : Config) (old new : Database) (queue : ℕ) (param value : List ℕ) → is_ok (set_to c (param_of param) value) ≡ true
    → ((config : Config) → set_to c (param_of param) value ≡ Ok config → new ≡ after_mark old (queued (configured queue config))) → Configures old new queue (configured_as c param value)
set-done c old new queue param value done marked = subst (Configures old new queue) (sym (set-checked c param value)) (by (set_to c (param_of param) value) refl done)
  where
    by : (r : Result Config ConfigFault) → set_to c (param_of param) value ≡ r → is_ok r ≡ true → Configures old new queue (as_checked param r)
    by (Ok config) is done = marked config is
    by (Err f) is done = absurd (cc)

pub set-refused : (c : Config) (param value : List ℕ) (f : ConfigFault) → set_to c (param_of param) value ≡ Err f → configured_as c param value ≡ Err (refusal_for param f)
set-refused c param value f is = set-checked c param value ∙ ap (as_checked param) is

-- a statement whose parameter is set
config-form : (d : Database) (setting : QueueSetting) (q : ℕ) → queue_called setting.queue d ≡ Ok q
    → set_queue_config d setting ≡ (configured_as (d.queue q).config setting.param setting.value >>= (λ c. does_marks (Number 1) (queued (configured q c) ∷ [])))
config-form d setting q is = ap (λ x. x >>= sets) is ∙ by (param_of setting.param)
  where
    sets : ℕ → Checked Outcome
    sets queue =
        found_or (param_of setting.param) (NoParam setting.param) >>= (λ p. found_or (configured_by (d.queue queue).config p setting.value) (BadValue setting.param) >>= (λ c. does_marks (Number 1) (queued (configured queue c) ∷ [])))

    by : (o : Option Param)
        → (found_or o (NoParam setting.param) >>= (λ p. found_or (configured_by (d.queue q).config p setting.value) (BadValue setting.param) >>= (λ c. does_marks (Number 1) (queued (configured q c) ∷ []))))
        ≡ ((found_or o (NoParam setting.param) >>= (λ p. found_or (configured_by (d.queue q).config p setting.value) (BadValue setting.param))) >>= (λ c. does_marks (Number 1) (queued (configured q c) ∷ [])))
    by None = refl
    by (Some p) = refl

pub gives-config : (d s : Database) (who : ℕ) (setting : QueueSetting) (q : ℕ) (before after : List (ℕ × Reply)) → queue_called setting.queue d ≡ Ok q
    → Configures d s q (configured_as (d.queue q).config setting.param setting.value) → after ≡ before ++ (who, Number 1) ∷ [] → Runs d s before after who (set_queue_config d setting)
gives-config d s who setting q before after is set pushed =
    subst (Runs d s before after who) (sym (config-form d setting q is)) (by (configured_as (d.queue q).config setting.param setting.value) set)
  where
    by : (x : Checked Config) → Configures d s q x → Runs d s before after who (x >>= (λ c. does_marks (Number 1) (queued (configured q c) ∷ [])))
    by (Ok c) set = (record { accepted = refl; replied = pushed; changed = set }, tt)
    by (Err refusal) set = absurd set

-- the same of a database by its queues
pub configures-as : (v now : DbView) (queues : QueuesView) (queue : ℕ) (param value p w : List ℕ) → v ≡ now → p ≡ param → w ≡ value
    → is_ok (set_to (queue_at v.queues queue).config (param_of p) w) ≡ true
    → ((beside : Beside) (config : Config) → set_to (queue_at v.queues queue).config (param_of p) w ≡ Ok config → seen_with beside queues ≡ after_mark (seen_with beside v.queues) (queued (configured queue config)))
    → Configures (seen_database now) (seen_database (record v { queues = queues })) queue (configured_as (queue_at now.queues queue).config param value)
configures-as v now queues queue param value p w same one two done marked =
    subst (λ (x : DbView). Configures (seen_database x) (seen_database (record v { queues = queues })) queue (configured_as (queue_at x.queues queue).config param value)) same
    (set-done c (seen_database v) (seen_database (record v { queues = queues })) queue param value ((λ i. is_ok (set_to c (param_of (sym one i)) (sym two i))) ∙ done)
    (λ config is. marked (with_node v.node (seen v.rows)) config ((λ i. set_to c (param_of (one i)) (two i)) ∙ is)))
  where
    c : Config
    c = (queue_at v.queues queue).config

pub refuses-as : (v now : DbView) (queues : QueuesView) (queue : ℕ) (param value p w : List ℕ) (fault : ConfigFault) (refusal : Refusal) → v ≡ now → p ≡ param → w ≡ value
    → set_to (queue_at v.queues queue).config (param_of p) w ≡ Err fault → ((beside : Beside) → seen_with beside queues ≡ seen_with beside v.queues) → refusal ≡ refusal_for param fault
    → Refuses (seen_database now) (seen_database (record v { queues = queues })) refusal (configured_as (queue_at now.queues queue).config param value)
refuses-as v now queues queue param value p w fault refusal same one two is kept why =
    let c : Config = (queue_at v.queues queue).config in
    record {
      refused = ap (λ (x : DbView). configured_as (queue_at x.queues queue).config param value) (sym same)
          ∙ set-refused c param value fault ((λ i. set_to c (param_of (sym one i)) (sym two i)) ∙ is) ∙ ap (λ r. Err r) (sym why);
      same = kept (with_node v.node (seen v.rows)) ∙ ap seen_database same;
    }
