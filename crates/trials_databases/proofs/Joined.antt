-- A consumer that may not join again is registered.
use Rattle.std.proofs.Common.{◌≡◌, ℕ, ◌+◌, ◌^◌, List, ◌∷◌, [], ◌++◌, Bool, true, false, nat_le, Option, Some, None, Err, Result, IfErr, is_ok, is_some, option_map, unwrap_or, length, refl, ap, sym, subst}
use Rattle.sky_model.specs.declared.reply.Refusal.TheVariants.{ConsumerExists, IdsSpent, TooMany}
use Rattle.sky_model.specs.declared.reply.Limit.TheVariants.{Consumers}
use Rattle.sky_model.specs.declared.reply.Reply.TheVariants.{Number}
use Rattle.sky_model.specs.History.{queued, registered, noded, joined}
use Rattle.sky_model.specs.State.{Database}
use Rattle.sky_model.specs.Outcome.{Checked, Outcome, ◌>>=◌, ◌>>◌, refused_if, does_marks}
use Rattle.sky_model.specs.StepQueue.{newest_id}
use Rattle.sky_model.specs.Stops.{Refuses}
use Rattle.londiste_calls.specs.declared.faults.JoinFault.{JoinFault}
use Rattle.londiste_calls.specs.declared.faults.JoinFault.TheVariants as fault
use Rattle.sky_store.specs.Served.{JoinRefused}
use Rattle.sky_model.specs.StepNode.{set_queue, has_joined, joins, joining, if_there, node_does}

abbrev registers-by : Database → ℕ → List ℕ → (full spent : Bool) → Checked Outcome
registers-by d q consumer full spent = refused_if full (TooMany Consumers) >> (refused_if spent IdsSpent
    >> does_marks (Number 1) (queued (registered q consumer (d.last_sub_id + 1) (newest_id (d.queue q))) ∷ []))

abbrev joins-by : Database → ℕ → List ℕ → (there full spent : Bool) → Checked Outcome
joins-by d q consumer there full spent = refused_if there (ConsumerExists consumer) >> (registers-by d q consumer full spent
    >>= (λ registering. does_marks (Number (newest_id (d.queue q))) (registering.marks ++ noded (joined consumer) ∷ [])))

only-there : (d : Database) (q : ℕ) (consumer : List ℕ) (there full spent : Bool) → joins-by d q consumer there full spent ≡ Err (ConsumerExists consumer) → there ≡ true
only-there d q consumer true full spent is = refl
only-there d q consumer false true spent is = absurd (cc)
only-there d q consumer false false true is = absurd (cc)
only-there d q consumer false false false is = let bad : true ≡ false = ap is_ok is in absurd (cc)

joined-if : (d : Database) (consumer : List ℕ) → node_does d (joining consumer) ≡ Err (ConsumerExists consumer) → has_joined d consumer ≡ true
joined-if d consumer is = of (set_queue d) is
  where
    of : (o : Option ℕ) → if_there o (λ queue. joins d queue consumer) ≡ Err (ConsumerExists consumer) → unwrap_or (option_map (λ queue. is_some ((d.queue queue).sub consumer)) o) false ≡ true
    of None is = absurd (cc)
    of (Some q) is = only-there d q consumer (is_some ((d.queue q).sub consumer)) (nat_le 256 (length (d.queue q).members)) (nat_le (2 ^ 64) (d.last_sub_id + 1)) is

pub joined-after : (r : Result ℕ JoinFault) (old new : Database) (consumer : List ℕ) → r ≡ Err fault.ConsumerExists → IfErr r (λ f. JoinRefused f old new consumer) → has_joined new consumer ≡ true
joined-after r old new consumer is refused =
    let told : Refuses old new (ConsumerExists consumer) (node_does old (joining consumer)) = subst (λ x. IfErr x (λ f. JoinRefused f old new consumer)) is refused in
    subst (λ (d : Database). has_joined d consumer ≡ true) (sym told.same) (joined-if old consumer told.refused)
