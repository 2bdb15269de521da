-- The law on owners, call by call.
use Rattle.std.proofs.Common.{◌≡◌, ℕ, ◌<◌, List, [], ◌∷◌, true, false, All, refl, sym, ◌∙◌}
use Rattle.std.proofs.lemmas.List.Elements.{All-nil, All-tail}
use Rattle.sky_model.specs.History.{Mark, queued, noded, joined, History, registered, put, asked}
use Rattle.sky_model.specs.Queues.{tick}
use Rattle.sky_model.specs.Consumers.{last_subscription}
use Rattle.sky_model.specs.State.{database_of}
use Rattle.sky_model.specs.Outcome.{marks_of}
use Rattle.sky_model.specs.Promises.{after_all}
use Rattle.sky_model.specs.Reader.{database_by_history}
use Rattle.sky_model.specs.Settling.{marked}
use Rattle.sky_model.specs.StepNode.{NodeCall, joining, node_does}
use Rattle.sky_model.specs.DatabaseCalls.{DatabaseCall, IsDatabaseCallInForm, served, database_does, database_part}
use Rattle.sky_histories.proofs.Legal.{Legal}
use Rattle.sky_histories.proofs.Histories.{legal_calls}
use Rattle.sky_laws.proofs.Subscriptions.{subscriptions_are_distinct}
use Rattle.sky_histories.proofs.NodeReadings.{set-number}
use Rattle.sky_model.specs.CallPermits.{CallMarkKinds, may_be_left, kinds_of_call}
use Rattle.sky_laws_replicas.proofs.CallMarks.{each-does}
use Rattle.sky_laws_replicas.proofs.SessionsMarks.{sessions-does}
use Rattle.sky_laws_synced.specs.LawsOfOwners.{NodesEventsHaveNoOwner}
use Rattle.sky_laws_synced.proofs.ConsumersMarks.{spares-does}
use Rattle.sky_laws_synced.proofs.Owners.{IsClean}
use Rattle.sky_laws_synced.proofs.OwnersCalls.{Distinct, unasks-does}
use Rattle.sky_laws_synced.proofs.OwnersLaw.{does-clean, fresh-clean, NodesClean, sessions-clean, is_unjoined, unjoined-nodes, joins-nodes}

unjoined-if : (k : CallMarkKinds) → k.joins ≡ false → (mark : Mark) → may_be_left k mark ≡ true → is_unjoined mark ≡ true
unjoined-if k none (queued (registered q name sub tick)) e = absurd (cc (sym none ∙ e))
unjoined-if k none (queued (put q event)) e = absurd (cc e)
unjoined-if k none (queued (asked retry)) e = absurd (cc e)
unjoined-if k none (noded (joined c)) e = absurd (cc (sym none ∙ e))
unjoined-if k none mark e = refl

served-nodes : (h : History) (call : NodeCall) → Legal (marked h (marks_of (node_does (database_of h) call))) → ((sub : ℕ) → last_subscription h < sub → IsClean sub h) → NodesClean h → NodesClean (marked h (marks_of (node_does (database_of h) call)))
served-nodes h (joining c) l fresh clean = joins-nodes h c l fresh clean
served-nodes h call l fresh clean = unjoined-nodes h (marks_of (node_does (database_of h) call)) l (each-does is_unjoined call (unjoined-if (kinds_of_call call) refl) (database_of h)) clean

nodes-clean : (h : History) (call : DatabaseCall) → Legal h → Distinct h → Legal (marked h (database_does database_by_history h call).marks) → ((sub : ℕ) → last_subscription h < sub → IsClean sub h) → NodesClean h
    → NodesClean (marked h (database_does database_by_history h call).marks)
nodes-clean h (served call) legal distinct l fresh clean = served-nodes h call l fresh clean
nodes-clean h call legal distinct l fresh clean =
    sessions-clean h (database_does database_by_history h call).marks l (sessions-does h call refl) (spares-does h call refl) (does-clean h call)
    (λ q c sub set nodes has. unasks-does h legal distinct q c sub set nodes has call refl) clean

record AllClean (h : History) : Type 0 where
  fresh : (sub : ℕ) → last_subscription h < sub → IsClean sub h
  nodes : NodesClean h

clean-calls : (calls : List DatabaseCall) → All IsDatabaseCallInForm calls → AllClean (after_all database_part calls)
clean-calls [] in_form = record { fresh = λ sub _. record { waits = All-nil _; puts = λ q. All-nil _ }; nodes = λ q c sub set _ _. absurd (cc set) }
clean-calls (call ∷ calls) in_form =
    let h : History = after_all database_part calls in
    let before : AllClean h = clean-calls calls (All-tail IsDatabaseCallInForm call calls in_form) in
    let l : Legal (after_all database_part (call ∷ calls)) = legal_calls (call ∷ calls) in
    let distinct : Distinct h = subscriptions_are_distinct h (record { calls = calls; in_form = All-tail IsDatabaseCallInForm call calls in_form; later = []; below = refl }) in
    record { fresh = fresh-clean h call l before.fresh; nodes = nodes-clean h call (legal_calls calls) distinct l before.fresh before.nodes }

pub nodes_events_have_no_owner : NodesEventsHaveNoOwner
nodes_events_have_no_owner calls in_form queue c sub set among has =
    ((clean-calls calls in_form).nodes queue c sub (sym (set-number (database_of (after_all database_part calls))) ∙ set) among has).puts queue
