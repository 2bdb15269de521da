-- The calls of workers that go through batches leave marks that are none of a copy's.
use Rattle.std.proofs.Common.{◌≡◌, ℕ, List, [], ◌∷◌, ◌++◌, true, false, not, Option, Some, None, refl, sym, ap, subst, if◌then◌else◌}
use Rattle.sky_names.specs.Places.{place_of}
use Rattle.londiste_state.specs.declared.state.TableState.{TableState}
use Rattle.londiste_state.specs.declared.state.TableState.TheVariants.{CatchingUp, Synced}
use Rattle.sky_model.specs.declared.reply.Reply.TheVariants.{Done, Null}
use Rattle.sky_model.specs.History.{noded, state_set, History}
use Rattle.sky_model.specs.Rows.{table_names}
use Rattle.sky_model.specs.Nodes.{node}
use Rattle.sky_model.specs.State.{Database, database_of}
use Rattle.sky_model.specs.Outcome.{answers, does_marks}
use Rattle.sky_model.specs.StepCopy.{given_up}
use Rattle.sky_model.specs.StepNode.{NodeCall, parting, fetching, finishing, moving, applying, if_there, moves_table, may_move, may_copy, may_serve, call_form, node_does}
use Rattle.sky_histories.proofs.StatementMarks.{AnyReply, each-front, Gives, either}
use Rattle.sky_model.proofs.Cases.{by_test}
use Rattle.sky_laws_replicas.proofs.StaysInCopy.{ends_copying, not-copied}
use Rattle.sky_laws_replicas.proofs.RunningCopies.{Uncopied, uncopied-txid}
use Rattle.sky_laws_replicas.proofs.Keeping.{keeps_copies}
use Rattle.sky_laws_replicas.proofs.CallPasts.{are_quiet, quiet-call}
use Rattle.sky_model.specs.CallPermits.{kinds_of_call}
use Rattle.sky_laws_replicas.proofs.WorkersCalls.{is_of_batches}

-- ---- calls that leave such marks

-- no copy runs of a table that isn't being copied
abbrev pub CopiesOnlyInCopy : History → Type 0
CopiesOnlyInCopy h = (name : List ℕ) → may_copy name (node h) ≡ false → Uncopied h name

abbrev pub IsQuietCall : NodeCall → Type 0
IsQuietCall call = (h : History) → CopiesOnlyInCopy h → Gives AnyReply keeps_copies (node_does (database_of h) call)

quiet-node : (d : Database) (call : NodeCall) → Gives AnyReply keeps_copies (call_form d call) → Gives AnyReply keeps_copies (node_does d call)
quiet-node d call gives = either AnyReply keeps_copies (may_serve call d.node) (call_form d call) (answers Null) gives (tt, tt)

quiet-of : (call : NodeCall) → are_quiet (kinds_of_call call) ≡ true → IsQuietCall call
quiet-of call is h only = quiet-node (database_of h) call (quiet-call (database_of h) call is)

-- a table that goes into a state isn't being copied, unless that state ends its copying: so no copy of it is given up
quiet-moving : (table : List ℕ) (state : TableState) → ends_copying state ≡ false → IsQuietCall (moving table state)
quiet-moving table state ends h only =
    by_test (λ b. may_move table state (node h) ≡ b → Gives AnyReply keeps_copies (if b then call_form (database_of h) (moving table state) else answers Null)) (may_move table state (node h))
    (λ _ may. of (only table (not-copied table state (node h) ends may)) (place_of table (table_names h)) refl) (λ _ _. (tt, tt)) refl
  where
    of : Uncopied h table → (o : Option ℕ) → place_of table (table_names h) ≡ o → Gives AnyReply keeps_copies (if_there o (λ n. moves_table (database_of h) n table state))
    of none None there = (tt, tt)
    of none (Some n) there =
        subst (λ t. Gives AnyReply keeps_copies (does_marks Done (given_up n table t ++ noded (state_set table state) ∷ []))) (sym (uncopied-txid h table none n there))
        (tt, each-front keeps_copies (noded (state_set table state)) [] (ap not ends) tt)

still-copied : (table : List ℕ) (state : TableState) → is_of_batches (moving table state) ≡ true → ends_copying state ≡ false
still-copied table CatchingUp e = absurd (cc e)
still-copied table Synced e = refl
still-copied table state e = refl

-- calls with batches
pub quiet-batches : (call : NodeCall) → is_of_batches call ≡ true → IsQuietCall call
quiet-batches (parting consumer) e = quiet-of (parting consumer) refl
quiet-batches (fetching consumer) e = quiet-of (fetching consumer) refl
quiet-batches (finishing batch) e = quiet-of (finishing batch) refl
quiet-batches (applying events pick tick) e = quiet-of (applying events pick tick) refl
quiet-batches (moving table state) e = quiet-moving table state (still-copied table state e)
quiet-batches call e = absurd (cc e)
