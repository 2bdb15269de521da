-- What leaves the sessions that wait in a database as they are, and whether one of them may resume.
use Rattle.std.proofs.Common.{◌≡◌, ℤ, List, [], ◌∷◌, Bool, true, false, refl, ◌∙◌, ap}
use Rattle.sky_model.specs.declared.daemon.DaemonPart.{DaemonPart}
use Rattle.sky_model.specs.History.{Mark, of_worker, of_copy, began, ended, tabled, wrote, read_only, queued, noded}
use Rattle.sky_model.specs.State.{RowPart, Database, after_mark, after_marks}
use Rattle.sky_model.specs.Outcome.{marks_of}
use Rattle.sky_model.specs.Reader.{database_by_itself}
use Rattle.sky_model.specs.Settling.{ready}
use Rattle.sky_model.specs.Daemon.{daemon_does}
use Rattle.sky_model.specs.StepNode.{NodeCall, node_does}
use Rattle.sky_histories.proofs.RowStanding.{part-behind}
use Rattle.sky_histories.proofs.StatementMarks.{EachMark}
use Rattle.sky_histories.proofs.DaemonTurns.{each-daemon_does}
use Rattle.sky_histories.proofs.NodeCalls.{is_for_nodes, each-node}
use Rattle.sky_store.specs.Served.{Serves}

-- ---- marks that leave them so

-- a mark by which no key is taken or freed, and nobody begins to wait or ceases to
abbrev leaves_locks : Mark → Bool
leaves_locks (queued mark) = true
leaves_locks (noded mark) = true
leaves_locks (tabled (read_only table on)) = true
leaves_locks (began of_worker t) = true
leaves_locks (ended of_worker t committed) = true
leaves_locks (tabled (wrote of_worker t table key old new)) = true
leaves_locks (began (of_copy table) t) = true
leaves_locks (ended (of_copy table) t committed) = true
leaves_locks (tabled (wrote (of_copy n) t table key old new)) = true
leaves_locks _ = false

for-nodes : (mark : Mark) → is_for_nodes mark ≡ true → leaves_locks mark ≡ true
for-nodes (queued mark) e = refl
for-nodes (noded mark) e = refl
for-nodes (tabled (read_only table on)) e = refl
for-nodes (began of_worker t) e = refl
for-nodes (ended of_worker t committed) e = refl
for-nodes (tabled (wrote of_worker t table key old new)) e = refl
for-nodes (began (of_copy table) t) e = refl
for-nodes (ended (of_copy table) t committed) e = refl
for-nodes (tabled (wrote (of_copy n) t table key old new)) e = refl
for-nodes _ e = absurd (cc)

-- ---- who waits

waits-stay : (d : Database) (marks : List Mark) → EachMark leaves_locks marks → (after_marks d marks).part.waiting ≡ d.part.waiting
waits-stay d [] all = refl
waits-stay d (queued mark ∷ marks) all = waits-stay (after_mark d (queued mark)) marks all ∙ ap RowPart.waiting (part-behind d (queued mark))
waits-stay d (noded mark ∷ marks) all = waits-stay (after_mark d (noded mark)) marks all ∙ ap RowPart.waiting (part-behind d (noded mark))
waits-stay d (tabled (read_only table on) ∷ marks) all = waits-stay (after_mark d (tabled (read_only table on))) marks all
waits-stay d (began of_worker t ∷ marks) all = waits-stay (after_mark d (began of_worker t)) marks all
waits-stay d (ended of_worker t true ∷ marks) all = waits-stay (after_mark d (ended of_worker t true)) marks all
waits-stay d (ended of_worker t false ∷ marks) all = waits-stay (after_mark d (ended of_worker t false)) marks all
waits-stay d (tabled (wrote of_worker t table key old new) ∷ marks) all = waits-stay (after_mark d (tabled (wrote of_worker t table key old new))) marks all
waits-stay d (began (of_copy table) t ∷ marks) all = waits-stay (after_mark d (began (of_copy table) t)) marks all
waits-stay d (ended (of_copy table) t true ∷ marks) all = waits-stay (after_mark d (ended (of_copy table) t true)) marks all
waits-stay d (ended (of_copy table) t false ∷ marks) all = waits-stay (after_mark d (ended (of_copy table) t false)) marks all
waits-stay d (tabled (wrote (of_copy n) t table key old new) ∷ marks) all = waits-stay (after_mark d (tabled (wrote (of_copy n) t table key old new))) marks all
waits-stay d (_ ∷ marks) all = absurd all

-- a call for a node leaves them
pub waits-served : (old new : Database) (call : NodeCall) → Serves old new call → new.part.waiting ≡ old.part.waiting
waits-served old new call serves =
    ap (λ (d : Database). d.part.waiting) serves.changed ∙ waits-stay old (marks_of (node_does old call)) (each-node leaves_locks for-nodes old call)

-- ---- whether one of them may resume

ready-stays : (d : Database) (marks : List Mark) → EachMark leaves_locks marks → ready (after_marks d marks).part ≡ ready d.part
ready-stays d [] all = refl
ready-stays d (queued mark ∷ marks) all = ready-stays (after_mark d (queued mark)) marks all ∙ ap ready (part-behind d (queued mark))
ready-stays d (noded mark ∷ marks) all = ready-stays (after_mark d (noded mark)) marks all ∙ ap ready (part-behind d (noded mark))
ready-stays d (tabled (read_only table on) ∷ marks) all = ready-stays (after_mark d (tabled (read_only table on))) marks all
ready-stays d (began of_worker t ∷ marks) all = ready-stays (after_mark d (began of_worker t)) marks all
ready-stays d (ended of_worker t true ∷ marks) all = ready-stays (after_mark d (ended of_worker t true)) marks all
ready-stays d (ended of_worker t false ∷ marks) all = ready-stays (after_mark d (ended of_worker t false)) marks all
ready-stays d (tabled (wrote of_worker t table key old new) ∷ marks) all = ready-stays (after_mark d (tabled (wrote of_worker t table key old new))) marks all
ready-stays d (began (of_copy table) t ∷ marks) all = ready-stays (after_mark d (began (of_copy table) t)) marks all
ready-stays d (ended (of_copy table) t true ∷ marks) all = ready-stays (after_mark d (ended (of_copy table) t true)) marks all
ready-stays d (ended (of_copy table) t false ∷ marks) all = ready-stays (after_mark d (ended (of_copy table) t false)) marks all
ready-stays d (tabled (wrote (of_copy n) t table key old new) ∷ marks) all = ready-stays (after_mark d (tabled (wrote (of_copy n) t table key old new))) marks all
ready-stays d (_ ∷ marks) all = absurd all

-- a call for a node
ready-call : (d : Database) (call : NodeCall) → ready (after_marks d (marks_of (node_does d call))).part ≡ ready d.part
ready-call d call = ready-stays d (marks_of (node_does d call)) (each-node leaves_locks for-nodes d call)

pub ready-served : (old new : Database) (call : NodeCall) → Serves old new call → ready new.part ≡ ready old.part
ready-served old new call serves =
    ap (λ (d : Database). ready d.part) serves.changed ∙ ready-call old call

-- a part of a daemon's work
pub ready-worked : (old new : Database) (part : DaemonPart) (now : ℤ) → new ≡ after_marks old (daemon_does database_by_itself old part now).marks → ready new.part ≡ ready old.part
ready-worked old new part now works =
    ap (λ (d : Database). ready d.part) works
    ∙ ready-stays old (daemon_does database_by_itself old part now).marks (each-daemon_does leaves_locks now (λ mark _. refl) (λ r. refl) (λ t. refl) (λ t. refl) database_by_itself old part)
