-- No event of a set's queue is owned by the subscription of a leaf's consumer.
use Rattle.std.proofs.Common.{arith, ◌≡◌, ℕ, pos, ◌==◌, ◌+◌, ◌^◌, ◌<◌, ◌≤◌, nat_le, List, [], ◌∷◌, ◌++◌, length, Bool, true, false, ◌&&◌, Option, Some, None, is_some, option_map, bytes_eq, refl, sym, ap, subst, ◌∙◌, if◌then◌else◌}
use Rattle.londiste_state.specs.Nodes.{Root, Leaf, Node, of_root, of_leaf, is_among, with_consumer}
use Rattle.pgq_retry.specs.declared.retry.Retry.{Retry}
use Rattle.std.proofs.lemmas.Bool.Decides.{nat_tests}
use Rattle.sky_model.specs.declared.reply.Limit.TheVariants.{Consumers}
use Rattle.sky_model.specs.declared.reply.Reply.TheVariants.{Number}
use Rattle.sky_model.specs.declared.reply.Refusal.TheVariants.{ConsumerExists, IdsSpent, TooMany}
use Rattle.sky_model.specs.History.{Mark, queued, registered, unregistered, put, asked, noded, root_made, leaf_made, set_added, set_removed, joined, parted, leaf_added, leaf_removed, state_set, copied, applied, restarted, hold_begun, hold_ended, History}
use Rattle.sky_model.specs.Queues.{queues}
use Rattle.sky_model.specs.Consumers.{subscription_id, last_subscription}
use Rattle.sky_model.specs.Nodes.{at_root, at_leaf, node, is_root}
use Rattle.sky_model.specs.State.{queue_of, database_of}
use Rattle.sky_model.specs.Outcome.{◌>>=◌, ◌>>◌, refused_if, does_marks, marks_of}
use Rattle.sky_model.specs.StepQueue.{newest_id}
use Rattle.sky_model.specs.StepNode.{joining, if_there, set_queue, joins, node_does}
use Rattle.sky_model.specs.Settling.{marked}
use Rattle.sky_model.specs.Reader.{database_by_history}
use Rattle.sky_model.specs.DatabaseCalls.{DatabaseCall, stepped, entered, failed, worked, served, database_does}
use Rattle.sky_histories.proofs.Legal.{queue_of_set, Fine, asks, registers, Legal, next, legal-below_mark, fine_mark}
use Rattle.sky_histories.proofs.NodeReadings.{set-number}
use Rattle.sky_histories.proofs.Good.{same-session}
use Rattle.std.proofs.lemmas.List.Folds.{list_any-append}
use Rattle.sky_histories.proofs.NodeTables.{has-queue}
use Rattle.sky_laws.proofs.Subscriptions.{given}
use Rattle.sky_laws.proofs.SwitchingCalls.{of_stepped, of_failed, of_worked, of_entered, of_served}
use Rattle.sky_histories.proofs.StatementMarks.{EachMark, each-front, each-rest, when-true}
use Rattle.sky_model.proofs.Cases.{by_test}
use Rattle.sky_laws.proofs.PendingOwners.{legal-before}
use Rattle.sky_laws_replicas.proofs.SessionsMarks.{is_sessions}
use Rattle.sky_laws_replicas.proofs.ProvidedTables.{among-all}
use Rattle.sky_laws_synced.specs.LawsOfOwners.{set_consumers}
use Rattle.sky_laws_synced.proofs.Following.{is_of_node, spares_consumer, set-stays, stays-at}
use Rattle.sky_laws_synced.proofs.ConsumersMarks.{SparesNodes}
use Rattle.sky_laws_synced.proofs.Owners.{unasks, IsClean, clean-mark, StaysClean, stay-clean}

-- ---- what any call leaves

pub does-clean : (h : History) (call : DatabaseCall) → StaysClean h (database_does database_by_history h call).marks
does-clean h (stepped who stmt now) = of_stepped now StaysClean (stay-clean now) h who stmt
does-clean h (entered who alone) = of_entered (pos 0) StaysClean (stay-clean (pos 0)) h who alone
does-clean h (worked work now) = of_worked now StaysClean (stay-clean now) h work
does-clean h (served call) = of_served (pos 0) StaysClean (stay-clean (pos 0)) h call
does-clean h (failed who now) = of_failed now StaysClean (stay-clean now) h who

-- ---- a subscription that isn't given yet

asked-below : {h : History} {r : Retry} → Legal h → Fine h (queued (asked r)) → r.sub ≤ last_subscription h
asked-below {h = h} l (asks consumer source r a) = given h l r.queue consumer r.sub a.registered

last-grows : (h : History) (mark : Mark) → Legal (mark ∷ h) → last_subscription h ≤ last_subscription (mark ∷ h)
last-grows h _ (next l (registers p name s tick i none f g low few)) = omega (arith, f)
last-grows h _ (next l _) = omega arith

last-marked : (h : History) (marks : List Mark) → Legal (marked h marks) → last_subscription h ≤ last_subscription (marked h marks)
last-marked h [] l = omega arith
last-marked h (mark ∷ marks) l = let one = last-grows h mark (legal-before (mark ∷ h) marks l) in let rest = last-marked (mark ∷ h) marks l in omega (arith, one, rest)

unasked-mark : (h : History) (mark : Mark) (sub : ℕ) → Legal (mark ∷ h) → last_subscription h < sub → unasks sub mark ≡ true
unasked-mark h (queued (asked r)) sub l less = let below = asked-below (legal-below_mark l) (fine_mark l) in grind (arith, nat_tests, below, less)
unasked-mark h mark sub l less = refl

legal-unasks : (h : History) (marks : List Mark) (sub : ℕ) → Legal (marked h marks) → last_subscription (marked h marks) < sub → EachMark (unasks sub) marks
legal-unasks h [] sub l less = tt
legal-unasks h (mark ∷ marks) sub l less =
    let here : Legal (mark ∷ h) = legal-before (mark ∷ h) marks l in
    let grown = last-grows h mark here in
    let rest = last-marked (mark ∷ h) marks l in
    each-front (unasks sub) mark marks (unasked-mark h mark sub here (omega (arith, grown, rest, less))) (legal-unasks (mark ∷ h) marks sub l less)

-- so it owns no event
pub fresh-clean : (h : History) (call : DatabaseCall) → Legal (marked h (database_does database_by_history h call).marks) → ((sub : ℕ) → last_subscription h < sub → IsClean sub h)
    → (sub : ℕ) → last_subscription (marked h (database_does database_by_history h call).marks) < sub → IsClean sub (marked h (database_does database_by_history h call).marks)
fresh-clean h call l clean sub less =
    let marks : List Mark = (database_does database_by_history h call).marks in
    let grown = last-marked h marks l in
    does-clean h call sub l (legal-unasks h marks sub l less) (clean sub (omega (arith, grown, less)))

-- ---- sessions and daemons

among-before_mark : (h : History) (mark : Mark) (c : List ℕ) → is_sessions mark ≡ true → is_among c (set_consumers (node (mark ∷ h))) ≡ true → is_among c (set_consumers (node h)) ≡ true
among-before_mark h (noded mark) c e is = absurd (cc e)
among-before_mark h mark c e is = is

among-before : (h : History) (marks : List Mark) (c : List ℕ) → EachMark is_sessions marks → is_among c (set_consumers (node (marked h marks))) ≡ true → is_among c (set_consumers (node h)) ≡ true
among-before h [] c each is = is
among-before h (mark ∷ marks) c each is =
    among-before_mark h mark c (when-true (EachMark is_sessions marks) (is_sessions mark) each) (among-before (mark ∷ h) marks c (each-rest is_sessions mark marks each) is)

set-marked : (h : History) (marks : List Mark) → Legal (marked h marks) → (q : ℕ) → queue_of_set (queues h) (node h) ≡ Some q → queue_of_set (queues (marked h marks)) (node (marked h marks)) ≡ Some q
set-marked h [] l q is = is
set-marked h (mark ∷ marks) l q is = set-marked (mark ∷ h) marks l q (set-stays h mark (legal-before (mark ∷ h) marks l) q is)

sub-marked : (h : History) (marks : List Mark) (q : ℕ) (c : List ℕ) → EachMark (spares_consumer q c) marks → subscription_id q c (marked h marks) ≡ subscription_id q c h
sub-marked h [] q c each = refl
sub-marked h (mark ∷ marks) q c each = sub-marked (mark ∷ h) marks q c (each-rest (spares_consumer q c) mark marks each) ∙ (stays-at q c h mark (when-true (EachMark (spares_consumer q c) marks) (spares_consumer q c mark) each)).sub

among-root : (n : Option Node) (c : List ℕ) → is_among c (set_consumers n) ≡ true → is_root n ≡ true
among-root None c is = absurd (cc is)
among-root (Some (of_leaf l)) c is = absurd (cc is)
among-root (Some (of_root r)) c is = refl

-- the subscriptions of leaves' consumers own no event
abbrev pub NodesClean : History → Type 0
NodesClean h = (q : ℕ) (c : List ℕ) (sub : ℕ) → queue_of_set (queues h) (node h) ≡ Some q → is_among c (set_consumers (node h)) ≡ true → subscription_id q c h ≡ Some sub → IsClean sub h

pub sessions-clean : (h : History) (marks : List Mark) → Legal (marked h marks) → EachMark is_sessions marks → SparesNodes h marks → StaysClean h marks
    → ((q : ℕ) (c : List ℕ) (sub : ℕ) → queue_of_set (queues h) (node h) ≡ Some q → is_of_node c (node h) ≡ true → subscription_id q c h ≡ Some sub → EachMark (unasks sub) marks) → NodesClean h → NodesClean (marked h marks)
sessions-clean h marks l each spared stays unasked clean q c sub set among has = of (queue_of_set (queues h) (node h)) refl (has-queue h (legal-before h marks l) (among-root (node h) c there))
  where
    there : is_among c (set_consumers (node h)) ≡ true
    there = among-before h marks c each among

    of : (o : Option ℕ) → queue_of_set (queues h) (node h) ≡ o → is_some o ≡ true → IsClean sub (marked h marks)
    of None is some = absurd (cc some)
    of (Some p) is some =
        let same : p ≡ q = cc (sym (set-marked h marks l p is) ∙ set) in
        let here : queue_of_set (queues h) (node h) ≡ Some q = is ∙ ap Some same in
        let was : subscription_id q c h ≡ Some sub = sym (sub-marked h marks q c (spared q c here there)) ∙ has in
        stays sub l (unasked q c sub here there was) (clean q c sub here there was)

-- ---- calls for nodes

-- marks by which no consumer joins, none registers, and no event is put or asked for
abbrev pub is_unjoined : Mark → Bool
is_unjoined (queued (registered q name sub tick)) = false
is_unjoined (queued (put q e)) = false
is_unjoined (queued (asked r)) = false
is_unjoined (noded (joined c)) = false
is_unjoined mark = true

unjoined-clean : (h : History) (mark : Mark) (sub : ℕ) → is_unjoined mark ≡ true → IsClean sub h → IsClean sub (mark ∷ h)
unjoined-clean h (queued (put q e)) sub is c = absurd (cc is)
unjoined-clean h (queued (asked r)) sub is c = absurd (cc is)
unjoined-clean h mark sub is c = clean-mark h mark sub refl refl c

root-back : (c : List ℕ) (f : Root → Root) (n : Option Node) → ((r : Root) → is_among c (f r).consumers ≡ true → is_among c r.consumers ≡ true) → is_among c (set_consumers (option_map (at_root f) n)) ≡ true → is_among c (set_consumers n) ≡ true
root-back c f None back is = is
root-back c f (Some (of_leaf l)) back is = is
root-back c f (Some (of_root r)) back is = back r is

leaf-back : (c : List ℕ) (f : Leaf → Leaf) (n : Option Node) → is_among c (set_consumers (option_map (at_leaf f) n)) ≡ true → is_among c (set_consumers n) ≡ true
leaf-back c f None is = is
leaf-back c f (Some (of_root r)) is = is
leaf-back c f (Some (of_leaf l)) is = is

among-back : (h : History) (mark : Mark) (c : List ℕ) → is_unjoined mark ≡ true → is_among c (set_consumers (node (mark ∷ h))) ≡ true → is_among c (set_consumers (node h)) ≡ true
among-back h (noded (joined d)) c e is = absurd (cc e)
among-back h (noded (root_made name queue)) c e is = absurd (cc is)
among-back h (noded (leaf_made name provider tick)) c e is = absurd (cc is)
among-back h (noded (set_added table)) c e is = root-back c _ (node h) (λ r there. there) is
among-back h (noded (set_removed table)) c e is = root-back c _ (node h) (λ r there. there) is
among-back h (noded (parted name)) c e is = root-back c _ (node h) (λ r there. among-all c name r.consumers there) is
among-back h (noded (leaf_added table)) c e is = leaf-back c _ (node h) is
among-back h (noded (leaf_removed table)) c e is = leaf-back c _ (node h) is
among-back h (noded (state_set table state)) c e is = leaf-back c _ (node h) is
among-back h (noded (copied table snapshot tick)) c e is = leaf-back c _ (node h) is
among-back h (noded (applied pick tick)) c e is = leaf-back c _ (node h) is
among-back h (noded (restarted table)) c e is = is
among-back h (noded (hold_begun hold)) c e is = is
among-back h (noded (hold_ended hold)) c e is = is
among-back h mark c e is = is

sub-back : (h : History) (mark : Mark) (q : ℕ) (c : List ℕ) (sub : ℕ) → is_unjoined mark ≡ true → subscription_id q c (mark ∷ h) ≡ Some sub → subscription_id q c h ≡ Some sub
sub-back h (queued (registered p name s tick)) q c sub e is = absurd (cc e)
sub-back h (queued (unregistered p name s)) q c sub e is =
    by_test (λ b. (if b then None else subscription_id q c h) ≡ Some sub → subscription_id q c h ≡ Some sub) (p == q && bytes_eq c name) (λ _ none. absurd (cc none)) (λ _ was. was) is
sub-back h mark q c sub e is = is

set-back : (h : History) (mark : Mark) → Legal (mark ∷ h) → (q : ℕ) (c : List ℕ) → is_among c (set_consumers (node h)) ≡ true → queue_of_set (queues (mark ∷ h)) (node (mark ∷ h)) ≡ Some q → queue_of_set (queues h) (node h) ≡ Some q
set-back h mark l q c among set = of (queue_of_set (queues h) (node h)) refl (has-queue h (legal-below_mark l) (among-root (node h) c among))
  where
    of : (o : Option ℕ) → queue_of_set (queues h) (node h) ≡ o → is_some o ≡ true → queue_of_set (queues h) (node h) ≡ Some q
    of None is some = absurd (cc some)
    of (Some p) is some = let same : p ≡ q = cc (sym (set-stays h mark l p is) ∙ set) in is ∙ ap Some same

pub unjoined-nodes : (h : History) (marks : List Mark) → Legal (marked h marks) → EachMark is_unjoined marks → NodesClean h → NodesClean (marked h marks)
unjoined-nodes h [] l each clean = clean
unjoined-nodes h (mark ∷ marks) l each clean =
    let here : Legal (mark ∷ h) = legal-before (mark ∷ h) marks l in
    let e : is_unjoined mark ≡ true = when-true (EachMark is_unjoined marks) (is_unjoined mark) each in
    unjoined-nodes (mark ∷ h) marks l (each-rest is_unjoined mark marks each) (λ q c sub set among has.
    let was : is_among c (set_consumers (node h)) ≡ true = among-back h mark c e among in
    unjoined-clean h mark sub e (clean q c sub (set-back h mark here q c was set) was (sub-back h mark q c sub e has)))

-- a consumer that joins has a subscription that is new
joined-nodes : (h : History) (p : ℕ) (c : List ℕ) (s at : ℕ) → Legal (noded (joined c) ∷ queued (registered p c s at) ∷ h) → last_subscription h < s → ((sub : ℕ) → last_subscription h < sub → IsClean sub h) → NodesClean h
    → queue_of_set (queues h) (node h) ≡ Some p → NodesClean (noded (joined c) ∷ queued (registered p c s at) ∷ h)
joined-nodes h p c s at l less fresh clean there q d sub set among has =
    let same : p ≡ q = cc (sym (set-stays (queued (registered p c s at) ∷ h) (noded (joined c)) l p (set-stays h (queued (registered p c s at)) (legal-below_mark l) p there)) ∙ set) in
    by_test (λ b. bytes_eq d c ≡ b → IsClean sub (noded (joined c) ∷ queued (registered p c s at) ∷ h)) (bytes_eq d c)
    (λ _ mine. let one : s ≡ sub = cc (sym (λ i. if same-session p i && mine i then Some s else subscription_id p d h) ∙ ap (λ n. if p == n && bytes_eq d c then Some s else subscription_id n d h) same ∙ has) in
    both (fresh sub (subst (λ n. last_subscription h < n) one less)))
    (λ _ other.
    let was : subscription_id q d h ≡ Some sub = sym (off (p == q) other) ∙ has in
    both (clean q d sub (there ∙ ap Some same) (without (node h) other among) was)) refl
  where
    both : IsClean sub h → IsClean sub (noded (joined c) ∷ queued (registered p c s at) ∷ h)
    both k = clean-mark (queued (registered p c s at) ∷ h) (noded (joined c)) sub refl refl (clean-mark h (queued (registered p c s at)) sub refl refl k)

    off : (x : Bool) → bytes_eq d c ≡ false → (if x && bytes_eq d c then Some s else subscription_id q d h) ≡ subscription_id q d h
    off true e = ap (λ b. if b then Some s else subscription_id q d h) e
    off false e = refl

    without : (n : Option Node) → bytes_eq d c ≡ false → is_among d (set_consumers (option_map (at_root (with_consumer c)) n)) ≡ true → is_among d (set_consumers n) ≡ true
    without None e is = is
    without (Some (of_leaf l)) e is = is
    without (Some (of_root r)) e is = grind (arith, list_any-append (bytes_eq d) r.consumers (c ∷ []), e, is)

pub joins-nodes : (h : History) (c : List ℕ) → Legal (marked h (marks_of (node_does (database_of h) (joining c)))) → ((sub : ℕ) → last_subscription h < sub → IsClean sub h) → NodesClean h
    → NodesClean (marked h (marks_of (node_does (database_of h) (joining c))))
joins-nodes h c l fresh clean = of (set_queue (database_of h)) refl l
  where
    at : ℕ → ℕ
    at p = newest_id (queue_of h p)

    tests : (p : ℕ) → queue_of_set (queues h) (node h) ≡ Some p → (there full spent : Bool) → (let marks : List Mark = marks_of (refused_if there (ConsumerExists c) >> ((refused_if full (TooMany Consumers)
        >> (refused_if spent IdsSpent >> does_marks (Number 1) (queued (registered p c (last_subscription h + 1) (at p)) ∷ []))) >>= (λ registering. does_marks (Number (at p)) (registering.marks ++ noded (joined c) ∷ [])))) in
        Legal (marked h marks) → NodesClean (marked h marks))
    tests p set true full spent legal = clean
    tests p set false true spent legal = clean
    tests p set false false true legal = clean
    tests p set false false false legal = joined-nodes h p c (last_subscription h + 1) (at p) legal (omega arith) fresh clean set

    of : (o : Option ℕ) → set_queue (database_of h) ≡ o → (let marks : List Mark = marks_of (if_there o (λ p. joins (database_of h) p c)) in Legal (marked h marks) → NodesClean (marked h marks))
    of None is legal = clean
    of (Some p) is legal = tests p (sym (set-number (database_of h)) ∙ is) (is_some (((database_of h).queue p).sub c)) (nat_le 256 (length ((database_of h).queue p).members)) (nat_le (2 ^ 64) (last_subscription h + 1)) legal
