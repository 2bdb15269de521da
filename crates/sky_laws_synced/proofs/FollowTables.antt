-- Tables that join nodes or leave roots, and new leaves, leave the consumers of all leaves' workers where they follow.
use Rattle.std.proofs.Common.{◌≡◌, ℕ, ◌==◌, List, [], ◌∷◌, ◌++◌, map, true, false, Option, Some, None, Ok, is_some, option_map, bytes_eq, refl, sym, ap, subst, ◌∙◌, if◌then◌else◌}
use Rattle.std.specs.Option.{option_or, option_and_then}
use Rattle.sky_names.proofs.PlaceLemmas.{bytes_eq_refl}
use Rattle.londiste_state.specs.Nodes.{Node, of_root, of_leaf, Root, Leaf, LeafTable, new_table, with_leaf_table, with_root_table, without_root_table}
use Rattle.sky_model.specs.declared.reply.Reply.TheVariants.{Number}
use Rattle.sky_model.specs.declared.reply.Refusal.TheVariants.{ConsumerExists}
use Rattle.sky_model.specs.History.{Mark, queued, traced, untraced, tabled, read_only, noded, set_added, set_removed, joined, leaf_made, leaf_added, History, within, node_made, Past}
use Rattle.sky_urlenc.specs.RowEvents.{Trigger}
use Rattle.sky_model.specs.Hands.{BatchHand, Hand, batch_in}
use Rattle.sky_model.specs.Queues.{queues}
use Rattle.sky_model.specs.Consumers.{subscription_id, Subscription, position, active}
use Rattle.sky_model.specs.Nodes.{after_node, node}
use Rattle.sky_model.specs.ReplayMoves.{is_on_way}
use Rattle.sky_model.specs.State.{queue_of, database_of}
use Rattle.sky_model.specs.Outcome.{Outcome, ◌>>=◌, ◌>>◌, refused_if, does_marks}
use Rattle.sky_model.specs.Settling.{marked}
use Rattle.sky_model.specs.StepQueue.{newest_id}
use Rattle.sky_model.specs.StepConsumer.{has_dot, registers}
use Rattle.sky_model.specs.StepNode.{joins}
use Rattle.sky_model.specs.World.{history_in, nodes, hands, batches, on_top}
use Rattle.sky_histories.proofs.Legal.{queue_of_set, Fine, Legal}
use Rattle.sky_histories.proofs.Histories.{AllLegal}
use Rattle.sky_histories.proofs.PastHistories.{on_top-append, history-marks}
use Rattle.sky_histories.proofs.Good.{same-session}
use Rattle.sky_histories.proofs.StatementMarks.{EachMark, Gives, AnyReply}
use Rattle.sky_model.proofs.Cases.{by_same}
use Rattle.sky_histories.proofs.InCopyTables.{found, found-push}
use Rattle.sky_laws_replicas.proofs.NodeNames.{provider_of, database_among, names_in, source_of}
use Rattle.sky_laws_replicas.proofs.Keeping.{legal-before, fine-within, Noded, noded-within, source-within, source-made, made-noded}
use Rattle.sky_laws_replicas.proofs.Others.{legal-under}
use Rattle.sky_laws_replicas.proofs.HandsAt.{hands-marks}
use Rattle.sky_laws_replicas.proofs.ProvidedTables.{found-within}
use Rattle.sky_laws_synced.proofs.Following.{spares_consumer, Following, following-marks}
use Rattle.sky_laws_synced.proofs.FollowingCalls.{following-joined, spares-joins}
use Rattle.sky_laws_synced.proofs.LeafFollows.{copy_name, CopyOf, LeafFollows, KeptAt, all-kept, changed}
use Rattle.sky_laws_synced.proofs.LeafMoves.{dotted}
use Rattle.sky_laws_synced.proofs.FollowPasts.{AtSource, Follow, KeptFollow, Next, follow-next, batches-marks, Sourced, Stays, stays-marks, follow-marked}
use Rattle.sky_laws_synced.proofs.FollowMoves.{differ-if, provider-apart}

-- ---- roots

listed-marks : (past : Past) (e : ℕ) (r : Root) (marks : List Mark) (next : Root) → node (history_in past e) ≡ Some (of_root r) → node (marked (history_in past e) marks) ≡ Some (of_root next)
    → ((q : ℕ) (c : List ℕ) → EachMark (spares_consumer q c) marks) → KeptFollow past → KeptFollow (on_top past (map (within e) marks))
listed-marks past e r marks next root there spared =
    follow-marked past e marks (λ q c _ _. spared q c) (λ l is. absurd (cc (sym there ∙ is))) (λ is. absurd (cc (sym there ∙ is)))

pub follow-listed : (past : Past) (e : ℕ) (r : Root) (name : List ℕ) (table : ℕ) (trigger : Trigger) → node (history_in past e) ≡ Some (of_root r) → KeptFollow past
    → KeptFollow (on_top past (map (within e) (noded (set_added name) ∷ queued (traced table None trigger) ∷ [])))
follow-listed past e r name table trigger root =
    listed-marks past e r (noded (set_added name) ∷ queued (traced table None trigger) ∷ []) (with_root_table name r) root
    (ap (after_node (set_added name)) root) (λ q c. tt)

pub follow-unlisted : (past : Past) (e : ℕ) (r : Root) (name : List ℕ) (table : ℕ) → node (history_in past e) ≡ Some (of_root r) → KeptFollow past
    → KeptFollow (on_top past (map (within e) (noded (set_removed name) ∷ queued (untraced table) ∷ [])))
follow-unlisted past e r name table root =
    listed-marks past e r (noded (set_removed name) ∷ queued (untraced table) ∷ []) (without_root_table name r) root
    (ap (after_node (set_removed name)) root) (λ q c. tt)

-- ---- a table joins a leaf

added : (h : History) (q : ℕ) (l : Leaf) (batch : Option BatchHand) (hand : List ℕ → Option Hand) (name : List ℕ) → found name l.tables ≡ None → LeafFollows h q l batch hand → LeafFollows h q (with_leaf_table name l) batch hand
added h q l batch hand name fresh f =
    changed h h q l batch batch hand hand name (l.tables ++ new_table name ∷ []) f.replays (record {
      others = λ n differ. found-push n l.tables (new_table name) ∙ ap (λ b. option_or (found n l.tables) (if b then Some (new_table name) else None)) differ ∙ or-none (found n l.tables);
      hands = λ n differ. refl;
      kept = λ n u differ is c. c;
      here = λ u is. let same : new_table name ≡ u = cc (sym there ∙ is) in subst (λ x. CopyOf h q l x (hand name)) same (record {
        copying = λ copy this. absurd (cc (sym (f.idle name fresh) ∙ this));
        follows = λ e. absurd (cc e);
        others = λ _. ap batch_in (f.idle name fresh);
        under = λ e. absurd (cc e);
      });
      none = λ none. absurd (cc (sym none ∙ there));
      sole = λ u is on. let same : new_table name ≡ u = cc (sym there ∙ is) in absurd (cc (sym on ∙ ap (λ (x : LeafTable). is_on_way x.state) (sym same)));
    }) f
  where
    or-none : (o : Option LeafTable) → option_or o None ≡ o
    or-none None = refl
    or-none (Some t) = refl

    there : found name (l.tables ++ new_table name ∷ []) ≡ Some (new_table name)
    there = found-push name l.tables (new_table name) ∙ ap (λ o. option_or o (if bytes_eq name name then Some (new_table name) else None)) fresh ∙ ap (λ b. if b then Some (new_table name) else None) (bytes_eq_refl name)

pub follow-added : (past : Past) (d : ℕ) (l : Leaf) (name : List ℕ) (table : ℕ) → node (history_in past d) ≡ Some (of_leaf l) → found name l.tables ≡ None → KeptFollow past
    → KeptFollow (on_top past (map (within d) (noded (leaf_added name) ∷ tabled (read_only table true) ∷ [])))
follow-added past d l name table leaf fresh kept after =
    let legal : AllLegal past = legal-under past (map (within d) marks) after in
    let f : Follow past = kept legal in
    let s : Stays past now = stays-marks past d marks after f.all_noded in
    follow-next past now f s.all_noded s.sourced
    (λ e m is.
    by_same (λ b. (d == e) ≡ b → Next past now f e m) d e
    (λ same _. subst (λ n. node (history_in now n) ≡ Some (of_leaf m) → Next past now f n m) same (mine f m) is)
    (λ differ _.
    let was : node (history_in past e) ≡ Some (of_leaf m) = sym (ap node (at e differ)) ∙ is in
    record { was = m; is_leaf = was; named = refl; follows = still f e m was (f.leaves e m was).follows }) refl)
    (λ e is. by_same (λ b. (d == e) ≡ b → batches past e ≡ None) d e (λ same _. absurd (cc (sym there ∙ ap (λ n. node (history_in now n)) same ∙ is))) (λ differ _. f.bare e (sym (ap node (at e differ)) ∙ is)) refl)
    (λ e n is. by_same (λ b. (d == e) ≡ b → hands past e n ≡ None) d e (λ same _. absurd (cc (sym there ∙ ap (λ n. node (history_in now n)) same ∙ is))) (λ differ _. f.empty e n (sym (ap node (at e differ)) ∙ is)) refl)
  where
    marks : List Mark
    marks = noded (leaf_added name) ∷ tabled (read_only table true) ∷ []

    now : Past
    now = on_top past (map (within d) marks)

    at : (e : ℕ) → (d == e) ≡ false → history_in now e ≡ history_in past e
    at e differ = history-marks past d marks e ∙ ap (λ b. if b then marked (history_in past e) marks else history_in past e) differ

    there : node (history_in now d) ≡ Some (of_leaf (with_leaf_table name l))
    there = ap node (history-marks past d marks d ∙ ap (λ b. if b then marked (history_in past d) marks else history_in past d) (same-session d)) ∙ ap (after_node (leaf_added name)) leaf

    flip : (p : ℕ) → (p == d) ≡ false → (d == p) ≡ false
    flip p e = by_same (λ b. b ≡ false) d p (λ same. absurd (cc (sym e ∙ ap (λ n. n == d) (sym same) ∙ same-session d))) (λ _. refl)

    still : (f : Follow past) (e : ℕ) (m : Leaf) (was : node (history_in past e) ≡ Some (of_leaf m)) {x : Leaf} → LeafFollows (history_in past (f.leaves e m was).p) (f.leaves e m was).queue x (batches past e) (hands past e)
        → LeafFollows (history_in now (f.leaves e m was).p) (f.leaves e m was).queue x (batches past e) (hands past e)
    still f e m was {x = x} old = subst (λ g. LeafFollows g (f.leaves e m was).queue x (batches past e) (hands past e)) (sym (at (f.leaves e m was).p (flip (f.leaves e m was).p (provider-apart past e d m l (f.leaves e m was) leaf)))) old

    mine : (f : Follow past) (m : Leaf) → node (history_in now d) ≡ Some (of_leaf m) → Next past now f d m
    mine f m is =
        let same : with_leaf_table name l ≡ m = cc (sym there ∙ is) in
        let a : AtSource past d l = f.leaves d l leaf in
        record {
          was = l;
          is_leaf = leaf;
          named = ap Leaf.name (sym same);
          follows = still f d l leaf (subst (λ x. LeafFollows (history_in past a.p) a.queue x (batches past d) (hands past d)) same (added (history_in past a.p) a.queue l (batches past d) (hands past d) name fresh a.follows));
        }

-- ---- a new leaf

-- its consumer was none of the queue's
joins-new : (h : History) (q : ℕ) (c : List ℕ) (out : Outcome) → joins (database_of h) q c ≡ Ok out → subscription_id q c h ≡ None
joins-new h q c out is = of (subscription_id q c h) refl
  where
    of : (o : Option ℕ) → subscription_id q c h ≡ o → o ≡ None
    of None e = refl
    of (Some sub) e =
        absurd (cc (sym is ∙ ap (λ o. refused_if (is_some {T = Subscription} (option_map (λ id. record { id = id; position = position q c h; active = active q c h }) o)) (ConsumerExists c)
        >> (registers (database_of h) q c (newest_id (queue_of h q)) >>= (λ registering. does_marks (Number (newest_id (queue_of h q))) (registering.marks ++ noded (joined c) ∷ [])))) e))

found-marks : (past : Past) (e : ℕ) (marks : List Mark) (name : List ℕ) (p : ℕ) → AllLegal (on_top past (map (within e) marks)) → Noded past → database_among (names_in past) name (nodes past) ≡ Some p
    → database_among (names_in (on_top past (map (within e) marks))) name (nodes (on_top past (map (within e) marks))) ≡ Some p
found-marks past e [] name p legal all is = is
found-marks past e (mark ∷ marks) name p legal all is =
    let fine = fine-within past e mark (legal-under (within e mark ∷ past) (map (within e) marks) legal) in
    found-marks (within e mark ∷ past) e marks name p legal (noded-within past e mark fine all) (found-within past e mark name p all fine is)

module _ (past : Past) (d p queue : ℕ) (name provider : List ℕ) (out : Outcome) (bare : node (history_in past d) ≡ None) (called : database_among (names_in past) provider (nodes past) ≡ Some p)
    (set : queue_of_set (queues (history_in past p)) (node (history_in past p)) ≡ Some queue) (ok : joins (database_of (history_in past p)) queue name ≡ Ok out) (undotted : has_dot name ≡ false) (kept : KeptFollow past) where
  abbrev tick : ℕ
  tick = newest_id (queue_of (history_in past p) queue)

  abbrev new : Leaf
  new = record { name = name; provider = provider; tick = tick; tables = [] }

  abbrev mark : Mark
  mark = noded (leaf_made name provider tick)

  abbrev middle : Past
  middle = on_top past (map (within p) out.marks)

  abbrev one : Past
  one = within d mark ∷ middle

  abbrev now : Past
  now = node_made d ∷ one

  differ : (d == p) ≡ false
  differ = by_same (λ b. b ≡ false) d p (λ same. absurd (cc (sym set ∙ ap (queue_of_set (queues (history_in past p))) (ap (λ n. node (history_in past n)) (sym same) ∙ bare)))) (λ _. refl)

  at_p : history_in now p ≡ marked (history_in past p) out.marks
  at_p =
      ap (λ b. if b then mark ∷ history_in middle p else history_in middle p) differ ∙ history-marks past p out.marks p
      ∙ ap (λ b. if b then marked (history_in past p) out.marks else history_in past p) (same-session p)

  at_d : node (history_in now d) ≡ Some (of_leaf new)
  at_d = ap (λ b. node (if b then mark ∷ history_in middle d else history_in middle d)) (same-session d)

  elsewhere : (e : ℕ) → (d == e) ≡ false → (p == e) ≡ false → history_in now e ≡ history_in past e
  elsewhere e other apart =
      ap (λ b. if b then mark ∷ history_in middle e else history_in middle e) other ∙ history-marks past p out.marks e
      ∙ ap (λ b. if b then marked (history_in past e) out.marks else history_in past e) apart

  batches_same : batches now ≡ batches past
  batches_same = batches-marks past p out.marks

  hands_same : hands now ≡ hands past
  hands_same = hands-marks past p out.marks

  module _ (after : AllLegal now) where
    legal_one : AllLegal one
    legal_one e = after e

    legal_middle : AllLegal middle
    legal_middle = legal-before middle (within d mark) legal_one

    legal : AllLegal past
    legal = legal-under past (map (within p) out.marks) legal_middle

    f : Follow past
    f = kept legal

    s : Stays past middle
    s = stays-marks past p out.marks legal_middle f.all_noded

    fine : Fine (history_in middle d) mark
    fine = fine-within middle d mark legal_one

    joined_there : Following (marked (history_in past p) out.marks) queue name tick None
    joined_there = following-joined (history_in past p) queue name out (legal p) set ok

    sourced : Sourced past now
    sourced e q from = source-made one d e q (source-within middle d mark e q s.all_noded fine (s.sourced e q from))

    new_from : source_of now d ≡ Some p
    new_from =
        source-made one d d p
        (ap (λ n. option_and_then (λ x. database_among (names_in one) x (nodes one)) (provider_of n)) at_d
        ∙ found-within middle d mark provider p s.all_noded fine (found-marks past p out.marks provider p legal_middle f.all_noded called))

    root_there : (n : Option Node) → node (history_in now p) ≡ n → queue_of_set (queues (history_in now p)) n ≡ Some queue
    root_there n is = ap (queue_of_set (queues (history_in now p))) (sym is) ∙ subst (λ g. queue_of_set (queues g) (node g) ≡ Some queue) (sym at_p) joined_there.of_set

    was : (e : ℕ) (m : Leaf) → (d == e) ≡ false → node (history_in now e) ≡ Some (of_leaf m) → node (history_in past e) ≡ Some (of_leaf m)
    was e m other is =
        by_same (λ b. (p == e) ≡ b → node (history_in past e) ≡ Some (of_leaf m)) p e
        (λ same _. absurd (cc (root_there (Some (of_leaf m)) (ap (λ n. node (history_in now n)) same ∙ is)))) (λ apart _. sym (ap node (elsewhere e other apart)) ∙ is) refl

    none_was : (e : ℕ) → node (history_in now e) ≡ None → node (history_in past e) ≡ None
    none_was e is =
        by_same (λ b. (d == e) ≡ b → node (history_in past e) ≡ None) d e
        (λ same _. absurd (cc (sym at_d ∙ ap (λ n. node (history_in now n)) same ∙ is)))
        (λ other _. by_same (λ b. (p == e) ≡ b → node (history_in past e) ≡ None) p e
        (λ same _. absurd (cc (root_there None (ap (λ n. node (history_in now n)) same ∙ is)))) (λ apart _. sym (ap node (elsewhere e other apart)) ∙ is) refl) refl

    -- no leaf of this provider has the name
    other-named : (e : ℕ) (m : Leaf) (b : AtSource past e m) → b.p ≡ p → m.name ≡ name → ⊥
    other-named e m b same names =
        let queue_is : b.queue ≡ queue = cc (sym b.follows.replays.of_set ∙ ap (λ n. queue_of_set (queues (history_in past n)) (node (history_in past n))) same ∙ set) in
        let there : subscription_id queue name (history_in past p) ≡ Some b.follows.replays.sub = (λ i. subscription_id (sym queue_is i) (sym names i) (history_in past (sym same i))) ∙ b.follows.replays.registered in
        cc (sym (joins-new (history_in past p) queue name out ok) ∙ there)

    still : (n k : ℕ) (c : List ℕ) → (d == n) ≡ false → (n ≡ p → bytes_eq c name ≡ false) → KeptAt (history_in past n) (history_in now n) k c
    still n k c apart distinct t hand_c at =
        by_same (λ b. (p == n) ≡ b → Following (history_in now n) k c t hand_c) p n
        (λ same _.
        let gives : Gives AnyReply (spares_consumer k c) (Ok out) = subst (Gives AnyReply (spares_consumer k c)) ok (spares-joins (database_of (history_in past p)) queue k c name (distinct (sym same))) in
        subst (λ x. Following (history_in past x) k c t hand_c → Following (history_in now x) k c t hand_c) same
        (λ here. subst (λ g. Following g k c t hand_c) (sym at_p) (following-marks (history_in past p) out.marks k c t hand_c (subst Legal at_p (after p)) gives.1 here)) at)
        (λ other _. subst (λ g. Following g k c t hand_c) (sym (elsewhere n apart other)) at) refl

    old : (e : ℕ) (m : Leaf) (is : node (history_in past e) ≡ Some (of_leaf m)) → LeafFollows (history_in now (f.leaves e m is).p) (f.leaves e m is).queue m (batches now e) (hands now e)
    old e m is =
        let b : AtSource past e m = f.leaves e m is in
        let apart : (d == b.p) ≡ false = by_same (λ x. x ≡ false) d b.p
        (λ same. absurd (cc (sym b.follows.replays.of_set ∙ ap (queue_of_set (queues (history_in past b.p))) (ap (λ n. node (history_in past n)) (sym same) ∙ bare)))) (λ _. refl) in
        subst (λ x. LeafFollows (history_in now b.p) b.queue m x (hands now e)) (sym (ap (λ g. g e) batches_same))
        (subst (LeafFollows (history_in now b.p) b.queue m (batches past e)) (sym (ap (λ g. g e) hands_same))
        (all-kept (history_in past b.p) (history_in now b.p) b.queue m (batches past e) (hands past e)
        (still b.p b.queue m.name apart (λ same. differ-if m.name name (λ names. other-named e m b same names)))
        (still b.p b.queue (copy_name m) apart (λ same. differ-if (copy_name m) name (λ names. cc (sym undotted ∙ ap has_dot (sym names) ∙ dotted m)))) b.follows))

    new_at : (m : Leaf) → node (history_in now d) ≡ Some (of_leaf m) → AtSource now d m
    new_at m is =
        let same : new ≡ m = cc (sym at_d ∙ is) in
        subst (AtSource now d) same (record {
          p = p;
          from = new_from;
          queue = queue;
          follows = record {
            undotted = undotted;
            replays = subst (Following (history_in now p) queue name tick) (sym (ap (λ g. g d) batches_same ∙ f.bare d bare)) (subst (λ g. Following g queue name tick None) (sym at_p) joined_there);
            copies = λ n t there. absurd (cc there);
            idle = λ n _. ap (λ g. g d n) hands_same ∙ f.empty d n bare;
            alone = λ x y t u there _ _ _. absurd (cc there);
          };
        })

    apart_new : (e : ℕ) (m : Leaf) → (d == e) ≡ false → node (history_in now e) ≡ Some (of_leaf m) → (k : Leaf) → node (history_in now d) ≡ Some (of_leaf k) → (q : ℕ) → source_of now d ≡ Some q → source_of now e ≡ Some q → k.name ≡ m.name → ⊥
    apart_new e m other is k also q from comes names =
        let past_is : node (history_in past e) ≡ Some (of_leaf m) = was e m other is in
        let b : AtSource past e m = f.leaves e m past_is in
        let same : new ≡ k = cc (sym at_d ∙ also) in
        let mine : p ≡ q = cc (sym new_from ∙ from) in
        let its : b.p ≡ q = cc (sym (sourced e b.p b.from) ∙ comes) in
        other-named e m b (its ∙ sym mine) (sym names ∙ ap Leaf.name (sym same))

    follow-new : Follow now
    follow-new = record {
      all_noded = made-noded one d (ap is_some at_d) (noded-within middle d mark fine s.all_noded);
      leaves = λ e m is.
          by_same (λ b. (d == e) ≡ b → AtSource now e m) d e
          (λ same _. subst (λ n. node (history_in now n) ≡ Some (of_leaf m) → AtSource now n m) same (new_at m) is)
          (λ other _.
          let past_is : node (history_in past e) ≡ Some (of_leaf m) = was e m other is in
          let b : AtSource past e m = f.leaves e m past_is in
          record { p = b.p; from = sourced e b.p b.from; queue = b.queue; follows = old e m past_is }) refl;
      apart = λ e g q m k is also from comes names.
          by_same (λ b. (d == e) ≡ b → e ≡ g) d e
          (λ same _. by_same (λ b. (d == g) ≡ b → e ≡ g) d g (λ too _. sym same ∙ too)
          (λ other _. absurd (apart_new g k other also m (ap (λ n. node (history_in now n)) same ∙ is) q (ap (source_of now) same ∙ from) comes names)) refl)
          (λ other _. by_same (λ b. (d == g) ≡ b → e ≡ g) d g
          (λ same _. absurd (apart_new e m other is k (ap (λ n. node (history_in now n)) same ∙ also) q (ap (source_of now) same ∙ comes) from (sym names)))
          (λ apart _.
          let e_is : node (history_in past e) ≡ Some (of_leaf m) = was e m other is in
          let g_is : node (history_in past g) ≡ Some (of_leaf k) = was g k apart also in
          let b : AtSource past e m = f.leaves e m e_is in
          let c : AtSource past g k = f.leaves g k g_is in
          let b_p : b.p ≡ q = cc (sym (sourced e b.p b.from) ∙ from) in
          let c_p : c.p ≡ q = cc (sym (sourced g c.p c.from) ∙ comes) in
          f.apart e g q m k e_is g_is (b.from ∙ ap Some b_p) (c.from ∙ ap Some c_p) names) refl) refl;
      bare = λ e is. ap (λ g. g e) batches_same ∙ f.bare e (none_was e is);
      empty = λ e n is. ap (λ g. g e n) hands_same ∙ f.empty e n (none_was e is);
    }

  pub follow-leaf : KeptFollow (on_top past (map (within p) out.marks ++ within d mark ∷ node_made d ∷ []))
  follow-leaf = subst KeptFollow (sym (on_top-append past (map (within p) out.marks) (within d mark ∷ node_made d ∷ []))) follow-new
