-- A move of a worker leaves the consumers of all leaves' workers where they follow.
use Rattle.std.proofs.Common.{arith, ◌≡◌, ◌⊎◌, inl, inr, ℕ, ◌==◌, List, [], ◌∷◌, ◌++◌, length, length-append, codes, false, Option, Some, None, bytes_eq, refl, sym, ap, subst, ◌∙◌, if◌then◌else◌}
use Rattle.std.proofs.lemmas.Bool.Decides.{nat_tests}
use Rattle.sky_names.proofs.PlaceLemmas.{same_name}
use Rattle.londiste_state.specs.Nodes.{Node, of_leaf, Leaf}
use Rattle.sky_model.specs.History.{in_hand, batch_in_hand, Past}
use Rattle.sky_model.specs.Hands.{BatchHand, Hand}
use Rattle.sky_model.specs.Queues.{queues}
use Rattle.sky_model.specs.Nodes.{node}
use Rattle.sky_model.specs.State.{changed_for}
use Rattle.sky_model.specs.StepConsumer.{has_dot}
use Rattle.sky_model.specs.StepNode.{NodeCall}
use Rattle.sky_model.specs.WorkerMoves.{Move}
use Rattle.sky_model.specs.World.{history_in, hands, batches}
use Rattle.sky_histories.proofs.Legal.{queue_of_set, Legal}
use Rattle.sky_histories.proofs.Histories.{AllLegal}
use Rattle.sky_histories.proofs.Good.{same-session}
use Rattle.sky_model.proofs.Cases.{by_test, by_same}
use Rattle.sky_laws_replicas.proofs.Keeping.{Noded}
use Rattle.sky_laws_replicas.proofs.CallPasts.{called, after_calls, history-called, histories-elsewhere}
use Rattle.sky_laws_replicas.proofs.KeptCalls.{hands-calls}
use Rattle.sky_laws_synced.proofs.Following.{Following}
use Rattle.sky_laws_synced.proofs.LeafFollows.{copy_name, LeafFollows, KeptAt, all-kept}
use Rattle.sky_laws_synced.proofs.WorkersMoves.{after_each, SparesEach, kept-each}
use Rattle.sky_laws_synced.proofs.LeafMoves.{dotted, MoveFollows}
use Rattle.sky_laws_synced.proofs.CopiersMoves.{handed, same-hands}
use Rattle.sky_laws_synced.proofs.FollowPasts.{AtSource, Follow, Next, follow-next, Sourced, Stays, stays-calls, legal-calls, batches-calls}

-- ---- pasts after calls

each-calls : (past : Past) (e : ℕ) (calls : List NodeCall) → history_in (after_calls past e calls) e ≡ after_each (history_in past e) calls
each-calls past e [] = refl
each-calls past e (call ∷ calls) = each-calls (called past e call) e calls ∙ ap (λ h. after_each h calls) (history-called past e call)

-- ---- names of other leaves

cancel : (xs ys s : List ℕ) → length xs ≡ length ys → xs ++ s ≡ ys ++ s → xs ≡ ys
cancel [] [] s long same = refl
cancel [] (y ∷ ys) s long same = absurd (omega (arith, long))
cancel (x ∷ xs) [] s long same = absurd (omega (arith, long))
cancel (x ∷ xs) (y ∷ ys) s long same =
    let first : x ≡ y = cc same in let rest : xs ++ s ≡ ys ++ s = cc same in let one : xs ≡ ys = cancel xs ys s (omega (arith, long)) rest in λ i. first i ∷ one i

same-copies : (l m : Leaf) → copy_name l ≡ copy_name m → l.name ≡ m.name
same-copies l m same =
    cancel l.name m.name (codes ".copy") (let long = ap (λ (xs : List ℕ). length xs) same in omega (arith, long, length-append l.name (codes ".copy"), length-append m.name (codes ".copy"))) same

pub differ-if : (a b : List ℕ) → (a ≡ b → ⊥) → bytes_eq a b ≡ false
differ-if a b isnt = by_test (λ x. bytes_eq a b ≡ x → x ≡ false) (bytes_eq a b) (λ _ same. absurd (isnt (same_name a b same))) (λ _ _. refl) refl

-- a worker's consumer is that of its leaf, or of the copies of its tables
abbrev pub IsOwn : Leaf → List ℕ → Type 0
IsOwn l own = (own ≡ l.name) ⊎ (own ≡ copy_name l)

pub leaf-differs : (l m : Leaf) (own : List ℕ) → IsOwn l own → has_dot m.name ≡ false → (m.name ≡ l.name → ⊥) → bytes_eq m.name own ≡ false
leaf-differs l m own (inl is) undotted isnt = differ-if m.name own (λ same. isnt (same ∙ is))
leaf-differs l m own (inr is) undotted isnt = differ-if m.name own (λ same. absurd (cc (sym undotted ∙ ap has_dot (same ∙ is) ∙ dotted l)))

pub copy-differs : (l m : Leaf) (own : List ℕ) → IsOwn l own → has_dot l.name ≡ false → (m.name ≡ l.name → ⊥) → bytes_eq (copy_name m) own ≡ false
copy-differs l m own (inl is) undotted isnt = differ-if (copy_name m) own (λ same. absurd (cc (sym undotted ∙ ap has_dot (sym is ∙ sym same) ∙ dotted m)))
copy-differs l m own (inr is) undotted isnt = differ-if (copy_name m) own (λ same. isnt (same-copies m l (same ∙ is)))

-- ---- a move

-- a provider's database isn't that of any leaf
pub provider-apart : (past : Past) (e d : ℕ) (m l : Leaf) (a : AtSource past e m) → node (history_in past d) ≡ Some (of_leaf l) → (a.p == d) ≡ false
provider-apart past e d m l a leaf =
    by_same (λ b. b ≡ false) a.p d
    (λ same. absurd (cc (sym a.follows.replays.of_set ∙ ap (queue_of_set (queues (history_in past a.p))) (ap (λ n. node (history_in past n)) same ∙ leaf)))) (λ _. refl)

-- what the workers of a database have in hand after a fact
pub record Hands (past : Past) (now : Past) (d : ℕ) (batch : Option BatchHand) (hand : List ℕ → Option Hand) : Type 0 where
  pub batch_there : batches now d ≡ batch
  pub hand_there : (name : List ℕ) → hands now d name ≡ hand name
  pub other_batches : (e : ℕ) → (d == e) ≡ false → batches now e ≡ batches past e
  pub other_hands : (e : ℕ) → (d == e) ≡ false → hands now e ≡ hands past e

module _ {H : Type 0} (past now : Past) (d q : ℕ) (l : Leaf) (f : Follow past) (leaf : node (history_in past d) ≡ Some (of_leaf l)) (own : List ℕ) (is_own : IsOwn l own) (move : Move H) (batch : Option BatchHand)
    (hand : List ℕ → Option Hand) (mv : MoveFollows (history_in past q) (history_in past d) (f.leaves d l leaf).queue l own move batch hand) (at_source : (f.leaves d l leaf).p ≡ q) (all_noded : Noded now)
    (sourced : Sourced past now) (at_d : history_in now d ≡ after_each (history_in past d) move.replica) (at_q : history_in now q ≡ after_each (history_in past q) move.provider)
    (elsewhere : (e : ℕ) → (q == e) ≡ false → (d == e) ≡ false → history_in now e ≡ history_in past e) (after : AllLegal now) (hs : Hands past now d batch hand) where
  abbrev a : AtSource past d l
  a = f.leaves d l leaf

  legal_q : Legal (after_each (history_in past q) move.provider)
  legal_q = subst Legal at_q (after q)

  -- its provider's database has its root
  root_there : (n : Option Node) → node (history_in now q) ≡ n → queue_of_set (queues (history_in now q)) n ≡ Some a.queue
  root_there n is = ap (queue_of_set (queues (history_in now q))) (sym is) ∙ subst (λ g. queue_of_set (queues g) (node g) ≡ Some a.queue) (sym at_q) (mv.follows legal_q).replays.of_set

  leaf_there : node (history_in now d) ≡ Some (of_leaf mv.leaf)
  leaf_there = ap node at_d ∙ mv.is

  -- the consumers of other leaves of the provider stay
  kept : (p k : ℕ) (c : List ℕ) → (p == d) ≡ false → (q ≡ p → bytes_eq c own ≡ false) → KeptAt (history_in past p) (history_in now p) k c
  kept p k c apart differ tick hand_c at =
      by_same (λ b. (q == p) ≡ b → Following (history_in now p) k c tick hand_c) q p
      (λ same _.
      let queue_is : a.queue ≡ k = cc (sym (subst (λ n. queue_of_set (queues (history_in past n)) (node (history_in past n)) ≡ Some a.queue) at_source a.follows.replays.of_set)
      ∙ ap (λ n. queue_of_set (queues (history_in past n)) (node (history_in past n))) same ∙ at.of_set) in
      subst (λ n. Following (history_in past n) k c tick hand_c → Following (history_in now n) k c tick hand_c) same
      (λ here. subst (λ g. Following g k c tick hand_c) (sym at_q) (kept-each (history_in past q) k c move.provider legal_q (subst (λ n. SparesEach (history_in past q) n c move.provider) queue_is (mv.spared c (differ same))) tick hand_c here)) at)
      (λ other _. subst (λ g. Following g k c tick hand_c) (sym (elsewhere p other (flip apart))) at) refl
    where
      flip : (p == d) ≡ false → (d == p) ≡ false
      flip e = grind (arith, nat_tests, e)

  same-before : (e : ℕ) (m : Leaf) → (d == e) ≡ false → node (history_in now e) ≡ Some (of_leaf m) → node (history_in past e) ≡ Some (of_leaf m)
  same-before e m differ is =
      by_same (λ b. (q == e) ≡ b → node (history_in past e) ≡ Some (of_leaf m)) q e
      (λ same _. absurd (cc (root_there (Some (of_leaf m)) (ap (λ n. node (history_in now n)) same ∙ is)))) (λ other _. sym (ap node (elsewhere e other differ)) ∙ is) refl

  none-before : (e : ℕ) → node (history_in now e) ≡ None → (node (history_in past e) ≡ None) × ((d == e) ≡ false)
  none-before e is =
      by_same (λ b. (d == e) ≡ b → (node (history_in past e) ≡ None) × ((d == e) ≡ false)) d e
      (λ same _. absurd (cc (sym leaf_there ∙ ap (λ n. node (history_in now n)) same ∙ is)))
      (λ differ _. (
        by_same (λ b. (q == e) ≡ b → node (history_in past e) ≡ None) q e
            (λ same _. absurd (cc (root_there None (ap (λ n. node (history_in now n)) same ∙ is)))) (λ other _. sym (ap node (elsewhere e other differ)) ∙ is) refl,
        differ,
      )) refl

  others : (e : ℕ) (m : Leaf) → (d == e) ≡ false → node (history_in now e) ≡ Some (of_leaf m) → Next past now f e m
  others e m differ is = record { was = m; is_leaf = was; named = refl; follows = follows }
    where
      was : node (history_in past e) ≡ Some (of_leaf m)
      was = same-before e m differ is

      b : AtSource past e m
      b = f.leaves e m was

      apart_named : q ≡ b.p → m.name ≡ l.name → ⊥
      apart_named from same =
          let one : d ≡ e = f.apart d e q l m leaf was (a.from ∙ ap Some at_source) (b.from ∙ ap Some (sym from)) (sym same) in
          cc (sym differ ∙ ap (λ n. n == e) one ∙ same-session e)

      follows : LeafFollows (history_in now b.p) b.queue m (batches now e) (hands now e)
      follows =
          subst (λ x. LeafFollows (history_in now b.p) b.queue m x (hands now e)) (sym (hs.other_batches e differ))
          (subst (LeafFollows (history_in now b.p) b.queue m (batches past e)) (sym (hs.other_hands e differ))
          (all-kept (history_in past b.p) (history_in now b.p) b.queue m (batches past e) (hands past e)
          (kept b.p b.queue m.name (provider-apart past e d m l b leaf) (λ from. leaf-differs l m own is_own b.follows.undotted (apart_named from)))
          (kept b.p b.queue (copy_name m) (provider-apart past e d m l b leaf) (λ from. copy-differs l m own is_own a.follows.undotted (apart_named from))) b.follows))

  mine : (m : Leaf) → node (history_in now d) ≡ Some (of_leaf m) → Next past now f d m
  mine m is =
      let same : mv.leaf ≡ m = cc (sym leaf_there ∙ is) in
      record {
        was = l;
        is_leaf = leaf;
        named = ap Leaf.name (sym same) ∙ mv.named;
        follows =
            subst (λ n. LeafFollows (history_in now n) a.queue m (batches now d) (hands now d)) (sym at_source)
            (subst (λ x. LeafFollows (history_in now q) a.queue m x (hands now d)) (sym hs.batch_there)
            (same-hands (history_in now q) a.queue m batch hand (hands now d) hs.hand_there
            (subst (λ x. LeafFollows (history_in now q) a.queue x batch hand) same (subst (λ g. LeafFollows g a.queue mv.leaf batch hand) (sym at_q) (mv.follows legal_q)))));
      }

  pub move-follow : Follow now
  move-follow =
      follow-next past now f all_noded sourced
      (λ e m is.
      by_same (λ b. (d == e) ≡ b → Next past now f e m) d e
      (λ same _. subst (λ n. node (history_in now n) ≡ Some (of_leaf m) → Next past now f n m) same (mine m) is) (λ differ _. others e m differ is) refl)
      (λ e is. let before = none-before e is in hs.other_batches e before.1 ∙ f.bare e before.0)
      (λ e name is. let before = none-before e is in ap (λ g. g name) (hs.other_hands e before.1) ∙ f.empty e name before.0)

-- ---- what a worker then has in hand

module _ {H : Type 0} (past : Past) (d q : ℕ) (l : Leaf) (f : Follow past) (leaf : node (history_in past d) ≡ Some (of_leaf l)) (own : List ℕ) (is_own : IsOwn l own) (move : Move H) (at_source : (f.leaves d l leaf).p ≡ q) where
  abbrev middle : Past
  middle = after_calls (after_calls past q move.provider) d move.replica

  apart : (q == d) ≡ false
  apart = ap (λ n. n == d) (sym at_source) ∙ provider-apart past d d l l (f.leaves d l leaf) leaf

  apart_back : (d == q) ≡ false
  apart_back = grind (arith, nat_tests, apart)

  at_d : history_in middle d ≡ after_each (history_in past d) move.replica
  at_d = each-calls (after_calls past q move.provider) d move.replica ∙ ap (λ h. after_each h move.replica) (histories-elsewhere past q move.provider d apart)

  at_q : history_in middle q ≡ after_each (history_in past q) move.provider
  at_q = histories-elsewhere (after_calls past q move.provider) d move.replica q apart_back ∙ each-calls past q move.provider

  elsewhere : (e : ℕ) → (q == e) ≡ false → (d == e) ≡ false → history_in middle e ≡ history_in past e
  elsewhere e other differ = histories-elsewhere (after_calls past q move.provider) d move.replica e differ ∙ histories-elsewhere past q move.provider e other

  stays : AllLegal middle → Stays past middle
  stays after =
      let one : Stays past (after_calls past q move.provider) = stays-calls past q move.provider (legal-calls (after_calls past q move.provider) d move.replica after) f.all_noded in
      let two : Stays (after_calls past q move.provider) middle = stays-calls (after_calls past q move.provider) d move.replica after one.all_noded in
      record { all_noded = two.all_noded; sourced = λ e p from. two.sourced e p (one.sourced e p from) }

  batches-middle : batches middle ≡ batches past
  batches-middle = batches-calls (after_calls past q move.provider) d move.replica ∙ batches-calls past q move.provider

  hands-middle : hands middle ≡ hands past
  hands-middle = hands-calls (after_calls past q move.provider) d move.replica ∙ hands-calls past q move.provider

  -- the leaf's worker has a batch, or nothing
  pub follow-batch : (batch : Option BatchHand) → MoveFollows (history_in past q) (history_in past d) (f.leaves d l leaf).queue l own move batch (hands past d) → AllLegal (batch_in_hand d batch ∷ middle)
      → Follow (batch_in_hand d batch ∷ middle)
  follow-batch batch mv after =
      let legal : AllLegal middle = λ e. after e in
      let s : Stays past middle = stays legal in
      move-follow past (batch_in_hand d batch ∷ middle) d q l f leaf own is_own move batch (hands past d) mv at_source s.all_noded s.sourced at_d at_q elsewhere after (record {
        batch_there = ap (λ b. if b then batch else batches middle d) (same-session d);
        hand_there = λ name. ap (λ g. g d name) hands-middle;
        other_batches = λ e differ. ap (λ b. if b then batch else batches middle e) differ ∙ ap (λ g. g e) batches-middle;
        other_hands = λ e differ. ap (λ g. g e) hands-middle;
      })

  -- the worker of a table has this
  pub follow-hand : (name : List ℕ) (mine : Option Hand) → MoveFollows (history_in past q) (history_in past d) (f.leaves d l leaf).queue l own move (batches past d) (handed name mine (hands past d))
      → AllLegal (in_hand d name mine ∷ middle) → Follow (in_hand d name mine ∷ middle)
  follow-hand name mine mv after =
      let legal : AllLegal middle = λ e. after e in
      let s : Stays past middle = stays legal in
      move-follow past (in_hand d name mine ∷ middle) d q l f leaf own is_own move (batches past d) (handed name mine (hands past d)) mv at_source s.all_noded s.sourced at_d at_q elsewhere after (record {
        batch_there = ap (λ g. g d) batches-middle;
        hand_there = λ n. ap (λ b. (if b then changed_for name (λ _. mine) (hands middle d) else hands middle d) n) (same-session d) ∙ ap (λ g. if bytes_eq n name then mine else g d n) hands-middle;
        other_batches = λ e differ. ap (λ g. g e) batches-middle;
        other_hands = λ e differ. ap (λ b. if b then changed_for name (λ _. mine) (hands middle e) else hands middle e) differ ∙ ap (λ g. g e) hands-middle;
      })
