-- The queue of a set stays while others are made and dropped, and is no queue of another name.
use Rattle.std.proofs.Common.{◌≡◌, ℕ, true, false, not, ◌||◌, ◌==◌, List, [], ◌∷◌, ◌++◌, Option, Some, None, IfSome, is_some, option_map, cond, bytes_eq, refl, sym, ◌∙◌, ap, subst, arith, if◌then◌else◌}
use Rattle.std.specs.List.{list_any}
use Rattle.std.proofs.lemmas.Bool.{false_from_ne_true}
use Rattle.std.proofs.lemmas.Bool.Decides.{nat_tests}
use Rattle.londiste_state.specs.Nodes.{Root, Node, of_root, of_leaf}
use Rattle.sky_names.specs.Places.{named}
use Rattle.sky_names.proofs.PlaceLemmas.{bytes_eq_refl, same_name}
use Rattle.sky_model.specs.History.{queued, made, dropped, History}
use Rattle.sky_model.specs.Queues.{NamedQueue, queues_made, queues, others_than, queue_number}
use Rattle.sky_model.specs.Nodes.{node, is_set_queue, is_root}
use Rattle.sky_histories.proofs.Legal.{queue_of_set, IsNotSets}
use Rattle.sky_histories.proofs.QueueNumbers.{among-number, others-among, queue-below}
use Rattle.sky_model.proofs.Cases.{by_test, by_same}

-- ---- no two queues have one number

abbrev Apart : List NamedQueue → Type 0
Apart [] = Unit {0}
Apart (x ∷ xs) = (list_any (λ y. y.number == x.number) xs ≡ false) × Apart xs

apart-push : (xs : List NamedQueue) (last : NamedQueue) → list_any (λ y. y.number == last.number) xs ≡ false → Apart xs → Apart (xs ++ last ∷ [])
apart-push [] last none apart = (refl, tt)
apart-push (x ∷ xs) last none apart = (first xs apart.0, apart-push xs last (grind (arith, none)) apart.1)
  where
    other : (last.number == x.number) ≡ false
    other = grind (arith, nat_tests, none)

    first : (ys : List NamedQueue) → list_any (λ y. y.number == x.number) ys ≡ false → list_any (λ y. y.number == x.number) (ys ++ last ∷ []) ≡ false
    first [] e = ap (λ b. b || false) other
    first (y ∷ ys) e = grind (arith, first ys, e)

apart-others : (p : ℕ) (xs : List NamedQueue) → Apart xs → Apart (others_than p xs)
apart-others p [] apart = tt
apart-others p (x ∷ xs) apart =
    by_test (λ b. Apart (if b then x ∷ others_than p xs else others_than p xs)) (not (x.number == p))
    (λ _. (false_from_ne_true (list_any (λ y. y.number == x.number) (others_than p xs)) (λ is. absurd (cc (sym apart.0 ∙ others-among p xs x.number is))), apart-others p xs apart.1))
    (λ _. apart-others p xs apart.1)

queues-apart : (h : History) → Apart (queues h)
queues-apart [] = tt
queues-apart (queued (made name t time) ∷ h) =
    apart-push (queues h) (record { number = queues_made h; name = name })
    (false_from_ne_true (list_any (λ y. y.number == queues_made h) (queues h)) (λ is. absurd (omega (arith, queue-below h (queues_made h) is)))) (queues-apart h)
queues-apart (queued (dropped p) ∷ h) = apart-others p (queues h) (queues-apart h)
queues-apart (_ ∷ h) = queues-apart h

-- ---- a queue that is found by its name

-- is the first one, or among the rest
number-cons : (P : Type 0) (name : List ℕ) (x : NamedQueue) (xs : List NamedQueue) (q : ℕ) → (bytes_eq name x.name ≡ true → x.number ≡ q → P) → (bytes_eq name x.name ≡ false → queue_number name xs ≡ Some q → P)
    → queue_number name (x ∷ xs) ≡ Some q → P
number-cons P name x xs q first rest =
    by_test (λ b. bytes_eq name x.name ≡ b → option_map NamedQueue.number (cond b (Some x) (named NamedQueue.name name xs)) ≡ Some q → P) (bytes_eq name x.name)
    (λ _ is e. first is (cc)) (λ _ is e. rest is e) refl

one-name : (a b : List ℕ) (xs : List NamedQueue) (q : ℕ) → Apart xs → queue_number a xs ≡ Some q → queue_number b xs ≡ Some q → a ≡ b
one-name a b [] q apart is also = absurd (cc)
one-name a b (x ∷ xs) q apart is also =
    number-cons (a ≡ b) a x xs q
    (λ named_a first. number-cons (a ≡ b) b x xs q (λ named_b _. same_name a x.name named_a ∙ sym (same_name b x.name named_b))
    (λ _ rest. absurd (clash b rest first)) also)
    (λ _ rest. number-cons (a ≡ b) b x xs q (λ _ first. absurd (clash a rest first)) (λ _ other. one-name a b xs q apart.1 rest other) also) is
  where
    clash : (name : List ℕ) → queue_number name xs ≡ Some q → x.number ≡ q → ⊥
    clash name rest first = cc (sym (ap (λ n. list_any (λ y. y.number == n) xs) (sym first) ∙ apart.0) ∙ among-number name xs q rest)

-- one of another name than the set's isn't the set's
pub not-sets : (h : History) (name : List ℕ) (q : ℕ) → queue_number name (queues h) ≡ Some q → is_set_queue name (node h) ≡ false → IsNotSets h q
not-sets h name q is other = of (node h) other
  where
    differs : (r : Root) → bytes_eq name r.queue ≡ false → (o : Option ℕ) → queue_number r.queue (queues h) ≡ o → IfSome o (λ set. (set == q) ≡ false)
    differs r apart None found = tt
    differs r apart (Some set) found =
        by_same (λ b. b ≡ false) set q
        (λ same. absurd (cc (sym apart ∙ ap (λ n. bytes_eq n r.queue) (one-name name r.queue (queues h) q (queues-apart h) is (found ∙ ap (λ n. Some n) same)) ∙ bytes_eq_refl r.queue)))
        (λ _. refl)

    of : (n : Option Node) → is_set_queue name n ≡ false → IfSome (queue_of_set (queues h) n) (λ set. (set == q) ≡ false)
    of None e = tt
    of (Some (of_leaf l)) e = tt
    of (Some (of_root r)) e = differs r e (queue_number r.queue (queues h)) refl

-- ---- a queue that is found is found still

found-made : (name : List ℕ) (xs : List NamedQueue) (last : NamedQueue) (q : ℕ) → queue_number name xs ≡ Some q → queue_number name (xs ++ last ∷ []) ≡ Some q
found-made name [] last q is = absurd (cc)
found-made name (x ∷ xs) last q is =
    by_test (λ b. option_map NamedQueue.number (cond b (Some x) (named NamedQueue.name name xs)) ≡ Some q → option_map NamedQueue.number (cond b (Some x) (named NamedQueue.name name (xs ++ last ∷ []))) ≡ Some q)
    (bytes_eq name x.name) (λ _ e. e) (λ _ e. found-made name xs last q e) is

found-others : (name : List ℕ) (xs : List NamedQueue) (p q : ℕ) → queue_number name xs ≡ Some q → (q == p) ≡ false → queue_number name (others_than p xs) ≡ Some q
found-others name [] p q is other = absurd (cc)
found-others name (x ∷ xs) p q is other =
    number-cons (queue_number name (others_than p (x ∷ xs)) ≡ Some q) name x xs q
    (λ named_so first.
    let kept : not (x.number == p) ≡ true = ap (λ n. not (n == p)) first ∙ ap not other in
    (λ i. queue_number name (if kept i then x ∷ others_than p xs else others_than p xs))
    ∙ (λ i. option_map NamedQueue.number (cond (named_so i) (Some x) (named NamedQueue.name name (others_than p xs)))) ∙ ap (λ n. Some n) first)
    (λ unnamed rest.
    let still : queue_number name (others_than p xs) ≡ Some q = found-others name xs p q rest other in
    by_test (λ b. queue_number name (if b then x ∷ others_than p xs else others_than p xs) ≡ Some q) (not (x.number == p))
    (λ _. (λ i. option_map NamedQueue.number (cond (unnamed i) (Some x) (named NamedQueue.name name (others_than p xs)))) ∙ still) (λ _. still)) is

-- and so is one that was made
pub found-new : (name : List ℕ) (xs : List NamedQueue) (number : ℕ) → is_some (queue_number name (xs ++ record { number = number; name = name } ∷ [])) ≡ true
found-new name [] number = ap (λ b. is_some (option_map NamedQueue.number (cond b (Some (record { number = number; name = name })) None))) (bytes_eq_refl name)
found-new name (x ∷ xs) number =
    by_test (λ b. is_some (option_map NamedQueue.number (cond b (Some x) (named NamedQueue.name name (xs ++ record { number = number; name = name } ∷ [])))) ≡ true) (bytes_eq name x.name)
    (λ _. refl) (λ _. found-new name xs number)

-- ---- the set's

-- a set has its queue
abbrev pub HasQueue : List NamedQueue → Option Node → Type 0
HasQueue queues n = is_root n ≡ true → is_some (queue_of_set queues n) ≡ true

-- it is the same if it is found by its name still
same-set : (xs ys : List NamedQueue) (n : Option Node) → HasQueue xs n → ((name : List ℕ) (q : ℕ) → queue_of_set xs n ≡ Some q → queue_number name xs ≡ Some q → queue_number name ys ≡ Some q)
    → queue_of_set ys n ≡ queue_of_set xs n
same-set xs ys None has found = refl
same-set xs ys (Some (of_leaf l)) has found = refl
same-set xs ys (Some (of_root r)) has found = of (queue_number r.queue xs) refl (has refl)
  where
    of : (o : Option ℕ) → queue_number r.queue xs ≡ o → is_some o ≡ true → queue_number r.queue ys ≡ queue_number r.queue xs
    of None is e = absurd (cc)
    of (Some q) is e = found r.queue q is is ∙ sym is

pub set-made : (xs : List NamedQueue) (last : NamedQueue) (n : Option Node) → HasQueue xs n → queue_of_set (xs ++ last ∷ []) n ≡ queue_of_set xs n
set-made xs last n has = same-set xs (xs ++ last ∷ []) n has (λ name q _ is. found-made name xs last q is)

pub set-dropped : (xs : List NamedQueue) (p : ℕ) (n : Option Node) → HasQueue xs n → IfSome (queue_of_set xs n) (λ set. (set == p) ≡ false) → queue_of_set (others_than p xs) n ≡ queue_of_set xs n
set-dropped xs p n has other =
    same-set xs (others_than p xs) n has (λ name q set is. found-others name xs p q is (subst (λ o. IfSome o (λ s. (s == p) ≡ false)) set other))
