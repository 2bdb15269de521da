-- A chain after a node was inserted into it, or removed from it.
use Rattle.std.proofs.Common.{◌≡◌, ◌≢◌, ℕ, List, [], ◌∷◌, ◌++◌, Some, None, ap, ◌∙◌}
use Rattle.sky_chain.specs.declared.links.Link.{Link}
use Rattle.sky_chain.specs.Chains.{Lacks}
use Rattle.sky_chain.specs.Links.{nowhere, first_or, last_or, Links, Chain}
use Rattle.sky_chain.specs.Joins.{next_set, prev_set, list_set, linked, inserted}
use Rattle.sky_chain.proofs.Lists.{Distinct, Distinct-left, Distinct-right, Lacks-left, Lacks-right, Lacks-append, Lacks-first, Lacks-last, last_is_apart, first_is_apart, middle_is_apart}
use Rattle.sky_chain.proofs.Writes.{next_set-there, prev_set-there, next_set-elsewhere, prev_set-elsewhere, list_set-elsewhere, inserted-there}
use Rattle.sky_chain.proofs.ChainLemmas.{foreign_is_lacked, Chain-distinct, Chain-parts, Chain-append, Chain-without}

module _ (list : ℕ) where
  -- the last node of a chain now leads to another one
  pub Chain-lead : (links : Links) (before : ℕ) (xs : List ℕ) (old new : ℕ) → Distinct xs → Chain links list before xs old → Chain (next_set links (last_or xs before) new) list before xs new
  Chain-lead links before [] old new distinct chain = tt
  Chain-lead links before (x ∷ []) old new distinct chain = (next_set-there links x new _ chain.0, tt)
  Chain-lead links before (x ∷ y ∷ ys) old new distinct chain =
      let apart : x ≢ last_or ys y = Lacks-last x ys y distinct.0.0 distinct.0.1 in
      (next_set-elsewhere links (last_or ys y) new x apart ∙ chain.0, Chain-lead links x (y ∷ ys) old new distinct.1 chain.1)

  -- its first node now leads back to another one
  pub Chain-lead_back : (links : Links) (old new : ℕ) (xs : List ℕ) (after : ℕ) → Distinct xs → Chain links list old xs after → Chain (prev_set links (first_or xs after) new) list new xs after
  Chain-lead_back links old new [] after distinct chain = tt
  Chain-lead_back links old new (x ∷ xs) after distinct chain =
      (prev_set-there links x new _ chain.0, Chain-without links _ list x (prev_set-elsewhere links x new) x xs after distinct.0 chain.1)

  module _ (links : Links) (none : links nowhere ≡ None) where
    nowhere_is_lacked : (before : ℕ) (xs : List ℕ) (after : ℕ) → Chain links list before xs after → Lacks nowhere xs
    nowhere_is_lacked before xs after chain =
        foreign_is_lacked links list nowhere before xs after (λ link is _. absurd (cc (none, is))) chain

    -- two parts of a chain are joined
    pub Chain-joined : (xs ys : List ℕ) (next prev : ℕ) → Distinct (xs ++ ys) → Chain links list nowhere xs next → Chain links list prev ys nowhere
        → Chain (linked links (last_or xs nowhere) (first_or ys nowhere)) list nowhere (xs ++ ys) nowhere
    Chain-joined xs ys next prev distinct left right =
        let before = last_or xs nowhere in
        let after = first_or ys nowhere in
        let first = next_set links before after in
        let second = linked links before after in
        let after_apart = first_is_apart xs ys nowhere (nowhere_is_lacked nowhere xs next left) distinct in
        let before_apart = last_is_apart xs ys nowhere (nowhere_is_lacked prev ys nowhere right) distinct in
        let front = Chain-lead links nowhere xs next after (Distinct-left xs ys distinct) left in
        let back = Chain-without links first list before (next_set-elsewhere links before after) prev ys nowhere before_apart right in
        Chain-append second list nowhere xs ys nowhere
        (Chain-without first second list after (prev_set-elsewhere first after before) nowhere xs after after_apart front)
        (Chain-lead_back first prev before ys nowhere (Distinct-right xs ys distinct) back)

    Chain-is_distinct : (xs : List ℕ) → Chain links list nowhere xs nowhere → Distinct xs
    Chain-is_distinct xs chain = Chain-distinct links list nowhere xs nowhere (nowhere_is_lacked nowhere xs nowhere chain) chain

    -- a node is inserted into a chain
    pub Chain-inserted : (xs ys : List ℕ) (node : ℕ) (link : Link) → links node ≡ Some link → Lacks node (xs ++ ys) → Chain links list nowhere (xs ++ ys) nowhere
        → Chain (inserted links list node (last_or xs nowhere) (first_or ys nowhere)) list nowhere (xs ++ node ∷ ys) nowhere
    Chain-inserted xs ys node link is lacks chain =
        let before = last_or xs nowhere in
        let after = first_or ys nowhere in
        let distinct = Chain-is_distinct (xs ++ ys) chain in
        let parts = Chain-parts links list nowhere xs ys nowhere chain in
        let after_apart = first_is_apart xs ys nowhere (nowhere_is_lacked nowhere xs after parts.0) distinct in
        let before_apart = last_is_apart xs ys nowhere (nowhere_is_lacked before ys nowhere parts.1) distinct in
        let here : node ≢ nowhere = λ same. absurd (cc (ap links same, none, is)) in
        let left = Lacks-left node xs ys lacks in
        let right = Lacks-right node xs ys lacks in
        let first = next_set links before node in
        let second = prev_set first node before in
        let third = next_set second node after in
        let fourth = prev_set third after node in
        let fifth = list_set fourth node list in
        let front_1 = Chain-lead links nowhere xs after node (Distinct-left xs ys distinct) parts.0 in
        let front_2 = Chain-without first second list node (prev_set-elsewhere first node before) nowhere xs node left front_1 in
        let front_3 = Chain-without second third list node (next_set-elsewhere second node after) nowhere xs node left front_2 in
        let front_4 = Chain-without third fourth list after (prev_set-elsewhere third after node) nowhere xs node after_apart front_3 in
        let front_5 = Chain-without fourth fifth list node (list_set-elsewhere fourth node list) nowhere xs node left front_4 in
        let back_1 = Chain-without links first list before (next_set-elsewhere links before node) before ys nowhere before_apart parts.1 in
        let back_2 = Chain-without first second list node (prev_set-elsewhere first node before) before ys nowhere right back_1 in
        let back_3 = Chain-without second third list node (next_set-elsewhere second node after) before ys nowhere right back_2 in
        let back_4 = Chain-lead_back third before node ys nowhere (Distinct-right xs ys distinct) back_3 in
        let back_5 = Chain-without fourth fifth list node (list_set-elsewhere fourth node list) node ys nowhere right back_4 in
        let there = inserted-there links list node before after link (Lacks-last node xs nowhere here left) (Lacks-first node ys nowhere here right) is in
        Chain-append fifth list nowhere xs (node ∷ ys) nowhere front_5 (there, back_5)

    -- a node is removed from a chain
    pub Chain-removed : (new : Links) (xs : List ℕ) (node : ℕ) (ys : List ℕ) → ((z : ℕ) → z ≢ node → new z ≡ linked links (last_or xs nowhere) (first_or ys nowhere) z)
        → Chain links list nowhere (xs ++ node ∷ ys) nowhere → Chain new list nowhere (xs ++ ys) nowhere
    Chain-removed new xs node ys same chain =
        let apart = middle_is_apart xs node ys (Chain-is_distinct (xs ++ node ∷ ys) chain) in
        let parts = Chain-parts links list nowhere xs (node ∷ ys) nowhere chain in
        Chain-without (linked links (last_or xs nowhere) (first_or ys nowhere)) new list node same nowhere (xs ++ ys) nowhere
        (Lacks-append node xs ys apart.0 apart.1)
        (Chain-joined xs ys node node apart.2 parts.0 parts.1.1)
