-- Chains of links, as nodes are inserted and removed.
use Rattle.std.proofs.Common.{◌≡◌, ◌≢◌, ℕ, List, [], ◌∷◌, ◌++◌, Option, Some, None, refl, sym, ap, ◌∙◌}
use Rattle.sky_chain.specs.declared.links.Link.{Link}
use Rattle.sky_chain.specs.Chains.{Lacks}
use Rattle.sky_chain.specs.Links.{first_or, last_or, Links, Chain}
use Rattle.sky_chain.proofs.Lists.{Distinct, first_or-append}

-- a node is in no list of this number
abbrev pub IsForeign : Links → ℕ → ℕ → Type 0
IsForeign links list node = (link : Link) → links node ≡ Some link → link.list ≢ list

-- the nodes of a list have the links that they had
abbrev pub Same : Links → Links → ℕ → Type 0
Same old new list = (z : ℕ) (link : Link) → old z ≡ Some link → link.list ≡ list → new z ≡ old z

module _ (links : Links) (list : ℕ) where
  pub foreign_is_lacked : (node before : ℕ) (xs : List ℕ) (after : ℕ) → IsForeign links list node → Chain links list before xs after → Lacks node xs
  foreign_is_lacked node before [] after foreign chain = tt
  foreign_is_lacked node before (x ∷ xs) after foreign chain =
      (λ same. foreign _ (ap links same ∙ chain.0) refl, foreign_is_lacked node x xs after foreign chain.1)

  -- a node to which the link of another one leads back isn't its neighbour, unless it comes before the list
  pub back_is_lacked : (node : ℕ) (link : Link) (before : ℕ) (xs : List ℕ) (after : ℕ) → links node ≡ Some link → link.prev ≢ before → Lacks link.prev xs → Chain links list before xs after → Lacks node xs
  back_is_lacked node link before [] after is other lacks chain = tt
  back_is_lacked node link before (x ∷ xs) after is other lacks chain =
      (λ same. other (ap prev_of (sym is ∙ ap links same ∙ chain.0)), back_is_lacked node link x xs after is lacks.0 lacks.1 chain.1)
    where
      prev_of : Option Link → ℕ
      prev_of None = link.prev
      prev_of (Some l) = l.prev

  -- so no node is in a chain twice
  pub Chain-distinct : (before : ℕ) (xs : List ℕ) (after : ℕ) → Lacks before xs → Chain links list before xs after → Distinct xs
  Chain-distinct before [] after lacks chain = tt
  Chain-distinct before (x ∷ xs) after lacks chain =
      let apart = back_is_lacked x _ x xs after chain.0 lacks.0 lacks.1 chain.1 in
      (apart, Chain-distinct x xs after apart chain.1)

  pub Chain-parts : (before : ℕ) (xs ys : List ℕ) (after : ℕ) → Chain links list before (xs ++ ys) after → Chain links list before xs (first_or ys after) × Chain links list (last_or xs before) ys after
  Chain-parts before [] ys after chain = (tt, chain)
  Chain-parts before (x ∷ xs) ys after chain =
      let rest = Chain-parts x xs ys after chain.1 in
      ((rw (← first_or-append xs ys after) chain.0, rest.0), rest.1)

  pub Chain-append : (before : ℕ) (xs ys : List ℕ) (after : ℕ) → Chain links list before xs (first_or ys after) → Chain links list (last_or xs before) ys after → Chain links list before (xs ++ ys) after
  Chain-append before [] ys after left right = right
  Chain-append before (x ∷ xs) ys after left right =
      (rw (first_or-append xs ys after) left.0, Chain-append x xs ys after left.1 right)

  -- the link of a node in a chain
  pub Chain-at : (before : ℕ) (xs : List ℕ) (x : ℕ) (ys : List ℕ) (after : ℕ) → Chain links list before (xs ++ x ∷ ys) after → links x ≡ Some (record { prev = last_or xs before; next = first_or ys after; list = list })
  Chain-at before xs x ys after chain = (Chain-parts before xs (x ∷ ys) after chain).1.0

  -- the last node knows its list, and so does the first
  pub last_is_marked : (before : ℕ) (xs : List ℕ) (after : ℕ) → Chain links list before xs after → ((link : Link) → links before ≡ Some link → link.list ≡ list) → (link : Link) → links (last_or xs before) ≡ Some link → link.list ≡ list
  last_is_marked before [] after chain marked = marked
  last_is_marked before (x ∷ xs) after chain marked = last_is_marked x xs after chain.1 (λ link is. marks_of link (sym chain.0 ∙ is))
    where
      marks_of : {p n : ℕ} (link : Link) → Some (record { prev = p; next = n; list = list }) ≡ Some link → link.list ≡ list
      marks_of link is = cc

  pub first_is_marked : (before : ℕ) (xs : List ℕ) (after : ℕ) → Chain links list before xs after → ((link : Link) → links after ≡ Some link → link.list ≡ list) → (link : Link) → links (first_or xs after) ≡ Some link → link.list ≡ list
  first_is_marked before [] after chain marked = marked
  first_is_marked before (x ∷ xs) after chain marked = λ link is. cc (chain.0, is)

module _ (old new : Links) (list : ℕ) where
  -- a list whose nodes keep their links stays as it is
  pub Chain-same : Same old new list → (before : ℕ) (xs : List ℕ) (after : ℕ) → Chain old list before xs after → Chain new list before xs after
  Chain-same same before [] after chain = tt
  Chain-same same before (x ∷ xs) after chain = (same x _ chain.0 refl ∙ chain.0, Chain-same same x xs after chain.1)

  -- and so does one without the only node whose link changes
  pub Chain-without : (node : ℕ) → ((z : ℕ) → z ≢ node → new z ≡ old z) → (before : ℕ) (xs : List ℕ) (after : ℕ) → Lacks node xs → Chain old list before xs after → Chain new list before xs after
  Chain-without node same before [] after lacks chain = tt
  Chain-without node same before (x ∷ xs) after lacks chain =
      (same x (λ is. lacks.0 (sym is)) ∙ chain.0, Chain-without node same x xs after lacks.1 chain.1)

-- links that are the same at each node keep the same chains
pub Chain-agrees : (old new : Links) (list before : ℕ) (xs : List ℕ) (after : ℕ) → ((z : ℕ) → new z ≡ old z) → Chain old list before xs after → Chain new list before xs after
Chain-agrees old new list before xs after same chain = Chain-same old new list (λ z link is mark. same z) before xs after chain
