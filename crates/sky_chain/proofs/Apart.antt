-- That each node is at one place, and what is at the front of a list.
use Rattle.std.proofs.Common.{◌≡◌, ℕ, List, [], ◌∷◌, ◌++◌, map, drop, Option, Some, None, slice_get, refl, sym, ap, ◌∙◌, arith}
use Rattle.std.specs.Prelude.{IsSome}
use Rattle.std.specs.Option.{unwrap_or}
use Rattle.std.proofs.lemmas.Option.{same_Some}
use Rattle.sky_chain.specs.declared.links.Link.{Link}
use Rattle.sky_chain.specs.declared.links.Ends.{Ends}
use Rattle.sky_chain.specs.Chains.{ChainsView, list_of, nodes_of, first_of, Lacks, IsBetween, AreApart}
use Rattle.sky_chain.specs.Links.{nowhere, AreKept, list_in}
use Rattle.sky_chain.proofs.Lists.{Distinct, middle_is_apart}
use Rattle.sky_chain.proofs.ChainLemmas.{Chain-distinct}
use Rattle.sky_chain.proofs.Reading.{small_links, Chain-lacks_nowhere, found, seen, linked, linked_within}

-- two places of one node in a list that has it once are one place
same_place : (node : ℕ) (front back head rest : List ℕ) → Lacks node front → Lacks node head → front ++ node ∷ back ≡ head ++ node ∷ rest → (front ≡ head) × (back ≡ rest)
same_place node [] back [] rest left right same = (refl, cc)
same_place node [] back (h ∷ head) rest left right same = absurd (right.0 (cc))
same_place node (f ∷ front) back [] rest left right same = absurd (left.0 (cc))
same_place node (f ∷ front) back (h ∷ head) rest left right same =
    let firsts : f ≡ h = cc in
    let both = same_place node front back head rest left.1 right.1 (cc) in
    (cc (firsts, both.0), both.1)

pub first_is_between : (view : ChainsView) (list node : ℕ) → IsSome (list_of view list) → first_of (nodes_of view list) ≡ Some node → IsBetween view list [] node (drop 1 (nodes_of view list))
first_is_between view list node exists first = at_list (list_of view list) exists first
  where
    at_list : (o : Option (List ℕ)) → IsSome o → first_of (unwrap_or o []) ≡ Some node → o ≡ Some (node ∷ drop 1 (unwrap_or o []))
    at_list None exists first = absurd (cc)
    at_list (Some []) exists first = absurd (cc)
    at_list (Some (x ∷ xs)) exists first = ap (λ z. Some (z ∷ xs)) (same_Some _ _ first)

module _ {links : List Link} {ends : List Ends} {free free_number spare size capacity : ℕ} {lists : ℕ → Option (List ℕ)} {spares : List ℕ}
    (kept : AreKept links ends free free_number spare size capacity lists spares) (view : ChainsView) (is : record { lists = map (list_in links) ends; spare = spare; size = size } ≡ view) where
  between_distinct : (list node : ℕ) (front back : List ℕ) → IsBetween view list front node back → Distinct (front ++ node ∷ back)
  between_distinct list node front back between =
      let keeps = (found kept list (front ++ node ∷ back) (sym (seen kept view is list) ∙ between)).2 in
      Chain-distinct (slice_get links) list nowhere (front ++ node ∷ back) nowhere (Chain-lacks_nowhere links (small_links kept) list nowhere (front ++ node ∷ back) nowhere keeps.chain) keeps.chain

  pub are_apart : AreApart view
  are_apart = record {
    once = λ node one other front back head rest here there.
        let lists_same : one ≡ other =
        ap (λ (k : Link). k.list) (same_Some _ _ (sym (linked kept view is one front node back here).0 ∙ (linked kept view is other head node rest there).0)) in
        let nodes_same : front ++ node ∷ back ≡ head ++ node ∷ rest = same_Some _ _ (sym here ∙ ap (list_of view) lists_same ∙ there) in
        let places = same_place node front back head rest (middle_is_apart front node back (between_distinct one node front back here)).0
        (middle_is_apart head node rest (between_distinct other node head rest there)).0 nodes_same in
        (lists_same, places.0, places.1);
    below = λ list node front back between. omega (arith, kept.made, linked_within kept view is node (list, front, back, between), ap (λ (v : ChainsView). v.size) is);
  }
