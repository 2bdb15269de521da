-- A worked list: what the contracts of some calls, one after another, say of it.
use Rattle.std.proofs.Common.{◌≡◌, ◌≢◌, ℕ, ◌+◌, ◌≤◌, max, List, [], ◌∷◌, ◌++◌, drop, Option, Some, None, ap, ◌∙◌, arith}
use Rattle.std.specs.Option.{unwrap_or}
use Rattle.std.proofs.lemmas.Bool.Decides.{nat_tests}
use Rattle.sky_chain.specs.Chains.{ChainsView, list_of, nodes_of, first_of, IsBetween, IsUnlinked, Changes}

-- the list after a change
here : (old new : ChainsView) (list : ℕ) (nodes : Option (List ℕ)) → Changes old list nodes new → list_of new list ≡ nodes
here old new list nodes changes = grind (arith, nat_tests, changes list)

-- the same, if its nodes before the change are known
after : (old new : ChainsView) (list : ℕ) (was : List ℕ) (nodes : List ℕ → List ℕ) → list_of old list ≡ Some was → Changes old list (Some (nodes (nodes_of old list))) new → list_of new list ≡ Some (nodes was)
after old new list was nodes is changes = here old new list _ changes ∙ ap (λ o. Some (nodes (unwrap_or o []))) is

module _ (new reserved made one two three : ChainsView) (list x y z : ℕ)
    (at_new : new ≡ record { lists = []; spare = 0; size = 0 })
    (spare_reserved : reserved.spare ≡ max 3 new.spare) (size_reserved : reserved.size + new.spare ≡ new.size + reserved.spare)
    (lists_made : Changes reserved list (Some []) made) (spare_made : made.spare ≡ reserved.spare) (size_made : made.size ≡ reserved.size)
    (lists_one : Changes made list (Some (nodes_of made list ++ x ∷ [])) one) (spare_one : one.spare + 1 ≡ made.spare)
    (lists_two : Changes one list (Some (nodes_of one list ++ y ∷ [])) two) (spare_two : two.spare + 1 ≡ one.spare)
    (lists_three : Changes two list (Some (nodes_of two list ++ z ∷ [])) three) (spare_three : three.spare + 1 ≡ two.spare) where
  -- three nodes are reserved, a list is made, and x, y and z are pushed at its end
  pub three_pushed : list_of three list ≡ Some (x ∷ y ∷ z ∷ [])
  three_pushed =
      let first = here reserved made list (Some []) lists_made in
      let second = after made one list [] (λ nodes. nodes ++ x ∷ []) first lists_one in
      let third = after one two list (x ∷ []) (λ nodes. nodes ++ y ∷ []) second lists_two in
      after two three list (x ∷ y ∷ []) (λ nodes. nodes ++ z ∷ []) third lists_three

  -- each push finds a spare node, and then none is left
  pub spares_suffice : (1 ≤ made.spare) × (1 ≤ one.spare) × (1 ≤ two.spare) × (three.spare ≡ 0) × (made.size ≡ 3)
  spares_suffice =
      let no_spare : new.spare ≡ 0 = ap (λ (v : ChainsView). v.spare) at_new in
      let no_size : new.size ≡ 0 = ap (λ (v : ChainsView). v.size) at_new in
      (omega arith, omega arith, omega arith, omega arith, omega arith)

module _ (three unlinked popped pushed left empty : ChainsView) (list x y z w : ℕ) (first second third last : Option ℕ)
    (lists_three : list_of three list ≡ Some (x ∷ y ∷ z ∷ [])) (spare_three : three.spare ≡ 0)
    (lists_unlinked : (l : ℕ) (front back : List ℕ) → IsBetween three l front y back → Changes three l (Some (front ++ back)) unlinked) (spare_unlinked : unlinked.spare ≡ three.spare + 1)
    (first_is : first ≡ first_of (nodes_of unlinked list)) (lists_popped : Changes unlinked list (Some (drop 1 (nodes_of unlinked list))) popped) (spare_popped : popped.spare ≡ unlinked.spare + 1)
    (lists_pushed : Changes popped list (Some (w ∷ nodes_of popped list)) pushed) (is_unlinked : IsUnlinked popped w)
    (second_is : second ≡ first_of (nodes_of pushed list)) (lists_left : Changes pushed list (Some (drop 1 (nodes_of pushed list))) left)
    (third_is : third ≡ first_of (nodes_of left list)) (lists_empty : Changes left list (Some (drop 1 (nodes_of left list))) empty)
    (last_is : last ≡ first_of (nodes_of empty list)) where
  -- y is unlinked
  pub middle_unlinked : list_of unlinked list ≡ Some (x ∷ z ∷ [])
  middle_unlinked = here three unlinked list _ (lists_unlinked list (x ∷ []) (z ∷ []) lists_three)

  -- x is popped
  pub first_popped : (first ≡ Some x) × (list_of popped list ≡ Some (z ∷ []))
  first_popped = (first_is ∙ ap (λ o. first_of (unwrap_or o [])) middle_unlinked, after unlinked popped list (x ∷ z ∷ []) (drop 1) middle_unlinked lists_popped)

  -- a node is pushed at the front, with no further reserve; it isn't z
  pub pushed_in_front : (1 ≤ popped.spare) × (list_of pushed list ≡ Some (w ∷ z ∷ [])) × (w ≢ z)
  pushed_in_front =
      (omega arith, after popped pushed list (z ∷ []) (λ nodes. w ∷ nodes) first_popped.1 lists_pushed, (rw first_popped.1 at (is_unlinked list)).0)

  -- two more pops give these two, and a third one none
  pub others_popped : (second ≡ Some w) × (third ≡ Some z) × (last ≡ None)
  others_popped =
      let two_left = pushed_in_front.1 in
      let one_left = after pushed left list (w ∷ z ∷ []) (drop 1) two_left lists_left in
      let none_left = after left empty list (z ∷ []) (drop 1) one_left lists_empty in
      (second_is ∙ ap (λ o. first_of (unwrap_or o [])) two_left, third_is ∙ ap (λ o. first_of (unwrap_or o [])) one_left, last_is ∙ ap (λ o. first_of (unwrap_or o [])) none_left)
