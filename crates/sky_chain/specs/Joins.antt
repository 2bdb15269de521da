-- How links change.
use Rattle.std.specs.Prelude.{◌≡◌, ℕ, ◌==◌, if◌then◌else◌, List, [], ◌∷◌, ◌++◌, length, Some, option_map}
use Rattle.sky_chain.specs.declared.links.Link.{Link}
use Rattle.sky_chain.specs.declared.links.Ends.{Ends}
use Rattle.sky_chain.specs.Links.{Links, nowhere, first_or, last_or, spare_link}
use Rattle.sky_chain.specs.Chains.{ChainsView, list_of}

-- a node leads to another one
abbrev pub next_set : Links → ℕ → ℕ → Links
next_set links node next z = if z == node then option_map (λ link. record { prev = link.prev; next = next; list = link.list }) (links z) else links z

-- a node leads back to another one
abbrev pub prev_set : Links → ℕ → ℕ → Links
prev_set links node prev z = if z == node then option_map (λ link. record { prev = prev; next = link.next; list = link.list }) (links z) else links z

-- a node is in a list
abbrev pub list_set : Links → ℕ → ℕ → Links
list_set links node list z = if z == node then option_map (λ link. record { prev = link.prev; next = link.next; list = list }) (links z) else links z

-- two nodes of a list are neighbours; either may be none
abbrev pub linked : Links → ℕ → ℕ → Links
linked links before after = prev_set (next_set links before after) after before

abbrev pub ends_joined : Ends → ℕ → ℕ → Ends
ends_joined ends before after = record { first = if before == nowhere then after else ends.first; last = if after == nowhere then before else ends.last }

-- a node is inserted into a list, between two neighbours
abbrev pub inserted : Links → ℕ → ℕ → ℕ → ℕ → Links
inserted links list node before after = list_set (linked (linked links before node) node after) node list

-- the next spare node, whose link is made if no spare node has one
abbrev pub spare_node : List Link → ℕ → ℕ
spare_node links free = if free == nowhere then length links else free

abbrev pub with_spare : List Link → ℕ → List Link
with_spare links free = if free == nowhere then links ++ spare_link nowhere ∷ [] else links

-- a place in a list, after these nodes and before these
abbrev pub IsAt : ChainsView → ℕ → List ℕ → List ℕ → ℕ → ℕ → Type 0
IsAt chains list front back before after = (list_of chains list ≡ Some (front ++ back)) × (before ≡ last_or front nowhere) × (after ≡ first_or back nowhere)
