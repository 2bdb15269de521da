-- How links keep lists of nodes.
use Rattle.std.specs.Prelude.{◌≡◌, ℕ, zero, suc, ◌+◌, ◌-◌, ◌^◌, ◌==◌, ◌<◌, ◌≤◌, ⊤, if◌then◌else◌, List, [], ◌∷◌, length, Option, None, Some, slice_get}
use Rattle.sky_chain.specs.declared.links.Link.{Link}
use Rattle.sky_chain.specs.declared.links.Ends.{Ends}
use Rattle.sky_chain.specs.Chains.{Lacks}

-- no place
abbrev pub nowhere : ℕ
nowhere = 2 ^ 64 - 1

-- the mark of a list that was freed
abbrev pub freed : ℕ
freed = 2 ^ 64 - 2

-- a place, if it is one
abbrev pub at_place : ℕ → Option ℕ
at_place place = if place == nowhere then None else Some place

-- the first of some nodes, or what comes after them; the last, or what comes before them
abbrev pub first_or : List ℕ → ℕ → ℕ
first_or [] after = after
first_or (x ∷ xs) after = x

abbrev pub last_or : List ℕ → ℕ → ℕ
last_or [] before = before
last_or (x ∷ xs) before = last_or xs x

-- the links by node, the ends by list
abbrev pub Links : Type 0
Links = ℕ → Option Link

-- nodes are linked to each other, to what comes before them and to what comes after them, and all know their list
abbrev pub Chain : Links → ℕ → ℕ → List ℕ → ℕ → Type 0
Chain links list before [] after = ⊤
Chain links list before (x ∷ xs) after = (links x ≡ Some (record { prev = before; next = first_or xs after; list = list })) × Chain links list x xs after

-- the link of a node that is in no list
abbrev pub spare_link : ℕ → Link
spare_link next = record { prev = nowhere; next = next; list = nowhere }

-- spare nodes, each leading to the one after it
abbrev pub Spares : Links → List ℕ → Type 0
Spares links [] = ⊤
Spares links (x ∷ xs) = (links x ≡ Some (spare_link (first_or xs nowhere))) × Lacks x xs × Spares links xs

-- the ends of a list that was freed
abbrev pub freed_ends : ℕ → Ends
freed_ends next = record { first = next; last = freed }

-- the ends of a list without nodes
abbrev pub empty_ends : Ends
empty_ends = record { first = nowhere; last = nowhere }

-- numbers of lists that were freed, each leading to the one after it
abbrev pub Freed : (ℕ → Option Ends) → List ℕ → Type 0
Freed ends [] = ⊤
Freed ends (x ∷ xs) = (ends x ≡ Some (freed_ends (first_or xs nowhere))) × Lacks x xs × Freed ends xs

-- links and a list's ends keep its nodes
pub record Keeps (links : Links) (list : ℕ) (ends : Ends) (nodes : List ℕ) : Type 0 where
  pub first : ends.first ≡ first_or nodes nowhere
  pub last : ends.last ≡ last_or nodes nowhere
  pub chain : Chain links list nowhere nodes nowhere

-- what is kept at a list's number
abbrev pub KeepsAt : Links → ℕ → Option Ends → Option (List ℕ) → Type 0
KeepsAt links list None nodes = nodes ≡ None
KeepsAt links list (Some ends) None = ends.last ≡ freed
KeepsAt links list (Some ends) (Some nodes) = Keeps links list ends nodes

-- what is true of all that is kept: each list by its number, the spare nodes that have a link, the freed numbers, and that there is memory for `size`
-- nodes
pub record AreKept (links : List Link) (ends : List Ends) (free_node free_number spare size capacity : ℕ) (lists : ℕ → Option (List ℕ)) (spares : List ℕ) : Type 0 where
  pub keeps : (list : ℕ) → KeepsAt (slice_get links) list (slice_get ends list) (lists list)
  pub spares_are : Spares (slice_get links) spares
  pub free_node_is : free_node ≡ first_or spares nowhere
  pub numbers : List ℕ
  pub numbers_are : Freed (slice_get ends) numbers
  pub free_number_is : free_number ≡ first_or numbers nowhere
  pub spare_is : spare + length links ≡ size + length spares
  pub made : length links ≤ size
  pub room : size ≤ capacity
  pub small : capacity < 2 ^ 63
  pub few : length ends < 2 ^ 63

-- links, ends and numbers that keep some lists
abbrev pub IsKept : List Link → List Ends → ℕ → ℕ → ℕ → ℕ → ℕ → Type 0
IsKept links ends free_node free_number spare size capacity = (lists : ℕ → Option (List ℕ)) × (spares : List ℕ) × AreKept links ends free_node free_number spare size capacity lists spares

-- a node, if there is one, and those after it, from where its link leads
abbrev pub node_and : ℕ → Option Link → (ℕ → List ℕ) → List ℕ
node_and place None rest = []
node_and place (Some link) rest = place ∷ rest link.next

-- the nodes from a place on, at most so many
abbrev pub nodes_from : Links → ℕ → ℕ → List ℕ
nodes_from links zero place = []
nodes_from links (suc most) place = node_and place (links place) (λ next. nodes_from links most next)

-- the nodes of a list, if it is in use
abbrev pub list_in : List Link → Ends → Option (List ℕ)
list_in links ends = if ends.last == freed then None else Some (nodes_from (slice_get links) (length links) ends.first)
