-- Names and changes along the tables of a leaf.
use Rattle.std.proofs.Common.{◌≡◌, ℕ, zero, suc, ◌+◌, ◌<◌, true, false, List, [], ◌∷◌, ◌++◌, map, take, drop, length, get_or, set, Option, Some, None, refl, ◌∙◌, ap, arith, inl, inr}
use Rattle.std.specs.Prelude.{bytes_eq, find, option_copied, if◌then◌else◌}
use Rattle.std.specs.Option.{is_some}
use Rattle.std.specs.Borrow.{Bor}
use Rattle.std.proofs.lemmas.Bool.{cases_Bool}
use Rattle.londiste_state.specs.Nodes.{LeafTable, is_among, changed_in}

-- a name is among those of some tables if one of them has it
among-found : (name : List ℕ) (tables : List LeafTable) → is_some (find (λ t. bytes_eq name t.name) tables) ≡ is_among name (map LeafTable.name tables)
among-found name [] = refl
among-found name (t ∷ tables) = elim (cases_Bool (bytes_eq name t.name)) [
  | inl is ↦ grind (arith, is)
  | inr isnt ↦ grind (arith, isnt, among-found name tables)
]

pub among-lent : (name : List ℕ) (tables : List LeafTable) (o : Option (Bor LeafTable)) → option_copied o ≡ find (λ t. bytes_eq name t.name) tables → is_some o ≡ is_among name (map LeafTable.name tables)
among-lent name tables o h = copied o ∙ ap is_some h ∙ among-found name tables
  where
    copied : (o : Option (Bor LeafTable)) → is_some o ≡ is_some (option_copied o)
    copied None = refl
    copied (Some t) = refl

-- the item of a place becomes what it is to be, after those before it
map-step : {X : Type 0} (f : X → X) (xs items : List X) (i : ℕ) (d y : X) → i < length xs → items ≡ map f (take i xs) ++ drop i xs → y ≡ f (get_or items i d)
    → set items i y ≡ map f (take (i + 1) xs) ++ drop (i + 1) xs
map-step f [] items i d y inside so becomes = absurd (omega arith)
map-step f (x ∷ xs) [] zero d y inside so becomes = absurd (cc)
map-step f (x ∷ xs) (z ∷ items) zero d y inside so becomes = grind (arith, so, becomes)
map-step f (x ∷ xs) [] (suc i) d y inside so becomes = absurd (cc)
map-step f (x ∷ xs) (z ∷ items) (suc i) d y inside so becomes = grind (arith, so, map-step f xs items i d y (omega arith))

-- a table is changed if it has the name
pub changed-step : (name : List ℕ) (change : LeafTable → LeafTable) (tables items : List LeafTable) (i : ℕ) (d y : LeafTable) → i < length tables
    → items ≡ changed_in name change (take i tables) ++ drop i tables → bytes_eq name (get_or items i d).name ≡ true → y ≡ change (get_or items i d)
    → set items i y ≡ changed_in name change (take (i + 1) tables) ++ drop (i + 1) tables
changed-step name change tables items i d y inside so is becomes =
    map-step (λ t. if bytes_eq name t.name then change t else t) tables items i d y inside so (rw is becomes)

-- and stays if it hasn't
pub same-step : (name : List ℕ) (change : LeafTable → LeafTable) (tables items : List LeafTable) (i : ℕ) (d : LeafTable) → i < length tables
    → items ≡ changed_in name change (take i tables) ++ drop i tables → bytes_eq name (get_or items i d).name ≡ false
    → set items i (get_or items i d) ≡ changed_in name change (take (i + 1) tables) ++ drop (i + 1) tables
same-step name change tables items i d inside so isnt =
    map-step (λ t. if bytes_eq name t.name then change t else t) tables items i d (get_or items i d) inside so (rw isnt refl)
