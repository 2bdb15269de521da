-- The path back through a list, from its newest version on.
use Rattle.std.proofs.Common.{arith, ◌≡◌, ℕ, ◌<◌, ◌+◌, Bool, true, false, not, nat_eq, List, [], ◌∷◌, ◌++◌, length, set, Option, Some, None, refl, sym, subst, ap, ◌∙◌, append_assoc, append-nil, length-append}
use Rattle.std.specs.Prelude.{◌==◌, IsSome}
use Rattle.std.proofs.lemmas.Bool.Decides.{nat_tests}
use Rattle.std.specs.Option.{unwrap_or, option_eq}
use Rattle.sky_chain.specs.Chains.{list_of, nodes_of, last_of, IsBetween, IsLinked, AreApart}
use Rattle.sky_keys.specs.declared.version.Version.{Version}
use Rattle.sky_val.specs.declared.val.Val.{Val}
use Rattle.sky_keys.specs.Versions.{with_version, without, version_of, newest_by, is_other}
use Rattle.sky_keys.proofs.VersionLemmas.{left, without-none}
use Rattle.sky_rows.specs.Versions.{IsOneOfEach}
use Rattle.sky_rows.specs.Older.{OlderView, node_at, and_version, versions_at_nodes, list_in, older_in, IsFilled, IsFound, IsTakenOut, Changes}
use Rattle.sky_rows.proofs.Nodes.{versions-append, versions-middle, place_of, last_split, last_none, place-front}
use Rattle.sky_rows.proofs.Found.{newest_by-middle, newest_by-rest, no_version, version_of-middle, with_version-middle, without-middle}
use Rattle.sky_rows.proofs.OlderLemmas.{is_list, older_in-nodes, some_list, same_changes, replaced, replaced_filled}

module _ (Fits : (ℕ → Bool) → Type 0) (older : OlderView) (list : ℕ) where
  -- none of the versions after those that are ahead passes, up to this node
  abbrev pub IsAhead : Option ℕ → Type 0
  IsAhead at = (front : List ℕ) × (back : List ℕ) × (list_of older.chains list ≡ Some (front ++ back)) × (at ≡ last_of front) × ((p : ℕ → Bool) → Fits p → newest_by p (versions_at_nodes older.nodes back) ≡ None)

  -- the same, of the node that is next
  abbrev pub IsHere : ℕ → Type 0
  IsHere node = (front : List ℕ) × (back : List ℕ) × IsBetween older.chains list front node back × ((p : ℕ → Bool) → Fits p → newest_by p (versions_at_nodes older.nodes back) ≡ None)

  pub from_last : (at : Option ℕ) → IsSome (list_in older list) → at ≡ last_of (nodes_of older.chains list) → IsAhead at
  from_last at some last =
      (nodes_of older.chains list, [], some_list (list_of older.chains list) (is_list older list some) ∙ ap Some (sym (append-nil (nodes_of older.chains list))), last, λ p fits. refl)

  pub here : (at : Option ℕ) (node : ℕ) → IsAhead at → at ≡ Some node → IsHere node
  here at node (front, back, is, last, none) at_is =
      let split = last_split front node (sym last ∙ at_is) in
      (split.0, back, is ∙ ap (λ xs. Some (xs ++ back)) split.1 ∙ ap Some (append_assoc split.0 (node ∷ []) back), none)

  pub found_here : (node : ℕ) (v : Version) → IsHere node → node_at older.nodes node ≡ Some v → (p : ℕ → Bool) → Fits p → p v.txid ≡ true → IsFound p older list (Some node)
  found_here node v (front, back, between, none) is p fits passes = (front, back, v, between, is, passes, none p fits)

  none_here : (o : Option Version) (p : ℕ → Bool) (vs : List Version) → ((v : Version) → o ≡ Some v → p v.txid ≡ false) → newest_by p vs ≡ None → newest_by p (and_version o vs) ≡ None
  none_here None p vs fails none = none
  none_here (Some v) p vs fails none = newest_by-rest p v vs (fails v refl) none

  pub past : (node : ℕ) (prev : Option ℕ) (way : IsHere node) → prev ≡ last_of way.0 → ((p : ℕ → Bool) → Fits p → (v : Version) → node_at older.nodes node ≡ Some v → p v.txid ≡ false) → IsAhead prev
  past node prev (front, back, between, none) last fails =
      (front, node ∷ back, between, last, λ p fits. none_here (node_at older.nodes node) p (versions_at_nodes older.nodes back) (fails p fits) (none p fits))

  pub nearer : (node : ℕ) (prev : Option ℕ) (way : IsHere node) → AreApart older.chains → prev ≡ last_of way.0 → place_of prev (nodes_of older.chains list) < place_of (Some node) (nodes_of older.chains list)
  nearer node prev (front, back, between, none) apart last =
      let nodes : nodes_of older.chains list ≡ front ++ node ∷ back = ap (λ o. unwrap_or o []) between in
      let left : place_of prev (nodes_of older.chains list) ≡ length front = (λ i. place_of (last i) (nodes i)) ∙ place-front older.chains list front (node ∷ back) apart between in
      let one : place_of (Some node) (nodes_of older.chains list) ≡ length front + 1 =
      (λ i. place_of (last_is_node front i) (nodes i)) ∙ ap (place_of (last_of (front ++ node ∷ []))) (sym (append_assoc front (node ∷ []) back))
      ∙ place-front older.chains list (front ++ node ∷ []) back apart (between ∙ ap Some (sym (append_assoc front (node ∷ []) back))) ∙ length-append front (node ∷ []) in
      omega (arith, left, one)
    where
      last_is_node : (xs : List ℕ) → Some node ≡ last_of (xs ++ node ∷ [])
      last_is_node [] = refl
      last_is_node (x ∷ []) = refl
      last_is_node (x ∷ y ∷ xs) = last_is_node (y ∷ xs)

  pub none_ahead : (p : ℕ → Bool) → Fits p → IsAhead None → IsFound p older list None
  none_ahead p fits (front, back, is, last, none) =
      ap (newest_by p) (older_in-nodes older list ∙ ap (λ o. versions_at_nodes older.nodes (unwrap_or o [])) is ∙ ap (λ xs. versions_at_nodes older.nodes (xs ++ back)) (last_none front (sym last))) ∙ none p fits

-- ---- what was found

-- what the code asks of a version's transaction
pub differs : (except : Option ℕ) (t : ℕ) → not (option_eq nat_eq except (Some t)) ≡ is_other except t
differs None t = refl
differs (Some u) t = refl

turned : (t u : ℕ) → (t == u) ≡ (u == t)
turned t u = grind (arith, nat_tests)

found_in : (p : ℕ → Bool) (older : OlderView) (list node : ℕ) (way : IsFound p older list (Some node)) → older_in older list ≡ versions_at_nodes older.nodes way.0 ++ way.2 ∷ versions_at_nodes older.nodes way.1
found_in p older list node (front, back, v, between, is, passes, none) =
    older_in-nodes older list ∙ ap (λ o. versions_at_nodes older.nodes (unwrap_or o [])) between ∙ versions-middle older.nodes front node back v is

pub newest_found : (p : ℕ → Bool) (older : OlderView) (list node : ℕ) → IsFound p older list (Some node) → node_at older.nodes node ≡ newest_by p (older_in older list)
newest_found p older list node way =
    way.4 ∙ sym (ap (newest_by p) (found_in p older list node way) ∙ newest_by-middle p (versions_at_nodes older.nodes way.0) way.2 (versions_at_nodes older.nodes way.1) way.5 way.6)

pub own_found : (t : ℕ) (older : OlderView) (list node : ℕ) → IsOneOfEach (older_in older list) → IsFound (λ u. u == t) older list (Some node) → node_at older.nodes node ≡ version_of t (older_in older list)
own_found t older list node one way =
    let whole = found_in (λ u. u == t) older list node way in
    way.4 ∙ sym (ap (version_of t) whole ∙ version_of-middle t (versions_at_nodes older.nodes way.0) way.2 (versions_at_nodes older.nodes way.1) (subst IsOneOfEach whole one) (turned t way.2.txid ∙ way.5))

pub own_none : (t : ℕ) (older : OlderView) (list : ℕ) → IsFound (λ u. u == t) older list None → version_of t (older_in older list) ≡ None
own_none t older list none = no_version t (λ u. u == t) (older_in older list) (λ u. turned u t) none

pub own_is_linked : (p : ℕ → Bool) (older : OlderView) (list node : ℕ) → IsFound p older list (Some node) → IsLinked older.chains node
own_is_linked p older list node (front, back, v, between, is, passes, none) = (list, front, back, between)

pub forgotten_here : (t : ℕ) (old new : OlderView) (list node : ℕ) → IsOneOfEach (older_in old list) → IsFound (λ u. u == t) old list (Some node) → IsTakenOut old node new → Changes old list (Some (without t (older_in old list))) new
forgotten_here t old new list node one way taken =
    let whole = found_in (λ u. u == t) old list node way in
    let left = ap (without t) whole ∙ without-middle t (versions_at_nodes old.nodes way.0) way.2 (versions_at_nodes old.nodes way.1) (subst IsOneOfEach whole one) (turned t way.2.txid ∙ way.5)
    ∙ sym (versions-append old.nodes way.0 way.1) in
    subst (λ vs. Changes old list (Some vs) new) (sym left) (taken list way.0 way.1 way.3)

pub forgotten_none : (t : ℕ) (older : OlderView) (list : ℕ) → IsSome (list_in older list) → IsFound (λ u. u == t) older list None → Changes older list (Some (without t (older_in older list))) older
forgotten_none t older list some none =
    subst (λ vs. Changes older list (Some vs) older) (sym (without-none t (older_in older list) (own_none t older list none))) (same_changes older list some)

module _ (t : ℕ) (row : Option (List Val)) (old new : OlderView) (list node : ℕ) (apart : AreApart old.chains) (way : IsFound (λ u. u == t) old list (Some node))
    (chains : new.chains ≡ old.chains) (nodes : new.nodes ≡ set old.nodes node (Some (left t row))) (filled : IsFilled old.chains old.nodes) where
  pub replaced_here : IsOneOfEach (older_in old list) → Changes old list (Some (with_version t row (older_in old list))) new
  replaced_here one =
      let whole = found_in (λ u. u == t) old list node way in
      replaced old new list node way.0 way.1 way.2 (left t row) (with_version t row (older_in old list)) apart way.3 way.4 chains nodes filled
      (sym (ap (with_version t row) whole ∙ with_version-middle t row (versions_at_nodes old.nodes way.0) way.2 (versions_at_nodes old.nodes way.1) (subst IsOneOfEach whole one) (turned t way.2.txid ∙ way.5)))

  pub replaced_here_filled : IsFilled new.chains new.nodes
  replaced_here_filled = replaced_filled old new list node way.0 way.1 way.2 (left t row) [] apart way.3 way.4 chains nodes filled

pub found_within : (p : ℕ → Bool) (older : OlderView) (list node : ℕ) → AreApart older.chains → IsFilled older.chains older.nodes → IsFound p older list (Some node) → node < length older.nodes
found_within p older list node apart filled way =
    let below = apart.below list node way.0 way.1 way.3 in let wide = filled.wide in omega (arith, below, wide)

pub own_some : (t : ℕ) (older : OlderView) (list node : ℕ) → IsOneOfEach (older_in older list) → IsFound (λ u. u == t) older list (Some node) → IsSome (version_of t (older_in older list))
own_some t older list node one way = subst IsSome (sym way.4 ∙ own_found t older list node one way) refl
