-- The lists of older versions, as their nodes change.
use Rattle.std.proofs.Common.{arith, ◌≡◌, ◌≢◌, ℕ, ◌<◌, ◌≤◌, ◌+◌, Bool, true, false, cond, List, [], ◌∷◌, ◌++◌, length, set, Option, Some, None, refl, sym, subst, ap, ◌∙◌, length-append}
use Rattle.std.specs.Prelude.{◌==◌, IsSome, is_some, option_map}
use Rattle.std.specs.Option.{unwrap_or}
use Rattle.std.proofs.lemmas.Bool.{eqb-true, eq-eqb}
use Rattle.std.proofs.lemmas.Bool.Decides.{nat_tests}
use Rattle.std.proofs.lemmas.List.{length-set}
use Rattle.std.proofs.lemmas.Option.{same_Some}
use Rattle.sky_chain.specs.Chains.{ChainsView, list_of, nodes_of, first_of, Lacks, IsBetween, IsLinked, IsUnlinked, AreApart, Changes as ChainsChange}
use Rattle.sky_chain.proofs.Lists.{Lacks-left, Lacks-right, Lacks-append}
use Rattle.sky_keys.specs.declared.version.Version.{Version}
use Rattle.sky_rows.specs.Older.{OlderView, node_at, versions_at_nodes, list_in, older_in, AreFilled, IsFilled, Same, Changes, IsTakenOut}
use Rattle.sky_rows.proofs.Nodes.{node_at-same, node_at-other, node_at-grown, versions-other, versions-grown, versions-middle, filled-append, filled-left, filled-right, filled-other, filled-grown, no_versions, apart_front, apart_back, apart_other}

-- ---- one list is another

changed : (old new : OlderView) (list : ℕ) (xs : Option (List ℕ)) (vs : Option (List Version)) → ChainsChange old.chains list xs new.chains → option_map (versions_at_nodes new.nodes) xs ≡ vs
    → ((l : ℕ) → (l == list) ≡ false → option_map (versions_at_nodes new.nodes) (list_of old.chains l) ≡ list_in old l) → Changes old list vs new
changed old new list xs vs chains here there l = ap (option_map (versions_at_nodes new.nodes)) (chains l)
    ∙ elim (l == list) as (λ b. (l == list) ≡ b → option_map (versions_at_nodes new.nodes) (cond b xs (list_of old.chains l)) ≡ cond b vs (list_in old l)) [
      | true ↦ λ _. here
      | false ↦ λ other. there l other
    ] refl

stay_filled : (old new : OlderView) (list : ℕ) (xs : Option (List ℕ)) → ChainsChange old.chains list xs new.chains → ((ys : List ℕ) → xs ≡ Some ys → AreFilled new.nodes ys)
    → ((l : ℕ) (ys : List ℕ) → (l == list) ≡ false → list_of old.chains l ≡ Some ys → AreFilled new.nodes ys) → (l : ℕ) (ys : List ℕ) → list_of new.chains l ≡ Some ys → AreFilled new.nodes ys
stay_filled old new list xs chains here there l ys is =
    elim (l == list) as (λ b. (l == list) ≡ b → cond b xs (list_of old.chains l) ≡ Some ys → AreFilled new.nodes ys) [
      | true ↦ λ _ is. here ys is
      | false ↦ λ other is. there l ys other is
    ] refl (sym (chains l) ∙ is)

-- a node that is in no list now was in none, if it wasn't in the one that changed
was_unlinked : (old new : ChainsView) (list : ℕ) (xs : Option (List ℕ)) (node : ℕ) → ChainsChange old list xs new → (Lacks node (unwrap_or xs []) → Lacks node (nodes_of old list)) → IsUnlinked new node → IsUnlinked old node
was_unlinked old new list xs node chains here unlinked l =
    elim (l == list) as (λ b. (l == list) ≡ b → Lacks node (unwrap_or (cond b xs (list_of old l)) []) → Lacks node (nodes_of old l)) [
      | true ↦ λ same lacks. subst (λ k. Lacks node (nodes_of old k)) (sym (eqb-true l list same)) (here lacks)
      | false ↦ λ _ lacks. lacks
    ] refl (subst (λ o. Lacks node (unwrap_or o [])) (chains l) (unlinked l))

new_unlinked : (old new : ChainsView) (list : ℕ) (xs : Option (List ℕ)) (node : ℕ) → ChainsChange old list xs new → IsUnlinked new node → Lacks node (unwrap_or xs [])
new_unlinked old new list xs node chains unlinked =
    subst (λ o. Lacks node (unwrap_or o [])) (chains list ∙ ap (λ b. cond b xs (list_of old list)) (eq-eqb list list refl)) (unlinked list)

nodes_of-some : (chains : ChainsView) (list : ℕ) (xs : List ℕ) → list_of chains list ≡ Some xs → nodes_of chains list ≡ xs
nodes_of-some chains list xs is = ap (λ o. unwrap_or o []) is

pub some_list : (o : Option (List ℕ)) → IsSome o → o ≡ Some (unwrap_or o [])
some_list None some = absurd (cc some)
some_list (Some xs) some = refl

pub is_list : (older : OlderView) (list : ℕ) → IsSome (list_in older list) → IsSome (list_of older.chains list)
is_list older list some = at_list (list_of older.chains list) some
  where
    at_list : (o : Option (List ℕ)) → IsSome (option_map (versions_at_nodes older.nodes) o) → IsSome o
    at_list None some = absurd (cc some)
    at_list (Some xs) some = refl

pub older_in-nodes : (older : OlderView) (list : ℕ) → older_in older list ≡ versions_at_nodes older.nodes (nodes_of older.chains list)
older_in-nodes older list = at_list (list_of older.chains list)
  where
    at_list : (o : Option (List ℕ)) → unwrap_or (option_map (versions_at_nodes older.nodes) o) [] ≡ versions_at_nodes older.nodes (unwrap_or o [])
    at_list None = refl
    at_list (Some xs) = refl

-- the same if no node of them changed
same_list : (nodes : List (Option Version)) (x : ℕ) (o : Option Version) (xs : Option (List ℕ)) → Lacks x (unwrap_or xs []) → option_map (versions_at_nodes (set nodes x o)) xs ≡ option_map (versions_at_nodes nodes) xs
same_list nodes x o None lacks = refl
same_list nodes x o (Some xs) lacks = ap Some (versions-other nodes x o xs lacks)

-- ---- a version is appended

module _ (old new : OlderView) (list node : ℕ) (v : Version) (exists : IsSome (list_of old.chains list))
    (chains : ChainsChange old.chains list (Some (nodes_of old.chains list ++ node ∷ [])) new.chains) (unlinked : IsUnlinked old.chains node) (within : node < old.chains.size)
    (nodes : new.nodes ≡ set old.nodes node (Some v)) (size : new.chains.size ≡ old.chains.size) (filled : IsFilled old.chains old.nodes) where
  here : node_at (set old.nodes node (Some v)) node ≡ Some v
  here = let wide = filled.wide in node_at-same old.nodes node (Some v) (omega (arith, within, wide))

  pub pushed : Changes old list (Some (older_in old list ++ v ∷ [])) new
  pushed = changed old new list (Some (nodes_of old.chains list ++ node ∷ [])) _ chains
      (ap (λ ns. Some (versions_at_nodes ns (nodes_of old.chains list ++ node ∷ []))) nodes
      ∙ ap Some (versions-middle (set old.nodes node (Some v)) (nodes_of old.chains list) node [] v here
      ∙ ap (λ vs. vs ++ v ∷ []) (versions-other old.nodes node (Some v) (nodes_of old.chains list) (unlinked list) ∙ sym (older_in-nodes old list))))
      (λ l _. ap (λ ns. option_map (versions_at_nodes ns) (list_of old.chains l)) nodes ∙ same_list old.nodes node (Some v) (list_of old.chains l) (unlinked l))

  pub pushed_filled : IsFilled new.chains new.nodes
  pushed_filled = record {
    wide = subst (λ n. n ≤ length new.nodes) (sym size) (subst (λ n. old.chains.size ≤ n) (sym (ap length nodes ∙ length-set old.nodes node (Some v))) filled.wide);
    filled = stay_filled old new list (Some (nodes_of old.chains list ++ node ∷ [])) chains
        (λ ys is. subst (AreFilled new.nodes) (same_Some _ _ is) (subst (λ ns. AreFilled ns (nodes_of old.chains list ++ node ∷ [])) (sym nodes)
        (filled-append (set old.nodes node (Some v)) (nodes_of old.chains list) (node ∷ []) (filled-other old.nodes node (Some v) (nodes_of old.chains list) (unlinked list) (filled.filled list _ (some_list _ exists)))
        (ap (λ o. elim o as (λ _. Bool) [ None ↦ false | Some _ ↦ true ]) here, tt))))
        (λ l ys _ is. subst (λ ns. AreFilled ns ys) (sym nodes) (filled-other old.nodes node (Some v) ys (subst (Lacks node) (nodes_of-some old.chains l ys is) (unlinked l)) (filled.filled l ys is)));
    unfilled = λ x gone.
        let other = (Lacks-right x (nodes_of old.chains list) (node ∷ []) (new_unlinked old.chains new.chains list (Some (nodes_of old.chains list ++ node ∷ [])) x chains gone)).0 in
        ap (λ ns. node_at ns x) nodes ∙ node_at-other old.nodes node x (Some v) other
        ∙ filled.unfilled x (was_unlinked old.chains new.chains list (Some (nodes_of old.chains list ++ node ∷ [])) x chains (Lacks-left x (nodes_of old.chains list) (node ∷ [])) gone);
  }

-- ---- a node is removed

lacks_middle : (x node : ℕ) (front back : List ℕ) → x ≢ node → Lacks x (front ++ back) → Lacks x (front ++ node ∷ back)
lacks_middle x node front back other lacks = Lacks-append x front (node ∷ back) (Lacks-left x front back lacks) (other, Lacks-right x front back lacks)

module _ (old new : OlderView) (node : ℕ) (apart : AreApart old.chains)
    (chains : (list : ℕ) (front back : List ℕ) → IsBetween old.chains list front node back → ChainsChange old.chains list (Some (front ++ back)) new.chains)
    (nodes : new.nodes ≡ set old.nodes node None) where
  pub taken_out : IsTakenOut old node new
  taken_out list front back between =
      let lacks = Lacks-append node front back (apart_front old.chains list node front back apart between) (apart_back old.chains list node front back apart between) in
      changed old new list (Some (front ++ back)) _ (chains list front back between)
      (ap Some (ap (λ ns. versions_at_nodes ns (front ++ back)) nodes ∙ versions-other old.nodes node None (front ++ back) lacks))
      (λ l differs. ap (λ ns. option_map (versions_at_nodes ns) (list_of old.chains l)) nodes ∙ same_elsewhere (list_of old.chains l) (λ xs is. apart_other old.chains list node front back l xs apart between differs is))
    where
      same_elsewhere : (o : Option (List ℕ)) → ((xs : List ℕ) → o ≡ Some xs → Lacks node xs) → option_map (versions_at_nodes (set old.nodes node None)) o ≡ option_map (versions_at_nodes old.nodes) o
      same_elsewhere None lacks = refl
      same_elsewhere (Some xs) lacks = ap Some (versions-other old.nodes node None xs (lacks xs refl))

  pub taken_out_filled : IsLinked old.chains node → new.chains.size ≡ old.chains.size → IsFilled old.chains old.nodes → IsFilled new.chains new.nodes
  taken_out_filled (list, front, back, between) size filled =
      let here = filled.filled list (front ++ node ∷ back) between in
      let left = apart_front old.chains list node front back apart between in
      let right = apart_back old.chains list node front back apart between in
      let change = chains list front back between in
      record {
        wide = subst (λ n. n ≤ length new.nodes) (sym size) (subst (λ n. old.chains.size ≤ n) (sym (ap length nodes ∙ length-set old.nodes node None)) filled.wide);
        filled = stay_filled old new list (Some (front ++ back)) change
            (λ ys is. subst (AreFilled new.nodes) (same_Some _ _ is) (subst (λ ns. AreFilled ns (front ++ back)) (sym nodes)
            (filled-append (set old.nodes node None) front back (filled-other old.nodes node None front left (filled-left old.nodes front (node ∷ back) here))
            (filled-other old.nodes node None back right (filled-right old.nodes front (node ∷ back) here).1))))
            (λ l ys differs is. subst (λ ns. AreFilled ns ys) (sym nodes) (filled-other old.nodes node None ys (apart_other old.chains list node front back l ys apart between differs is) (filled.filled l ys is)));
        unfilled = λ x gone.
            let within : node < length old.nodes = let below = apart.below list node front back between in let wide = filled.wide in omega (arith, below, wide) in
            ap (λ ns. node_at ns x) nodes
            ∙ elim (x == node) as (λ b. (x == node) ≡ b → node_at (set old.nodes node None) x ≡ None) [
              | true ↦ λ same. ap (node_at (set old.nodes node None)) (eqb-true x node same) ∙ node_at-same old.nodes node None within
              | false ↦ λ differs.
                  let other : x ≢ node = λ same. grind (arith, nat_tests, differs, same) in
                  node_at-other old.nodes node x None other
                  ∙ filled.unfilled x (was_unlinked old.chains new.chains list (Some (front ++ back)) x change
                  (λ lacks. subst (Lacks x) (sym (nodes_of-some old.chains list (front ++ node ∷ back) between)) (lacks_middle x node front back other lacks)) gone)
            ] refl;
      }

-- ---- a version takes another one's place

module _ (old new : OlderView) (list node : ℕ) (front back : List ℕ) (u v : Version) (vs : List Version) (apart : AreApart old.chains) (between : IsBetween old.chains list front node back)
    (was : node_at old.nodes node ≡ Some u) (chains : new.chains ≡ old.chains) (nodes : new.nodes ≡ set old.nodes node (Some v)) (filled : IsFilled old.chains old.nodes) where
  within : node < length old.nodes
  within = let below = apart.below list node front back between in let wide = filled.wide in omega (arith, below, wide)

  same_chains : (l : ℕ) → list_of new.chains l ≡ cond (l == list) (Some (front ++ node ∷ back)) (list_of old.chains l)
  same_chains l = ap (λ k. list_of k l) chains
      ∙ elim (l == list) as (λ b. (l == list) ≡ b → list_of old.chains l ≡ cond b (Some (front ++ node ∷ back)) (list_of old.chains l)) [
        | true ↦ λ same. ap (list_of old.chains) (eqb-true l list same) ∙ between
        | false ↦ λ _. refl
      ] refl

  left : Lacks node front
  left = apart_front old.chains list node front back apart between

  right : Lacks node back
  right = apart_back old.chains list node front back apart between

  same_elsewhere : (o : Option (List ℕ)) → ((xs : List ℕ) → o ≡ Some xs → Lacks node xs) → option_map (versions_at_nodes (set old.nodes node (Some v))) o ≡ option_map (versions_at_nodes old.nodes) o
  same_elsewhere None lacks = refl
  same_elsewhere (Some xs) lacks = ap Some (versions-other old.nodes node (Some v) xs (lacks xs refl))

  pub replaced : versions_at_nodes old.nodes front ++ v ∷ versions_at_nodes old.nodes back ≡ vs → Changes old list (Some vs) new
  replaced is =
      let middle = versions-middle (set old.nodes node (Some v)) front node back v (node_at-same old.nodes node (Some v) within) in
      changed old new list (Some (front ++ node ∷ back)) (Some vs) same_chains
      (ap Some (ap (λ ns. versions_at_nodes ns (front ++ node ∷ back)) nodes ∙ middle
      ∙ (λ i. versions-other old.nodes node (Some v) front left i ++ v ∷ versions-other old.nodes node (Some v) back right i) ∙ is))
      (λ l differs. ap (λ ns. option_map (versions_at_nodes ns) (list_of old.chains l)) nodes ∙ same_elsewhere (list_of old.chains l) (λ xs is. apart_other old.chains list node front back l xs apart between differs is))

  pub replaced_filled : IsFilled new.chains new.nodes
  replaced_filled =
      let here = filled.filled list (front ++ node ∷ back) between in
      record {
        wide = subst (λ (k : ChainsView). k.size ≤ length new.nodes) (sym chains) (subst (λ n. old.chains.size ≤ n) (sym (ap length nodes ∙ length-set old.nodes node (Some v))) filled.wide);
        filled = stay_filled old new list (Some (front ++ node ∷ back)) same_chains
            (λ ys is. subst (AreFilled new.nodes) (same_Some _ _ is) (subst (λ ns. AreFilled ns (front ++ node ∷ back)) (sym nodes)
            (filled-append (set old.nodes node (Some v)) front (node ∷ back) (filled-other old.nodes node (Some v) front left (filled-left old.nodes front (node ∷ back) here))
            (subst IsSome (sym (node_at-same old.nodes node (Some v) within)) refl, filled-other old.nodes node (Some v) back right (filled-right old.nodes front (node ∷ back) here).1))))
            (λ l ys differs is. subst (λ ns. AreFilled ns ys) (sym nodes) (filled-other old.nodes node (Some v) ys (apart_other old.chains list node front back l ys apart between differs is) (filled.filled l ys is)));
        unfilled = λ x gone.
            let lacks = new_unlinked old.chains new.chains list (Some (front ++ node ∷ back)) x same_chains gone in
            let other : x ≢ node = (Lacks-right x front (node ∷ back) lacks).0 in
            ap (λ ns. node_at ns x) nodes ∙ node_at-other old.nodes node x (Some v) other
            ∙ filled.unfilled x (subst (λ k. IsUnlinked k x) chains gone);
      }

-- ---- a list is added or removed, or there is one node more

pub free_filled : (old new : OlderView) (list : ℕ) → list_of old.chains list ≡ Some [] → ChainsChange old.chains list None new.chains → new.nodes ≡ old.nodes → new.chains.size ≡ old.chains.size → IsFilled old.chains old.nodes → IsFilled new.chains new.nodes
free_filled old new list is chains nodes size filled = record {
  wide = subst (λ n. n ≤ length new.nodes) (sym size) (subst (λ ns. old.chains.size ≤ length ns) (sym nodes) filled.wide);
  filled = stay_filled old new list None chains (λ ys none. absurd (cc none)) (λ l ys _ is. subst (λ ns. AreFilled ns ys) (sym nodes) (filled.filled l ys is));
  unfilled = λ x gone. ap (λ ns. node_at ns x) nodes
      ∙ filled.unfilled x (was_unlinked old.chains new.chains list None x chains (λ _. subst (Lacks x) (sym (nodes_of-some old.chains list [] is)) tt) gone);
}

pub freed : (old new : OlderView) (list : ℕ) → ChainsChange old.chains list None new.chains → new.nodes ≡ old.nodes → Changes old list None new
freed old new list chains nodes = changed old new list None None chains refl (λ l _. ap (λ ns. option_map (versions_at_nodes ns) (list_of old.chains l)) nodes)

-- a list that has no version has no node
pub empty_list : (older : OlderView) (list : ℕ) → IsFilled older.chains older.nodes → list_in older list ≡ Some [] → list_of older.chains list ≡ Some []
empty_list older list filled none = at_list (list_of older.chains list) (filled.filled list) none
  where
    at_list : (o : Option (List ℕ)) → ((xs : List ℕ) → o ≡ Some xs → AreFilled older.nodes xs) → option_map (versions_at_nodes older.nodes) o ≡ Some [] → o ≡ Some []
    at_list None filled none = absurd (cc none)
    at_list (Some xs) filled none = ap Some (no_versions older.nodes xs (filled xs refl) (same_Some _ _ none))

pub made : (old new : OlderView) (list : ℕ) → ChainsChange old.chains list (Some []) new.chains → new.nodes ≡ old.nodes → Changes old list (Some []) new
made old new list chains nodes = changed old new list (Some []) (Some []) chains refl (λ l _. ap (λ ns. option_map (versions_at_nodes ns) (list_of old.chains l)) nodes)

pub grown : (old new : OlderView) → new.chains.lists ≡ old.chains.lists → new.nodes ≡ old.nodes ++ None ∷ [] → Same old new
grown old new lists nodes l = (λ i. option_map (versions_at_nodes (nodes i)) (list_of (record { lists = lists i; spare = 0; size = 0 }) l)) ∙ same_lists (list_of old.chains l)
  where
    same_lists : (o : Option (List ℕ)) → option_map (versions_at_nodes (old.nodes ++ None ∷ [])) o ≡ option_map (versions_at_nodes old.nodes) o
    same_lists None = refl
    same_lists (Some xs) = ap Some (versions-grown old.nodes xs)

pub grown_filled : (old new : OlderView) → new.chains.lists ≡ old.chains.lists → new.nodes ≡ old.nodes ++ None ∷ [] → new.chains.size ≡ old.chains.size + 1 → IsFilled old.chains old.nodes → IsFilled new.chains new.nodes
grown_filled old new lists nodes size filled = record {
  wide = let wide = filled.wide in let longer : length new.nodes ≡ length old.nodes + 1 = ap length nodes ∙ length-append old.nodes (None ∷ []) in omega (arith, wide, size, longer);
  filled = λ l ys is. subst (λ ns. AreFilled ns ys) (sym nodes) (filled-grown old.nodes ys (filled.filled l ys (sym (ap (λ ls. list_of (record { lists = ls; spare = 0; size = 0 }) l) lists) ∙ is)));
  unfilled = λ x gone. ap (λ ns. node_at ns x) nodes ∙ node_at-grown old.nodes x
      ∙ filled.unfilled x (λ l. subst (λ ls. Lacks x (nodes_of (record { lists = ls; spare = 0; size = 0 }) l)) lists (gone l));
}

-- whether a list has no version is seen at its first node
pub empty_first : (older : OlderView) (list : ℕ) → IsFilled older.chains older.nodes → IsSome (list_in older list) → is_some (first_of (nodes_of older.chains list)) ≡ false → older_in older list ≡ []
empty_first older list filled some none = older_in-nodes older list ∙ at_nodes (nodes_of older.chains list) none
  where
    at_nodes : (xs : List ℕ) → is_some (first_of xs) ≡ false → versions_at_nodes older.nodes xs ≡ []
    at_nodes [] none = refl
    at_nodes (x ∷ xs) none = absurd (cc none)

pub first_empty : (older : OlderView) (list : ℕ) → IsFilled older.chains older.nodes → IsSome (list_in older list) → older_in older list ≡ [] → is_some (first_of (nodes_of older.chains list)) ≡ false
first_empty older list filled some none =
    let nodes = no_versions older.nodes (nodes_of older.chains list) (filled.filled list _ (some_list (list_of older.chains list) (is_list older list some))) (sym (older_in-nodes older list) ∙ none) in
    ap (λ xs. is_some (first_of xs)) nodes

-- a list that stays as it is
pub same_changes : (older : OlderView) (list : ℕ) → IsSome (list_in older list) → Changes older list (Some (older_in older list)) older
same_changes older list some l =
    elim (l == list) as (λ b. (l == list) ≡ b → list_in older l ≡ cond b (Some (older_in older list)) (list_in older l)) [
      | true ↦ λ same. ap (list_in older) (eqb-true l list same) ∙ some_versions (list_in older list) some
      | false ↦ λ _. refl
    ] refl
  where
    some_versions : (o : Option (List Version)) → IsSome o → o ≡ Some (unwrap_or o [])
    some_versions None some = absurd (cc some)
    some_versions (Some vs) some = refl
