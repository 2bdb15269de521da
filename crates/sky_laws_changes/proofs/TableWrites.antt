-- The writes of a table in a history, and the rows that those of some transactions leave.
use Rattle.std.proofs.Common.{◌≡◌, inl, inr, ℕ, List, [], ◌∷◌, Bool, true, false, Option, Some, None, is_some, refl, sym, ◌∙◌, ap, arith, ◌||◌, not, ◌==◌, if◌then◌else◌}
use Rattle.std.specs.Option.{option_or}
use Rattle.std.specs.Ordering.{eq_by_cmp}
use Rattle.std.proofs.lemmas.Bool.{and_parts, or_parts, eqb-true, not-true, true_from_ne_false, false_from_ne_true}
use Rattle.std.proofs.lemmas.Bool.Decides.{nat_tests}
use Rattle.sky_val.specs.declared.val.Val.{Val}
use Rattle.sky_val.specs.Order.{key_cmp}
use Rattle.sky_val.specs.Entries.{at}
use Rattle.sky_val.proofs.EntryLemmas.{same_entries}
use Rattle.sky_keys.proofs.EntryLemmas.{key_ties-is}
use Rattle.sky_model.specs.History.{Whose, ended, tabled, wrote, History}
use Rattle.sky_model.specs.Transactions.{has_ended, has_committed}
use Rattle.sky_model.specs.Rows.{table_names, committed, writes as writes_of, has_written, rows, put_all, own_writes}
use Rattle.sky_model.specs.Nodes.{node, set_tables}
use Rattle.sky_model.specs.LawsOfNodes.{is_one_of}
use Rattle.sky_model.specs.ShownRows.{RowsShown}
use Rattle.sky_histories.proofs.Legal.{Fine, writes, copies_row, applies_row, Legal, legal-below_mark, fine_mark}
use Rattle.sky_histories.proofs.Snapshots.{ender-unended, sound, runs-unended, copy-runs}
use Rattle.sky_histories.proofs.Holders.{IsAlone, alone, has_written-push}
use Rattle.sky_histories.proofs.KeyVersions.{same-writes}
use Rattle.sky_histories.proofs.RowWrites.{over, last_of, at-put_all, last_of-push, has_written-last_of, in_turn-push, in_turn-same, is_in_order-in_turn}
use Rattle.sky_histories.proofs.RowSights.{Since, here, later, legal-since, ended-since, read-at, same-rows}
use Rattle.sky_model.proofs.Cases.{by_same}
use Rattle.sky_laws_changes.proofs.WriteLists.{Written, Set, but, Within, left_by, after, FirstIn, OldIs, at-after, in_order-after}
use Rattle.sky_laws_changes.proofs.Places.{since-below, since-joined, either-since, committed-since, committed-ended, uncommitted-since, committed-then}

-- whether the table of a number is in the set
abbrev pub is_listed : ℕ → History → Bool
is_listed n h = is_one_of (table_names h) (set_tables (node h)) n

-- the writes of a table, the newest first
abbrev pub written : ℕ → History → List Written
written n [] = []
written n (tabled (wrote whose t m key old new) ∷ h) =
    if m == n then record { by = t; key = key; old = old; new = new; listed = is_listed n h } ∷ written n h else written n h
written n (_ ∷ h) = written n h

-- ---- what the writes of one transaction leave

own-left : (n t : ℕ) (key : List Val) (h : History) → last_of key (writes_of n t h) ≡ left_by (λ u. u == t) key (written n h)
own-left n t key [] = refl
own-left n t key (tabled (wrote whose u m k old new) ∷ h) =
    grind (arith, last_of-push key (writes_of n t h) (record { key = k; row = new }), own-left n t key h)
own-left n t key (_ ∷ h) = own-left n t key h

unwritten : (n t : ℕ) (key : List Val) (h : History) → has_written key (writes_of n t h) ≡ false → left_by (λ u. u == t) key (written n h) ≡ None
unwritten n t key h none = sym (own-left n t key h) ∙ nothing (last_of key (writes_of n t h)) (sym (has_written-last_of key (writes_of n t h)) ∙ none)
  where
    nothing : (o : Option (Option (List Val))) → is_some o ≡ false → o ≡ None
    nothing None e = refl
    nothing (Some row) e = absurd (cc)

-- what two sets leave is the same if they have the same ones of those that wrote the key
left-same : (n : ℕ) (s r : Set) (key : List Val) (h : History) → ((u : ℕ) → has_written key (writes_of n u h) ≡ true → s u ≡ r u) → left_by s key (written n h) ≡ left_by r key (written n h)
left-same n s r key [] same = refl
left-same n s r key (tabled (wrote whose t m k old new) ∷ h) same =
    let ih = left-same n s r key h (λ u is. same u (grown u is)) in
    let one : (m == n) ≡ true → eq_by_cmp key_cmp key k ≡ true → s t ≡ r t = λ is ties. same t (now is ties) in
    grind (arith, ih, one)
  where
    grown : (u : ℕ) → has_written key (writes_of n u h) ≡ true → has_written key (writes_of n u (tabled (wrote whose t m k old new) ∷ h)) ≡ true
    grown u is = grind (arith, is, has_written-push key (writes_of n u h) (record { key = k; row = new }))

    now : (m == n) ≡ true → eq_by_cmp key_cmp key k ≡ true → has_written key (writes_of n t (tabled (wrote whose t m k old new) ∷ h)) ≡ true
    now is ties = grind (arith, nat_tests, is, ties, has_written-push key (writes_of n t h) (record { key = k; row = new }))
left-same n s r key (_ ∷ h) same = left-same n s r key h same

-- one that hasn't ended wrote a key after all others that did
apart : (n t : ℕ) (s : Set) (key : List Val) (h : History) → Legal h → has_ended h t ≡ false
    → left_by (λ u. u == t || s u) key (written n h) ≡ option_or (left_by (λ u. u == t) key (written n h)) (left_by s key (written n h))
apart n t s key [] l runs = refl
apart n t s key (tabled (wrote whose u m k old new) ∷ h) l runs =
    let ih = apart n t s key h (legal-below_mark l) runs in
    grind (arith, ih, none)
  where
    a : IsAlone h u m k
    a = alone h (legal-below_mark l) (fine_mark l)

    none : (m == n) ≡ true → eq_by_cmp key_cmp key k ≡ true → (u == t) ≡ false → left_by (λ v. v == t) key (written n h) ≡ None
    none at_n ties other =
        unwritten n t key h (false_from_ne_true (has_written key (writes_of n t h)) (λ is.
        a.others t runs other ((λ i. has_written (sym (key_ties-is key k ties) i) (writes_of (eqb-true m n at_n i) t h)) ∙ is)))
apart n t s key (ended whose u c ∷ h) l runs = apart n t s key h (legal-below_mark l) (or_parts (t == u) (has_ended h t) runs).1
apart n t s key (_ ∷ h) l runs = apart n t s key h (legal-below_mark l) runs

-- the rows of a key at a place are what those that have committed there left
at-rows : (n : ℕ) (key : List Val) (h : History) → Legal h → at key (rows n h) ≡ over (left_by (has_committed h) key (written n h)) None
at-rows n key [] l = refl
at-rows n key (tabled (wrote whose t m k old new) ∷ h) l =
    ap (at key) (in_turn-same (λ u. writes_of n u (tabled (wrote whose t m k old new) ∷ h)) (λ u. writes_of n u h) (committed h) [] (same-writes h below whose t m k old new a n))
    ∙ at-rows n key h below ∙ ap (λ o. over o None) still
  where
    below : Legal h
    below = legal-below_mark l

    a : IsAlone h t m k
    a = alone h below (fine_mark l)

    uncommitted : has_committed h t ≡ false
    uncommitted = uncommitted-since here below t a.runs

    still : left_by (has_committed h) key (written n h) ≡ left_by (has_committed h) key (written n (tabled (wrote whose t m k old new) ∷ h))
    still = grind (arith, uncommitted)
at-rows n key (ended whose t true ∷ h) l =
    ap (at key) (in_turn-push (λ u. writes_of n u h) (committed h) t []) ∙ at-put_all key (writes_of n t h) (rows n h)
    ∙ (λ i. over (own-left n t key h i) (at-rows n key h below i)) ∙ joined (left_by (λ u. u == t) key (written n h)) (left_by (has_committed h) key (written n h))
    ∙ sym (ap (λ o. over o None) (apart n t (has_committed h) key h below (ender-unended h below whose t true (fine_mark l))))
  where
    below : Legal h
    below = legal-below_mark l

    joined : (o p : Option (Option (List Val))) → over o (over p None) ≡ over (option_or o p) None
    joined None p = refl
    joined (Some row) p = refl
at-rows n key (_ ∷ h) l = at-rows n key h (legal-below_mark l)

-- and above it those that had committed there leave the same
left-since : (n : ℕ) (key : List Val) {p h : History} → Since p h → Legal h → left_by (has_committed p) key (written n h) ≡ left_by (has_committed p) key (written n p)
left-since n key here l = refl
left-since n key {p = p} (later {h = h} {mark = tabled (wrote whose t m k old new)} s) l =
    let uncommitted : has_committed p t ≡ false = uncommitted-since s (legal-below_mark l) t (alone h (legal-below_mark l) (fine_mark l)).runs in
    grind (arith, uncommitted, left-since n key s (legal-below_mark l))
left-since n key (later s) l = left-since n key s (legal-below_mark l)

-- so they leave the rows
pub rows-left : (n : ℕ) {p h : History} → Since p h → Legal h → rows n p ≡ after (has_committed p) (written n h) []
rows-left n {p = p} {h = h} s l =
    same_entries (rows n p) (after (has_committed p) (written n h) []) (is_in_order-in_turn (λ t. writes_of n t p) (committed p) [] refl) (in_order-after (has_committed p) (written n h) [] refl)
    (λ key. at-rows n key p (legal-since s l) ∙ ap (λ o. over o None) (sym (left-since n key s l)) ∙ sym (at-after (has_committed p) key (written n h) []))

-- ---- two places

-- what none of a set has written none of it left
left-none : (n : ℕ) (s : Set) (key : List Val) (h : History) → ((u : ℕ) → s u ≡ true → has_written key (writes_of n u h) ≡ true → ⊥) → left_by s key (written n h) ≡ None
left-none n s key h none = left-same n s (λ _. false) key h (λ u is. false_from_ne_true (s u) (λ in_set. none u in_set is)) ∙ nothing (written n h)
  where
    nothing : (ws : List Written) → left_by (λ _. false) key ws ≡ None
    nothing [] = refl
    nothing (w ∷ ws) = nothing ws

-- the row that a write meets
pub row-met : (whose : Whose) (t m : ℕ) (k : List Val) (old new : Option (List Val)) (y : History) → Legal y → Fine y (tabled (wrote whose t m k old new))
    → at k (put_all (writes_of m t y) (rows m y)) ≡ old
row-met _ _ _ _ _ _ y ly (writes who t m k old new mine free stands) =
    ap (λ o. at k (put_all (own_writes m o y) (rows m y))) (sym mine) ∙ ap (λ (x : RowsShown). (x.key who m k).standing) (same-rows y ly) ∙ stands.stands
row-met _ _ _ _ _ _ y ly (copies_row m t k old new is) = read-at y y here ly (Some t) (runs-unended y (sound y ly) t (copy-runs y (sound y ly) m t is.runs)) m k ∙ is.stands
row-met _ _ _ _ _ _ y ly (applies_row m t k old new is) = read-at y y here ly (Some t) (runs-unended y (sound y ly) t ((sound y ly).works t is.brief.work.works)) m k ∙ is.stands

module _ (n : ℕ) (p r top : History) (low : Since p r) (high : Since r top) (l : Legal top) where
  abbrev first_ones : Set
  first_ones = has_committed p

  abbrev all_ones : Set
  all_ones = has_committed r

  pub within : Within first_ones all_ones
  within t is = committed-since low t is

  lr : Legal r
  lr = legal-since high l

  pub first-in : (x : History) → Since x top → FirstIn first_ones all_ones (written n x)
  first-in [] s = tt
  first-in (tabled (wrote whose t m k old new) ∷ y) s =
      by_same (λ b. FirstIn first_ones all_ones (if b then record { by = t; key = k; old = old; new = new; listed = is_listed n y } ∷ written n y else written n y)) m n
      (λ same. (λ is. left-none n (but all_ones first_ones) k y (λ u in_set wrote_it. none same is u in_set wrote_it), first-in y (since-below s))) (λ _. first-in y (since-below s))
    where
      below : Legal (tabled (wrote whose t m k old new) ∷ y)
      below = legal-since s l

      a : IsAlone y t m k
      a = alone y (legal-below_mark below) (fine_mark below)

      none : m ≡ n → has_committed p t ≡ true → (u : ℕ) → but all_ones first_ones u ≡ true → has_written k (writes_of n u y) ≡ true → ⊥
      none same is u in_set wrote_it =
          let both = and_parts (has_committed r u) (not (has_committed p u)) in_set in
          let later_one : has_committed p u ≡ false = not-true (has_committed p u) both.1 in
          let other : (t == u) ≡ false = false_from_ne_true (t == u) (λ e. absurd (cc (sym later_one ∙ ap (has_committed p) (sym (eqb-true t u e)) ∙ is))) in
          let over_y : has_ended y u ≡ true = true_from_ne_false (has_ended y u) (λ runs. a.others u runs other (ap (λ k'. has_written k (writes_of k' u y)) same ∙ wrote_it)) in
          elim (either-since (since-below s) (since-joined low high)) [
            | inl up ↦ absurd (cc (sym later_one ∙ committed-then low lr u (ended-since up u over_y) both.0))
            | inr down ↦ absurd (cc (sym a.runs ∙ ended-since down t (committed-ended p (legal-since low lr) t is)))
          ]
  first-in (_ ∷ y) s = first-in y (since-below s)

  pub old-are : (x : History) → Since x top → OldIs all_ones (written n x)
  old-are [] s = tt
  old-are (tabled (wrote whose t m k old new) ∷ y) s =
      by_same (λ b. OldIs all_ones (if b then record { by = t; key = k; old = old; new = new; listed = is_listed n y } ∷ written n y else written n y)) m n
      (λ same. (λ is. met same is, old-are y (since-below s))) (λ _. old-are y (since-below s))
    where
      below : Legal (tabled (wrote whose t m k old new) ∷ y)
      below = legal-since s l

      ly : Legal y
      ly = legal-below_mark below

      a : IsAlone y t m k
      a = alone y ly (fine_mark below)

      met : m ≡ n → has_committed r t ≡ true → over (left_by all_ones k (written n y)) None ≡ old
      met same is =
          ap (λ o. over o None) (left-same n all_ones (λ u. u == t || has_committed y u) k y alike ∙ apart n t (has_committed y) k y ly a.runs)
          ∙ sym (joined-over (left_by (λ u. u == t) k (written n y)) (left_by (has_committed y) k (written n y)))
          ∙ sym (at-put_all k (writes_of n t y) (rows n y) ∙ (λ i. over (own-left n t k y i) (at-rows n k y ly i)))
          ∙ ap (λ x. at k (put_all (writes_of x t y) (rows x y))) (sym same)
          ∙ row-met whose t m k old new y ly (fine_mark below)
        where
          joined-over : (o o' : Option (Option (List Val))) → over o (over o' None) ≡ over (option_or o o') None
          joined-over None o' = refl
          joined-over (Some row) o' = refl

          -- the write is below the later place
          down : Since y r
          down = elim (either-since (since-below s) high) [
            | inl up ↦ up
            | inr up ↦ absurd (cc (sym a.runs ∙ ended-since up t (committed-ended r lr t is)))
          ]

          alike : (u : ℕ) → has_written k (writes_of n u y) ≡ true → has_committed r u ≡ (u == t || has_committed y u)
          alike u wrote_it =
              by_same (λ b. has_committed r u ≡ (b || has_committed y u)) u t (λ one. ap (has_committed r) one ∙ is)
              (λ other.
              let turned : (t == u) ≡ false = grind (arith, nat_tests, other) in
              let over_y : has_ended y u ≡ true = true_from_ne_false (has_ended y u) (λ runs. a.others u runs turned (ap (λ x. has_written k (writes_of x u y)) same ∙ wrote_it)) in
              grind (arith, committed-since down u, committed-then down lr u over_y))
  old-are (_ ∷ y) s = old-are y (since-below s)
