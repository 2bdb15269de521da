-- Writes of a table, the newest first: what those of some transactions leave.
use Rattle.std.proofs.Common.{◌≡◌, ℕ, Bool, true, not, ◌&&◌, List, [], ◌∷◌, Option, Some, None, refl, sym, ◌∙◌, ap, arith, if◌then◌else◌, ◌⊎◌, inl, inr}
use Rattle.std.specs.Ordering.{is_eq, eq_by_cmp}
use Rattle.std.specs.Cmp.{tied_itself}
use Rattle.std.proofs.lemmas.Bool.{and_parts, not-true}
use Rattle.sky_val.specs.declared.val.Val.{Val}
use Rattle.sky_val.specs.Order.{key_cmp}
use Rattle.sky_val.specs.Entries.{Entries, at, is_in_order}
use Rattle.sky_val.proofs.Orders.{key_cmp-IsTotalOrder}
use Rattle.sky_val.proofs.EntryLemmas.{same_entries}
use Rattle.sky_keys.proofs.EntryLemmas.{key_ties-is}
use Rattle.sky_model.specs.Rows.{put}
use Rattle.sky_histories.proofs.RowWrites.{over, at-put_all, is_in_order-put_all}
use Rattle.sky_model.proofs.Cases.{by_test}

-- a write: whose transaction made it, the row that the key had, and the row that it has; and whether the table was in the set
pub record Written : Type 0 where
  pub by : ℕ
  pub key : List Val
  pub old : Option (List Val)
  pub new : Option (List Val)
  pub listed : Bool

-- some transactions
abbrev pub Set : Type 0
Set = ℕ → Bool

-- those of a set that aren't in another
abbrev pub but : Set → Set → Set
but b a = λ t. b t && not (a t)

abbrev pub Within : Set → Set → Type 0
Within a b = (t : ℕ) → a t ≡ true → b t ≡ true

-- what the newest write of a key by one of them left
abbrev pub left_by : Set → List Val → List Written → Option (Option (List Val))
left_by s key [] = None
left_by s key (w ∷ ws) = if s w.by && eq_by_cmp key_cmp key w.key then Some w.new else left_by s key ws

-- rows after their writes
abbrev pub after : Set → List Written → Entries (List Val) → Entries (List Val)
after s [] rows = rows
after s (w ∷ ws) rows = if s w.by then put w.key w.new (after s ws rows) else after s ws rows

pub tied : (key : List Val) → eq_by_cmp key_cmp key key ≡ true
tied key = ap is_eq (tied_itself key_cmp-IsTotalOrder key)

pub at-put_one : (q key : List Val) (row : Option (List Val)) (rows : Entries (List Val)) → at q (put key row rows) ≡ (if eq_by_cmp key_cmp q key then row else at q rows)
at-put_one q key row rows =
    at-put_all q (record { key = key; row = row } ∷ []) rows
    ∙ by_test (λ b. over (if b then Some row else None) (at q rows) ≡ (if b then row else at q rows)) (eq_by_cmp key_cmp q key) (λ _. refl) (λ _. refl)

pub in_order-after : (s : Set) (ws : List Written) (rows : Entries (List Val)) → is_in_order rows ≡ true → is_in_order (after s ws rows) ≡ true
in_order-after s [] rows order = order
in_order-after s (w ∷ ws) rows order =
    by_test (λ b. is_in_order (if b then put w.key w.new (after s ws rows) else after s ws rows) ≡ true) (s w.by)
    (λ _. is_in_order-put_all (record { key = w.key; row = w.new } ∷ []) (after s ws rows) (in_order-after s ws rows order)) (λ _. in_order-after s ws rows order)

pub at-after : (s : Set) (key : List Val) (ws : List Written) (rows : Entries (List Val)) → at key (after s ws rows) ≡ over (left_by s key ws) (at key rows)
at-after s key [] rows = refl
at-after s key (w ∷ ws) rows =
    by_test (λ b. at key (if b then put w.key w.new (after s ws rows) else after s ws rows) ≡ over (if b && eq_by_cmp key_cmp key w.key then Some w.new else left_by s key ws) (at key rows)) (s w.by)
    (λ _. at-put_one key w.key w.new (after s ws rows)
    ∙ by_test (λ b. (if b then w.new else at key (after s ws rows)) ≡ over (if b then Some w.new else left_by s key ws) (at key rows)) (eq_by_cmp key_cmp key w.key)
    (λ _. refl) (λ _. at-after s key ws rows)) (λ _. at-after s key ws rows)

-- ---- two sets, one of which is within the other

-- those of the smaller set wrote each key before those that are in the larger one alone
abbrev pub FirstIn : Set → Set → List Written → Type 0
FirstIn a b [] = Unit {0}
FirstIn a b (w ∷ ws) = (a w.by ≡ true → left_by (but b a) w.key ws ≡ None) × FirstIn a b ws

-- and each write names what those of the larger one left
abbrev pub OldIs : Set → List Written → Type 0
OldIs b [] = Unit {0}
OldIs b (w ∷ ws) = (b w.by ≡ true → over (left_by b w.key ws) None ≡ w.old) × OldIs b ws

module _ (a b : Set) (within : Within a b) where
  joined : (key : List Val) (ws : List Written) → FirstIn a b ws → over (left_by (but b a) key ws) (over (left_by a key ws) None) ≡ over (left_by b key ws) None
  joined key [] first = refl
  joined key (w ∷ ws) first =
      by_test (λ t. eq_by_cmp key_cmp key w.key ≡ t → over (if (b w.by && not (a w.by)) && t then Some w.new else left_by (but b a) key ws) (over (if a w.by && t then Some w.new else left_by a key ws) None)
      ≡ over (if b w.by && t then Some w.new else left_by b key ws) None) (eq_by_cmp key_cmp key w.key)
      (λ _ ties. grind (arith, within w.by, joined key ws first.1, first.0, key_ties-is key w.key ties))
      (λ _ _. grind (arith, joined key ws first.1)) refl

  -- so the writes that are in the larger set alone give the rows that the larger set leaves, on top of those that the smaller one does
  pub writes-give : (ws : List Written) → FirstIn a b ws → after (but b a) ws (after a ws []) ≡ after b ws []
  writes-give ws first =
      same_entries (after (but b a) ws (after a ws [])) (after b ws []) (in_order-after (but b a) ws (after a ws []) (in_order-after a ws [] refl)) (in_order-after b ws [] refl)
      (λ key. at-after (but b a) key ws (after a ws []) ∙ ap (over (left_by (but b a) key ws)) (at-after a key ws []) ∙ joined key ws first ∙ sym (at-after b key ws []))

  -- each of these writes meets the row that it names
  abbrev pub Meets : List Written → Entries (List Val) → Type 0
  Meets [] rows = Unit {0}
  Meets (w ∷ ws) rows = (but b a w.by ≡ true → at w.key (after (but b a) ws rows) ≡ w.old) × Meets ws rows

  -- rows that have of each key what the smaller set left, unless the others wrote nothing of it
  abbrev Base : List Written → Entries (List Val) → Type 0
  Base ws rows = (key : List Val) → (at key rows ≡ over (left_by a key ws) None) ⊎ (left_by (but b a) key ws ≡ None)

  base-rest : (w : Written) (ws : List Written) (rows : Entries (List Val)) → FirstIn a b (w ∷ ws) → Base (w ∷ ws) rows → Base ws rows
  base-rest w ws rows first base key = elim (base key) [
    | inl e ↦ by_test (λ t. (a w.by && eq_by_cmp key_cmp key w.key) ≡ t → at key rows ≡ over (if t then Some w.new else left_by a key ws) None → (at key rows ≡ over (left_by a key ws) None) ⊎ (left_by (but b a) key ws ≡ None))
        (a w.by && eq_by_cmp key_cmp key w.key)
        (λ _ is _. let both = and_parts (a w.by) (eq_by_cmp key_cmp key w.key) is in inr (ap (λ k. left_by (but b a) k ws) (key_ties-is key w.key both.1) ∙ first.0 both.0)) (λ _ _ e. inl e) refl e
    | inr none ↦ by_test (λ t. (if t then Some w.new else left_by (but b a) key ws) ≡ None → (at key rows ≡ over (left_by a key ws) None) ⊎ (left_by (but b a) key ws ≡ None))
        (but b a w.by && eq_by_cmp key_cmp key w.key) (λ _ e. absurd (cc)) (λ _ e. inr e) none
  ]

  meets-on : (ws : List Written) (rows : Entries (List Val)) → FirstIn a b ws → OldIs b ws → Base ws rows → Meets ws rows
  meets-on [] rows first old base = tt
  meets-on (w ∷ ws) rows first old base = (here, meets-on ws rows first.1 old.1 (base-rest w ws rows first base))
    where
      here : but b a w.by ≡ true → at w.key (after (but b a) ws rows) ≡ w.old
      here is =
          let both = and_parts (b w.by) (not (a w.by)) is in
          at-after (but b a) w.key ws rows ∙ ap (over (left_by (but b a) w.key ws)) (left is) ∙ joined w.key ws first.1 ∙ old.0 both.0
        where
          left : but b a w.by ≡ true → at w.key rows ≡ over (left_by a w.key ws) None
          left is = elim (base w.key) [
            | inl e ↦ e ∙ ap (λ t. over (if t && eq_by_cmp key_cmp w.key w.key then Some w.new else left_by a w.key ws) None) (not-true (a w.by) (and_parts (b w.by) (not (a w.by)) is).1)
            | inr none ↦ absurd (cc (sym (λ i. if is i && tied w.key i then Some w.new else left_by (but b a) w.key ws) ∙ none))
          ]

  pub writes-meet : (ws : List Written) → FirstIn a b ws → OldIs b ws → Meets ws (after a ws [])
  writes-meet ws first old = meets-on ws (after a ws []) first old (λ key. inl (at-after a key ws []))
