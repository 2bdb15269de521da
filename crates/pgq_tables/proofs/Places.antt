-- Places in order of transactions: that they are, and what they are with one event more or less.
use Rattle.std.proofs.Common.{◌≡◌, ℕ, suc, zero, ◌+◌, ◌-◌, ◌<◌, ◌≤◌, Bool, true, false, cond, List, [], ◌∷◌, ◌++◌, map, length, get_or, Some, refl, sym, subst, ◌∙◌, ap, arith}
use Rattle.std.specs.Prelude.{nat_lt, slice_get, ◌==◌, ◌||◌}
use Rattle.std.specs.List.{insert, remove, list_any}
use Rattle.std.proofs.lemmas.List.{length-map}
use Rattle.std.proofs.lemmas.Bool.{eqb-true, eq-eqb}
use Rattle.std.proofs.lemmas.Option.{slice_get_within}
use Rattle.pgq_tables.specs.declared.index.Placed.{Placed}
use Rattle.pgq_tables.specs.Tables.{Stored}
use Rattle.pgq_tables.specs.Order.{put_by_txid, by_txid_onto, by_txid}
use Rattle.pgq_tables.specs.Kept.{as_placed, places_of, no_place, txid_at, AreInOrder}
use Rattle.pgq_tables.proofs.Orders.{txid_of, length-by_txid, there-by_txid, at-place, txids-by_txid}

-- ---- a place and the event there

-- the placed event at an index
pub record IsEntry (events : List Stored) (places : List Placed) (j : ℕ) : Type 0 where
  pub entry : ℕ × Stored
  pub found : slice_get (by_txid events) j ≡ Some entry
  pub stands : slice_get events entry.0 ≡ Some entry.1
  pub placed_is : get_or places j no_place ≡ as_placed entry

entry_of : (events : List Stored) (xs : List (ℕ × Stored)) (j : ℕ) → j < length (map as_placed xs) → (x : ℕ × Stored) × (slice_get xs j ≡ Some x) × (get_or (map as_placed xs) j no_place ≡ as_placed x)
entry_of events [] j within = absurd (omega arith)
entry_of events (x ∷ xs) zero within = (x, refl, refl)
entry_of events (x ∷ xs) (suc j) within = entry_of events xs j (omega arith)

pub entry_at : (events : List Stored) (places : List Placed) (j : ℕ) → places ≡ places_of events → j < length places → IsEntry events places j
entry_at events places j is within =
    let one = entry_of events (by_txid events) j (subst (λ ps. j < length ps) is within) in
    record {
      entry = one.0;
      found = one.1;
      stands = there-by_txid events j one.0 one.1;
      placed_is = ap (λ ps. get_or ps j no_place) is ∙ one.2;
    }

pub same_length : (events : List Stored) (places : List Placed) → places ≡ places_of events → length places ≡ length events
same_length events places is = ap length is ∙ length-map (by_txid events) as_placed ∙ length-by_txid events

pub txid_entry : (events : List Stored) (places : List Placed) (j : ℕ) (e : IsEntry events places j) → txid_at places j ≡ txid_of e.entry
txid_entry events places j e = ap (λ (p : Placed). p.txid) e.placed_is

pub in_order : (events : List Stored) (places : List Placed) → places ≡ places_of events → AreInOrder places
in_order events places is i j le within =
    let low = entry_at events places i is (omega arith) in
    let high = entry_at events places j is within in
    let rise = txids-by_txid events i j low.entry high.entry le low.found high.found in
    let low_is = txid_entry events places i low in
    let high_is = txid_entry events places j high in
    omega arith

-- ---- one event more

onto-push : (sorted : List (ℕ × Stored)) (n : ℕ) (list : List Stored) (s : Stored) → by_txid_onto sorted n (list ++ s ∷ []) ≡ put_by_txid (n + length list, s) (by_txid_onto sorted n list)
onto-push sorted n [] s =
    let place : n ≡ n + 0 = omega arith in
    ap (λ m. put_by_txid (m, s) sorted) place
onto-push sorted n (r ∷ rs) s =
    let place : n + 1 + length rs ≡ n + suc (length rs) = omega arith in
    onto-push (put_by_txid (n, r) sorted) (n + 1) rs s ∙ ap (λ m. put_by_txid (m, s) (by_txid_onto (put_by_txid (n, r) sorted) (n + 1) rs)) place

by_txid-push : (list : List Stored) (s : Stored) → by_txid (list ++ s ∷ []) ≡ put_by_txid (length list, s) (by_txid list)
by_txid-push list s =
    let place : 0 + length list ≡ length list = omega arith in
    onto-push [] 0 list s ∙ ap (λ m. put_by_txid (m, s) (by_txid list)) place

-- so many places are of transactions up to this one
abbrev pub Counts : ℕ → List Placed → ℕ → Type 0
Counts t places count =
    (count ≤ length places)
    × ((j : ℕ) → j < count → txid_at places j ≤ t)
    × ((j : ℕ) → count ≤ j → j < length places → t < txid_at places j)

counts_rest : (t : ℕ) (p : Placed) (ps : List Placed) (count : ℕ) → Counts t (p ∷ ps) (suc count) → Counts t ps count
counts_rest t p ps count counts = (
  let within = counts.0 in omega (arith, within),
  λ j less. counts.1 (suc j) (omega (arith, less)),
  λ j le more. counts.2 (suc j) (omega (arith, le)) (omega (arith, more)),
)

is_less : (a b : ℕ) → a < b → nat_lt a b ≡ true
is_less a b less = grind arith

is_not_less : (a b : ℕ) → b ≤ a → nat_lt a b ≡ false
is_not_less a b le = grind arith

less_is : (a b : ℕ) → nat_lt a b ≡ true → b ≤ a → ⊥
less_is a b less le = grind arith

not_less_is : (a b : ℕ) → nat_lt a b ≡ false → a < b → ⊥
not_less_is a b other less = grind arith

never_less : (a : ℕ) → a < a → ⊥
never_less a less = omega arith

insert-put : (x : ℕ × Stored) (xs : List (ℕ × Stored)) (at : ℕ) → Counts (txid_of x) (map as_placed xs) at → insert (map as_placed xs) at (as_placed x) ≡ map as_placed (put_by_txid x xs)
insert-put x [] zero counts = refl
insert-put x [] (suc at) counts = let within = counts.0 in absurd (omega arith)
insert-put x (y ∷ ys) zero counts =
    ap (λ t. map as_placed (cond t (x ∷ y ∷ ys) (y ∷ put_by_txid x ys))) (sym (is_less (txid_of x) (txid_of y) (counts.2 0 (omega arith) (omega arith))))
insert-put x (y ∷ ys) (suc at) counts =
    ap (λ ps. as_placed y ∷ ps) (insert-put x ys at (counts_rest (txid_of x) (as_placed y) (map as_placed ys) at counts))
    ∙ ap (λ t. map as_placed (cond t (x ∷ y ∷ ys) (y ∷ put_by_txid x ys))) (sym (is_not_less (txid_of x) (txid_of y) (counts.1 0 (omega arith))))

pub pushed : (events : List Stored) (places : List Placed) (s : Stored) (at : ℕ) → places ≡ places_of events → Counts s.event.ev_txid places at
    → insert places at (as_placed (length events, s)) ≡ places_of (events ++ s ∷ [])
pushed events places s at is counts =
    ap (λ ps. insert ps at (as_placed (length events, s))) is
    ∙ insert-put (length events, s) (by_txid events) at (subst (λ ps. Counts s.event.ev_txid ps at) is counts)
    ∙ ap (map as_placed) (sym (by_txid-push events s))

-- ---- one event less

pub record IsTaken (x : ℕ × Stored) (xs : List (ℕ × Stored)) (count : ℕ) : Type 0 where
  pub at : ℕ
  pub count_is : count ≡ suc at
  pub left_is : remove (map as_placed (put_by_txid x xs)) at ≡ map as_placed xs

-- it is the first one
taken_first : (x y : ℕ × Stored) (ys : List (ℕ × Stored)) → nat_lt (txid_of x) (txid_of y) ≡ true → (count : ℕ) → Counts (txid_of x) (map as_placed (x ∷ y ∷ ys)) count → IsTaken x (y ∷ ys) count
taken_first x y ys less zero counts = absurd (never_less (txid_of x) (counts.2 0 (omega arith) (omega arith)))
taken_first x y ys less (suc zero) counts = record {
  at = 0;
  count_is = refl;
  left_is = ap (λ t. remove (map as_placed (cond t (x ∷ y ∷ ys) (y ∷ put_by_txid x ys))) 0) less;
}
taken_first x y ys less (suc (suc count)) counts = absurd (less_is (txid_of x) (txid_of y) less (counts.1 1 (omega arith)))

-- it is a later one
taken_later : (x y : ℕ × Stored) (ys : List (ℕ × Stored)) → nat_lt (txid_of x) (txid_of y) ≡ false → ((count : ℕ) → Counts (txid_of x) (map as_placed (put_by_txid x ys)) count → IsTaken x ys count)
    → (count : ℕ) → Counts (txid_of x) (map as_placed (y ∷ put_by_txid x ys)) count → IsTaken x (y ∷ ys) count
taken_later x y ys other taken zero counts = absurd (not_less_is (txid_of x) (txid_of y) other (counts.2 0 (omega arith) (omega arith)))
taken_later x y ys other taken (suc count) counts =
    let rest = taken count (counts_rest (txid_of x) (as_placed y) (map as_placed (put_by_txid x ys)) count counts) in
    record {
      at = suc rest.at;
      count_is = ap suc rest.count_is;
      left_is = ap (λ t. remove (map as_placed (cond t (x ∷ y ∷ ys) (y ∷ put_by_txid x ys))) (suc rest.at)) other ∙ ap (λ ps. as_placed y ∷ ps) rest.left_is;
    }

taken-put : (x : ℕ × Stored) (xs : List (ℕ × Stored)) (count : ℕ) → Counts (txid_of x) (map as_placed (put_by_txid x xs)) count → IsTaken x xs count
taken-put x [] zero counts = absurd (never_less (txid_of x) (counts.2 0 (omega arith) (omega arith)))
taken-put x [] (suc zero) counts = record { at = 0; count_is = refl; left_is = refl }
taken-put x [] (suc (suc count)) counts = let within = counts.0 in absurd (omega arith)
taken-put x (y ∷ ys) count counts = elim (nat_lt (txid_of x) (txid_of y)) as (λ t.
    nat_lt (txid_of x) (txid_of y) ≡ t → Counts (txid_of x) (map as_placed (cond t (x ∷ y ∷ ys) (y ∷ put_by_txid x ys))) count → IsTaken x (y ∷ ys) count) [
      | true ↦ λ less. taken_first x y ys less count
      | false ↦ λ other. taken_later x y ys other (λ count. taken-put x ys count) count
    ] refl counts

-- of the events the last one is taken back, with its place
pub record IsTakenBack (events : List Stored) (places : List Placed) (count : ℕ) : Type 0 where
  pub counted : 1 ≤ count
  pub left_is : remove places (count - 1) ≡ places_of events

pub taken_back : (whole events : List Stored) (places : List Placed) (s : Stored) (count : ℕ) → places ≡ places_of whole → whole ≡ events ++ s ∷ [] → Counts s.event.ev_txid places count → IsTakenBack events places count
taken_back whole events places s count is whole_is counts =
    let last : places ≡ map as_placed (put_by_txid (length events, s) (by_txid events)) = is ∙ ap places_of whole_is ∙ ap (map as_placed) (by_txid-push events s) in
    let one = taken-put (length events, s) (by_txid events) count (subst (λ ps. Counts s.event.ev_txid ps count) last counts) in
    let at_is : count - 1 ≡ one.at = omega (arith, one.count_is) in
    record {
      counted = omega (arith, one.count_is);
      left_is = ap (remove places) at_is ∙ ap (λ ps. remove ps one.at) last ∙ one.left_is;
    }

-- the same, of the places as they are lent and the transaction as it is told
pub taken_off : (whole events : List Stored) (places lent : List Placed) (s : Stored) (t count : ℕ) → places ≡ places_of whole → whole ≡ events ++ s ∷ [] → lent ≡ places → t ≡ s.event.ev_txid → Counts t lent count → IsTakenBack events places count
taken_off whole events places lent s t count is whole_is lent_is txid_is counts =
    taken_back whole events places s count is whole_is (subst (λ t. Counts t places count) txid_is (subst (λ ps. Counts t ps count) lent_is counts))

-- ---- whether there is an event of a transaction

pub any-found : {X : Type 0} (p : X → Bool) (xs : List X) (i : ℕ) (x : X) → slice_get xs i ≡ Some x → p x ≡ true → list_any p xs ≡ true
any-found p [] i x found passes = absurd (cc found)
any-found p (y ∷ ys) zero x found passes = let same : y ≡ x = cc found in ap (λ b. b || list_any p ys) (ap p same ∙ passes)
any-found p (y ∷ ys) (suc i) x found passes = elim (p y) as (λ t. (t || list_any p ys) ≡ true) [
  | true ↦ refl
  | false ↦ any-found p ys i x found passes
]

pub any-none : {X : Type 0} (p : X → Bool) (xs : List X) → ((i : ℕ) (x : X) → slice_get xs i ≡ Some x → p x ≡ false) → list_any p xs ≡ false
any-none p [] each = refl
any-none p (y ∷ ys) each = ap (λ b. b || list_any p ys) (each 0 y refl) ∙ any-none p ys (λ i x found. each (suc i) x found)

apart : (a t : ℕ) → (a ≡ t → ⊥) → (a == t) ≡ false
apart a t never = elim (a == t) as (λ b. (a == t) ≡ b → b ≡ false) [
  | true ↦ λ same. absurd (never (eqb-true a t same))
  | false ↦ λ _. refl
] refl

module _ (events : List Stored) (places : List Placed) (is : places ≡ places_of events) (t : ℕ) where
  -- no place is of the transaction
  pub none_here : ((j : ℕ) → j < length places → txid_at places j ≡ t → ⊥) → list_any (λ s. s.event.ev_txid == t) events ≡ false
  none_here never = any-none (λ s. s.event.ev_txid == t) events (λ place s found. at-place (λ x. (txid_of x == t) ≡ false) events each place s found)
    where
      each : (j : ℕ) (x : ℕ × Stored) → slice_get (by_txid events) j ≡ Some x → (txid_of x == t) ≡ false
      each j x found =
          let inside = slice_get_within (by_txid events) j x found in
          let long = length-by_txid events in
          let same = same_length events places is in
          let within : j < length places = omega arith in
          let one = entry_at events places j is within in
          let entry_is : one.entry ≡ x = cc (sym one.found ∙ found) in
          apart (txid_of x) t (λ equal. never j within (txid_entry events places j one ∙ ap txid_of entry_is ∙ equal))

  -- a place is of the transaction
  pub one_here : (j : ℕ) → j < length places → txid_at places j ≡ t → list_any (λ s. s.event.ev_txid == t) events ≡ true
  one_here j within equal =
      let one = entry_at events places j is within in
      any-found (λ s. s.event.ev_txid == t) events one.entry.0 one.entry.1 one.stands (eq-eqb (txid_of one.entry) t (sym (txid_entry events places j one) ∙ equal))

  pub has_none : (count : ℕ) → count ≤ 0 → Counts t places count → list_any (λ s. s.event.ev_txid == t) events ≡ false
  has_none count nothing counts = none_here (λ j within equal. let more = counts.2 j (omega arith) within in omega arith)

  pub has_last : (count : ℕ) → 0 < count → Counts t places count → (txid_at places (count - 1) == t) ≡ list_any (λ s. s.event.ev_txid == t) events
  has_last count some counts = let within = counts.0 in elim (txid_at places (count - 1) == t) as (λ b. (txid_at places (count - 1) == t) ≡ b → b ≡ list_any (λ s. s.event.ev_txid == t) events) [
    | true ↦ λ equal. sym (one_here (count - 1) (omega arith) (eqb-true (txid_at places (count - 1)) t equal))
    | false ↦ λ other. sym (none_here (λ j inside equal.
        let rise : j < count → txid_at places j ≤ txid_at places (count - 1) = λ less. in_order events places is j (count - 1) (omega arith) (omega arith) in
        let last : txid_at places (count - 1) ≤ t = counts.1 (count - 1) (omega arith) in
        let not_last : txid_at places (count - 1) ≡ t → ⊥ = λ same. cc (sym other ∙ eq-eqb (txid_at places (count - 1)) t same) in
        never j count (txid_at places j) (txid_at places (count - 1)) t equal rise last not_last (λ le. counts.2 j le inside)))
  ] refl
    where
      never : (j count a b t : ℕ) → a ≡ t → (j < count → a ≤ b) → b ≤ t → (b ≡ t → ⊥) → (count ≤ j → t < a) → ⊥
      never j count a b t equal rise last not_last past = grind arith
