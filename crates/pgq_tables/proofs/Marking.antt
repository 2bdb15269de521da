-- Marking the events of a transaction dead, one after another by their places.
use Rattle.std.proofs.Common.{◌≡◌, ℕ, suc, zero, ◌+◌, ◌<◌, ◌≤◌, ◌⊎◌, inl, inr, ⊎_elim, true, false, cond, List, [], ◌∷◌, map, length, get_or, set, Some, refl, sym, subst, ◌∙◌, ap, arith}
use Rattle.std.specs.Prelude.{nat_lt, slice_get, option_map, ◌==◌, ◌||◌}
use Rattle.std.proofs.lemmas.List.{length-map, map-set, set-get_or, get_or_read}
use Rattle.std.proofs.lemmas.Bool.{eqb-true, eq-eqb}
use Rattle.std.proofs.lemmas.Option.{slice_get-get_or, slice_get_within, slice_get-map, get_or_from_slice_get}
use Rattle.pgq_tables.specs.declared.index.Placed.{Placed}
use Rattle.pgq_tables.specs.Tables.{Stored, marked_dead}
use Rattle.pgq_tables.specs.Order.{put_by_txid, by_txid_onto, by_txid}
use Rattle.pgq_tables.specs.Kept.{as_placed, places_of, no_place, txid_at}
use Rattle.pgq_tables.proofs.Orders.{txid_of, length-by_txid, there-by_txid, at-place}
use Rattle.pgq_tables.proofs.Places.{IsEntry, entry_at, txid_entry, same_length, in_order}

module _ (t : ℕ) where
  -- ---- the places stay

  abbrev marked_at : ℕ × Stored → ℕ × Stored
  marked_at x = (x.0, marked_dead t x.1)

  map-put : (x : ℕ × Stored) (xs : List (ℕ × Stored)) → map marked_at (put_by_txid x xs) ≡ put_by_txid (marked_at x) (map marked_at xs)
  map-put x [] = refl
  map-put x (y ∷ ys) = elim (nat_lt (txid_of x) (txid_of y)) as (λ b.
      map marked_at (cond b (x ∷ y ∷ ys) (y ∷ put_by_txid x ys)) ≡ cond b (marked_at x ∷ marked_at y ∷ map marked_at ys) (marked_at y ∷ put_by_txid (marked_at x) (map marked_at ys))) [
        | true ↦ refl
        | false ↦ ap (λ xs. marked_at y ∷ xs) (map-put x ys)
      ]

  map-onto : (sorted : List (ℕ × Stored)) (n : ℕ) (list : List Stored) → map marked_at (by_txid_onto sorted n list) ≡ by_txid_onto (map marked_at sorted) n (map (marked_dead t) list)
  map-onto sorted n [] = refl
  map-onto sorted n (s ∷ ss) =
      map-onto (put_by_txid (n, s) sorted) (n + 1) ss
      ∙ ap (λ xs. by_txid_onto xs (n + 1) (map (marked_dead t) ss)) (map-put (n, s) sorted)

  placed_same : (xs : List (ℕ × Stored)) → map as_placed (map marked_at xs) ≡ map as_placed xs
  placed_same [] = refl
  placed_same (x ∷ xs) = ap (λ ps. as_placed x ∷ ps) (placed_same xs)

  -- in order of transactions, what is marked is what is marked of the order
  pub by_txid-marked : (list : List Stored) → by_txid (map (marked_dead t) list) ≡ map (λ x. (x.0, marked_dead t x.1)) (by_txid list)
  by_txid-marked list = sym (map-onto [] 0 list)

  pub places-marked : (list : List Stored) → places_of (map (marked_dead t) list) ≡ places_of list
  places-marked list = ap (map as_placed) (by_txid-marked list) ∙ placed_same (by_txid list)

  -- ---- one event

  other_stays : (s : Stored) → (s.event.ev_txid == t) ≡ false → marked_dead t s ≡ s
  other_stays s other = ap (λ b. record { event = s.event; dead = b || s.dead }) other

  dead_stays : (s : Stored) → (s.event.ev_txid == t) ≡ true → marked_dead t (record { event = s.event; dead = true }) ≡ record { event = s.event; dead = true }
  dead_stays s own = ap (λ b. record { event = s.event; dead = b || true }) own

  own_dies : (s : Stored) → (s.event.ev_txid == t) ≡ true → marked_dead t s ≡ record { event = s.event; dead = true }
  own_dies s own = ap (λ b. record { event = s.event; dead = b || s.dead }) own

  is_other : (a : ℕ) → (a ≡ t → ⊥) → (a == t) ≡ false
  is_other a never = elim (a == t) as (λ b. (a == t) ≡ b → b ≡ false) [
    | true ↦ λ same. absurd (never (eqb-true a t same))
    | false ↦ λ _. refl
  ] refl

  -- ---- how far the marking is

  -- now the events are the old ones, but that some of the transaction are marked, and those at the first places are
  pub record IsMarking (old now : List Stored) (index : ℕ) : Type 0 where
    pub alike : map (marked_dead t) now ≡ map (marked_dead t) old
    pub done : (j : ℕ) (x : ℕ × Stored) (s : Stored) → j < index → slice_get (by_txid old) j ≡ Some x → slice_get now x.0 ≡ Some s → marked_dead t s ≡ s

  module _ (old now : List Stored) (alike : map (marked_dead t) now ≡ map (marked_dead t) old) where
    same_size : length now ≡ length old
    same_size = sym (length-map now (marked_dead t)) ∙ ap length alike ∙ length-map old (marked_dead t)

    same_event : (place : ℕ) (r s : Stored) → slice_get old place ≡ Some r → slice_get now place ≡ Some s → s.event.ev_txid ≡ r.event.ev_txid
    same_event place r s was «is» =
        let here : slice_get (map (marked_dead t) now) place ≡ Some (marked_dead t s) = slice_get-map (marked_dead t) now place ∙ ap (option_map (marked_dead t)) «is» in
        let there : slice_get (map (marked_dead t) old) place ≡ Some (marked_dead t r) = slice_get-map (marked_dead t) old place ∙ ap (option_map (marked_dead t)) was in
        let both : marked_dead t s ≡ marked_dead t r = cc (sym here ∙ ap (λ ss. slice_get ss place) alike ∙ there) in
        ap (λ (s : Stored). s.event.ev_txid) both

  pub marking_begun : (old : List Stored) (places : List Placed) (first : ℕ) → places ≡ places_of old → ((j : ℕ) → j < first → txid_at places j < t) → IsMarking old old first
  marking_begun old places first is below = record {
    alike = refl;
    done = λ j x s less found here.
        let inside = slice_get_within (by_txid old) j x found in
        let long = length-by_txid old in
        let same = same_length old places is in
        let one = entry_at old places j is (omega arith) in
        let entry_is : one.entry ≡ x = cc (sym one.found ∙ found) in
        let own : s ≡ x.1 = cc (sym here ∙ there-by_txid old j x found) in
        let low = below j less in
        let txid : txid_at places j ≡ s.event.ev_txid = txid_entry old places j one ∙ ap txid_of entry_is ∙ ap (λ (s : Stored). s.event.ev_txid) (sym own) in
        other_stays s (is_other s.event.ev_txid (λ same. omega arith));
  }

-- ---- an element that is set

pub set-same : {X : Type 0} (xs : List X) (i : ℕ) (y r : X) → slice_get (set xs i y) i ≡ Some r → r ≡ y
set-same [] i y r found = absurd (cc found)
set-same (x ∷ xs) zero y r found = cc (sym found)
set-same (x ∷ xs) (suc i) y r found = set-same xs i y r found

pub set-other : {X : Type 0} (xs : List X) (i k : ℕ) (y : X) → (k ≡ i → ⊥) → slice_get (set xs i y) k ≡ slice_get xs k
set-other [] i k y other = refl
set-other (x ∷ xs) zero zero y other = absurd (other refl)
set-other (x ∷ xs) zero (suc k) y other = refl
set-other (x ∷ xs) (suc i) zero y other = refl
set-other (x ∷ xs) (suc i) (suc k) y other = set-other xs i k y (λ same. other (ap suc same))

map-fixed : {X : Type 0} (f : X → X) (xs : List X) → ((i : ℕ) (x : X) → slice_get xs i ≡ Some x → f x ≡ x) → map f xs ≡ xs
map-fixed f [] each = refl
map-fixed f (x ∷ xs) each = (λ i. each 0 x refl i ∷ map-fixed f xs (λ k y found. each (suc k) y found) i)

same_place : (k i : ℕ) → (k ≡ i) ⊎ (k ≡ i → ⊥)
same_place k i = elim (k == i) as (λ b. (k == i) ≡ b → (k ≡ i) ⊎ (k ≡ i → ⊥)) [
  | true ↦ λ same. inl (eqb-true k i same)
  | false ↦ λ other. inr (λ same. cc (sym other ∙ eq-eqb k i same))
] refl

-- ---- one more

module _ (t : ℕ) (old now : List Stored) (places : List Placed) (index : ℕ) (is : places ≡ places_of old) (marking : IsMarking t old now index) (within : index < length places) where
  abbrev pub entry : IsEntry old places index
  entry = entry_at old places index is within

  pub place_within : entry.entry.0 < length now
  place_within =
      let here = slice_get_within old entry.entry.0 entry.entry.1 entry.stands in
      let same = same_size t old now marking.alike in
      omega arith

  pub marking_more : (place : ℕ) (s : Stored) → place ≡ entry.entry.0 → s ≡ get_or now place s → txid_at places index ≡ t → IsMarking t old (set now place (record { event = s.event; dead = true })) (index + 1)
  marking_more place s place_is read own_txid =
      let inside : place < length now = subst (λ n. n < length now) (sym place_is) place_within in
      let here : slice_get now place ≡ Some s = slice_get-get_or now place s inside ∙ ap Some (sym read) in
      let there : slice_get old place ≡ Some entry.entry.1 = ap (slice_get old) place_is ∙ entry.stands in
      let txid : s.event.ev_txid ≡ t = same_event t old now marking.alike place entry.entry.1 s there here ∙ sym (txid_entry old places index entry) ∙ own_txid in
      let own : (s.event.ev_txid == t) ≡ true = eq-eqb s.event.ev_txid t txid in
      let dead : Stored = record { event = s.event; dead = true } in
      let stays : marked_dead t dead ≡ dead = dead_stays t s own in
      let marked_here : slice_get (map (marked_dead t) now) place ≡ Some (marked_dead t s) = slice_get-map (marked_dead t) now place ∙ ap (option_map (marked_dead t)) here in
      record {
        alike =
            map-set (marked_dead t) now place dead
            ∙ ap (set (map (marked_dead t) now) place) (stays ∙ sym (own_dies t s own) ∙ sym (get_or_from_slice_get (map (marked_dead t) now) place (marked_dead t s) s marked_here))
            ∙ set-get_or (map (marked_dead t) now) place s
            ∙ marking.alike;
        done = λ j x r less found found_now. ⊎_elim
            (λ same.
            let is_dead : r ≡ dead = set-same now place dead r (subst (λ k. slice_get (set now place dead) k ≡ Some r) same found_now) in
            subst (λ s. marked_dead t s ≡ s) (sym is_dead) stays)
            (λ other.
            let before : slice_get now x.0 ≡ Some r = sym (set-other now place x.0 dead other) ∙ found_now in
            let not_last : j ≡ index → ⊥ = λ same.
            let entry_is : x ≡ entry.entry = cc (sym found ∙ ap (slice_get (by_txid old)) same ∙ entry.found) in
            other (ap (λ (x : ℕ × Stored). x.0) entry_is ∙ sym place_is) in
            marking.done j x r (earlier j index less not_last) found before)
            (same_place x.0 place);
      }
    where
      earlier : (j index : ℕ) → j < index + 1 → (j ≡ index → ⊥) → j < index
      earlier j index less other = grind arith

-- ---- all of them

module _ (t : ℕ) (old now : List Stored) (places : List Placed) (index : ℕ) (is : places ≡ places_of old) (marking : IsMarking t old now index) where
  all_marked : ((j : ℕ) → index ≤ j → j < length places → txid_at places j ≡ t → ⊥) → now ≡ map (marked_dead t) old
  all_marked never = sym (map-fixed (marked_dead t) now fixed) ∙ marking.alike
    where
      each : (j : ℕ) (x : ℕ × Stored) → slice_get (by_txid old) j ≡ Some x → (s : Stored) → slice_get now x.0 ≡ Some s → marked_dead t s ≡ s
      each j x found s here = elim (nat_lt j index) as (λ b. nat_lt j index ≡ b → marked_dead t s ≡ s) [
        | true ↦ λ less. marking.done j x s (is_less j index less) found here
        | false ↦ λ not_less.
            let inside = slice_get_within (by_txid old) j x found in
            let long = length-by_txid old in
            let same = same_length old places is in
            let within : j < length places = omega arith in
            let one = entry_at old places j is within in
            let entry_is : one.entry ≡ x = cc (sym one.found ∙ found) in
            let txid : s.event.ev_txid ≡ txid_at places j = same_event t old now marking.alike x.0 x.1 s (there-by_txid old j x found) here ∙ ap txid_of (sym entry_is) ∙ sym (txid_entry old places j one) in
            other_stays t s (is_other t s.event.ev_txid (λ equal. never j (is_not_less j index not_less) within (sym txid ∙ equal)))
      ] refl
        where
          is_less : (a b : ℕ) → nat_lt a b ≡ true → a < b
          is_less a b less = grind arith

          is_not_less : (a b : ℕ) → nat_lt a b ≡ false → b ≤ a
          is_not_less a b other = grind arith

      fixed : (place : ℕ) (s : Stored) → slice_get now place ≡ Some s → marked_dead t s ≡ s
      fixed place s here =
          let inside = slice_get_within now place s here in
          let size = same_size t old now marking.alike in
          let was = slice_get-get_or old place s (omega arith) in
          at-place (λ x. (s : Stored) → slice_get now x.0 ≡ Some s → marked_dead t s ≡ s) old each place (get_or old place s) was s here

  -- no place is left
  pub marked_all : length places ≤ index → now ≡ map (marked_dead t) old
  marked_all all = all_marked (λ j le within _. let over : length places ≤ j = omega arith in omega arith)

  -- the next place is of another transaction
  pub marked_until : (first : ℕ) → first ≤ index → index < length places → ((j : ℕ) → first ≤ j → j < length places → t ≤ txid_at places j) → (txid_at places index ≡ t → ⊥) → now ≡ map (marked_dead t) old
  marked_until first le within above other = all_marked (λ j past inside equal.
      let rise = in_order old places is index j past inside in
      let least = above index le within in
      other (omega arith))

-- ---- what is read of the places as they are kept

module _ (t : ℕ) (old now : List Stored) (places lent : List Placed) (index : ℕ) (p : Placed) (is : places ≡ places_of old) (marking : IsMarking t old now index) (within : index < length places)
    (lent_is : lent ≡ places) (read : p ≡ get_or lent index p) where
  read_is : p ≡ get_or places index no_place
  read_is = get_or_read places index p within (read ∙ ap (λ ps. get_or ps index p) lent_is) no_place

  read_txid : p.txid ≡ txid_at places index
  read_txid = ap (λ (p : Placed). p.txid) read_is

  read_place : p.place ≡ (entry t old now places index is marking within).entry.0
  read_place = ap (λ (p : Placed). p.place) (read_is ∙ (entry t old now places index is marking within).placed_is)

  pub read_within : p.place < length now
  read_within = subst (λ n. n < length now) (sym read_place) (place_within t old now places index is marking within)

  pub marked_read : (s dead : Stored) → s ≡ get_or now p.place s → dead ≡ record { event = s.event; dead = true } → p.txid ≡ t → IsMarking t old (set now p.place dead) (index + 1)
  marked_read s dead found dead_is own =
      subst (λ r. IsMarking t old (set now p.place r) (index + 1)) (sym dead_is)
      (marking_more t old now places index is marking within p.place s read_place found (sym read_txid ∙ own))

  pub marked_to : (first : ℕ) → first ≤ index → ((j : ℕ) → first ≤ j → j < length places → t ≤ txid_at places j) → (p.txid ≡ t → ⊥) → now ≡ map (marked_dead t) old
  marked_to first le above other = marked_until t old now places index is marking first le within above (λ same. other (read_txid ∙ same))
