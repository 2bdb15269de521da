-- What is seen of subscriptions after one is changed, or removed.
use Rattle.std.proofs.Common.{◌≡◌, ℕ, zero, suc, ◌+◌, ◌<◌, List, [], ◌∷◌, Bool, true, false, not, Option, Some, None, length, slice_get, get_or, option_map, option_and_then, bytes_eq, inl, inr, refl, sym, ◌∙◌, ap, arith, cond, if◌then◌else◌}
use Rattle.std.specs.List.{remove}
use Rattle.std.proofs.lemmas.Map.Keys.{IsDistinct-tail}
use Rattle.sky_names.specs.Places.{place_of, Distinct}
use Rattle.sky_names.specs.Named.{NamedView, with_value, value_of}
use Rattle.sky_names.proofs.PlaceLemmas.{bytes_eq_refl, bytes_eq_sym, same_name, place_of-cons, slice_get-place_of, place_of-Distinct}
use Rattle.sky_names.proofs.ValueLemmas.{value_of-there, value_of-with_value}
use Rattle.londiste_state.specs.Nodes.{all_but}
use Rattle.pgq_sub.specs.Views.{SubView}
use Rattle.pgq_sub.specs.Seen.{seen_subs, with_sub, without_member}

-- the subscription at the place of a consumer is changed
pub sub-changed : (n now : NamedView SubView) (key : List ℕ) (place : ℕ) (old new : SubView) (f : SubView → SubView) → n ≡ now → Some place ≡ place_of key n.names
    → place < length n.values → old ≡ get_or n.values place old → new ≡ f old → seen_subs (with_value n place new) ≡ with_sub key f (seen_subs now)
sub-changed n now key place old new f same is lt at change =
    (λ i. record (seen_subs n) { kept = λ name. (value_of-with_value n key place new (sym is) lt name ∙ by name (bytes_eq name key) refl) i })
    ∙ ap (λ (v : NamedView SubView). with_sub key f (seen_subs v)) same
  where
    by : (name : List ℕ) (b : Bool) → bytes_eq name key ≡ b → (if b then Some new else value_of name n) ≡ (if b then option_map f (value_of name n) else value_of name n)
    by name true e = ap Some change ∙ sym (ap (option_map f) (ap (λ m. value_of m n) (same_name name key e) ∙ value_of-there n key place old is lt at))
    by name false e = refl

-- what is kept of a consumer is what is at its place
pub kept-there : (n now : NamedView SubView) (key : List ℕ) (place : ℕ) (old : SubView) → n ≡ now → Some place ≡ place_of key n.names → place < length n.values → old ≡ get_or n.values place old
    → Some old ≡ value_of key now
kept-there n now key place old same is lt at = sym (value_of-there n key place old is lt at) ∙ ap (value_of key) same

-- and what is at a place is kept of the consumer there
pub at-place : (n now : NamedView SubView) (key : List ℕ) (place : ℕ) (s : SubView) → n ≡ now → Distinct n.names → place < length n.values → s ≡ get_or n.values place s
    → slice_get now.names place ≡ Some key → value_of key now ≡ Some s
at-place n now key place s same distinct lt at there =
    let here : slice_get n.names place ≡ Some key = ap (λ (v : NamedView SubView). slice_get v.names place) same ∙ there in
    sym (kept-there n now key place s same (sym (place_of-Distinct n.names place key distinct here)) lt at)

-- a name that isn't there isn't removed
all_but-lacking : (key : List ℕ) (names : List (List ℕ)) → place_of key names ≡ None → all_but key names ≡ names
all_but-lacking key [] is = refl
all_but-lacking key (first ∷ names) is = by (all_but-lacking key names) (bytes_eq key first) (place_of key names) refl refl is
  where
    by : (place_of key names ≡ None → all_but key names ≡ names) → (b : Bool) (rest : Option ℕ) → bytes_eq key first ≡ b → place_of key names ≡ rest
        → (if b then Some 0 else option_map (λ p. p + 1) rest) ≡ None → all_but key (first ∷ names) ≡ first ∷ names
    by others true rest e at is = absurd (cc)
    by others false (Some p) e at is = absurd (cc)
    by others false None e at is = ap (λ b. cond (not b) (first ∷ all_but key names) (all_but key names)) e ∙ ap (λ ns. first ∷ ns) (others at)

-- if names are distinct, the first is nowhere else
once : (first : List ℕ) (names : List (List ℕ)) → Distinct (first ∷ names) → place_of first names ≡ None
once first names distinct = by (place_of first names) refl
  where
    by : (o : Option ℕ) → place_of first names ≡ o → place_of first names ≡ None
    by None at = at
    by (Some p) at =
        let later : place_of first (first ∷ names) ≡ Some (suc p) = place_of-Distinct (first ∷ names) (suc p) first distinct (slice_get-place_of first names p at) in
        let here : place_of first (first ∷ names) ≡ Some 0 = ap (λ b. if b then Some 0 else option_map (λ n. n + 1) (place_of first names)) (bytes_eq_refl first) in
        absurd (cc)

-- with the name at its place all of that name is removed
all_but-removed : (key : List ℕ) (names : List (List ℕ)) (place : ℕ) → Distinct names → place_of key names ≡ Some place → remove names place ≡ all_but key names
all_but-removed key [] place distinct is = absurd (cc)
all_but-removed key (first ∷ names) zero distinct is =
    elim (place_of-cons key first names zero is) [
      | inl (equal, head) ↦
          let one : key ≡ first = same_name key first equal in
          let lacks : place_of key names ≡ None = ap (λ n. place_of n names) one ∙ once first names distinct in
          sym (ap (λ b. cond (not b) (first ∷ all_but key names) (all_but key names)) equal ∙ all_but-lacking key names lacks)
      | inr (_, (before, at, later)) ↦ absurd (omega (arith, later))
    ]
all_but-removed key (first ∷ names) (suc place) distinct is =
    elim (place_of-cons key first names (suc place) is) [
      | inl (_, head) ↦ absurd (omega (arith, head))
      | inr (other, (before, at, later)) ↦
          let one : before ≡ place = omega (arith, later) in
          ap (λ ns. first ∷ ns) (all_but-removed key names place (IsDistinct-tail bytes_eq first names distinct) (at ∙ ap Some one))
          ∙ sym (ap (λ b. cond (not b) (first ∷ all_but key names) (all_but key names)) other)
    ]

-- what is found after the first is what the rest has
later-value : (v : SubView) (vs : List SubView) (o : Option ℕ) → option_and_then (slice_get (v ∷ vs)) (option_map (λ n. n + 1) o) ≡ option_and_then (slice_get vs) o
later-value v vs None = refl
later-value v vs (Some p) = let next : p + 1 ≡ suc p = omega arith in ap (slice_get (v ∷ vs)) next

no-value : (b : Bool) (one other : Option ℕ) → option_and_then (slice_get {X = SubView} []) one ≡ (if b then None else option_and_then (slice_get {X = SubView} []) other)
no-value true None other = refl
no-value true (Some p) other = refl
no-value false None None = refl
no-value false None (Some q) = refl
no-value false (Some p) None = refl
no-value false (Some p) (Some q) = refl

-- and each other name finds what it found
value-removed : (key : List ℕ) (names : List (List ℕ)) (values : List SubView) (place : ℕ) → Distinct names → place_of key names ≡ Some place → (m : List ℕ)
    → option_and_then (slice_get (remove values place)) (place_of m (remove names place)) ≡ (if bytes_eq m key then None else option_and_then (slice_get values) (place_of m names))
value-removed key [] values place distinct is m = absurd (cc)
value-removed key (first ∷ names) [] zero distinct is m = no-value (bytes_eq m key) (place_of m names) (place_of m (first ∷ names))
value-removed key (first ∷ names) [] (suc place) distinct is m = no-value (bytes_eq m key) (place_of m (first ∷ remove names place)) (place_of m (first ∷ names))
value-removed key (first ∷ names) (v ∷ vs) zero distinct is m =
    elim (place_of-cons key first names zero is) [
      | inl (equal, head) ↦ let one : key ≡ first = same_name key first equal in by one (bytes_eq m first) refl ∙ ap (λ k. if bytes_eq m k then None else option_and_then (slice_get (v ∷ vs)) (place_of m (first ∷ names))) (sym one)
      | inr (_, (before, at, later)) ↦ absurd (omega (arith, later))
    ]
  where
    by : key ≡ first → (b : Bool) → bytes_eq m first ≡ b
        → option_and_then (slice_get vs) (place_of m names) ≡ (if bytes_eq m first then None else option_and_then (slice_get (v ∷ vs)) (place_of m (first ∷ names)))
    by one true e =
        ap (option_and_then (slice_get vs)) (ap (λ n. place_of n names) (same_name m first e) ∙ once first names distinct)
        ∙ ap (λ b. if b then None else option_and_then (slice_get (v ∷ vs)) (place_of m (first ∷ names))) (sym e)
    by one false e =
        sym (later-value v vs (place_of m names))
        ∙ ap (λ b. if b then None else option_and_then (slice_get (v ∷ vs)) (if b then Some 0 else option_map (λ n. n + 1) (place_of m names))) (sym e)
value-removed key (first ∷ names) (v ∷ vs) (suc place) distinct is m =
    elim (place_of-cons key first names (suc place) is) [
      | inl (_, head) ↦ absurd (omega (arith, head))
      | inr (other, (before, at, later)) ↦
          let one : before ≡ place = omega (arith, later) in
          by other (value-removed key names vs place (IsDistinct-tail bytes_eq first names distinct) (at ∙ ap Some one) m) (bytes_eq m first) refl
    ]
  where
    two : (b : Bool) → (if b then None else option_and_then (slice_get vs) (place_of m names)) ≡ (if b then None else option_and_then (slice_get (v ∷ vs)) (option_map (λ n. n + 1) (place_of m names)))
    two true = refl
    two false = sym (later-value v vs (place_of m names))

    by : bytes_eq key first ≡ false
        → option_and_then (slice_get (remove vs place)) (place_of m (remove names place)) ≡ (if bytes_eq m key then None else option_and_then (slice_get vs) (place_of m names))
        → (b : Bool) → bytes_eq m first ≡ b
        → option_and_then (slice_get (v ∷ remove vs place)) (place_of m (first ∷ remove names place)) ≡ (if bytes_eq m key then None else option_and_then (slice_get (v ∷ vs)) (place_of m (first ∷ names)))
    by other rest true e =
        let apart : bytes_eq m key ≡ false = ap (λ n. bytes_eq n key) (same_name m first e) ∙ bytes_eq_sym first key ∙ other in
        ap (λ b. option_and_then (slice_get (v ∷ remove vs place)) (if b then Some 0 else option_map (λ n. n + 1) (place_of m (remove names place)))) e
        ∙ ap (λ b. option_and_then (slice_get (v ∷ vs)) (if b then Some 0 else option_map (λ n. n + 1) (place_of m names))) (sym e)
        ∙ ap (λ b. if b then None else option_and_then (slice_get (v ∷ vs)) (place_of m (first ∷ names))) (sym apart)
    by other rest false e =
        ap (λ b. option_and_then (slice_get (v ∷ remove vs place)) (if b then Some 0 else option_map (λ n. n + 1) (place_of m (remove names place)))) e
        ∙ later-value v (remove vs place) (place_of m (remove names place))
        ∙ rest
        ∙ two (bytes_eq m key)
        ∙ ap (λ b. if bytes_eq m key then None else option_and_then (slice_get (v ∷ vs)) (if b then Some 0 else option_map (λ n. n + 1) (place_of m names))) (sym e)

-- the subscription at the place of a consumer is removed
pub sub-gone : (n now left : NamedView SubView) (key : List ℕ) (place : ℕ) → n ≡ now → Distinct n.names → Some place ≡ place_of key n.names
    → left ≡ record { names = remove n.names place; values = remove n.values place } → seen_subs left ≡ without_member key (seen_subs now)
sub-gone n now left key place same distinct is gone =
    ap seen_subs gone
    ∙ (λ i. record { members = all_but-removed key n.names place distinct (sym is) i; kept = λ m. value-removed key n.names n.values place distinct (sym is) m i })
    ∙ ap (λ (v : NamedView SubView). without_member key (seen_subs v)) same

-- without a place nothing is removed
pub sub-absent : (n now : NamedView SubView) (key : List ℕ) → n ≡ now → None ≡ place_of key n.names → seen_subs now ≡ without_member key (seen_subs now)
sub-absent n now key same is =
    ap seen_subs (sym same)
    ∙ (λ i. record { members = sym (all_but-lacking key n.names (sym is)) i; kept = λ m. by m (bytes_eq m key) refl i })
    ∙ ap (λ (v : NamedView SubView). without_member key (seen_subs v)) same
  where
    by : (m : List ℕ) (b : Bool) → bytes_eq m key ≡ b → value_of m n ≡ (if b then None else value_of m n)
    by m true e = ap (λ k. value_of k n) (same_name m key e) ∙ ap (option_and_then (slice_get n.values)) (sym is)
    by m false e = refl
