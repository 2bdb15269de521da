-- Ticks climb: their ids are consecutive, and the lower bounds of their snapshots don't fall.
use Rattle.std.proofs.Common.{◌≡◌, ℕ, zero, suc, ◌+◌, ◌<◌, ◌≤◌, List, [], ◌∷◌, ◌++◌, Bool, true, false, not, ◌==◌, filter, find, Option, Some, None, is_some, refl, sym, ◌∙◌, ap, subst, arith, All, AllPairs, if◌then◌else◌}
use Rattle.std.proofs.lemmas.Bool.Decides.{nat_tests}
use Rattle.std.proofs.lemmas.List.Elements.{All-head, All-filter}
use Rattle.sky_txid.specs.Ids.{first_or}
use Rattle.sky_model.specs.History.{Whose, began, ended, History}
use Rattle.sky_model.specs.Transactions.{next_txid, running, snapshot}
use Rattle.sky_model.specs.Queues.{new_tick, queues_made, Tick, ticks, tick, newest_tick, id_of, is_above}
use Rattle.sky_histories.proofs.Legal.{Fine, makes, ticks_next, Legal, start, next}
use Rattle.sky_histories.proofs.Snapshots.{Sound, sound, begun-next}
use Rattle.sky_histories.proofs.Ticks.{ticks_beyond}
use Rattle.sky_model.proofs.Cases.{by_same, by_test}

-- ---- the lower bound of the snapshot never falls

first_or-push : (n t : ℕ) (xs : List ℕ) → n ≤ t → first_or n xs ≤ first_or (n + 1) (xs ++ t ∷ [])
first_or-push n t [] le = omega (arith, le)
first_or-push n t (x ∷ xs) le = omega arith

first_or-above : (m n : ℕ) (xs : List ℕ) → m ≤ n → All (λ x. m < x) xs → m ≤ first_or n xs
first_or-above m n [] le all = le
first_or-above m n (x ∷ xs) le all = let lt : m < x = All-head (λ y. m < y) x xs all in omega arith

first_or-filter : (n : ℕ) (p : ℕ → Bool) (xs : List ℕ) → AllPairs (λ x y. x < y) xs → All (λ x. x < n) xs → first_or n xs ≤ first_or n (filter p xs)
first_or-filter n p [] rising below = omega arith
first_or-filter n p (x ∷ xs) rising below =
    let lt : x < n = All-head (λ y. y < n) x xs below in
    let above : All (λ y. x < y) xs = λ k d within. omega (arith, rising zero (suc k) d (omega arith) (omega arith)) in
    by_test (λ b. x ≤ first_or n (if b then x ∷ filter p xs else filter p xs)) (p x) (λ _. omega arith)
    (λ _. first_or-above x n (filter p xs) (omega (arith, lt)) (All-filter p (λ y. x < y) xs above))

pub xmin-began : (h : History) → Legal h → (whose : Whose) (t : ℕ) → Fine h (began whose t) → (snapshot h).xmin ≤ (snapshot (began whose t ∷ h)).xmin
xmin-began h l whose t fine = let same : t ≡ next_txid h = begun-next h whose t fine in first_or-push (next_txid h) t (running h) (omega (arith, same))

pub xmin-ended : (h : History) → Legal h → (whose : Whose) (t : ℕ) (committed : Bool) → (snapshot h).xmin ≤ (snapshot (ended whose t committed ∷ h)).xmin
xmin-ended h l whose t committed = let s : Sound h = sound h l in first_or-filter (next_txid h) (λ u. not (u == t)) (running h) s.rising s.below

pub xmin-least : (h : History) → Legal h → 3 ≤ (snapshot h).xmin
xmin-least [] start = omega arith
xmin-least (began whose t ∷ h) (next l fine) = omega (arith, xmin-least h l, xmin-began h l whose t fine)
xmin-least (ended whose t committed ∷ h) (next l fine) = omega (arith, xmin-least h l, xmin-ended h l whose t committed)
xmin-least (_ ∷ h) (next l fine) = xmin-least h l

first_or-most : (n : ℕ) (xs : List ℕ) → All (λ x. x < n) xs → first_or n xs ≤ n
first_or-most n [] all = omega arith
first_or-most n (x ∷ xs) all = let lt : x < n = All-head (λ y. y < n) x xs all in omega arith

pub xmin-most : (h : History) → Legal h → (snapshot h).xmin ≤ next_txid h
xmin-most h l = let s : Sound h = sound h l in first_or-most (next_txid h) (running h) s.below

-- ---- ticks that climb

-- the lower bound of a tick's snapshot, 0 if there is none
abbrev pub xmin_of : Option Tick → ℕ
xmin_of None = 0
xmin_of (Some t) = t.snapshot.xmin

-- ids go on from a number, and lower bounds don't fall, from another one
abbrev pub Climbs : (last low : ℕ) → List Tick → Type 0
Climbs last low [] = Unit {0}
Climbs last low (t ∷ ts) = (t.id ≡ last + 1) × (low ≤ t.snapshot.xmin) × Climbs t.id t.snapshot.xmin ts

-- the last id and the last lower bound
abbrev pub last_id : ℕ → List Tick → ℕ
last_id last [] = last
last_id last (t ∷ ts) = last_id t.id ts

abbrev pub last_xmin : ℕ → List Tick → ℕ
last_xmin low [] = low
last_xmin low (t ∷ ts) = last_xmin t.snapshot.xmin ts

pub last_id-newest : (ts : List Tick) → last_id 0 ts ≡ id_of (newest_tick ts)
last_id-newest [] = refl
last_id-newest (t ∷ ts) = of 0 t ts
  where
    of : (last : ℕ) (t : Tick) (ts : List Tick) → last_id last (t ∷ ts) ≡ id_of (newest_tick (t ∷ ts))
    of last t [] = refl
    of last t (u ∷ ts) = of t.id u ts

pub last_xmin-newest : (ts : List Tick) → last_xmin 0 ts ≡ xmin_of (newest_tick ts)
last_xmin-newest [] = refl
last_xmin-newest (t ∷ ts) = of 0 t ts
  where
    of : (low : ℕ) (t : Tick) (ts : List Tick) → last_xmin low (t ∷ ts) ≡ xmin_of (newest_tick (t ∷ ts))
    of low t [] = refl
    of low t (u ∷ ts) = of t.snapshot.xmin u ts

climbs-push : (last low : ℕ) (ts : List Tick) (t : Tick) → Climbs last low ts → t.id ≡ last_id last ts + 1 → last_xmin low ts ≤ t.snapshot.xmin → Climbs last low (ts ++ t ∷ [])
climbs-push last low [] t c follows above = (follows, above, tt)
climbs-push last low (u ∷ ts) t c follows above = (c.0, c.1, climbs-push u.id u.snapshot.xmin ts t c.2 follows above)

last_xmin-push : (low : ℕ) (ts : List Tick) (t : Tick) → last_xmin low (ts ++ t ∷ []) ≡ t.snapshot.xmin
last_xmin-push low [] t = refl
last_xmin-push low (u ∷ ts) t = last_xmin-push u.snapshot.xmin ts t

-- a tick that is found is above those before
pub found_above : (last low : ℕ) (ts : List Tick) (n : ℕ) → Climbs last low ts → is_some (tick n ts) ≡ true → (last < n) × (low ≤ xmin_of (tick n ts))
found_above last low [] n c is = absurd (cc)
found_above last low (t ∷ ts) n c is =
    by_test (λ b. is_some (if b then Some t else tick n ts) ≡ true → (last < n) × (low ≤ xmin_of (if b then Some t else tick n ts))) (t.id == n)
    (λ same _. (grind (arith, nat_tests, same, c.0), c.1))
    (λ _ is. let up = found_above t.id t.snapshot.xmin ts n c.2 is in (omega (arith, up.0, c.0), omega (arith, up.1, c.1))) is

-- of two ticks the later one's lower bound isn't below the earlier one's
pub climbs : (last low : ℕ) (ts : List Tick) (m n : ℕ) → Climbs last low ts → m ≤ n → is_some (tick n ts) ≡ true → xmin_of (tick m ts) ≤ xmin_of (tick n ts)
climbs last low [] m n c le is = absurd (cc)
climbs last low (t ∷ ts) m n c le is =
    grind (arith, nat_tests, found_above t.id t.snapshot.xmin ts n c.2, found_above t.id t.snapshot.xmin ts m c.2, climbs t.id t.snapshot.xmin ts m n c.2 le, is, le)

-- each id up to the last one is a tick's
pub full : (last low : ℕ) (ts : List Tick) (n b : ℕ) → Climbs last low ts → last < n → n ≤ last_id last ts → b < low → b < xmin_of (tick n ts)
full last low [] n b c less most above = absurd (omega (arith, less, most))
full last low (t ∷ ts) n b c less most above =
    by_test (λ x. b < xmin_of (if x then Some t else tick n ts)) (t.id == n)
    (λ _. omega (arith, c.1, above))
    (λ other. full t.id t.snapshot.xmin ts n b c.2 (grind (arith, nat_tests, other, c.0, less)) most (omega (arith, c.1, above)))

-- the first tick above a transaction
abbrev pub first_above : ℕ → List Tick → Option Tick
first_above b ts = find (λ t. is_above b t) ts

-- comes after those that aren't
pub first-after : (last low b : ℕ) (ts : List Tick) → Climbs last low ts → low ≤ b → b < last_xmin low ts → last < id_of (first_above b ts)
first-after last low b [] c le less = absurd (omega (arith, le, less))
first-after last low b (t ∷ ts) c le less =
    by_test (λ x. last < id_of (if x then Some t else first_above b ts)) (is_above b t)
    (λ _. omega (arith, c.0))
    (λ other. let up : t.id < id_of (first_above b ts) = first-after t.id t.snapshot.xmin b ts c.2 (grind (arith, nat_tests, other)) less in omega (arith, up, c.0))

-- and isn't above the last
pub first-most : (last low b : ℕ) (ts : List Tick) → Climbs last low ts → id_of (first_above b ts) ≤ last_id last ts
first-most last low b [] c = omega arith
first-most last low b (t ∷ ts) c =
    by_test (λ x. id_of (if x then Some t else first_above b ts) ≤ last_id t.id ts) (is_above b t) (λ _. least t.id t.snapshot.xmin ts c.2) (λ _. first-most t.id t.snapshot.xmin b ts c.2)
  where
    least : (last low : ℕ) (ts : List Tick) → Climbs last low ts → last ≤ last_id last ts
    least last low [] c = omega arith
    least last low (t ∷ ts) c = omega (arith, c.0, least t.id t.snapshot.xmin ts c.2)

-- each tick from there on is above that transaction
pub above-first : (last low b : ℕ) (ts : List Tick) (n : ℕ) → Climbs last low ts → low ≤ b → b < last_xmin low ts → last < n → n ≤ last_id last ts
    → id_of (first_above b ts) ≤ n → b < xmin_of (tick n ts)
above-first last low b [] n c le less after most from = absurd (omega (arith, le, less))
above-first last low b (t ∷ ts) n c le less after most from =
    by_test (λ x. id_of (if x then Some t else first_above b ts) ≤ n → b < xmin_of (tick n (t ∷ ts))) (is_above b t)
    (λ is _.
    let up : b < t.snapshot.xmin = grind (arith, nat_tests, is) in
    by_test (λ y. b < xmin_of (if y then Some t else tick n ts)) (t.id == n) (λ _. up)
    (λ other. full t.id t.snapshot.xmin ts n b c.2 (grind (arith, nat_tests, other, c.0, after)) most up))
    (λ not_yet from.
    let down : t.snapshot.xmin ≤ b = grind (arith, nat_tests, not_yet) in
    let later : t.id < id_of (first_above b ts) = first-after t.id t.snapshot.xmin b ts c.2 down less in
    let other : (t.id == n) ≡ false = grind (arith, nat_tests, later, from) in
    subst (λ y. b < xmin_of (if y then Some t else tick n ts)) (sym other) (above-first t.id t.snapshot.xmin b ts n c.2 down less (omega (arith, later, from)) most from)) from

-- and each tick above it comes from there on
pub first-least : (last low b : ℕ) (ts : List Tick) (n : ℕ) → Climbs last low ts → b < xmin_of (tick n ts) → id_of (first_above b ts) ≤ n
first-least last low b [] n c less = absurd (omega (arith, less))
first-least last low b (t ∷ ts) n c less =
    grind (arith, nat_tests, found_above t.id t.snapshot.xmin ts n c.2, first-least t.id t.snapshot.xmin b ts n c.2, less)

-- ---- the ticks of a queue

pub record Climbing (h : History) (q : ℕ) : Type 0 where
  pub run : Climbs 0 0 (ticks q h)
  pub most : last_xmin 0 (ticks q h) ≤ (snapshot h).xmin

pub climbing : (h : History) → Legal h → (q : ℕ) → Climbing h q
climbing [] start q = record { run = tt; most = omega arith }
climbing (began whose t ∷ h) (next l fine) q = let c : Climbing h q = climbing h l q in record { run = c.run; most = omega (arith, c.most, xmin-began h l whose t fine) }
climbing (ended whose t committed ∷ h) (next l fine) q = let c : Climbing h q = climbing h l q in record { run = c.run; most = omega (arith, c.most, xmin-ended h l whose t committed) }
climbing _ (next {h = h} l (makes name t time new)) q =
    let c : Climbing h q = climbing h l q in
    record {
      run = by_same (λ b. Climbs 0 0 (if b then ticks q h ++ new_tick time h ∷ [] else ticks q h)) (queues_made h) q
          (λ same. subst (λ ts. Climbs 0 0 (ts ++ new_tick time h ∷ [])) (sym (ticks_beyond h l q (omega (arith, same)))) (refl, omega arith, tt)) (λ _. c.run);
      most = by_test (λ b. last_xmin 0 (if b then ticks q h ++ new_tick time h ∷ [] else ticks q h) ≤ (snapshot h).xmin) (queues_made h == q)
          (λ _. let last : last_xmin 0 (ticks q h ++ new_tick time h ∷ []) ≡ (snapshot h).xmin = last_xmin-push 0 (ticks q h) (new_tick time h) in omega (arith, last)) (λ _. c.most);
    }
climbing _ (next {h = h} l (ticks_next p id time seq i e at)) q =
    let new : Tick = record { id = id; time = time; snapshot = snapshot h; seq = seq } in
    let c : Climbing h q = climbing h l q in
    record {
      run = by_same (λ b. Climbs 0 0 (if b then ticks q h ++ new ∷ [] else ticks q h)) p q
          (λ same. climbs-push 0 0 (ticks q h) new c.run (at ∙ ap (λ n. id_of (newest_tick (ticks n h)) + 1) same ∙ ap (λ n. n + 1) (sym (last_id-newest (ticks q h)))) c.most) (λ _. c.run);
      most = by_test (λ b. last_xmin 0 (if b then ticks q h ++ new ∷ [] else ticks q h) ≤ (snapshot h).xmin) (p == q)
          (λ _. let last : last_xmin 0 (ticks q h ++ new ∷ []) ≡ (snapshot h).xmin = last_xmin-push 0 (ticks q h) new in omega (arith, last)) (λ _. c.most);
    }
climbing _ (next {h = h} l _) q = let c : Climbing h q = climbing h l q in record { run = c.run; most = c.most }
