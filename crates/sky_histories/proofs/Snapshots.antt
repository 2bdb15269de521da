-- A snapshot sees exactly the transactions that have ended; and a worker's that runs is no session's.
use Rattle.std.proofs.Common.{◌≡◌, ℕ, zero, suc, ◌+◌, ◌<◌, ◌≤◌, List, [], ◌∷◌, ◌++◌, Bool, true, false, not, ◌&&◌, ◌||◌, ◌==◌, nat_lt, filter, Some, refl, sym, ◌∙◌, ap, arith, ltb-true, All, AllPairs}
use Rattle.std.proofs.lemmas.Bool.{and_parts, not-true, or_right, false_from_ne_true}
use Rattle.std.proofs.lemmas.Bool.Decides.{nat_tests}
use Rattle.std.proofs.lemmas.List.Elements.{All-nil, All-cons, All-head, All-tail, All-push, All-weaker, All-filter}
use Rattle.std.proofs.lemmas.List.Kept.{AllPairs-filter}
use Rattle.std.proofs.lemmas.List.Quantifiers.{all_pairs_push}
use Rattle.sky_txid.specs.Ids.{contains, first_or}
use Rattle.sky_txid.specs.Snapshot.{sees}
use Rattle.sky_model.specs.History.{Mark, Whose, of_session, of_worker, of_copy, began, ended, History}
use Rattle.sky_model.specs.Transactions.{next_txid, running, workers, has_ended, has_committed, has_rolled_back, snapshot}
use Rattle.sky_model.specs.Copies.{Copy, without_copy, copies, is_copied_by, is_copys}
use Rattle.sky_model.specs.Sessions.{own_txid}
use Rattle.sky_histories.proofs.Legal.{Fine, begins, ends, begins_work, ends_work, begins_copy, ends_copy, Legal, start, next, brief, IsBrief}

-- the parts of a history that the law on snapshots rests on
pub record Sound (h : History) : Type 0 where
  pub first : 3 ≤ next_txid h
  pub runs : (t : ℕ) → contains t (running h) ≡ (nat_lt t (next_txid h) && not (has_ended h t))
  pub ended_below : (t : ℕ) → has_ended h t ≡ true → t < next_txid h
  pub rising : AllPairs (λ t u. t < u) (running h)
  pub below : All (λ t. t < next_txid h) (running h)
  pub owns : (who t : ℕ) → own_txid who h ≡ Some t → contains t (running h) ≡ true
  pub once : (v w t : ℕ) → own_txid v h ≡ Some t → own_txid w h ≡ Some t → v ≡ w
  pub works : (t : ℕ) → contains t (workers h) ≡ true → contains t (running h) ≡ true
  pub nobodys : (who t : ℕ) → own_txid who h ≡ Some t → contains t (workers h) ≡ false
  pub copying : (t : ℕ) → is_copys t (copies h) ≡ true → contains t (workers h) ≡ true

pub contains-push : (t x : ℕ) (xs : List ℕ) → contains t (xs ++ x ∷ []) ≡ (contains t xs || t == x)
contains-push t x [] = grind arith
contains-push t x (y ∷ ys) = grind (arith, contains-push t x ys)

pub contains-filter : (t x : ℕ) (xs : List ℕ) → contains t (filter (λ u. not (u == x)) xs) ≡ (contains t xs && not (t == x))
contains-filter t x [] = refl
contains-filter t x (y ∷ ys) = grind (arith, nat_tests, contains-filter t x ys)

-- what is below all of a list isn't contained
contains-below : (t : ℕ) (xs : List ℕ) → All (λ x. t < x) xs → contains t xs ≡ false
contains-below t [] all = refl
contains-below t (x ∷ xs) all =
    let lt : t < x = All-head (λ y. t < y) x xs all in
    ap (λ b. t == x || b) (contains-below t xs (All-tail (λ y. t < y) x xs all)) ∙ grind (arith, nat_tests)

contains-first : (t n : ℕ) (xs : List ℕ) → AllPairs (λ x y. x < y) xs → nat_lt t (first_or n xs) ≡ true → contains t xs ≡ false
contains-first t n [] rising lt = refl
contains-first t n (x ∷ xs) rising lt =
    let below : t < x = ltb-true t x lt in
    contains-below t (x ∷ xs) (All-cons (λ y. t < y) x xs below (λ k d within. omega (arith, rising zero (suc k) d (omega arith) (omega arith))))

first_or-below : (n : ℕ) (xs : List ℕ) → All (λ x. x < n) xs → first_or n xs ≤ n
first_or-below n [] all = omega arith
first_or-below n (x ∷ xs) all = let lt : x < n = All-head (λ y. y < n) x xs all in omega arith

-- a running transaction has its id
pub runs-below : (h : History) → Sound h → (t : ℕ) → contains t (running h) ≡ true → t < next_txid h
runs-below h s t runs = ltb-true t (next_txid h) (and_parts (nat_lt t (next_txid h)) (not (has_ended h t)) (sym (s.runs t) ∙ runs)).0

-- and hasn't ended
pub runs-unended : (h : History) → Sound h → (t : ℕ) → contains t (running h) ≡ true → has_ended h t ≡ false
runs-unended h s t runs = not-true (has_ended h t) (and_parts (nat_lt t (next_txid h)) (not (has_ended h t)) (sym (s.runs t) ∙ runs)).1

-- a copy more, or without that of a transaction
pub copys-push : (t : ℕ) (cs : List Copy) (c : Copy) → is_copys t (cs ++ c ∷ []) ≡ (is_copys t cs || c.txid == t)
copys-push t [] c = grind arith
copys-push t (x ∷ cs) c = grind (arith, copys-push t cs c)

pub copys-without : (t u : ℕ) (cs : List Copy) → is_copys u (without_copy t cs) ≡ (is_copys u cs && not (u == t))
copys-without t u [] = refl
copys-without t u (x ∷ cs) = grind (arith, nat_tests, copys-without t u cs)

-- the copy of a table is one
pub copys-of : (table t : ℕ) (cs : List Copy) → is_copied_by table t cs ≡ true → is_copys t cs ≡ true
copys-of table t [] is = absurd (cc)
copys-of table t (x ∷ cs) is = grind (arith, copys-of table t cs)

-- whose the transactions that run are, behind a mark
record Owned (h : History) : Type 0 where
  owns : (who t : ℕ) → own_txid who h ≡ Some t → contains t (running h) ≡ true
  once : (v w t : ℕ) → own_txid v h ≡ Some t → own_txid w h ≡ Some t → v ≡ w
  works : (t : ℕ) → contains t (workers h) ≡ true → contains t (running h) ≡ true
  nobodys : (who t : ℕ) → own_txid who h ≡ Some t → contains t (workers h) ≡ false
  copying : (t : ℕ) → is_copys t (copies h) ≡ true → contains t (workers h) ≡ true

owned_began : (h : History) (whose : Whose) → Sound h → Owned (began whose (next_txid h) ∷ h)
owned_began h (of_session who) s = record {
  owns = λ w t e. grind (arith, nat_tests, contains-push t (next_txid h) (running h), s.owns w t);
  once = λ v w t ev ew. grind (arith, nat_tests, s.once v w t, runs-below h s t, s.owns v t, s.owns w t);
  works = λ t e. grind (arith, contains-push t (next_txid h) (running h), s.works t e);
  nobodys = λ w t e. grind (arith, nat_tests, s.nobodys w t, runs-below h s t, s.works t);
  copying = s.copying;
}
owned_began h of_worker s = record {
  owns = λ w t e. grind (arith, contains-push t (next_txid h) (running h), s.owns w t e);
  once = s.once;
  works = λ t e. grind (arith, nat_tests, contains-push t (next_txid h) (running h), contains-push t (next_txid h) (workers h), s.works t);
  nobodys = λ w t e. grind (arith, nat_tests, contains-push t (next_txid h) (workers h), s.nobodys w t e, runs-below h s t (s.owns w t e));
  copying = λ t e. grind (arith, contains-push t (next_txid h) (workers h), s.copying t e);
}
owned_began h (of_copy table) s = record {
  owns = λ w t e. grind (arith, contains-push t (next_txid h) (running h), s.owns w t e);
  once = s.once;
  works = λ t e. grind (arith, nat_tests, contains-push t (next_txid h) (running h), contains-push t (next_txid h) (workers h), s.works t);
  nobodys = λ w t e. grind (arith, nat_tests, contains-push t (next_txid h) (workers h), s.nobodys w t e, runs-below h s t (s.owns w t e));
  copying = λ t e. grind (arith, nat_tests, contains-push t (next_txid h) (workers h), copys-push t (copies h) (record { table = table; txid = next_txid h }), s.copying t);
}

sound_began : (h : History) (whose : Whose) → Sound h → Owned (began whose (next_txid h) ∷ h) → Sound (began whose (next_txid h) ∷ h)
sound_began h whose s o = record {
  first = (let three : 3 ≤ next_txid h = s.first in omega arith);
  runs = λ t. grind (arith, nat_tests, contains-push t (next_txid h) (running h), s.runs t, s.ended_below t);
  ended_below = λ t e. (let lt : t < next_txid h = s.ended_below t e in omega arith);
  rising = all_pairs_push (λ t u. t < u) (running h) (next_txid h) s.rising s.below;
  below = All-push (λ t. t < next_txid h + 1) (running h) (next_txid h) (All-weaker (λ t. t < next_txid h) (λ t. t < next_txid h + 1) (λ t lt. omega arith) (running h) s.below) (omega arith);
  owns = o.owns;
  once = o.once;
  works = o.works;
  nobodys = o.nobodys;
  copying = o.copying;
}

-- the next id is no copy's
pub next-apart : (h : History) → Sound h → is_copys (next_txid h) (copies h) ≡ false
next-apart h s = false_from_ne_true (is_copys (next_txid h) (copies h)) (λ is. absurd (omega (arith, runs-below h s (next_txid h) (s.works (next_txid h) (s.copying (next_txid h) is)))))

-- so a worker's transaction that has just begun is none
pub just_begun : (h : History) → Sound h → IsBrief (began of_worker (next_txid h) ∷ h) (next_txid h)
just_begun h s = record {
  work = record { works = grind (arith, nat_tests, contains-push (next_txid h) (next_txid h) (workers h)); apart = next-apart h s };
  brief = grind (arith, nat_tests, contains-push (next_txid h) (next_txid h) (brief h));
}

-- one that begins gets the next id
pub begun-next : (h : History) (whose : Whose) (t : ℕ) → Fine h (began whose t) → t ≡ next_txid h
begun-next h _ _ (begins who none) = refl
begun-next h _ _ begins_work = refl
begun-next h _ _ (begins_copy table may) = refl

-- the transaction of a copy that runs does
pub copy-runs : (h : History) → Sound h → (table t : ℕ) → is_copied_by table t (copies h) ≡ true → contains t (running h) ≡ true
copy-runs h s table t is = s.works t (s.copying t (copys-of table t (copies h) is))

-- a transaction that ends ran
ender-runs : (h : History) → Sound h → (whose : Whose) (t : ℕ) (committed : Bool) → Fine h (ended whose t committed) → contains t (running h) ≡ true
ender-runs h s _ _ _ (ends who t committed mine) = s.owns who t mine
ender-runs h s _ _ _ (ends_work t committed is) = s.works t is.works
ender-runs h s _ _ _ (ends_copy table t committed is) = copy-runs h s table t is.runs

owned_ended : (h : History) (whose : Whose) (t : ℕ) (committed : Bool) → Fine h (ended whose t committed) → Sound h → Owned (ended whose t committed ∷ h)
owned_ended h _ _ _ (ends who t committed mine) s = record {
  owns = λ w u e. grind (arith, nat_tests, contains-filter u t (running h), s.owns w u, s.once who w u);
  once = λ v w u ev ew. grind (arith, s.once v w u);
  works = λ u e. grind (arith, nat_tests, contains-filter u t (running h), s.works u e, s.nobodys who t mine);
  nobodys = λ w u e. grind (arith, s.nobodys w u);
  copying = s.copying;
}
owned_ended h _ _ _ (ends_work t committed is) s = record {
  owns = λ w u e. grind (arith, nat_tests, contains-filter u t (running h), s.owns w u e, s.nobodys w u e, is.works);
  once = s.once;
  works = λ u e. grind (arith, contains-filter u t (running h), contains-filter u t (workers h), s.works u);
  nobodys = λ w u e. grind (arith, contains-filter u t (workers h), s.nobodys w u e);
  copying = λ u e. grind (arith, nat_tests, contains-filter u t (workers h), s.copying u e, is.apart);
}
owned_ended h _ _ _ (ends_copy table t committed is) s = record {
  owns = λ w u e. grind (arith, nat_tests, contains-filter u t (running h), s.owns w u e, s.nobodys w u e, s.copying t (copys-of table t (copies h) is.runs));
  once = s.once;
  works = λ u e. grind (arith, contains-filter u t (running h), contains-filter u t (workers h), s.works u);
  nobodys = λ w u e. grind (arith, contains-filter u t (workers h), s.nobodys w u e);
  copying = λ u e. grind (arith, contains-filter u t (workers h), copys-without t u (copies h), s.copying u);
}

sound_ended : (h : History) (whose : Whose) (t : ℕ) (committed : Bool) → contains t (running h) ≡ true → Sound h → Owned (ended whose t committed ∷ h) → Sound (ended whose t committed ∷ h)
sound_ended h whose t committed is s o = record {
  first = s.first;
  runs = λ u. grind (arith, nat_tests, contains-filter u t (running h), s.runs u);
  ended_below = λ u e. grind (arith, nat_tests, s.ended_below u, runs-below h s t is);
  rising = AllPairs-filter (λ u v. u < v) (λ u. not (u == t)) (running h) s.rising;
  below = All-filter (λ u. not (u == t)) (λ u. u < next_txid h) (running h) s.below;
  owns = o.owns;
  once = o.once;
  works = o.works;
  nobodys = o.nobodys;
  copying = o.copying;
}

sound_step : (h : History) (mark : Mark) → Fine h mark → Sound h → Sound (mark ∷ h)
sound_step h _ (begins who none) s = sound_began h (of_session who) s (owned_began h (of_session who) s)
sound_step h _ begins_work s = sound_began h of_worker s (owned_began h of_worker s)
sound_step h _ (begins_copy table may) s = sound_began h (of_copy table) s (owned_began h (of_copy table) s)
sound_step h (ended whose t committed) fine s = sound_ended h whose t committed (ender-runs h s whose t committed fine) s (owned_ended h whose t committed fine s)
sound_step h _ _ s = record {
  first = s.first;
  runs = s.runs;
  ended_below = s.ended_below;
  rising = s.rising;
  below = s.below;
  owns = s.owns;
  once = s.once;
  works = s.works;
  nobodys = s.nobodys;
  copying = s.copying;
}

pub sound : (h : History) → Legal h → Sound h
sound [] start = record {
  first = omega arith;
  runs = λ t. grind (arith, nat_tests);
  ended_below = λ t e. grind (arith, nat_tests);
  rising = λ i j d lt within. absurd (omega arith);
  below = All-nil (λ t. t < 3);
  owns = λ who t e. absurd (cc);
  once = λ v w t ev ew. absurd (cc);
  works = λ t e. absurd (cc);
  nobodys = λ who t e. absurd (cc);
  copying = λ t e. absurd (cc);
}
sound (mark ∷ h) (next l f) = sound_step h mark f (sound h l)

-- a snapshot sees exactly what has ended
pub sees-snapshot : (h : History) → Legal h → (t : ℕ) → sees (snapshot h) t ≡ has_ended h t
sees-snapshot h l t =
    let s : Sound h = sound h l in
    grind (arith, nat_tests, s.runs t, s.ended_below t, contains-first t (next_txid h) (running h) s.rising, first_or-below (next_txid h) (running h) s.below)

-- a transaction that a session has hasn't ended
pub own-unended : (h : History) → Legal h → (who t : ℕ) → own_txid who h ≡ Some t → has_ended h t ≡ false
own-unended h l who t mine = let s : Sound h = sound h l in runs-unended h s t (s.owns who t mine)

-- nor has one that ends
pub ender-unended : (h : History) → Legal h → (whose : Whose) (t : ℕ) (committed : Bool) → Fine h (ended whose t committed) → has_ended h t ≡ false
ender-unended h l whose t committed fine = let s : Sound h = sound h l in runs-unended h s t (ender-runs h s whose t committed fine)

-- what has rolled back has ended
ended-rolled_back : (h : History) (t : ℕ) → has_rolled_back h t ≡ true → has_ended h t ≡ true
ended-rolled_back [] t e = absurd (cc)
ended-rolled_back (ended who u true ∷ h) t e = or_right (t == u) (has_ended h t) (ended-rolled_back h t e)
ended-rolled_back (ended who u false ∷ h) t e = grind (arith, ended-rolled_back h t)
ended-rolled_back (_ ∷ h) t e = ended-rolled_back h t e

-- what has committed is what has ended and hasn't rolled back
pub has_committed-ended : (h : History) → Legal h → (t : ℕ) → has_committed h t ≡ (has_ended h t && not (has_rolled_back h t))
has_committed-ended [] start t = grind arith
has_committed-ended (ended whose u true ∷ h) (next l fine) t = grind (arith, nat_tests, has_committed-ended h l t, ended-rolled_back h t, ender-unended h l whose u true fine)
has_committed-ended (ended whose u false ∷ h) (next l fine) t = grind (arith, nat_tests, has_committed-ended h l t, ender-unended h l whose u false fine)
has_committed-ended (_ ∷ h) (next l fine) t = has_committed-ended h l t
