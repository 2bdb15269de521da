-- What sessions and workers own stays so, mark by mark.
use Rattle.std.proofs.Common.{◌≡◌, ℕ, ◌<◌, ◌≤◌, List, [], ◌∷◌, ◌++◌, Bool, true, false, not, is_none, ◌||◌, ◌&&◌, ◌==◌, filter, Some, None, unwrap_or, refl, sym, ◌∙◌, ap, subst, arith, if◌then◌else◌}
use Rattle.std.proofs.lemmas.Bool.{false_from_ne_true}
use Rattle.std.proofs.lemmas.Bool.Decides.{nat_tests}
use Rattle.std.proofs.lemmas.List.Elements.{All-nil, All-cons, All-head, All-tail, All-append, All-filter, All-weaker}
use Rattle.sky_keys.specs.Waits.{Holders, Waiting, without, ready}
use Rattle.sky_txid.specs.Ids.{contains}
use Rattle.sky_txid.proofs.Rising.{contains-push, contains-without}
use Rattle.sky_model.specs.Sessions.{Session}
use Rattle.sky_model.specs.State.{changed_at, with_txid}
use Rattle.sky_state.specs.Owned.{AreOwned, AreWithin}

some-is : (m n : ℕ) → Some m ≡ Some n → m ≡ n
some-is m n e = ap (λ o. unwrap_or o m) e

-- a session whose id stays
pub owned-change : {workers : List ℕ} (old new : ℕ → Session) (running : List ℕ) (who : ℕ) (f : Session → Session) → new ≡ changed_at who f old
    → ((s : Session) → (f s).txid ≡ s.txid) → AreOwned old running workers → AreOwned new running workers
owned-change {workers} old new running who f is same owned = subst (λ s. AreOwned s running workers) (sym is) (record {
  runs = λ n t e. owned.runs n t (sym (id n (who == n)) ∙ e);
  once = λ v w t ev ew. owned.once v w t (sym (id v (who == v)) ∙ ev) (sym (id w (who == w)) ∙ ew);
  works = owned.works;
  nobodys = λ n t e. owned.nobodys n t (sym (id n (who == n)) ∙ e);
})
  where
    id : (n : ℕ) (b : Bool) → (if b then f (old n) else old n).txid ≡ (old n).txid
    id n true = same (old n)
    id n false = refl

-- an id that doesn't run is no worker's
new-unlisted : (workers running : List ℕ) (t : ℕ) → contains t running ≡ false → (contains t workers ≡ true → contains t running ≡ true) → contains t workers ≡ false
new-unlisted workers running t fresh works = false_from_ne_true (contains t workers) (λ is. let runs : contains t running ≡ true = works is in absurd (cc))

-- a new id is its session's
pub owned-begin : {workers : List ℕ} (old new : ℕ → Session) (before after : List ℕ) (who t : ℕ) → new ≡ changed_at who (with_txid (Some t)) old → after ≡ before ++ t ∷ [] → contains t before ≡ false
    → AreOwned old before workers → AreOwned new after workers
owned-begin {workers} old new before after who t is more fresh owned = subst (λ s. AreOwned s after workers) (sym is) (subst (λ ids. AreOwned (changed_at who (with_txid (Some t)) old) ids workers) (sym more) (record {
  runs = λ n u e. runs n u (who == n) e;
  once = λ v w u ev ew. once v w u (who == v) (who == w) refl refl ev ew;
  works = λ u e. contains-push u t before ∙ ap (λ b. b || u == t) (owned.works u e);
  nobodys = λ n u e. nobodys n u (who == n) e;
}))
  where
    runs : (n u : ℕ) (b : Bool) → (if b then with_txid (Some t) (old n) else old n).txid ≡ Some u → contains u (before ++ t ∷ []) ≡ true
    runs n u true e = let one : t ≡ u = some-is t u e in contains-push u t before ∙ grind (arith, nat_tests)
    runs n u false e = contains-push u t before ∙ ap (λ b. b || u == t) (owned.runs n u e)

    once : (v w u : ℕ) (b c : Bool) → (who == v) ≡ b → (who == w) ≡ c → (if b then with_txid (Some t) (old v) else old v).txid ≡ Some u → (if c then with_txid (Some t) (old w) else old w).txid ≡ Some u → v ≡ w
    once v w u true true isv isw ev ew = grind (arith, nat_tests)
    once v w u true false isv isw ev ew = let one : t ≡ u = some-is t u ev in let run : contains u before ≡ true = owned.runs w u ew in let not_run : contains u before ≡ false = subst (λ m. contains m before ≡ false) one fresh in absurd (cc)
    once v w u false true isv isw ev ew = let one : t ≡ u = some-is t u ew in let run : contains u before ≡ true = owned.runs v u ev in let not_run : contains u before ≡ false = subst (λ m. contains m before ≡ false) one fresh in absurd (cc)
    once v w u false false isv isw ev ew = owned.once v w u ev ew

    nobodys : (n u : ℕ) (b : Bool) → (if b then with_txid (Some t) (old n) else old n).txid ≡ Some u → contains u workers ≡ false
    nobodys n u true e = new-unlisted workers before u (subst (λ m. contains m before ≡ false) (some-is t u e) fresh) (owned.works u)
    nobodys n u false e = owned.nobodys n u e

-- another id than the one that has ended runs as before
still-runs : (running : List ℕ) (u t : ℕ) → contains u running ≡ true → (u ≡ t → ⊥) → contains u (filter (λ m. not (m == t)) running) ≡ true
still-runs running u t runs apart = contains-without u t running ∙ ap (λ b. b && not (u == t)) runs ∙ by (u == t) refl
  where
    by : (b : Bool) → (u == t) ≡ b → (true && not b) ≡ true
    by true e = absurd (apart (grind (arith, nat_tests)))
    by false e = refl

-- an id that has ended is no session's
pub owned-end : {workers : List ℕ} (old new : ℕ → Session) (before after : List ℕ) (who t : ℕ) → new ≡ changed_at who (with_txid None) old → after ≡ filter (λ u. not (u == t)) before → (old who).txid ≡ Some t
    → AreOwned old before workers → AreOwned new after workers
owned-end {workers} old new before after who t is less own owned = subst (λ s. AreOwned s after workers) (sym is) (subst (λ ids. AreOwned (changed_at who (with_txid None) old) ids workers) (sym less) (record {
  runs = λ n u e. runs n u (who == n) refl e;
  once = λ v w u ev ew. once v w u (who == v) (who == w) ev ew;
  works = λ u e. still-runs before u t (owned.works u e) (λ same. let mine : contains t workers ≡ false = owned.nobodys who t own in let listed : contains t workers ≡ true = subst (λ m. contains m workers ≡ true) same e in absurd (cc));
  nobodys = λ n u e. nobodys n u (who == n) e;
}))
  where
    other : (n u : ℕ) → (who == n) ≡ false → (old n).txid ≡ Some u → (b : Bool) → (u == t) ≡ b → (true && not b) ≡ true
    other n u apart e true same =
        let one : u ≡ t = grind (arith, nat_tests) in
        let same_session : n ≡ who = owned.once n who t (e ∙ ap Some one) own in
        absurd (grind (arith, nat_tests))
    other n u apart e false same = refl

    runs : (n u : ℕ) (b : Bool) → (who == n) ≡ b → (if b then with_txid None (old n) else old n).txid ≡ Some u → contains u (filter (λ m. not (m == t)) before) ≡ true
    runs n u true apart e = absurd (cc)
    runs n u false apart e = contains-without u t before ∙ ap (λ b. b && not (u == t)) (owned.runs n u e) ∙ other n u apart e (u == t) refl

    once : (v w u : ℕ) (b c : Bool) → (if b then with_txid None (old v) else old v).txid ≡ Some u → (if c then with_txid None (old w) else old w).txid ≡ Some u → v ≡ w
    once v w u true c ev ew = absurd (cc)
    once v w u false true ev ew = absurd (cc)
    once v w u false false ev ew = owned.once v w u ev ew

    nobodys : (n u : ℕ) (b : Bool) → (if b then with_txid None (old n) else old n).txid ≡ Some u → contains u workers ≡ false
    nobodys n u true e = absurd (cc)
    nobodys n u false e = owned.nobodys n u e

-- nothing has changed
pub owned-kept : {workers : List ℕ} (old new : ℕ → Session) (running : List ℕ) → new ≡ old → AreOwned old running workers → AreOwned new running workers
owned-kept {workers} old new running is owned = subst (λ s. AreOwned s running workers) (sym is) owned

-- a new id is a worker's
pub owned-work : (session : ℕ → Session) (before after workers more : List ℕ) (t : ℕ) → after ≡ before ++ t ∷ [] → more ≡ workers ++ t ∷ [] → contains t before ≡ false
    → AreOwned session before workers → AreOwned session after more
owned-work session before after workers more t is now fresh owned = subst (λ ids. AreOwned session ids more) (sym is) (subst (AreOwned session (before ++ t ∷ [])) (sym now) (record {
  runs = λ n u e. contains-push u t before ∙ ap (λ b. b || u == t) (owned.runs n u e);
  once = owned.once;
  works = λ u e. grind (arith, contains-push u t before, contains-push u t workers, owned.works u);
  nobodys = λ n u e. contains-push u t workers ∙ ap (λ b. b || u == t) (owned.nobodys n u e) ∙ other n u e (u == t) refl;
}))
  where
    other : (n u : ℕ) → (session n).txid ≡ Some u → (b : Bool) → (u == t) ≡ b → (false || b) ≡ false
    other n u e true same =
        let one : u ≡ t = grind (arith, nat_tests) in
        let run : contains t before ≡ true = subst (λ m. contains m before ≡ true) one (owned.runs n u e) in
        absurd (cc)
    other n u e false same = refl

-- one that has ended is no worker's
pub owned-work_end : (session : ℕ → Session) (before after workers less : List ℕ) (t : ℕ) → after ≡ filter (λ u. not (u == t)) before → less ≡ filter (λ u. not (u == t)) workers
    → contains t workers ≡ true → AreOwned session before workers → AreOwned session after less
owned-work_end session before after workers less t is now listed owned = subst (λ ids. AreOwned session ids less) (sym is) (subst (AreOwned session (filter (λ u. not (u == t)) before)) (sym now) (record {
  runs = λ n u e. still-runs before u t (owned.runs n u e) (λ same.
      let mine : contains u workers ≡ false = owned.nobodys n u e in let is_listed : contains u workers ≡ true = subst (λ m. contains m workers ≡ true) (sym same) listed in absurd (cc));
  once = owned.once;
  works = λ u e. contains-without u t before ∙ both u (contains u workers) (u == t) refl (sym (contains-without u t workers) ∙ e);
  nobodys = λ n u e. contains-without u t workers ∙ ap (λ b. b && not (u == t)) (owned.nobodys n u e);
}))
  where
    both : (u : ℕ) (b c : Bool) → contains u workers ≡ b → (b && not c) ≡ true → (contains u before && not c) ≡ true
    both u true false is e = ap (λ b. b && true) (owned.works u is)
    both u true true is e = absurd (cc)
    both u false c is e = absurd (cc)

abbrev IsWithin : ℕ → Waiting → Type 0
IsWithin tables w = w.table < tables

-- the waiting sessions' tables exist, if neither has changed
pub within-kept : (tables more : ℕ) (ws vs : List Waiting) → more ≡ tables → vs ≡ ws → AreWithin tables ws → AreWithin more vs
within-kept tables more ws vs same also within = subst (λ n. AreWithin n vs) (sym same) (subst (AreWithin tables) (sym also) within)

-- when there are more tables
pub within-more : (tables more : ℕ) (ws : List Waiting) → tables ≤ more → AreWithin tables ws → AreWithin more ws
within-more tables more ws le within = All-weaker (IsWithin tables) (IsWithin more) (λ w lt. omega (arith, lt, le)) ws within

-- when one more waits
pub within-push : (tables : ℕ) (ws : List Waiting) (w : Waiting) → w.table < tables → AreWithin tables ws → AreWithin tables (ws ++ w ∷ [])
within-push tables ws w lt within = All-append (IsWithin tables) ws (w ∷ []) within (All-cons (IsWithin tables) w [] lt (All-nil (IsWithin tables)))

-- when a session no longer waits
pub within-without : (tables who : ℕ) (ws : List Waiting) → AreWithin tables ws → AreWithin tables (without who ws)
within-without tables who ws within = All-filter (λ (w : Waiting). not (w.who == who)) (IsWithin tables) ws within

-- the one that is ready to resume is among them
pub within-ready : (tables : ℕ) (holder : Holders) (ws : List Waiting) (w : Waiting) → AreWithin tables ws → ready holder ws ≡ Some w → w.table < tables
within-ready tables holder [] w within e = absurd (cc)
within-ready tables holder (x ∷ ws) w within e = of (is_none (holder x.table x.key)) e (within-ready tables holder ws w (All-tail (IsWithin tables) x ws within))
  where
    of : (b : Bool) → (if b then Some x else ready holder ws) ≡ Some w → (ready holder ws ≡ Some w → w.table < tables) → w.table < tables
    of true e ih = (let one : x ≡ w = cc in subst (IsWithin tables) one (All-head (IsWithin tables) x ws within))
    of false e ih = ih e
