-- The active batches of a database, which are in their subscriptions and are found by their ids.
use Rattle.std.proofs.Common.{◌≡◌, ℕ, ◌+◌, ◌≤◌, List, Bool, true, false, ◌==◌, ◌&&◌, Option, Some, None, option_map, option_and_then, bytes_eq, refl, sym, ◌∙◌, ap, arith, if◌then◌else◌}
use Rattle.std.proofs.lemmas.Bool.Decides.{nat_tests}
use Rattle.std.proofs.lemmas.Option.{same_Some}
use Rattle.sky_names.proofs.PlaceLemmas.{bytes_eq_refl, same_name}
use Rattle.sky_model.specs.History as model
use Rattle.sky_model.specs.Consumers.{of_another}
use Rattle.pgq_sub.specs.declared.sub.OpenBatch.{OpenBatch}
use Rattle.pgq_sub.specs.Views.{SubView, with_open, after_batch, finished}
use Rattle.pgq_queues.specs.declared.batch.Place.{Place}
use Rattle.pgq_queues.specs.Seen.{batch_of, batch_by}
use Rattle.pgq_queues.specs.Batches.{open_id, but_of, AreIndexed}

-- a consumer of a queue is the one of a number and a name
abbrev pub is_one : ℕ → List ℕ → ℕ → List ℕ → Bool
is_one i name n consumer = i == n && bytes_eq consumer name

pub same_parts : (i : ℕ) (name : List ℕ) (n : ℕ) (consumer : List ℕ) → is_one i name n consumer ≡ true → (i ≡ n) × (consumer ≡ name)
same_parts i name n consumer is = by (i == n) (bytes_eq consumer name) refl refl is
  where
    by : (a b : Bool) → (i == n) ≡ a → bytes_eq consumer name ≡ b → (a && b) ≡ true → (i ≡ n) × (consumer ≡ name)
    by true true one other e = (grind (arith, nat_tests), same_name consumer name other)
    by true false one other e = absurd (cc)
    by false b one other e = absurd (cc)

nat_same : (i : ℕ) → (i == i) ≡ true
nat_same i = grind (arith, nat_tests)

is_one-same : (i : ℕ) (name : List ℕ) (n : ℕ) (consumer : List ℕ) → i ≡ n → consumer ≡ name → is_one i name n consumer ≡ true
is_one-same i name n consumer one other =
    ap (λ m. i == m && bytes_eq consumer name) (sym one) ∙ ap (λ b. b && bytes_eq consumer name) (nat_same i)
    ∙ ap (λ m. bytes_eq m name) other ∙ bytes_eq_refl name

-- subscriptions of which one has changed
abbrev pub Changed : ℕ → List ℕ → (Option SubView → Option SubView) → (ℕ → List ℕ → Option SubView) → (ℕ → List ℕ → Option SubView) → Type 0
Changed i name f old new = (n : ℕ) (consumer : List ℕ) → new n consumer ≡ (if is_one i name n consumer then f (old n consumer) else old n consumer)

-- of them the one, and another
changed-here : (i : ℕ) (name : List ℕ) (f : Option SubView → Option SubView) (old new : ℕ → List ℕ → Option SubView) → Changed i name f old new
    → (n : ℕ) (consumer : List ℕ) → is_one i name n consumer ≡ true → new n consumer ≡ f (old i name)
changed-here i name f old new changed n consumer is =
    let parts = same_parts i name n consumer is in
    changed n consumer ∙ ap (λ b. if b then f (old n consumer) else old n consumer) is ∙ (λ j. f (old (sym parts.0 j) (parts.1 j)))

changed-there : (i : ℕ) (name : List ℕ) (f : Option SubView → Option SubView) (old new : ℕ → List ℕ → Option SubView) → Changed i name f old new
    → (n : ℕ) (consumer : List ℕ) → is_one i name n consumer ≡ false → new n consumer ≡ old n consumer
changed-there i name f old new changed n consumer is = changed n consumer ∙ ap (λ b. if b then f (old n consumer) else old n consumer) is

-- what is kept under another id than one that is gone
none-either : {A : Type 0} → (b : Bool) (o : Option A) → o ≡ None → (if b then None else o) ≡ None
none-either true o is = refl
none-either false o is = is

but_of-none : {A : Type 0} → (gone : Option ℕ) (id : ℕ) (o : Option A) → o ≡ None → but_of gone id o ≡ None
but_of-none None id o is = is
but_of-none (Some g) id o is = none-either (g == id) o is

but_of-here : {A : Type 0} → (id : ℕ) (o : Option A) → but_of (Some id) id o ≡ None
but_of-here id o = ap (λ b. if b then None else o) (nat_same id)

-- of what is left there was something, under another id
left-parts : {A : Type 0} → (gone : Option ℕ) (id : ℕ) (o : Option A) (x : A) → but_of gone id o ≡ Some x → (o ≡ Some x) × (gone ≡ Some id → ⊥)
left-parts None id o x is = (is, λ e. absurd (cc))
left-parts (Some g) id o x is = by (g == id) refl is
  where
    by : (b : Bool) → (g == id) ≡ b → (if b then None else o) ≡ Some x → (o ≡ Some x) × (Some g ≡ Some id → ⊥)
    by true e is = absurd (cc)
    by false e is = (is, λ one. let same : g ≡ id = same_Some g id one in let yes : (g == id) ≡ true = grind (arith, nat_tests) in absurd (cc))

left-same : {A : Type 0} → (gone : Option ℕ) (id : ℕ) (o : Option A) → (gone ≡ Some id → ⊥) → but_of gone id o ≡ o
left-same None id o apart = refl
left-same (Some g) id o apart = by (g == id) refl
  where
    by : (b : Bool) → (g == id) ≡ b → (if b then None else o) ≡ o
    by true e = let one : g ≡ id = grind (arith, nat_tests) in absurd (apart (ap Some one))
    by false e = refl

-- ---- a consumer has registered

pub indexed-come : (last i : ℕ) (name : List ℕ) (s : SubView) (old new : ℕ → List ℕ → Option SubView) (places : ℕ → Option Place) → old i name ≡ None → s.active ≡ None → Changed i name (λ _. Some s) old new
    → AreIndexed last old places → AreIndexed last new places
indexed-come last i name s old new places none free changed are = record {
  there = λ id p is. there id p is (is_one i name p.queue p.consumer) refl;
  each = λ n consumer id is. each n consumer id is (is_one i name n consumer) refl;
  past = are.past;
}
  where
    there : (id : ℕ) (p : Place) → places id ≡ Some p → (b : Bool) → is_one i name p.queue p.consumer ≡ b → open_id (new p.queue p.consumer) ≡ Some id
    there id p is true e =
        let parts = same_parts i name p.queue p.consumer e in
        let nothing : open_id (old p.queue p.consumer) ≡ None = (λ j. open_id (old (sym parts.0 j) (parts.1 j))) ∙ ap open_id none in
        absurd (let has = are.there id p is in cc)
    there id p is false e = ap open_id (changed-there i name (λ _. Some s) old new changed p.queue p.consumer e) ∙ are.there id p is

    each : (n : ℕ) (consumer : List ℕ) (id : ℕ) → open_id (new n consumer) ≡ Some id → (b : Bool) → is_one i name n consumer ≡ b → places id ≡ Some (record { queue = n; consumer = consumer })
    each n consumer id is true e =
        let nothing : open_id (new n consumer) ≡ None = ap open_id (changed-here i name (λ _. Some s) old new changed n consumer e) ∙ ap (option_map OpenBatch.id) free in
        absurd (cc)
    each n consumer id is false e = are.each n consumer id (ap open_id (sym (changed-there i name (λ _. Some s) old new changed n consumer e)) ∙ is)

no-batch : (id : ℕ) (p : Place) (o : Option SubView) → open_id o ≡ None → option_and_then (batch_of id p) o ≡ None
no-batch id p None is = refl
no-batch id p (Some s) is = by s.active is
  where
    shows : OpenBatch → model.Batch
    shows batch = record { id = id; queue = p.queue; consumer = p.consumer; sub = s.id; prev = s.position; cur = batch.cur }

    by : (a : Option OpenBatch) → option_map OpenBatch.id a ≡ None → option_map shows a ≡ None
    by None e = refl
    by (Some b) e = absurd (cc)

pub batches-come : (i : ℕ) (name : List ℕ) (s : SubView) (old new : ℕ → List ℕ → Option SubView) (places : ℕ → Option Place) → old i name ≡ None → s.active ≡ None → Changed i name (λ _. Some s) old new
    → (id : ℕ) → batch_by new id (places id) ≡ batch_by old id (places id)
batches-come i name s old new places none free changed id = of id (places id)
  where
    by : (id : ℕ) (p : Place) (b : Bool) → is_one i name p.queue p.consumer ≡ b → option_and_then (batch_of id p) (new p.queue p.consumer) ≡ option_and_then (batch_of id p) (old p.queue p.consumer)
    by id p true e =
        let parts = same_parts i name p.queue p.consumer e in
        no-batch id p (new p.queue p.consumer) (ap open_id (changed-here i name (λ _. Some s) old new changed p.queue p.consumer e) ∙ ap (option_map OpenBatch.id) free)
        ∙ sym (no-batch id p (old p.queue p.consumer) ((λ k. open_id (old (sym parts.0 k) (parts.1 k))) ∙ ap open_id none))
    by id p false e = ap (option_and_then (batch_of id p)) (changed-there i name (λ _. Some s) old new changed p.queue p.consumer e)

    of : (id : ℕ) (o : Option Place) → batch_by new id o ≡ batch_by old id o
    of id None = refl
    of id (Some p) = by id p (is_one i name p.queue p.consumer) refl

-- ---- a consumer has given up its batch, or finished it

pub indexed-less : (last i : ℕ) (name : List ℕ) (f : Option SubView → Option SubView) (gone : Option ℕ) (old new : ℕ → List ℕ → Option SubView) (was places : ℕ → Option Place)
    → gone ≡ open_id (old i name) → open_id (f (old i name)) ≡ None → Changed i name f old new → ((id : ℕ) → places id ≡ but_of gone id (was id)) → AreIndexed last old was → AreIndexed last new places
indexed-less last i name f gone old new was places is none changed less are = record {
  there = λ id p at. there id p (left-parts gone id (was id) p (sym (less id) ∙ at)) (is_one i name p.queue p.consumer) refl;
  each = λ n consumer id at. each n consumer id at (is_one i name n consumer) refl;
  past = λ id p at. are.past id p (left-parts gone id (was id) p (sym (less id) ∙ at)).0;
}
  where
    there : (id : ℕ) (p : Place) → (was id ≡ Some p) × (gone ≡ Some id → ⊥) → (b : Bool) → is_one i name p.queue p.consumer ≡ b → open_id (new p.queue p.consumer) ≡ Some id
    there id p at true e =
        let parts = same_parts i name p.queue p.consumer e in
        absurd (at.1 (is ∙ (λ k. open_id (old (parts.0 k) (sym parts.1 k))) ∙ are.there id p at.0))
    there id p at false e = ap open_id (changed-there i name f old new changed p.queue p.consumer e) ∙ are.there id p at.0

    each : (n : ℕ) (consumer : List ℕ) (id : ℕ) → open_id (new n consumer) ≡ Some id → (b : Bool) → is_one i name n consumer ≡ b → places id ≡ Some (record { queue = n; consumer = consumer })
    each n consumer id at true e =
        let nothing : open_id (new n consumer) ≡ None = ap open_id (changed-here i name f old new changed n consumer e) ∙ none in
        absurd (cc)
    each n consumer id at false e =
        let had = are.each n consumer id (ap open_id (sym (changed-there i name f old new changed n consumer e)) ∙ at) in
        less id
        ∙ left-same gone id (was id) (λ one.
        let here : Some (record { queue = i; consumer = name }) ≡ Some (record { queue = n; consumer = consumer }) = sym (are.each i name id (sym is ∙ one)) ∙ had in
        let alike : record { queue = i; consumer = name } ≡ record { queue = n; consumer = consumer } = same_Some _ _ here in
        let yes : is_one i name n consumer ≡ true = is_one-same i name n consumer (ap Place.queue alike) (sym (ap Place.consumer alike)) in
        absurd (cc))
        ∙ had

-- its batch alone isn't shown any more
pub batches-less : (last i : ℕ) (name : List ℕ) (f : Option SubView → Option SubView) (gone : Option ℕ) (old new : ℕ → List ℕ → Option SubView) (was places : ℕ → Option Place)
    → gone ≡ open_id (old i name) → Changed i name f old new → ((id : ℕ) → places id ≡ but_of gone id (was id)) → AreIndexed last old was
    → (id : ℕ) → batch_by new id (places id) ≡ but_of gone id (batch_by old id (was id))
batches-less last i name f gone old new was places is changed less are id = ap (batch_by new id) (less id) ∙ of (was id) refl
  where
    outside : (p : Place) → new p.queue p.consumer ≡ old p.queue p.consumer → (g : Option ℕ) → batch_by new id (but_of g id (Some p)) ≡ but_of g id (batch_by old id (Some p))
    outside p same None = ap (option_and_then (batch_of id p)) same
    outside p same (Some g) = by (g == id)
      where
        by : (b : Bool) → batch_by new id (if b then None else Some p) ≡ (if b then None else batch_by old id (Some p))
        by true = refl
        by false = ap (option_and_then (batch_of id p)) same

    at : (p : Place) → was id ≡ Some p → (b : Bool) → is_one i name p.queue p.consumer ≡ b → batch_by new id (but_of gone id (Some p)) ≡ but_of gone id (batch_by old id (Some p))
    at p there true e =
        let parts = same_parts i name p.queue p.consumer e in
        let one : gone ≡ Some id = is ∙ (λ k. open_id (old (parts.0 k) (sym parts.1 k))) ∙ are.there id p there in
        ap (λ g. batch_by new id (but_of g id (Some p))) one ∙ ap (batch_by new id) (but_of-here id (Some p))
        ∙ sym (ap (λ g. but_of g id (batch_by old id (Some p))) one ∙ but_of-here id (batch_by old id (Some p)))
    at p there false e = outside p (changed-there i name f old new changed p.queue p.consumer e) gone

    of : (o : Option Place) → was id ≡ o → batch_by new id (but_of gone id o) ≡ but_of gone id (batch_by old id o)
    of None e = ap (batch_by new id) (but_of-none gone id None refl) ∙ sym (but_of-none gone id (batch_by old id None) refl)
    of (Some p) e = at p e (is_one i name p.queue p.consumer) refl

-- a batch that is shown is of the place where it is
batch-place : (i : ℕ) (name : List ℕ) (id : ℕ) (p : Place) (o : Option SubView)
    → of_another i name (option_and_then (batch_of id p) o) ≡ (if is_one i name p.queue p.consumer then None else option_and_then (batch_of id p) o)
batch-place i name id p None = sym (none-either (is_one i name p.queue p.consumer) None refl)
batch-place i name id p (Some s) = by s.active
  where
    shows : OpenBatch → model.Batch
    shows batch = record { id = id; queue = p.queue; consumer = p.consumer; sub = s.id; prev = s.position; cur = batch.cur }

    by : (a : Option OpenBatch) → of_another i name (option_map shows a) ≡ (if is_one i name p.queue p.consumer then None else option_map shows a)
    by None = sym (none-either (is_one i name p.queue p.consumer) None refl)
    by (Some b) = refl

-- it is the one of the id that is gone
pub batches-another : (last i : ℕ) (name : List ℕ) (gone : Option ℕ) (old : ℕ → List ℕ → Option SubView) (was : ℕ → Option Place) → gone ≡ open_id (old i name) → AreIndexed last old was
    → (id : ℕ) → but_of gone id (batch_by old id (was id)) ≡ of_another i name (batch_by old id (was id))
batches-another last i name gone old was is are id = of (was id) refl
  where
    at : (p : Place) → was id ≡ Some p → (b : Bool) → is_one i name p.queue p.consumer ≡ b → but_of gone id (batch_by old id (Some p)) ≡ (if b then None else batch_by old id (Some p))
    at p there true e =
        let parts = same_parts i name p.queue p.consumer e in
        let one : gone ≡ Some id = is ∙ (λ k. open_id (old (parts.0 k) (sym parts.1 k))) ∙ are.there id p there in
        ap (λ g. but_of g id (batch_by old id (Some p))) one ∙ but_of-here id (batch_by old id (Some p))
    at p there false e =
        left-same gone id (batch_by old id (Some p)) (λ one.
        let here : Some (record { queue = i; consumer = name }) ≡ Some p = sym (are.each i name id (sym is ∙ one)) ∙ there in
        let alike : record { queue = i; consumer = name } ≡ p = same_Some _ _ here in
        let yes : is_one i name p.queue p.consumer ≡ true = is_one-same i name p.queue p.consumer (ap Place.queue alike) (sym (ap Place.consumer alike)) in
        absurd (cc))

    of : (o : Option Place) → was id ≡ o → but_of gone id (batch_by old id o) ≡ of_another i name (batch_by old id o)
    of None e = but_of-none gone id (batch_by old id None) refl
    of (Some p) e = at p e (is_one i name p.queue p.consumer) refl ∙ sym (batch-place i name id p (old p.queue p.consumer))

-- a batch that is finished was its consumer's
pub finished-none : (o : Option SubView) → open_id (option_map finished o) ≡ None
finished-none None = refl
finished-none (Some s) = by s.active refl
  where
    by : (a : Option OpenBatch) → s.active ≡ a → option_map OpenBatch.id (after_batch s a).active ≡ None
    by None e = ap (option_map OpenBatch.id) e
    by (Some b) e = refl

-- ---- a consumer has a new batch

abbrev pub and_at : {A : Type 0} → ℕ → A → ℕ → Option A → Option A
and_at new x id o = if new == id then Some x else o

pub indexed-more : (last cur : ℕ) (p : Place) (s : SubView) (old new : ℕ → List ℕ → Option SubView) (was places : ℕ → Option Place) → old p.queue p.consumer ≡ Some s → s.active ≡ None
    → Changed p.queue p.consumer (option_map (with_open (record { id = last + 1; cur = cur }))) old new → ((id : ℕ) → places id ≡ and_at (last + 1) p id (was id)) → AreIndexed last old was → AreIndexed (last + 1) new places
indexed-more last cur p s old new was places has free changed more are = record {
  there = λ id q at. there id q (last + 1 == id) refl (sym (more id) ∙ at);
  each = λ n consumer id at. each n consumer id at (is_one p.queue p.consumer n consumer) refl;
  past = λ id q at. past id q (last + 1 == id) refl (sym (more id) ∙ at);
}
  where
    change : Option SubView → Option SubView
    change = option_map (with_open (record { id = last + 1; cur = cur }))

    now : open_id (change (old p.queue p.consumer)) ≡ Some (last + 1)
    now = ap (λ o. open_id (change o)) has

    nothing : (n : ℕ) (consumer : List ℕ) → is_one p.queue p.consumer n consumer ≡ true → open_id (old n consumer) ≡ None
    nothing n consumer e =
        let parts = same_parts p.queue p.consumer n consumer e in
        (λ k. open_id (old (sym parts.0 k) (parts.1 k))) ∙ ap open_id has ∙ ap (option_map OpenBatch.id) free

    other : (id : ℕ) (q : Place) → was id ≡ Some q → (b : Bool) → is_one p.queue p.consumer q.queue q.consumer ≡ b → open_id (new q.queue q.consumer) ≡ Some id
    other id q at true e = let none = nothing q.queue q.consumer e in absurd (let has = are.there id q at in cc)
    other id q at false e = ap open_id (changed-there p.queue p.consumer change old new changed q.queue q.consumer e) ∙ are.there id q at

    there : (id : ℕ) (q : Place) (b : Bool) → (last + 1 == id) ≡ b → (if b then Some p else was id) ≡ Some q → open_id (new q.queue q.consumer) ≡ Some id
    there id q true e at =
        let one : last + 1 ≡ id = grind (arith, nat_tests) in
        let here : p ≡ q = same_Some p q at in
        let is : is_one p.queue p.consumer q.queue q.consumer ≡ true = is_one-same p.queue p.consumer q.queue q.consumer (ap Place.queue here) (sym (ap Place.consumer here)) in
        ap open_id (changed-here p.queue p.consumer change old new changed q.queue q.consumer is) ∙ now ∙ ap Some one
    there id q false e at = other id q at (is_one p.queue p.consumer q.queue q.consumer) refl

    each : (n : ℕ) (consumer : List ℕ) (id : ℕ) → open_id (new n consumer) ≡ Some id → (b : Bool) → is_one p.queue p.consumer n consumer ≡ b → places id ≡ Some (record { queue = n; consumer = consumer })
    each n consumer id at true e =
        let parts = same_parts p.queue p.consumer n consumer e in
        let one : last + 1 ≡ id = same_Some (last + 1) id (sym (ap open_id (changed-here p.queue p.consumer change old new changed n consumer e) ∙ now) ∙ at) in
        let yes : (last + 1 == id) ≡ true = grind (arith, nat_tests) in
        more id ∙ ap (λ b. if b then Some p else was id) yes ∙ (λ k. Some (record { queue = parts.0 k; consumer = sym parts.1 k }))
    each n consumer id at false e =
        let had = are.each n consumer id (ap open_id (sym (changed-there p.queue p.consumer change old new changed n consumer e)) ∙ at) in
        let low = are.past id (record { queue = n; consumer = consumer }) had in
        let apart : (last + 1 == id) ≡ false = grind (arith, nat_tests, low) in
        more id ∙ ap (λ b. if b then Some p else was id) apart ∙ had

    past : (id : ℕ) (q : Place) (b : Bool) → (last + 1 == id) ≡ b → (if b then Some p else was id) ≡ Some q → id ≤ last + 1
    past id q true e at = grind (arith, nat_tests)
    past id q false e at = let low = are.past id q at in omega (arith, low)

-- and it is shown
pub batches-more : (last cur : ℕ) (p : Place) (s : SubView) (old new : ℕ → List ℕ → Option SubView) (was places : ℕ → Option Place) → old p.queue p.consumer ≡ Some s → s.active ≡ None
    → Changed p.queue p.consumer (option_map (with_open (record { id = last + 1; cur = cur }))) old new → ((id : ℕ) → places id ≡ and_at (last + 1) p id (was id)) → AreIndexed last old was
    → (id : ℕ) → batch_by new id (places id)
    ≡ and_at (last + 1) (record { id = last + 1; queue = p.queue; consumer = p.consumer; sub = s.id; prev = s.position; cur = cur }) id (batch_by old id (was id))
batches-more last cur p s old new was places has free changed more are id = ap (batch_by new id) (more id) ∙ by (last + 1 == id) refl
  where
    change : Option SubView → Option SubView
    change = option_map (with_open (record { id = last + 1; cur = cur }))

    other : (q : Place) → was id ≡ Some q → (b : Bool) → is_one p.queue p.consumer q.queue q.consumer ≡ b → option_and_then (batch_of id q) (new q.queue q.consumer) ≡ option_and_then (batch_of id q) (old q.queue q.consumer)
    other q at true e =
        let parts = same_parts p.queue p.consumer q.queue q.consumer e in
        let none : open_id (old q.queue q.consumer) ≡ None = (λ k. open_id (old (sym parts.0 k) (parts.1 k))) ∙ ap open_id has ∙ ap (option_map OpenBatch.id) free in
        absurd (let has = are.there id q at in cc)
    other q at false e = ap (option_and_then (batch_of id q)) (changed-there p.queue p.consumer change old new changed q.queue q.consumer e)

    same : (o : Option Place) → was id ≡ o → batch_by new id o ≡ batch_by old id o
    same None e = refl
    same (Some q) e = other q e (is_one p.queue p.consumer q.queue q.consumer) refl

    by : (b : Bool) → (last + 1 == id) ≡ b → batch_by new id (if b then Some p else was id)
        ≡ (if b then Some (record { id = last + 1; queue = p.queue; consumer = p.consumer; sub = s.id; prev = s.position; cur = cur }) else batch_by old id (was id))
    by true e =
        let one : last + 1 ≡ id = grind (arith, nat_tests) in
        ap (option_and_then (batch_of id p)) (changed-here p.queue p.consumer change old new changed p.queue p.consumer (is_one-same p.queue p.consumer p.queue p.consumer refl refl) ∙ ap change has)
        ∙ ap (λ k. Some (record { id = k; queue = p.queue; consumer = p.consumer; sub = s.id; prev = s.position; cur = cur })) (sym one)
    by false e = same (was id) refl
