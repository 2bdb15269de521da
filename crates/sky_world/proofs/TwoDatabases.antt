-- A move of a worker changes two databases, and what the worker has in hand.
use Rattle.std.proofs.Common.{◌≡◌, ℕ, ◌<◌, ◌==◌, List, [], ◌∷◌, ◌++◌, Bool, true, false, map, length, get_or, slice_set, take, drop, All, Option, refl, sym, ◌∙◌, ap, subst, arith, if◌then◌else◌}
use Rattle.std.proofs.lemmas.Bool.Decides.{nat_tests}
use Rattle.std.proofs.lemmas.List.{length-set, map-set, get_or-map, length-map}
use Rattle.std.proofs.lemmas.List.Elements.{All-set, All-get_or}
use Rattle.std.proofs.Math.Seq.{take-append_seam}
use Rattle.sky_model.specs.Hands.{BatchHand}
use Rattle.sky_model.specs.History.{Mark, Fact, within}
use Rattle.sky_model.specs.State.{Database, after_marks, changed_at}
use Rattle.sky_model.specs.StepNode.{NodeCall}
use Rattle.sky_model.specs.WorkerMoves.{Move}
use Rattle.sky_model.specs.World.{World, after_fact, after_facts}
use Rattle.sky_model.specs.WorkersOfWorld.{calls_facts, move_facts}
use Rattle.londiste_batches.specs.Moved.{after_calls}
use Rattle.sky_databases.specs.Databases.{with_stores}
use Rattle.sky_databases.specs.Hands.{HandAt, hand_at, batch_at}
use Rattle.sky_world.specs.Views.{StateView}
use Rattle.sky_world.specs.Seen.{seen_state, no_database}
use Rattle.sky_world.specs.Whole.{AreWhole}
use Rattle.sky_world.specs.Nodes.{Happened}
use Rattle.sky_world.proofs.Worlds.{get_or-changed, after_facts-within, after_facts-append}
use Rattle.sky_world.proofs.CallsInTurn.{marks_of_all, after-all, facts-all, unchanged-there}

-- ---- the facts of a move

moved-facts : {H : Type 0} (w : World) (p d : ℕ) (handed : Option H → Fact) (move : Move H) → (p == d) ≡ false
    → move_facts w p d handed move ≡ map (within p) (marks_of_all (w.database p) move.provider) ++ (map (within d) (marks_of_all (w.database d) move.replica) ++ handed move.hand ∷ [])
moved-facts w p d handed move apart =
    ap (λ there. there ++ (calls_facts (after_facts w there) d move.replica ++ handed move.hand ∷ [])) (facts-all w p move.provider)
    ∙ ap (λ here. map (within p) marks ++ (here ++ handed move.hand ∷ []))
    (facts-all (after_facts w (map (within p) marks)) d move.replica ∙ ap (λ x. map (within d) (marks_of_all x move.replica)) (unchanged-there w p d marks apart))
  where
    marks : List Mark
    marks = marks_of_all (w.database p) move.provider

after-moved : (w : World) (p d : ℕ) (ps ds : List Mark) (last : Fact)
    → after_facts w (map (within p) ps ++ (map (within d) ds ++ last ∷ []))
    ≡ after_fact (record w { database = changed_at d (λ x. after_marks x ds) (changed_at p (λ x. after_marks x ps) w.database) }) last
after-moved w p d ps ds last =
    after_facts-append w (map (within p) ps) (map (within d) ds ++ last ∷ [])
    ∙ ap (λ x. after_facts x (map (within d) ds ++ last ∷ [])) (after_facts-within w p ps)
    ∙ after_facts-append v (map (within d) ds) (last ∷ [])
    ∙ ap (λ x. after_facts x (last ∷ [])) (after_facts-within v d ds)
  where
    v : World
    v = record w { database = changed_at p (λ x. after_marks x ps) w.database }

module _ {D : Type 0} where
  -- ---- the databases that are kept

  -- both of them changed
  abbrev pub with_both : List D → (p d : ℕ) → (p_new d_new : D) → List D
  with_both stores p d p_new d_new = slice_set (slice_set stores p p_new) d d_new

module _ {D : Type 0} (seen : D → Database) where
  read-both : (stores : List D) (p d n : ℕ) (p_new d_new : D) → p < length stores → d < length stores
      → get_or (map seen (with_both stores p d p_new d_new)) n no_database ≡ (if d == n then seen d_new else if p == n then seen p_new else get_or (map seen stores) n no_database)
  read-both stores p d n p_new d_new p_lt d_lt =
      ap (λ xs. get_or xs n no_database) (map-set seen (slice_set stores p p_new) d d_new)
      ∙ get_or-changed (map seen (slice_set stores p p_new)) d n (seen d_new) no_database (omega (arith, d_lt, length-set stores p p_new, length-map (slice_set stores p p_new) seen))
      ∙ ap (λ x. if d == n then seen d_new else x) (ap (λ xs. get_or xs n no_database) (map-set seen stores p p_new)
      ∙ get_or-changed (map seen stores) p n (seen p_new) no_database (omega (arith, p_lt, length-map stores seen)))

module _ {D : Type 0} (seen : D → Database) where
  -- one that was there
  pub is-there : (stores : List D) (p : ℕ) (old : D) → p < length stores → old ≡ get_or stores p old → get_or (map seen stores) p no_database ≡ seen old
  is-there stores p old lt at = get_or-map seen stores p old no_database lt ∙ ap seen (sym at)

module _ {D : Type 0} where
  -- as the code keeps them, which was lent all of them
  pub both-kept-as : (v : StateView D) (stores : List D) (p d : ℕ) (p_new d_new : D) → stores ≡ v.databases.values
      → with_stores v.databases (with_both stores p d p_new d_new) ≡ record v.databases { values = with_both v.databases.values p d p_new d_new }
  both-kept-as v stores p d p_new d_new all =
      ap (λ xs. with_stores v.databases (with_both xs p d p_new d_new)) all
      ∙ ap (λ count. record v.databases { values = take count (new ++ drop (length new) v.databases.values) }) (sym len)
      ∙ ap (λ taken. record v.databases { values = taken }) (take-append_seam new (drop (length new) v.databases.values))
    where
      new : List D
      new = with_both v.databases.values p d p_new d_new

      len : length new ≡ length v.databases.values
      len = length-set (slice_set v.databases.values p p_new) d d_new ∙ length-set v.databases.values p p_new

  -- what holds of each still does
  pub both-kept : (P : D → Type 0) (stores : List D) (p d : ℕ) (p_old p_new d_old d_new : D) → p < length stores → d < length stores
      → p_old ≡ get_or stores p p_old → d_old ≡ get_or stores d d_old → (P p_old → P p_new) → (P d_old → P d_new) → All P stores → All P (with_both stores p d p_new d_new)
  both-kept P stores p d p_old p_new d_old d_new p_lt d_lt p_at d_at p_keeps d_keeps all =
      All-set P (slice_set stores p p_new) d d_new (d_keeps (there d d_old d_lt d_at)) (All-set P stores p p_new (p_keeps (there p p_old p_lt p_at)) all)
    where
      there : (n : ℕ) (old : D) → n < length stores → old ≡ get_or stores n old → P old
      there n old lt at = subst P (sym at) (All-get_or P stores n old lt all)

module _ {D : Type 0} (seen : D → Database) where
  -- ---- what the world shows then

  -- what is kept as in hand is what a fact puts there
  abbrev pub PutInHand : StateView D → List HandAt → List (ℕ × BatchHand) → Fact → Type 0
  PutInHand v hands batches last =
      (stores : ℕ → Database) → record (seen_state seen v) { database = stores; hands = hand_at hands; batches = batch_at batches } ≡ after_fact (record (seen_state seen v) { database = stores }) last

module _ {D : Type 0} (seen : D → Database) where
  shows-both : (v : StateView D) (p d : ℕ) (last : Fact) (ps ds : List Mark) (p_old p_new d_old d_new : D) (hands : List HandAt) (batches : List (ℕ × BatchHand)) → p < length v.databases.values
      → d < length v.databases.values → (p == d) ≡ false → p_old ≡ get_or v.databases.values p p_old → d_old ≡ get_or v.databases.values d d_old
      → seen p_new ≡ after_marks (seen p_old) ps → seen d_new ≡ after_marks (seen d_old) ds → PutInHand seen v hands batches last
      → seen_state seen (record v { databases = record v.databases { values = with_both v.databases.values p d p_new d_new }; hands = hands; batches = batches })
      ≡ after_fact (record (seen_state seen v) { database = changed_at d (λ x. after_marks x ds) (changed_at p (λ x. after_marks x ps) (seen_state seen v).database) }) last
  shows-both v p d last ps ds p_old p_new d_old d_new hands batches p_lt d_lt apart p_at d_at p_is d_is put =
      (λ i. record (seen_state seen v) {
        database = λ n. (read-both seen v.databases.values p d n p_new d_new p_lt d_lt ∙ by n (p == n) (d == n) refl refl) i;
        hands = hand_at hands;
        batches = batch_at batches;
      })
      ∙ put (changed_at d (λ x. after_marks x ds) (changed_at p (λ x. after_marks x ps) (seen_state seen v).database))
    where
      stores : List D
      stores = v.databases.values

      shown : List Database
      shown = map seen stores

      -- one of them, after marks in it
      after : (k n : ℕ) (old new : D) (marks : List Mark) → k < length stores → old ≡ get_or stores k old → (k == n) ≡ true → seen new ≡ after_marks (seen old) marks
          → seen new ≡ after_marks (get_or shown n no_database) marks
      after k n old new marks lt at one is =
          let same : k ≡ n = grind (arith, nat_tests, one) in
          is ∙ ap (λ x. after_marks x marks) (sym (is-there seen stores k old lt at)) ∙ ap (λ m. after_marks (get_or shown m no_database) marks) same

      by : (n : ℕ) (b c : Bool) → (p == n) ≡ b → (d == n) ≡ c → (if c then seen d_new else if b then seen p_new else get_or shown n no_database)
          ≡ (if c then after_marks (if b then after_marks (get_or shown n no_database) ps else get_or shown n no_database) ds else (if b then after_marks (get_or shown n no_database) ps else get_or shown n no_database))
      by n true true one also = absurd (let same : p ≡ n = grind (arith, nat_tests, one) in let other : d ≡ n = grind (arith, nat_tests, also) in grind (arith, nat_tests, apart, same, other))
      by n true false one also = after p n p_old p_new ps p_lt p_at one p_is
      by n false true one also = after d n d_old d_new ds d_lt d_at also d_is
      by n false false one also = refl

module _ {D : Type 0} {seen : D → Database} where
  pub moved-there : {H : Type 0} (v now : StateView D) (p d : ℕ) (handed : Option H → Fact) (move : Move H) (p_old p_new d_old d_new : D) (hands : List HandAt) (batches : List (ℕ × BatchHand)) → v ≡ now
      → p < length v.databases.values → d < length v.databases.values → (p == d) ≡ false → p_old ≡ get_or v.databases.values p p_old → d_old ≡ get_or v.databases.values d d_old
      → seen p_new ≡ after_calls (seen p_old) move.provider → seen d_new ≡ after_calls (seen d_old) move.replica → PutInHand seen v hands batches (handed move.hand)
      → AreWhole seen (length v.sessions.names) (with_both v.databases.values p d p_new d_new)
      → Happened seen now (record v { databases = record v.databases { values = with_both v.databases.values p d p_new d_new }; hands = hands; batches = batches }) (move_facts (seen_state seen now) p d handed move)
  moved-there v now p d handed move p_old p_new d_old d_new hands batches same p_lt d_lt apart p_at d_at p_is d_is put whole =
      subst (λ (w : StateView D). Happened seen w (record v { databases = record v.databases { values = with_both v.databases.values p d p_new d_new }; hands = hands; batches = batches }) (move_facts (seen_state seen w) p d handed move)) same (record {
        changed = shows-both seen v p d (handed move.hand) ps ds p_old p_new d_old d_new hands batches p_lt d_lt apart p_at d_at
            (marked p p_old p_new move.provider p_lt p_at p_is)
            (marked d d_old d_new move.replica d_lt d_at d_is)
            put
            ∙ sym (after-moved (seen_state seen v) p d ps ds (handed move.hand))
            ∙ ap (after_facts (seen_state seen v)) (sym (moved-facts (seen_state seen v) p d handed move apart));
        sessions = refl;
        databases = refl;
        whole = whole;
      })
    where
      stores : List D
      stores = v.databases.values

      ps : List Mark
      ps = marks_of_all ((seen_state seen v).database p) move.provider

      ds : List Mark
      ds = marks_of_all ((seen_state seen v).database d) move.replica

      -- calls leave these marks
      marked : (n : ℕ) (old new : D) (calls : List NodeCall) → n < length stores → old ≡ get_or stores n old → seen new ≡ after_calls (seen old) calls
          → seen new ≡ after_marks (seen old) (marks_of_all ((seen_state seen v).database n) calls)
      marked n old new calls lt at is =
          is ∙ after-all (seen old) calls ∙ ap (λ x. after_marks (seen old) (marks_of_all x calls)) (sym (is-there seen stores n old lt at))
