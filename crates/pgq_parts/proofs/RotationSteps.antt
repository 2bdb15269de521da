-- What the statements on rotation give.
use Rattle.std.proofs.Common.{◌≡◌, ℕ, ℤ, List, [], ◌∷◌, ◌++◌, Bool, true, false, not, ◌==◌, Option, Some, None, Ok, length, refl, sym, ◌∙◌, ap, subst, if◌then◌else◌, IsTrue, ◌↔◌}
use Rattle.std.specs.Prelude.{◌≢◌, is_some}
use Rattle.std.proofs.lemmas.Bool.{eq-eqb}
use Rattle.pgq_tables.specs.Tables.{with_pending}
use Rattle.sky_model.specs.declared.reply.Reply.{Reply}
use Rattle.sky_model.specs.declared.reply.Reply.TheVariants.{Number}
use Rattle.sky_model.specs.History.{of_worker, began, ended, queued, switching, switched, second_step}
use Rattle.sky_model.specs.Outcome.{Outcome, Checked, ◌>>=◌, does_marks, marks_of}
use Rattle.sky_model.specs.OwnTransaction.{next_id, txid_for, begin_of, commit_of, in_own}
use Rattle.sky_model.specs.Queues.{NamedQueue}
use Rattle.sky_model.specs.Sessions.{Block, outside, inside, failed}
use Rattle.sky_model.specs.State.{RowPart, after_part_marks, Queue, Database, with_tables, after_mark, after_marks}
use Rattle.sky_model.specs.StepQueue.{queue_called}
use Rattle.sky_model.specs.StepRotation.{held_back, switch_of, rotates, maint_rotate_step1, rotates_alone, rotates_by_itself, lack_second_step, second_steps, ends_switches, maint_rotate_step2}
use Rattle.pgq_parts.proofs.Databases.{Runs}

-- ---- what holds a switch back

pub absent : {A : Type 0} (o : Option A) → is_some o ≡ false → None ≡ o
absent None none = refl
absent (Some x) none = absurd (cc)

-- one that is begun is
pub now-pending : (d e : Database) (q t : ℕ) → e ≡ after_mark d (queued (switching q t)) → is_some (e.queue q).event_tables.pending ≡ true
now-pending d e q t is = ap (λ (x : Database). is_some (x.queue q).event_tables.pending) is ∙ here (q == q) (eq-eqb q q refl)
  where
    here : (b : Bool) → b ≡ true → is_some (Queue.event_tables (if b then with_tables (with_pending t) (d.queue q) else d.queue q)).pending ≡ true
    here true is_true = refl
    here false is_true = absurd (cc)

-- ---- the first step

-- outside a block it stands alone
pub alone-in : (q t : ℕ) (now : ℤ) (b : Block) (within alone : Bool) → IsTrue within ↔ (b ≢ outside) → alone ≡ not within → switch_of q t now (if alone then outside else inside) ≡ switch_of q t now b
alone-in q t now outside true alone within is = absurd (within.0 refl refl)
alone-in q t now outside false alone within is = ap (λ a. switch_of q t now (if a then outside else inside)) is
alone-in q t now inside true alone within is = ap (λ a. switch_of q t now (if a then outside else inside)) is
alone-in q t now inside false alone within is = let yes : false ≡ true = within.1 (λ e. cc) in absurd (cc)
alone-in q t now failed true alone within is = ap (λ a. switch_of q t now (if a then outside else inside)) is
alone-in q t now failed false alone within is = let yes : false ≡ true = within.1 (λ e. cc) in absurd (cc)

-- its marks may come after those of its transaction
switch-written : (d : Database) (who t : ℕ) (o : Option ℕ) (b : Block) (q : ℕ) (now : ℤ)
    → after_marks (after_marks d (begin_of who t o ++ commit_of who t b)) (switch_of q t now b) ≡ after_marks d (begin_of who t o ++ switch_of q t now b ++ commit_of who t b)
switch-written d who t None outside q now = refl
switch-written d who t (Some own) outside q now = refl
switch-written d who t _ _ q now = refl

module _ (d : Database) (now : ℤ) (who : ℕ) (name : List ℕ) (q : ℕ) (found : queue_called name d ≡ Ok q) where
  known : maint_rotate_step1 d now who name ≡ rotates d now who q (held_back now (d.queue q))
  known = ap (λ c. c >>= (λ n. rotates d now who n (held_back now (d.queue n)))) found

  abbrev does : ℕ → Checked Outcome
  does t = does_marks (Number 1) (in_own who t (d.part.session who) (switch_of q t now (d.part.session who).block))

  free : None ≡ held_back now (d.queue q) → maint_rotate_step1 d now who name ≡ (txid_for d.part who >>= does)
  free none = known ∙ ap (rotates d now who q) (sym none)

  pub gives-switch : (s1 s2 : Database) (t : ℕ) (before after : List (ℕ × Reply)) → None ≡ held_back now (d.queue q) → txid_for d.part who ≡ Ok t
      → s1 ≡ after_marks d (begin_of who t (d.part.session who).txid ++ commit_of who t (d.part.session who).block) → s2 ≡ after_marks s1 (switch_of q t now (d.part.session who).block)
      → after ≡ before ++ (who, Number 1) ∷ [] → Runs d s2 before after who (maint_rotate_step1 d now who name)
  gives-switch s1 s2 t before after none txid m1 m2 pushed =
      subst (Runs d s2 before after who) (sym (free none ∙ ap (λ c. c >>= does) txid)) (
        record {
          accepted = refl;
          replied = pushed;
          changed = m2 ∙ ap (λ s. after_marks s (switch_of q t now (d.part.session who).block)) m1 ∙ switch-written d who t (d.part.session who).txid (d.part.session who).block q now;
        },
        tt,
      )

-- the same by a daemon
abbrev does_alone : ℤ → ℕ → ℕ → Checked Outcome
does_alone now q t = does_marks (Number 1) (began of_worker t ∷ queued (switching q t) ∷ queued (switched q now) ∷ ended of_worker t true ∷ [])

pub switched-alone : (d s : Database) (part : RowPart) (now : ℤ) (q t : ℕ) → None ≡ held_back now (d.queue q) → next_id d.part ≡ Ok t
    → part ≡ after_part_marks d.part (began of_worker t ∷ ended of_worker t true ∷ []) → s ≡ after_marks (record d { part = part }) (switch_of q t now outside)
    → s ≡ after_marks d (marks_of (rotates_by_itself d now q))
switched-alone d s part now q t none left changed is =
    is
    ∙ ap (λ p. after_marks (record d { part = p }) (switch_of q t now outside)) changed
    ∙ ap (λ c. after_marks d (marks_of (c >>= does_alone now q))) (sym left)
    ∙ ap (λ why. after_marks d (marks_of (rotates_alone d now q why))) none

-- ---- the second step

-- marks of queues may come after the end of a transaction that commits
behind-end : (d : Database) (t : ℕ) (queues : List NamedQueue) → after_marks (after_mark d (ended of_worker t true)) (second_steps t queues) ≡ after_marks d (second_steps t queues ++ ended of_worker t true ∷ [])
behind-end d t [] = refl
behind-end d t (q ∷ queues) = behind-end (after_mark d (queued (second_step q.number t))) t queues

abbrev does_steps : List NamedQueue → ℕ → Checked Outcome
does_steps queues t = does_marks (Number (length queues)) (began of_worker t ∷ second_steps t queues ++ ended of_worker t true ∷ [])

some-lack : (d : Database) (n : ℕ) (queues : List NamedQueue) → n ≡ length queues → (n ≡ 0 → ⊥) → ends_switches d queues ≡ (next_id d.part >>= does_steps queues)
some-lack d n [] is some = absurd (some is)
some-lack d n (q ∷ queues) is some = refl

module _ (d : Database) (n : ℕ) (count : n ≡ length (lack_second_step d)) where
  steps-by : (t : ℕ) → (n ≡ 0 → ⊥) → next_id d.part ≡ Ok t → maint_rotate_step2 d ≡ does_steps (lack_second_step d) t
  steps-by t some left = some-lack d n (lack_second_step d) count some ∙ ap (λ c. c >>= does_steps (lack_second_step d)) left

  pub steps-made : (s : Database) (part : RowPart) (t : ℕ) → (n ≡ 0 → ⊥) → next_id d.part ≡ Ok t → part ≡ after_part_marks d.part (began of_worker t ∷ ended of_worker t true ∷ [])
      → s ≡ after_marks (record d { part = part }) (second_steps t (lack_second_step d)) → s ≡ after_marks d (marks_of (maint_rotate_step2 d))
  steps-made s part t some left changed is =
      is
      ∙ ap (λ p. after_marks (record d { part = p }) (second_steps t (lack_second_step d))) changed
      ∙ behind-end (after_mark d (began of_worker t)) t (lack_second_step d)
      ∙ ap (λ c. after_marks d (marks_of c)) (sym (steps-by t some left))
