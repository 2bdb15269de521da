-- What the statements on retries give.
use Rattle.std.proofs.Common.{◌≡◌, ℕ, zero, suc, ℤ, ◌<◌, List, [], ◌∷◌, ◌++◌, Bool, true, false, not, Option, Some, None, Ok, Err, find, length, option_map, refl, sym, ◌∙◌, ap, subst, arith, if◌then◌else◌, ◌==◌}
use Rattle.std.proofs.lemmas.Bool.Decides.{nat_tests}
use mir.Val.{bool_byte}
use Rattle.sky_val.specs.declared.event.Event.{Event}
use Rattle.sky_txid.specs.Ids.{contains}
use Rattle.pgq_retry.specs.declared.retry.Retry.{Retry}
use Rattle.pgq_retry.specs.Retries.{is_asked, due_now}
use Rattle.sky_model.specs.declared.stmt.RetriedEvent.{RetriedEvent}
use Rattle.sky_model.specs.declared.reply.Reply.{Reply}
use Rattle.sky_model.specs.declared.reply.Reply.TheVariants.{Number}
use Rattle.sky_model.specs.declared.reply.Refusal.TheVariants.{NoBatch, NodeConsumer, NoEvent}
use Rattle.sky_model.specs.History as model
use Rattle.sky_model.specs.History.{Mark, of_worker, began, ended, queued, put, asked, returned}
use Rattle.sky_model.specs.Selection.{selected}
use Rattle.sky_model.specs.State.{RowPart, after_part_marks, Database, after_mark, after_marks}
use Rattle.sky_model.specs.Outcome.{marks_of, ◌>>=◌, ◌>>◌, refused_if, found_or, answers, does_marks}
use Rattle.sky_model.specs.OwnTransaction.{next_id}
use Rattle.sky_model.specs.Reader.{shown_by}
use Rattle.sky_model.specs.Retries.{brought_by}
use Rattle.sky_model.specs.StepConsumer.{is_nodes_batch}
use Rattle.sky_model.specs.StepRetry.{retry_of, asks_for, event_retry, back, brings, most_back, maint_retry_events}
use Rattle.pgq_parts.proofs.Databases.{Runs}

-- ---- a subscription asks for an event

module _ (d : Database) (now : ℤ) (again : RetriedEvent) (b : model.Batch) (there : Some b ≡ d.batch again.batch) (foreign : is_nodes_batch d b ≡ false) where
  -- once the batch is found
  within : (o : Option Event) → find (λ e. e.ev_id == again.event) (selected d b) ≡ o → event_retry d (shown_by d).events now again ≡ (found_or o NoEvent >>= (λ e. asks_for d (retry_of now again.seconds b e)))
  within o is =
      ap (λ found. found_or (option_map (selected d) found) NoBatch >>= (λ events. found_or found NoBatch >>= (λ batch. refused_if (is_nodes_batch d batch) NodeConsumer >> (found_or (find (λ e. e.ev_id == again.event) events) NoEvent >>= (λ e. asks_for d (retry_of now again.seconds batch e)))))) (sym there)
      ∙ ap (λ x. refused_if x NodeConsumer >> (found_or (find (λ e. e.ev_id == again.event) (selected d b)) NoEvent >>= (λ e. asks_for d (retry_of now again.seconds b e)))) foreign
      ∙ ap (λ x. found_or x NoEvent >>= (λ e. asks_for d (retry_of now again.seconds b e))) is

  pub no-event : None ≡ find (λ e. e.ev_id == again.event) (selected d b) → event_retry d (shown_by d).events now again ≡ Err NoEvent
  no-event none = within None (sym none)

  -- what is answered, whether the event waits already or not
  pub gives-retry : (s : Database) (who count : ℕ) (e : Event) (retry : Retry) (fresh : Bool) (before after : List (ℕ × Reply)) → Some e ≡ find (λ e. e.ev_id == again.event) (selected d b)
      → retry ≡ retry_of now again.seconds b e → fresh ≡ not (is_asked retry.sub retry.event.ev_id d.retries) → s ≡ (if fresh then after_mark d (queued (asked retry)) else d)
      → count ≡ bool_byte fresh → after ≡ before ++ (who, Number count) ∷ [] → Runs d s before after who (event_retry d (shown_by d).events now again)
  gives-retry s who count e retry fresh before after found made is changed counted pushed =
      subst (Runs d s before after who) (sym (within (Some e) (sym found) ∙ ap (asks_for d) (sym made))) (by (is_asked retry.sub retry.event.ev_id d.retries) fresh is changed counted)
    where
      by : (has new : Bool) → new ≡ not has → s ≡ (if new then after_mark d (queued (asked retry)) else d) → count ≡ bool_byte new
          → Runs d s before after who (if has then answers (Number 0) else does_marks (Number 1) (queued (asked retry) ∷ []))
      by true false e changed counted = (record { accepted = refl; replied = pushed ∙ ap (λ n. before ++ (who, Number n) ∷ []) counted; changed = changed }, tt)
      by false true e changed counted = (record { accepted = refl; replied = pushed ∙ ap (λ n. before ++ (who, Number n) ∷ []) counted; changed = changed }, tt)
      by true true e changed counted = absurd (cc)
      by false false e changed counted = absurd (cc)

-- the same of a database that shows the same
pub asked-as : (s d e : Database) (retry : Retry) (fresh : Bool) → s ≡ (if fresh then after_mark d (queued (asked retry)) else d) → d ≡ e → s ≡ (if fresh then after_mark e (queued (asked retry)) else e)
asked-as s d e retry fresh is same = is ∙ ap (λ x. if fresh then after_mark x (queued (asked retry)) else x) same

-- ---- those that are due come back

-- marks of queues may come after the end of a transaction that commits
behind-end : (d : Database) (now : ℤ) (t : ℕ) (rs : List Retry) → after_marks (after_mark d (ended of_worker t true)) (back now t rs) ≡ after_marks d (back now t rs ++ ended of_worker t true ∷ [])
behind-end d now t [] = refl
behind-end d now t (r ∷ rs) = behind-end (after_mark (after_mark d (queued (put r.queue (brought_by t r.event)))) (queued (returned r now))) now t rs

pub some-back : (d : Database) (now : ℤ) (t : ℕ) (rs : List Retry) → next_id d.part ≡ Ok t → 0 < length rs
    → brings d now rs ≡ does_marks (Number (length rs)) (began of_worker t ∷ back now t rs ++ ended of_worker t true ∷ [])
some-back d now t [] left some = absurd (omega (arith, some))
some-back d now t (r ∷ rs) left some = ap (λ c. c >>= (λ x. does_marks (Number (length (r ∷ rs))) (began of_worker x ∷ back now x (r ∷ rs) ++ ended of_worker x true ∷ []))) left

-- the database is then as the definition says
pub brought-back : (d s : Database) (part : RowPart) (now : ℤ) (t due : ℕ) → next_id d.part ≡ Ok t → due ≡ length (due_now now most_back d.retries) → (due ≡ 0 → ⊥)
    → part ≡ after_part_marks d.part (began of_worker t ∷ ended of_worker t true ∷ []) → s ≡ after_marks (record d { part = part }) (back now t (due_now now most_back d.retries))
    → s ≡ after_marks d (marks_of (maint_retry_events d now))
brought-back d s part now t due left count some changed came =
    came
    ∙ ap (λ p. after_marks (record d { part = p }) (back now t rs)) changed
    ∙ behind-end (after_mark d (began of_worker t)) now t rs
    ∙ ap (λ c. after_marks d (marks_of c)) (sym (some-back d now t rs left (many (length rs) count)))
  where
    rs : List Retry
    rs = due_now now most_back d.retries

    many : (k : ℕ) → due ≡ k → 0 < k
    many zero e = absurd (some e)
    many (suc k) e = omega arith

-- ---- a worker's transaction

pub works : (old new : RowPart) (t : ℕ) → new ≡ after_part_marks old (began of_worker t ∷ []) → contains t new.workers ≡ true
works old new t is = subst (λ (x : RowPart). contains t x.workers ≡ true) (sym is) (last old.workers)
  where
    last : (ts : List ℕ) → contains t (ts ++ t ∷ []) ≡ true
    last [] = grind (arith, nat_tests)
    last (u ∷ us) = let rest = last us in grind (arith, rest)
