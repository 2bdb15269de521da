-- Which marks of a statement keep pending switches those of sessions in blocks.
use Rattle.sky_model.specs.Printed.{ReplyHasMoments}
use Rattle.std.proofs.Common.{◌≡◌, ℕ, ℤ, List, [], ◌∷◌, Bool, true, false, ◌==◌, Option, Some, None, is_none, refl, sym, ◌∙◌, ap, arith, if◌then◌else◌, ◌&&◌, ◌||◌}
use Rattle.sky_val.specs.declared.val.Val.{Val}
use Rattle.sky_model.specs.declared.stmt.Attempt.{Attempt}
use Rattle.sky_model.specs.declared.stmt.DbStmt.{DbStmt}
use Rattle.sky_model.specs.Permits.{MarkKinds, of_any, of_rows, attempt_kinds, may_put, may_leave, permit_of}
use Rattle.sky_model.specs.declared.reply.Refusal.{Refusal}
use Rattle.sky_model.specs.History.{Mark, of_session, of_worker, ended, block_begun, block_failed, block_ended, queued, put, switching, switched, History, QueueMark, raised, second_step, ticked}
use Rattle.sky_model.specs.Queues.{NamedQueue}
use Rattle.sky_model.specs.StepRotation.{second_steps, ends_switches}
use Rattle.sky_model.specs.Sessions.{Block, outside, inside, failed, block, Session, is_outside}
use Rattle.sky_model.specs.State.{Database}
use Rattle.sky_model.specs.ShownRows.{KeyShown}
use Rattle.sky_model.specs.Outcome.{Outcome, Checked, abort}
use Rattle.sky_model.specs.StepRows.{attempts}
use Rattle.sky_model.specs.StepQueue.{next_tick}
use Rattle.pgq_retry.specs.declared.retry.Retry.{Retry}
use Rattle.sky_model.specs.OwnTransaction.{next_id}
use Rattle.sky_model.specs.StepRetry.{back, brings}
use Rattle.sky_model.specs.Telling.{tells}
use Rattle.sky_model.specs.Reader.{Shown}
use Rattle.sky_model.specs.Calls.{form}
use Rattle.std.proofs.lemmas.Bool.{and_parts}
use Rattle.sky_model.proofs.Cases.{by_test, by_block}
use Rattle.std.proofs.lemmas.Bool.Decides.{nat_tests}
use Rattle.sky_histories.proofs.StatementMarks.{when-true, EachMark, each-append, each-rest, Gives, AnyReply, checked, no-queued, each-abort, gives-map, each-second_steps, is_told, gives-form, is_second, is_tick, gives-tells, gives-tick, gives-attempt}
use Rattle.sky_laws.proofs.PendingOwners.{PlainAt, Keeps, keeps-mark}

-- ---- marks that keep it so by themselves

-- a session in such a block may leave such a mark: it commits outside a block alone, begins none, and no switch is pending or made by it
abbrev pub may_keep : Block → ℕ → Mark → Bool
may_keep b who (ended (of_session v) t true) = is_outside b && v == who
may_keep b who (block_begun v) = false
may_keep b who (queued (switching q t)) = false
may_keep b who (queued (switched q time)) = false
may_keep b who _ = true

-- and puts no event with an owner
abbrev pub may_do : Block → ℕ → Mark → Bool
may_do b who (ended (of_session v) t true) = is_outside b && v == who
may_do b who (block_begun v) = false
may_do b who (queued (switching q t)) = false
may_do b who (queued (switched q time)) = false
may_do b who (queued (put q e)) = is_none e.ev_owner
may_do b who _ = true

pub keeps-too : (b : Block) (who : ℕ) (mark : Mark) → may_do b who mark ≡ true → may_keep b who mark ≡ true
keeps-too b who (queued (put q e)) is = refl
keeps-too b who _ is = is

abbrev pub IsOut : Block → ℕ → History → Type 0
IsOut b who h = is_outside b ≡ true → block who h ≡ inside → ⊥

pub keeps-each : (b : Block) (who : ℕ) (h : History) (marks : List Mark) → IsOut b who h → EachMark (may_keep b who) marks → Keeps h marks
keeps-each b who h [] out all = λ l r. r
keeps-each b who h (mark ∷ marks) out all =
    let may : may_keep b who mark ≡ true = when-true (EachMark (may_keep b who) marks) (may_keep b who mark) all in
    keeps-mark h mark marks (plain mark may) (keeps-each b who (mark ∷ h) marks (still mark may) (each-rest (may_keep b who) mark marks all))
  where
    plain : (m : Mark) → may_keep b who m ≡ true → PlainAt h m
    plain (queued (switching q t)) e = absurd (cc)
    plain (ended (of_session v) t true) e =
        let both = and_parts (is_outside b) (v == who) e in
        let same : v ≡ who = grind (arith, nat_tests, both.1) in
        λ within. absurd (out both.0 (ap (λ x. block x h) (sym same) ∙ within))
    plain _ e = tt

    still : (m : Mark) → may_keep b who m ≡ true → IsOut b who (m ∷ h)
    still (block_begun v) e = absurd (cc)
    still (block_failed v) e = λ o. by_test (λ x. (if x then failed else block who h) ≡ inside → ⊥) (v == who) (λ _ is. absurd (cc)) (λ _. out o)
    still (block_ended v) e = λ o. by_test (λ x. (if x then outside else block who h) ≡ inside → ⊥) (v == who) (λ _ is. absurd (cc)) (λ _. out o)
    still _ e = out

-- a session is in the block that it is in
pub out-here : (who : ℕ) (h : History) → IsOut (block who h) who h
out-here who h = by_block (λ b. is_outside b ≡ true → b ≡ inside → ⊥) (λ _ is. absurd (cc)) (λ e _. absurd (cc)) (λ e _. absurd (cc)) (block who h)

-- ---- statements

-- kinds of such marks alone: no block begins or commits, no switch is pending or made, and no retry comes back
pub record IsPlain (k : MarkKinds) : Type 0 where
  pub begins : k.begins ≡ false
  pub commits : k.commits ≡ false
  pub rotates : k.rotates ≡ false
  pub switches : k.switches ≡ false
  pub brings_back : k.brings_back ≡ false

does-if : (k : MarkKinds) → IsPlain k → (s : Session) (who : ℕ) (mark : Mark) → may_leave k s who mark ≡ true → may_do s.block who mark ≡ true
does-if k plain s who (ended (of_session v) t true) e =
    let both = and_parts (k.takes_id && is_outside s.block || k.commits) (v == who) e in
    let out : is_outside s.block ≡ true = by k.takes_id (is_outside s.block) k.commits plain.commits both.0 in
    ap (λ b. b && v == who) out ∙ both.1
  where
    by : (a b c : Bool) → c ≡ false → (a && b || c) ≡ true → b ≡ true
    by true true c none e = refl
    by true false c none e = absurd (cc (sym e ∙ none))
    by false b c none e = absurd (cc (sym e ∙ none))
does-if k plain s who (block_begun v) e = let both = and_parts k.begins (is_outside s.block) e in absurd (cc (sym both.0 ∙ plain.begins))
does-if k plain s who (queued (switching q t)) e = absurd (cc (sym e ∙ plain.rotates))
does-if k plain s who (queued (switched q time)) e = let both = and_parts k.switches (k.commits || is_outside s.block) e in absurd (cc (sym both.0 ∙ plain.switches))
does-if k plain s who (queued (put q event)) e = by event.ev_owner e
  where
    by : (o : Option ℕ) → may_put k o ≡ true → is_none o ≡ true
    by None e = refl
    by (Some sub) e = absurd (cc (sym e ∙ plain.brings_back))
does-if k plain s who _ e = refl

-- a refusal leaves such marks, and so does taking a sight
pub does-any : (b : Block) (who : ℕ) (s : Session) (v : ℕ) (mark : Mark) → may_leave of_any s v mark ≡ true → may_do b who mark ≡ true
does-any b who s v (ended (of_session u) t true) e = absurd (cc)
does-any b who s v (block_begun u) e = absurd (cc)
does-any b who s v (queued mark) e = absurd (no-queued of_any s v mark e)
does-any b who s v _ e = refl

pub abort-plain : (b : Block) (who : ℕ) (c : Block) (txid : Option ℕ) (refusal : Refusal) → EachMark (may_do b who) (abort who c txid refusal)
abort-plain b who c txid refusal = each-abort AnyReply (may_do b who) (λ _. tt) (does-any b who) who c txid refusal

module _ (who : ℕ) where
  abbrev Does : Block → Checked Outcome → Type 0
  Does b c = Gives AnyReply (may_do b who) c

  -- an attempt with a key, once its write is recorded
  pub does-attempts : (d : Database) (now : ℤ) (shown : KeyShown) (table : ℕ) (key : List Val) (attempt : Attempt) → Does (d.part.session who).block (tells d now (attempts d.part shown who table key attempt))
  does-attempts d now shown table key attempt =
      let s : Session = d.part.session who in
      gives-tells (may_do s.block who) told AnyReply d now _
      (gives-map ReplyHasMoments AnyReply (may_leave (of_rows (attempt_kinds true)) s who) (may_do s.block who) (λ reply has. tt)
      (does-if (of_rows (attempt_kinds true)) (record { begins = refl; commits = refl; rotates = refl; switches = refl; brings_back = refl }) s who) _ (gives-attempt who d.part shown table key attempt))
    where
      told : (mark : QueueMark) → is_told mark ≡ true → may_do (d.part.session who).block who (queued mark) ≡ true
      told (raised q value) e = refl
      told (put q event) e = e
      told _ e = absurd (cc)

  -- any statement, if its permit says so
  pub does-form : (d : Database) (shown : Shown) (now : ℤ) (stmt : DbStmt) → IsPlain (permit_of stmt).kinds → Does (d.part.session who).block (form d shown now who stmt)
  does-form d shown now stmt plain =
      let k : MarkKinds = (permit_of stmt).kinds in
      let s : Session = d.part.session who in
      gives-map AnyReply AnyReply (may_leave k s who) (may_do s.block who) (λ reply any. any) (does-if k plain s who) _ (gives-form who d shown now stmt)

-- ---- workers

does-back : (b : Block) (who : ℕ) (now : ℤ) (t : ℕ) (rs : List Retry) → EachMark (may_keep b who) (back now t rs)
does-back b who now t [] = tt
does-back b who now t (r ∷ rs) = does-back b who now t rs

pub does-brings : (who : ℕ) (b : Block) (d : Database) (now : ℤ) (rs : List Retry) → Gives AnyReply (may_keep b who) (brings d now rs)
does-brings who b d now [] = (tt, tt)
does-brings who b d now (r ∷ rs) =
    checked AnyReply _ (next_id d.part) _ (λ t. (tt, each-append (may_keep b who) (back now t (r ∷ rs)) (ended of_worker t true ∷ []) (does-back b who now t (r ∷ rs)) tt))

second-does : (b : Block) (who : ℕ) (mark : QueueMark) → is_second mark ≡ true → may_do b who (queued mark) ≡ true
second-does b who (second_step q t) e = refl
second-does b who _ e = absurd (cc)

pub does-ends_switches : (who : ℕ) (b : Block) (d : Database) (queues : List NamedQueue) → Gives AnyReply (may_do b who) (ends_switches d queues)
does-ends_switches who b d [] = (tt, tt)
does-ends_switches who b d (q ∷ queues) =
    checked AnyReply _ (next_id d.part) _
    (λ t. (tt, each-append (may_do b who) (second_steps t (q ∷ queues)) (ended of_worker t true ∷ []) (each-second_steps (may_do b who) (second-does b who) t (q ∷ queues)) tt))

pub does-tick : (who : ℕ) (b : Block) (d : Database) (now : ℤ) (q : ℕ) → Gives AnyReply (may_do b who) (next_tick d now q)
does-tick who b d now q = gives-tick (may_do b who) tick d now q
  where
    tick : (mark : QueueMark) → is_tick mark ≡ true → may_do b who (queued mark) ≡ true
    tick (ticked q id time seq) e = refl
    tick _ e = absurd (cc)
