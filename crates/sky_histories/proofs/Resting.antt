-- When those that a statement unblocks have been run, none is ready, and at most as many are run as wait.
use Rattle.std.proofs.Common.{◌≡◌, ℕ, zero, suc, ◌<◌, ◌≤◌, Bool, true, false, ◌==◌, List, [], ◌∷◌, ◌++◌, Option, Some, None, length, is_some, refl, sym, ◌∙◌, ap, subst, arith, if◌then◌else◌, is_none, ◌&&◌, ◌||◌}
use Rattle.std.proofs.lemmas.Bool.{or_right, eq-eqb}
use Rattle.sky_val.specs.declared.val.Val.{Val}
use Rattle.sky_keys.specs.Waits as waits
use Rattle.sky_keys.specs.Waits.{Holders, other_than, other_holder, Waiting, is_waiting, without}
use Rattle.sky_keys.proofs.WaitLemmas.{without_shorter}
use Rattle.sky_model.specs.declared.stmt.Attempt.{Attempt}
use Rattle.sky_model.specs.History.{Mark, ended, tabled, waits as waits_mark, waited}
use Rattle.sky_model.specs.State.{RowPart, after_part}
use Rattle.sky_model.specs.ShownRows.{KeyShown}
use Rattle.sky_model.specs.Outcome.{Outcome, Checked}
use Rattle.sky_model.specs.StepRows.{attempts}
use Rattle.sky_model.specs.Reader.{PartReader, part_by_itself}
use Rattle.sky_model.specs.Gates.{Gate, by_gate}
use Rattle.sky_model.specs.Settling.{Turn, rests, behind_marks, with_rest, and_then, ready, attempted, resumed, goes_on, settles, settling}
use Rattle.sky_model.specs.Printed.{ReplyHasMoments}
use Rattle.sky_model.specs.Sessions.{Session}
use Rattle.sky_model.specs.Permits.{MarkKinds, of_any, of_rows, attempt_kinds, may_leave}
use Rattle.sky_histories.proofs.StatementMarks.{EachMark, Gives, gives-map, gives-attempts, gives-gated, given-settled}
use Rattle.sky_model.proofs.Cases.{by_test}

abbrev pub keeps_waiters : Mark → Bool
keeps_waiters (tabled (waits_mark who table key attempt)) = false
keeps_waiters (tabled (waited who)) = false
keeps_waiters _ = true

-- none of the marks begins or ends a wait
abbrev pub NoWaits : List Mark → Type 0
NoWaits marks = EachMark keeps_waiters marks

-- nor does what a statement on rows does, if it isn't refused
abbrev pub Quiet : Checked Outcome → Type 0
Quiet c = Gives ReplyHasMoments keeps_waiters c

quiet-if : (k : MarkKinds) → k.waits_for ≡ false → k.wakes ≡ false → (s : Session) (who : ℕ) (mark : Mark) → may_leave k s who mark ≡ true → keeps_waiters mark ≡ true
quiet-if k none still s who (tabled (waits_mark v table key attempt)) e = absurd (cc (sym (ap (λ b. b && v == who) none) ∙ e))
quiet-if k none still s who (tabled (waited v)) e = absurd (cc)
quiet-if k none still s who _ e = refl

-- an attempt with a key that no other session holds doesn't wait
attempts-quiet : (d : RowPart) (shown : KeyShown) (who table : ℕ) (key : List Val) (attempt : Attempt) → other_holder d.holder who table key ≡ None
    → Quiet (attempts d shown who table key attempt)
attempts-quiet d shown who table key attempt free =
    let k : MarkKinds = of_rows (attempt_kinds (is_some (other_holder d.holder who table key))) in
    gives-map ReplyHasMoments ReplyHasMoments (may_leave k (d.session who) who) keeps_waiters (λ reply has. has) (quiet-if k (ap is_some free) refl (d.session who) who) _ (gives-attempts who d shown table key attempt)

waiting-quiet : (d : RowPart) (marks : List Mark) → NoWaits marks → (behind_marks part_by_itself d marks).waiting ≡ d.waiting
waiting-quiet d [] quiet = refl
waiting-quiet d (tabled (waits_mark who table key attempt) ∷ marks) quiet = absurd quiet
waiting-quiet d (tabled (waited who) ∷ marks) quiet = absurd quiet
waiting-quiet d (ended who t true ∷ marks) quiet = waiting-quiet (after_part d (ended who t true)) marks quiet
waiting-quiet d (mark ∷ marks) quiet = waiting-quiet (after_part d mark) marks quiet

-- one that is ready waits, for a key that nobody holds
pub record IsReady (d : RowPart) (w : Waiting) : Type 0 where
  pub there : is_waiting w.who d.waiting ≡ true
  pub free : d.holder w.table w.key ≡ None

ready-found : (holder : Holders) (ws : List Waiting) (w : Waiting) → waits.ready holder ws ≡ Some w → (is_waiting w.who ws ≡ true) × (holder w.table w.key ≡ None)
ready-found holder [] w e = absurd (cc)
ready-found holder (x ∷ ws) w e =
    by_test (λ b. (if b then Some x else waits.ready holder ws) ≡ Some w → (is_waiting w.who (x ∷ ws) ≡ true) × (holder w.table w.key ≡ None)) (is_none (holder x.table x.key))
    (λ is e. let one : x ≡ w = cc in subst (λ (y : Waiting). (is_waiting y.who (x ∷ ws) ≡ true) × (holder y.table y.key ≡ None)) one (ap (λ b. b || is_waiting x.who ws) (eq-eqb x.who x.who refl), none (holder x.table x.key) is))
    (λ _ e. let found = ready-found holder ws w e in (or_right (x.who == w.who) (is_waiting w.who ws) found.0, found.1)) e
  where
    none : (o : Option ℕ) → is_none o ≡ true → o ≡ None
    none None e = refl
    none (Some v) e = absurd (cc)

pub is-ready : (d : RowPart) (w : Waiting) → ready d ≡ Some w → IsReady d w
is-ready d w e = let found : (is_waiting w.who d.waiting ≡ true) × (d.holder w.table w.key ≡ None) = ready-found d.holder d.waiting w e in record { there = found.0; free = found.1 }

-- a place that keeps a row part by itself, and where what records writes begins and ends no wait
pub record KeepsPart {P : Type 0} (r : PartReader P) : Type 0 where
  pub part : (p : P) (mark : Mark) → r.part (r.behind p mark) ≡ after_part (r.part p) mark
  pub quiet : (p : P) (c : Checked Outcome) → Quiet c → Quiet (r.tells p c)

-- a row part does so itself
pub itself-keeps : KeepsPart part_by_itself
itself-keeps = record { part = λ d mark. refl; quiet = λ d c quiet. quiet }

-- and still does with a gate
pub by_gate-keeps : {G P : Type 0} (gate : Gate G) (r : PartReader P) → KeepsPart r → KeepsPart (by_gate gate r)
by_gate-keeps gate r keeps = record { part = λ p mark. keeps.part p.0 mark; quiet = λ p c quiet. gives-gated ReplyHasMoments keeps_waiters gate p.1 (r.tells p.0 c) (keeps.quiet p.0 c quiet) }

pub gated-keeps : {G : Type 0} (gate : Gate G) → KeepsPart (by_gate gate part_by_itself)
gated-keeps gate = by_gate-keeps gate part_by_itself itself-keeps

-- the part after marks
pub part-behind_marks : {P : Type 0} (r : PartReader P) → KeepsPart r → (p : P) (marks : List Mark) → r.part (behind_marks r p marks) ≡ behind_marks part_by_itself (r.part p) marks
part-behind_marks r keeps p [] = refl
part-behind_marks r keeps p (mark ∷ marks) = part-behind_marks r keeps (r.behind p mark) marks ∙ ap (λ d. behind_marks part_by_itself d marks) (keeps.part p mark)

-- once it has been run, it is out of the queue, and nobody has entered it
pub waiting-resumed : {P : Type 0} (r : PartReader P) → KeepsPart r → (p : P) (w : Waiting) → ready (r.part p) ≡ Some w
    → (r.part (behind_marks r p (resumed r p w).marks)).waiting ≡ without w.who (r.part p).waiting
waiting-resumed {P = P} r keeps p w e =
    ap RowPart.waiting (part-behind_marks r keeps behind (attempted r w ((r.part p).attempt w.who) behind).marks)
    ∙ waiting-quiet (r.part behind) (attempted r w ((r.part p).attempt w.who) behind).marks
    (given-settled ReplyHasMoments keeps_waiters (λ _. tt) (quiet-if of_any refl refl) w.who ((r.part behind).session w.who) (r.tells behind tried)
    (keeps.quiet behind tried (attempts-quiet (r.part behind) ((r.rows behind).key w.who w.table w.key) w.who w.table w.key ((r.part p).attempt w.who) free))).1
    ∙ ap RowPart.waiting gone
  where
    behind : P
    behind = r.behind p (tabled (waited w.who))

    gone : r.part behind ≡ after_part (r.part p) (tabled (waited w.who))
    gone = keeps.part p (tabled (waited w.who))

    tried : Checked Outcome
    tried = attempts (r.part behind) ((r.rows behind).key w.who w.table w.key) w.who w.table w.key ((r.part p).attempt w.who)

    free : other_holder (r.part behind).holder w.who w.table w.key ≡ None
    free = ap (λ (d : RowPart). other_holder d.holder w.who w.table w.key) gone ∙ ap (other_than w.who) (is-ready (r.part p) w e).free

-- so fewer wait
pub fewer-wait : {P : Type 0} (r : PartReader P) → KeepsPart r → (p : P) (w : Waiting) → ready (r.part p) ≡ Some w
    → length (r.part (behind_marks r p (resumed r p w).marks)).waiting < length (r.part p).waiting
fewer-wait r keeps p w e =
    subst (λ ws. length ws < length (r.part p).waiting) (sym (waiting-resumed r keeps p w e)) (without_shorter w.who (r.part p).waiting (is-ready (r.part p) w e).there)

nobody : (d : RowPart) → length d.waiting ≤ 0 → ready d ≡ None
nobody d most = of d.waiting most
  where
    of : (ws : List Waiting) → length ws ≤ 0 → waits.ready d.holder ws ≡ None
    of [] most = refl
    of (w ∷ ws) most = absurd (omega arith)

-- any number that is large enough does
enough : {P : Type 0} (r : PartReader P) → KeepsPart r → (n m : ℕ) (p : P) → length (r.part p).waiting ≤ n → length (r.part p).waiting ≤ m → settles r n p ≡ settles r m p
enough r keeps zero zero p some also = refl
enough r keeps zero (suc m) p some also = sym (ap (goes_on r p (settles r m)) (nobody (r.part p) some))
enough r keeps (suc n) zero p some also = ap (goes_on r p (settles r n)) (nobody (r.part p) also)
enough {P = P} r keeps (suc n) (suc m) p some also = of (ready (r.part p)) refl (enough r keeps n m)
  where
    of : (o : Option Waiting) → ready (r.part p) ≡ o
        → ((q : P) → length (r.part q).waiting ≤ n → length (r.part q).waiting ≤ m → settles r n q ≡ settles r m q)
        → goes_on r p (settles r n) o ≡ goes_on r p (settles r m) o
    of None e ih = refl
    of (Some w) e ih =
        ap (with_rest (resumed r p w)) (ih (behind_marks r p (resumed r p w).marks) (omega (arith, fewer-wait r keeps p w e, some)) (omega (arith, fewer-wait r keeps p w e, also)))

-- those that resume: nobody, if none is ready
pub settling-none : {P : Type 0} (r : PartReader P) → KeepsPart r → (p : P) → ready (r.part p) ≡ None → settling r p ≡ rests
settling-none r keeps p e = of (length (r.part p).waiting)
  where
    of : (n : ℕ) → settles r n p ≡ rests
    of zero = refl
    of (suc n) = ap (goes_on r p (settles r n)) e

-- or the one that is ready, and then all that are ready after it
pub settling-some : {P : Type 0} (r : PartReader P) → KeepsPart r → (p : P) (w : Waiting) → ready (r.part p) ≡ Some w → settling r p ≡ and_then r p (resumed r p w) (settling r)
settling-some r keeps p w e = of (length (r.part p).waiting) refl
  where
    of : (n : ℕ) → length (r.part p).waiting ≡ n → settles r n p ≡ and_then r p (resumed r p w) (settling r)
    of zero is = absurd (cc (sym (nobody (r.part p) (omega (arith, is))) ∙ e))
    of (suc n) is =
        ap (goes_on r p (settles r n)) e
        ∙ ap (with_rest (resumed r p w))
        (enough r keeps n (length (r.part (behind_marks r p (resumed r p w).marks)).waiting) (behind_marks r p (resumed r p w).marks)
        (omega (arith, fewer-wait r keeps p w e, is)) (omega arith))

-- the place after marks and more of them
pub behind-append : {P : Type 0} (r : PartReader P) (p : P) (xs ys : List Mark) → behind_marks r p (xs ++ ys) ≡ behind_marks r (behind_marks r p xs) ys
behind-append r p [] ys = refl
behind-append r p (x ∷ xs) ys = behind-append r (r.behind p x) xs ys

settles-rest : {P : Type 0} (r : PartReader P) → KeepsPart r → (n : ℕ) (p : P) → length (r.part p).waiting ≤ n → ready (r.part (behind_marks r p (settles r n p).marks)) ≡ None
settles-rest r keeps zero p most = nobody (r.part p) most
settles-rest {P = P} r keeps (suc n) p most = of (ready (r.part p)) refl (settles-rest r keeps n)
  where
    of : (o : Option Waiting) → ready (r.part p) ≡ o → ((q : P) → length (r.part q).waiting ≤ n → ready (r.part (behind_marks r q (settles r n q).marks)) ≡ None)
        → ready (r.part (behind_marks r p (goes_on r p (settles r n) o).marks)) ≡ None
    of None e ih = e
    of (Some w) e ih =
        ap (λ q. ready (r.part q)) (behind-append r p (resumed r p w).marks (settles r n (behind_marks r p (resumed r p w).marks)).marks)
        ∙ ih (behind_marks r p (resumed r p w).marks) (omega (arith, fewer-wait r keeps p w e, most))

-- after a turn with all that it unblocks none is ready
pub turn-rests : {P : Type 0} (r : PartReader P) → KeepsPart r → (p : P) (turn : Turn) → ready (r.part (behind_marks r p (and_then r p turn (settling r)).marks)) ≡ None
turn-rests r keeps p turn =
    ap (λ q. ready (r.part q)) (behind-append r p turn.marks (settling r (behind_marks r p turn.marks)).marks)
    ∙ settles-rest r keeps (length (r.part (behind_marks r p turn.marks)).waiting) (behind_marks r p turn.marks) (omega arith)
