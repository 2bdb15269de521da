-- The events that record a write have smaller ids than those of the same queue that record a later write.
use Rattle.std.proofs.Common.{◌≡◌, ℕ, zero, suc, ℤ, ◌<◌, All, Contains, List, [], ◌∷◌, ◌++◌, Bool, true, not, ◌==◌, Option, Some, None, is_some, IfOk, Ok, Err, length, refl, sym, ◌∙◌, ap, subst, arith, if◌then◌else◌, ◌⊎◌, inl, inr, append_assoc, length-append, slice_index_or}
use Rattle.std.proofs.lemmas.Bool.{cond_both}
use Rattle.std.proofs.lemmas.List.Elements.{All-pop}
use Rattle.sky_val.specs.declared.event.Event.{Event}
use Rattle.sky_model.specs.History.{Mark, of_session, tabled, wrote, queued, put, History}
use Rattle.sky_model.specs.Queues.{events}
use Rattle.sky_model.specs.State.{Database, database_of, after_marks}
use Rattle.sky_model.specs.Outcome.{Checked}
use Rattle.sky_model.specs.Telling.{events_of_write, told_event, event_marks, told_by, told_of}
use Rattle.sky_model.specs.StepQueue.{next_event_id}
use Rattle.sky_urlenc.specs.RowEvents.{RowEvent}
use Rattle.std.proofs.lemmas.Result.{IfOk-at_ok}
use Rattle.sky_model.proofs.Cases.{ok-then}
use Rattle.sky_model.specs.Settling.{marked}
use Rattle.sky_model.specs.HistoryPlaces.{IsPlace}
use Rattle.sky_model.specs.LawsOfWrites.{IsToldBy, EventIdsFollowWrites}
use Rattle.sky_histories.proofs.Inserted.{none}
use Rattle.sky_histories.proofs.Telling.{EventMarks, told_by-events}
use Rattle.sky_histories.proofs.StatementMarks.{EachMark, each-append, each-first, each-rest, when-true}
use Rattle.sky_histories.proofs.GatedLemmas.{is_no_write, WritesNone}
use Rattle.sky_laws.proofs.WritesTold.{first, rest, events-plain}
use Rattle.sky_laws.proofs.EventIds.{event_ids_rise}
use Rattle.sky_histories.proofs.Good.{same-session}

-- ---- what records a mark

abbrev IsWrite : Mark → Type 0
IsWrite (tabled (wrote who t table key old new)) = Unit {0}
IsWrite _ = ⊥

not-both : (mark : Mark) (marks : List Mark) → IsWrite mark → WritesNone (mark ∷ marks) → ⊥
not-both (tabled (wrote who t table key old new)) marks is plain = plain
not-both _ marks is plain = absurd is

told_of-events : (d : Database) (now : ℤ) (mark : Mark) → EventMarks (told_of d now mark)
told_of-events d now (tabled (wrote (of_session who) t table key old new)) = told_by-events d now t (events_of_write d table old new)
told_of-events d now _ = none

-- nothing records anything but a write
write-or-none : (d : Database) (now : ℤ) (mark : Mark) → IsWrite mark ⊎ (told_of d now mark ≡ Ok [])
write-or-none d now (tabled (wrote who t table key old new)) = inl tt
write-or-none d now _ = inr refl

abbrev Have : Checked (List Mark) → Mark → Type 0
Have (Ok marks) mark = Contains marks mark
Have (Err refusal) mark = ⊥

none-has : (mark : Mark) → Contains [] mark → ⊥
none-has mark (k, less, is) = absurd (omega (arith, less))

-- ---- what is told has no owner

abbrev is_unowned : Mark → Bool
is_unowned (queued (put q e)) = not (is_some e.ev_owner)
is_unowned _ = true

told_by-unowned : (d : Database) (now : ℤ) (t : ℕ) (es : List RowEvent) → IfOk (told_by d now t es) (EachMark is_unowned)
told_by-unowned d now t [] = tt
told_by-unowned d now t (e ∷ es) =
    ok-then (EachMark is_unowned) (next_event_id (d.queue e.queue)) _ (λ id _.
    ok-then (EachMark is_unowned) (told_by (after_marks d (event_marks e.queue (told_event id now t e))) now t es) _ (λ rest is.
    IfOk-at_ok _ is (told_by-unowned (after_marks d (event_marks e.queue (told_event id now t e))) now t es)))

told_of-unowned : (d : Database) (now : ℤ) (mark : Mark) → IfOk (told_of d now mark) (EachMark is_unowned)
told_of-unowned d now (tabled (wrote (of_session who) t table key old new)) = told_by-unowned d now t (events_of_write d table old new)
told_of-unowned d now _ = tt

-- what passes of each passes of one of them
each-contains : (p : Mark → Bool) (marks : List Mark) → EachMark p marks → (mark : Mark) → Contains marks mark → p mark ≡ true
each-contains p [] all mark (k, less, is) = absurd (omega (arith, less))
each-contains p (m ∷ marks) all mark (zero, less, is) = ap p (sym is) ∙ when-true (EachMark p marks) (p m) all
each-contains p (m ∷ marks) all mark (suc k, less, is) = each-contains p marks (each-rest p m marks all) mark (k, omega (arith, less), is)

told-unowned : (told : Checked (List Mark)) → IfOk told (EachMark is_unowned) → (marks : List Mark) → told ≡ Ok marks → (queue : ℕ) (e : Event)
    → Contains marks (queued (put queue e)) → e.ev_owner ≡ None
told-unowned told all marks same queue e there =
    no-owner e.ev_owner (each-contains is_unowned marks (IfOk-at_ok _ same all) (queued (put queue e)) there)
  where
    no-owner : (o : Option ℕ) → not (is_some o) ≡ true → o ≡ None
    no-owner None is = refl
    no-owner (Some n) is = absurd (cc)

-- ---- marks on top of a history

-- on top of it come marks of which none is a write
record IsOnTop (h q : History) : Type 0 where
  marks : List Mark
  plain : WritesNone marks
  is : h ≡ marks ++ q

on_top : (q : History) (marks : List Mark) → WritesNone marks → IsOnTop (marked q marks) q
on_top q [] plain = record { marks = []; plain = tt; is = refl }
on_top q (mark ∷ marks) plain =
    let top : IsOnTop (marked (mark ∷ q) marks) (mark ∷ q) = on_top (mark ∷ q) marks (each-rest is_no_write mark marks plain) in
    record { marks = top.marks ++ mark ∷ []; plain = each-append is_no_write top.marks (mark ∷ []) top.plain (each-first is_no_write mark marks [] plain tt); is = top.is ∙ sym (append_assoc top.marks (mark ∷ []) q) }

-- on top of it comes this mark, among others
record StandsOnTop (mark : Mark) (h q : History) : Type 0 where
  above : List Mark
  below : List Mark
  is : h ≡ above ++ mark ∷ (below ++ q)

all_above : (q : History) (marks : List Mark) → (above : List Mark) × (marked q marks ≡ above ++ q)
all_above q [] = ([], refl)
all_above q (mark ∷ marks) =
    let more : (above : List Mark) × (marked (mark ∷ q) marks ≡ above ++ mark ∷ q) = all_above (mark ∷ q) marks in
    (more.0 ++ mark ∷ [], more.1 ∙ sym (append_assoc more.0 (mark ∷ []) q))

stands_on_top : (q : History) (marks : List Mark) (mark : Mark) (k : ℕ) → k < length marks → slice_index_or marks k mark ≡ mark → StandsOnTop mark (marked q marks) q
stands_on_top q [] mark k less is = absurd (omega (arith, less))
stands_on_top q (x ∷ marks) mark zero less is =
    let more : (above : List Mark) × (marked (x ∷ q) marks ≡ above ++ x ∷ q) = all_above (x ∷ q) marks in
    record { above = more.0; below = []; is = more.1 ∙ ap (λ m. more.0 ++ m ∷ q) is }
stands_on_top q (x ∷ marks) mark (suc k) less is =
    let more : StandsOnTop mark (marked (x ∷ q) marks) (x ∷ q) = stands_on_top (x ∷ q) marks mark k (omega (arith, less)) is in
    record { above = more.above; below = more.below ++ x ∷ []; is = more.is ∙ ap (λ h. more.above ++ mark ∷ h) (sym (append_assoc more.below (x ∷ []) q)) }

-- ---- two places of a history

-- of two places of a history one of which begins with this mark, the other is this one or above it, or below the mark
above-or-below : (xs : List Mark) (a : History) (ys : List Mark) (s : Mark) (b : History) → xs ++ a ≡ ys ++ s ∷ b
    → ((z : List Mark) × (a ≡ z ++ s ∷ b)) ⊎ ((z : List Mark) × (b ≡ z ++ a))
above-or-below [] a ys s b e = inl (ys, e)
above-or-below (x ∷ xs) a [] s b e = inr (xs, sym (ap rest e))
above-or-below (x ∷ xs) a (y ∷ ys) s b e = above-or-below xs a ys s b (ap rest e)

-- if none of the marks on top of a history is a write, no write comes on top of it
no-write-among : (marks : List Mark) → WritesNone marks → (q : History) (z : List Mark) (s : Mark) (middle : List Mark) → IsWrite s → marks ++ q ≡ z ++ s ∷ (middle ++ q) → ⊥
no-write-among [] plain q z s middle is e = absurd (omega (arith, ap length e, length-append z (s ∷ (middle ++ q)), length-append middle q))
no-write-among (x ∷ marks) plain q [] s middle is e = not-both x marks (subst IsWrite (sym (ap (first x) e)) is) plain
no-write-among (x ∷ marks) plain q (y ∷ z) s middle is e = no-write-among marks (each-rest is_no_write x marks plain) q z s middle is (ap rest e)

-- so what records a write is below a later one
below-later : (h : History) (later : List Mark) (s : Mark) (middle : List Mark) (q : History) → IsWrite s → h ≡ later ++ s ∷ (middle ++ q)
    → (above told : List Mark) → WritesNone told → h ≡ above ++ marked q told → (z : List Mark) × (middle ++ q ≡ z ++ marked q told)
below-later h later s middle q write e above told plain stands = of (above-or-below above (marked q told) later s (middle ++ q) (sym stands ∙ e))
  where
    top : IsOnTop (marked q told) q
    top = on_top q told plain

    of : ((z : List Mark) × (marked q told ≡ z ++ s ∷ (middle ++ q))) ⊎ ((z : List Mark) × (middle ++ q ≡ z ++ marked q told)) → (z : List Mark) × (middle ++ q ≡ z ++ marked q told)
    of (inl (z, is)) = absurd (no-write-among top.marks top.plain q z s middle write (sym top.is ∙ is))
    of (inr found) = found

-- ---- the events of a queue

below_mark : (queue : ℕ) (P : Event → Type 0) (mark : Mark) (h : History) → All P (events queue (mark ∷ h)) → All P (events queue h)
below_mark queue P (queued (put q event)) h =
    cond_both (q == queue) (events queue h ++ event ∷ []) (events queue h) (λ es. All P es → All P (events queue h)) (λ _ all. (All-pop P (events queue h ++ event ∷ []) (events queue h) (Some event) refl all).0) (λ _ all. all)
below_mark queue P _ h = λ all. all

below : (queue : ℕ) (P : Event → Type 0) (marks : List Mark) (h : History) → All P (events queue (marks ++ h)) → All P (events queue h)
below queue P [] h all = all
below queue P (mark ∷ marks) h all = below queue P marks h (below_mark queue P mark (marks ++ h) all)

newest : (queue : ℕ) (P : Event → Type 0) (event : Event) (h : History) → All P (events queue (queued (put queue event) ∷ h)) → P event
newest queue P event h all = (All-pop P (events queue h ++ event ∷ []) (events queue h) (Some event) refl (subst (λ b. All P (if b then events queue h ++ event ∷ [] else events queue h)) (same-session queue) all)).1

-- ---- two writes

follow : (h : History) → IsPlace h → (later middle : List Mark) (p : History) (first second : Mark) (queue : ℕ) (e f : Event) → h ≡ later ++ second ∷ (middle ++ first ∷ p)
    → IsToldBy h first p queue e → IsToldBy h second (middle ++ first ∷ p) queue f → IsWrite second → e.ev_id < f.ev_id
follow h place later middle p first second queue e f same one other write =
    newest queue (λ x. x.ev_id < f.ev_id) e (at_e.below ++ q)
    (below queue (λ x. x.ev_id < f.ev_id) at_e.above (queued (put queue e) ∷ (at_e.below ++ q))
    (subst (λ g. All (λ x. x.ev_id < f.ev_id) (events queue g)) at_e.is
    (below queue (λ x. x.ev_id < f.ev_id) lower.0 (marked q one.is_told.events)
    (subst (λ g. All (λ x. x.ev_id < f.ev_id) (events queue g)) lower.1
    (below_mark queue (λ x. x.ev_id < f.ev_id) second k
    (below queue (λ x. x.ev_id < f.ev_id) at_f.below (second ∷ k) risen))))))
  where
    q : History
    q = first ∷ p

    k : History
    k = middle ++ q

    at_f : StandsOnTop (queued (put queue f)) (marked (second ∷ k) other.is_told.events) (second ∷ k)
    at_f = stands_on_top (second ∷ k) other.is_told.events (queued (put queue f)) other.is_put.0 other.is_put.1 other.is_put.2

    at_e : StandsOnTop (queued (put queue e)) (marked q one.is_told.events) q
    at_e = stands_on_top q one.is_told.events (queued (put queue e)) one.is_put.0 one.is_put.1 one.is_put.2

    lower : (z : List Mark) × (k ≡ z ++ marked q one.is_told.events)
    lower =
        below-later h later second middle q write same one.is_told.later one.is_told.events
        (events-plain one.is_told.events (subst EventMarks one.is_told.told (told_of-events (database_of q) one.is_told.time first))) one.is_told.stands

    at_place : IsPlace (queued (put queue f) ∷ (at_f.below ++ second ∷ k))
    at_place = record {
      calls = place.calls;
      in_form = place.in_form;
      later = place.later ++ (other.is_told.later ++ at_f.above);
      below = place.below ∙ ap (λ g. place.later ++ g) (other.is_told.stands ∙ ap (λ g. other.is_told.later ++ g) at_f.is
          ∙ sym (append_assoc other.is_told.later at_f.above (queued (put queue f) ∷ (at_f.below ++ second ∷ k))))
          ∙ sym (append_assoc place.later (other.is_told.later ++ at_f.above) (queued (put queue f) ∷ (at_f.below ++ second ∷ k)));
    }

    risen : All (λ x. x.ev_id < f.ev_id) (events queue (at_f.below ++ second ∷ k))
    risen = event_ids_rise (at_f.below ++ second ∷ k) queue f at_place
        (told-unowned (told_of (database_of (second ∷ k)) other.is_told.time second) (told_of-unowned (database_of (second ∷ k)) other.is_told.time second) other.is_told.events other.is_told.told queue f other.is_put)

pub event_ids_follow_writes : EventIdsFollowWrites
event_ids_follow_writes h place later middle p first second queue e f same one other =
    of (write-or-none (database_of (second ∷ middle ++ first ∷ p)) other.is_told.time second)
  where
    of : IsWrite second ⊎ (told_of (database_of (second ∷ middle ++ first ∷ p)) other.is_told.time second ≡ Ok []) → e.ev_id < f.ev_id
    of (inl write) = follow h place later middle p first second queue e f (same ∙ append_assoc later (second ∷ middle) (first ∷ p)) one other write
    of (inr nothing) = absurd (none-has (queued (put queue f)) (subst (λ x. Have x (queued (put queue f))) (sym other.is_told.told ∙ nothing) other.is_put))
