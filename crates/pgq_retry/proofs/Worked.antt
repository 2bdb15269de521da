-- Worked lists of those that wait, by computation.
use Rattle.std.proofs.Common.{◌≡◌, ℕ, ℤ, pos, neg_ℤ, true, false, List, [], ◌∷◌, Some, None, refl}
use Rattle.pgq_retry.specs.declared.retry.Retry.{Retry}
use Rattle.pgq_retry.specs.Retries.{is_asked, count_of, by_due, due_now, without, left_by, without_sub}

-- a subscription's event of an id, which waits until a moment
abbrev waits : ℕ → ℕ → ℤ → Retry
waits sub ev_id due = record {
  queue = 0;
  sub = sub;
  due = due;
  event = record {
    ev_id = ev_id;
    ev_time = pos 5;
    ev_txid = 3;
    ev_owner = Some sub;
    ev_retry = None;
    ev_type = None;
    ev_data = None;
    ev_extra1 = None;
    ev_extra2 = None;
    ev_extra3 = None;
    ev_extra4 = None;
  };
}

abbrev late : Retry
late = waits 1 10 (pos 30)

abbrev one : Retry
one = waits 1 11 (pos 20)

abbrev other : Retry
other = waits 2 10 (pos 20)

abbrev soon : Retry
soon = waits 1 12 (pos 10)

-- in this order they were asked for
abbrev list : List Retry
list = late ∷ one ∷ other ∷ soon ∷ []

-- those that are due at one moment are in the order of asking
sorted : by_due list ≡ soon ∷ one ∷ other ∷ late ∷ []
sorted = refl

sorted_otherwise : by_due (late ∷ other ∷ one ∷ soon ∷ []) ≡ soon ∷ other ∷ one ∷ late ∷ []
sorted_otherwise = refl

-- a moment too soon none is due, and at its moment the first is
too_soon : due_now (pos 9) 10 list ≡ []
too_soon = refl

at_its_moment : due_now (pos 10) 10 list ≡ soon ∷ []
at_its_moment = refl

three_due : due_now (pos 20) 10 list ≡ soon ∷ one ∷ other ∷ []
three_due = refl

-- at most so many, the first by due moment
cut : due_now (pos 40) 2 list ≡ soon ∷ one ∷ []
cut = refl

none_wanted : due_now (pos 40) 0 list ≡ []
none_wanted = refl

-- the others stay in their order, and are the next
others_stay : left_by (due_now (pos 40) 2 list) list ≡ late ∷ other ∷ []
others_stay = refl

the_next : due_now (pos 40) 2 (late ∷ other ∷ []) ≡ other ∷ late ∷ []
the_next = refl

-- moments before 2012 are moments too
before : by_due (one ∷ waits 3 13 (neg_ℤ (pos 20)) ∷ []) ≡ waits 3 13 (neg_ℤ (pos 20)) ∷ one ∷ []
before = refl

-- the same event id waits once for each subscription
both_wait : is_asked 2 10 (without 1 10 list) ≡ true
both_wait = refl

one_waits : is_asked 1 10 (without 1 10 list) ≡ false
one_waits = refl

not_another : is_asked 2 11 list ≡ false
not_another = refl

-- a subscription and how many it has
three : count_of 1 list ≡ 3
three = refl

gone : without_sub 1 list ≡ other ∷ []
gone = refl
