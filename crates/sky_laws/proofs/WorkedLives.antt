-- Consumers that are moved, and that leave, in worked histories, by computation: what is read of them, of their batches
-- and of the others', and that such histories are legal.
use Rattle.std.proofs.Common.{◌≡◌, ℕ, pos, ◌<◌, List, [], ◌∷◌, true, false, Some, None, refl, codes, map, arith}
use Rattle.std.proofs.lemmas.List.Elements.{All-nil}
use Rattle.sky_val.specs.declared.event.Event.{Event}
use Rattle.sky_model.specs.History.{Batch, of_session, began, ended, queued, made, raised, put, ticked, registered, moved, unregistered, opened, closed, History}
use Rattle.sky_model.specs.Queues.{events}
use Rattle.sky_model.specs.Consumers.{consumers, position, subscription, last_subscription, active_batch}
use Rattle.sky_model.specs.LawsOfBatches.{first_tick, finished, stands_between, stands_in}
use Rattle.sky_histories.proofs.Legal.{Opens, begins, ends, makes, raises, puts, ticks_next, registers, moves, unregisters, opens, closes, Legal, start, next}

abbrev v : List ℕ
v = codes "v"

abbrev w : List ℕ
w = codes "w"

-- an event of the first transaction
abbrev event : Event
event = record {
  ev_id = 1;
  ev_time = pos 0;
  ev_txid = 3;
  ev_owner = None;
  ev_retry = None;
  ev_type = None;
  ev_data = None;
  ev_extra1 = None;
  ev_extra2 = None;
  ev_extra3 = None;
  ev_extra4 = None;
}

-- batches of the first consumer, and of the second
abbrev of_v : (id sub prev cur : ℕ) → Batch
of_v id sub prev cur = record { id = id; queue = 0; consumer = v; sub = sub; prev = prev; cur = cur }

abbrev of_w : (id prev cur : ℕ) → Batch
of_w id prev cur = record { id = id; queue = 0; consumer = w; sub = 2; prev = prev; cur = cur }

-- a queue with four ticks, and an event between the second and the third
abbrev ticks_made : History
ticks_made =
    queued (ticked 0 4 (pos 0) 1) ∷ queued (ticked 0 3 (pos 0) 1) ∷ ended (of_session 0) 3 true ∷ queued (put 0 event) ∷ queued (raised 0 1) ∷ began (of_session 0) 3
    ∷ queued (ticked 0 2 (pos 0) 0) ∷ queued (made (codes "q") 2 (pos 0)) ∷ []

-- the first consumer has a batch, and so has the second, which has finished one before
abbrev both_have : History
both_have =
    queued (opened (of_v 3 1 1 2)) ∷ queued (opened (of_w 2 3 4)) ∷ queued (closed (of_w 1 2 3)) ∷ queued (opened (of_w 1 2 3))
    ∷ queued (registered 0 w 2 2) ∷ queued (registered 0 v 1 1) ∷ ticks_made

abbrev ends_of : List Batch → List (ℕ × ℕ)
ends_of batches = map (λ (b : Batch). (b.prev, b.cur)) batches

finished_one : ends_of (finished 0 w both_have) ≡ (2, 3) ∷ []
finished_one = refl

-- ---- the second consumer is moved back

abbrev back : History
back = queued (moved 0 w 1) ∷ both_have

-- it is at the tick without a batch, keeps its id, and its life begins there
moved_there : subscription 0 w back ≡ Some (record { id = 2; position = 1; active = None })
moved_there = refl

given_up : active_batch 2 back ≡ None
given_up = refl

life_begins : (first_tick 0 w back ≡ 1) × (finished 0 w back ≡ [])
life_begins = (refl, refl)

-- the other keeps what it has
other_stays : (subscription 0 v back ≡ Some (record { id = 1; position = 1; active = Some 3 })) × (active_batch 3 back ≡ Some (of_v 3 1 1 2))
other_stays = (refl, refl)

as_before : consumers 0 back ≡ v ∷ w ∷ []
as_before = refl

-- what was listed in the life before is listed in this one, once
abbrev again : History
again = queued (closed (of_w 5 2 3)) ∷ queued (opened (of_w 5 2 3)) ∷ queued (closed (of_w 4 1 2)) ∷ queued (opened (of_w 4 1 2)) ∷ back

two_batches : (first_tick 0 w again ≡ 1) × (ends_of (finished 0 w again) ≡ (1, 2) ∷ (2, 3) ∷ []) × (position 0 w again ≡ 3)
two_batches = (refl, refl, refl)

listed_again : map (λ e. map (λ b. stands_in again b e) (finished 0 w again)) (events 0 again) ≡ (false ∷ true ∷ []) ∷ []
listed_again = refl

between_the_ends : map (stands_between again 0 2 1 3) (events 0 again) ≡ true ∷ []
between_the_ends = refl

-- ---- it is moved forward, over the event

abbrev forward : History
forward = queued (moved 0 w 4) ∷ again

passed_over : (first_tick 0 w forward ≡ 4) × (position 0 w forward ≡ 4) × (finished 0 w forward ≡ []) × (map (stands_between forward 0 2 4 4) (events 0 forward) ≡ false ∷ [])
passed_over = (refl, refl, refl, refl)

-- ---- the first one leaves

abbrev left_one : History
left_one = queued (unregistered 0 v 1) ∷ both_have

no_subscription : subscription 0 v left_one ≡ None
no_subscription = refl

no_batch : active_batch 3 left_one ≡ None
no_batch = refl

one_left : consumers 0 left_one ≡ w ∷ []
one_left = refl

second_stays : (subscription 0 w left_one ≡ Some (record { id = 2; position = 3; active = Some 2 })) × (active_batch 2 left_one ≡ Some (of_w 2 3 4))
second_stays = (refl, refl)

-- and registers again: as the last one, under a new id, and its old batch stays gone
abbrev anew : History
anew = queued (registered 0 v 3 4) ∷ left_one

new_subscription : (subscription 0 v anew ≡ Some (record { id = 3; position = 4; active = None })) × (last_subscription anew ≡ 3)
new_subscription = (refl, refl)

at_the_end : consumers 0 anew ≡ w ∷ v ∷ []
at_the_end = refl

stays_gone : active_batch 3 anew ≡ None
stays_gone = refl

-- when a consumer of the same name leaves another queue, this one stays as it is
elsewhere : (subscription 0 w (queued (unregistered 1 w 9) ∷ both_have) ≡ Some (record { id = 2; position = 3; active = Some 2 }))
    × (active_batch 2 (queued (moved 1 w 1) ∷ both_have) ≡ Some (of_w 2 3 4))
elsewhere = (refl, refl)

-- ---- all this may happen

ticks_legal : Legal ticks_made
ticks_legal =
    next (next (next (next (next (next (next (next start (makes (codes "q") 2 (pos 0) refl)) (ticks_next 0 2 (pos 0) 0 refl (omega arith) refl))
    (begins 0 refl)) (raises 0 1 refl (omega arith))) (puts 0 0 event refl refl refl (All-nil (λ (e : Event). e.ev_id < 1)))) (ends 0 3 true refl)) (ticks_next 0 3 (pos 0) 1 refl (omega arith) refl)) (ticks_next 0 4 (pos 0) 1 refl (omega arith) refl)

-- a batch of the second consumer is made, and finished
served : (h : History) (id prev cur : ℕ) → Opens h (of_w id prev cur) → active_batch id (queued (opened (of_w id prev cur)) ∷ h) ≡ Some (of_w id prev cur) → Legal h
    → Legal (queued (closed (of_w id prev cur)) ∷ queued (opened (of_w id prev cur)) ∷ h)
served h id prev cur o is l = next (next l (opens (of_w id prev cur) o)) (closes (of_w id prev cur) is)

both_legal : Legal both_have
both_legal =
    next (next (served _ 1 2 3 (record { within = refl; stands = refl; fresh = omega arith; closing = _; made = refl; to = refl }) refl
    (next (next ticks_legal (registers 0 v 1 1 refl refl (omega arith) (omega arith) (omega arith) (omega arith))) (registers 0 w 2 2 refl refl (omega arith) (omega arith) (omega arith) (omega arith))))
    (opens (of_w 2 3 4) (record { within = refl; stands = refl; fresh = omega arith; closing = _; made = refl; to = refl })))
    (opens (of_v 3 1 1 2) (record { within = refl; stands = refl; fresh = omega arith; closing = _; made = refl; to = refl }))

back_legal : Legal back
back_legal = next both_legal (moves 0 w 2 1 refl refl (omega arith) (omega arith) (omega arith))

again_legal : Legal again
again_legal =
    served _ 5 2 3 (record { within = refl; stands = refl; fresh = omega arith; closing = _; made = refl; to = refl }) refl
    (served _ 4 1 2 (record { within = refl; stands = refl; fresh = omega arith; closing = _; made = refl; to = refl }) refl back_legal)

forward_legal : Legal forward
forward_legal = next again_legal (moves 0 w 2 4 refl refl (omega arith) (omega arith) (omega arith))

anew_legal : Legal anew
anew_legal = next (next both_legal (unregisters 0 v 1 refl refl)) (registers 0 v 3 4 refl refl (omega arith) (omega arith) (omega arith) (omega arith))
