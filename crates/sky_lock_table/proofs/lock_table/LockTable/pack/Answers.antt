use Rattle.std.proofs.Common.{◌≡◌, ◌<◌, ◌≤◌, ◌+◌, ◌∙◌, ap, sym, subst, refl, length, drop, None, Some, arith}
use Rattle.sky_lock_table.specs.Sessions.{arrival_of}
use Rattle.sky_lock_table.specs.Waiters.{entry_at, is_of, waiting_in, IsKept}
use Rattle.sky_lock_table.specs.Slots.{SlotsView, queue_at, holder_at, held_in}
use Rattle.std.proofs.lemmas.Bool.{eq-eqb}
use Rattle.sky_lock_table.proofs.EntryLemmas.{Entries, waiting-packed}
use Rattle.sky_lock_table.proofs.PackLemmas.{renumbered, packed-places, step-some, step-none, step-last, kept-packed}
use Rattle.sky_lock_table.specs.Holders.{is_holder}
use Rattle.sky_lock_table.specs.Sessions.{has_key}
use Rattle.sky_lock_table.proofs.lock_table.LockTable.pack.Goals.{in-Some, in_default}
use Rattle.sky_lock_table.proofs.lock_table.LockTable.pack.Goals as goal

pub loop-arrival-init : goal.loop-arrival-init
loop-arrival-init c = (
  λ s. refl,
  λ s b its. packed-places c.self.inside.entries c.self.inside.arrivals.numbers.items c.self.invariant.kept.sessions s b (ap (λ (es : Entries). is_of s (entry_at es b)) (sym c.pack.ensures) ∙ its),
  refl,
  refl,
  refl,
)

pub set-requires : goal.set-requires
set-requires c =
    c.loop-arrival.invariant.1 c.in-Some.waiter.now.who c.loop-arrival.arrival
    (ap (is_of c.in-Some.waiter.now.who) (ap (λ (es : Entries). entry_at es c.loop-arrival.arrival) (sym c.loop-arrival.invariant.2) ∙ sym c.in-Some.ensures) ∙ eq-eqb c.in-Some.waiter.now.who c.in-Some.waiter.now.who refl)

pub loop-arrival-preserved : goal.loop-arrival-preserved
loop-arrival-preserved c =
    let within : c.loop-arrival.arrival < length c.pack.new.self = omega (arith, c.end-arrival-end.ensures) in
    elim c.match-get.branch [
      | in-Some w ↦
          let here : entry_at c.pack.new.self c.loop-arrival.arrival ≡ Some w.in-Some.waiter.now = ap (λ (es : Entries). entry_at es c.loop-arrival.arrival) (sym c.loop-arrival.invariant.2) ∙ sym w.in-Some.ensures in (
            λ s. (λ i. renumbered (arrival_of (w.self-inside-is i).arrivals.numbers.items) (c.loop-arrival.arrival + 1) (drop (c.loop-arrival.arrival + 1) c.pack.new.self) s)
                ∙ step-some (arrival_of c.loop-arrival.self-inside.arrivals.numbers.items) (arrival_of w.set.new.self.numbers.items) c.pack.new.self c.loop-arrival.arrival w.in-Some.waiter.now s
                _ within here w.set.ensures.set (c.loop-arrival.invariant.0 s),
            λ s b its. subst (λ n. s < n) (sym ((λ i. length (w.self-inside-is i).arrivals.numbers.items) ∙ w.set.ensures.places)) (c.loop-arrival.invariant.1 s b its),
            (λ i. (w.self-inside-is i).entries) ∙ c.loop-arrival.invariant.2,
            (λ i. (w.self-inside-is i).slots) ∙ c.loop-arrival.invariant.3,
            (λ i. (w.self-inside-is i).listed) ∙ c.loop-arrival.invariant.4,
          )
      | in_default w ↦
          let here : entry_at c.pack.new.self c.loop-arrival.arrival ≡ None = ap (λ (es : Entries). entry_at es c.loop-arrival.arrival) (sym c.loop-arrival.invariant.2) ∙ sym w.in_default.ensures in (
            λ s. (λ i. renumbered (arrival_of (w.self-inside-is i).arrivals.numbers.items) (c.loop-arrival.arrival + 1) (drop (c.loop-arrival.arrival + 1) c.pack.new.self) s)
                ∙ step-none (arrival_of c.loop-arrival.self-inside.arrivals.numbers.items) c.pack.new.self c.loop-arrival.arrival s _ within here (c.loop-arrival.invariant.0 s),
            λ s b its. subst (λ n. s < n) (sym ((λ i. length (w.self-inside-is i).arrivals.numbers.items))) (c.loop-arrival.invariant.1 s b its),
            (λ i. (w.self-inside-is i).entries) ∙ c.loop-arrival.invariant.2,
            (λ i. (w.self-inside-is i).slots) ∙ c.loop-arrival.invariant.3,
            (λ i. (w.self-inside-is i).listed) ∙ c.loop-arrival.invariant.4,
          )
    ]

pub invariant_of-self : goal.invariant_of-self
invariant_of-self c =
    let past : length c.pack.new.self ≤ c.loop-arrival.arrival = omega (arith, c.end-arrival-end.ensures) in
    let kept = kept-packed c.self.inside.entries c.pack.new.self c.self.inside.arrivals.numbers.items c.loop-arrival.self-inside.arrivals.numbers.items (queue_at c.self.inside.slots) c.self.invariant.kept c.pack.ensures
    (λ s. step-last (arrival_of c.loop-arrival.self-inside.arrivals.numbers.items) c.pack.new.self c.loop-arrival.arrival s _ past (c.loop-arrival.invariant.0 s)) in
    record {
      kept = subst (λ (es : Entries). IsKept es c.loop-arrival.self-inside.arrivals.numbers.items (queue_at c.loop-arrival.self-inside.slots)) (sym c.loop-arrival.invariant.2)
          (subst (λ (slots : SlotsView). IsKept c.pack.new.self c.loop-arrival.self-inside.arrivals.numbers.items (queue_at slots)) (sym c.loop-arrival.invariant.3) kept);
      holds = λ s q. (λ i. has_key (c.loop-arrival.invariant.4 i) s q) ∙ c.self.invariant.holds s q ∙ (λ i. is_holder s (holder_at (sym c.loop-arrival.invariant.3 i) q));
    }

pub returns : goal.returns
returns c =
    let waiting = ap waiting_in (c.loop-arrival.invariant.2 ∙ c.pack.ensures) ∙ waiting-packed c.self.inside.entries in
    (λ i. record { held = held_in (c.loop-arrival.invariant.3 i); waiting = waiting i; listed = c.loop-arrival.invariant.4 i; places = (c.loop-arrival.invariant.3 i).places }) ∙ c.self.view_is
