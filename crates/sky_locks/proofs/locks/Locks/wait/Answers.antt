use Rattle.std.proofs.Common.{◌≤◌, ◌+◌, ◌∙◌, ◌∷◌, ◌++◌, [], ap, sym, refl, length, arith, vec_capacity}
use Rattle.sky_keys.specs.Waits.{other_than}
use Rattle.sky_keys.proofs.WaitLemmas.{no_way}
use Rattle.sky_lock_table.specs.Holders.{holder_of}
use Rattle.sky_lock_table.specs.Waiters.{entry}
use Rattle.sky_locks.specs.Locks.{LocksView, holder, waits_for_in}
use Rattle.sky_locks.proofs.ListedLemmas.{other_holds, listed_arrived, listed_held}
use Rattle.sky_locks.proofs.RingLemmas.{ring_way, no_ring}
use Rattle.sky_locks.proofs.locks.Locks.wait.Goals as goal

pub invariant_of-self-2 : goal.invariant_of-self-2
invariant_of-self-2 c =
    let fits : length c.self.inside.table.waiting + 1 ≤ vec_capacity c.reserve.new.self = omega (arith, c.in_ok-reserve.ensures.ok, c.count.ensures.count) in
    listed_held c.self.inside.table.held c.arrive.new.self.held c.arrive.new.self.waiting c.reserve.new.self.items (vec_capacity c.reserve.new.self)
    (listed_arrived c.self.inside.table.held c.self.inside.table.waiting c.arrive.new.self.waiting c.self.inside.freed.items c.reserve.new.self.items (vec_capacity c.self.inside.freed) (vec_capacity c.reserve.new.self) c.args.who c.args.key.now c.self.invariant
    (other_holds c.args.who c.args.other (holder_of c.self.inside.table.held c.args.key.now) (ap (λ (l : LocksView). other_than c.args.who (holder_of l.held c.args.key.now)) c.self.view_is ∙ c.requires.holds))
    c.in_ok-arrive.ensures.ok c.reserve.ensures.items fits) c.arrive.ensures.holders

pub returns-in-Some-clause-closes : goal.returns-in-Some-clause-closes
returns-in-Some-clause-closes c =
    let found = ring_way (waits_for_in c.args.self.now) c.args.who (length c.args.self.now.waiting) c.args.other c.in-Some.ring (sym c.in-Some.is ∙ c.in_ok-ring.ensures) in
    record {
      way = found.0;
      holds = c.requires.holds;
      leads = found.1;
      closed = found.2;
      same = refl;
    }

pub returns-clause-waits : goal.returns-clause-waits
returns-clause-waits c = record {
  holds = c.requires.holds;
  apart = no_way (holder c.args.self.now) c.args.self.now.waiting c.args.who c.args.other
      (no_ring (waits_for_in c.args.self.now) c.args.who (length c.args.self.now.waiting) c.args.other (sym c.in_default.is ∙ c.in_ok-ring.ensures));
  held = (λ i table key. c.arrive.ensures.holders (record { table = table; key = key }) i) ∙ ap holder c.self.view_is;
  waiting = c.in_ok-arrive.ensures.ok ∙ ap (λ (l : LocksView). l.waiting ++ entry c.args.who c.args.key.now ∷ []) c.self.view_is;
}
