-- What holds as the clock moves: what setting the clock to a moment and the turns of daemons keep.
use Rattle.std.proofs.Common.{ℕ, zero, suc, ◌+◌, ℤ, ◌+ℤ◌, ◌-ℤ◌, int_lt, unsigned_abs, List, [], ◌∷◌, Bool, true, false, map, length, Option, Some, None, sym, subst, append-nil, if◌then◌else◌}
use Rattle.sky_model.specs.declared.daemon.DaemonPart.{DaemonPart}
use Rattle.sky_model.specs.declared.daemon.DaemonPart.TheVariants.{Tick, Retry, Maintain}
use Rattle.sky_model.specs.History.{Fact, within, clock_at, Past}
use Rattle.sky_model.specs.World.{world_of, on_top}
use Rattle.sky_model.specs.Settling.{Turn}
use Rattle.sky_model.specs.Reader.{within_database, by_past, Deed, answers_with, refuses, idles, followed}
use Rattle.sky_model.specs.declared.reply.Reply.TheVariants.{Moment}
use Rattle.sky_model.specs.declared.reply.Refusal.TheVariants.{ClockSpent}
use Rattle.sky_model.specs.Daemon.{daemon_does, is_due_at, next_due}
use Rattle.sky_model.specs.Moment.{last_moment}
use Rattle.sky_model.specs.Clock.{deed_in, part_works, daemon_works, daemons_work, at_moment, goes_to, through, clock_goes, clock}
use Rattle.sky_histories.proofs.PastHistories.{on_top-append}

-- what happens in a deed
abbrev facts_of : Deed → List Fact
facts_of deed = deed.facts

module _ (Q : Past → Type 0) (stands : (past : Past) (moment : ℤ) → Q past → Q (clock_at moment ∷ past))
    (works : (past : Past) (d : ℕ) (part : DaemonPart) (now : ℤ) → Q past → Q (on_top past (map (within d) (daemon_does (within_database by_past d) past part now).marks))) where
  after-followed : (past : Past) (rest : Past → Deed) (deed : Deed) → Q (on_top past deed.facts) → ((p : Past) → Q p → Q (on_top p (rest p).facts)) → Q (on_top past (followed by_past past rest deed).facts)
  after-followed past rest deed holds also = subst Q (sym (on_top-append past deed.facts (rest (on_top past deed.facts)).facts)) (also (on_top past deed.facts) holds)

  after-part : (d : ℕ) (part : DaemonPart) (past : Past) → Q past → Q (on_top past (part_works by_past d part past).facts)
  after-part d part past holds = of (is_due_at (world_of past).now part ((world_of past).daemons d))
    where
      turn : Turn
      turn = daemon_does (within_database by_past d) past part (world_of past).now

      of : (b : Bool) → Q (on_top past (facts_of (if b then deed_in d [] turn else idles)))
      of true = subst (λ fs. Q (on_top past fs)) (sym (append-nil (map (within d) turn.marks))) (works past d part (world_of past).now holds)
      of false = holds

  after-daemon : (d : ℕ) (past : Past) → Q past → Q (on_top past (daemon_works by_past d past).facts)
  after-daemon d past holds =
      after-followed past (λ q. followed by_past q (part_works by_past d Maintain) (part_works by_past d Retry q)) (part_works by_past d Tick past) (after-part d Tick past holds)
      (λ p still. after-followed p (part_works by_past d Maintain) (part_works by_past d Retry p) (after-part d Retry p still) (after-part d Maintain))

  after-daemons : (n d : ℕ) (past : Past) → Q past → Q (on_top past (daemons_work by_past n d past).facts)
  after-daemons zero d past holds = holds
  after-daemons (suc n) d past holds = after-followed past (daemons_work by_past n (d + 1)) (daemon_works by_past d past) (after-daemon d past holds) (after-daemons n (d + 1))

  after-moment : (moment : ℤ) (past : Past) → Q past → Q (on_top past (at_moment by_past moment past).facts)
  after-moment moment past holds =
      after-followed past (λ q. daemons_work by_past (length (world_of q).databases) 0 q) (record { answers = []; facts = clock_at moment ∷ [] }) (stands past moment holds)
      (λ p still. after-daemons (length (world_of p).databases) 0 p still)

  after-goes : (last : ℤ) (rest : Past → Deed) (past : Past) (o : Option ℤ) → Q past → ((p : Past) → Q p → Q (on_top p (rest p).facts)) → Q (on_top past (goes_to by_past last rest past o).facts)
  after-goes last rest past None holds also = holds
  after-goes last rest past (Some moment) holds also = of (int_lt last moment)
    where
      of : (b : Bool) → Q (on_top past (facts_of (if b then idles else followed by_past past rest (at_moment by_past moment past))))
      of true = holds
      of false = after-followed past rest (at_moment by_past moment past) (after-moment moment past holds) also

  after-through : (last : ℤ) (n : ℕ) (past : Past) → Q past → Q (on_top past (through by_past last n past).facts)
  after-through last zero past holds = holds
  after-through last (suc n) past holds =
      after-goes last (through by_past last n) past (next_due (world_of past).now (world_of past).daemons (length (world_of past).databases)) holds (after-through last n)

  after-clock_goes : (past : Past) (who : ℕ) (to : ℤ) → Q past → Q (on_top past (clock_goes by_past past who to).facts)
  after-clock_goes past who to holds = of (int_lt last_moment to)
    where
      n : ℕ
      n = unsigned_abs (to -ℤ (world_of past).now)

      of : (b : Bool) → Q (on_top past (facts_of (if b then refuses who ClockSpent else followed by_past past (λ q. answers_with who (Moment to) (clock_at to ∷ [])) (through by_past to n past))))
      of true = holds
      of false = after-followed past (λ q. answers_with who (Moment to) (clock_at to ∷ [])) (through by_past to n past) (after-through to n past holds) (λ p still. stands p to still)

  pub after-clock : (past : Past) (who : ℕ) (time : ℤ) (waits : Bool) → Q past → Q (on_top past (clock by_past past who time waits).facts)
  after-clock past who time true holds = holds
  after-clock past who time false holds = after-clock_goes past who ((world_of past).now +ℤ time) holds
