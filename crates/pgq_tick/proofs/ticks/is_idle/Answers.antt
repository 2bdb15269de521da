use Rattle.std.proofs.Common.{◌≡◌, ℤ, pos, ◌*ℤ◌, FitsSigned, to_z, of_z, w64, sym, ◌∙◌, ap}
use Rattle.std.specs.Prelude.{not, ◌||◌, ◌&&◌, int_lt}
use Rattle.std.proofs.lemmas.Int.{to_z-of_z}
use Rattle.pgq_tick.proofs.ticks.is_idle.Goals as goal
use Rattle.pgq_tick.proofs.ticks.is_idle.Goals.{then-is_early, else-is_early+then-is_steady, else-is_early+else-is_steady}

lt-as : (x y a b : ℤ) → FitsSigned w64 x → FitsSigned w64 y → x ≡ a → y ≡ b → int_lt (to_z w64 (of_z w64 x)) (to_z w64 (of_z w64 y)) ≡ int_lt a b
lt-as x y a b fx fy at bt = (λ i. int_lt (to_z-of_z w64 x fx i) (to_z-of_z w64 y fy i)) ∙ (λ i. int_lt (at i) (bt i))

pub returns : goal.returns
returns c =
    let lag = c.args.lag in
    let twice_lag : c.twice.result ≡ pos 2 *ℤ lag = c.twice.ensures ∙ ap (λ x. pos 2 *ℤ x) (to_z-of_z w64 lag c.ranges.lag) in
    let twice_gap : c.twice-2.result ≡ pos 2 *ℤ c.args.gap = c.twice-2.ensures ∙ ap (λ x. pos 2 *ℤ x) (to_z-of_z w64 c.args.gap c.ranges.gap) in
    let early = lt-as c.twice.result c.args.max_lag (pos 2 *ℤ lag) c.args.max_lag (record { sfits = c.twice.type_inv }) c.ranges.max_lag twice_lag (λ i. c.args.max_lag) in
    let steady = lt-as lag c.twice-2.result lag (pos 2 *ℤ c.args.gap) c.ranges.lag (record { sfits = c.twice-2.type_inv }) (λ i. lag) twice_gap in
    let idle = lt-as lag c.args.idle_period lag c.args.idle_period c.ranges.lag c.ranges.idle_period (λ i. lag) (λ i. c.args.idle_period) in
    ap not (elim c.if-is_early.branch [
      | then-is_early w ↦ w.result-is ∙ w.if-is_early.true ∙ ap (λ b. b || (int_lt lag (pos 2 *ℤ c.args.gap) && int_lt lag c.args.idle_period)) (sym w.if-is_early.true ∙ early)
      | else-is_early+then-is_steady w ↦ w.result-is ∙ idle
          ∙ (λ i. (sym w.if-is_early.false ∙ early) i || ((sym w.if-is_steady.true ∙ steady) i && int_lt lag c.args.idle_period))
      | else-is_early+else-is_steady w ↦ w.result-is ∙ w.if-is_steady.false
          ∙ (λ i. (sym w.if-is_early.false ∙ early) i || ((sym w.if-is_steady.false ∙ steady) i && int_lt lag c.args.idle_period))
    ])
