-- A statement is made the same at places that read alike.
use Rattle.std.proofs.Common.{◌≡◌, ℕ, Ok, Err, ◌∙◌, ap, if◌then◌else◌}
use Rattle.sky_model.specs.declared.stmt.Where.{Where}
use Rattle.sky_model.specs.History.{sight_taken}
use Rattle.sky_model.specs.Outcome.{Checked, or_refused}
use Rattle.sky_model.specs.Allowed.{allowed}
use Rattle.sky_model.specs.Made.{Making, takes_sight, looking, runs_if, made_by}

-- two places read alike: the session and the outcome are the same there, and after the mark that takes the sight
pub record Alike {P Q : Type 0} (m : Making P) (n : Making Q) (who : ℕ) (p : P) (q : Q) : Type 0 where
  pub sessions : m.session p ≡ n.session q
  pub waiting : m.waits p ≡ n.waits q
  pub outcomes : m.outcome p ≡ n.outcome q
  pub sessions_behind : m.session (m.behind p (sight_taken who)) ≡ n.session (n.behind q (sight_taken who))
  pub outcomes_behind : m.outcome (m.behind p (sight_taken who)) ≡ n.outcome (n.behind q (sight_taken who))

same-runs_if : {P Q : Type 0} (m : Making P) (n : Making Q) (place : Where) (who : ℕ) (p : P) (q : Q) → Alike m n who p q
    → (may : Checked (Unit {0})) → runs_if m place who p may ≡ runs_if n place who q may
same-runs_if m n place who p q alike (Err refusal) = ap (λ s. or_refused who s (Err refusal)) alike.sessions
same-runs_if m n place who p q alike (Ok _) = λ i.
    if takes_sight place (alike.sessions i).sight then looking who (or_refused who (alike.sessions_behind i) (alike.outcomes_behind i))
    else or_refused who (alike.sessions i) (alike.outcomes i)

pub same-made_by : {P Q : Type 0} (m : Making P) (n : Making Q) (place : Where) (who : ℕ) (p : P) (q : Q) → Alike m n who p q → made_by m place who p ≡ made_by n place who q
same-made_by m n place who p q alike =
    (λ i. runs_if m place who p (allowed (alike.waiting i) (alike.sessions i).is_open (alike.sessions i).block place))
    ∙ same-runs_if m n place who p q alike (allowed (n.waits q) (n.session q).is_open (n.session q).block place)
