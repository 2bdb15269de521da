-- What calls for nodes, one after another, leave in a database and in the world.
use Rattle.std.proofs.Common.{◌≡◌, ℕ, ◌==◌, List, [], ◌∷◌, ◌++◌, false, map, refl, sym, ◌∙◌, ap, if◌then◌else◌}
use Rattle.std.proofs.lemmas.List.{map-append}
use Rattle.sky_model.specs.History.{Mark, within}
use Rattle.sky_model.specs.State.{Database, after_marks}
use Rattle.sky_model.specs.Outcome.{marks_of}
use Rattle.sky_model.specs.StepNode.{NodeCall, node_does}
use Rattle.sky_model.specs.World.{World, after_facts}
use Rattle.sky_model.specs.WorkersOfWorld.{call_facts, calls_facts}
use Rattle.sky_histories.proofs.DatabaseStanding.{after_marks-append}
use Rattle.sky_histories.proofs.Good.{same-session}
use Rattle.londiste_batches.specs.Moved.{after_call, after_calls}
use Rattle.sky_world.proofs.Worlds.{after_facts-within}

-- their marks
abbrev pub marks_of_all : Database → List NodeCall → List Mark
marks_of_all d [] = []
marks_of_all d (call ∷ calls) = marks_of (node_does d call) ++ marks_of_all (after_call d call) calls

pub after-all : (d : Database) (calls : List NodeCall) → after_calls d calls ≡ after_marks d (marks_of_all d calls)
after-all d [] = refl
after-all d (call ∷ calls) = after-all (after_call d call) calls ∙ sym (after_marks-append d (marks_of (node_does d call)) (marks_of_all (after_call d call) calls))

-- a database after marks in it
pub changed-there : (w : World) (d : ℕ) (marks : List Mark) → (after_facts w (map (within d) marks)).database d ≡ after_marks (w.database d) marks
changed-there w d marks =
    ap (λ (x : World). x.database d) (after_facts-within w d marks) ∙ ap (λ b. if b then after_marks (w.database d) marks else w.database d) (same-session d)

-- and another one
pub unchanged-there : (w : World) (p d : ℕ) (marks : List Mark) → (p == d) ≡ false → (after_facts w (map (within p) marks)).database d ≡ w.database d
unchanged-there w p d marks apart =
    ap (λ (x : World). x.database d) (after_facts-within w p marks) ∙ ap (λ b. if b then after_marks (w.database d) marks else w.database d) apart

-- their facts
pub facts-all : (w : World) (d : ℕ) (calls : List NodeCall) → calls_facts w d calls ≡ map (within d) (marks_of_all (w.database d) calls)
facts-all w d [] = refl
facts-all w d (call ∷ calls) =
    ap (λ fs. call_facts w d call ++ fs) (facts-all (after_facts w (call_facts w d call)) d calls ∙ ap (λ x. map (within d) (marks_of_all x calls)) (changed-there w d (marks_of (node_does (w.database d) call))))
    ∙ sym (map-append (within d) (marks_of (node_does (w.database d) call)) (marks_of_all (after_call (w.database d) call) calls))
