-- Each answer is tested, until one fails.
use Rattle.std.proofs.Common.{refl, rules, tests, ◌<◌, ◌↔◌, All, MatchBool, IsTrue, length, ℕ, List, Bool, true, false}
use Rattle.std.specs.List.{AllWithin, HoldsAt}
use Rattle.std.proofs.lemmas.Bool.{false≢true}
use Rattle.std.proofs.lemmas.Iterator.{cases_from_all, YieldsList-from_slice}
use Rattle.std.proofs.lemmas.Iterator.Search.{true_from_All}
use Rattle.std.proofs.lemmas.List.Elements.{All-from_all_within}
use Rattle.sky_model.specs.declared.reply.Reply.{Reply}
use Rattle.sky_model.specs.Printed.{sessions_in}
use Rattle.sky_loop.proofs.answers.have_names.Goals as goal

-- what is tested
abbrev IsNamed : List (List ℕ) → ℕ × Reply → Type 0
IsNamed names answer = (answer.0 < length names) × All (λ who. who < length names) (sessions_in answer.1)

-- a test of each element that stops at the first that fails decides of all
tells-all : {X : Type 0} (P : X → Type 0) (r : Bool) (xs : List X)
    → MatchBool r (AllWithin P xs 0 (length xs)) ((k : ℕ) × (k < length xs) × HoldsAt (λ x. P x → ⊥) xs k) → IsTrue r ↔ All P xs
tells-all P true xs by_call = (λ _. All-from_all_within P xs by_call, λ _. refl)
tells-all P false xs by_call = (λ t. absurd (false≢true t), λ all. true_from_All P (λ x. P x → ⊥) false xs (λ x p no. no p) by_call all)

pub returns : goal.returns
returns c =
    let names = c.args.names.now in
    let xs = c.args.replies.now in
    tells-all (IsNamed names) c.all.result xs
    (cases_from_all _ _ _ (IsNamed names) (λ a. IsNamed names a → ⊥) c.all.ensures.ran (YieldsList-from_slice xs cc)
    (λ x q k. search (rules, tests)) (λ x q k. search (rules, tests)))
