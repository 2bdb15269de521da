-- How a promise is kept.
use Rattle.std.proofs.Common.{◌≡◌, List, ◌∷◌, All, ◌∙◌, ap}
use Rattle.std.proofs.lemmas.List.Elements.{All-cons}
use Rattle.sky_model.specs.Promises.{Part, after_all, Promises}

-- a call keeps its promise if by what the part shows alone it answers and changes what it does by what has happened
pub promised : {C H V A : Type 0} (part : Part C H V A) (in_form : C → Type 0) (call : C) (answers : V → A) (changed : V → V)
    → ((calls : List C) → All in_form calls → answers (part.shows (after_all part calls)) ≡ part.answers (after_all part calls) call)
    → ((calls : List C) → All in_form calls → changed (part.shows (after_all part calls)) ≡ part.shows (part.after (after_all part calls) call))
    → (old new : V) (answer : A) → answer ≡ answers old → new ≡ changed old → Promises part in_form old new call answer
promised part in_form call answers changed same_answers same_changes old new answer replied stands = record {
  answered = λ calls formed is. replied ∙ ap answers is ∙ same_answers calls formed;
  stands = λ calls formed is. stands ∙ ap changed is ∙ same_changes calls formed;
}

-- two calls that keep theirs, one after another: what holds after the first holds before the second
pub chained : {C H V A : Type 0} (part : Part C H V A) (in_form : C → Type 0) (old mid new : V) (first second : C) (answer later : A)
    → Promises part in_form old mid first answer → in_form first → Promises part in_form mid new second later
    → (calls : List C) → All in_form calls → old ≡ part.shows (after_all part calls)
    → (later ≡ part.answers (after_all part (first ∷ calls)) second) × (new ≡ part.shows (after_all part (second ∷ first ∷ calls)))
chained part in_form old mid new first second answer later one formed other calls all is =
    let both : All in_form (first ∷ calls) = All-cons in_form first calls formed all in
    (other.answered (first ∷ calls) both (one.stands calls all is), other.stands (first ∷ calls) both (one.stands calls all is))
