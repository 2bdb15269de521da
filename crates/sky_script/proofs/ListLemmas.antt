-- Going over the words of a list.
use Rattle.std.proofs.Common.{◌≡◌, ◌≢◌, List, [], ◌∷◌, ◌++◌, subst, append_assoc, Result, Ok, Err}
use Rattle.sky_model.specs.declared.stmt.Stmt.{Stmt}
use Rattle.sky_model.specs.declared.line.Fixed.{Fixed}
use Rattle.sky_model.specs.Kinds.{Kind, Of}
use Rattle.sky_model.specs.Grammar.{GrammarRow, stop, literal, many, some, some_until}
use Rattle.sky_script.specs.declared.cause.LineCause.{LineCause}
use Rattle.sky_script.specs.declared.cause.LineCause.TheVariants.{NoMemory}
use Rattle.sky_script.specs.Unread.{Unread}
use Rattle.sky_script.specs.Reading.{Answers, Goes, Stops, GoesLast, StopsLast, GoesUntil, StopsUntil}
use Rattle.sky_script.proofs.ReadingLemmas.{many_ends, many_goes_on}

-- these values were read, and more follow: what answers those answers the list; `tail` is what follows a list
pub record SoFar {X : Type 0} (tail : X → GrammarRow) (k : Kind) (vs : List (Of k)) (old now : Unread) : Type 0 where
  pub behind : (r : Result Stmt LineCause) (make : List (Of k) → X) → Answers r (some k (λ more. tail (make (vs ++ more)))) now → Answers r (some k (λ all. tail (make all))) old

pub so_far_none : {X : Type 0} (tail : X → GrammarRow) (k : Kind) (at : Unread) → SoFar tail k [] at at
so_far_none tail k at = record { behind = λ r make rest. rest }

-- more follow after one
so_far_one : {X : Type 0} (tail : X → GrammarRow) (k : Kind) (vs : List (Of k)) (v : Of k) (old now new : Unread) → SoFar tail k vs old now → Goes k v now new
    → ((r : Result Stmt LineCause) (make : List (Of k) → X) → Answers r (some k (λ ws. tail (make ws))) new → Answers r (many k (λ ws. tail (make ws))) new)
    → SoFar tail k (vs ++ v ∷ []) old new
so_far_one {X} tail k vs v old now new so goes goes_on = record {
  behind = λ r make rest.
      let Rest : (List (Of k) → X) → Type 0 = λ g. Answers r (some k (λ ws. tail (g ws))) new in
      let same : Rest (λ ws. make (vs ++ v ∷ ws)) = subst Rest (λ i ws. make (append_assoc vs (v ∷ []) ws i)) rest in
      so.behind r make (goes.on r (λ w. many k (λ ws. tail (make (vs ++ w ∷ ws)))) (goes_on r (λ ws. make (vs ++ v ∷ ws)) same));
}

pub last_more : (k : Kind) (vs : List (Of k)) (v : Of k) (old now new : Unread) → SoFar stop k vs old now → Goes k v now new → new.left ≢ [] → SoFar stop k (vs ++ v ∷ []) old new
last_more k vs v old now new so goes more = so_far_one stop k vs v old now new so goes (λ r make rest. many_goes_on k r make new more rest)

pub last_ends : (k : Kind) (vs : List (Of k)) (v : Of k) (old now new : Unread) → SoFar stop k vs old now → Goes k v now new → new.left ≡ [] → GoesLast k (vs ++ v ∷ []) old
last_ends k vs v old now new so goes none = λ make.
    so.behind (Ok (make (vs ++ v ∷ []))) make (goes.on _ (λ w. many k (λ ws. stop (make (vs ++ w ∷ ws)))) (many_ends k (λ ws. make (vs ++ v ∷ ws)) new none))

pub last_stops : (k : Kind) (vs : List (Of k)) (cause : LineCause) (old now : Unread) → SoFar stop k vs old now → Stops k cause now → StopsLast k cause old
last_stops k vs cause old now so stops = λ make. so.behind (Err cause) make (stops.bad _)

pub last_memory : (k : Kind) (cause : LineCause) (old : Unread) → cause ≡ NoMemory → StopsLast k cause old
unfolding Answers
last_memory k cause old is = λ make. rw is tt

pub until_more : (end : Fixed) (k : Kind) (vs : List (Of k)) (v : Of k) (old now new : Unread) → SoFar (literal end) k vs old now → Goes k v now new
    → ((r : Result Stmt LineCause) (f : List (Of k) → GrammarRow) → Answers r (some_until end k f) new → Answers r (many k (λ ws. literal end (f ws))) new)
    → SoFar (literal end) k (vs ++ v ∷ []) old new
until_more end k vs v old now new so goes goes_on = so_far_one (literal end) k vs v old now new so goes goes_on

pub until_ends : (end : Fixed) (k : Kind) (vs : List (Of k)) (v : Of k) (old now at new : Unread) → SoFar (literal end) k vs old now → Goes k v now at
    → ((r : Result Stmt LineCause) (f : List (Of k) → GrammarRow) → Answers r (f []) new → Answers r (many k (λ ws. literal end (f ws))) at)
    → GoesUntil end k (vs ++ v ∷ []) old new
until_ends end k vs v old now at new so goes ends = λ r f rest.
    so.behind r f (goes.on r (λ w. many k (λ ws. literal end (f (vs ++ w ∷ ws)))) (ends r (λ ws. f (vs ++ v ∷ ws)) rest))

pub until_stops : (end : Fixed) (k : Kind) (vs : List (Of k)) (cause : LineCause) (old now : Unread) → SoFar (literal end) k vs old now → Stops k cause now → StopsUntil end k cause old
until_stops end k vs cause old now so stops = λ f. so.behind (Err cause) f (stops.bad _)

pub until_memory : (end : Fixed) (k : Kind) (cause : LineCause) (old : Unread) → cause ≡ NoMemory → StopsUntil end k cause old
unfolding Answers
until_memory end k cause old is = λ f. rw is tt
