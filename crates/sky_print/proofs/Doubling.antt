-- A text with each quote in it twice, byte by byte.
use Rattle.std.proofs.Common.{◌≡◌, ℕ, ◌+◌, ◌<◌, ◌==◌, if◌then◌else◌, Bool, true, false, List, [], ◌∷◌, ◌++◌, length, take, get_or, refl, sym, ap, ap₂, ◌∙◌, append_assoc}
use Rattle.std.proofs.lemmas.Bool.{false_from_ne_true, eqb-true}
use Rattle.std.proofs.lemmas.List.{take_more}
use Rattle.sky_model.specs.Printed.{doubled}

doubled-append : (one other : List ℕ) → doubled (one ++ other) ≡ doubled one ++ doubled other
doubled-append [] other = refl
doubled-append (b ∷ one) other = by (b == 39) (doubled-append one other)
  where
    by : (quote : Bool) → doubled (one ++ other) ≡ doubled one ++ doubled other
        → (if quote then 39 ∷ 39 ∷ doubled (one ++ other) else b ∷ doubled (one ++ other))
        ≡ (if quote then 39 ∷ 39 ∷ doubled one else b ∷ doubled one) ++ doubled other
    by true rest = ap (λ bytes. 39 ∷ 39 ∷ bytes) rest
    by false rest = ap (λ bytes. b ∷ bytes) rest

-- one byte more
pub doubled-take : (text : List ℕ) (i : ℕ) → i < length text
    → doubled (take (i + 1) text) ≡ doubled (take i text) ++ (if get_or text i 0 == 39 then 39 ∷ 39 ∷ [] else get_or text i 0 ∷ [])
doubled-take text i within = ap doubled (take_more text i 0 within) ∙ doubled-append (take i text) (get_or text i 0 ∷ [])

-- a quote was written twice, after the bytes before it
pub doubled-quote : (text : List ℕ) (i : ℕ) (old mid between new : List ℕ) → i < length text → mid ≡ old ++ doubled (take i text)
    → get_or text i 0 ≡ 39 → between ≡ mid ++ 39 ∷ [] → new ≡ between ++ get_or text i 0 ∷ [] → new ≡ old ++ doubled (take (i + 1) text)
doubled-quote text i old mid between new within before quote first second =
    let front = doubled (take i text) in
    let twice : doubled (take (i + 1) text) ≡ front ++ 39 ∷ 39 ∷ [] =
    doubled-take text i within ∙ ap (λ q. front ++ (if q then 39 ∷ 39 ∷ [] else get_or text i 0 ∷ [])) (ap (λ b. b == 39) quote) in
    second
    ∙ ap₂ (λ start b. start ++ b ∷ []) first quote
    ∙ append_assoc mid (39 ∷ []) (39 ∷ [])
    ∙ ap (λ start. start ++ 39 ∷ 39 ∷ []) before
    ∙ append_assoc old front (39 ∷ 39 ∷ [])
    ∙ ap (λ more. old ++ more) (sym twice)

-- any other byte once
pub doubled-plain : (text : List ℕ) (i : ℕ) (old mid between new : List ℕ) → i < length text → mid ≡ old ++ doubled (take i text)
    → ¬ (get_or text i 0 ≡ 39) → between ≡ mid → new ≡ between ++ get_or text i 0 ∷ [] → new ≡ old ++ doubled (take (i + 1) text)
doubled-plain text i old mid between new within before plain same second =
    let front = doubled (take i text) in
    let byte = get_or text i 0 in
    let once : doubled (take (i + 1) text) ≡ front ++ byte ∷ [] =
    doubled-take text i within ∙ ap (λ q. front ++ (if q then 39 ∷ 39 ∷ [] else byte ∷ [])) (false_from_ne_true (byte == 39) (λ is. plain (eqb-true byte 39 is))) in
    second ∙ ap (λ start. start ++ byte ∷ []) (same ∙ before) ∙ append_assoc old front (byte ∷ []) ∙ ap (λ more. old ++ more) (sym once)
