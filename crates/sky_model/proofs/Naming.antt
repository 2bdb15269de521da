-- Answers whose sessions, and those that they name, have names.
use Rattle.std.proofs.Common.{◌≡◌, ℕ, zero, suc, true, ◌<◌, List, [], ◌∷◌, ◌++◌, map, length, unwrap_or, refl, ap, ◌∙◌, arith, codes, All, slice_get, flat_map}
use Rattle.sky_model.specs.declared.reply.Reply.{Reply}
use Rattle.sky_model.specs.declared.reply.Reply.TheVariants as reply
use Rattle.sky_model.specs.declared.reply.Refusal.TheVariants as refusal
use Rattle.sky_model.specs.Printed.{spaced, name_at, reply_lines, line_text, reply_text, printed, sessions_in, AllNamed}

slice_get-front : {A : Type 0} → (xs ys : List A) (n : ℕ) → n < length xs → slice_get (xs ++ ys) n ≡ slice_get xs n
slice_get-front [] ys n within = absurd (omega arith)
slice_get-front (x ∷ xs) ys zero within = refl
slice_get-front (x ∷ xs) ys (suc n) within = slice_get-front xs ys n (omega arith)

name_at-front : (names more : List (List ℕ)) (n : ℕ) → n < length names → name_at (names ++ more) n ≡ name_at names n
name_at-front names more n within = ap (λ name. unwrap_or name []) (slice_get-front names more n within)

names_at-front : (names more : List (List ℕ)) (ns : List ℕ) → All (λ who. who < length names) ns → map (name_at (names ++ more)) ns ≡ map (name_at names) ns
names_at-front names more [] named = refl
names_at-front names more (n ∷ ns) named = λ i.
    name_at-front names more n (named zero n (omega arith)) i ∷ names_at-front names more ns (λ k who within. named (suc k) who (omega arith)) i

lines-named : (names more : List (List ℕ)) (r : Reply) → All (λ who. who < length names) (sessions_in r) → reply_lines (names ++ more) r ≡ reply_lines names r
lines-named names more (reply.Waits holder) named = ap (λ name. (codes "waits for " ++ name) ∷ []) (name_at-front names more holder (named zero holder (omega arith)))
lines-named names more (reply.Refused (refusal.Deadlock waiters)) named = ap (λ words. (codes "error " ++ codes "Deadlock" ++ spaced words) ∷ []) (names_at-front names more waiters named)
lines-named names more (reply.Bool true) named = refl
lines-named names more _ named = refl

-- further names change nothing for answers whose sessions have one, and that name none without one
pub printed-named : (names more : List (List ℕ)) (replies : List (ℕ × Reply)) → AllNamed names replies → printed (names ++ more) replies ≡ printed names replies
printed-named names more [] named = refl
printed-named names more (answer ∷ replies) named =
    let first : (answer.0 < length names) × All (λ who. who < length names) (sessions_in answer.1) = named zero answer (omega arith) in
    (λ i. flat_map (line_text (name_at-front names more answer.0 first.0 i)) (lines-named names more answer.1 first.1 i) ++ printed (names ++ more) replies)
    ∙ ap (λ rest. reply_text names (name_at names answer.0) answer.1 ++ rest) (printed-named names more replies (λ k d within. named (suc k) d (omega arith)))
