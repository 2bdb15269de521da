-- Texts that grow at their end.
use Rattle.std.proofs.Common.{◌≡◌, ℕ, zero, suc, ◌+◌, ◌<◌, ◌≤◌, List, [], ◌∷◌, ◌++◌, length, take, get_or, map, Result, Ok, Err, sym, refl, ◌∙◌, ap, arith, append_assoc, append-nil}
use Rattle.std.specs.Result.{OnErr}
use Rattle.std.proofs.Math.Seq.{take-append_seam}
use Rattle.std.proofs.lemmas.List.{take_more, map-append}
use Rattle.std.specs.Fmt.{decimal}
use Rattle.std.specs.List.{join_with_byte}
use Rattle.sky_txid.specs.SnapshotText.{comma}

-- what begins with a longer text begins with the shorter one
pub kept_before : (old more new : List ℕ) → take (length (old ++ more)) new ≡ old ++ more → take (length old) new ≡ old
kept_before [] more new h = refl
kept_before (x ∷ old) more [] h = absurd (cc)
kept_before (x ∷ old) more (y ∷ new) h = grind (arith, h, kept_before old more new)

-- the same, of a text that is the old one and more
pub kept_by : (old more mid new : List ℕ) → mid ≡ old ++ more → take (length mid) new ≡ mid → take (length old) new ≡ old
kept_by old more mid new is h = kept_before old more new (rw is at h)

-- what was appended to leaves what was there before
pub kept_under : (old more new : List ℕ) → new ≡ old ++ more → take (length old) new ≡ old
kept_under old more new is = rw is (take-append_seam old more)

-- what is true however a call ends is true where it fails
pub where_failed : {T E : Type 0} {P : Type 0} (r : Result T E) → P → OnErr r P
where_failed (Ok v) p = tt
where_failed (Err e) p = p

-- one more piece, appended
pub join-push : (c : ℕ) (first : List ℕ) (pieces : List (List ℕ)) (piece : List ℕ) → join_with_byte c ((first ∷ pieces) ++ piece ∷ []) ≡ join_with_byte c (first ∷ pieces) ++ (c ∷ piece)
join-push c first [] piece = refl
join-push c first (second ∷ pieces) piece =
    ap (λ rest. first ++ (c ∷ rest)) (join-push c second pieces piece) ∙ sym (append_assoc first (c ∷ join_with_byte c (second ∷ pieces)) (c ∷ piece))

-- one more id in a list's text: the first, and a later one
pub list_text_first : (ids : List ℕ) → 0 < length ids → join_with_byte comma (map decimal (take (0 + 1) ids)) ≡ decimal (get_or ids 0 0)
list_text_first [] h = absurd (omega arith)
list_text_first (t ∷ ts) h = refl

pub list_text_more : (ids : List ℕ) (i : ℕ) → 0 < i → i < length ids → join_with_byte comma (map decimal (take (i + 1) ids)) ≡ join_with_byte comma (map decimal (take i ids)) ++ (comma ∷ decimal (get_or ids i 0))
list_text_more [] i pos lt = absurd (omega arith)
list_text_more (t ∷ ts) zero pos lt = absurd (omega arith)
list_text_more (t ∷ ts) (suc i) pos lt =
    ap (λ ids. join_with_byte comma (map decimal ids)) (take_more (t ∷ ts) (suc i) 0 lt)
    ∙ ap (λ pieces. join_with_byte comma (decimal t ∷ pieces)) (map-append decimal (take i ts) (get_or ts i 0 ∷ []))
    ∙ join-push comma (decimal t) (map decimal (take i ts)) (decimal (get_or ts i 0))

-- the next id of a list's text: after a comma, or as the first
pub next_behind_comma : (old mid grown new ids : List ℕ) (i : ℕ) → mid ≡ old ++ join_with_byte comma (map decimal (take i ids)) → grown ≡ mid ++ comma ∷ [] → new ≡ grown ++ decimal (get_or ids i 0) → 0 < i → i < length ids
    → new ≡ old ++ join_with_byte comma (map decimal (take (i + 1) ids))
next_behind_comma old mid grown new ids i is pushed added pos lt =
    let front = join_with_byte comma (map decimal (take i ids)) in
    let digits = decimal (get_or ids i 0) in
    added ∙ ap (λ text. text ++ digits) pushed ∙ append_assoc mid (comma ∷ []) digits ∙ ap (λ text. text ++ (comma ∷ digits)) is
    ∙ append_assoc old front (comma ∷ digits) ∙ ap (λ text. old ++ text) (sym (list_text_more ids i pos lt))

pub next_as_first : (old mid new ids : List ℕ) (i : ℕ) → mid ≡ old ++ join_with_byte comma (map decimal (take i ids)) → new ≡ mid ++ decimal (get_or ids i 0) → i ≤ 0 → i < length ids
    → new ≡ old ++ join_with_byte comma (map decimal (take (i + 1) ids))
next_as_first old mid new ids zero is added le lt =
    added ∙ ap (λ text. text ++ decimal (get_or ids 0 0)) (is ∙ append-nil old) ∙ ap (λ text. old ++ text) (sym (list_text_first ids lt))
next_as_first old mid new ids (suc i) is added le lt = absurd (omega arith)

-- two numbers, each with a byte after it
pub head_text : (old one two three four : List ℕ) (first second : List ℕ) (c d : ℕ) → one ≡ old ++ first → two ≡ one ++ c ∷ [] → three ≡ two ++ second → four ≡ three ++ d ∷ []
    → four ≡ old ++ (first ++ (c ∷ (second ++ d ∷ [])))
head_text old one two three four first second c d e f g h =
    rw (h, g, f, e) (simp append_assoc)
