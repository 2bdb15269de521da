-- The first line feed of bytes.
use Rattle.std.proofs.Common.{◌≡◌, ℕ, ◌+◌, ◌-◌, ◌<◌, ◌≤◌, false, List, ◌∷◌, ◌++◌, length, take, drop, sym, ap, ◌∙◌, arith, length-append, length-take}
use Rattle.std.specs.Option.{option_map}
use Rattle.std.specs.Prelude.{◌==◌, slice_range, Option, None, Some, nat_lt}
use Rattle.std.proofs.lemmas.Bool.{false_from_ne_true, eqb-true, or_parts, or_from, ltb-false, le-ltb}
use Rattle.std.proofs.lemmas.List.{take-append-drop, take-take, take_rest, drop-take, drop-drop, drop_more, get_or-append-add, get_or_default, get_or-take, length-take-le}
use Rattle.std.proofs.lemmas.List.Folds.{list_any_none, list_any-append}
use Rattle.std.proofs.Math.Seq.{take-append-add}
use Rattle.memchr.specs.Find.{Passes, IsFirstByte, is_byte}
use Rattle.sky_model.specs.Transcript.{most_in_line}
use Rattle.sky_lines.specs.Feeds.{has_feed, is_settled, FeedsAt, IsFirstFeed}

-- there is none if a search finds none
has_feed-nowhere : (bytes : List ℕ) → ((k : ℕ) → k < length bytes → ¬ (Passes (is_byte 10) bytes k)) → has_feed bytes ≡ false
has_feed-nowhere bytes none =
    list_any_none (λ b. b == 10) bytes (λ k d within. false_from_ne_true _ (λ passes. none k within (ap (λ b. b == 10) (get_or_default bytes k 0 d within) ∙ passes)))

-- a search finds the first
pub IsFirstFeed-searched : (bytes : List ℕ) (found : Option ℕ) → IsFirstByte (is_byte 10) bytes found → IsFirstFeed bytes found
IsFirstFeed-searched bytes None none = has_feed-nowhere bytes (λ k within. none k (omega arith) within)
IsFirstFeed-searched bytes (Some at) here =
    let first = here.0 in
    let size : length (take at bytes) ≡ at = length-take-le at bytes (omega (arith, first.high)) in
    record {
      within = first.high;
      feeds = eqb-true _ _ here.1;
      unbroken = has_feed-nowhere (take at bytes) (λ k within passes.
          first.before k (omega arith) (omega (arith, size)) (ap (λ b. b == 10) (sym (get_or-take at bytes k 0 (omega (arith, size)))) ∙ passes));
    }

-- the first one, after bytes that have none
pub FeedsAt-behind : (front piece : List ℕ) (at : ℕ) → has_feed front ≡ false → FeedsAt piece at → FeedsAt (front ++ piece) (length front + at)
FeedsAt-behind front piece at none here = record {
  within = omega (arith, length-append front piece, here.within);
  feeds = get_or-append-add front piece at 0 ∙ here.feeds;
  unbroken = ap has_feed (take-append-add front piece at) ∙ list_any-append (λ b. b == 10) front (take at piece) ∙ or_from _ _ none here.unbroken;
}

pub has_feed-behind : (front piece : List ℕ) → has_feed front ≡ false → has_feed piece ≡ false → has_feed (front ++ piece) ≡ false
has_feed-behind front piece none also = list_any-append (λ b. b == 10) front piece ∙ or_from _ _ none also

-- a search after bytes that have none finds the first
pub IsFirstFeed-behind : (bytes : List ℕ) (len : ℕ) (found : Option ℕ) → len ≤ length bytes → has_feed (take len bytes) ≡ false → IsFirstByte (is_byte 10) (take (length bytes - len) (drop len bytes)) found
    → IsFirstFeed bytes (option_map (λ at. len + at) found)
IsFirstFeed-behind bytes len found within none searched =
    let first = rw take_rest at (IsFirstFeed-searched _ found searched) in
    let whole = take-append-drop len bytes in
    behind (take len bytes) (drop len bytes) bytes len found whole (length-take-le len bytes within) none first
  where
    behind : (front piece bytes : List ℕ) (len : ℕ) (found : Option ℕ) → front ++ piece ≡ bytes → length front ≡ len → has_feed front ≡ false → IsFirstFeed piece found → IsFirstFeed bytes (option_map (λ at. len + at) found)
    behind front piece bytes len None whole long none first = ap has_feed (sym whole) ∙ has_feed-behind front piece none first
    behind front piece bytes len (Some at) whole long none first = rw (← whole, ← long) (FeedsAt-behind front piece at none first)

-- a first line feed splits the bytes
pub FeedsAt-parts : (bytes : List ℕ) (at : ℕ) → FeedsAt bytes at → bytes ≡ take at bytes ++ 10 ∷ drop (at + 1) bytes
FeedsAt-parts bytes at here =
    let within = here.within in
    sym (take-append-drop at bytes) ∙ ap (λ rest. take at bytes ++ rest) (drop_more bytes at 0 within ∙ ap (λ b. b ∷ drop (at + 1) bytes) here.feeds)

-- a part of a part that begins later
pub drop-slice_range : (xs : List ℕ) (i j n : ℕ) → i + n ≤ j → drop n (slice_range xs i j) ≡ slice_range xs (i + n) j
drop-slice_range xs i j n fits =
    let size : j - i ≡ n + (j - (i + n)) = omega arith in
    ap (λ k. drop n (take k (drop i xs))) size ∙ drop-take n (j - (i + n)) (drop i xs) ∙ ap (take (j - (i + n))) (drop-drop n i xs)

-- the line before a first feed was taken
pub line_taken : (items old line : List ℕ) (start end len : ℕ) → slice_range items start end ≡ old → FeedsAt old len → line ≡ take (start + len - start) (drop start items)
    → old ≡ line ++ 10 ∷ slice_range items (start + len + 1) end
line_taken items old line start end len view here taken =
    let size : length old ≤ end - start = omega (arith, ap length view, length-take (end - start) (drop start items)) in
    let within = here.within in
    let count : start + len - start ≡ len = omega arith in
    let place : start + (len + 1) ≡ start + len + 1 = omega arith in
    let front : take len old ≡ line = ap (take len) (sym view) ∙ take-take len (end - start) (drop start items) (omega arith) ∙ sym (taken ∙ ap (λ n. take n (drop start items)) count) in
    let rest : drop (len + 1) old ≡ slice_range items (start + len + 1) end =
    ap (drop (len + 1)) (sym view) ∙ drop-slice_range items start end (len + 1) (omega arith) ∙ ap (λ n. slice_range items n end) place in
    FeedsAt-parts old len here ∙ ap (λ xs. xs ++ 10 ∷ drop (len + 1) old) front ∙ ap (λ xs. line ++ 10 ∷ xs) rest

-- bytes that don't settle their first line have no feed, and are no more than a line may have
pub unsettled : (bytes : List ℕ) → is_settled bytes ≡ false → (has_feed bytes ≡ false) × (length bytes ≤ most_in_line)
unsettled bytes h = let parts = or_parts (has_feed bytes) (nat_lt most_in_line (length bytes)) h in (parts.0, ltb-false _ _ parts.1)

pub is_settled-unsettled : (bytes : List ℕ) → has_feed bytes ≡ false → length bytes ≤ most_in_line → is_settled bytes ≡ false
is_settled-unsettled bytes none fits = or_from _ _ none (le-ltb _ _ fits)
