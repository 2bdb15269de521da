-- What the pending bytes say of all that were left.
use Rattle.std.proofs.Common.{◌≡◌, ℕ, ◌+◌, ◌<◌, ◌≤◌, ◌⊎◌, inl, inr, true, false, List, [], ◌∷◌, ◌++◌, take, drop, sym, ap, subst, ◌∙◌, arith, append_assoc, append-nil, ⊎_elim}
use Rattle.std.specs.Prelude.{Option, Some, Result, Ok, Err, OnOk}
use Rattle.std.specs.Result.{is_err}
use Rattle.std.specs.Io.KnownBytes.{IsAtEnd}
use Rattle.std.proofs.lemmas.Bool.{true≢false}
use Rattle.std.proofs.lemmas.List.{take-append-drop, length-take-le}
use Rattle.sky_model.specs.Transcript.{most_in_line, most_in_script}
use Rattle.sky_lines.specs.Feeds.{is_settled, FeedsAt, Grows}
use Rattle.sky_lines.specs.Reader.{StartsTooLong, IsTruncated, EndsTooLate, StartsBad}
use Rattle.sky_lines.specs.declared.reader.LineFault.{LineFault}
use Rattle.sky_lines.specs.declared.reader.LineFault.TheVariants.{Read, TooLong, Truncated, ScriptTooLong, NoMemory}
use Rattle.sky_lines.proofs.FeedLemmas.{FeedsAt-parts, is_settled-unsettled}
use Rattle.sky_lines.proofs.GrowsLemmas.{Told-consumed, nothing_told}

-- a first line that is too long, and one that ends too late
pub StartsTooLong-feeds : (bytes : List ℕ) (at : ℕ) → FeedsAt bytes at → most_in_line < at → StartsTooLong bytes
StartsTooLong-feeds bytes at here over = record {
  line = take at bytes;
  more = drop at bytes;
  bytes_are = sym (take-append-drop at bytes);
  unbroken = here.unbroken;
  too_long = omega (arith, length-take-le at bytes (omega (arith, here.within)));
}

pub EndsTooLate-feeds : (taken : ℕ) (bytes : List ℕ) (at : ℕ) → FeedsAt bytes at → at ≤ most_in_line → most_in_script < taken + at + 1 → EndsTooLate taken bytes
EndsTooLate-feeds taken bytes at here fits over =
    let size = length-take-le at bytes (omega (arith, here.within)) in
    record {
      line = take at bytes;
      more = drop (at + 1) bytes;
      bytes_are = FeedsAt-parts bytes at here;
      unbroken = here.unbroken;
      line_fits = omega (arith, size);
      too_late = omega (arith, size);
    }

-- bytes that start with a fault do so whatever follows them, if they are settled or nothing follows
pub StartsBad-goes_on : (fault : LineFault) (taken : ℕ) (bytes more : List ℕ) → (is_settled bytes ≡ true) ⊎ (more ≡ []) → StartsBad fault taken bytes → StartsBad fault taken (bytes ++ more)
StartsBad-goes_on Read taken bytes more whole bad = tt
StartsBad-goes_on NoMemory taken bytes more whole bad = tt
StartsBad-goes_on TooLong taken bytes more whole bad = record {
  line = bad.line;
  more = bad.more ++ more;
  bytes_are = ap (λ front. front ++ more) bad.bytes_are ∙ append_assoc bad.line bad.more more;
  unbroken = bad.unbroken;
  too_long = bad.too_long;
}
StartsBad-goes_on Truncated taken bytes more (inl settled) bad =
    absurd (true≢false (sym settled ∙ is_settled-unsettled bytes bad.unbroken bad.line_fits))
StartsBad-goes_on Truncated taken bytes more (inr none) bad =
    subst IsTruncated (sym (append-nil bytes) ∙ ap (λ rest. bytes ++ rest) (sym none)) bad
StartsBad-goes_on ScriptTooLong taken bytes more whole bad = record {
  line = bad.line;
  more = bad.more ++ more;
  bytes_are = ap (λ front. front ++ more) bad.bytes_are ∙ append_assoc bad.line (10 ∷ bad.more) more;
  unbroken = bad.unbroken;
  line_fits = bad.line_fits;
  too_late = bad.too_late;
}

-- pending bytes that are settled, or all that were left, start as the bytes do that were pending and left before
pub StartsBad-told : (fault : LineFault) (taken : ℕ) (old mid left : List ℕ) (before after : Option (List ℕ)) → Grows old mid before after → (is_settled mid ≡ true) ⊎ IsAtEnd after → before ≡ Some left → StartsBad fault taken mid
    → StartsBad fault taken (old ++ left)
StartsBad-told fault taken old mid left before after grown whole told bad =
    let now = Told-consumed left before after grown.got told grown.consumed in
    let bytes : mid ++ now.rest ≡ old ++ left = ap (λ front. front ++ now.rest) grown.new_is ∙ append_assoc old grown.got now.rest ∙ ap (λ more. old ++ more) (sym now.left_is) in
    subst (StartsBad fault taken) bytes (StartsBad-goes_on fault taken mid now.rest (⊎_elim inl (λ end. inr (nothing_told after now.rest now.after_is end)) whole) bad)

-- what holds of an answer that isn't an error
pub OnOk-not_err : {T E : Type 0} (r : Result T E) (P : Type 0) → is_err r ≡ false → OnOk r P → P
OnOk-not_err (Ok value) P right holds = holds
OnOk-not_err (Err e) P right holds = absurd (true≢false right)
