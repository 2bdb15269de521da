-- How a run ends.
use Rattle.std.proofs.Common.{◌≡◌, ℕ, ◌≤◌, List, [], ◌∷◌, ◌++◌, length, unwrap_or, refl, sym, ap, subst, ◌∙◌, append_assoc, append-nil, arith}
use Rattle.std.specs.Prelude.{Option, Some}
use Rattle.std.specs.Io.KnownBytes.{Appends}
use Rattle.sky_io.specs.Appends.{AppendsPrefix}
use Rattle.sky_io.proofs.AppendsLemmas.{Appends-both}
use Rattle.sky_model.specs.declared.line.Cause.{Cause}
use Rattle.sky_model.specs.declared.line.Cause.TheVariants as causes
use Rattle.sky_model.specs.Transcript.{bad, most_in_line, said, transcript, transcript_from, bad_line, bad_line_from}
use Rattle.sky_model.specs.World.{World}
use Rattle.sky_model.specs.Calls.{past_of}
use Rattle.sky_model.proofs.Splitting.{IsUnbroken}
use Rattle.sky_model.proofs.Scripts.{StopsHere, transcript_from-unbroken, said-fits, said-too_late, stops_at_line, stops_unended, stops_too_long}
use Rattle.sky_lines.specs.declared.reader.LineFault.{LineFault}
use Rattle.sky_lines.specs.declared.reader.LineFault.TheVariants as faults
use Rattle.sky_lines.specs.Reader.{Reader, TakesLine, StartsTooLong, IsTruncated, EndsTooLate, StartsBad, Kept}
use Rattle.sky_loop.specs.declared.end.End.{End}
use Rattle.sky_loop.specs.declared.end.End.TheVariants.{Whole, Bad, Read, Write, NoMemory}
use Rattle.sky_loop.specs.Running.{GoesOn, said_in}
use Rattle.sky_loop.proofs.RunningLemmas.{GoesOn-read, GoesOn-taken}
use Rattle.sky_loop.specs.Ends.{Why, Ends, IsBadLine, IsCut, end_of}

-- what was written and gathered, with what the rest of the script prints, is what the script prints
prints_all : {world : World} {n taken : ℕ} {pending gathered : List ℕ} {source first held : Option (List ℕ)} {bytes : List ℕ} (left : List ℕ)
    → (g : GoesOn world n taken pending gathered source first held bytes) → g.left ≡ left
    → (g.sent ++ gathered) ++ transcript_from (past_of g.calls) taken (pending ++ left) ≡ transcript bytes
prints_all left g same = sym (ap transcript (g.bytes_are ∙ ap (λ l. g.read ++ l) same) ∙ g.prints left)

is_bad_all : {world : World} {n taken : ℕ} {pending gathered : List ℕ} {source first held : Option (List ℕ)} {bytes : List ℕ} (left : List ℕ)
    → (g : GoesOn world n taken pending gathered source first held bytes) → g.left ≡ left → bad_line bytes ≡ bad_line_from n taken (pending ++ left)
is_bad_all left g same = ap bad_line (g.bytes_are ∙ ap (λ l. g.read ++ l) same) ∙ g.is_bad left

-- what is left starts with a bad line
pub Ends-bad : {world : World} {n taken : ℕ} {pending gathered : List ℕ} {source first held : Option (List ℕ)} {bytes : List ℕ} (after : Option (List ℕ)) (left : List ℕ) (cause : Cause)
    → GoesOn world n taken pending gathered source first held bytes → source ≡ Some left → StopsHere n taken cause (pending ++ left) → Ends (Bad n cause) after first held gathered bytes
Ends-bad {n = n} {taken = taken} {gathered = gathered} after left cause g told stops =
    let same : g.left ≡ left = cc (g.told, told) in
    let whole = ap (λ text. (g.sent ++ gathered) ++ text) (sym (stops.says_nothing (past_of g.calls))) ∙ prints_all left g same in
    record {
      sent = g.sent;
      rest = [];
      appends = g.appends;
      begins = whole;
      why = record { is_bad = is_bad_all left g same ∙ stops.is_bad; printed = sym (append-nil (g.sent ++ gathered)) ∙ whole };
    }

-- bytes without a line feed are good so far
good_unended : (n taken : ℕ) (bytes : List ℕ) → IsUnbroken bytes → length bytes ≤ most_in_line → (m : ℕ) (cause : Cause) → bad_line_from n taken bytes ≡ Some (m, cause) → cause ≡ causes.Truncated
good_unended n taken [] unbroken fits m cause is = absurd (cc)
good_unended n taken (b ∷ bytes) unbroken fits m cause is =
    ap (λ (o : Option (ℕ × Cause)). (unwrap_or o (m, cause)).1) (sym is ∙ (stops_unended n taken (b ∷ bytes) unbroken (omega arith) fits).is_bad)

-- the source fails within a line
pub Ends-read : {world : World} {n taken : ℕ} {unread gathered : List ℕ} {after first held : Option (List ℕ)} {bytes : List ℕ}
    → GoesOn world n taken unread gathered after first held bytes → IsUnbroken unread → length unread ≤ most_in_line → Ends Read after first held gathered bytes
Ends-read {n = n} {taken = taken} {unread = unread} {gathered = gathered} g unbroken fits = record {
  sent = g.sent;
  rest = transcript_from (past_of g.calls) taken (unread ++ g.left);
  appends = g.appends;
  begins = prints_all g.left g refl;
  why = record {
    given = g.read;
    left = g.left;
    after_is = g.told;
    bytes_are = g.bytes_are;
    good = λ m cause is. good_unended n taken unread unbroken fits m cause
        (sym (ap bad_line (sym (append-nil g.read)) ∙ g.is_bad [] ∙ ap (λ u. bad_line_from n taken u) (append-nil unread)) ∙ is);
    printed = sym (ap transcript (sym (append-nil g.read)) ∙ g.prints [] ∙ ap (λ u. (g.sent ++ gathered) ++ transcript_from (past_of g.calls) taken u) (append-nil unread)
        ∙ ap (λ text. (g.sent ++ gathered) ++ text) (transcript_from-unbroken (past_of g.calls) taken unread unbroken) ∙ append-nil (g.sent ++ gathered));
  };
}

-- memory runs out
pub Ends-no_memory : {world : World} {n taken : ℕ} {pending gathered : List ℕ} {source first held : Option (List ℕ)} {bytes : List ℕ} (after : Option (List ℕ))
    → GoesOn world n taken pending gathered source first held bytes → Ends NoMemory after first held gathered bytes
Ends-no_memory {n = n} {taken = taken} {pending = pending} after g = record {
  sent = g.sent;
  rest = transcript_from (past_of g.calls) taken (pending ++ g.left);
  appends = g.appends;
  begins = prints_all g.left g refl;
  why = tt;
}

-- what was gathered is written
pub Ends-written : {end : End} {after first held : Option (List ℕ)} {gathered bytes : List ℕ} (new_held : Option (List ℕ))
    → Ends end after first held gathered bytes → Appends held new_held gathered → Ends end after first new_held [] bytes
Ends-written {end = end} {after = after} {first = first} {held = held} {gathered = gathered} {bytes = bytes} new_held e appends =
    let same = sym (append-nil (e.sent ++ gathered)) in
    record {
      sent = e.sent ++ gathered;
      rest = e.rest;
      appends = Appends-both first held new_held e.sent gathered e.appends appends;
      begins = ap (λ text. text ++ e.rest) (sym same) ∙ e.begins;
      why = subst (λ text. Why end after text bytes) same e.why;
    }

-- a part of it is written
part : {end : End} {after first held : Option (List ℕ)} {gathered bytes : List ℕ} (cut : End) (new_after new_held : Option (List ℕ))
    → Ends end after first held gathered bytes → AppendsPrefix held new_held gathered → ((text : List ℕ) → Why cut new_after text bytes) → Ends cut new_after first new_held [] bytes
part {first = first} {held = held} {gathered = gathered} cut new_after new_held e prefix why = record {
  sent = e.sent ++ prefix.got;
  rest = prefix.rest ++ e.rest;
  appends = Appends-both first held new_held e.sent prefix.got e.appends prefix.appends;
  begins = ap (λ text. text ++ (prefix.rest ++ e.rest)) (append-nil (e.sent ++ prefix.got))
      ∙ sym (append_assoc (e.sent ++ prefix.got) prefix.rest e.rest)
      ∙ ap (λ text. text ++ e.rest) (append_assoc e.sent prefix.got prefix.rest ∙ ap (λ text. e.sent ++ text) prefix.whole)
      ∙ e.begins;
  why = why ((e.sent ++ prefix.got) ++ []);
}

pub Ends-cut : {end : End} {after first held : Option (List ℕ)} {gathered bytes : List ℕ} (cut : End) (new_after new_held : Option (List ℕ))
    → Ends end after first held gathered bytes → AppendsPrefix held new_held gathered → IsCut cut → Ends cut new_after first new_held [] bytes
Ends-cut Whole new_after new_held e prefix is_cut = absurd is_cut
Ends-cut (Bad n cause) new_after new_held e prefix is_cut = absurd is_cut
Ends-cut Read new_after new_held e prefix is_cut = absurd is_cut
Ends-cut Write new_after new_held e prefix is_cut = part Write new_after new_held e prefix (λ text. tt)
Ends-cut NoMemory new_after new_held e prefix is_cut = part NoMemory new_after new_held e prefix (λ text. tt)

-- the same if the run would have continued
pub GoesOn-cut : {world : World} {n taken : ℕ} {pending gathered : List ℕ} {source first held : Option (List ℕ)} {bytes : List ℕ} (cut : End) (after new_held : Option (List ℕ))
    → AppendsPrefix held new_held gathered → IsCut cut → GoesOn world n taken pending gathered source first held bytes → Ends cut after first new_held [] bytes
GoesOn-cut cut after new_held prefix is_cut g = Ends-cut cut after new_held (Ends-no_memory after g) prefix is_cut

-- a line is bad by what it says
pub GoesOn-bad_line : {world : World} {n : ℕ} {gathered : List ℕ} {source first held : Option (List ℕ)} {bytes : List ℕ} (end : End) (old new : Reader) (after : Option (List ℕ)) (line : List ℕ)
    → ((left : List ℕ) → source ≡ Some left → TakesLine old new left after line) → IsBadLine end n (said_in line)
    → GoesOn world n old.taken old.pending gathered source first held bytes → Ends end after first held gathered bytes
GoesOn-bad_line Whole old new after line line_taken is_bad g = absurd is_bad
GoesOn-bad_line {n = n} (Bad k cause) old new after line line_taken is_bad g =
    let takes = line_taken g.left g.told in
    let says : said old.taken line ≡ bad cause = said-fits old.taken line takes.line_fits (rw (← takes.taken_is) takes.script_fits) ∙ is_bad.1 in
    let stops = subst (StopsHere n old.taken cause) (sym (append_assoc line (10 ∷ new.pending) takes.rest)) (stops_at_line n old.taken line (new.pending ++ takes.rest) cause takes.unbroken says) in
    rw is_bad.0 (Ends-bad after takes.rest cause (GoesOn-taken old new g.left after line g g.told takes) takes.after_is stops)
GoesOn-bad_line Read old new after line line_taken is_bad g = absurd is_bad
GoesOn-bad_line Write old new after line line_taken is_bad g = absurd is_bad
GoesOn-bad_line NoMemory old new after line line_taken is_bad g = Ends-no_memory after g

-- what a reader calls bad is bad
stops_too_long_line : (n taken : ℕ) (bytes : List ℕ) → StartsTooLong bytes → StopsHere n taken causes.TooLong bytes
stops_too_long_line n taken bytes starts =
    subst (StopsHere n taken causes.TooLong) (sym starts.bytes_are) (stops_too_long n taken starts.line starts.more starts.unbroken starts.too_long)

stops_truncated : (n taken : ℕ) (bytes : List ℕ) → IsTruncated bytes → StopsHere n taken causes.Truncated bytes
stops_truncated n taken bytes is = stops_unended n taken bytes is.unbroken is.some is.line_fits

stops_too_late : (n taken : ℕ) (bytes : List ℕ) → EndsTooLate taken bytes → StopsHere n taken causes.ScriptTooLong bytes
stops_too_late n taken bytes ends =
    subst (StopsHere n taken causes.ScriptTooLong) (sym ends.bytes_are)
    (stops_at_line n taken ends.line ends.more causes.ScriptTooLong ends.unbroken (said-too_late taken ends.line ends.line_fits ends.too_late))

-- the reader gave a fault
pub GoesOn-fault : {world : World} {n : ℕ} {gathered : List ℕ} {source first held : Option (List ℕ)} {bytes : List ℕ} (fault : LineFault) (old new : Reader) (after : Option (List ℕ))
    → ((left : List ℕ) → source ≡ Some left → StartsBad fault old.taken (old.pending ++ left)) → (fault ≡ faults.Read → (left : List ℕ) → source ≡ Some left → Kept old new left after)
    → GoesOn world n old.taken old.pending gathered source first held bytes → Ends (end_of fault n) after first held gathered bytes
GoesOn-fault faults.Read old new after starts kept g =
    let keeps = kept refl g.left g.told in
    Ends-read (GoesOn-read after g.left keeps.got keeps.rest new.pending g g.told keeps.left_is keeps.after_is (sym keeps.pending_is)) keeps.unbroken keeps.line_fits
GoesOn-fault {n = n} faults.TooLong old new after starts kept g =
    Ends-bad after g.left causes.TooLong g g.told (stops_too_long_line n old.taken (old.pending ++ g.left) (starts g.left g.told))
GoesOn-fault {n = n} faults.Truncated old new after starts kept g =
    Ends-bad after g.left causes.Truncated g g.told (stops_truncated n old.taken (old.pending ++ g.left) (starts g.left g.told))
GoesOn-fault {n = n} faults.ScriptTooLong old new after starts kept g =
    Ends-bad after g.left causes.ScriptTooLong g g.told (stops_too_late n old.taken (old.pending ++ g.left) (starts g.left g.told))
GoesOn-fault faults.NoMemory old new after starts kept g = Ends-no_memory after g

-- what the sink got is a prefix of what the script prints
pub Ends-prefix : {end : End} {after first held : Option (List ℕ)} {bytes : List ℕ} → Ends end after first held [] bytes → AppendsPrefix first held (transcript bytes)
Ends-prefix e = record { got = e.sent; rest = e.rest; appends = e.appends; whole = ap (λ text. text ++ e.rest) (sym (append-nil e.sent)) ∙ e.begins }
