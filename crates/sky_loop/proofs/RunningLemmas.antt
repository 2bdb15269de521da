-- How a run proceeds.
use Rattle.std.proofs.Common.{◌≡◌, ℕ, ◌+◌, List, [], ◌∷◌, ◌++◌, length, refl, sym, ap, ◌∙◌, append_assoc, append-nil}
use Rattle.std.specs.Prelude.{Option, Some, All}
use Rattle.std.specs.Io.KnownBytes.{Appends}
use Rattle.std.proofs.KnownBytes as known
use Rattle.std.proofs.lemmas.List.Elements.{All-nil, All-cons}
use Rattle.sky_io.proofs.AppendsLemmas.{Appends-both}
use Rattle.sky_model.specs.Printed.{printed}
use Rattle.sky_model.specs.Transcript.{Said, asks, idle, bad, said, call_text, transcript, transcript_from, bad_line, bad_line_from}
use Rattle.sky_model.specs.World.{World, world_of, session_names}
use Rattle.sky_model.specs.Calls.{Call, past_of, after}
use Rattle.sky_model.specs.Steps.{IsCallInForm}
use Rattle.sky_model.proofs.Splitting.{IsUnbroken}
use Rattle.sky_model.proofs.Scripts.{transcript_from-asks, transcript_from-idle, bad_line_from-asks, bad_line_from-idle, said-fits}
use Rattle.sky_lines.specs.Reader.{Reader, TakesLine}
use Rattle.sky_model.specs.State.{Database}
use Rattle.sky_world.specs.Seen.{seen_world}
use Rattle.sky_loop.specs.declared.run.Run.{Run}
use Rattle.sky_loop.specs.Running.{GoesOn, said_in, Called, Answers}
use Rattle.sky_loop.specs.Goes.{Goes, IsFresh, SameButGathered}

-- a run begins
pub GoesOn-start : (world : World) (source first : Option (List ℕ)) (bytes : List ℕ) → world ≡ world_of [] → source ≡ Some bytes → GoesOn world 1 0 [] [] source first first bytes
GoesOn-start world source first bytes stands told = record {
  calls = [];
  in_form = All-nil IsCallInForm;
  read = [];
  left = bytes;
  sent = [];
  stands = stands;
  told = told;
  bytes_are = refl;
  appends = known.Appends-nil first;
  prints = λ more. refl;
  is_bad = λ more. refl;
}

-- what was gathered is written
pub GoesOn-written : {world : World} {n taken : ℕ} {pending gathered : List ℕ} {source first held : Option (List ℕ)} {bytes : List ℕ} (new_held : Option (List ℕ))
    → GoesOn world n taken pending gathered source first held bytes → Appends held new_held gathered → GoesOn world n taken pending [] source first new_held bytes
GoesOn-written {n = n} {taken = taken} {pending = pending} {gathered = gathered} {first = first} {held = held} new_held g appends = record {
  calls = g.calls;
  in_form = g.in_form;
  read = g.read;
  left = g.left;
  sent = g.sent ++ gathered;
  stands = g.stands;
  told = g.told;
  bytes_are = g.bytes_are;
  appends = Appends-both first held new_held g.sent gathered g.appends appends;
  prints = λ more. g.prints more ∙ ap (λ text. text ++ transcript_from (past_of g.calls) taken (pending ++ more)) (sym (append-nil (g.sent ++ gathered)));
  is_bad = g.is_bad;
}

-- more is read
pub GoesOn-read : {world : World} {n taken : ℕ} {pending gathered : List ℕ} {source first held : Option (List ℕ)} {bytes : List ℕ} (after : Option (List ℕ)) (left got rest unread : List ℕ)
    → GoesOn world n taken pending gathered source first held bytes → source ≡ Some left → left ≡ got ++ rest → after ≡ Some rest → pending ++ got ≡ unread
    → GoesOn world n taken unread gathered after first held bytes
GoesOn-read {n = n} {taken = taken} {pending = pending} {gathered = gathered} {source = source} {bytes = bytes} after left got rest unread g told left_is after_is unread_is =
    let same : g.left ≡ left = cc (g.told, told) in
    record {
      calls = g.calls;
      in_form = g.in_form;
      read = g.read ++ got;
      left = rest;
      sent = g.sent;
      stands = g.stands;
      told = after_is;
      bytes_are = g.bytes_are ∙ ap (λ l. g.read ++ l) (same ∙ left_is) ∙ sym (append_assoc g.read got rest);
      appends = g.appends;
      prints = λ more. ap transcript (append_assoc g.read got more) ∙ g.prints (got ++ more)
          ∙ ap (λ u. (g.sent ++ gathered) ++ transcript_from (past_of g.calls) taken u) (sym (append_assoc pending got more) ∙ ap (λ u. u ++ more) unread_is);
      is_bad = λ more. ap bad_line (append_assoc g.read got more) ∙ g.is_bad (got ++ more)
          ∙ ap (λ u. bad_line_from n taken u) (sym (append_assoc pending got more) ∙ ap (λ u. u ++ more) unread_is);
    }

-- a call's answers are what the call prints
Called-text : {old new : World} {call : Call} {gathered more : List ℕ} (calls : List Call) → All IsCallInForm calls → old ≡ world_of (past_of calls) → (c : Called old new call gathered more) → more ≡ gathered ++ call_text (past_of calls) call
Called-text {new = new} {call = call} {gathered = gathered} calls in_form stands c =
    c.prints
    ∙ ap (λ (w : World). gathered ++ printed (w.sessions ++ call.who ∷ []) c.replies) (c.steps.stands calls in_form stands)
    ∙ ap (λ replies. gathered ++ printed (session_names (after (past_of calls) call) ++ call.who ∷ []) replies) (c.steps.answered calls in_form stands)

joined : (sent gathered text rest : List ℕ) → (sent ++ gathered) ++ (text ++ rest) ≡ (sent ++ (gathered ++ text)) ++ rest
joined sent gathered text rest = sym (append_assoc (sent ++ gathered) text rest) ∙ ap (λ front. front ++ rest) (append_assoc sent gathered text)

-- the call of a line is answered
GoesOn-asks : {old new : World} {n : ℕ} {gathered more_gathered : List ℕ} {source first held : Option (List ℕ)} {bytes : List ℕ} (taken : ℕ) (line pending : List ℕ) (call : Call)
    → GoesOn old n taken (line ++ 10 ∷ pending) gathered source first held bytes → said taken line ≡ asks call → Called old new call gathered more_gathered → IsUnbroken line
    → GoesOn new (n + 1) (taken + length line + 1) pending more_gathered source first held bytes
GoesOn-asks {n = n} {gathered = gathered} taken line pending call g says called unbroken =
    let past = past_of g.calls in
    record {
      calls = call ∷ g.calls;
      in_form = All-cons IsCallInForm call g.calls called.in_form g.in_form;
      read = g.read;
      left = g.left;
      sent = g.sent;
      stands = called.steps.stands g.calls g.in_form g.stands;
      told = g.told;
      bytes_are = g.bytes_are;
      appends = g.appends;
      prints = λ more. g.prints more
          ∙ ap (λ u. (g.sent ++ gathered) ++ transcript_from past taken u) (append_assoc line (10 ∷ pending) more)
          ∙ ap (λ text. (g.sent ++ gathered) ++ text) (transcript_from-asks past taken line (pending ++ more) call unbroken says)
          ∙ joined g.sent gathered (call_text past call) (transcript_from (after past call) (taken + length line + 1) (pending ++ more))
          ∙ ap (λ front. (g.sent ++ front) ++ transcript_from (after past call) (taken + length line + 1) (pending ++ more)) (sym (Called-text g.calls g.in_form g.stands called));
      is_bad = λ more. g.is_bad more
          ∙ ap (λ u. bad_line_from n taken u) (append_assoc line (10 ∷ pending) more)
          ∙ bad_line_from-asks n taken line (pending ++ more) call unbroken says;
    }

-- a line that says nothing is skipped
GoesOn-idle : {old new : World} {n : ℕ} {gathered more_gathered : List ℕ} {source first held : Option (List ℕ)} {bytes : List ℕ} (taken : ℕ) (line pending : List ℕ)
    → GoesOn old n taken (line ++ 10 ∷ pending) gathered source first held bytes → said taken line ≡ idle → new ≡ old → more_gathered ≡ gathered → IsUnbroken line
    → GoesOn new (n + 1) (taken + length line + 1) pending more_gathered source first held bytes
GoesOn-idle {n = n} {gathered = gathered} taken line pending g says same_world same_gathered unbroken =
    let past = past_of g.calls in
    record {
      calls = g.calls;
      in_form = g.in_form;
      read = g.read;
      left = g.left;
      sent = g.sent;
      stands = same_world ∙ g.stands;
      told = g.told;
      bytes_are = g.bytes_are;
      appends = g.appends;
      prints = λ more. g.prints more
          ∙ ap (λ u. (g.sent ++ gathered) ++ transcript_from past taken u) (append_assoc line (10 ∷ pending) more)
          ∙ ap (λ text. (g.sent ++ gathered) ++ text) (transcript_from-idle past taken line (pending ++ more) unbroken says)
          ∙ ap (λ last. (g.sent ++ last) ++ transcript_from past (taken + length line + 1) (pending ++ more)) (sym same_gathered);
      is_bad = λ more. g.is_bad more
          ∙ ap (λ u. bad_line_from n taken u) (append_assoc line (10 ∷ pending) more)
          ∙ bad_line_from-idle n taken line (pending ++ more) unbroken says;
    }

-- a line is answered
pub GoesOn-answered : {old new : World} {n : ℕ} {gathered more_gathered : List ℕ} {source first held : Option (List ℕ)} {bytes : List ℕ} (taken : ℕ) (line pending : List ℕ) (says : Said)
    → GoesOn old n taken (line ++ 10 ∷ pending) gathered source first held bytes → said taken line ≡ says → Answers says old new gathered more_gathered → IsUnbroken line
    → GoesOn new (n + 1) (taken + length line + 1) pending more_gathered source first held bytes
GoesOn-answered taken line pending (asks call) g says answers unbroken = GoesOn-asks taken line pending call g says answers unbroken
GoesOn-answered taken line pending idle g says answers unbroken = GoesOn-idle taken line pending g says answers.0 answers.1 unbroken
GoesOn-answered taken line pending (bad cause) g says answers unbroken = absurd answers

-- what was gathered is written, as the program keeps it
pub Goes-written : {D : Type 0} (seen : D → Database) (old new : Run D) (source first held new_held : Option (List ℕ)) (bytes : List ℕ)
    → SameButGathered old new → new.gathered.items ≡ [] → Appends held new_held old.gathered.items → Goes seen old source first held bytes → Goes seen new source first new_held bytes
Goes-written seen old new source first held new_held bytes same emptied appends g =
    rw (same.world_is, same.reader_is, same.number_is, emptied) (GoesOn-written new_held g appends)

-- the next line is read
pub GoesOn-taken : {world : World} {n : ℕ} {gathered : List ℕ} {source first held : Option (List ℕ)} {bytes : List ℕ} (old new : Reader) (left : List ℕ) (after : Option (List ℕ)) (line : List ℕ)
    → GoesOn world n old.taken old.pending gathered source first held bytes → source ≡ Some left → TakesLine old new left after line
    → GoesOn world n old.taken (line ++ 10 ∷ new.pending) gathered after first held bytes
GoesOn-taken old new left after line g told takes = GoesOn-read after left takes.got takes.rest (line ++ 10 ∷ new.pending) g told takes.left_is takes.after_is takes.bytes_are

-- and answered
pub GoesOn-line : {world new_world : World} {n : ℕ} {gathered more_gathered : List ℕ} {source first held : Option (List ℕ)} {bytes : List ℕ} (old new : Reader) (after : Option (List ℕ)) (line : List ℕ)
    → ((left : List ℕ) → source ≡ Some left → TakesLine old new left after line) → Answers (said_in line) world new_world gathered more_gathered
    → GoesOn world n old.taken old.pending gathered source first held bytes → GoesOn new_world (n + 1) new.taken new.pending more_gathered after first held bytes
GoesOn-line old new after line line_taken answers g =
    let takes = line_taken g.left g.told in
    let says : said old.taken line ≡ said_in line = said-fits old.taken line takes.line_fits (rw (← takes.taken_is) takes.script_fits) in
    rw takes.taken_is (GoesOn-answered old.taken line new.pending (said_in line) (GoesOn-taken old new g.left after line g g.told takes) says answers takes.unbroken)

-- a fresh run has read and written nothing
pub Goes-start : {D : Type 0} (seen : D → Database) (run : Run D) (source held : Option (List ℕ)) (bytes : List ℕ) → IsFresh seen run → source ≡ Some bytes → Goes seen run source held held bytes
Goes-start seen run source held bytes fresh told = rw (fresh.reader_is, fresh.gathered_is, fresh.number_is) (GoesOn-start (seen_world seen run.world) source held bytes fresh.world_is told)
