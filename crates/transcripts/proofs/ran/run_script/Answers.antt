use Rattle.std.proofs.Common.{◌≡◌, true, ℕ, List, [], ◌∷◌, ◌++◌, ap, ◌∙◌, inl}
use Rattle.std.specs.Prelude.{Some}
use Rattle.sky_io.specs.Appends.{AppendsPrefix}
use Rattle.sky_model.specs.Transcript.{transcript, bad_text, is_run}
use Rattle.sky_program.specs.Statuses.{texts, complaint}
use Rattle.transcripts.specs.Shown.{IsBeginning}
use Rattle.transcripts.proofs.ran.run_script.Goals as goal

-- what a sink that held nothing got of a text begins it
begins : (held got text : List ℕ) → held ≡ [] → AppendsPrefix (Some held) (Some got) text → IsBeginning got text
begins held got text is_empty appended = record {
  rest = appended.rest;
  whole = ap (λ all. all ++ appended.rest) (appended.appends ∙ ap (λ front. front ++ appended.got) is_empty) ∙ appended.whole;
}

pub returns : goal.returns
returns c =
    let script = c.args.script.items in
    let left_is = ap (λ s. Some s.left) c.new-src.ensures in
    let no_out = ap (λ s. s.held ++ transcript script) c.new-out.ensures in
    let run = c.run_main-status.ensures in
    let is_known : is_run (texts c.in_ok-words.words.items) ≡ true =
    ap (λ words. is_run (texts words)) c.in_ok-words.ensures.items ∙ ap (λ word. is_run (word ∷ [])) c.in_ok-from_str.ensures.ok in
    let reliable =
    run.relied (ap (λ s. s.failing) c.new-src.ensures ∙ c.new.ensures.items) (ap (λ s. s.failing) c.new-out.ensures ∙ c.new-2.ensures.items)
    (ap (λ s. s.failing) c.new-err.ensures ∙ c.new-3.ensures.items) in
    record {
      known = rw is_known at reliable;
      whole = λ is_whole.
          let prints = run.whole is_whole script left_is in
          (prints.none_bad, prints.printed ∙ no_out, ap (λ s. s.held) (run.quiet (inl is_whole)) ∙ ap (λ s. s.held) c.new-err.ensures);
      bad = λ is_bad.
          let tells = run.bad_line is_bad script left_is in (
            tells.printed ∙ no_out,
            record { line = tells.line; cause = tells.cause; is_bad = tells.is_bad; told = tells.told ∙ ap (λ s. s.held ++ bad_text (tells.line, tells.cause)) c.new-err.ensures },
          );
      begun = begins c.new-out.result.held _ _ (ap (λ s. s.held) c.new-out.ensures) (run.prefix script left_is);
      said = begins c.new-err.result.held _ (complaint true script) (ap (λ s. s.held) c.new-err.ensures) (rw is_known at run.complaint script left_is);
    }
