-- What the end of a run says of its status.
use Rattle.std.proofs.Common.{◌≡◌, ℕ, List, [], ◌++◌, refl, sym, inl, inr, subst, ◌∷◌, ◌∙◌, append_assoc, append-nil}
use Rattle.std.specs.Fmt.{decimal}
use Rattle.std.specs.Prelude.{codes, Option, Bool, true, ◌⊎◌}
use Rattle.std.specs.Io.KnownBytes.{Appends}
use Rattle.sky_io.specs.Appends.{AppendsPrefix}
use Rattle.sky_model.specs.declared.line.Cause.{Cause}
use Rattle.sky_model.specs.Transcript.{cause_text, bad_text}
use Rattle.sky_loop.specs.declared.end.End.TheVariants.{Whole, Bad, Read}
use Rattle.sky_loop.specs.Ends.{Ends}
use Rattle.sky_program.specs.Statuses.{PrintsWhole, TellsBadLine, PrintsGiven, complaint, due_status}

pub PrintsWhole-ends : {after held new_held : Option (List ℕ)} {bytes : List ℕ} → Ends Whole after held new_held [] bytes → PrintsWhole after held new_held bytes
PrintsWhole-ends {held = held} {new_held = new_held} e = record {
  at_end = e.why.at_end;
  none_bad = e.why.none_bad;
  printed = subst (Appends held new_held) (sym (append-nil e.sent) ∙ e.why.printed) e.appends;
}

pub TellsBadLine-ends : {after held new_held : Option (List ℕ)} {bytes : List ℕ} (line : ℕ) (cause : Cause) (err new_err : Option (List ℕ))
    → Ends (Bad line cause) after held new_held [] bytes → Appends err new_err (bad_text (line, cause)) → TellsBadLine held new_held err new_err bytes
TellsBadLine-ends {held = held} {new_held = new_held} line cause err new_err e told = record {
  line = line;
  cause = cause;
  is_bad = e.why.is_bad;
  printed = subst (Appends held new_held) (sym (append-nil e.sent) ∙ e.why.printed) e.appends;
  told = told;
}

pub complaint-ends : {after held new_held : Option (List ℕ)} {bytes : List ℕ} (line : ℕ) (cause : Cause) (err new_err : Option (List ℕ))
    → Ends (Bad line cause) after held new_held [] bytes → AppendsPrefix err new_err (bad_text (line, cause)) → AppendsPrefix err new_err (complaint true bytes)
complaint-ends line cause err new_err e told = rw e.why.is_bad told

pub PrintsGiven-ends : {after held new_held : Option (List ℕ)} {bytes : List ℕ} → Ends Read after held new_held [] bytes → PrintsGiven after held new_held bytes
PrintsGiven-ends {held = held} {new_held = new_held} e = record {
  given = e.why.given;
  left = e.why.left;
  after_is = e.why.after_is;
  bytes_are = e.why.bytes_are;
  good = e.why.good;
  printed = subst (Appends held new_held) (sym (append-nil e.sent) ∙ e.why.printed) e.appends;
}

-- without a fault the script decides, unless memory runs out
pub due_status-whole : {after held new_held : Option (List ℕ)} {bytes : List ℕ} (words : Bool) → words ≡ true → Ends Whole after held new_held [] bytes → (◌≡◌ {A = ℕ} 0 5) ⊎ (◌≡◌ {A = ℕ} 0 (due_status words bytes))
due_status-whole words known e = inr (rw (known, e.why.none_bad) refl)

pub due_status-bad : {after held new_held : Option (List ℕ)} {bytes : List ℕ} (words : Bool) (line : ℕ) (cause : Cause) (status : ℕ) → words ≡ true → Ends (Bad line cause) after held new_held [] bytes
    → (status ≡ 2) ⊎ (status ≡ 4) ⊎ (status ≡ 5) → (status ≡ 4 → ⊥) → (status ≡ 5) ⊎ (status ≡ due_status words bytes)
due_status-bad words line cause status known e (inl bad) not_write = inr (rw (known, e.why.is_bad) bad)
due_status-bad words line cause status known e (inr (inl write)) not_write = absurd (not_write write)
due_status-bad words line cause status known e (inr (inr memory)) not_write = inl memory

-- the parts of the message about a bad line
pub bad_text-parts : (line : ℕ) (cause : Cause) → bad_text (line, cause) ≡ codes "line " ++ (decimal line ++ (codes ": " ++ (cause_text cause ++ 10 ∷ [])))
bad_text-parts line cause = simp append_assoc
