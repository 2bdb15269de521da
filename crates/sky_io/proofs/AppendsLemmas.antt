-- What a sink got of several texts.
use Rattle.std.proofs.Common.{ℕ, ◌+◌, List, [], ◌++◌, refl, ap, ◌∙◌, append_assoc, append-nil, take, drop}
use Rattle.std.proofs.lemmas.List.{take-append-drop}
use Rattle.std.proofs.Math.Seq.{take-add}
use Rattle.std.specs.Prelude.{Option}
use Rattle.std.specs.Io.KnownBytes.{Appends}
use Rattle.std.proofs.KnownBytes as known
use Rattle.sky_io.specs.Appends.{AppendsPrefix}

-- a piece and then another are both
pub Appends-both : (old mid new : Option (List ℕ)) (piece more : List ℕ) → Appends old mid piece → Appends mid new more → Appends old new (piece ++ more)
Appends-both old mid new piece more first second = known.Appends-trans old mid new piece more first second

-- the first bytes of a text, and then the next ones
pub Appends-taken : (old mid new : Option (List ℕ)) (count more : ℕ) (text : List ℕ) → Appends old mid (take count text) → Appends mid new (take more (drop count text)) → Appends old new (take (count + more) text)
Appends-taken old mid new count more text first second = rw (take-add count more text) (known.Appends-trans old mid new (take count text) (take more (drop count text)) first second)

-- nothing appended is a prefix of any text
pub AppendsPrefix-nothing : (held : Option (List ℕ)) (text : List ℕ) → AppendsPrefix held held text
AppendsPrefix-nothing held text = record { got = []; rest = text; appends = known.Appends-nil held; whole = refl }

-- a text is a prefix of itself followed by more
pub AppendsPrefix-followed : (old new : Option (List ℕ)) (text more : List ℕ) → Appends old new text → AppendsPrefix old new (text ++ more)
AppendsPrefix-followed old new text more appends = record { got = text; rest = more; appends = appends; whole = refl }

-- the first bytes of a text are a prefix of it
pub AppendsPrefix-taken : (old new : Option (List ℕ)) (count : ℕ) (text : List ℕ) → Appends old new (take count text) → AppendsPrefix old new text
AppendsPrefix-taken old new count text appends = record { got = take count text; rest = drop count text; appends = appends; whole = take-append-drop count text }

-- a text is a prefix of itself
pub AppendsPrefix-whole : (old new : Option (List ℕ)) (text : List ℕ) → Appends old new text → AppendsPrefix old new text
AppendsPrefix-whole old new text appends = record { got = text; rest = []; appends = appends; whole = append-nil text }

-- a whole piece and then a prefix of the rest are a prefix of the whole
pub AppendsPrefix-after : (old mid new : Option (List ℕ)) (piece rest : List ℕ) → Appends old mid piece → AppendsPrefix mid new rest → AppendsPrefix old new (piece ++ rest)
AppendsPrefix-after old mid new piece rest first prefix = record {
  got = piece ++ prefix.got;
  rest = prefix.rest;
  appends = known.Appends-trans old mid new piece prefix.got first prefix.appends;
  whole = append_assoc piece prefix.got prefix.rest ∙ ap (λ t. piece ++ t) prefix.whole;
}

-- for a caller that writes several pieces: prefixes of what it writes in all
pub ruleset prefixes = (AppendsPrefix-nothing, AppendsPrefix-followed, AppendsPrefix-whole, AppendsPrefix-after)
