-- Answers whose times can be printed.
use Rattle.std.proofs.Common.{◌≡◌, ℕ, ℤ, List, [], ◌∷◌, sym, ◌∙◌, subst, All}
use Rattle.std.proofs.lemmas.List.Elements.{All-append, All-from_recursion}
use Rattle.sky_model.specs.declared.reply.Reply.{Reply}
use Rattle.sky_model.specs.Printed.{ReplyHasMoments, HaveMoments}
use Rattle.sky_model.specs.State.{Database, after_marks}
use Rattle.sky_model.specs.Reader.{database_by_itself, within_part}
use Rattle.sky_model.specs.Settling.{Turn, settling, with_settling}
use Rattle.sky_histories.proofs.DatabaseStanding.{behind-all}

abbrev HasMoments : ℕ × Reply → Type 0
HasMoments answer = ReplyHasMoments answer.1

pub same-moments : (replies answers : List (ℕ × Reply)) → replies ≡ answers → HaveMoments answers → HaveMoments replies
same-moments replies answers is have = subst (All HasMoments) (sym is) have

pub one-moments : (who : ℕ) (reply : Reply) → ReplyHasMoments reply → HaveMoments ((who, reply) ∷ [])
one-moments who reply has = All-from_recursion HasMoments ((who, reply) ∷ []) (has, tt)

-- those of a turn, and of the statements that resume after it
pub then-moments : (now : ℤ) (d s : Database) (turn : Turn) → HaveMoments turn.answers → s ≡ after_marks d turn.marks → HaveMoments (settling (within_part database_by_itself now) s).answers
    → HaveMoments (with_settling (within_part database_by_itself now) d turn).answers
then-moments now d s turn own is later =
    All-append HasMoments turn.answers _ own (subst (λ (x : Database). HaveMoments (settling (within_part database_by_itself now) x).answers) (is ∙ sym (behind-all now d turn.marks)) later)
