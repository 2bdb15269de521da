use Rattle.std.proofs.Common.{subst, ◌∙◌}
use Rattle.std.specs.Io.KnownBytes.{Appends}
use Rattle.sky_io.specs.Appends.{AppendsPrefix}
use Rattle.sky_program.proofs.program.report_bad_line.Goals as goal

pub returns-in-Ok-write_all-clause-told : goal.returns-in-Ok-write_all-clause-told
returns-in-Ok-write_all-clause-told g c = λ _.
    subst (Appends _ _) (c.as_bytes.ensures.value ∙ c.in-Ok.ensures) c.in-Ok-write_all.ensures.ok

pub returns-in-Ok-write_all-clause-prefix : goal.returns-in-Ok-write_all-clause-prefix
returns-in-Ok-write_all-clause-prefix g c =
    subst (AppendsPrefix _ _) (c.as_bytes.ensures.value ∙ c.in-Ok.ensures) c.write_all.ensures.prefix

pub returns-clause-prefix : goal.returns-clause-prefix
returns-clause-prefix g c =
    subst (AppendsPrefix _ _) (c.as_bytes.ensures.value ∙ c.in-Ok.ensures) c.write_all.ensures.prefix
