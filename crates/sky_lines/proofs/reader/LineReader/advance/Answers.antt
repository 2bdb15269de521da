use Rattle.std.proofs.Common.{sym}
use Rattle.sky_lines.proofs.ReaderLemmas.{StartsBad-told, OnOk-not_err}
use Rattle.sky_lines.proofs.reader.LineReader.advance.Goals as goal

pub returns-in-Err-clause-bad : goal.returns-in-Err-clause-bad
returns-in-Err-clause-bad g c = λ left told sound.
    let reader = c.self.inside in
    let whole = OnOk-not_err c.gather.result _ (sym c.if-is_err.ensures.value) c.gather.ensures.ok in
    rw (c.give-in-Err.ensures.value, ← c.self.view_is)
    (StartsBad-told c.in-Err.fault reader.taken reader.buffer.pending c.gather.new.self.pending left _ _ c.gather.ensures.grows whole told c.in-Err.ensures.bad)
