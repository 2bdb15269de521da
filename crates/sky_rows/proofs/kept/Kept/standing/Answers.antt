use Rattle.std.proofs.Common.{◌≡◌, ◌∙◌, ap, sym, is_some, cond, Some, None}
use Rattle.std.specs.Option.{option_copied}
use Rattle.sky_keys.specs.Versions.{version_of, read}
use Rattle.sky_rows.specs.Kept.{versions_of}
use Rattle.sky_rows.proofs.Standing.{newest-own, newest-none, read-own, copied-row}
use Rattle.sky_rows.proofs.kept.Kept.standing.Goals as goal
use Rattle.sky_rows.proofs.kept.Kept.standing.Goals.{in-Some, in-None, then-has_own, else-has_own}

pub returns-clause-own : goal.returns-clause-own
returns-clause-own c =
    let vs = versions_of c.args.older.now c.args.self.now in
    elim c.match-newest.branch [
      | in-Some w ↦ w.has_own-is ∙ newest-own c.args.txid vs c.requires.last w.in-Some.version.now (ap option_copied (sym w.in-Some.is) ∙ c.newest.ensures)
      | in-None w ↦ w.has_own-is ∙ newest-none c.args.txid vs c.requires.last (ap option_copied (sym w.in-None.is) ∙ c.newest.ensures)
    ]

pub returns-clause-row : goal.returns-clause-row
returns-clause-row c =
    let vs = versions_of c.args.older.now c.args.self.now in
    let own : c.if-has_own.own ≡ cond c.match-newest.has_own (Some c.args.txid) None = elim c.if-has_own.branch [
      | then-has_own w ↦ w.own-is ∙ ap (λ b. cond b (Some c.args.txid) None) (sym w.if-has_own.true)
      | else-has_own w ↦ w.own-is ∙ ap (λ b. cond b (Some c.args.txid) None) (sym w.if-has_own.false)
    ] in
    let has : c.match-newest.has_own ≡ is_some (version_of c.args.txid vs) = elim c.match-newest.branch [
      | in-Some w ↦ w.has_own-is ∙ newest-own c.args.txid vs c.requires.last w.in-Some.version.now (ap option_copied (sym w.in-Some.is) ∙ c.newest.ensures)
      | in-None w ↦ w.has_own-is ∙ newest-none c.args.txid vs c.requires.last (ap option_copied (sym w.in-None.is) ∙ c.newest.ensures)
    ] in
    c.is_some-has_row.ensures ∙ copied-row c.read.result ∙ ap is_some (c.read.ensures ∙ ap (λ own. read c.args.snapshot.now own vs) own ∙ read-own c.args.snapshot.now c.args.txid vs c.match-newest.has_own has)
