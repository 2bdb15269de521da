use Rattle.std.proofs.Common.{Some, ◌++◌, ◌∙◌, sym, ap, subst}
use Rattle.sky_keys.specs.Versions.{with_version, version_of}
use Rattle.sky_keys.specs.declared.version.Version.{Version}
use Rattle.sky_rows.specs.Versions.{IsOneOfEach}
use Rattle.sky_rows.specs.Older.{older_in}
use Rattle.sky_rows.specs.Kept.{older_of, if_any, versions_of}
use Rattle.sky_rows.proofs.KeptLemmas.{write_own, write_older, one_older, own_passed, older_at, older_changed}
use Rattle.sky_rows.proofs.kept.Kept.write.Goals as goal

pub returns-then-is_newest-clause-ok : goal.returns-then-is_newest-clause-ok
returns-then-is_newest-clause-ok c = write_own c.args.version.txid c.args.version.row (older_of c.args.older.now c.args.self.now.list) c.args.self.now.newest (sym c.is_newest.ensures ∙ c.if-is_newest.true) c.requires.one

pub replace-requires-clause-one : goal.replace-requires-clause-one
replace-requires-clause-one c =
    subst IsOneOfEach (older_at c.args.older.now c.args.self.now.list c.in-Some.list c.in-Some.is) (one_older (older_of c.args.older.now c.args.self.now.list) c.args.self.now.newest c.requires.one)

pub push-requires-in-Err-clause-first : goal.push-requires-in-Err-clause-first
push-requires-in-Err-clause-first c =
    ap (λ (v : Version). version_of v.txid (versions_of c.replace.new.self c.args.self.now)) c.in-Err.ensures.back
    ∙ ap (λ o. version_of c.args.version.txid (versions_of o c.args.self.now)) c.in-Err.ensures.err
    ∙ own_passed c.args.version.txid (older_of c.args.older.now c.args.self.now.list) c.args.self.now.newest (sym c.is_newest.ensures ∙ c.if-is_newest.false)
    ∙ ap (version_of c.args.version.txid) (older_at c.args.older.now c.args.self.now.list c.in-Some.list c.in-Some.is) ∙ c.in-Err.ensures.none

pub returns-in-Ok-clause-ok : goal.returns-in-Ok-clause-ok
returns-in-Ok-clause-ok c =
    let t = c.args.version.txid in
    let row = c.args.version.row in
    let here = older_at c.args.older.now c.args.self.now.list c.in-Some.list c.in-Some.is in
    ap (λ vs. vs ++ if_any c.args.self.now.newest) (older_at c.replace.new.self c.args.self.now.list c.in-Some.list c.in-Some.is
    ∙ older_changed c.args.older.now c.replace.new.self c.in-Some.list (Some (with_version t row (older_in c.args.older.now c.in-Some.list))) c.in-Ok.ensures.ok)
    ∙ write_older t row (older_in c.args.older.now c.in-Some.list) (if_any c.args.self.now.newest) c.in-Ok.ensures.had
    ∙ ap (λ vs. with_version t row (vs ++ if_any c.args.self.now.newest)) (sym here)
