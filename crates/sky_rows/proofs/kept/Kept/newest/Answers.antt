use Rattle.std.proofs.Common.{◌∙◌, sym, ap, arith}
use Rattle.std.proofs.lemmas.Option.{same_Some}
use Rattle.sky_keys.specs.declared.version.Version.{Version}
use Rattle.sky_keys.specs.Versions.{is_other, newest_but}
use Rattle.sky_rows.specs.Kept.{older_of}
use Rattle.sky_rows.proofs.Walk.{differs}
use Rattle.sky_rows.proofs.KeptLemmas.{newest_kept, newest_passed, older_at}
use Rattle.sky_rows.proofs.kept.Kept.newest.Goals as goal
use Rattle.sky_rows.proofs.kept.Kept.newest.Goals.{in_default-via-in-Some+else-ne, in_default-via-in_default}

pub returns-in-Some : goal.returns-in-Some
returns-in-Some c = newest_kept (is_other c.args.except) (older_of c.args.older.now c.args.self.now.list) c.args.self.now.newest c.in-Some.version c.in-Some.is
    (grind (arith, c.ne.ensures, c.if-ne.true, differs c.args.except c.in-Some.version.txid))

pub returns-in_ok-self-in_default : goal.returns-in_ok-self-in_default
returns-in_ok-self-in_default c =
    c.newest.ensures
    ∙ sym (newest_passed (is_other c.args.except) (older_of c.args.older.now c.args.self.now.list) c.args.self.now.newest (elim c.in_default.branch [
      | in_default-via-in-Some+else-ne w ↦ λ v is. ap (λ (u : Version). is_other c.args.except u.txid) (same_Some _ _ (sym is ∙ w.in-Some.is)) ∙ grind (arith, w.ne.ensures, w.if-ne.false, differs c.args.except w.in-Some.version.txid)
      | in_default-via-in_default w ↦ λ v is. absurd (cc (sym is ∙ w.in_default.is))
    ]) ∙ ap (newest_but c.args.except) (older_at c.args.older.now c.args.self.now.list c.in_ok-self-in_default.field-0 c.in_ok-self-in_default.was))
