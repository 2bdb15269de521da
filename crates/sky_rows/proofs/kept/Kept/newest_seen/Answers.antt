use Rattle.std.proofs.Common.{◌∙◌, sym, ap}
use Rattle.std.proofs.lemmas.Option.{same_Some}
use Rattle.sky_txid.specs.Snapshot.{sees}
use Rattle.sky_keys.specs.declared.version.Version.{Version}
use Rattle.sky_keys.specs.Versions.{newest_by}
use Rattle.sky_rows.specs.Kept.{older_of}
use Rattle.sky_rows.proofs.KeptLemmas.{newest_kept, newest_passed, older_at}
use Rattle.sky_rows.proofs.kept.Kept.newest_seen.Goals as goal
use Rattle.sky_rows.proofs.kept.Kept.newest_seen.Goals.{in_default-via-in-Some+else-sees, in_default-via-in_default}

pub returns-in-Some : goal.returns-in-Some
returns-in-Some c = newest_kept (sees c.args.snapshot.now) (older_of c.args.older.now c.args.self.now.list) c.args.self.now.newest c.in-Some.version c.in-Some.is (sym c.sees.ensures ∙ c.if-sees.true)

pub returns-in_ok-self-in_default : goal.returns-in_ok-self-in_default
returns-in_ok-self-in_default c =
    c.newest_seen.ensures
    ∙ sym (newest_passed (sees c.args.snapshot.now) (older_of c.args.older.now c.args.self.now.list) c.args.self.now.newest (elim c.in_default.branch [
      | in_default-via-in-Some+else-sees w ↦ λ v is. ap (λ (u : Version). sees c.args.snapshot.now u.txid) (same_Some _ _ (sym is ∙ w.in-Some.is)) ∙ sym w.sees.ensures ∙ w.if-sees.false
      | in_default-via-in_default w ↦ λ v is. absurd (cc (sym is ∙ w.in_default.is))
    ]) ∙ ap (newest_by (sees c.args.snapshot.now)) (older_at c.args.older.now c.args.self.now.list c.in_ok-self-in_default.field-0 c.in_ok-self-in_default.was))
