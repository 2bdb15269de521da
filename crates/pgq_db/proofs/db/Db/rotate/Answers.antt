use Rattle.std.proofs.Common.{◌≡◌, ℤ, subst, to_z, of_z, w64}
use Rattle.std.proofs.lemmas.Int.{to_z-of_z}
use Rattle.sky_model.specs.Daemon.{daemon_does}
use Rattle.sky_model.specs.Reader.{database_by_itself}
use Rattle.sky_model.specs.State.{Database, after_marks}
use Rattle.sky_model.specs.declared.daemon.DaemonPart.TheVariants.{Maintain}
use Rattle.pgq_parts.specs.Seen.{seen_database}
use Rattle.pgq_parts.proofs.Daemons.{rotated-all}
use Rattle.pgq_parts.proofs.Results.{on-ok}
use Rattle.pgq_db.proofs.db.Db.rotate.Goals as goal

pub returns : goal.returns
returns g c =
    let d : Database = seen_database c.args.self.now in
    let s : Database = seen_database c.end_rotation.new.self in
    on-ok c.end_rotation.result c.end_rotation.ensures
    (λ ended. subst (λ (now : ℤ). s ≡ after_marks d (daemon_does database_by_itself d Maintain now).marks) (to_z-of_z w64 c.args.now c.ranges.now)
    (rotated-all d (seen_database c.begin_switches.new.self) s (to_z w64 (of_z w64 c.args.now)) c.in_ok-begin_switches.ensures ended))
