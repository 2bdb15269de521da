use Rattle.std.proofs.Common.{◌≡◌, false, ◌∙◌, sym, ap, subst, arith}
use Rattle.std.proofs.lemmas.Bool.Decides.{nat_tests}
use Rattle.sky_keys.specs.Versions.{version_of}
use Rattle.sky_rows.specs.Versions.{IsOneOfEach}
use Rattle.sky_rows.specs.Kept.{older_of, is_newest}
use Rattle.sky_rows.proofs.KeptLemmas.{own_kept, own_passed, one_older, older_at}
use Rattle.sky_rows.proofs.kept.Kept.own.Goals as goal
use Rattle.sky_rows.proofs.kept.Kept.own.Goals.{in_default-via-in-Some+else-version-txid, in_default-via-in_default}

pub own-requires-clause-one : goal.own-requires-clause-one
own-requires-clause-one c = subst IsOneOfEach (older_at c.args.older.now c.args.self.now.list c.in_ok-self-in_default.field-0 c.in_ok-self-in_default.was) (one_older (older_of c.args.older.now c.args.self.now.list) c.args.self.now.newest c.requires.one)

pub returns-in-Some : goal.returns-in-Some
returns-in-Some c = own_kept c.args.txid (older_of c.args.older.now c.args.self.now.list) c.args.self.now.newest c.in-Some.version c.requires.one c.in-Some.is (grind (arith, nat_tests, c.if-version-txid.true))

pub returns-in_ok-self-in_default : goal.returns-in_ok-self-in_default
returns-in_ok-self-in_default c =
    let other : is_newest c.args.txid c.args.self.now.newest ≡ false = elim c.in_default.branch [
      | in_default-via-in-Some+else-version-txid w ↦ ap (is_newest c.args.txid) w.in-Some.is ∙ grind (arith, nat_tests, w.if-version-txid.false)
      | in_default-via-in_default w ↦ ap (is_newest c.args.txid) w.in_default.is
    ] in
    c.own.ensures ∙ sym (own_passed c.args.txid (older_of c.args.older.now c.args.self.now.list) c.args.self.now.newest other
    ∙ ap (version_of c.args.txid) (older_at c.args.older.now c.args.self.now.list c.in_ok-self-in_default.field-0 c.in_ok-self-in_default.was))
