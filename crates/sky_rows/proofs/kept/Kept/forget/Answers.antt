use Rattle.std.proofs.Common.{Some, ◌∙◌, sym, ap, subst}
use Rattle.sky_keys.specs.Versions.{without}
use Rattle.sky_rows.specs.Versions.{IsOneOfEach}
use Rattle.sky_rows.specs.Older.{older_in}
use Rattle.sky_rows.specs.Kept.{older_of}
use Rattle.sky_rows.proofs.KeptLemmas.{forget_own, forget_older, one_older, older_at, older_changed, newest_stays}
use Rattle.sky_rows.proofs.kept.Kept.forget.Goals as goal

pub returns-then-is_newest-clause-value : goal.returns-then-is_newest-clause-value
returns-then-is_newest-clause-value c = forget_own c.args.txid (older_of c.args.older.now c.args.self.now.list) c.args.self.now.newest c.requires.one (sym c.is_newest.ensures ∙ c.if-is_newest.true)

pub forget-requires-clause-one : goal.forget-requires-clause-one
forget-requires-clause-one c =
    subst IsOneOfEach (older_at c.args.older.now c.args.self.now.list c.in-Some.list c.in-Some.is) (one_older (older_of c.args.older.now c.args.self.now.list) c.args.self.now.newest c.requires.one)

pub returns-in-Some-clause-value : goal.returns-in-Some-clause-value
returns-in-Some-clause-value c =
    forget_older c.args.txid (older_of c.args.older.now c.args.self.now.list) (older_of c.forget.new.self c.args.self.now.list) c.args.self.now.newest c.args.self.now.newest
    (older_at c.forget.new.self c.args.self.now.list c.in-Some.list c.in-Some.is
    ∙ older_changed c.args.older.now c.forget.new.self c.in-Some.list (Some (without c.args.txid (older_in c.args.older.now c.in-Some.list))) c.forget.ensures
    ∙ ap (without c.args.txid) (sym (older_at c.args.older.now c.args.self.now.list c.in-Some.list c.in-Some.is)))
    (newest_stays c.args.txid c.args.self.now.newest (sym c.is_newest.ensures ∙ c.if-is_newest.false))

pub returns-in_default-clause-value : goal.returns-in_default-clause-value
returns-in_default-clause-value c =
    forget_older c.args.txid (older_of c.args.older.now c.args.self.now.list) (older_of c.args.older.now c.args.self.now.list) c.args.self.now.newest c.args.self.now.newest
    (ap (older_of c.args.older.now) c.in_default.is ∙ sym (ap (λ list. without c.args.txid (older_of c.args.older.now list)) c.in_default.is))
    (newest_stays c.args.txid c.args.self.now.newest (sym c.is_newest.ensures ∙ c.if-is_newest.false))
