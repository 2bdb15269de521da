use Rattle.std.proofs.Common.{◌≡◌, Some, ◌++◌, ◌∷◌, [], ◌∙◌, ap, subst}
use Rattle.sky_rows.specs.Older.{older_in, Changes}
use Rattle.sky_rows.specs.Kept.{older_of}
use Rattle.sky_rows.proofs.KeptLemmas.{push_newest, push_older, older_changed, older_room}
use Rattle.sky_rows.proofs.kept.Kept.push.Goals as goal

pub returns-in_default-clause-ok : goal.returns-in_default-clause-ok
returns-in_default-clause-ok c = push_newest c.args.version.txid c.args.version.row (older_of c.args.older.now c.args.self.now.list) c.args.self.now.newest c.in_default.is c.requires.first

pub returns-clause-ok : goal.returns-clause-ok
returns-clause-ok c =
    let pushed : older_in c.push.new.self c.in_ok-list.list ≡ older_of c.args.older.now c.args.self.now.list ++ c.in-Some.newest ∷ [] =
    older_changed c.make_room.new.self c.push.new.self c.in_ok-list.list (Some (older_in c.make_room.new.self c.in_ok-list.list ++ c.in-Some.newest ∷ []))
    (subst (λ v. Changes c.make_room.new.self c.in_ok-list.list (Some (older_in c.make_room.new.self c.in_ok-list.list ++ v ∷ [])) c.push.new.self) c.replace.ensures.value c.push.ensures)
    ∙ ap (λ vs. vs ++ c.in-Some.newest ∷ []) (older_room c.args.older.now c.make_room.new.self c.args.self.now.list c.in_ok-list.list c.in_ok-list.ensures.ok) in
    ap (λ v. older_in c.push.new.self c.in_ok-list.list ++ v ∷ []) c.replace.ensures.after
    ∙ push_older c.args.version.txid c.args.version.row (older_of c.args.older.now c.args.self.now.list) _ c.args.self.now.newest c.in-Some.newest c.in-Some.is pushed c.requires.first
