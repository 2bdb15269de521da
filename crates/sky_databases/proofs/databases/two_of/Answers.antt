use Rattle.std.proofs.Common.{refl, arith, ◌<◌}
use Rattle.std.proofs.lemmas.Bool.Decides.{nat_tests}
use Rattle.sky_databases.proofs.TwoPlaces.{first-before, first-after, read-front, read-seam}
use Rattle.sky_databases.proofs.databases.two_of.Goals as goal

pub returns-then-first-second : goal.returns-then-first-second
returns-then-first-second g c =
    let cut = c.split_at_mut-front.ensures in
    let before = c.if-first-second.true in (
      ((refl, refl), λ x y. first-before c.args.values.now _ _ c.args.first c.args.second x y cut.value cut.front_len before),
      record {
        writes_back = tt;
        first = read-front c.args.values.now _ _ c.args.first _ cut.value (omega (arith, before, cut.front_len)) c.index-front-first.is;
        second = read-seam c.args.values.now _ _ c.args.second _ cut.value cut.front_len c.index-back-0.is;
      },
    )

pub returns-else-first-second : goal.returns-else-first-second
returns-else-first-second g c =
    let cut = c.split_at_mut-front-else-first-second.ensures in
    let after : c.args.second < c.args.first = grind (arith, nat_tests, c.requires.apart, c.if-first-second.false) in (
      ((refl, refl), λ x y. first-after c.args.values.now _ _ c.args.first c.args.second x y cut.value cut.front_len after),
      record {
        writes_back = tt;
        first = read-seam c.args.values.now _ _ c.args.first _ cut.value cut.front_len c.index-back-0-else-first-second.is;
        second = read-front c.args.values.now _ _ c.args.second _ cut.value (omega (arith, after, cut.front_len)) c.index-front-second.is;
      },
    )
