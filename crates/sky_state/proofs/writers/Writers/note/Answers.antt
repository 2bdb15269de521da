use Rattle.std.proofs.Common.{ℕ, List, unwrap_or, IsSome, refl, subst, ◌∙◌, ap}
use Rattle.std.specs.Prelude.{◌||◌, ◌&&◌, ◌==◌}
use Rattle.std.specs.Map.{lookup}
use Rattle.std.specs.BTreeMap.{is_at}
use Rattle.std.specs.Ordering.{nat_cmp}
use Rattle.std.proofs.lemmas.Nat.{one_shl}
use Rattle.sky_state.specs.Seen.{wrote_in}
use Rattle.sky_state.proofs.WriterBits.{added, found-set}
use Rattle.sky_state.proofs.writers.Writers.note.Goals as goal

pub returns : goal.returns
returns c =
    let es = c.self.inside.tables.entries in
    let found = c.in-Some.ensures.value in
    let there : IsSome (lookup (is_at (nat_cmp c.args.txid)) es) = subst IsSome found refl in
    let is = (c.get_mut.follows.holds _).0 in
    λ i n t. (added es _ c.args.table c.args.txid c.in-Some.tables.now _ (ap (λ o. unwrap_or o 0) found) (one_shl c.args.table 64 c.requires.table)
    (λ u. ap (lookup (is_at (nat_cmp u))) is ∙ found-set c.args.txid _ es there u) n t
    ∙ ap (λ (w : List (ℕ × ℕ)). (c.args.table == n && c.args.txid == t) || wrote_in w n t) c.self.view_is) i
