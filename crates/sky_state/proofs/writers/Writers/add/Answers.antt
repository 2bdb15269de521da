use Rattle.std.proofs.Common.{◌≡◌, ℕ, List, rules, unwrap_or, ◌∙◌, ap}
use Rattle.std.specs.Prelude.{◌||◌, ◌&&◌, ◌==◌}
use Rattle.std.specs.Map.{lookup}
use Rattle.std.specs.BTreeMap.{is_at}
use Rattle.std.specs.Ordering.{nat_cmp}
use Rattle.std.proofs.lemmas.Nat.{one_shl}
use Rattle.sky_state.specs.Seen.{wrote_in}
use Rattle.sky_state.proofs.WriterBits.{added}
use Rattle.sky_state.proofs.writers.Writers.add.Goals as goal

pub returns-clause-ok : goal.returns-clause-ok
returns-clause-ok c =
    let had : c.unwrap_or-tables.result ≡ unwrap_or (lookup (is_at (nat_cmp c.args.txid)) c.self.inside.tables.entries) 0 = search rules in
    λ i n t. (added c.self.inside.tables.entries c.insert.new.self.entries c.args.table c.args.txid c.unwrap_or-tables.result _ had (one_shl c.args.table 64 c.requires) c.in_ok-insert.ensures.updates.0 n t
    ∙ ap (λ (w : List (ℕ × ℕ)). (c.args.table == n && c.args.txid == t) || wrote_in w n t) c.self.view_is) i
