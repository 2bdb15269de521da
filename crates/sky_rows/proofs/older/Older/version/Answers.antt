use Rattle.std.proofs.Common.{◌≡◌, Option, Some, None, Bor, subst, sym, rules}
use Rattle.std.specs.Prelude.{OnSome}
use Rattle.std.specs.Option.{option_copied}
use Rattle.sky_chain.specs.Chains.{IsLinked}
use Rattle.sky_keys.specs.declared.version.Version.{Version}
use Rattle.sky_rows.specs.Older.{OlderView, node_at, IsFilled}
use Rattle.sky_rows.proofs.Linked.{is_linked}
use Rattle.sky_rows.proofs.older.Older.version.Goals as goal

linked_if_any : (older : OlderView) (node : _) (o : Option (Bor Version)) → IsFilled older.chains older.nodes → option_copied o ≡ node_at older.nodes node → OnSome o (IsLinked older.chains node)
linked_if_any older node None filled is = tt
linked_if_any older node (Some v) filled is = is_linked older node v.now filled (sym is)

pub returns-clause-linked : goal.returns-clause-linked
returns-clause-linked c = linked_if_any c.args.self.now c.args.node c.as_ref.result (subst (λ (o : OlderView). IsFilled o.chains o.nodes) c.self.view_is c.self.invariant) (search rules)
