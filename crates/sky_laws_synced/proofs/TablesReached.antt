-- The laws on how far the tables of leaves have come, and on the batches that were applied to them.
use Rattle.std.proofs.Common.{◌≡◌, Some, ap, subst, ◌∙◌}
use Rattle.sky_model.specs.History.{History}
use Rattle.sky_model.specs.Nodes.{node}
use Rattle.sky_model.specs.World.{history_in}
use Rattle.sky_model.specs.Calls.{past_of}
use Rattle.sky_histories.proofs.InCopyTables.{leaf_table}
use Rattle.sky_laws_synced.specs.Tables.{tick_in}
use Rattle.sky_laws_synced.specs.LawsOfChanges.{reached, TablesHaveReachedTheirTicks, AppliedBatchesLeadOn}
use Rattle.sky_laws_synced.proofs.ChangedTables.{leafs_tick, table-named}
use Rattle.sky_laws_synced.proofs.ReachedTicks.{Reaches}
use Rattle.sky_laws_synced.proofs.LedMarks.{AllApplied, applied-at-place}
use Rattle.sky_laws_synced.proofs.SyncedLaws.{either-along, goes-past}

pub tables_have_reached_their_ticks : TablesHaveReachedTheirTicks
tables_have_reached_their_ticks calls in_form d leaf name t is there state = record {
  under = r.under;
  taken = r.taken;
  is = ap (λ n. reached n h) (table-named name (node h) t in_table) ∙ r.is ∙ ap (λ n. Some (record { under = r.under; tick = tick_in t.state (leafs_tick n) t.tick })) is;
}
  where
    h : History
    h = history_in (past_of calls) d

    in_table : leaf_table name (node h) ≡ Some t
    in_table = ap (leaf_table name) is ∙ there

    r : Reaches h name t
    r = (goes-past calls in_form).reached d name t in_table (either-along t.state state)

pub applied_batches_lead_on : AppliedBatchesLeadOn
applied_batches_lead_on calls in_form d later g pick tick is =
    applied-at-place (past_of calls) d later g pick tick (subst (AllApplied (past_of calls) d) is ((goes-past calls in_form).batches_applied d))
