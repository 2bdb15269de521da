-- The marks of workers' transactions, in what the code keeps.
use Rattle.std.proofs.Common.{◌≡◌, ℕ, ◌<◌, List, true, false, not, ◌&&◌, ◌||◌, ◌==◌, Option, filter, length, get_or, sym, ap, ◌∙◌}
use Rattle.sky_names.specs.Named.{NamedView}
use Rattle.sky_val.specs.declared.val.Val.{Val}
use Rattle.sky_keys.specs.Versions.{written, forgotten}
use Rattle.sky_trans.specs.Trans.{TransView}
use Rattle.sky_rows.specs.Table.{TableView}
use Rattle.sky_model.specs.History.{of_worker, ended, tabled, wrote}
use Rattle.sky_model.specs.State.{changed_at, after_part}
use Rattle.sky_state.specs.Views.{RowStateView}
use Rattle.sky_state.proofs.SessionLists.{read-at}
use Rattle.sky_state.specs.Seen.{no_table, columns_of, versions_of, wrote_in, seen}

-- a write counts its transaction as a writer of the table, and takes no key
pub work_wrote-as : (v now : RowStateView) (tables : List TableView) (writers : List (ℕ × ℕ)) (t table : ℕ) (key : List Val) (old row : Option (List Val)) → v ≡ now
    → columns_of tables ≡ columns_of v.tables.values → versions_of tables ≡ changed_at table (written t key row) (versions_of v.tables.values)
    → wrote_in writers ≡ (λ n u. (table == n && t == u) || wrote_in v.writers n u)
    → seen (record v { tables = record v.tables { values = tables }; writers = writers }) ≡ after_part (seen now) (tabled (wrote of_worker t table key old row))
work_wrote-as v now tables writers t table key old row same columns versions writes =
    (λ i. record (seen v) { columns = columns i; versions = versions i; wrote_in = writes i })
    ∙ ap (λ (w : RowStateView). after_part (seen w) (tabled (wrote of_worker t table key old row))) same

-- a table that was reached, and pruned, has the versions that are seen
pub versions-reached : (v now : RowStateView) (n : ℕ) (reached pruned : TableView) → v ≡ now → n < length v.tables.values → reached ≡ get_or v.tables.values n reached → pruned ≡ reached → pruned.versions ≡ (seen now).versions n
versions-reached v now n reached pruned same lt at is =
    ap (λ (table : TableView). table.versions) (is ∙ sym (read-at v.tables.values n reached no_table lt at)) ∙ ap (λ (w : RowStateView). versions_of w.tables.values n) same

-- one that has committed doesn't
pub work_committed-as : (v now : RowStateView) (trans : TransView) (workers : List ℕ) (writers : List (ℕ × ℕ)) (t : ℕ) → v ≡ now
    → trans ≡ record v.trans { running = filter (λ u. not (u == t)) v.trans.running } → workers ≡ filter (λ u. not (u == t)) v.workers
    → wrote_in writers ≡ (λ n u. not (t == u) && wrote_in v.writers n u)
    → seen (record v { trans = trans; workers = workers; writers = writers }) ≡ after_part (seen now) (ended of_worker t true)
work_committed-as v now trans workers writers t same less none gone =
    (λ i. record (seen v) { next = (less i).next; running_ids = (less i).running; workers = none i; wrote_in = gone i })
    ∙ ap (λ (w : RowStateView). after_part (seen w) (ended of_worker t true)) same

-- and one that was rolled back has no version either
pub work_aborted-as : (v now : RowStateView) (trans : TransView) (workers : List ℕ) (tables : NamedView TableView) (writers : List (ℕ × ℕ)) (t : ℕ) → v ≡ now
    → trans ≡ record v.trans { running = filter (λ u. not (u == t)) v.trans.running } → workers ≡ filter (λ u. not (u == t)) v.workers
    → tables.names ≡ v.tables.names → columns_of tables.values ≡ columns_of v.tables.values → versions_of tables.values ≡ (λ n. forgotten t (versions_of v.tables.values n))
    → wrote_in writers ≡ (λ n u. not (t == u) && wrote_in v.writers n u)
    → seen (record v { trans = trans; workers = workers; tables = tables; writers = writers }) ≡ after_part (seen now) (ended of_worker t false)
work_aborted-as v now trans workers tables writers t same less none names columns versions gone =
    (λ i. record (seen v) { next = (less i).next; running_ids = (less i).running; workers = none i; tables = names i; columns = columns i; versions = versions i; wrote_in = gone i })
    ∙ ap (λ (w : RowStateView). after_part (seen w) (ended of_worker t false)) same
