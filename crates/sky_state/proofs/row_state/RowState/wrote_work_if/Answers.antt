use Rattle.std.proofs.Common.{◌≡◌, List, ◌||◌, ◌&&◌, ◌==◌, None, Some, IsSome, is_some, is_none, if◌then◌else◌, ◌∙◌, ap, sym, subst}
use Rattle.sky_keys.specs.Versions.{newest_but, read, version_of, versions_at, written}
use Rattle.sky_keys.specs.declared.version.Version.{Version}
use Rattle.sky_val.specs.Entries.{Entries}
use Rattle.sky_rows.specs.Table.{TableView}
use Rattle.sky_state.proofs.AloneLemmas.{version-written}
use Rattle.sky_state.proofs.WorkLemmas.{versions-reached, work_wrote-as}
use Rattle.sky_state.proofs.row_state.RowState.wrote_work_if.Goals as goal

pub write_if-requires : goal.write_if-requires
write_if-requires c =
    let reached = versions-reached _ _ c.args.table c.get_mut-rows.result.now c.prune.new.self c.self.view_is c.get_mut-rows.ensures.within c.get_mut-rows.ensures.value c.prune.ensures in
    record {
      last = subst (λ (entries : Entries (List Version)). let versions = versions_at c.args.key entries in IsSome (version_of c.args.txid versions) → newest_but None versions ≡ version_of c.args.txid versions) (sym reached) c.requires.last;
    }

pub returns-then-not-is_made-clause-made : goal.returns-then-not-is_made-clause-made
returns-then-not-is_made-clause-made c =
    let reached = versions-reached _ _ c.args.table c.get_mut-rows.result.now c.prune.new.self c.self.view_is c.get_mut-rows.ensures.within c.get_mut-rows.ensures.value c.prune.ensures in
    sym c.if-not-is_made.true ∙ c.in_ok-is_made.ensures.made
    ∙ ap (λ (entries : Entries (List Version)). let before = read c.args.snapshot.now (Some c.args.txid) (versions_at c.args.key entries) in if c.args.needs_row then is_some before else is_none before) reached

pub returns-clause-made : goal.returns-clause-made
returns-clause-made c =
    let reached = versions-reached _ _ c.args.table c.get_mut-rows.result.now c.prune.new.self c.self.view_is c.get_mut-rows.ensures.within c.get_mut-rows.ensures.value c.prune.ensures in
    sym c.if-not-is_made.false ∙ c.in_ok-is_made.ensures.made
    ∙ ap (λ (entries : Entries (List Version)). let before = read c.args.snapshot.now (Some c.args.txid) (versions_at c.args.key entries) in if c.args.needs_row then is_some before else is_none before) reached

pub returns-clause-ok : goal.returns-clause-ok
returns-clause-ok c = λ old _.
    let v = c.self.inside in
    let tables = version-written v.tables.values c.args.table c.args.txid c.args.key c.args.row c.get_mut-rows.result.now c.write_if.new.self c.get_mut-rows.ensures.within c.get_mut-rows.ensures.value
    (c.in_ok-is_made.ensures.ok c.if-not-is_made.false ∙ ap (λ (t : TableView). record t { versions = written c.args.txid c.args.key c.args.row t.versions; places = c.write_if.new.self.places }) c.prune.ensures) in
    work_wrote-as _ _ _ c.note.new.self c.args.txid c.args.table c.args.key old c.args.row c.self.view_is tables.0 tables.1
    (c.note.ensures ∙ (λ i n u. (c.args.table == n && c.args.txid == u) || c.make_room.ensures.same i n u))
