use Rattle.std.proofs.Common.{◌≡◌, ℕ, Bool, true, false, cond, List, [], ◌∷◌, Option, Some, None, is_some, refl, sym, ◌∙◌, ap}
use Rattle.std.specs.Prelude.{option_map}
use Rattle.sky_keys.specs.declared.version.Version.{Version}
use Rattle.sky_txid.specs.Snapshot.{SnapshotView, sees}
use Rattle.sky_keys.specs.Versions.{newest_from, newest_by, own_version, versions_at}
use Rattle.sky_model.specs.Rows.{unless}
use Rattle.sky_model.specs.Sessions.{Session, place_of_sight}
use Rattle.sky_model.specs.State.{RowPart}
use Rattle.sky_model.specs.ShownRows.{snapshot_now, unseen_in}
use Rattle.sky_state.specs.Seen.{seen}
use Rattle.sky_state.proofs.row_state.RowState.unseen.Goals as goal

-- the newest version that passes a test passes it
newest-passes : (p : ℕ → Bool) (newest : Option Version) (vs : List Version) → unless p (option_map Version.txid newest) ≡ None → unless p (option_map Version.txid (newest_from p newest vs)) ≡ None
newest-passes p newest [] passes = passes
newest-passes p newest (v ∷ vs) passes = newest-passes p (cond (p v.txid) (Some v) newest) vs
    (elim (p v.txid) as (λ b. p v.txid ≡ b → unless p (option_map Version.txid (cond b (Some v) newest)) ≡ None) [
      | true ↦ λ here. ap (λ b. cond b None (Some v.txid)) here
      | false ↦ λ _. passes
    ] refl)

-- a session that reads by the present snapshot sees all that this one sees
none_unseen : (d : RowPart) (s : Session) (vs : List Version) → ((own : SnapshotView) → place_of_sight own s.sight ≡ own) → unseen_in d s vs ≡ None
none_unseen d s vs now =
    let newest = option_map Version.txid (newest_by (sees (snapshot_now d)) vs) in
    elim (is_some (own_version s.txid vs)) as (λ b. cond b None (unless (sees (place_of_sight (snapshot_now d) s.sight)) newest) ≡ None) [
      | true ↦ refl
      | false ↦ ap (λ shown. unless (sees shown) newest) (now (snapshot_now d)) ∙ newest-passes (sees (snapshot_now d)) None vs refl
    ]

pub returns-in_default : goal.returns-in_default
returns-in_default c =
    let d = seen c.args.self.now in
    sym (none_unseen d (d.session c.args.who) (versions_at c.args.key.now (d.versions c.args.table)) c.in_default.ensures)
