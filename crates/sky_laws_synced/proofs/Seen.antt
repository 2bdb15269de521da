-- What sessions are shown of replicated tables.
use Rattle.std.proofs.Common.{◌≡◌, ℕ, List, [], ◌∷◌, ◌++◌, true, not, ◌&&◌, Option, Some, None, All, refl, sym, ap, subst, ◌∙◌}
use Rattle.std.proofs.lemmas.List.Elements.{All-tail}
use Rattle.sky_val.specs.declared.val.Val.{Val}
use Rattle.sky_val.specs.Entries.{Entries}
use Rattle.sky_names.specs.Places.{place_of}
use Rattle.londiste_state.specs.Nodes.{is_among}
use Rattle.sky_model.specs.History.{History, Past}
use Rattle.sky_model.specs.Sessions.{own_txid}
use Rattle.sky_model.specs.Rows.{table_names, is_read_only, writes, rows, put_all, own_writes, rows_shown}
use Rattle.sky_model.specs.Nodes.{node, leaf_tables}
use Rattle.sky_model.specs.World.{history_in}
use Rattle.sky_model.specs.Calls.{Call, past_of}
use Rattle.sky_model.specs.Steps.{IsCallInForm}
use Rattle.sky_model.specs.HistoryPlaces.{IsPlace}
use Rattle.sky_histories.proofs.Legal.{Legal}
use Rattle.sky_histories.proofs.Snapshots.{own-unended}
use Rattle.sky_histories.proofs.SnapshotLaws.{legal_place}
use Rattle.sky_histories.proofs.RowSights.{Since, place-since}
use Rattle.sky_histories.proofs.WrittenTables.{some, is-written}
use Rattle.sky_laws.proofs.NodeLaws.{leaf_tables_are_read_only}
use Rattle.sky_laws.proofs.WritableTables.{read_only_tables_are_unwritten}
use Rattle.sky_histories.proofs.Histories.{histories_are_made_by_own_calls, world_place}
use Rattle.sky_laws_changes.proofs.ListedTables.{place-kept, among-one}
use Rattle.sky_laws_synced.specs.LawsOfSynced.{ShowsProvider}
use Rattle.sky_laws_synced.specs.LawsOfSeen.{provided_rows, SessionsSeeReplicas}
use Rattle.sky_laws_synced.proofs.SyncedLaws.{replicas_show_provider}
use Rattle.sky_laws_synced.proofs.RestingTables.{nothing}

-- ---- own writes

-- a session has written no table of a leaf
own-none : (calls : List Call) → All IsCallInForm calls → (d who : ℕ) (name : List ℕ) (n : ℕ) → (let h : History = history_in (past_of calls) d in
    place_of name (table_names h) ≡ Some n → is_among name (leaf_tables (node h)) ≡ true → own_writes n (own_txid who h) h ≡ [])
own-none calls in_form d who name n named among = of (own_txid who h) refl
  where
    h : History
    h = history_in (past_of calls) d

    place : IsPlace h
    place = world_place calls d [] h in_form refl

    l : Legal h
    l = legal_place h place

    guarded : is_read_only n h ≡ true
    guarded =
        let made = histories_are_made_by_own_calls calls d in
        subst (λ g. place_of name (table_names g) ≡ Some n → is_among name (leaf_tables (node g)) ≡ true → is_read_only n g ≡ true) made.make
        (λ there is. leaf_tables_are_read_only made.own_calls n ∙ among-one _ _ name n there is) named among

    of : (o : Option ℕ) → own_txid who h ≡ o → own_writes n o h ≡ []
    of None owns = refl
    of (Some t) owns =
        nothing (writes n t h)
        (sym (ap (λ b. not b && some (writes n t h)) (own-unended h l who t owns)) ∙ sym (is-written h l n t) ∙ read_only_tables_are_unwritten h place who t n owns guarded)

-- ---- the rows

first-calls : (later upto : List Call) → All IsCallInForm (later ++ upto) → All IsCallInForm upto
first-calls [] upto all = all
first-calls (call ∷ later) upto all = first-calls later upto (All-tail IsCallInForm call (later ++ upto) all)

pub sessions_see_replicas : SessionsSeeReplicas
sessions_see_replicas calls in_form d who s leaf provider name t is found there state = record {
  shows = x;
  named = named;
  shown = shown;
  alone = λ among. shown ∙ ap (λ ws. put_all ws provided) (own-none calls in_form d who t.name x.table named among);
}
  where
    past : Past
    past = past_of s.upto

    h : History
    h = history_in (past_of calls) d

    x : ShowsProvider (history_in past d) (history_in past provider.database) leaf t
    x = replicas_show_provider s.upto (first-calls s.later s.upto (subst (All IsCallInForm) s.are in_form)) d leaf provider name t is found there state

    provided : Entries (List Val)
    provided = provided_rows (history_in past d) (history_in past provider.database) leaf t x

    named : place_of t.name (table_names h) ≡ Some x.table
    named = place-kept t.name x.table (subst (λ p. Since p h) s.sees (place-since h who)) x.named

    shown : rows_shown who x.table h ≡ put_all (own_writes x.table (own_txid who h) h) provided
    shown = ap (λ p. put_all (own_writes x.table (own_txid who h) h) (rows x.table p)) s.sees ∙ ap (put_all (own_writes x.table (own_txid who h) h)) x.same
