-- What calls do by which a copy ends, or a table goes into a state.
use Rattle.std.proofs.Common.{◌≡◌, ℕ, List, [], ◌∷◌, ◌++◌, map, Bool, true, false, Option, Some, None, option_map, unwrap_or, refl, sym, ap, ◌∙◌, if◌then◌else◌}
use Rattle.sky_names.specs.Places.{place_of}
use Rattle.sky_txid.specs.Snapshot.{SnapshotView}
use Rattle.londiste_state.specs.declared.state.TableState.{TableState}
use Rattle.londiste_state.specs.declared.state.TableState.TheVariants.{Absent, InCopy, CatchingUp, WannaSync, DoSync, Synced}
use Rattle.londiste_state.specs.Moves.{is_allowed}
use Rattle.londiste_state.specs.Nodes.{Node, of_root, of_leaf, LeafTable}
use Rattle.sky_model.specs.declared.reply.Reply.TheVariants.{Null}
use Rattle.sky_model.specs.Hands.{Hand}
use Rattle.sky_model.specs.History.{Mark, of_copy, ended, noded, state_set, copied, History, within, in_hand, Past}
use Rattle.sky_model.specs.Copies.{copies, copy_txid, is_copied}
use Rattle.sky_model.specs.Rows.{table_names}
use Rattle.sky_model.specs.Nodes.{node}
use Rattle.sky_model.specs.State.{database_of}
use Rattle.sky_model.specs.Outcome.{answers, marks_of}
use Rattle.sky_model.specs.StepCopy.{ends_copy, given_up}
use Rattle.sky_model.specs.StepNode.{moving, ending_copy, if_there, moves_table, may_move, may_copy}
use Rattle.sky_model.specs.World.{history_in, on_top}
use Rattle.sky_histories.proofs.Guarded.{copied-by, copy_txid-some}
use Rattle.sky_histories.proofs.InCopyTables.{leaf_table, may-allowed, is_past_copy}
use Rattle.sky_laws_replicas.proofs.CallPasts.{call_marks, called}
use Rattle.sky_laws_synced.proofs.ChangedTables.{table-named}
use Rattle.sky_laws_synced.proofs.Showing.{is_late}
use Rattle.sky_laws_synced.proofs.Going.{AllPlaces, places-below, places-under, MayGo, ShowsIn, Goes, KeptGoes, suits-step}
use Rattle.sky_laws_synced.proofs.PlainCalls.{kept-mark}
use Rattle.sky_laws_synced.proofs.CopyEnds.{AtEnd, copy-left}

-- ---- the end of a copy

module _ (past : Past) (d : ℕ) (name : List ℕ) (under : SnapshotView) (tick : ℕ) (other : List ℕ) (hand : Option Hand) (kept : KeptGoes past) where
  abbrev h : History
  h = history_in past d

  -- if these are its marks
  abbrev KeptBy : List Mark → Type 0
  KeptBy marks = AtEnd (in_hand d other hand ∷ on_top past (map (within d) marks)) → KeptGoes (on_top past (map (within d) marks))

  both-marks : (n t : ℕ) → may_copy name (node h) ≡ true → place_of name (table_names h) ≡ Some n → copy_txid n (copies h) ≡ Some t → KeptBy (ended (of_copy n) t true ∷ noded (copied name under tick) ∷ [])
  both-marks n t may there runs e =
      let over : Past = within d (ended (of_copy n) t true) ∷ past in
      suits-step over (within d (noded (copied name under tick)))
      (λ all _.
      let first : Goes past = kept (places-below past (within d (ended (of_copy n) t true)) (places-below over (within d (noded (copied name under tick))) all)) in
      copy-left past d n t name under tick other hand all first (copy_txid-some n t (copies h) runs) there may e) (kept-mark past d (ended (of_copy n) t true) refl kept)

  pub kept-ending : KeptBy (call_marks h (ending_copy name under tick))
  kept-ending = of (may_copy name (node h)) refl
    where
      by_copy : (n : ℕ) → may_copy name (node h) ≡ true → place_of name (table_names h) ≡ Some n → (o : Option ℕ) → copy_txid n (copies h) ≡ o → KeptBy (marks_of (if_there o (λ t. ends_copy n t name under tick)))
      by_copy n may there None is = λ _. kept
      by_copy n may there (Some t) is = both-marks n t may there is

      by_table : may_copy name (node h) ≡ true → (o : Option ℕ) → place_of name (table_names h) ≡ o → KeptBy (marks_of (if_there o (λ n. if_there (copy_txid n (copies h)) (λ t. ends_copy n t name under tick))))
      by_table may None is = λ _. kept
      by_table may (Some n) is = by_copy n may is (copy_txid n (copies h)) refl

      of : (b : Bool) → may_copy name (node h) ≡ b
          → KeptBy (marks_of (if b then if_there (place_of name (table_names h)) (λ n. if_there (copy_txid n (copies h)) (λ t. ends_copy n t name under tick)) else answers Null))
      of true is = by_table is (place_of name (table_names h)) refl
      of false is = λ _. kept

-- ---- a table goes into a state

-- a table that goes into one of these states was copied
allowed-along : (from to : TableState) → is_allowed from to ≡ true → is_late to ≡ true → is_past_copy from ≡ true
allowed-along CatchingUp to may late = refl
allowed-along (WannaSync tick) to may late = refl
allowed-along (DoSync tick) to may late = refl
allowed-along Synced to may late = refl
allowed-along Absent InCopy may late = absurd (cc late)
allowed-along Absent Absent may late = absurd (cc may)
allowed-along Absent CatchingUp may late = absurd (cc may)
allowed-along Absent (WannaSync tick) may late = absurd (cc may)
allowed-along Absent (DoSync tick) may late = absurd (cc may)
allowed-along Absent Synced may late = absurd (cc may)
allowed-along InCopy CatchingUp may late = absurd (cc late)
allowed-along InCopy Absent may late = absurd (cc may)
allowed-along InCopy InCopy may late = absurd (cc may)
allowed-along InCopy (WannaSync tick) may late = absurd (cc may)
allowed-along InCopy (DoSync tick) may late = absurd (cc may)
allowed-along InCopy Synced may late = absurd (cc may)

record IsMovable (name : List ℕ) (state : TableState) (h : History) : Type 0 where
  t : LeafTable
  there : leaf_table name (node h) ≡ Some t
  allowed : is_allowed t.state state ≡ true

movable : (name : List ℕ) (state : TableState) (h : History) → may_move name state (node h) ≡ true → IsMovable name state h
movable name state h may = of (leaf_table name (node h)) refl
  where
    nowhere : (n : Option Node) → leaf_table name n ≡ None → may_move name state n ≡ false
    nowhere None e = refl
    nowhere (Some (of_root r)) e = refl
    nowhere (Some (of_leaf l)) e = ap (λ o. unwrap_or (option_map (λ (x : LeafTable). is_allowed x.state state) o) false) e

    of : (o : Option LeafTable) → leaf_table name (node h) ≡ o → IsMovable name state h
    of None is = absurd (cc (sym may ∙ nowhere (node h) is))
    of (Some t) is = record { t = t; there = is; allowed = may-allowed name state (node h) t is may }

module _ (past : Past) (d : ℕ) (name : List ℕ) (state : TableState) (late : is_late state ≡ true) (goes : AllPlaces past → Goes past → MayGo past d name state) (kept : KeptGoes past) where
  abbrev g : History
  g = history_in past d

  pub kept-moving : KeptGoes (called past d (moving name state))
  kept-moving = of (may_move name state (node g)) refl
    where
      -- of one that was copied no copy runs
      by_copy : (n : ℕ) → may_move name state (node g) ≡ true → place_of name (table_names g) ≡ Some n → (o : Option ℕ) → copy_txid n (copies g) ≡ o
          → KeptGoes (on_top past (map (within d) (given_up n name o ++ noded (state_set name state) ∷ [])))
      by_copy n may there None is = suits-step past (within d (noded (state_set name state))) (λ all first. goes (places-below past (within d (noded (state_set name state))) all) first) kept
      by_copy n may there (Some t) is = λ all.
          let first : Goes past = kept (places-under past (map (within d) (given_up n name (Some t) ++ noded (state_set name state) ∷ [])) all) in
          let m : IsMovable name state g = movable name state g may in
          let s : ShowsIn past d g m.t = first.shown d name m.t m.there (allowed-along m.t.state state m.allowed late) in
          let number : Some s.shows.table ≡ Some n = sym s.shows.named ∙ ap (λ x. place_of x (table_names g)) (table-named name (node g) m.t m.there) ∙ there in
          let one : s.shows.table ≡ n = cc number in
          absurd (cc (sym s.rests.none ∙ ap (λ x. is_copied x (copies g)) one ∙ copied-by n t (copies g) (copy_txid-some n t (copies g) is)))

      by_table : may_move name state (node g) ≡ true → (o : Option ℕ) → place_of name (table_names g) ≡ o → KeptGoes (on_top past (map (within d) (marks_of (if_there o (λ n. moves_table (database_of g) n name state)))))
      by_table may None is = kept
      by_table may (Some n) is = by_copy n may is (copy_txid n (copies g)) refl

      of : (b : Bool) → may_move name state (node g) ≡ b
          → KeptGoes (on_top past (map (within d) (marks_of (if b then if_there (place_of name (table_names g)) (λ n. moves_table (database_of g) n name state) else answers Null))))
      of true is = by_table is (place_of name (table_names g)) refl
      of false is = kept
