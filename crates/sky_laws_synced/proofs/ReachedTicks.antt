-- How far a leaf's table has come, as the marks of the leaf's database say.
use Rattle.std.proofs.Common.{◌≡◌, ℕ, ◌^◌, nat_le, List, [], ◌∷◌, ◌++◌, length, Bool, true, false, Some, None, Ok, option_map, unwrap_or, bytes_eq, refl, sym, ap, ◌∙◌, if◌then◌else◌}
use Rattle.sky_val.specs.declared.event.Event.{Event}
use Rattle.sky_txid.specs.Snapshot.{SnapshotView}
use Rattle.sky_names.proofs.PlaceLemmas.{same_name}
use Rattle.londiste_state.specs.declared.state.TableState.{TableState}
use Rattle.londiste_state.specs.declared.state.TableState.TheVariants.{Absent, InCopy, CatchingUp, WannaSync, DoSync, Synced}
use Rattle.londiste_state.specs.Moves.{is_allowed}
use Rattle.londiste_state.specs.Nodes.{of_leaf, Leaf, LeafTable, in_state, with_copy}
use Rattle.sky_model.specs.declared.reply.Reply.TheVariants.{Null}
use Rattle.sky_model.specs.declared.reply.Refusal.TheVariants.{TxidsSpent}
use Rattle.sky_model.specs.History.{Mark, Pick, of_synced, of_worker, began, ended, tabled, wrote, noded, NodeMark, state_set, copied, applied, History}
use Rattle.sky_model.specs.Transactions.{next_txid}
use Rattle.sky_model.specs.Nodes.{after_node, node}
use Rattle.sky_model.specs.State.{part_of, after_part, database_of}
use Rattle.sky_model.specs.Outcome.{◌>>=◌, ◌>>◌, refused_if, answers, marks_of}
use Rattle.sky_model.specs.Reader.{part_by_history}
use Rattle.sky_model.specs.Settling.{marked}
use Rattle.sky_model.specs.StepApply.{is_synced, may_apply, picked, applies_in, ends_applying, applies_picked, bad_event}
use Rattle.sky_model.specs.StepNode.{applying, call_form}
use Rattle.sky_histories.proofs.Legal.{NodeFits, Fine, Legal}
use Rattle.sky_histories.proofs.InCopyTables.{leaf_table, may-allowed, is_past_copy}
use Rattle.sky_histories.proofs.ApplyCalls.{is_written, each-event}
use Rattle.sky_histories.proofs.ApplyingLaws.{picked-idle}
use Rattle.sky_histories.proofs.Resting.{behind-append}
use Rattle.sky_histories.proofs.StatementMarks.{EachMark, each-rest, when-true}
use Rattle.sky_model.proofs.Cases.{by_test}
use Rattle.sky_laws_changes.proofs.ListedTables.{fits-of}
use Rattle.sky_laws_replicas.proofs.CallPasts.{call_marks}
use Rattle.sky_laws_synced.specs.Tables.{tick_in}
use Rattle.sky_laws_synced.specs.LawsOfChanges.{is_picked, Reached, reached}
use Rattle.sky_laws_synced.proofs.ChangedTables.{leafs_tick, Was, was, table-named}

-- the table of a name has come to the tick that the marks say, under the snapshot that they say
pub record Reaches (h : History) (name : List ℕ) (t : LeafTable) : Type 0 where
  pub under : SnapshotView
  pub taken : t.snapshot ≡ Some under
  pub is : reached name h ≡ Some (record { under = under; tick = tick_in t.state (leafs_tick (node h)) t.tick })

-- each that was copied has
abbrev pub AllReach : History → Type 0
AllReach h = (name : List ℕ) (t : LeafTable) → leaf_table name (node h) ≡ Some t → is_past_copy t.state ≡ true → Reaches h name t

-- ---- mark by mark

-- a table goes into sync only at the leaf's tick
abbrev pub TickSuits : History → Mark → Type 0
TickSuits h (noded (state_set name CatchingUp)) = ⊥
TickSuits h (noded (state_set name Synced)) = (t : LeafTable) (tick : ℕ) → leaf_table name (node h) ≡ Some t → t.state ≡ DoSync tick → t.tick ≡ leafs_tick (node h)
TickSuits h (noded (applied pick tick)) = ⊥
TickSuits h mark = Unit {0}

module _ (h : History) (all : AllReach h) (name : List ℕ) (u : LeafTable) (along : is_past_copy u.state ≡ true) where
  -- by a mark that leaves it as it is
  plain : (m : NodeMark) (t : LeafTable) → leaf_table name (node h) ≡ Some t → u ≡ t → leafs_tick (after_node m (node h)) ≡ leafs_tick (node h) → reached name (noded m ∷ h) ≡ reached name h → Reaches (noded m ∷ h) name u
  plain m t there same leafs stays =
      let r : Reaches h name t = all name t there (ap (λ (x : LeafTable). is_past_copy x.state) (sym same) ∙ along) in
      record {
        under = r.under;
        taken = ap LeafTable.snapshot same ∙ r.taken;
        is = stays ∙ r.is ∙ (λ i. Some (record { under = r.under; tick = tick_in (sym same i).state (sym leafs i) (sym same i).tick }));
      }

  -- into a state
  moves : (state : TableState) (other : List ℕ) (t : LeafTable) → leaf_table name (node h) ≡ Some t → other ≡ name → u ≡ in_state state t → leafs_tick (after_node (state_set other state) (node h)) ≡ leafs_tick (node h)
      → is_allowed t.state state ≡ true → TickSuits h (noded (state_set other state)) → Reaches (noded (state_set other state) ∷ h) name u
  moves state other t there one same leafs allowed suits = of t.state refl state same allowed suits leafs
    where
      goes : (new : TableState) → u ≡ in_state new t → is_past_copy t.state ≡ true → tick_in t.state (leafs_tick (node h)) t.tick ≡ tick_in new (leafs_tick (node h)) t.tick
          → leafs_tick (after_node (state_set other new) (node h)) ≡ leafs_tick (node h) → Reaches (noded (state_set other new) ∷ h) name u
      goes new same was ticks leafs =
          let r : Reaches h name t = all name t there was in
          record {
            under = r.under;
            taken = ap LeafTable.snapshot same ∙ r.taken;
            is = r.is ∙ ap (λ n. Some (record { under = r.under; tick = n })) (ticks ∙ (λ i. tick_in (sym same i).state (sym leafs i) (sym same i).tick));
          }

      of : (old : TableState) → t.state ≡ old → (new : TableState) → u ≡ in_state new t → is_allowed old new ≡ true → TickSuits h (noded (state_set other new))
          → leafs_tick (after_node (state_set other new) (node h)) ≡ leafs_tick (node h) → Reaches (noded (state_set other new) ∷ h) name u
      of CatchingUp was (WannaSync bound) same ok suits still = goes (WannaSync bound) same (ap is_past_copy was) (ap (λ s. tick_in s (leafs_tick (node h)) t.tick) was) still
      of (WannaSync bound) was (DoSync tick) same ok suits still = goes (DoSync tick) same (ap is_past_copy was) (ap (λ s. tick_in s (leafs_tick (node h)) t.tick) was) still
      of (DoSync tick) was Synced same ok suits still =
          goes Synced same (ap is_past_copy was) (ap (λ s. tick_in s (leafs_tick (node h)) t.tick) was ∙ suits t tick (ap (λ x. leaf_table x (node h)) one ∙ there) was) still
      of old was CatchingUp same ok suits still = absurd suits
      of old was Absent same ok suits still = absurd (cc (sym along ∙ ap (λ (x : LeafTable). is_past_copy x.state) same))
      of old was InCopy same ok suits still = absurd (cc (sym along ∙ ap (λ (x : LeafTable). is_past_copy x.state) same))
      of Absent was (WannaSync bound) same ok suits still = absurd (cc ok)
      of InCopy was (WannaSync bound) same ok suits still = absurd (cc ok)
      of (WannaSync other) was (WannaSync bound) same ok suits still = absurd (cc ok)
      of (DoSync tick) was (WannaSync bound) same ok suits still = absurd (cc ok)
      of Synced was (WannaSync bound) same ok suits still = absurd (cc ok)
      of Absent was (DoSync tick) same ok suits still = absurd (cc ok)
      of InCopy was (DoSync tick) same ok suits still = absurd (cc ok)
      of CatchingUp was (DoSync tick) same ok suits still = absurd (cc ok)
      of (DoSync other) was (DoSync tick) same ok suits still = absurd (cc ok)
      of Synced was (DoSync tick) same ok suits still = absurd (cc ok)
      of Absent was Synced same ok suits still = absurd (cc ok)
      of InCopy was Synced same ok suits still = absurd (cc ok)
      of CatchingUp was Synced same ok suits still = absurd (cc ok)
      of (WannaSync bound) was Synced same ok suits still = absurd (cc ok)
      of Synced was Synced same ok suits still = absurd (cc ok)

  reach-noded : (m : NodeMark) → NodeFits h m → TickSuits h (noded m) → Was (node h) m name u → Reaches (noded m ∷ h) name u
  reach-noded (copied other under tick) fits suits w =
      by_test (λ b. bytes_eq other w.t.name ≡ b → u ≡ (if b then with_copy under tick w.t else w.t) → Reaches (noded (copied other under tick) ∷ h) name u) (bytes_eq other w.t.name)
      (λ _ its same. record {
        under = under;
        taken = ap LeafTable.snapshot same;
        is = ap (λ b. if b then Some (record { under = under; tick = tick }) else reached name h) (by_name its)
            ∙ ap (λ n. Some (record { under = under; tick = n })) (sym (ap (λ s. tick_in s (leafs_tick (after_node (copied other under tick) (node h))) u.tick) (ap LeafTable.state same) ∙ ap LeafTable.tick same));
      })
      (λ _ its same. plain (copied other under tick) w.t w.there same w.come (ap (λ b. if b then Some (record { under = under; tick = tick }) else reached name h) (by_name its))) refl w.is
    where
      by_name : {b : Bool} → bytes_eq other w.t.name ≡ b → bytes_eq other name ≡ b
      by_name its = ap (bytes_eq other) (sym (table-named name (node h) w.t w.there)) ∙ its
  reach-noded (state_set other state) fits suits w =
      by_test (λ b. bytes_eq other w.t.name ≡ b → u ≡ (if b then in_state state w.t else w.t) → Reaches (noded (state_set other state) ∷ h) name u) (bytes_eq other w.t.name)
      (λ _ its same.
      let one : other ≡ name = same_name other w.t.name its ∙ table-named name (node h) w.t w.there in
      moves state other w.t w.there one same w.come (may-allowed other state (node h) w.t (ap (λ x. leaf_table x (node h)) one ∙ w.there) fits.may) suits)
      (λ _ _ same. plain (state_set other state) w.t w.there same w.come refl) refl w.is
  reach-noded (applied pick tick) fits suits w = absurd suits
  reach-noded m fits suits w = plain m w.t w.there w.is w.come refl

pub reach-mark : (h : History) (mark : Mark) → Fine h mark → TickSuits h mark → AllReach h → AllReach (mark ∷ h)
reach-mark h (noded m) fine suits all name u is along = reach-noded h all name u along m (fits-of fine) suits (was h m (fits-of fine) name u is along)
reach-mark h mark fine suits all name u is along = let r : Reaches h name u = all name u is along in record { under = r.under; taken = r.taken; is = r.is }

-- ---- a batch is applied

-- the marks of one whose events can be applied
abbrev pub work_marks : History → List Event → Pick → List Mark
work_marks h events pick = (applies_in (part_of h) (next_txid h) (picked (node h) pick events)).marks

pub each-work : (h : History) (events : List Event) (pick : Pick) → EachMark is_written (work_marks h events pick)
each-work h events pick = each-event (after_part (part_of h) (began of_worker (next_txid h))) (next_txid h) (picked (node h) pick events)

applying-marks : (h : History) → Legal h → (events : List Event) (pick : Pick) (tick : ℕ) → may_apply pick (node h) ≡ true → nat_le (2 ^ 62) (next_txid h) ≡ false → bad_event (database_of h) pick events ≡ None
    → call_marks h (applying events pick tick)
    ≡ began of_worker (next_txid h) ∷ work_marks h events pick ++ ended of_worker (next_txid h) true ∷ noded (applied pick tick) ∷ []
applying-marks h l events pick tick may unspent good =
    let es : List Event = picked (node h) pick events in
    let t : ℕ = next_txid h in
    ap (λ b. marks_of (if b then call_form (database_of h) (applying events pick tick) else answers Null)) may
    ∙ ap (λ b. marks_of (if b then answers Null else applies_picked (database_of h) pick tick es)) (picked-idle h l pick events)
    ∙ ap (λ b. marks_of ((refused_if b TxidsSpent >> Ok t) >>= (λ v. ends_applying pick tick v (length es) (applies_in (part_of h) v es).marks (applies_in (part_of h) v es).bad))) unspent
    ∙ ap (λ o. marks_of (ends_applying pick tick t (length es) (applies_in (part_of h) t es).marks o)) good

-- writes of workers are none of these marks
record IsStill (name : List ℕ) (h g : History) : Type 0 where
  reached_is : reached name g ≡ reached name h
  node_is : node g ≡ node h

still-mark : (name : List ℕ) (h : History) (mark : Mark) → is_written mark ≡ true → IsStill name h (mark ∷ h)
still-mark name h (tabled (wrote of_worker t table key old new)) e = record { reached_is = refl; node_is = refl }
still-mark name h _ e = absurd (cc e)

still-marks : (name : List ℕ) (h : History) (marks : List Mark) → EachMark is_written marks → IsStill name h (marked h marks)
still-marks name h [] each = record { reached_is = refl; node_is = refl }
still-marks name h (mark ∷ marks) each =
    let one : IsStill name h (mark ∷ h) = still-mark name h mark (when-true (EachMark is_written marks) (is_written mark) each) in
    let rest : IsStill name (mark ∷ h) (marked (mark ∷ h) marks) = still-marks name (mark ∷ h) marks (each-rest is_written mark marks each) in
    record { reached_is = rest.reached_is ∙ one.reached_is; node_is = rest.node_is ∙ one.node_is }

abbrev pub to_tick : ℕ → Reached → Reached
to_tick tick r = record r { tick = tick }

-- the history after it
pub after-applied : (h : History) → Legal h → (events : List Event) (pick : Pick) (tick : ℕ) → may_apply pick (node h) ≡ true → nat_le (2 ^ 62) (next_txid h) ≡ false → bad_event (database_of h) pick events ≡ None
    → marked h (call_marks h (applying events pick tick))
    ≡ noded (applied pick tick) ∷ ended of_worker (next_txid h) true ∷ marked (began of_worker (next_txid h) ∷ h) (work_marks h events pick)
after-applied h l events pick tick may unspent good =
    ap (marked h) (applying-marks h l events pick tick may unspent good)
    ∙ behind-append part_by_history (began of_worker (next_txid h) ∷ h) (work_marks h events pick) (ended of_worker (next_txid h) true ∷ noded (applied pick tick) ∷ [])

pub reached-applied : (name : List ℕ) (h : History) → Legal h → (events : List Event) (pick : Pick) (tick : ℕ) → may_apply pick (node h) ≡ true → nat_le (2 ^ 62) (next_txid h) ≡ false
    → bad_event (database_of h) pick events ≡ None
    → reached name (marked h (call_marks h (applying events pick tick))) ≡ (if is_picked pick name (node h) then option_map (to_tick tick) (reached name h) else reached name h)
reached-applied name h l events pick tick may unspent good =
    ap (reached name) (after-applied h l events pick tick may unspent good)
    ∙ (λ i. if is_picked pick name (still.node_is i) then option_map (to_tick tick) (still.reached_is i) else still.reached_is i)
  where
    g : History
    g = began of_worker (next_txid h) ∷ h

    still : IsStill name g (marked g (work_marks h events pick))
    still = still-marks name g (work_marks h events pick) (each-work h events pick)

-- for which tables a batch is
pub is-for : (h : History) (l : Leaf) → node h ≡ Some (of_leaf l) → (name : List ℕ) (t : LeafTable) → leaf_table name (node h) ≡ Some t → is_picked of_synced name (node h) ≡ is_synced t.state
is-for h l is name t there = ap (is_picked of_synced name) is ∙ ap (λ o. unwrap_or (option_map (λ (x : LeafTable). is_synced x.state) o) false) (sym (ap (leaf_table name) is) ∙ there)
