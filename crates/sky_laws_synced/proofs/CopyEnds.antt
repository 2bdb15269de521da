-- Where a copy ends, its table has the rows of its provider's, and has been in the set since the place of its snapshot.
use Rattle.std.proofs.Common.{arith, ◌≡◌, ℕ, ◌<◌, ◌≤◌, ◌==◌, List, [], ◌∷◌, ◌++◌, Bool, true, false, Option, Some, option_map, append_assoc, inl, inr, refl, sym, ap, subst, ◌∙◌, if◌then◌else◌}
use Rattle.std.specs.Option.{option_and_then}
use Rattle.sky_names.specs.Places.{place_of}
use Rattle.sky_names.proofs.PlaceLemmas.{place_of_within}
use Rattle.sky_txid.specs.Snapshot.{SnapshotView}
use Rattle.londiste_state.specs.Nodes.{with_copy}
use Rattle.sky_model.specs.Hands.{Hand}
use Rattle.sky_model.specs.History.{Mark, Whose, of_copy, began, ended, noded, copied, hold_begun, hold_ended, History, Fact, within, in_hand, Past}
use Rattle.sky_model.specs.Transactions.{next_txid}
use Rattle.sky_model.specs.Copies.{copies, is_copied_by}
use Rattle.sky_model.specs.Rows.{table_names, columns_of, rows}
use Rattle.sky_model.specs.Nodes.{node}
use Rattle.sky_model.specs.StepNode.{may_copy}
use Rattle.sky_model.specs.NodesOfWorld.{Located}
use Rattle.sky_model.specs.World.{history_in, nodes}
use Rattle.sky_histories.proofs.Legal.{Legal, legal-below_mark, fine_mark}
use Rattle.sky_histories.proofs.SnapshotLaws.{legal_place}
use Rattle.sky_histories.proofs.TickOrder.{is_made}
use Rattle.sky_histories.proofs.RowSights.{Since, here, later, legal-since}
use Rattle.sky_histories.proofs.NodeTables.{one-place}
use Rattle.sky_histories.proofs.InCopyTables.{leaf_table}
use Rattle.sky_histories.proofs.Good.{same-session}
use Rattle.sky_model.proofs.Cases.{by_test}
use Rattle.sky_histories.proofs.Snapshots.{begun-next}
use Rattle.sky_laws_changes.specs.Listing.{IsListed, StaysListed}
use Rattle.sky_laws_changes.proofs.Places.{to-below, from-below, since-joined, since-or, either-since, one-place as one-only}
use Rattle.sky_laws_changes.proofs.ListedTables.{place-kept, columns-kept}
use Rattle.sky_laws_replicas.specs.LawsOfReplicas.{let_go_if, HasProvidersRows}
use Rattle.sky_laws_replicas.proofs.NodeNames.{provider_of, database_among, names_in, source_of, called-database}
use Rattle.sky_laws_replicas.proofs.ProvidedTables.{IsOffered, TablesOffered, AllProvided}
use Rattle.sky_laws_synced.proofs.ChangedTables.{copied-there}
use Rattle.sky_laws_synced.proofs.RestingTables.{rests-between, among-found, leaf-found}
use Rattle.sky_laws_synced.proofs.Showing.{IsBetween}
use Rattle.sky_laws_synced.proofs.SetTicks.{newest-made, made-above, not-later}
use Rattle.sky_laws_synced.proofs.Going.{AllPlaces, places-below, Began, Goes, CopyLeft, apart, listed-now, based-within, source-stays, Found, found-copied}

-- ---- what is known after a call

abbrev pub CopiesHaveRows : Past → Type 0
CopiesHaveRows past = (database : ℕ) (later : List Mark) (p : History) (name : List ℕ) (under : SnapshotView) (tick : ℕ) → history_in past database ≡ later ++ noded (copied name under tick) ∷ p
    → HasProvidersRows past database (noded (copied name under tick) ∷ p) name under

pub record AtEnd (past : Past) : Type 0 where
  pub between : (d : ℕ) → IsBetween (history_in past d)
  pub provided : AllProvided past
  pub copied_rows : CopiesHaveRows past

-- ---- a past below another

pub since-past : (above : List Fact) (before : Past) (p : ℕ) → Since (history_in before p) (history_in (above ++ before) p)
since-past [] before p = here
since-past (within e mark ∷ above) before p =
    let rest = since-past above before p in
    by_test (λ b. Since (history_in before p) (if b then mark ∷ history_in (above ++ before) p else history_in (above ++ before) p)) (e == p) (λ _. later rest) (λ _. rest)
since-past (_ ∷ above) before p = since-past above before p

next-grows : (mark : Mark) (h : History) → next_txid h ≤ next_txid (mark ∷ h)
next-grows (began whose t) h = omega arith
next-grows _ h = omega arith

module _ (d : ℕ) (whose : Whose) (t : ℕ) where
  abbrev began_in : Past → Past
  began_in past = within d (began whose t) ∷ past

  own-first : (past : Past) → history_in (began_in past) d ≡ began whose t ∷ history_in past d
  own-first past = ap (λ b. if b then began whose t ∷ history_in past d else history_in past d) (same-session d)

  begun-below : (above : List Fact) (past : Past) → Legal (history_in (above ++ began_in past) d) → t < next_txid (history_in (above ++ began_in past) d)
  begun-below [] past l =
      let at : Legal (began whose t ∷ history_in past d) = subst Legal (own-first past) l in
      subst (λ h. t < next_txid h) (sym (own-first past)) (let new : t ≡ next_txid (history_in past d) = begun-next _ _ _ (fine_mark at) in omega (arith, new))
  begun-below (within e mark ∷ above) past l =
      let h : History = history_in (above ++ began_in past) d in
      by_test (λ b. Legal (if b then mark ∷ h else h) → t < next_txid (if b then mark ∷ h else h)) (e == d)
      (λ _ now. let less = begun-below above past (legal-below_mark now) in let up = next-grows mark h in omega (arith, less, up)) (λ _ now. begun-below above past now) l
  begun-below (_ ∷ above) past l = begun-below above past l

  -- where one is the topmost
  not-again : (above : List Fact) (past before : Past) → Legal (history_in (began_in past) d) → past ≡ above ++ began_in before → ⊥
  not-again above past before l is =
      let at : Legal (began whose t ∷ history_in past d) = subst Legal (own-first past) l in
      let low : Legal (history_in (above ++ began_in before) d) = subst (λ p. Legal (history_in p d)) is (legal-below_mark at) in
      let less = begun-below above before low in
      let new : t ≡ next_txid (history_in (above ++ began_in before) d) = begun-next _ _ _ (fine_mark at) ∙ ap (λ p. next_txid (history_in p d)) is in
      omega (arith, less, new)

  legal-tail : (fact : Fact) (past : Past) → Legal (history_in (fact ∷ past) d) → Legal (history_in past d)
  legal-tail (within e mark) past l = by_test (λ b. Legal (if b then mark ∷ history_in past d else history_in past d) → Legal (history_in past d)) (e == d) (λ _ now. legal-below_mark now) (λ _ now. now) l
  legal-tail _ past l = l

  pub one-began : (above more : List Fact) (past before : Past) → Legal (history_in (above ++ began_in past) d) → above ++ began_in past ≡ more ++ began_in before → past ≡ before
  one-began [] [] past before l is = cc is
  one-began [] (fact ∷ more) past before l is = absurd (not-again more past before l (cc is))
  one-began (fact ∷ above) [] past before l is =
      absurd (not-again above before past (subst (λ p. Legal (history_in p d)) is l) (cc (sym is)))
  one-began (fact ∷ above) (other ∷ more) past before l is = one-began above more past before (legal-tail fact (above ++ began_in past) l) (cc is)

-- ---- listed since the place of the snapshot

-- a table that is in a set at each place from after a mark on is so from before it, if it was in it there
stays-under : (mark : Mark) (p k : History) (queue : ℕ) (name : List ℕ) → (IsListed (mark ∷ p) queue name → IsListed p queue name) → Since (mark ∷ p) k → StaysListed (mark ∷ p) k queue name → StaysListed p k queue name
stays-under mark p k queue name was below stays x up down = elim (either-since below (from-below x k down)) [
  | inl above ↦ stays x (to-below above) down
  | inr under ↦ elim (since-or x mark p under) [
    | inl same ↦ stays x (to-below (subst (λ y. Since (mark ∷ p) y) (sym same) here)) down
    | inr low ↦ subst (λ y. IsListed y queue name) (one-only (from-below p x up) low) (was (stays (mark ∷ p) (to-below here) (to-below below)))
  ]
]

-- the past right after a snapshot was held for a copy
record Held (k : History) (queue : ℕ) (name : List ℕ) (held : History) : Type 0 where
  below : Since held k
  stays : StaysListed held k queue name

held-before : (at_once : Bool) (q hold : ℕ) (before : Past) (k : History) (queue : ℕ) (name : List ℕ) → Since (history_in (let_go_if at_once q hold ++ within q (noded (hold_begun hold)) ∷ before) q) k
    → StaysListed (history_in (let_go_if at_once q hold ++ within q (noded (hold_begun hold)) ∷ before) q) k queue name → Held k queue name (history_in before q)
held-before at_once q hold before k queue name below stays = of at_once below stays
  where
    held : History
    held = history_in before q

    own : (mark : Mark) (past : Past) → history_in (within q mark ∷ past) q ≡ mark ∷ history_in past q
    own mark past = ap (λ b. if b then mark ∷ history_in past q else history_in past q) (same-session q)

    at-begun : Since (noded (hold_begun hold) ∷ held) k → StaysListed (noded (hold_begun hold) ∷ held) k queue name → Held k queue name held
    at-begun up all = record { below = since-joined (later here) up; stays = stays-under (noded (hold_begun hold)) held k queue name (λ is. record { set = is.set; among = is.among }) up all }

    of : (b : Bool) → Since (history_in (let_go_if b q hold ++ within q (noded (hold_begun hold)) ∷ before) q) k
        → StaysListed (history_in (let_go_if b q hold ++ within q (noded (hold_begun hold)) ∷ before) q) k queue name → Held k queue name held
    of false up all = at-begun (subst (λ x. Since x k) (own (noded (hold_begun hold)) before) up) (subst (λ x. StaysListed x k queue name) (own (noded (hold_begun hold)) before) all)
    of true up all =
        let both : history_in (within q (noded (hold_ended hold)) ∷ within q (noded (hold_begun hold)) ∷ before) q ≡ noded (hold_ended hold) ∷ noded (hold_begun hold) ∷ held =
        own (noded (hold_ended hold)) (within q (noded (hold_begun hold)) ∷ before) ∙ ap (λ x. noded (hold_ended hold) ∷ x) (own (noded (hold_begun hold)) before) in
        let up_both : Since (noded (hold_ended hold) ∷ noded (hold_begun hold) ∷ held) k = subst (λ x. Since x k) both up in
        at-begun (since-joined (later here) up_both) (stays-under (noded (hold_ended hold)) (noded (hold_begun hold) ∷ held) k queue name (λ is. record { set = is.set; among = is.among }) up_both (subst (λ x. StaysListed x k queue name) both all))

-- ---- the end of a copy

module _ (past : Past) (d n t : ℕ) (name : List ℕ) (under : SnapshotView) (tick : ℕ) (other : List ℕ) (hand : Option Hand) where
  abbrev over : Past
  over = within d (ended (of_copy n) t true) ∷ past

  abbrev done : Past
  done = within d (noded (copied name under tick)) ∷ over

  abbrev last : Past
  last = in_hand d other hand ∷ done

  pub copy-left : AllPlaces done → Goes past → is_copied_by n t (copies (history_in past d)) ≡ true → place_of name (table_names (history_in past d)) ≡ Some n → may_copy name (node (history_in past d)) ≡ true
      → AtEnd last → CopyLeft done d name under tick
  copy-left all g runs there may e = record {
    p = q;
    from = from_q;
    queue = b.queue;
    held = held;
    below = up;
    taken = c.taken;
    listed = h.stays;
    made = made-above up b.queue tick made_held;
    table = n;
    named = place-kept name n (since-past (within d (noded (copied name under tick)) ∷ within d (ended (of_copy n) t true) ∷ []) past d) there;
    source = c.source;
    source_named = c.source_named;
    alike = alike;
    same = ap (λ x. rows x (history_in done d)) (sym table_is) ∙ ap (rows c.table) own_done ∙ c.same;
    later_is = not-later up (legal_place (history_in done q) (all q)) b.queue tick made_held;
    rests = rests-between (history_in done d) (e.between d) name (with_copy under tick found.t) in_leaf refl n
        (place-kept name n (since-past (within d (noded (copied name under tick)) ∷ within d (ended (of_copy n) t true) ∷ []) past d) there);
  }
    where
      all_over : AllPlaces over
      all_over = places-below over (within d (noded (copied name under tick))) all

      b : Began past d n t
      b = g.base.begun d n t runs

      own_over : history_in over d ≡ ended (of_copy n) t true ∷ history_in past d
      own_over = ap (λ x. if x then ended (of_copy n) t true ∷ history_in past d else history_in past d) (same-session d)

      own_done : history_in done d ≡ noded (copied name under tick) ∷ history_in over d
      own_done = ap (λ x. if x then noded (copied name under tick) ∷ history_in over d else history_in over d) (same-session d)

      c : HasProvidersRows last d (noded (copied name under tick) ∷ history_in over d) name under
      c = e.copied_rows d [] (history_in over d) name under tick own_done

      ended_is : ended (of_copy n) t true ∷ history_in past d ≡ ended (of_copy c.table) c.t true ∷ c.below
      ended_is = sym own_over ∙ (let rest : history_in over d ≡ ended (of_copy c.table) c.t true ∷ c.below = cc c.copy_ended in rest)

      table_is : c.table ≡ n
      table_is = sym (let one : n ≡ c.table = cc ended_is in one)

      t_is : t ≡ c.t
      t_is = cc ended_is

      tick_is : c.tick ≡ tick
      tick_is = sym (let one : tick ≡ c.tick = cc c.copy_ended in one)

      q : ℕ
      q = c.provider.database

      from_q : source_of done d ≡ Some q
      from_q =
          ap (λ m. option_and_then (λ provider. database_among (names_in last) provider (nodes last)) (provider_of m)) c.is_leaf
          ∙ sym (called-database last c.leaf.provider) ∙ ap (option_map Located.database) c.found

      from_b : source_of done d ≡ Some b.p
      from_b =
          source-stays over d (noded (copied name under tick)) all (based-within past d (ended (of_copy n) t true) all_over g.base tt) tt d b.p
          (source-stays past d (ended (of_copy n) t true) all_over g.base tt d b.p b.from)

      same_q : b.p ≡ q
      same_q = cc (sym from_b ∙ from_q)

      -- the same beginning
      start_is : b.start ≡ let_go_if c.at_once q c.hold ++ within q (noded (hold_begun c.hold)) ∷ c.before
      start_is =
          one-began d (of_copy n) t (in_hand d other hand ∷ within d (noded (copied name under tick)) ∷ within d (ended (of_copy n) t true) ∷ b.later) c.copy_began.later b.start
          (let_go_if c.at_once q c.hold ++ within q (noded (hold_begun c.hold)) ∷ c.before)
          (subst (λ x. Legal (history_in x d)) (ap (λ x. in_hand d other hand ∷ within d (noded (copied name under tick)) ∷ within d (ended (of_copy n) t true) ∷ x) b.is) (legal_place (history_in done d) (all d)))
          (sym (ap (λ x. in_hand d other hand ∷ within d (noded (copied name under tick)) ∷ within d (ended (of_copy n) t true) ∷ x) b.is) ∙ c.copy_began.is
          ∙ (λ i. c.copy_began.later ++ within d (began (of_copy (table_is i)) (sym t_is i)) ∷ let_go_if c.at_once q c.hold ++ within q (noded (hold_begun c.hold)) ∷ c.before)
          ∙ append_assoc c.copy_began.later (within d (began (of_copy n) t) ∷ let_go_if c.at_once q c.hold) (within q (noded (hold_begun c.hold)) ∷ c.before))

      held : History
      held = history_in c.before q

      -- the name
      name_is : b.name ≡ name
      name_is = one-place b.name name (table_names (history_in past d)) n b.named there

      found : Found name (history_in past d)
      found = found-copied name (history_in past d) may

      differ : (d == q) ≡ false
      differ = subst (λ x. (d == x) ≡ false) same_q (apart past d b.p b.queue b.name (listed-now b.below b.listed) (leaf-found name (node (history_in past d)) found.t found.is))

      elsewhere : history_in done q ≡ history_in past q
      elsewhere = ap (λ x. if x then noded (copied name under tick) ∷ history_in over q else history_in over q) differ ∙ ap (λ x. if x then ended (of_copy n) t true ∷ history_in past q else history_in past q) differ

      h : Held (history_in done q) b.queue name held
      h = held-before c.at_once q c.hold c.before (history_in done q) b.queue name
          (subst (λ x. Since (history_in x q) (history_in done q)) start_is (subst (Since (history_in b.start q)) (sym elsewhere) (subst (λ x. Since (history_in b.start x) (history_in past x)) same_q b.below)))
          (subst (λ x. StaysListed (history_in x q) (history_in done q) b.queue name) start_is
          (subst (λ x. StaysListed (history_in b.start q) x b.queue name) (sym elsewhere)
          (subst (λ x. StaysListed (history_in b.start q) (history_in past q) b.queue x) name_is (subst (λ x. StaysListed (history_in b.start x) (history_in past x) b.queue b.name) same_q b.listed))))

      up : Since held (history_in done q)
      up = h.below

      made_held : is_made b.queue tick held ≡ true
      made_held = newest-made held (legal-since up (legal_place (history_in done q) (all q))) b.queue tick (h.stays held (to-below here) (to-below up)).set (c.from_newest ∙ tick_is)

      in_leaf : leaf_table name (node (history_in done d)) ≡ Some (with_copy under tick found.t)
      in_leaf = ap (λ x. leaf_table name (node x)) (own_done ∙ ap (λ x. noded (copied name under tick) ∷ x) own_over) ∙ copied-there name under tick (node (history_in past d)) found.t found.is

      -- the columns
      alike : columns_of n (history_in done d) ≡ columns_of c.source held
      alike = of (e.provided.leaves d (leaf-found name (node (history_in done d)) (with_copy under tick found.t) in_leaf))
        where
          of : TablesOffered last d → columns_of n (history_in done d) ≡ columns_of c.source held
          of l =
              let same_p : l.p ≡ q = cc (sym l.from ∙ from_q) in
              let o : IsOffered last d l.p name = l.tables name (among-found name (node (history_in done d)) (with_copy under tick found.t) in_leaf) in
              let table_at : Some o.table ≡ Some n = sym o.here ∙ place-kept name n (since-past (within d (noded (copied name under tick)) ∷ within d (ended (of_copy n) t true) ∷ []) past d) there in
              let source_at : Some o.source ≡ Some c.source = sym o.there ∙ ap (λ x. place_of name (table_names (history_in done x))) same_p ∙ place-kept name c.source up c.source_named in
              let one : o.table ≡ n = cc table_at in
              let two : o.source ≡ c.source = cc source_at in
              ap (λ x. columns_of x (history_in done d)) (sym one) ∙ o.columns ∙ (λ i. columns_of (two i) (history_in done (same_p i)))
              ∙ columns-kept c.source up (place_of_within name (table_names held) c.source c.source_named)
