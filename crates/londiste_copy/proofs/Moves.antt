-- A whole move, from what its parts did.
use Rattle.std.proofs.Common.{◌≡◌, ℕ, ◌<◌, ◌≤◌, Bool, true, false, List, [], ◌∷◌, take, length, nat_lt, Option, Some, None, IfSome, is_some, option_map, option_and_then, unwrap_or, refl, sym, ◌∙◌, ap, subst, arith, if◌then◌else◌}
use Rattle.std.proofs.lemmas.Bool.Decides.{nat_tests}
use Rattle.sky_val.specs.declared.val.Val.{Val}
use Rattle.sky_val.specs.Entries.{Entries}
use Rattle.sky_names.specs.Places.{place_of}
use Rattle.sky_txid.specs.Snapshot.{SnapshotView}
use Rattle.sky_keys.specs.Versions.{rows_read, above}
use Rattle.londiste_state.specs.Nodes.{is_among}
use Rattle.londiste_state.specs.declared.state.TableState.TheVariants.{CatchingUp}
use Rattle.sky_model.specs.declared.reply.Reply.{Reply}
use Rattle.sky_model.specs.declared.reply.Reply.TheVariants.{Done, Null, RowsCopied, TableMoved}
use Rattle.sky_model.specs.Copies.{copy_txid}
use Rattle.sky_model.specs.Rows.{Write}
use Rattle.sky_model.specs.Nodes.{leaf_tables}
use Rattle.sky_model.specs.State.{RowPart, Database, after_marks}
use Rattle.sky_model.specs.ShownRows.{snapshot_now}
use Rattle.sky_model.specs.Outcome.{answers, does_marks, marks_of}
use Rattle.sky_model.specs.StepCopy.{copy_writes, insertions, all_fit, copies_rows}
use Rattle.sky_model.specs.StepNode.{NodeCall, copying_rows, ending_copy, letting_go, if_there, table_number, may_copy}
use Rattle.sky_model.specs.Hands.{CopyHand}
use Rattle.sky_model.specs.WorkerMoves.{Move, behind_calls}
use Rattle.sky_model.specs.CopyMoves.{columns_for, copy_running, continues, copies_piece, starts_or_continues, held_snapshot, last_key, next_piece, rows_from, rows_of, starts_copy, under_way}
use Rattle.sky_model.specs.DatabaseSteps.{IsMade}
use Rattle.sky_histories.proofs.NodeDeeds.{is-served}
use Rattle.sky_store.specs.Served.{Serves}
use Rattle.londiste_batches.specs.Moved.{ServesAll, MovesAs, MovesBy}
use Rattle.londiste_copy.specs.Copying.{SameTable, Begun, last_row_key}
use Rattle.londiste_batches.proofs.Calls.{serves-none, serves-one, serves-then, serves-append}
use Rattle.londiste_copy.proofs.Pieces.{piece-fits, piece-last, piece-count}
use Rattle.londiste_copy.proofs.Begins.{written-names, written-node}

-- ---- rows that are copied leave the replica's node as it is, and the names of its tables

copied-still : {A : Type 0} (f : Database → A) (r s : Database) (name : List ℕ) (rows : List (List Val)) → ((table t : ℕ) (ws : List Write) → f (after_marks r (copy_writes r.part table t ws)) ≡ f r)
    → may_copy name r.node ≡ true → Serves r s (copying_rows name rows) → f s ≡ f r
copied-still f r s name rows kept may serves = ap f (serves.changed ∙ ap (λ c. after_marks r (marks_of c)) (is-served r (copying_rows name rows) may)) ∙ of (table_number r name)
  where
    fitting : (table t : ℕ) (b : Bool) → f (after_marks r (marks_of (if b then does_marks Done (copy_writes r.part table t (insertions (r.part.columns table) rows)) else answers Null))) ≡ f r
    fitting table t true = kept table t (insertions (r.part.columns table) rows)
    fitting table t false = refl

    running : (table : ℕ) (o : Option ℕ) → f (after_marks r (marks_of (if_there o (λ t. copies_rows r table t rows)))) ≡ f r
    running table None = refl
    running table (Some t) = fitting table t (all_fit (r.part.columns table) rows)

    of : (o : Option ℕ) → f (after_marks r (marks_of (if_there o (λ table. if_there (copy_txid table r.copies) (λ t. copies_rows r table t rows))))) ≡ f r
    of None = refl
    of (Some table) = running table (copy_txid table r.copies)

pub still-may : (r s : Database) (name : List ℕ) (rows : List (List Val)) → may_copy name r.node ≡ true → Serves r s (copying_rows name rows) → may_copy name s.node ≡ true
still-may r s name rows may serves = ap (may_copy name) (copied-still Database.node r s name rows (written-node r) may serves) ∙ may

pub still-numbered : (r s : Database) (name : List ℕ) (rows : List (List Val)) → may_copy name r.node ≡ true → Serves r s (copying_rows name rows) → (table : ℕ) → table_number r name ≡ Some table → table_number s name ≡ Some table
still-numbered r s name rows may serves table number = ap (place_of name) (copied-still (λ d. d.part.tables) r s name rows (written-names r) may serves) ∙ number

-- ---- the next rows are copied

-- the columns of a table of a number
pub columns-at : (d : Database) (name : List ℕ) (table : ℕ) → table_number d name ≡ Some table → d.part.columns table ≡ columns_for d name
columns-at d name table number = sym (ap (λ o. unwrap_or (option_map d.part.columns o) []) number)

-- and the copy of it that runs
pub running-at : (d : Database) (name : List ℕ) (table : ℕ) → table_number d name ≡ Some table → copy_running d name ≡ copy_txid table d.copies
running-at d name table number = ap (option_and_then (λ t. copy_txid t d.copies)) number

-- rows that were read for a hand, and how many they are
module _ (p r : Database) (made : IsMade p) (name : List ℕ) (v hand : CopyHand) (same : v ≡ hand) (after : Option (List Val)) (from : after ≡ v.last) (rows : List (List Val))
    (read : IfSome (held_snapshot p v.hold) (λ s. rows ≡ rows_of (rows_from p name s after 1000))) where
  reads : IfSome (held_snapshot p hand.hold) (λ s. rows ≡ rows_of (rows_from p name s hand.last 1000))
  reads =
      subst (λ (h : CopyHand). IfSome (held_snapshot p h.hold) (λ s. rows ≡ rows_of (rows_from p name s h.last 1000))) same
      (subst (λ k. IfSome (held_snapshot p v.hold) (λ s. rows ≡ rows_of (rows_from p name s k 1000))) from read)

  -- they fit the replica's table
  pub rows-fit : (source to : ℕ) → SameTable p r name source to → is_some (held_snapshot p hand.hold) ≡ true → all_fit (r.part.columns to) rows ≡ true
  rows-fit source to table held = ap (λ columns. all_fit columns rows) (columns-at r name to table.here) ∙ by (held_snapshot p hand.hold) held reads
    where
      by : (o : Option SnapshotView) → is_some o ≡ true → IfSome o (λ s. rows ≡ rows_of (rows_from p name s hand.last 1000)) → all_fit (columns_for r name) rows ≡ true
      by None held is = absurd (cc)
      by (Some s) held is = ap (all_fit (columns_for r name)) is ∙ piece-fits p r made name table.columns s hand.last 1000

  module _ (count : ℕ) (counted : count ≡ length rows) where
    counts : (s : SnapshotView) → rows ≡ rows_of (rows_from p name s hand.last 1000) → count ≡ length (rows_from p name s hand.last 1000)
    counts s is = counted ∙ ap length is ∙ piece-count (rows_from p name s hand.last 1000)

    abbrev more_to_come : Entries (List Val) → Move CopyHand
    more_to_come es = record {
      provider = [];
      replica = copying_rows name (rows_of es) ∷ [];
      replies = RowsCopied (length es) ∷ [];
      hand = Some (record hand { last = last_key hand.last es });
    }

    abbrev ends_here : SnapshotView → Entries (List Val) → Move CopyHand
    ends_here s es = record {
      provider = letting_go hand.hold ∷ [];
      replica = copying_rows name (rows_of es) ∷ ending_copy name s hand.tick ∷ [];
      replies = RowsCopied (length es) ∷ TableMoved name CatchingUp ∷ [];
      hand = None;
    }

    -- they are as many as a piece has
    pub moves-more : (r_new : Database) (replies : List Reply) (last : Option (List Val)) → 1000 ≤ count → Serves r r_new (copying_rows name rows) → replies ≡ RowsCopied count ∷ []
        → last ≡ last_row_key (columns_for p name) v.last rows
        → IfSome (held_snapshot p hand.hold) (λ s. MovesAs (next_piece p name s hand) p p r r_new replies (Some (record { hold = v.hold; tick = v.tick; last = last })))
    moves-more r_new replies last many copied printed to = by (held_snapshot p hand.hold) reads
      where
        of : (s : SnapshotView) (es : Entries (List Val)) → rows ≡ rows_of es → count ≡ length es → last_row_key (columns_for p name) hand.last (rows_of es) ≡ last_key hand.last es
            → MovesAs (copies_piece name s hand es) p p r r_new replies (Some (record { hold = v.hold; tick = v.tick; last = last }))
        of s es is at ends =
            let full : nat_lt (length es) 1000 ≡ false = grind (arith, nat_tests) in
            let key : last ≡ last_key hand.last es = to ∙ (λ i. last_row_key (columns_for p name) (same i).last (is i)) ∙ ends in
            subst (λ b. MovesAs (if b then ends_here s es else more_to_come es) p p r r_new replies (Some (record { hold = v.hold; tick = v.tick; last = last }))) (sym full) (record {
              provider = serves-none p;
              replica = subst (λ x. ServesAll r r_new (copying_rows name x ∷ [])) is (serves-one r r_new (copying_rows name rows) copied);
              printed = printed ∙ ap (λ n. RowsCopied n ∷ []) at;
              in_hand = λ i. Some (record { hold = (same i).hold; tick = (same i).tick; last = key i });
            })

        by : (o : Option SnapshotView) → IfSome o (λ s. rows ≡ rows_of (rows_from p name s hand.last 1000))
            → IfSome o (λ s. MovesAs (next_piece p name s hand) p p r r_new replies (Some (record { hold = v.hold; tick = v.tick; last = last })))
        by None is = tt
        by (Some s) is = of s (rows_from p name s hand.last 1000) is (counts s is) (piece-last p made name s hand.last 1000)

    -- or fewer, and the copy ends
    pub moves-end : (p_new m r_new : Database) (replies : List Reply) (now : Option CopyHand) (snapshot : SnapshotView) → count < 1000 → now ≡ None → Serves r m (copying_rows name rows) → held_snapshot p v.hold ≡ Some snapshot → Serves m r_new (ending_copy name snapshot v.tick)
        → Serves p p_new (letting_go v.hold) → replies ≡ RowsCopied count ∷ TableMoved name CatchingUp ∷ [] → IfSome (held_snapshot p hand.hold) (λ s. MovesAs (next_piece p name s hand) p p_new r r_new replies now)
    moves-end p_new m r_new replies now snapshot few idle copied taken ended let_go printed =
        subst (λ o. IfSome o (λ s. MovesAs (next_piece p name s hand) p p_new r r_new replies now)) (sym here)
        (of (rows_from p name snapshot hand.last 1000) is (counts snapshot is))
      where
        here : held_snapshot p hand.hold ≡ Some snapshot
        here = ap (λ (h : CopyHand). held_snapshot p h.hold) (sym same) ∙ taken

        is : rows ≡ rows_of (rows_from p name snapshot hand.last 1000)
        is = subst (λ o. IfSome o (λ s. rows ≡ rows_of (rows_from p name s hand.last 1000))) here reads

        of : (es : Entries (List Val)) → rows ≡ rows_of es → count ≡ length es → MovesAs (copies_piece name snapshot hand es) p p_new r r_new replies now
        of es is at =
            let less : nat_lt (length es) 1000 ≡ true = grind (arith, nat_tests) in
            subst (λ b. MovesAs (if b then ends_here snapshot es else more_to_come es) p p_new r r_new replies now) (sym less) (record {
              provider = serves-one p p_new (letting_go hand.hold) (subst (λ (h : CopyHand). Serves p p_new (letting_go h.hold)) same let_go);
              replica = subst (λ x. ServesAll r r_new (copying_rows name x ∷ ending_copy name snapshot hand.tick ∷ [])) is
                  (serves-then r m r_new (copying_rows name rows) (ending_copy name snapshot hand.tick ∷ []) copied
                  (serves-one m r_new (ending_copy name snapshot hand.tick) (subst (λ (h : CopyHand). Serves m r_new (ending_copy name snapshot h.tick)) same ended)));
              printed = printed ∙ ap (λ n. RowsCopied n ∷ TableMoved name CatchingUp ∷ []) at;
              in_hand = idle;
            })

-- ---- a copy begins or goes on

behind : (ps rs : List NodeCall) (move : Move CopyHand) (p m p_new r n r_new : Database) (replies : List Reply) (hand : Option CopyHand) → ServesAll p m ps → ServesAll r n rs → MovesAs move m p_new n r_new replies hand
    → MovesAs (behind_calls ps rs move) p p_new r r_new replies hand
behind ps rs move p m p_new r n r_new replies hand first also rest = record {
  provider = serves-append p m p_new ps move.provider first rest.provider;
  replica = serves-append r n r_new rs move.replica also rest.replica;
  printed = rest.printed;
  in_hand = rest.in_hand;
}

-- the rows are those of the provider as it was
same-piece : (p m : Database) (name : List ℕ) (s : SnapshotView) (hand : CopyHand) → m.part ≡ p.part → next_piece m name s hand ≡ next_piece p name s hand
same-piece p m name s hand rows = λ i. copies_piece name s hand (unwrap_or (option_map (λ t. take 1000 (rows_read s None (above hand.last ((rows i).versions t)))) (place_of name (rows i).tables)) [])

pub moves-begun : (p m p_new r n r_new : Database) (name : List ℕ) (hand : CopyHand) (replies : List Reply) (now : Option CopyHand) → Begun p m r n name hand
    → IfSome (held_snapshot m hand.hold) (λ s. MovesAs (next_piece m name s hand) m p_new n r_new replies now) → MovesBy (starts_copy p r name) p p_new r r_new replies now
moves-begun p m p_new r n r_new name hand replies now begun piece = record {
  move = _;
  is = begun.allowed;
  moved = behind _ _ (next_piece p name (snapshot_now p.part) hand) p m p_new r n r_new replies now begun.provider begun.replica
      (subst (λ move. MovesAs move m p_new n r_new replies now) (same-piece p m name (snapshot_now p.part) hand begun.rows)
      (subst (λ o. IfSome o (λ s. MovesAs (next_piece m name s hand) m p_new n r_new replies now)) begun.held piece));
}

-- both databases have the table as before
pub same-begun : (p r m n : Database) (name : List ℕ) (from to : ℕ) (hand : CopyHand) → SameTable p r name from to → Begun p m r n name hand → SameTable m n name from to
same-begun p r m n name from to hand same begun = record {
  joined = subst (λ x. is_among name (leaf_tables x) ≡ true) (sym begun.node) same.joined;
  there = ap (λ (x : RowPart). place_of name x.tables) begun.rows ∙ same.there;
  here = ap (place_of name) begun.tables ∙ same.here;
  columns = ap (λ (x : RowPart). option_map x.columns (place_of name x.tables)) begun.rows ∙ same.columns ∙ sym begun.columns;
}

-- by whether a copy runs
pub goes-first : (p r : Database) (name : List ℕ) (hand : Option CopyHand) (running : Option ℕ) → is_some running ≡ false → starts_or_continues p r name hand running ≡ starts_copy p r name
goes-first p r name hand None none = refl
goes-first p r name hand (Some t) none = absurd (cc)

pub goes-more : (p r : Database) (name : List ℕ) (hand : Option CopyHand) (running : Option ℕ) → is_some running ≡ true → starts_or_continues p r name hand running ≡ continues p name hand (under_way p hand)
goes-more p r name hand None some = absurd (cc)
goes-more p r name hand (Some t) some = refl
