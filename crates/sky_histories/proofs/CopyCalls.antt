-- Which marks calls for copies leave, and that these may come.
use Rattle.std.proofs.Common.{◌≡◌, ℕ, ◌<◌, ◌^◌, ◌==◌, ◌||◌, nat_le, List, [], ◌∷◌, Bool, true, false, Option, Some, None, Ok, Err, IfSome, is_none, length, option_map, unwrap_or, map, find, bytes_eq, refl, sym, ◌∙◌, ap, subst, arith, if◌then◌else◌}
use Rattle.std.proofs.lemmas.Bool.{and_parts}
use Rattle.std.proofs.lemmas.Bool.Decides.{nat_tests}
use Rattle.std.specs.List.{list_any}
use Rattle.sky_val.specs.declared.val.Val.{Val}
use Rattle.sky_val.specs.declared.column.Column.{Column}
use Rattle.sky_val.specs.Entries.{Entries}
use Rattle.sky_val.specs.Schemas.{row_fault}
use Rattle.sky_names.specs.Places.{place_of}
use Rattle.sky_names.proofs.PlaceLemmas.{place_of_within, same_name}
use Rattle.londiste_state.specs.Nodes.{LeafTable, Node, of_root, of_leaf, is_among}
use Rattle.sky_model.specs.declared.reply.Reply.TheVariants.{Done, Null}
use Rattle.sky_model.specs.declared.reply.Refusal.TheVariants.{TxidsSpent}
use Rattle.sky_model.specs.History.{Mark, of_copy, began, ended, tabled, wrote, noded, copied, restarted, hold_begun, hold_ended, History}
use Rattle.sky_model.specs.Transactions.{next_txid}
use Rattle.sky_model.specs.Copies.{copies, is_copied, is_copied_by, copy_txid, Hold, holds}
use Rattle.sky_model.specs.Rows.{Write, table_names, columns_of, is_read_only}
use Rattle.sky_model.specs.Nodes.{node, is_leaf, leaf_tables}
use Rattle.sky_model.specs.State.{RowPart, part_of, after_part, Database, database_of}
use Rattle.sky_model.specs.OwnTransaction.{next_id}
use Rattle.sky_model.specs.Outcome.{Outcome, Checked, ◌>>=◌, ◌>>◌, refused_if, answers, does_marks}
use Rattle.sky_model.specs.StepCopy.{copy_write, copy_writes, deletions, insertions, rows_now, begins_copy, all_fit, copies_rows, given_up, lets_go}
use Rattle.sky_model.specs.StepNode.{NodeCall, beginning_copy, copying_rows, ending_copy, giving_up_copy, holding, letting_go, if_there, table_number, is_in_copy, may_copy, may_serve, call_form}
use Rattle.sky_model.specs.LawsOfNodes.{is_at, is_one_of}
use Rattle.sky_model.specs.LawsOfWrites.{IsRowOf}
use Rattle.sky_histories.proofs.Legal.{brief, ends_copy, begins_copy as begins_fine, copies_row, nodes, Chain, done, more, Legal}
use Rattle.sky_histories.proofs.Marks.{part_of-mark}
use Rattle.sky_histories.proofs.Guarded.{copied_by-push, copy_txid-some, copy_txid-none, IsGuarded}
use Rattle.sky_histories.proofs.Holders.{guarded-unwritten}
use Rattle.sky_model.proofs.Cases.{by_test}
use Rattle.sky_histories.proofs.Good.{Good, good_refused}
use Rattle.sky_histories.proofs.StatementMarks.{EachMark, Gives, AnyReply}
use Rattle.sky_model.proofs.LeastNumbers.{least-free}
use Rattle.sky_histories.proofs.CopiesCovered.{AllCovered}

-- the marks that they leave
abbrev pub is_for_copies : Mark → Bool
is_for_copies (began (of_copy table) t) = true
is_for_copies (ended (of_copy table) t committed) = true
is_for_copies (tabled (wrote (of_copy n) t table key old new)) = true
is_for_copies (noded (copied table snapshot tick)) = true
is_for_copies (noded (restarted table)) = true
is_for_copies (noded (hold_begun hold)) = true
is_for_copies (noded (hold_ended hold)) = true
is_for_copies _ = false

abbrev pub CopyGives : Checked Outcome → Type 0
CopyGives c = Gives AnyReply is_for_copies c

pub gives-there : {A : Type 0} (p : Mark → Bool) (o : Option A) (does : A → Checked Outcome) → ((a : A) → Gives AnyReply p (does a)) → Gives AnyReply p (if_there o does)
gives-there p None does gives = (tt, tt)
gives-there p (Some a) does gives = gives a

each-written : (d : RowPart) (table t : ℕ) (ws : List Write) → EachMark is_for_copies (copy_writes d table t ws)
each-written d table t [] = tt
each-written d table t (w ∷ ws) = each-written (after_part d (copy_write d table t w)) table t ws

gives-begins : (d : Database) (table : ℕ) (o : Option ℕ) → CopyGives (begins_copy d table o)
gives-begins d table (Some t) = (tt, tt)
gives-begins d table None = of (next_id d.part)
  where
    of : (c : Checked ℕ) → CopyGives (c >>= (λ t. does_marks Done (began (of_copy table) t ∷ copy_writes (after_part d.part (began (of_copy table) t)) table t (deletions (rows_now d.part table)))))
    of (Err refusal) = tt
    of (Ok t) = (tt, each-written (after_part d.part (began (of_copy table) t)) table t (deletions (rows_now d.part table)))

gives-rows : (d : Database) (table t : ℕ) (rows : List (List Val)) → CopyGives (copies_rows d table t rows)
gives-rows d table t rows = of (all_fit (d.part.columns table) rows)
  where
    of : (fit : Bool) → CopyGives (if fit then does_marks Done (copy_writes d.part table t (insertions (d.part.columns table) rows)) else answers Null)
    of true = (tt, each-written d.part table t (insertions (d.part.columns table) rows))
    of false = (tt, tt)

pub each-given_up : (table : ℕ) (name : List ℕ) (o : Option ℕ) → EachMark is_for_copies (given_up table name o)
each-given_up table name None = tt
each-given_up table name (Some t) = tt

gives-lets_go : (d : Database) (hold : ℕ) → CopyGives (lets_go d hold)
gives-lets_go d hold = of (list_any (λ (x : Hold). x.number == hold) d.holds)
  where
    of : (there : Bool) → CopyGives (if there then does_marks Done (noded (hold_ended hold) ∷ []) else answers Null)
    of true = (tt, tt)
    of false = (tt, tt)

-- the calls for copies
abbrev pub is_copies : NodeCall → Bool
is_copies (beginning_copy table) = true
is_copies (copying_rows table rows) = true
is_copies (ending_copy table snapshot tick) = true
is_copies (giving_up_copy table) = true
is_copies holding = true
is_copies (letting_go hold) = true
is_copies _ = false

pub gives-copies : (d : Database) (call : NodeCall) → is_copies call ≡ true → CopyGives (call_form d call)
gives-copies d (beginning_copy name) e = gives-there is_for_copies (table_number d name) _ (λ table. gives-begins d table (copy_txid table d.copies))
gives-copies d (copying_rows name rows) e =
    gives-there is_for_copies (table_number d name) _ (λ table. gives-there is_for_copies (copy_txid table d.copies) _ (λ t. gives-rows d table t rows))
gives-copies d (ending_copy name snapshot tick) e =
    gives-there is_for_copies (table_number d name) _ (λ table. gives-there is_for_copies (copy_txid table d.copies) _ (λ t. (tt, tt)))
gives-copies d (giving_up_copy name) e = gives-there is_for_copies (table_number d name) _ (λ table. (tt, each-given_up table name (copy_txid table d.copies)))
gives-copies d holding e = (tt, tt)
gives-copies d (letting_go hold) e = gives-lets_go d hold
gives-copies d _ e = absurd (cc)

-- ---- they may come

pub good-there : {A : Type 0} (h : History) (o : Option A) (does : A → Checked Outcome) → ((a : A) → o ≡ Some a → Good h 0 (does a)) → Good h 0 (if_there o does)
good-there h None does good = done
good-there h (Some a) does good = good a refl

-- writes whose rows may be in a table of these columns
abbrev WritesFit : List Column → List Write → Type 0
WritesFit columns [] = Unit {0}
WritesFit columns (w ∷ ws) = IfSome w.row (IsRowOf columns w.key) × WritesFit columns ws

deletions-fit : (columns : List Column) (rows : Entries (List Val)) → WritesFit columns (deletions rows)
deletions-fit columns [] = tt
deletions-fit columns (e ∷ rows) = (tt, deletions-fit columns rows)

insertions-fit : (columns : List Column) (rows : List (List Val)) → all_fit columns rows ≡ true → WritesFit columns (insertions columns rows)
insertions-fit columns [] all = tt
insertions-fit columns (row ∷ rows) all =
    let parts = and_parts (is_none (row_fault columns row)) (all_fit columns rows) all in ((none _ parts.0, refl), insertions-fit columns rows parts.1)
  where
    none : {A : Type 0} (o : Option A) → is_none o ≡ true → o ≡ None
    none None is = refl
    none (Some a) is = absurd (cc)

-- those of a copy that runs may come
good-writes : (h : History) (table t : ℕ) (ws : List Write) → table < length (table_names h) → is_copied_by table t (copies h) ≡ true → WritesFit (columns_of table h) ws → Chain h (copy_writes (part_of h) table t ws)
good-writes h table t [] within runs fit = done
good-writes h table t (w ∷ ws) within runs fit =
    more (copies_row table t w.key _ w.row (record { within = within; runs = runs; stands = refl; fits = fit.0 }))
    (subst (λ d. Chain (mark ∷ h) (copy_writes d table t ws)) (part_of-mark h mark) (good-writes (mark ∷ h) table t ws within runs fit.1))
  where
    mark : Mark
    mark = copy_write (part_of h) table t w

-- the tables of a leaf are read-only
abbrev pub LeafGuarded : History → Type 0
LeafGuarded h = (table : ℕ) → is_read_only table h ≡ is_one_of (table_names h) (leaf_tables (node h)) table

-- a table of a node is one of its tables by number
pub among-one : (tables names : List (List ℕ)) (name : List ℕ) (table : ℕ) → place_of name tables ≡ Some table → is_among name names ≡ true → is_one_of tables names table ≡ true
among-one tables [] name table there is = absurd (cc)
among-one tables (x ∷ xs) name table there is =
    by_test (λ b. bytes_eq name x ≡ b → (b || is_among name xs) ≡ true → (is_at table (place_of x tables) || is_one_of tables xs table) ≡ true) (bytes_eq name x)
    (λ _ same _. let at : is_at table (place_of x tables) ≡ (table == table) = ap (is_at table) (ap (λ y. place_of y tables) (sym (same_name name x same)) ∙ there) in grind (arith, nat_tests, at))
    (λ _ _ rest. let ih : is_one_of tables xs table ≡ true = among-one tables xs name table there rest in grind (arith, ih)) refl is

-- a table in the state in which it is copied is a leaf's
pub record IsLeafs (n : Option Node) (name : List ℕ) : Type 0 where
  pub leaf : is_leaf n ≡ true
  pub among : is_among name (leaf_tables n) ≡ true

found-among : (name : List ℕ) (ts : List LeafTable) → unwrap_or (option_map (λ (t : LeafTable). is_in_copy t.state) (find (λ (t : LeafTable). bytes_eq name t.name) ts)) false ≡ true → is_among name (map LeafTable.name ts) ≡ true
found-among name [] is = absurd (cc)
found-among name (t ∷ ts) is = grind (arith, found-among name ts)

pub leafs : (n : Option Node) (name : List ℕ) → may_copy name n ≡ true → IsLeafs n name
leafs None name may = absurd (cc)
leafs (Some (of_root r)) name may = absurd (cc)
leafs (Some (of_leaf l)) name may = record { leaf = refl; among = found-among name l.tables may }

good-begins : (h : History) → Legal h → brief h ≡ [] → LeafGuarded h → (name : List ℕ) (table : ℕ) → may_copy name (node h) ≡ true → place_of name (table_names h) ≡ Some table
    → (o : Option ℕ) → copy_txid table (copies h) ≡ o → Good h 0 (begins_copy (database_of h) table o)
good-begins h l idle guarding name table may there (Some t) is = done
good-begins h l idle guarding name table may there None is = of (nat_le (2 ^ 62) (next_txid h))
  where
    in_leaf : IsLeafs (node h) name
    in_leaf = leafs (node h) name may

    guarded : IsGuarded h table
    guarded = record { leaf = in_leaf.leaf; guarded = guarding table ∙ among-one (table_names h) (leaf_tables (node h)) name table there in_leaf.among }

    alone : is_copied table (copies h) ≡ false
    alone = copy_txid-none table (copies h) is

    t : ℕ
    t = next_txid h

    g : History
    g = began (of_copy table) t ∷ h

    runs : is_copied_by table t (copies g) ≡ true
    runs = copied_by-push table t (copies h) (record { table = table; txid = t }) ∙ grind (arith, nat_tests)

    of : (spent : Bool) → Good h 0 ((refused_if spent TxidsSpent >> Ok t) >>= (λ u. does_marks Done (began (of_copy table) u ∷ copy_writes (after_part (part_of h) (began (of_copy table) u)) table u (deletions (rows_now (part_of h) table)))))
    of true = good_refused h 0 TxidsSpent
    of false =
        more (begins_fine table (record {
          name = name;
          there = there;
          may = may;
          leaf = guarded.leaf;
          guarded = guarded.guarded;
          alone = alone;
          unwritten = guarded-unwritten h l idle table (record { guard = guarded; uncopied = alone });
        }))
        (subst (λ d. Chain g (copy_writes d table t (deletions (rows_now (part_of h) table)))) (part_of-mark h (began (of_copy table) t))
        (good-writes g table t (deletions (rows_now (part_of h) table)) (place_of_within name (table_names h) table there) runs (deletions-fit (columns_of table h) (rows_now (part_of h) table))))

good-rows : (h : History) (table t : ℕ) (rows : List (List Val)) → table < length (table_names h) → is_copied_by table t (copies h) ≡ true → Good h 0 (copies_rows (database_of h) table t rows)
good-rows h table t rows within runs =
    by_test (λ b. all_fit (columns_of table h) rows ≡ b → Good h 0 (if b then does_marks Done (copy_writes (part_of h) table t (insertions (columns_of table h) rows)) else answers Null)) (all_fit (columns_of table h) rows)
    (λ _ fit. good-writes h table t (insertions (columns_of table h) rows) within runs (insertions-fit (columns_of table h) rows fit)) (λ _ _. done) refl

good-gives_up : (h : History) (name : List ℕ) (table : ℕ) (o : Option ℕ) → copy_txid table (copies h) ≡ o → Chain h (given_up table name o)
good-gives_up h name table None is = done
good-gives_up h name table (Some t) is = more (ends_copy table t false (record { runs = copy_txid-some table t (copies h) is; whole = λ never. absurd (cc) })) (more (nodes (restarted name) tt) done)

pub good_copies : (h : History) → Legal h → brief h ≡ [] → LeafGuarded h → AllCovered h → (call : NodeCall) → is_copies call ≡ true → may_serve call (node h) ≡ true → Good h 0 (call_form (database_of h) call)
good_copies h l idle guarding covered (beginning_copy name) e may =
    good-there h (place_of name (table_names h)) _ (λ table there. good-begins h l idle guarding name table may there (copy_txid table (copies h)) refl)
good_copies h l idle guarding covered (copying_rows name rows) e may =
    good-there h (place_of name (table_names h)) _ (λ table there.
    good-there h (copy_txid table (copies h)) _ (λ t is. good-rows h table t rows (place_of_within name (table_names h) table there) (copy_txid-some table t (copies h) is)))
good_copies h l idle guarding covered (ending_copy name snapshot tick) e may =
    good-there h (place_of name (table_names h)) _ (λ table there.
    good-there h (copy_txid table (copies h)) _ (λ t is.
    let runs : is_copied_by table t (copies h) ≡ true = copy_txid-some table t (copies h) is in
    more (ends_copy table t true (record { runs = runs; whole = λ _. covered table t runs }))
    (more (nodes (copied name snapshot tick) (record { below = h; table = table; t = t; last = refl; there = there })) done)))
good_copies h l idle guarding covered (giving_up_copy name) e may = good-there h (place_of name (table_names h)) _ (λ table there. good-gives_up h name table (copy_txid table (copies h)) refl)
good_copies h l idle guarding covered holding e may = more (nodes (hold_begun _) (least-free (map Hold.number (holds h)))) done
good_copies h l idle guarding covered (letting_go hold) e may =
    by_test (λ b. Good h 0 (if b then does_marks Done (noded (hold_ended hold) ∷ []) else answers Null)) (list_any (λ (x : Hold). x.number == hold) (holds h)) (λ _. more (nodes (hold_ended hold) tt) done) (λ _. done)
good_copies h l idle guarding covered _ e may = absurd (cc)
