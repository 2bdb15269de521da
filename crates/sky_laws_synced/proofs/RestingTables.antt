-- A table of a leaf that was copied keeps its rows, until a batch writes it.
use Rattle.std.proofs.Common.{arith, ◌≡◌, ℕ, nat_lt, ◌==◌, List, [], ◌∷◌, Bool, true, false, not, ◌&&◌, ◌||◌, Option, Some, None, option_map, unwrap_or, find, map, bytes_eq, refl, sym, ap, subst, ◌∙◌, if◌then◌else◌}
use Rattle.std.proofs.lemmas.Bool.Decides.{nat_tests}
use Rattle.std.proofs.lemmas.Bool.{false_from_ne_true}
use Rattle.std.proofs.Math.Bool.{and-false}
use Rattle.sky_val.specs.declared.val.Val.{Val}
use Rattle.sky_names.specs.Places.{place_of}
use Rattle.sky_txid.specs.Ids.{contains}
use Rattle.londiste_state.specs.declared.state.TableState.{TableState}
use Rattle.londiste_state.specs.declared.state.TableState.TheVariants.{Absent, InCopy}
use Rattle.londiste_state.specs.Nodes.{Node, of_root, of_leaf, LeafTable, is_among}
use Rattle.sky_model.specs.History.{Mark, Whose, of_session, of_worker, of_copy, ended, tabled, wrote, leaf_removed, History}
use Rattle.sky_model.specs.Transactions.{next_txid, running, has_ended}
use Rattle.sky_model.specs.Copies.{copies, is_copied, without_copy}
use Rattle.sky_model.specs.Rows.{Write, table_names, is_read_only, wrote_in, committed, writes as writes_of, put_all, rows}
use Rattle.sky_model.specs.Nodes.{after_node, node, is_leaf, leaf_tables}
use Rattle.sky_model.specs.ShownRows.{least_writer}
use Rattle.sky_model.specs.State.{part_of}
use Rattle.sky_model.specs.StepNode.{is_in_copy, may_copy}
use Rattle.sky_model.specs.Promises.{after_all}
use Rattle.sky_model.specs.DatabaseCalls.{database_part}
use Rattle.sky_histories.proofs.Legal.{Fine, writes, copies_row, applies_row, begins_copy, ends, ends_work, ends_copy, guards, nodes, without_node, at_joining, at_leaving, Legal}
use Rattle.sky_histories.proofs.Snapshots.{Sound, sound, ender-unended}
use Rattle.sky_histories.proofs.Guarded.{IsUncopied, copied-by, copied-less}
use Rattle.sky_histories.proofs.Holders.{guarded-unwritten}
use Rattle.sky_histories.proofs.WrittenTables.{some, is-written, unwritten-by}
use Rattle.sky_histories.proofs.RowKeys.{begun}
use Rattle.sky_histories.proofs.RowWrites.{in_turn-push}
use Rattle.sky_histories.proofs.CopiesCovered.{rows-wrote}
use Rattle.sky_histories.proofs.NodeTables.{one-place}
use Rattle.sky_histories.proofs.NodeReadings.{leaf-stays}
use Rattle.sky_histories.proofs.InCopyTables.{leaf_table, IsInCopy, copies-in-copy, is_past_copy}
use Rattle.sky_histories.proofs.Histories.{legal_calls, rests_calls, stands_calls}
use Rattle.sky_model.proofs.Cases.{by_test, by_same}
use Rattle.sky_laws_changes.proofs.ListedTables.{among-one}
use Rattle.sky_laws_replicas.proofs.KeptRows.{uncopied-push}
use Rattle.sky_laws_synced.proofs.ChangedTables.{just-gone}
use Rattle.sky_laws_synced.proofs.Showing.{IsBetween}

-- no copy of a table of a leaf runs, and no transaction that runs has written it
pub record Rests (h : History) (n : ℕ) : Type 0 where
  pub leaf : is_leaf (node h) ≡ true
  pub guarded : is_read_only n h ≡ true
  pub none : is_copied n (copies h) ≡ false
  pub unwritten : (u : ℕ) → wrote_in n u h ≡ false

-- a worker writes a row of it, as a batch is applied
abbrev pub applies_to : ℕ → Mark → Bool
applies_to n (tabled (wrote of_worker t m key old new)) = m == n
applies_to n mark = false

-- one that was copied isn't being copied
uncopying : (state : TableState) → is_past_copy state ≡ true → is_in_copy state ≡ false
uncopying Absent e = absurd (cc e)
uncopying InCopy e = absurd (cc e)
uncopying state e = refl

pub may-not : (name : List ℕ) (n : Option Node) (t : LeafTable) → leaf_table name n ≡ Some t → may_copy name n ≡ is_in_copy t.state
may-not name None t is = absurd (cc is)
may-not name (Some (of_root r)) t is = absurd (cc is)
may-not name (Some (of_leaf l)) t is = ap (λ o. unwrap_or (option_map (λ (x : LeafTable). is_in_copy x.state) o) false) is

pub among-found : (name : List ℕ) (n : Option Node) (t : LeafTable) → leaf_table name n ≡ Some t → is_among name (leaf_tables n) ≡ true
among-found name None t is = absurd (cc is)
among-found name (Some (of_root r)) t is = absurd (cc is)
among-found name (Some (of_leaf l)) t is = of l.tables is
  where
    of : (ts : List LeafTable) → find (λ (x : LeafTable). bytes_eq name x.name) ts ≡ Some t → is_among name (map LeafTable.name ts) ≡ true
    of [] e = absurd (cc e)
    of (x ∷ ts) e =
        by_test (λ b. (if b then Some x else find (λ (y : LeafTable). bytes_eq name y.name) ts) ≡ Some t → (b || is_among name (map LeafTable.name ts)) ≡ true) (bytes_eq name x.name) (λ _ _. refl)
        (λ _ there. of ts there) e

pub leaf-found : (name : List ℕ) (n : Option Node) (t : LeafTable) → leaf_table name n ≡ Some t → is_leaf n ≡ true
leaf-found name None t is = absurd (cc is)
leaf-found name (Some (of_root r)) t is = absurd (cc is)
leaf-found name (Some (of_leaf l)) t is = refl

-- ---- mark by mark

-- a write of another table
rests-wrote : (h : History) (n : ℕ) (whose : Whose) (t m : ℕ) (key : List Val) (old new : Option (List Val)) → (m == n) ≡ false → Rests h n → Rests (tabled (wrote whose t m key old new) ∷ h) n
rests-wrote h n whose t m key old new other r =
    record { leaf = r.leaf; guarded = r.guarded; none = r.none; unwritten = λ u. ap (λ b. (b && t == u) || wrote_in n u h) other ∙ r.unwritten u }

-- a transaction ends
rests-ended : (h : History) (n : ℕ) (whose : Whose) (t : ℕ) (c : Bool) → is_copied n (copies (ended whose t c ∷ h)) ≡ false → Rests h n → Rests (ended whose t c ∷ h) n
rests-ended h n whose t c none r = record { leaf = r.leaf; guarded = r.guarded; none = none; unwritten = λ u. ap (λ b. not (t == u) && b) (r.unwritten u) ∙ and-false (not (t == u)) }

-- the table of a name, which was copied
module _ (h : History) (name : List ℕ) (t : LeafTable) (there : leaf_table name (node h) ≡ Some t) (along : is_past_copy t.state ≡ true) (n : ℕ) (named : place_of name (table_names h) ≡ Some n) where
  pub rests-step : (mark : Mark) → Fine h mark → applies_to n mark ≡ false → Rests h n → Rests (mark ∷ h) n
  rests-step _ (nodes mark fits) apart r = record { leaf = leaf-stays h mark fits r.leaf; guarded = r.guarded; none = r.none; unwritten = r.unwritten }
  rests-step _ (begins_copy m may) apart r = record {
    leaf = r.leaf;
    guarded = r.guarded;
    none = uncopied-push n (copies h) (record { table = m; txid = next_txid h })
        (by_same (λ b. b ≡ false) m n
        (λ same.
        let one : may.name ≡ name = one-place may.name name (table_names h) n (may.there ∙ ap Some same) named in
        absurd (cc (sym may.may ∙ ap (λ x. may_copy x (node h)) one ∙ may-not name (node h) t there ∙ uncopying t.state along))) (λ _. refl)) r.none;
    unwritten = r.unwritten;
  }
  rests-step _ (writes who u m key old new mine free stands) apart r =
      rests-wrote h n (of_session who) u m key old new
      (by_same (λ b. b ≡ false) m n (λ same. absurd (cc (sym (stands.writable r.leaf) ∙ ap (λ k. is_read_only k h) same ∙ r.guarded))) (λ _. refl)) r
  rests-step _ (copies_row m u key old new may) apart r =
      rests-wrote h n (of_copy m) u m key old new
      (by_same (λ b. b ≡ false) m n (λ same. absurd (cc (sym r.none ∙ ap (λ k. is_copied k (copies h)) (sym same) ∙ copied-by m u (copies h) may.runs))) (λ _. refl)) r
  rests-step _ (applies_row m u key old new is) apart r = rests-wrote h n of_worker u m key old new apart r
  rests-step _ (ends who u c mine) apart r = rests-ended h n _ u c r.none r
  rests-step _ (ends_work u c work) apart r = rests-ended h n _ u c r.none r
  rests-step _ (ends_copy m u c may) apart r =
      rests-ended h n (of_copy m) u c (false_from_ne_true (is_copied n (without_copy u (copies h))) (λ is. cc (sym (copied-less n u (copies h) is) ∙ r.none))) r
  rests-step _ (guards _ _ (without_node m on bare)) apart r = absurd (cc (sym r.leaf ∙ ap is_leaf bare))
  rests-step _ (guards _ _ (at_joining m last unused)) apart r = record {
    leaf = r.leaf;
    guarded = by_test (λ b. (if b then true else is_read_only n h) ≡ true) (m == n) (λ _. refl) (λ _. r.guarded);
    none = r.none;
    unwritten = r.unwritten;
  }
  rests-step _ (guards _ _ (at_leaving m last uncopied unwritten)) apart r = record {
    leaf = r.leaf;
    guarded = by_same (λ b. (if b then false else is_read_only n h) ≡ true) m n
        (λ same.
        let one : last.name ≡ name = one-place last.name name (table_names last.below) n (last.there ∙ ap Some same) (sym (ap (λ g. place_of name (table_names g)) last.last) ∙ named) in
        absurd (cc (sym there ∙ ap (λ g. leaf_table name (node g)) last.last ∙ ap (λ x. leaf_table name (after_node (leaf_removed x) (node last.below))) one ∙ just-gone name (node last.below))))
        (λ _. r.guarded);
    none = r.none;
    unwritten = r.unwritten;
  }
  rests-step _ _ apart r = record { leaf = r.leaf; guarded = r.guarded; none = r.none; unwritten = r.unwritten }

-- it has the rows that it had
pub nothing : (ws : List Write) → some ws ≡ false → ws ≡ []
nothing [] e = refl
nothing (w ∷ ws) e = absurd (cc e)

pub rows-stay : (h : History) → Legal h → (mark : Mark) → Fine h mark → (n : ℕ) → Rests h n → rows n (mark ∷ h) ≡ rows n h
rows-stay h l (tabled (wrote whose u m key old new)) fine n r = rows-wrote h l whose u m key old new fine n
rows-stay h l (ended whose u true) fine n r =
    in_turn-push (λ v. writes_of n v h) (committed h) u []
    ∙ ap (λ ws. put_all ws (rows n h)) (nothing (writes_of n u h) (sym (ap (λ b. not b && some (writes_of n u h)) (ender-unended h l whose u true fine)) ∙ sym (is-written h l n u) ∙ r.unwritten u))
rows-stay h l mark fine n r = refl

-- ---- between calls

unrunning : (h : History) → Legal h → (n u : ℕ) → contains u (running h) ≡ false → wrote_in n u h ≡ false
unrunning h l n u isnt = of (nat_lt u (next_txid h)) refl
  where
    s : Sound h
    s = sound h l

    of : (b : Bool) → nat_lt u (next_txid h) ≡ b → wrote_in n u h ≡ false
    of true is = is-written h l n u ∙ ap (λ b. b && some (writes_of n u h)) (sym (ap (λ b. b && not (has_ended h u)) is) ∙ sym (s.runs u) ∙ isnt)
    of false is = is-written h l n u ∙ ap (λ ws. not (has_ended h u) && some ws) (begun h l n u (grind (arith, nat_tests, is))) ∙ and-false (not (has_ended h u))

pub rests-between : (h : History) → IsBetween h → (name : List ℕ) (t : LeafTable) → leaf_table name (node h) ≡ Some t → is_past_copy t.state ≡ true → (n : ℕ) → place_of name (table_names h) ≡ Some n → Rests h n
rests-between h m name t = subst (λ g. leaf_table name (node g) ≡ Some t → is_past_copy t.state ≡ true → (n : ℕ) → place_of name (table_names g) ≡ Some n → Rests g n) m.make at
  where
    g : History
    g = after_all database_part m.calls

    l : Legal g
    l = legal_calls m.calls

    at : leaf_table name (node g) ≡ Some t → is_past_copy t.state ≡ true → (n : ℕ) → place_of name (table_names g) ≡ Some n → Rests g n
    at there along n named = record { leaf = u.guard.leaf; guarded = u.guard.guarded; none = u.uncopied; unwritten = unwritten }
      where
        u : IsUncopied g n
        u = record {
          guard = record {
            leaf = leaf-found name (node g) t there;
            guarded = (stands_calls m.calls).guarding n ∙ among-one (table_names g) (leaf_tables (node g)) name n named (among-found name (node g) t there);
          };
          uncopied = false_from_ne_true (is_copied n (copies g)) (λ runs.
              let c : IsInCopy g n = copies-in-copy g l n runs in
              let one : c.name ≡ name = one-place c.name name (table_names g) n c.there named in
              let same : Some t ≡ Some c.t = sym there ∙ ap (λ x. leaf_table x (node g)) (sym one) ∙ c.found in
              let table_is : t ≡ c.t = cc same in
              cc (sym (uncopying t.state along) ∙ ap (λ (x : LeafTable). is_in_copy x.state) table_is ∙ c.state));
        }

        idle : least_writer (part_of g) n ≡ None
        idle = guarded-unwritten g l (rests_calls m.calls).idle n u

        unwritten : (v : ℕ) → wrote_in n v g ≡ false
        unwritten v = by_test (λ b. contains v (running g) ≡ b → wrote_in n v g ≡ false) (contains v (running g)) (λ _ runs. unwritten-by g l n idle v runs) (λ _ isnt. unrunning g l n v isnt) refl
