-- A table leaves its leaf with the rows that it had.
use Rattle.std.proofs.Common.{◌≡◌, ℕ, List, [], ◌∷◌, ◌++◌, false, not, Option, Some, None, Ok, option_map, refl, sym, ap, ◌∙◌}
use Rattle.sky_names.specs.Places.{place_of}
use Rattle.londiste_state.specs.Nodes.{of_leaf, LeafTable, is_among, table_of, tables_of}
use Rattle.sky_model.specs.declared.reply.Reply.TheVariants.{Done}
use Rattle.sky_model.specs.declared.reply.Refusal.TheVariants.{NoNode, NoTable, NotInSet}
use Rattle.sky_model.specs.Hands.{copy_in}
use Rattle.sky_model.specs.History.{of_copy, ended, tabled, read_only, noded, leaf_removed, restarted, History, in_hand, Past}
use Rattle.sky_model.specs.Copies.{copies, copy_txid}
use Rattle.sky_model.specs.Rows.{table_names, rows}
use Rattle.sky_model.specs.Nodes.{node, leaf_tables}
use Rattle.sky_model.specs.Outcome.{◌>>=◌, ◌>>◌, refused_if, found_or}
use Rattle.sky_model.specs.Settling.{marked}
use Rattle.sky_model.specs.StepCopy.{given_up}
use Rattle.sky_model.specs.StepNode.{NodeCall, removing}
use Rattle.sky_model.specs.CopyMoves.{lets_go_for}
use Rattle.sky_model.specs.NodesOfWorld.{WorldOutcome}
use Rattle.sky_model.specs.WorkersOfWorld.{move_facts, moves, parts_for, leaves_leaf, removes_from, remove_table}
use Rattle.sky_model.specs.World.{World, world_of, history_in, on_top}
use Rattle.sky_model.specs.Calls.{past_of}
use Rattle.sky_histories.proofs.NodeDeeds.{called-there}
use Rattle.sky_laws_replicas.proofs.CallPasts.{call_marks, called, after_calls, on-move, history-called, histories-elsewhere, removing-marks}
use Rattle.sky_laws_replicas.proofs.Sources.{IsSource, source-is}
use Rattle.sky_laws_replicas.proofs.LeafTables.{IsOfferedTo, offered-to}
use Rattle.sky_laws_synced.specs.LawsOfLeft.{left_at, TablesLeaveWithTheirRows}

-- a history in which a table has left its leaf, with the rows that it had
record HasLeft (h g : History) (name : List ℕ) (table : ℕ) : Type 0 where
  p : History
  is : g ≡ left_at name table p
  named : place_of name (table_names p) ≡ Some table
  same : rows table p ≡ rows table h

-- whether a copy of it is given up or not
has-left : (h : History) (name : List ℕ) (table : ℕ) → place_of name (table_names h) ≡ Some table → (o : Option ℕ)
    → HasLeft h (marked h (given_up table name o ++ noded (leaf_removed name) ∷ tabled (read_only table false) ∷ [])) name table
has-left h name table here None = record { p = h; is = refl; named = here; same = refl }
has-left h name table here (Some t) = record { p = noded (restarted name) ∷ ended (of_copy table) t false ∷ h; is = refl; named = here; same = refl }

pub tables_leave_with_their_rows : TablesLeaveWithTheirRows
tables_leave_with_their_rows calls in_form name table_name n leaf found leaf_is among = record {
  outcome = outcome;
  done = done;
  table = table;
  p = l.p;
  left = ap (λ q. history_in q d) now-is ∙ own ∙ l.is;
  named = l.named;
  same = l.same;
}
  where
    past : Past
    past = past_of calls

    w : World
    w = world_of past

    d : ℕ
    d = n.database

    h : History
    h = history_in past d

    t : IsOfferedTo past d leaf table_name
    t = offered-to calls in_form name n leaf table_name found leaf_is among

    table : ℕ
    table = t.offered.table

    outcome : WorldOutcome
    outcome = record { replies = Done ∷ []; facts = move_facts w t.provider.p d (in_hand d table_name) (leaves_leaf leaf table_name (w.hands d table_name)) }

    done : remove_table w name table_name ≡ Ok outcome
    done =
        ap (λ o. found_or o (NoNode name) >>= (λ m. refused_if (not (is_among table_name (tables_of m.node))) (NotInSet table_name)
        >> (found_or (place_of table_name (w.database m.database).part.tables) (NoTable table_name) >>= (λ k. removes_from w m.database k table_name m.node)))) found
        ∙ ap (λ b. refused_if (not b) (NotInSet table_name) >> (found_or (place_of table_name (w.database d).part.tables) (NoTable table_name) >>= (λ k. removes_from w d k table_name n.node))) among
        ∙ ap (λ o. found_or o (NoTable table_name) >>= (λ k. removes_from w d k table_name n.node)) t.offered.here
        ∙ ap (removes_from w d table table_name) leaf_is
        ∙ ap (λ c. c >>= (λ q. moves w q d (in_hand d table_name) (Ok (leaves_leaf leaf table_name (w.hands d table_name))))) t.found

    is_leaf : node h ≡ Some (of_leaf leaf)
    is_leaf = called-there w name n found ∙ ap Some leaf_is

    -- what is done in the provider's database
    there : List NodeCall
    there = lets_go_for (copy_in (w.hands d table_name)) ++ parts_for (Some (of_leaf leaf)) (option_map LeafTable.state (table_of table_name leaf))

    first : Past
    first = after_calls past t.provider.p there

    now-is : on_top past outcome.facts ≡ in_hand d table_name None ∷ called first d (removing table_name)
    now-is = on-move past t.provider.p d (in_hand d table_name) (leaves_leaf leaf table_name (w.hands d table_name))

    s : IsSource past d t.provider.p
    s = source-is past d t.provider.p leaf table_name is_leaf t.found

    own : history_in (called first d (removing table_name)) d ≡ marked h (given_up table table_name (copy_txid table (copies h)) ++ noded (leaf_removed table_name) ∷ tabled (read_only table false) ∷ [])
    own =
        history-called first d (removing table_name)
        ∙ ap (λ g. marked g (call_marks g (removing table_name))) (histories-elsewhere past t.provider.p there d s.other)
        ∙ ap (marked h) (removing-marks h table_name table (ap (λ m. is_among table_name (leaf_tables m)) is_leaf ∙ sym (ap (λ m. is_among table_name (tables_of m)) leaf_is) ∙ among) t.offered.here)

    l : HasLeft h (marked h (given_up table table_name (copy_txid table (copies h)) ++ noded (leaf_removed table_name) ∷ tabled (read_only table false) ∷ [])) table_name table
    l = has-left h table_name table t.offered.here (copy_txid table (copies h))
