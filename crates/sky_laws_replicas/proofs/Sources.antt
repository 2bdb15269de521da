-- The database from which a table of a leaf is copied, as a statement finds it.
use Rattle.std.proofs.Common.{◌≡◌, ℕ, ◌==◌, List, true, false, not, Option, Some, None, Ok, Err, option_map, refl, sym, ap, subst, ◌∙◌, if◌then◌else◌}
use Rattle.std.specs.Option.{option_and_then}
use Rattle.sky_names.specs.Places.{place_of}
use Rattle.londiste_state.specs.Nodes.{Node, of_root, of_leaf, Leaf, is_among, tables_of}
use Rattle.sky_model.specs.declared.reply.Refusal.TheVariants.{NotInSet, NotProvider, SchemaDiffers}
use Rattle.sky_model.specs.History.{History, Past}
use Rattle.sky_model.specs.Rows.{table_names, columns_of}
use Rattle.sky_model.specs.Nodes.{node, is_root}
use Rattle.sky_model.specs.State.{Database}
use Rattle.sky_model.specs.Outcome.{Checked, ◌>>=◌, ◌>>◌, refused_if, found_or}
use Rattle.sky_model.specs.StepNode.{set_queue, set_queue_of}
use Rattle.sky_model.specs.NodesOfWorld.{Located, node_called, provides, columns_called}
use Rattle.sky_model.specs.WorkersOfWorld.{source, are_alike, source_alike}
use Rattle.sky_model.specs.World.{World, world_of, history_in, nodes}
use Rattle.sky_model.proofs.Cases.{by_test, by_same}
use Rattle.sky_laws_replicas.proofs.NodeNames.{provider_of, database_among, names_in, source_of, called-database}
use Rattle.sky_laws_replicas.proofs.FittingRows.{same-columns}

-- it is that of the leaf's provider, and another one
pub record IsSource (past : Past) (d p : ℕ) : Type 0 where
  pub from : source_of past d ≡ Some p
  pub other : (p == d) ≡ false

pub root-has : (d : Database) (n : Option Node) (queue : ℕ) → set_queue_of d n ≡ Some queue → is_root n ≡ true
root-has d None queue is = absurd (cc is)
root-has d (Some (of_leaf l)) queue is = absurd (cc is)
root-has d (Some (of_root r)) queue is = refl

pub source-is : (past : Past) (d p : ℕ) (l : Leaf) (name : List ℕ) → node (history_in past d) ≡ Some (of_leaf l) → source (world_of past) l name ≡ Ok p → IsSource past d p
source-is past d p l name leaf is = of (node_called (world_of past) l.provider) refl is
  where
    w : World
    w = world_of past

    at : (n : Located) → node_called w l.provider ≡ Some n → (o : Option ℕ) → set_queue (w.database n.database) ≡ o
        → (found_or o (NotProvider l.provider) >>= (λ queue. Ok n.database)) ≡ Ok p → IsSource past d p
    at n found None set e = absurd (cc e)
    at n found (Some queue) set e =
        let same : n.database ≡ p = cc e in
        record {
          from = ap (λ o. option_and_then (λ provider. database_among (names_in past) provider (nodes past)) (provider_of o)) leaf
              ∙ sym (called-database past l.provider) ∙ ap (option_map Located.database) found ∙ ap Some same;
          other = by_same (λ b. b ≡ false) p d
              (λ one. absurd (cc (sym (root-has (w.database n.database) (w.database n.database).node queue set) ∙ ap (λ k. is_root (node (history_in past k))) (same ∙ one) ∙ ap is_root leaf)))
              (λ _. refl);
        }

    of : (o : Option Located) → node_called w l.provider ≡ o
        → (found_or (provides name o) (NotInSet name) >>= (λ q. found_or (set_queue (w.database q)) (NotProvider l.provider) >>= (λ queue. Ok q))) ≡ Ok p → IsSource past d p
    of None found e = absurd (cc e)
    of (Some n) found e =
        by_test (λ b. (found_or (if b then Some n.database else None) (NotInSet name) >>= (λ q. found_or (set_queue (w.database q)) (NotProvider l.provider) >>= (λ queue. Ok q))) ≡ Ok p → IsSource past d p)
        (is_among name (tables_of n.node)) (λ _ there. at n found (set_queue (w.database n.database)) refl there) (λ _ none. absurd (cc none)) e

-- both have the table, with the same columns
pub record IsAlike (past : Past) (d p : ℕ) (name : List ℕ) : Type 0 where
  pub source : IsSource past d p
  pub number : ℕ
  pub there : place_of name (table_names (history_in past p)) ≡ Some number
  pub table : ℕ
  pub here : place_of name (table_names (history_in past d)) ≡ Some table
  pub columns : columns_of table (history_in past d) ≡ columns_of number (history_in past p)

pub alike-is : (past : Past) (d p : ℕ) (l : Leaf) (name : List ℕ) → node (history_in past d) ≡ Some (of_leaf l) → source_alike (world_of past) d l name ≡ Ok p → IsAlike past d p name
alike-is past d p l name leaf is = of (source (world_of past) l name) refl is
  where
    w : World
    w = world_of past

    columns-at : (h g : History) (a b : Option ℕ) → place_of name (table_names h) ≡ a → place_of name (table_names g) ≡ b → (q : ℕ) → IsSource past d q
        → are_alike (option_map (λ t. columns_of t h) a) (option_map (λ t. columns_of t g) b) ≡ true → h ≡ history_in past q → g ≡ history_in past d → IsAlike past d q name
    columns-at h g None b there here q s alike one two = absurd (cc alike)
    columns-at h g (Some m) None there here q s alike one two = absurd (cc alike)
    columns-at h g (Some m) (Some n) there here q s alike one two = record {
      source = s;
      number = m;
      there = ap (λ x. place_of name (table_names x)) (sym one) ∙ there;
      table = n;
      here = ap (λ x. place_of name (table_names x)) (sym two) ∙ here;
      columns = ap (columns_of n) (sym two) ∙ sym (same-columns (columns_of m h) (columns_of n g) alike) ∙ ap (columns_of m) one;
    }

    of : (c : Checked ℕ) → source w l name ≡ c
        → (c >>= (λ q. refused_if (not (are_alike (columns_called name (w.database q)) (columns_called name (w.database d)))) (SchemaDiffers name) >> Ok q)) ≡ Ok p → IsAlike past d p name
    of (Err refusal) found e = absurd (cc e)
    of (Ok q) found e =
        by_test (λ b. are_alike (columns_called name (w.database q)) (columns_called name (w.database d)) ≡ b → (refused_if (not b) (SchemaDiffers name) >> Ok q) ≡ Ok p → IsAlike past d p name)
        (are_alike (columns_called name (w.database q)) (columns_called name (w.database d)))
        (λ _ alike same. let one : q ≡ p = cc same in
        subst (λ k. IsAlike past d k name) one
        (columns-at (history_in past q) (history_in past d) (place_of name (table_names (history_in past q))) (place_of name (table_names (history_in past d))) refl refl q (source-is past d q l name leaf found) alike refl refl))
        (λ _ _ none. absurd (cc none)) refl e
