-- Each table of a leaf is in the set of its provider, whose queue exists, with the same columns.
use Rattle.std.proofs.Common.{◌≡◌, ℕ, List, [], ◌∷◌, Bool, true, false, not, ◌&&◌, Option, Some, None, Ok, All, is_some, option_map, refl, sym, ap, ◌∙◌, if◌then◌else◌}
use Rattle.std.specs.Option.{option_and_then}
use Rattle.sky_val.specs.declared.column.Column.{Column}
use Rattle.sky_val.specs.declared.column.ColKind.{ColKind}
use Rattle.sky_val.specs.declared.column.ColKind.TheVariants as kind
use Rattle.sky_names.proofs.PlaceLemmas.{bytes_eq_refl}
use Rattle.londiste_state.specs.Nodes.{Node, of_root, of_leaf, Leaf, is_among, tables_of}
use Rattle.sky_model.specs.declared.reply.Refusal.TheVariants.{NotInSet, NotProvider, SchemaDiffers}
use Rattle.sky_model.specs.History.{Past}
use Rattle.sky_model.specs.Rows.{columns_of}
use Rattle.sky_model.specs.Nodes.{node, is_leaf, set_tables, leaf_tables}
use Rattle.sky_model.specs.Outcome.{◌>>=◌, ◌>>◌, refused_if, found_or}
use Rattle.sky_model.specs.StepNode.{set_queue}
use Rattle.sky_model.specs.NodesOfWorld.{Located, node_called, provides, same_kind, same_columns, columns_called}
use Rattle.sky_model.specs.WorkersOfWorld.{source, are_alike}
use Rattle.sky_model.specs.World.{World, world_of, history_in, nodes}
use Rattle.sky_model.specs.Steps.{IsCallInForm}
use Rattle.sky_model.specs.Calls.{Call, past_of}
use Rattle.sky_histories.proofs.NodeDeeds.{called-there}
use Rattle.sky_laws.proofs.NodeLaws.{sets_have_queues}
use Rattle.sky_histories.proofs.Histories.{world_place, legal_past}
use Rattle.sky_laws_replicas.specs.LawsOfReplicas.{LeafTablesAreProvided}
use Rattle.sky_laws_replicas.proofs.NodeNames.{provider_of, database_among, names_in, called-database}
use Rattle.sky_laws_replicas.proofs.ProvidedTables.{IsOffered, TablesOffered}
use Rattle.sky_laws_replicas.proofs.ProvidedCalls.{kept-provided}

-- columns are the same as themselves
same-key : (k : Bool) → (if k then k else not k) ≡ true
same-key true = refl
same-key false = refl

same-kinds : (k : ColKind) → same_kind k k ≡ true
same-kinds kind.Int = refl
same-kinds kind.Text = refl

same-itself : (cs : List Column) → same_columns cs cs ≡ true
same-itself [] = refl
same-itself (c ∷ cs) = λ i. ((bytes_eq_refl c.name i && same-kinds c.kind i) && same-key c.key i) && same-itself cs i

-- a leaf's table is offered by its provider
pub record IsOfferedTo (past : Past) (d : ℕ) (leaf : Leaf) (table : List ℕ) : Type 0 where
  pub provider : TablesOffered past d
  pub offered : IsOffered past d provider.p table
  pub found : source (world_of past) leaf table ≡ Ok provider.p

pub offered-to : (calls : List Call) → All IsCallInForm calls → (name : List ℕ) (n : Located) (leaf : Leaf) (table : List ℕ) → node_called (world_of (past_of calls)) name ≡ Some n → n.node ≡ of_leaf leaf
    → is_among table (tables_of n.node) ≡ true → IsOfferedTo (past_of calls) n.database leaf table
offered-to calls in_form name n leaf table called is among = record { provider = c; offered = o; found = at (node_called w leaf.provider) refl }
  where
    past : Past
    past = past_of calls

    w : World
    w = world_of past

    d : ℕ
    d = n.database

    stands : node (history_in past d) ≡ Some (of_leaf leaf)
    stands = called-there w name n called ∙ ap Some is

    c : TablesOffered past d
    c = (kept-provided calls (legal_past calls)).leaves d (ap is_leaf stands)

    o : IsOffered past d c.p table
    o = c.tables table (ap (λ k. is_among table (leaf_tables k)) stands ∙ sym (ap (λ k. is_among table (tables_of k)) is) ∙ among)

    -- the provider's database is the one of its name
    there : option_map Located.database (node_called w leaf.provider) ≡ Some c.p
    there = called-database past leaf.provider ∙ sym (ap (λ k. option_and_then (λ x. database_among (names_in past) x (nodes past)) (provider_of k)) stands) ∙ c.from

    has-queue : is_some (set_queue (w.database c.p)) ≡ true
    has-queue = sets_have_queues (history_in past c.p) (world_place calls c.p [] (history_in past c.p) in_form refl) c.root

    in-set : (m : Node) → is_among table (set_tables (Some m)) ≡ true → is_among table (tables_of m) ≡ true
    in-set (of_root r) e = e
    in-set (of_leaf l) e = absurd (cc e)

    queued : (q : Option ℕ) → is_some q ≡ true → (found_or q (NotProvider leaf.provider) >>= (λ queue. Ok c.p)) ≡ Ok c.p
    queued None e = absurd (cc e)
    queued (Some queue) e = refl

    at : (x : Option Located) → node_called w leaf.provider ≡ x
        → (found_or (provides table x) (NotInSet table) >>= (λ p. found_or (set_queue (w.database p)) (NotProvider leaf.provider) >>= (λ queue. Ok p))) ≡ Ok c.p
    at None found = absurd (cc (sym there ∙ ap (option_map Located.database) found))
    at (Some m) found =
        ap (λ b. found_or (if b then Some m.database else None) (NotInSet table) >>= (λ p. found_or (set_queue (w.database p)) (NotProvider leaf.provider) >>= (λ queue. Ok p))) has
        ∙ ap (λ p. found_or (set_queue (w.database p)) (NotProvider leaf.provider) >>= (λ queue. Ok p)) same ∙ queued (set_queue (w.database c.p)) has-queue
      where
        same : m.database ≡ c.p
        same = cc (sym (ap (option_map Located.database) found) ∙ there)

        has : is_among table (tables_of m.node) ≡ true
        has = in-set m.node (sym (ap (λ k. is_among table (set_tables k)) (called-there w leaf.provider m found)) ∙ ap (λ k. is_among table (set_tables (node (history_in past k)))) same ∙ o.among)

pub leaf_tables_are_provided : LeafTablesAreProvided
leaf_tables_are_provided calls in_form name n leaf table called is among =
    let t : IsOfferedTo (past_of calls) n.database leaf table = offered-to calls in_form name n leaf table called is among in
    let o : IsOffered (past_of calls) n.database t.provider.p table = t.offered in
    record {
      provider = t.provider.p;
      alike = ap (λ x. x >>= (λ p. refused_if (not (are_alike (columns_called table (w.database p)) (columns_called table (w.database n.database)))) (SchemaDiffers table) >> Ok p)) t.found
          ∙ ap (λ x. refused_if (not (are_alike (option_map (λ k. columns_of k (history_in (past_of calls) t.provider.p)) x) (columns_called table (w.database n.database)))) (SchemaDiffers table) >> Ok t.provider.p) o.there
          ∙ ap (λ x. refused_if (not (are_alike (Some (columns_of o.source (history_in (past_of calls) t.provider.p))) (option_map (λ k. columns_of k (history_in (past_of calls) n.database)) x))) (SchemaDiffers table) >> Ok t.provider.p) o.here
          ∙ ap (λ x. refused_if (not (same_columns (columns_of o.source (history_in (past_of calls) t.provider.p)) x)) (SchemaDiffers table) >> Ok t.provider.p) o.columns
          ∙ ap (λ b. refused_if (not b) (SchemaDiffers table) >> Ok t.provider.p) (same-itself (columns_of o.source (history_in (past_of calls) t.provider.p)));
    }
  where
    w : World
    w = world_of (past_of calls)
