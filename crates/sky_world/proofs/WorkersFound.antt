-- The statements on the workers of leaves, by the leaf and the database that they find.
use Rattle.std.proofs.Common.{◌≡◌, ℕ, List, [], ◌∷◌, Bool, true, false, not, ◌&&◌, bytes_eq, Option, Some, None, Ok, refl, ◌∙◌, ap, if◌then◌else◌}
use Rattle.std.proofs.lemmas.Bool.{and_parts}
use Rattle.sky_val.specs.declared.column.Column.{Column}
use Rattle.sky_val.specs.declared.column.ColKind.{ColKind}
use Rattle.sky_val.specs.declared.column.ColKind.TheVariants as kind
use Rattle.sky_names.proofs.PlaceLemmas.{same_name}
use Rattle.londiste_state.specs.Nodes.{Node, of_root, of_leaf, Leaf, is_among, tables_of}
use Rattle.sky_model.specs.declared.reply.Reply.TheVariants.{Done}
use Rattle.sky_model.specs.declared.reply.Refusal.TheVariants.{NoNode, NotInSet}
use Rattle.sky_model.specs.History.{in_hand, batch_in_hand}
use Rattle.sky_model.specs.Outcome.{Checked, ◌>>=◌, ◌>>◌, found_or, refused_if}
use Rattle.sky_model.specs.NodesOfWorld.{WorldOutcome, Located, node_called, same_kind, same_column, same_columns, columns_called}
use Rattle.sky_model.specs.Nodes.{leaf_tables}
use Rattle.sky_model.specs.State.{Database}
use Rattle.sky_model.specs.World.{World}
use Rattle.londiste_copy.specs.Copying.{SameTable}
use Rattle.sky_model.specs.WorkersOfWorld.{leaf_table, source, source_alike, are_alike, moves, copy_step, restarts, restart, restart_table, restarting}
use Rattle.sky_world.specs.Views.{StateView}
use Rattle.sky_world.specs.Seen.{seen_state}
use Rattle.sky_world.specs.Nodes.{Happened, Does}
use Rattle.sky_world.specs.Workers.{AreAlike, if_leaf, leaf_called, leaf_with, copies}

-- ---- by the leaf

in-leaf : {A : Type 0} (w : World) (name : List ℕ) (each : ℕ → Node → Checked A) (rest : ℕ → Leaf → Checked A) → ((d : ℕ) (n : Node) → each d n ≡ (if_leaf name d n >>= (λ x. rest x.0 x.1)))
    → (found_or (node_called w name) (NoNode name) >>= (λ n. each n.database n.node)) ≡ (leaf_called w name >>= (λ x. rest x.0 x.1))
in-leaf w name each rest same = by (node_called w name)
  where
    by : (o : Option Located) → (found_or o (NoNode name) >>= (λ n. each n.database n.node)) ≡ ((found_or o (NoNode name) >>= (λ n. if_leaf name n.database n.node)) >>= (λ x. rest x.0 x.1))
    by None = refl
    by (Some n) = same n.database n.node

abbrev located : ℕ → Leaf → Checked (ℕ × Leaf)
located d l = Ok (d, l)

with-leaf : {A : Type 0} (w : World) (name table : List ℕ) (rest : ℕ → Leaf → Checked A)
    → (found_or (node_called w name) (NoNode name) >>= (λ n. leaf_table name table n.node >>= (λ l. rest n.database l))) ≡ (leaf_with w name table >>= (λ x. rest x.0 x.1))
with-leaf w name table rest = by (node_called w name)
  where
    of : (d : ℕ) (l : Leaf) (b : Bool) → ((refused_if b (NotInSet table) >> Ok l) >>= (λ m. rest d m)) ≡ ((refused_if b (NotInSet table) >> located d l) >>= (λ x. rest x.0 x.1))
    of d l true = refl
    of d l false = refl

    in-node : (d : ℕ) (n : Node) → (leaf_table name table n >>= (λ l. rest d l))
        ≡ ((if_leaf name d n >>= (λ x. refused_if (not (is_among table (tables_of (of_leaf x.1)))) (NotInSet table) >> Ok x)) >>= (λ x. rest x.0 x.1))
    in-node d (of_root r) = refl
    in-node d (of_leaf l) = of d l (not (is_among table (tables_of (of_leaf l))))

    by : (o : Option Located) → (found_or o (NoNode name) >>= (λ n. leaf_table name table n.node >>= (λ l. rest n.database l)))
        ≡ (((found_or o (NoNode name) >>= (λ n. if_leaf name n.database n.node)) >>= (λ x. refused_if (not (is_among table (tables_of (of_leaf x.1)))) (NotInSet table) >> Ok x)) >>= (λ x. rest x.0 x.1))
    by None = refl
    by (Some n) = in-node n.database n.node

-- `copy_step`
abbrev copies_from : World → List ℕ → ℕ → Leaf → Checked WorldOutcome
copies_from w table d l = source_alike w d l table >>= (λ p. copies w p d table)

pub copy-by_leaf : (w : World) (name table : List ℕ) → copy_step w name table ≡ (leaf_with w name table >>= (λ x. source_alike w x.0 x.1 table >>= (λ p. copies w p x.0 table)))
copy-by_leaf w name table = with-leaf w name table (copies_from w table)

pub copy-by_source : (w : World) (name table : List ℕ) (d : ℕ) (l : Leaf) → leaf_with w name table ≡ Ok (d, l) → copy_step w name table ≡ (source_alike w d l table >>= (λ p. copies w p d table))
copy-by_source w name table d l is = copy-by_leaf w name table ∙ ap (λ c. c >>= (λ x. copies_from w table x.0 x.1)) is

pub copy-goes : (w : World) (name table : List ℕ) (d p : ℕ) (l : Leaf) → leaf_with w name table ≡ Ok (d, l) → source_alike w d l table ≡ Ok p → copy_step w name table ≡ copies w p d table
copy-goes w name table d p l is from = copy-by_source w name table d l is ∙ ap (λ c. c >>= (λ q. copies w q d table)) from

-- `restart` of a table
abbrev restarts_from : World → List ℕ → ℕ → Leaf → Checked WorldOutcome
restarts_from w table d l = source w l table >>= (λ p. moves w p d (in_hand d table) (Ok (restarting table (w.hands d table))))

pub restart-by_leaf : (w : World) (name table : List ℕ) → restart_table w name table ≡ (leaf_with w name table >>= (λ x. source w x.1 table >>= (λ p. moves w p x.0 (in_hand x.0 table) (Ok (restarting table (w.hands x.0 table))))))
restart-by_leaf w name table = with-leaf w name table (restarts_from w table)

-- `restart` of a leaf
abbrev batch_lost : ℕ → WorldOutcome
batch_lost d = record { replies = Done ∷ []; facts = batch_in_hand d None ∷ [] }

pub restarts-by_leaf : (w : World) (name : List ℕ) → restart w name ≡ (leaf_called w name >>= (λ x. Ok (record { replies = Done ∷ []; facts = batch_in_hand x.0 None ∷ [] })))
restarts-by_leaf w name = in-leaf w name (λ d n. restarts d name n) (λ d l. Ok (batch_lost d)) each
  where
    each : (d : ℕ) (n : Node) → restarts d name n ≡ (if_leaf name d n >>= (λ x. Ok (batch_lost x.0)))
    each d (of_root r) = refl
    each d (of_leaf l) = refl

module _ {D : Type 0} {seen : D → Database} where
  pub restarted : (old new : StateView D) (name : List ℕ) (d : ℕ) (l : Leaf) → leaf_called (seen_state seen old) name ≡ Ok (d, l) → Happened seen old new (batch_in_hand d None ∷ []) → Does seen old new Done (restart (seen_state seen old) name)
  restarted old new name d l is happened = record {
    facts = batch_in_hand d None ∷ [];
    outcome = restarts-by_leaf (seen_state seen old) name ∙ ap (λ c. c >>= (λ x. Ok (batch_lost x.0))) is;
    moments = tt;
    happened = happened;
  }

-- ---- columns that are the same

same-kinds : (k l : ColKind) → same_kind k l ≡ true → k ≡ l
same-kinds kind.Int kind.Int is = refl
same-kinds kind.Text kind.Text is = refl
same-kinds kind.Int kind.Text is = absurd (cc)
same-kinds kind.Text kind.Int is = absurd (cc)

same-keys : (b c : Bool) → (if b then c else not c) ≡ true → b ≡ c
same-keys true true is = refl
same-keys false false is = refl
same-keys true false is = absurd (cc)
same-keys false true is = absurd (cc)

same-one : (c e : Column) → same_column c e ≡ true → c ≡ e
same-one c e is =
    let both = and_parts (bytes_eq c.name e.name && same_kind c.kind e.kind) (if c.key then e.key else not e.key) is in
    let first = and_parts (bytes_eq c.name e.name) (same_kind c.kind e.kind) both.0 in
    (λ i. record { name = same_name c.name e.name first.0 i; kind = same-kinds c.kind e.kind first.1 i; key = same-keys c.key e.key both.1 i })

same-all : (cs es : List Column) → same_columns cs es ≡ true → cs ≡ es
same-all [] [] is = refl
same-all (c ∷ cs) (e ∷ es) is = let both = and_parts (same_column c e) (same_columns cs es) is in (λ i. same-one c e both.0 i ∷ same-all cs es both.1 i)
same-all [] (e ∷ es) is = absurd (cc)
same-all (c ∷ cs) [] is = absurd (cc)

-- two databases have a table, with the same columns
pub same-table : (p r : Database) (table : List ℕ) (l : Leaf) → r.node ≡ Some (of_leaf l) → is_among table (tables_of (of_leaf l)) ≡ true → (numbers : ℕ × ℕ) → AreAlike p r table numbers
    → SameTable p r table numbers.0 numbers.1
same-table p r table l node among numbers alike = record {
  joined = ap (λ n. is_among table (leaf_tables n)) node ∙ among;
  there = alike.there;
  here = alike.here;
  columns = columns (columns_called table p) (columns_called table r) alike.columns;
}
  where
    columns : (a b : Option (List Column)) → are_alike a b ≡ true → a ≡ b
    columns None b is = absurd (cc)
    columns (Some cs) None is = absurd (cc)
    columns (Some cs) (Some es) is = ap Some (same-all cs es is)
