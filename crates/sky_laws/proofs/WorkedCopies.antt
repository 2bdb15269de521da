-- Worked copies of a table from one database to another, move by move, by computation.
use Rattle.std.proofs.Common.{◌≡◌, ℕ, ◌^◌, pos, true, false, List, [], ◌∷◌, Option, Some, None, Ok, Err, Result, option_map, map, refl, codes}
use Rattle.sky_val.specs.declared.val.Val.{Val}
use Rattle.sky_val.specs.declared.val.Val.TheVariants as value
use Rattle.sky_val.specs.declared.column.ColKind.TheVariants as kind
use Rattle.londiste_state.specs.declared.state.TableState.TheVariants.{InCopy, CatchingUp}
use Rattle.londiste_state.specs.Nodes.{LeafTable}
use Rattle.sky_model.specs.declared.stmt.DbStmt.TheVariants.{Row}
use Rattle.sky_model.specs.declared.stmt.RowStmt.{RowStmt}
use Rattle.sky_model.specs.declared.stmt.RowStmt.TheVariants.{OpenDb, CreateTable, Insert, Delete}
use Rattle.sky_model.specs.declared.reply.Reply.{Reply}
use Rattle.sky_model.specs.declared.reply.Reply.TheVariants.{TableMoved, RowsCopied, AwaitsTable, Idle}
use Rattle.sky_model.specs.declared.reply.Refusal.{Refusal}
use Rattle.sky_model.specs.declared.reply.Refusal.TheVariants.{IdsSpent}
use Rattle.sky_model.specs.History.{History}
use Rattle.sky_model.specs.Copies.{holds, copies}
use Rattle.sky_model.specs.State.{database_of, part_of}
use Rattle.sky_model.specs.ShownRows.{snapshot_now}
use Rattle.sky_model.specs.Promises.{after_all}
use Rattle.sky_model.specs.DatabaseCalls.{DatabaseCall, stepped, served, database_part}
use Rattle.sky_model.specs.StepNode.{making_root, NodeCall, making_leaf, adding, moving, listing}
use Rattle.sky_model.specs.Hands.{Hand}
use Rattle.sky_model.specs.WorkerMoves.{Move}
use Rattle.sky_model.specs.CopyMoves.{copy_move, table_at, rows_from}

abbrev does : RowStmt → DatabaseCall
does statement = stepped 0 (Row statement) (pos 0)

abbrev row : ℕ → ℕ → List Val
row key n = value.Int (pos key) ∷ value.Int (pos n) ∷ []

abbrev insert : ℕ → ℕ → DatabaseCall
insert key n = does (Insert (codes "t") (row key n))

abbrev make_table : DatabaseCall
make_table = does (CreateTable (codes "t") (record { name = codes "id"; kind = kind.Int; key = true } ∷ record { name = codes "n"; kind = kind.Int; key = false } ∷ []))

-- a root's database with a table of three rows, and a leaf's with one of two; the last call first
abbrev provider : List DatabaseCall
provider = served (listing (codes "t")) ∷ insert 3 30 ∷ insert 1 10 ∷ insert 2 20 ∷ served (making_root (codes "root") (codes "q") (pos 0)) ∷ make_table ∷ does (OpenDb (codes "p")) ∷ []

abbrev bare : List DatabaseCall
bare = served (adding (codes "t")) ∷ served (making_leaf (codes "leaf") (codes "root") 1) ∷ insert 7 70 ∷ insert 1 11 ∷ make_table ∷ does (OpenDb (codes "r")) ∷ []

abbrev replica : List DatabaseCall
replica = served (moving (codes "t") InCopy) ∷ bare

abbrev after : List DatabaseCall → History
after calls = after_all database_part calls

-- calls for nodes, one after another
abbrev and_then : List DatabaseCall → List NodeCall → List DatabaseCall
and_then calls [] = calls
and_then calls (call ∷ rest) = and_then (served call ∷ calls) rest

abbrev moves : (p r : List DatabaseCall) → Option Hand → Result (Move Hand) Refusal
moves p r hand = copy_move (database_of (after p)) (database_of (after r)) (codes "t") hand

-- the databases and the hand after a move, and what it printed
pub record Moved : Type 0 where
  p : List DatabaseCall
  r : List DatabaseCall
  printed : List Reply
  hand : Option Hand

abbrev moved : (p r : List DatabaseCall) → Result (Move Hand) Refusal → Moved
moved p r (Ok m) = record { p = and_then p m.provider; r = and_then r m.replica; printed = m.replies; hand = m.hand }
moved p r (Err refusal) = record { p = p; r = r; printed = []; hand = None }

abbrev once : Moved
once = moved provider replica (moves provider replica None)

-- a table with fewer rows than a piece has is copied by one move
copied_at_once : once.printed ≡ RowsCopied 3 ∷ TableMoved (codes "t") CatchingUp ∷ []
copied_at_once = refl

-- nothing is held any more, and no copy runs
at_rest : (holds (after once.p) ≡ []) × (copies (after once.r) ≡ []) × (once.hand ≡ None)
at_rest = (refl, refl, refl)

state_then : option_map LeafTable.state (table_at (codes "t") (database_of (after once.r)).node) ≡ Some CatchingUp
state_then = refl

-- before it is to be copied, the worker waits; once it has copied all, it is idle until there is a batch
waits : map (λ r. (moved once.p r (moves once.p r None)).printed) (bare ∷ once.r ∷ []) ≡ (AwaitsTable (codes "t") ∷ []) ∷ (Idle ∷ []) ∷ []
waits = refl

-- the next piece begins above the last one's last key, and is read as the table was when the copy began
abbrev later : History
later = after (does (Delete (codes "t") (value.Int (pos 3) ∷ [])) ∷ insert 0 0 ∷ provider)

pieces : map (λ last. rows_from (database_of later) (codes "t") (snapshot_now (part_of (after provider))) last 2) (None ∷ Some (value.Int (pos 2) ∷ []) ∷ [])
    ≡ ((value.Int (pos 1) ∷ [], row 1 10) ∷ (value.Int (pos 2) ∷ [], row 2 20) ∷ []) ∷ ((value.Int (pos 3) ∷ [], row 3 30) ∷ []) ∷ []
pieces = refl

-- what can't begin changes nothing
unmoved : copy_move (record (database_of (after provider)) { last_sub_id = 2 ^ 64 }) (database_of (after replica)) (codes "t") None ≡ Err IdsSpent
unmoved = refl
