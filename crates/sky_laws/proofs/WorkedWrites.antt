-- Who writes a key in a worked run, by computation: the law on the order of writes isn't vacuous.
use Rattle.sky_model.specs.Grammar.{on_rows}
use Rattle.std.proofs.Common.{◌≡◌, ℕ, pos, List, [], ◌∷◌, ◌++◌, Bool, true, false, refl, codes, map}
use Rattle.sky_val.specs.declared.val.Val.TheVariants as value
use Rattle.sky_val.specs.declared.column.ColKind.TheVariants as kind
use Rattle.sky_keys.specs.Waits.{is_waiting}
use Rattle.sky_txid.specs.Snapshot.{sees}
use Rattle.sky_model.specs.declared.stmt.Change.TheVariants.{To}
use Rattle.sky_model.specs.declared.stmt.RowStmt.{RowStmt}
use Rattle.sky_model.specs.declared.stmt.RowStmt.TheVariants.{OpenDb, Begin, Commit, Rollback, CreateTable, Insert, Update}
use Rattle.sky_model.specs.History.{History}
use Rattle.sky_model.specs.Transactions.{has_rolled_back, snapshot}
use Rattle.sky_model.specs.Rows.{committed}
use Rattle.sky_model.specs.Locks.{waiting}
use Rattle.sky_model.specs.World.{history_in}
use Rattle.sky_model.specs.Calls.{Call, past_of}
use Rattle.sky_model.specs.LawsOfWrites.{writers, is_before}

abbrev a : RowStmt → Call
a stmt = record { who = codes "a"; stmt = on_rows stmt }

abbrev b : RowStmt → Call
b stmt = record { who = codes "b"; stmt = on_rows stmt }

abbrev insert : ℕ → RowStmt
insert key = Insert (codes "t") (value.Int (pos key) ∷ value.Int (pos 0) ∷ [])

abbrev update : ℕ → ℕ → RowStmt
update key n = Update (codes "t") (value.Int (pos key) ∷ []) (record { column = codes "n"; change = To (value.Int (pos n)) } ∷ [])

-- transaction 3 inserts the key, 4 of `b` begins, 5 of `a` writes the key, and `b` waits for it; the last statement first
abbrev run : List Call
run = b (update 1 2) ∷ a (update 1 1) ∷ a Begin ∷ b (insert 2) ∷ b Begin ∷ b (OpenDb (codes "d")) ∷ a (insert 1)
    ∷ a (CreateTable (codes "t") (record { name = codes "id"; kind = kind.Int; key = true } ∷ record { name = codes "n"; kind = kind.Int; key = false } ∷ []))
    ∷ a (OpenDb (codes "d")) ∷ []

abbrev then : List Call → History
then calls = history_in (past_of (calls ++ run)) 0

abbrev written : List Call → List ℕ
written calls = writers 0 (value.Int (pos 1) ∷ []) (then calls)

abbrev seen : List Call → List Bool
seen calls = map (sees (snapshot (then calls))) (3 ∷ 4 ∷ 5 ∷ [])

it_waits : is_waiting 1 (waiting (then [])) ≡ true
it_waits = refl

-- once `a` commits, `b` writes the key: after 5, though its id is 4; had `a` rolled back, its write would nevertheless come first
behind : map written ([] ∷ (a Commit ∷ []) ∷ (b Commit ∷ a Rollback ∷ []) ∷ []) ≡ (3 ∷ 5 ∷ []) ∷ (3 ∷ 5 ∷ 4 ∷ []) ∷ (3 ∷ 5 ∷ 4 ∷ []) ∷ []
behind = refl

-- so they commit, or the one that doesn't roll back does
commits : map (λ calls. committed (then calls)) ((b Commit ∷ a Commit ∷ []) ∷ (b Commit ∷ a Rollback ∷ []) ∷ []) ≡ (3 ∷ 5 ∷ 4 ∷ []) ∷ (3 ∷ 4 ∷ []) ∷ []
commits = refl

one_order : is_before 5 4 (written (b Commit ∷ a Commit ∷ [])) ≡ true
one_order = refl

-- and snapshots see 5 first
seen_first : map seen ([] ∷ (a Commit ∷ []) ∷ (b Commit ∷ a Commit ∷ []) ∷ []) ≡ (true ∷ false ∷ false ∷ []) ∷ (true ∷ false ∷ true ∷ []) ∷ (true ∷ true ∷ true ∷ []) ∷ []
seen_first = refl

gone : has_rolled_back (then (b Commit ∷ a Rollback ∷ [])) 5 ≡ true
gone = refl
