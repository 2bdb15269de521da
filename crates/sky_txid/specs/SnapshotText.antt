-- How a snapshot is written and read: `xmin:xmax:list`, in decimal, the list separated by commas.
use Rattle.std.specs.Prelude.{ℕ, ◌^◌, ◌&&◌, ◌==◌, nat_lt, nat_eq, if◌then◌else◌, List, [], ◌∷◌, ◌++◌, map, length, Option, Some, None, option_and_then}
use Rattle.std.specs.Fmt.{decimal}
use Rattle.std.specs.List.{join_with_byte, slice_split, dedup}
use Rattle.std.specs.Str.{all_ascii_digits}
use Rattle.std.specs.Str.Parse.{digits_value}
use Rattle.sky_txid.specs.Snapshot.{SnapshotView, is_snapshot}

infixl 10 ◌>>=◌
abbrev ◌>>=◌ : {A B : Type 0} → Option A → (A → Option B) → Option B
o >>= f = option_and_then f o

-- `b':'`
abbrev pub colon : ℕ
colon = 58

-- `b','`
abbrev pub comma : ℕ
comma = 44

-- the text of a snapshot
abbrev pub snapshot_text : SnapshotView → List ℕ
snapshot_text s = decimal s.xmin ++ (colon ∷ decimal s.xmax ++ (colon ∷ join_with_byte comma (map decimal s.xip)))

-- the number that one or more digits write, leading zeros among them, if it is below 2 ^ 64
abbrev pub parse_number : List ℕ → Option ℕ
parse_number digits =
    if nat_lt 0 (length digits) && (all_ascii_digits digits && nat_lt (digits_value 10 digits) (2 ^ 64)) then Some (digits_value 10 digits) else None

-- the numbers that pieces of a text write
abbrev pub parse_numbers : List (List ℕ) → Option (List ℕ)
parse_numbers [] = Some []
parse_numbers (piece ∷ pieces) = do
  n ← parse_number piece
  ns ← parse_numbers pieces
  Some (n ∷ ns)

-- the parts of a text before, between and after the places of a byte
abbrev pub parts_at : ℕ → List ℕ → List (List ℕ)
parts_at byte text = slice_split (λ b. b == byte) text

-- the numbers between commas; none in an empty text
abbrev pub parse_list : List ℕ → Option (List ℕ)
parse_list [] = Some []
parse_list (byte ∷ text) = parse_numbers (parts_at comma (byte ∷ text))

-- a snapshot, if these are the parts of one; an item that equals the one before it is skipped
abbrev pub checked : ℕ → ℕ → List ℕ → Option SnapshotView
checked xmin xmax items =
    let s : SnapshotView = record { xmin = xmin; xmax = xmax; xip = dedup nat_eq items } in
    if is_snapshot s then Some s else None

-- the snapshot that three parts write
abbrev pub parse_parts : List (List ℕ) → Option SnapshotView
parse_parts (least ∷ next ∷ list ∷ []) = do
  xmin ← parse_number least
  xmax ← parse_number next
  items ← parse_list list
  checked xmin xmax items
parse_parts _ = None

-- the snapshot that a text writes
abbrev pub parse_snapshot : List ℕ → Option SnapshotView
parse_snapshot text = parse_parts (parts_at colon text)
