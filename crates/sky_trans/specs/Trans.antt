-- The transactions of a database that have begun.
use Rattle.std.specs.Prelude.{ℕ, ◌^◌, Bool, ◌&&◌, nat_le, List}
use Rattle.sky_txid.specs.Ids.{rises_within}

-- the next id, and the rising list of the running ids
pub record TransView : Type 0 where
  pub next : ℕ
  pub running : List ℕ

-- what is true of every such value: ids begin at 3, the last is 2 ^ 62 - 1, and the running ones were given
abbrev pub is_trans : TransView → Bool
is_trans trans = nat_le 3 trans.next && (nat_le trans.next (2 ^ 62) && rises_within 3 trans.next trans.running)
