-- The order of the keys of all tables.
use Rattle.std.specs.Ordering.{nat_cmp, ordering_then}
use Rattle.std.specs.declared.cmp.Ordering.{Ordering}
use Rattle.sky_val.specs.Order.{key_cmp}
use Rattle.sky_lock_table.specs.declared.lock_key.LockKey.{LockKey}

-- by table, and then by key
abbrev pub lock_cmp : LockKey → LockKey → Ordering
lock_cmp x y = ordering_then (nat_cmp x.table y.table) (key_cmp x.key y.key)
