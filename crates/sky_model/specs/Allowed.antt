-- Which statements a session may make in its state.
use Rattle.std.specs.Prelude.{Bool, true, false, Ok, Err}
use Rattle.sky_model.specs.declared.stmt.DbStmt.{DbStmt}
use Rattle.sky_model.specs.declared.stmt.RowStmt.{RowStmt}
use Rattle.sky_model.specs.declared.stmt.Where.{Where}
use Rattle.sky_model.specs.declared.stmt.Where.TheVariants.{Always, Anywhere, WhenOpen, WhenOutside}
use Rattle.sky_model.specs.declared.reply.Refusal.TheVariants.{Aborted, Busy, InTransaction, NotOpen}
use Rattle.sky_model.specs.Permits.{permit_of_row, permit_of}
use Rattle.sky_model.specs.Sessions.{Block, outside, inside, failed}
use Rattle.sky_model.specs.Outcome.{Checked}

-- where a statement on rows is allowed
abbrev pub where_of_row : RowStmt → Where
where_of_row stmt = (permit_of_row stmt).place

-- where a statement is allowed that a database runs by itself; one on nodes, and one on the daemon, is allowed outside blocks
abbrev pub where_of : DbStmt → Where
where_of stmt = (permit_of stmt).place

-- a statement, by where it is allowed, of a session that has the database open and doesn't wait
abbrev pub allowed_in : Block → Where → Checked (Unit {0})
allowed_in outside place = Ok tt
allowed_in inside WhenOutside = Err InTransaction
allowed_in inside _ = Ok tt
allowed_in failed Always = Ok tt
allowed_in failed Anywhere = Ok tt
allowed_in failed WhenOpen = Ok tt
allowed_in failed _ = Err Aborted

-- the same for a session that doesn't wait, and has the database open or hasn't
abbrev pub allowed_by : Bool → Block → Where → Checked (Unit {0})
allowed_by true block place = allowed_in block place
allowed_by false block Always = Ok tt
allowed_by false block Anywhere = Ok tt
allowed_by false block _ = Err NotOpen

-- the same for a session that waits or doesn't
abbrev pub allowed : (waits is_open : Bool) → Block → Where → Checked (Unit {0})
allowed false is_open block place = allowed_by is_open block place
allowed true is_open block Always = Ok tt
allowed true is_open block _ = Err Busy
