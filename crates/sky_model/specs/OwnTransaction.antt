-- The transaction of a statement: the one of its session's block, or one of its own.
use Rattle.std.specs.Prelude.{ℕ, ◌^◌, List, [], ◌∷◌, ◌++◌, true, Option, Some, None, nat_le, Ok}
use Rattle.sky_model.specs.declared.reply.Refusal.TheVariants.{TxidsSpent}
use Rattle.sky_model.specs.History.{Mark, of_session, began, ended}
use Rattle.sky_model.specs.Sessions.{Block, outside, Session}
use Rattle.sky_model.specs.State.{RowPart}
use Rattle.sky_model.specs.Outcome.{Checked, ◌>>◌, refused_if}

-- the next id, if there is one
abbrev pub next_id : RowPart → Checked ℕ
next_id d = do
  refused_if (nat_le (2 ^ 62) d.next) TxidsSpent
  Ok d.next

-- the id of a session's transaction: its own, or the next one
abbrev pub own_or_next : RowPart → Option ℕ → Checked ℕ
own_or_next d (Some t) = Ok t
own_or_next d None = next_id d

-- the same for a session
abbrev pub txid_for : RowPart → ℕ → Checked ℕ
txid_for d who = own_or_next d (d.session who).txid

-- a transaction gets its id at its first write
abbrev pub begin_of : ℕ → ℕ → Option ℕ → List Mark
begin_of who t None = began (of_session who) t ∷ []
begin_of who t (Some own) = []

-- outside a block a statement is a transaction of its own, which commits
abbrev pub commit_of : ℕ → ℕ → Block → List Mark
commit_of who t outside = ended (of_session who) t true ∷ []
commit_of who t _ = []

-- what a session writes, in its transaction with this id
abbrev pub in_own : ℕ → ℕ → Session → List Mark → List Mark
in_own who t s marks = begin_of who t s.txid ++ marks ++ commit_of who t s.block
