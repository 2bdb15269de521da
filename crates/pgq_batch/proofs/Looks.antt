-- How looks are counted, and what one at an index by transaction tells.
use Rattle.std.proofs.Common.{◌≡◌, ℕ, ◌+◌, ◌-◌, ◌^◌, ◌/◌, ◌<◌, ◌≤◌, zero, suc, Bool, List, [], ◌∷◌, Some, length, filter, get_or, slice_get, nat_lt, sym, ap, subst, ◌∙◌, arith}
use Rattle.std.proofs.lemmas.Bool.{cond_both}
use Rattle.pgq_tables.specs.Tables.{Stored}
use Rattle.pgq_tables.specs.Order.{by_txid}
use Rattle.pgq_tables.specs.Views.{so_many_more}
use Rattle.pgq_batch.specs.Bound.{digits}
use Rattle.pgq_batch.specs.Looked.{count_below}
use Rattle.pgq_batch.proofs.Digits.{digits-half}
use Rattle.pgq_batch.proofs.Keyed.{first_below}
use Rattle.pgq_batch.proofs.ByTxid.{txid_of, Rises-by_txid, length-by_txid, passing-by_txid}

-- so many looks at once
pub so_many-upper : (many reads : ℕ) → so_many_more many reads ≤ reads + many
so_many-upper many reads = omega arith

pub so_many-lower : (many reads : ℕ) → reads ≤ so_many_more many reads
so_many-lower many reads = omega arith

pub so_many-counts : (many reads : ℕ) → so_many_more many reads < 2 ^ 64 - 1 → reads + many ≤ so_many_more many reads
so_many-counts many reads less = omega arith

-- what is got is there
pub got : {X : Type 0} (xs : List X) (i : ℕ) (x d : X) → slice_get xs i ≡ Some x → get_or xs i d ≡ x
got [] i x d is = let clash = is in cc
got (y ∷ ys) zero x d is = cc
got (y ∷ ys) (suc i) x d is = got ys i x d is

-- by transaction, one is below a number if it is one of the first so many, as many as are below
pub is_below : (list : List Stored) (txid i : ℕ) (x : ℕ × Stored) → i < length list → slice_get (by_txid list) i ≡ Some x
    → nat_lt x.1.event.ev_txid txid ≡ nat_lt i (count_below txid list)
is_below list txid i x within is =
    ap (λ y. nat_lt (txid_of y) txid) (sym (got (by_txid list) i x x is))
    ∙ first_below txid_of 0 txid i (by_txid list) x (Rises-by_txid list) (subst (λ n. i < n) (sym (length-by_txid list)) within)
    ∙ ap (nat_lt i) (passing-by_txid (λ s. nat_lt s.event.ev_txid txid) list)

-- a look leaves one of the halves, and one digit less
pub upper_half : (low high reads most : ℕ) → low < high → reads + digits (high - low) ≤ most → so_many_more 1 reads + digits (high - (low + (high - low) / 2 + 1)) ≤ most
upper_half low high reads most some enough =
    let left : high - (low + (high - low) / 2 + 1) ≤ (high - low) / 2 = omega arith in
    let less = digits-half (high - (low + (high - low) / 2 + 1)) (high - low) (omega arith) left in
    let up = so_many-upper 1 reads in
    omega arith

pub lower_half : (low high reads most : ℕ) → low < high → reads + digits (high - low) ≤ most → so_many_more 1 reads + digits (low + (high - low) / 2 - low) ≤ most
lower_half low high reads most some enough =
    let left : low + (high - low) / 2 - low ≤ (high - low) / 2 = omega arith in
    let less = digits-half (low + (high - low) / 2 - low) (high - low) (omega arith) left in
    let up = so_many-upper 1 reads in
    omega arith

pub no_less : (before reads : ℕ) → before ≤ reads → before ≤ so_many_more 1 reads
no_less before reads le = let down = so_many-lower 1 reads in omega arith

pub below_all : (q : Stored → Bool) (list : List Stored) → length (filter q list) ≤ length list
below_all q [] = omega arith
below_all q (s ∷ ss) = let ih = below_all q ss in cond_both (q s) (s ∷ filter q ss) (filter q ss) (λ zs. length zs ≤ suc (length ss)) (λ _. omega arith) (λ _. omega arith)
