-- What holds of each stored event holds of each that a batch lists, and of the one that is found.
use Rattle.std.proofs.Common.{◌≡◌, ℕ, Bool, ◌==◌, List, [], ◌∷◌, Option, Some, filter, sym, subst}
use Rattle.std.specs.Prelude.{find, IfSome}
use Rattle.std.specs.List.{All}
use Rattle.std.proofs.lemmas.Bool.{cond_both}
use Rattle.std.proofs.lemmas.List.Elements.{All-head, All-tail, All-filter, All-map}
use Rattle.sky_val.specs.declared.event.Event.{Event}
use Rattle.sky_txid.specs.Snapshot.{SnapshotView}
use Rattle.pgq_tables.specs.Tables.{Stored, Tables, by_age}
use Rattle.pgq_tables.specs.Listed.{is_listed, listed_in, listed}
use Rattle.pgq_batch.proofs.Sorted.{All-by_id}

-- what holds of each event holds of one that is found
pub found-all : (P : Event → Type 0) (p : Event → Bool) (es : List Event) → All P es → IfSome (find p es) P
found-all P p [] all = tt
found-all P p (e ∷ es) all = cond_both (p e) (Some e) (find p es) (λ o. IfSome o P) (λ _. All-head P e es all) (λ _. found-all P p es (All-tail P e es all))

-- what holds of each stored event holds of each that a batch lists
pub All-listed : (P : Event → Type 0) (from to : SnapshotView) (sub : ℕ) (ts : Tables) → All (λ s. P s.event) (by_age ts) → All P (listed from to sub ts)
All-listed P from to sub ts all = All-by_id P (listed_in from to sub ts) (All-map P Stored.event (filter (is_listed from to sub) (by_age ts)) (All-filter (is_listed from to sub) (λ s. P s.event) (by_age ts) all))

-- and what is found of them, if one is
pub found-listed : (P : Event → Type 0) (p : Event → Bool) (from to : SnapshotView) (sub : ℕ) (ts : Tables) → All (λ s. P s.event) (by_age ts) → IfSome (find p (listed from to sub ts)) P
found-listed P p from to sub ts all = found-all P p (listed from to sub ts) (All-listed P from to sub ts all)

-- as `select` and `find` answer
pub All-selected : (P : Event → Type 0) (from to : SnapshotView) (sub : ℕ) (ts : Tables) (es : List Event) → es ≡ listed from to sub ts → All (λ s. P s.event) (by_age ts) → All P es
All-selected P from to sub ts es is all = subst (All P) (sym is) (All-listed P from to sub ts all)

pub found-selected : (P : Event → Type 0) (from to : SnapshotView) (sub : ℕ) (ts : Tables) (id : ℕ) (found : Option Event) → found ≡ find (λ e. e.ev_id == id) (listed from to sub ts) → All (λ s. P s.event) (by_age ts) → IfSome found P
found-selected P from to sub ts id found is all = subst (λ o. IfSome o P) (sym is) (found-listed P (λ e. e.ev_id == id) from to sub ts all)
