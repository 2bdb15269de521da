-- What a snapshot covers, by the ids that it doesn't see.
use Rattle.std.proofs.Common.{◌≡◌, ℕ, ◌<◌, ◌≤◌, true, false, length, get_or, sym, ◌∙◌, ap, inl, inr}
use Rattle.std.proofs.lemmas.Bool.{false≢true, cases_lt}
use Rattle.sky_txid.specs.Snapshot.{SnapshotView, is_snapshot, sees, Covers}
use Rattle.sky_txid.proofs.Seen.{seen, seen_from}
use Rattle.sky_txid.proofs.Rising.{contains-get_or, contains_none}

-- if the other snapshot sees none of them
pub covers_from : (a b : SnapshotView) → is_snapshot b ≡ true → ((k : ℕ) → k < length a.xip → sees b (get_or a.xip k 0) ≡ false) → ((t : ℕ) → a.xmax ≤ t → t < b.xmax → sees b t ≡ false) → Covers a b
covers_from a b is_sound listed later t h = elim (cases_lt t a.xmax) [
  | inl below ↦ seen_from a t below (contains_none t a.xip (λ k within is. false≢true (sym (listed k within) ∙ ap (sees b) is ∙ h)))
  | inr above ↦ absurd (false≢true (sym (later t above (seen b t is_sound h).below) ∙ h))
]

-- and if it sees one
pub not_listed : (a b : SnapshotView) (k : ℕ) → is_snapshot a ≡ true → k < length a.xip → sees b (get_or a.xip k 0) ≡ true → Covers a b → ⊥
not_listed a b k is_sound within h covers =
    false≢true (sym (seen a (get_or a.xip k 0) is_sound (covers (get_or a.xip k 0) h)).absent ∙ contains-get_or a.xip k within)
