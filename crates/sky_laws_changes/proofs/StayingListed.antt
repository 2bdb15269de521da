-- A table stays in a set until it is taken out.
use Rattle.std.proofs.Common.{◌≡◌, inl, inr, ℕ, true, false, not, ◌||◌, List, [], ◌∷◌, ◌++◌, Some, All, bytes_eq, refl, sym, ◌∙◌, ap, subst, arith, if◌then◌else◌}
use Rattle.std.proofs.lemmas.List.Elements.{All-head, All-tail}
use Rattle.sky_names.proofs.PlaceLemmas.{same_name}
use Rattle.londiste_state.specs.Nodes.{is_among, all_but}
use Rattle.sky_model.specs.History.{Mark, NodeMark, noded, root_made, set_added, set_removed, leaf_made, History}
use Rattle.sky_model.specs.Nodes.{after_node, node, set_tables}
use Rattle.sky_model.specs.State.{database_of}
use Rattle.sky_histories.proofs.Legal.{Fine, NodeFits, Legal, legal-below_mark, fine_mark}
use Rattle.sky_histories.proofs.NodeReadings.{set-number, set-listed, set-unlisted}
use Rattle.sky_histories.proofs.SnapshotLaws.{legal_place}
use Rattle.sky_histories.proofs.RowSights.{Since, here, later}
use Rattle.sky_model.proofs.Cases.{by_test}
use Rattle.sky_laws_changes.specs.Listing.{IsListed, is_unlisting}
use Rattle.sky_laws_changes.specs.LawsOfChanges.{TablesStayInSets}
use Rattle.sky_laws_changes.proofs.Places.{since-or, from-below, one-place}
use Rattle.sky_laws_changes.proofs.SetTriggers.{queue_at, KeepsSet, keeps-set, set-same}
use Rattle.sky_laws_changes.proofs.ListedTables.{fits-of}
use Rattle.sky_laws_changes.proofs.Replays.{root-of}

among-push : (name : List ℕ) (names : List (List ℕ)) (last : List ℕ) → is_among name names ≡ true → is_among name (names ++ last ∷ []) ≡ true
among-push name [] last is = absurd (cc)
among-push name (x ∷ names) last is = grind (arith, among-push name names last, is)

among-but : (name other : List ℕ) (names : List (List ℕ)) → bytes_eq name other ≡ false → is_among name names ≡ true → is_among name (all_but other names) ≡ true
among-but name other [] apart is = absurd (cc)
among-but name other (x ∷ names) apart is =
    by_test (λ b. bytes_eq other x ≡ b → is_among name (if not b then x ∷ all_but other names else all_but other names) ≡ true) (bytes_eq other x)
    (λ _ same. among-but name other names apart (sym (ap (λ b. b || is_among name names) (ap (bytes_eq name) (sym (same_name other x same)) ∙ apart)) ∙ is)) (λ _ _. grind (arith, among-but name other names apart, is)) refl

stays-mark : (h : History) → Legal h → (mark : Mark) → Fine h mark → (queue : ℕ) (name : List ℕ) → is_unlisting name mark ≡ false → IsListed h queue name → is_among name (set_tables (node (mark ∷ h))) ≡ true
stays-mark h l (noded m) fine queue name out is = of m (fits-of fine) out
  where
    of : (m : NodeMark) → NodeFits h m → is_unlisting name (noded m) ≡ false → is_among name (set_tables (after_node m (node h))) ≡ true
    of (root_made n q) fits e = absurd (cc (sym is.among ∙ ap (λ x. is_among name (set_tables x)) fits.0))
    of (leaf_made n q t) fits e = absurd (cc (sym is.among ∙ ap (λ x. is_among name (set_tables x)) fits.0))
    of (set_added table) fits e =
        ap (is_among name) (set-listed (node h) table (root-of h queue (sym (set-number (database_of h)) ∙ is.set))) ∙ among-push name (set_tables (node h)) table is.among
    of (set_removed table) fits e = ap (is_among name) (set-unlisted (node h) table) ∙ among-but name table (set_tables (node h)) e is.among
    of m fits e = ap (is_among name) (set-same m refl (node h)) ∙ is.among
stays-mark h l _ fine queue name out is = is.among

listed-next : (h : History) (mark : Mark) → Legal (mark ∷ h) → (queue : ℕ) (name : List ℕ) → is_unlisting name mark ≡ false → IsListed h queue name → IsListed (mark ∷ h) queue name
listed-next h mark l queue name out is =
    let at_h : queue_at h ≡ Some queue = sym (set-number (database_of h)) ∙ is.set in
    let keeps : KeepsSet h (mark ∷ h) = keeps-set (later here) l (root-of h queue at_h) in
    record { set = set-number (database_of (mark ∷ h)) ∙ keeps.queue ∙ at_h; among = stays-mark h (legal-below_mark l) mark (fine_mark l) queue name out is }

stay : (above : List Mark) (p : History) → Legal (above ++ p) → (queue : ℕ) (name : List ℕ) → IsListed p queue name → All (λ mark. is_unlisting name mark ≡ false) above → IsListed (above ++ p) queue name
stay [] p l queue name is none_out = is
stay (mark ∷ above) p l queue name is none_out =
    listed-next (above ++ p) mark l queue name (All-head (λ m. is_unlisting name m ≡ false) mark above none_out)
    (stay above p (legal-below_mark l) queue name is (All-tail (λ m. is_unlisting name m ≡ false) mark above none_out))

stay-at : (above : List Mark) (p : History) → Legal (above ++ p) → (queue : ℕ) (name : List ℕ) → IsListed p queue name → All (λ mark. is_unlisting name mark ≡ false) above
    → (x : History) → Since p x → Since x (above ++ p) → IsListed x queue name
stay-at [] p l queue name is none_out x up down = subst (λ y. IsListed y queue name) (one-place up down) is
stay-at (mark ∷ above) p l queue name is none_out x up down = elim (since-or x mark (above ++ p) down) [
  | inl same ↦ subst (λ y. IsListed y queue name) (sym same) (stay (mark ∷ above) p l queue name is none_out)
  | inr lower ↦ stay-at above p (legal-below_mark l) queue name is (All-tail (λ m. is_unlisting name m ≡ false) mark above none_out) x up lower
]

pub tables_stay_in_sets : TablesStayInSets
tables_stay_in_sets above p place queue name is none_out x up down =
    stay-at above p (legal_place (above ++ p) place) queue name is none_out x (from-below p x up) (from-below x (above ++ p) down)
