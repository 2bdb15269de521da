-- A key is written by one running transaction at a time, so those that write it commit in the order in which they write it.
use Rattle.std.proofs.Common.{◌≡◌, ◌≢◌, ℕ, List, [], ◌∷◌, ◌++◌, Bool, true, false, refl, sym, ◌∙◌, ap, arith, ◌||◌, ◌&&◌, ◌==◌, nat_lt, Option}
use Rattle.std.proofs.lemmas.Bool.{true_from_ne_false, false_from_ne_true, or_parts}
use Rattle.std.proofs.lemmas.Bool.Decides.{nat_tests}
use Rattle.sky_val.specs.declared.val.Val.{Val}
use Rattle.sky_txid.specs.Ids.{contains}
use Rattle.sky_keys.proofs.EntryLemmas.{key_ties-is}
use Rattle.sky_model.specs.History.{Mark, Whose, ended, tabled, wrote, History}
use Rattle.sky_model.specs.Transactions.{has_ended, has_committed, has_rolled_back}
use Rattle.sky_model.specs.Rows.{committed, writes as writes_of, has_written}
use Rattle.sky_model.specs.LawsOfWrites.{writers, is_before, KeysAreWrittenInTurn, WritesAndCommitsHaveOneOrder, SnapshotsSeeEarlierWriters}
use Rattle.sky_histories.proofs.Legal.{Fine, Legal, legal-below_mark, fine_mark}
use Rattle.sky_histories.proofs.Snapshots.{contains-push, has_committed-ended, sees-snapshot, ender-unended}
use Rattle.sky_histories.proofs.SnapshotLaws.{legal-below, legal_place}
use Rattle.sky_histories.proofs.RowKeys.{committed-ended}
use Rattle.sky_histories.proofs.RowSights.{ended-behind}
use Rattle.sky_histories.proofs.Holders.{turned, has_written-push, alone}
use Rattle.sky_model.proofs.Cases.{by_same}

-- ---- places in a list

apart : (t u : ℕ) → t ≢ u → (t == u) ≡ false
apart t u other = false_from_ne_true (t == u) (λ is. other (grind (arith, nat_tests)))

-- with one more, appended
is_before-push : (t u x : ℕ) (xs : List ℕ) → is_before t u (xs ++ x ∷ []) ≡ (is_before t u xs || (contains t xs && u == x))
is_before-push t u x [] = grind arith
is_before-push t u x (y ∷ ys) = grind (arith, contains-push u x ys, is_before-push t u x ys)

-- a transaction that isn't in a list is before none
is_before-none : (t u : ℕ) (xs : List ℕ) → contains t xs ≡ false → is_before t u xs ≡ false
is_before-none t u [] none = refl
is_before-none t u (x ∷ xs) none = grind (arith, is_before-none t u xs)

-- of two different ones in a list one is before the other
one-before : (t u : ℕ) (xs : List ℕ) → (t == u) ≡ false → contains t xs ≡ true → contains u xs ≡ true → is_before u t xs ≡ false → is_before t u xs ≡ true
one-before t u [] other has_t has_u isnt = absurd (cc)
one-before t u (x ∷ xs) other has_t has_u isnt = grind (arith, nat_tests, one-before t u xs other)

-- ---- who has written a key

turned_test : (t v : ℕ) (b : Bool) → (v == t) ≡ b → (t == v) ≡ b
turned_test t v b e = grind (arith, nat_tests)

-- they are the same as by the writes of each
writers-written : (table : ℕ) (key : List Val) (t : ℕ) (h : History) → contains t (writers table key h) ≡ has_written key (writes_of table t h)
writers-written table key t [] = refl
writers-written table key t (tabled (wrote whose v n k old new) ∷ h) =
    grind (arith, nat_tests, writers-written table key t h, contains-push t v (writers table key h), has_written-push key (writes_of table t h) (record { key = k; row = new }), turned key k)
writers-written table key t (_ ∷ h) = writers-written table key t h

-- ---- who has ended when another one writes a key

-- one that writes a key hasn't ended
writer-unended : (h : History) (whose : Whose) (u table : ℕ) (key : List Val) (old new : Option (List Val)) → Legal h → Fine h (tabled (wrote whose u table key old new)) → has_ended h u ≡ false
writer-unended h whose u table key old new l fine = (alone h l fine).runs

-- and each other one that has written it has
others-ended : (h : History) (whose : Whose) (u table : ℕ) (key : List Val) (old new : Option (List Val)) → Legal h → Fine h (tabled (wrote whose u table key old new))
    → (t : ℕ) → (t == u) ≡ false → has_written key (writes_of table t h) ≡ true → has_ended h t ≡ true
others-ended h whose u table key old new l fine t other wrote_it =
    true_from_ne_false (has_ended h t) (λ is. (alone h l fine).others t is (turned_test u t false other) wrote_it)

pub keys_are_written_in_turn : KeysAreWrittenInTurn
keys_are_written_in_turn p whose u table key old new is =
    let l : Legal (tabled (wrote whose u table key old new) ∷ p) = legal_place (tabled (wrote whose u table key old new) ∷ p) is in
    let fine : Fine p (tabled (wrote whose u table key old new)) = fine_mark l in
    (writer-unended p whose u table key old new (legal-below_mark l) fine, λ t other wrote_it. others-ended p whose u table key old new (legal-below_mark l) fine t (apart t u other) wrote_it)

-- if one wrote a key before another, it has ended
before-ended : (table : ℕ) (key : List Val) (t u : ℕ) (h : History) → Legal h → (t == u) ≡ false → is_before t u (writers table key h) ≡ true → has_ended h t ≡ true
before-ended table key t u [] l other e = absurd (cc)
before-ended table key t u (tabled (wrote whose v n k old new) ∷ h) l other e =
    grind (arith, nat_tests, before-ended table key t u h (legal-below_mark l) other, is_before-push t u v (writers table key h), writers-written table key t h, key_ties-is k key, others-ended h whose v n k old new (legal-below_mark l) (fine_mark l) t)
before-ended table key t u (ended whose v c ∷ h) l other e = ended-behind h (ended whose v c) t (before-ended table key t u h (legal-below_mark l) other e)
before-ended table key t u (_ ∷ h) l other e = before-ended table key t u h (legal-below_mark l) other e

-- ---- snapshots

ended-later : (later : List Mark) (p : History) (t : ℕ) → has_ended p t ≡ true → has_ended (later ++ p) t ≡ true
ended-later [] p t e = e
ended-later (mark ∷ later) p t e = ended-behind (later ++ p) mark t (ended-later later p t e)

-- one that has ended writes no more, so none comes to be before it
still-before : (table : ℕ) (key : List Val) (t u : ℕ) (later : List Mark) (p : History) → Legal (later ++ p) → has_ended p u ≡ true
    → is_before t u (writers table key (later ++ p)) ≡ is_before t u (writers table key p)
still-before table key t u [] p l over = refl
still-before table key t u (tabled (wrote whose v n k old new) ∷ later) p l over =
    grind (arith, nat_tests, still-before table key t u later p (legal-below_mark l) over, ended-later later p u over, is_before-push t u v (writers table key (later ++ p)), writer-unended (later ++ p) whose v n k old new (legal-below_mark l) (fine_mark l))
still-before table key t u (_ ∷ later) p l over = still-before table key t u later p (legal-below_mark l) over

pub snapshots_see_earlier_writers : SnapshotsSeeEarlierWriters
snapshots_see_earlier_writers later p is table key t u first seen =
    let l : Legal (later ++ p) = legal_place (later ++ p) is in
    let below : Legal p = legal-below later p l in
    let over : has_ended p u ≡ true = sym (sees-snapshot p below u) ∙ seen in
    sees-snapshot p below t ∙ by_same (λ _. has_ended p t ≡ true) t u (λ one. ap (has_ended p) one ∙ over) (λ other. before-ended table key t u p below other (sym (still-before table key t u later p l over) ∙ first))

-- ---- commits

-- a committed transaction is in the list of those, but for the three that had committed before there was a history
committed-listed : (h : History) (t : ℕ) → has_committed h t ≡ true → nat_lt t 3 ≡ false → contains t (committed h) ≡ true
committed-listed [] t e over = absurd (cc)
committed-listed (ended whose u true ∷ h) t e over = contains-push t u (committed h) ∙ grind (arith, λ (e : has_committed h t ≡ true). committed-listed h t e over)
committed-listed (ended whose u false ∷ h) t e over = committed-listed h t e over
committed-listed (_ ∷ h) t e over = committed-listed h t e over

-- these had ended
early-ended : (h : History) (t : ℕ) → nat_lt t 3 ≡ true → has_ended h t ≡ true
early-ended [] t early = early
early-ended (mark ∷ h) t early = ended-behind h mark t (early-ended h t early)

-- so none of them writes
writer-late : (table : ℕ) (key : List Val) (t : ℕ) (h : History) → Legal h → contains t (writers table key h) ≡ true → nat_lt t 3 ≡ false
writer-late table key t [] l e = absurd (cc)
writer-late table key t (tabled (wrote whose v n k old new) ∷ h) l e =
    grind (arith, nat_tests, writer-late table key t h (legal-below_mark l), contains-push t v (writers table key h), early-ended h t, writer-unended h whose v n k old new (legal-below_mark l) (fine_mark l))
writer-late table key t (_ ∷ h) l e = writer-late table key t h (legal-below_mark l) e

-- who hasn't ended hasn't committed
unended-unlisted : (h : History) (t : ℕ) → has_ended h t ≡ false → contains t (committed h) ≡ false
unended-unlisted h t runs = false_from_ne_true (contains t (committed h)) (λ is. cc (sym runs ∙ committed-ended h t is))

-- of two that wrote a key, the first not rolled back and the second committed, the order of the writes is that of the commits
abbrev IsOneOrder : History → List ℕ → ℕ → ℕ → Type 0
IsOneOrder h vs t u = contains t vs ≡ true → contains u vs ≡ true → contains u (committed h) ≡ true → is_before t u vs ≡ is_before t u (committed h)

in_one_order : (table : ℕ) (key : List Val) (t u : ℕ) (h : History) → Legal h → (t == u) ≡ false → has_rolled_back h t ≡ false → IsOneOrder h (writers table key h) t u
in_one_order table key t u [] l other stays has_t has_u listed = refl
in_one_order table key t u (tabled (wrote whose v n k old new) ∷ h) l other stays has_t has_u listed =
    let runs : has_ended h v ≡ false = writer-unended h whose v n k old new (legal-below_mark l) (fine_mark l) in
    let ended_u : has_ended h u ≡ true = committed-ended h u listed in
    let push_t = contains-push t v (writers table key h) in
    let push_u = contains-push u v (writers table key h) in
    grind (arith, nat_tests, in_one_order table key t u h (legal-below_mark l) other stays, push_t, push_u, is_before-push t u v (writers table key h), is_before-none t u (writers table key h), is_before-none t u (committed h), unended-unlisted h t)
in_one_order table key t u (ended whose v true ∷ h) l other stays has_t has_u listed =
    let below = legal-below_mark l in
    let runs : has_ended h v ≡ false = ender-unended h below whose v true (fine_mark l) in
    let earlier = before-ended table key t u h below other in
    -- if the second one commits now, it was running until now, so its writes are the last ones
    let later = before-ended table key u t h below (turned_test u t false other) in
    let push = contains-push u v (committed h) in
    let first = one-before t u (writers table key h) other in
    let is_listed = committed-listed h t in
    grind (arith, nat_tests, in_one_order table key t u h below other stays, push, is_before-push t u v (committed h), earlier, later, first, is_listed, has_committed-ended h below t, writer-late table key t h below, committed-ended h u)
in_one_order table key t u (ended whose v false ∷ h) l other stays has_t has_u listed =
    in_one_order table key t u h (legal-below_mark l) other (or_parts (t == v) (has_rolled_back h t) stays).1 has_t has_u listed
in_one_order table key t u (_ ∷ h) l other stays has_t has_u listed = in_one_order table key t u h (legal-below_mark l) other stays has_t has_u listed

pub writes_and_commits_have_one_order : WritesAndCommitsHaveOneOrder
writes_and_commits_have_one_order p is table key t u other wrote_t stays wrote_u over =
    let l : Legal p = legal_place p is in
    let has_u : contains u (writers table key p) ≡ true = writers-written table key u p ∙ wrote_u in
    in_one_order table key t u p l (apart t u other) stays (writers-written table key t p ∙ wrote_t) has_u (committed-listed p u over (writer-late table key u p l has_u))
