-- What the versions of a key say of its rows, at each place of a legal history.
use Rattle.std.proofs.Common.{◌≡◌, ℕ, Bool, true, false, List, [], ◌∷◌, Option, Some, None, option_map, refl, sym, ◌∙◌, ap, subst, arith, if◌then◌else◌, ◌⊎◌, inl, inr, ◌||◌, ◌&&◌, ◌==◌, cond}
use Rattle.std.specs.Option.{option_or}
use Rattle.std.specs.Ordering.{eq_by_cmp}
use Rattle.std.proofs.lemmas.Bool.{true_from_ne_false, false_from_ne_true, or_parts, or_right, and_parts, eqb-true, cond_both}
use Rattle.std.proofs.lemmas.Bool.Decides.{nat_tests}
use Rattle.sky_val.specs.declared.val.Val.{Val}
use Rattle.sky_val.specs.Order.{key_cmp}
use Rattle.sky_val.specs.Entries.{at}
use Rattle.sky_txid.specs.Ids.{contains}
use Rattle.sky_keys.specs.declared.version.Version.{Version}
use Rattle.sky_keys.specs.Versions.{with_version, without, version_of, newest_by, row_of, versions_at}
use Rattle.sky_keys.proofs.VersionLemmas.{OnlyLast, OthersPass, newest_with, newest_without, newest_more, version_of-with, version_of-without, only_more, only_without, only_with}
use Rattle.sky_keys.proofs.EntryLemmas.{key_ties-is, versions_at-written, versions_at-forgotten}
use Rattle.sky_model.specs.History.{Mark, ended, tabled, wrote, History, Whose}
use Rattle.sky_model.specs.Transactions.{has_ended}
use Rattle.sky_model.specs.Rows.{committed, has_written, writes as writes_of, rows, last_writer}
use Rattle.sky_model.specs.Versions.{versions}
use Rattle.sky_histories.proofs.Legal.{Fine, Legal, start, next}
use Rattle.sky_histories.proofs.Snapshots.{ender-unended}
use Rattle.sky_histories.proofs.RowWrites.{last_of, at-put_all, last_of-push, has_written-last_of, in_turn-push, in_turn-same, last_writer-push, last_writer-same}
use Rattle.sky_histories.proofs.RowKeys.{is_in_order-versions, committed-ended}
use Rattle.sky_histories.proofs.Holders.{IsAlone, alone}
use Rattle.sky_model.proofs.Cases.{by_same}

-- the versions of a key at a place
abbrev pub kept : History → ℕ → List Val → List Version
kept h table key = versions_at key (versions table h)

-- what the versions of a key say at a place
pub record KeyHolds (h : History) (table : ℕ) (key : List Val) : Type 0 where
  -- the row of the newest one whose transaction has ended is the row
  pub newest : row_of (newest_by (has_ended h) (kept h table key)) ≡ at key (rows table h)
  -- and its transaction is the last that has written the key, of those that have committed
  pub writer : option_map Version.txid (newest_by (has_ended h) (kept h table key)) ≡ last_writer key (λ t. writes_of table t h) None (committed h)
  -- one that hasn't ended has its last write as its version
  pub own : (t : ℕ) → has_ended h t ≡ false → option_map Version.row (version_of t (kept h table key)) ≡ last_of key (writes_of table t h)
  -- and only the last version may be such a one's
  pub only : OnlyLast (has_ended h) (kept h table key)

-- a transaction's version is its own
pub version_of-txid : (t : ℕ) (vs : List Version) (v : Version) → version_of t vs ≡ Some v → v.txid ≡ t
version_of-txid t [] v e = absurd (cc)
version_of-txid t (w ∷ vs) v e = grind (arith, nat_tests, version_of-txid t vs v)

-- the end of a transaction, as a test on others
ended-or : (h : History) (t u : ℕ) → ((u == t) || has_ended h u) ≡ ((t == u) || has_ended h u)
ended-or h t u = grind (arith, nat_tests)

key_committed : (h : History) → Legal h → (whose : Whose) (t : ℕ) → has_ended h t ≡ false → (table : ℕ) (key : List Val) → KeyHolds h table key → KeyHolds (ended whose t true ∷ h) table key
key_committed h l whose t unended table key k = record {
  newest = ap row_of newer ∙ grind (arith, k.own t unended, k.newest, in_turn-push (λ u. writes_of table u h) (committed h) t [], at-put_all key (writes_of table t h) (rows table h));
  writer = ap (option_map Version.txid) newer
      ∙ grind (arith, k.own t unended, k.writer, version_of-txid t (kept h table key), has_written-last_of key (writes_of table t h), last_writer-push key (λ u. writes_of table u h) (committed h) t);
  own = λ u e. k.own u ((or_parts (u == t) (has_ended h u) e).1);
  only = only_more (has_ended h) (has_ended (ended whose t true ∷ h)) (kept h table key) (λ u e. or_right (u == t) (has_ended h u) e) k.only;
}
  where
    newer : newest_by (has_ended (ended whose t true ∷ h)) (kept h table key) ≡ option_or (version_of t (kept h table key)) (newest_by (has_ended h) (kept h table key))
    newer = newest_more (has_ended h) (has_ended (ended whose t true ∷ h)) t (kept h table key) k.only unended (ended-or h t)

key_rolled_back : (h : History) → Legal h → (whose : Whose) (t : ℕ) → has_ended h t ≡ false → (table : ℕ) (key : List Val) → KeyHolds h table key → KeyHolds (ended whose t false ∷ h) table key
key_rolled_back h l whose t unended table key k = record {
  newest = ap row_of same ∙ k.newest;
  writer = ap (option_map Version.txid) same ∙ k.writer;
  own = λ u e. ap (λ vs. option_map Version.row (version_of u vs)) gone
      ∙ ap (option_map Version.row) (version_of-without u t (kept h table key) ∙ ap (λ b. cond b None (version_of u (kept h table key))) ((or_parts (u == t) (has_ended h u) e).0))
      ∙ k.own u ((or_parts (u == t) (has_ended h u) e).1);
  only = subst (OnlyLast (has_ended (ended whose t false ∷ h))) (sym gone) (only_more (has_ended h) (has_ended (ended whose t false ∷ h)) (without t (kept h table key))
      (λ u e. or_right (u == t) (has_ended h u) e) (only_without (has_ended h) t (kept h table key) k.only));
}
  where
    gone : kept (ended whose t false ∷ h) table key ≡ without t (kept h table key)
    gone = versions_at-forgotten t key (versions table h) (is_in_order-versions table h)

    same : newest_by (has_ended (ended whose t false ∷ h)) (kept (ended whose t false ∷ h) table key) ≡ newest_by (has_ended h) (kept h table key)
    same =
        let mine : (t == t) ≡ true = grind (arith, nat_tests) in
        ap (newest_by (has_ended (ended whose t false ∷ h))) gone
        ∙ newest_more (has_ended h) (has_ended (ended whose t false ∷ h)) t (without t (kept h table key)) (only_without (has_ended h) t (kept h table key) k.only) unended (ended-or h t)
        ∙ ap (λ o. option_or o (newest_by (has_ended h) (without t (kept h table key)))) (version_of-without t t (kept h table key) ∙ ap (λ b. cond b None (version_of t (kept h table key))) mine)
        ∙ newest_without (has_ended h) t (kept h table key) unended

-- if no other transaction that hasn't ended has a version, all others' pass
others-from : (p : ℕ → Bool) (t : ℕ) (vs : List Version) → ((u : ℕ) → p u ≡ false → (t == u) ≡ false → version_of u vs ≡ None) → OthersPass p t vs
others-from p t [] none = tt
others-from p t (v ∷ vs) none = (
  by_same (λ _. (t ≡ v.txid) ⊎ (p v.txid ≡ true)) t v.txid (λ same. inl same) (λ other. inr (true_from_ne_false (p v.txid) (λ e. let there = none v.txid e other in grind (arith, nat_tests, there)))),
  others-from p t vs (λ u unended other. grind (arith, none u unended other)),
)

module _ (h : History) (l : Legal h) (whose : Whose) (t n : ℕ) (at_key : List Val) (old new : Option (List Val)) (is : IsAlone h t n at_key) where
  abbrev g : History
  g = tabled (wrote whose t n at_key old new) ∷ h

  unended : has_ended h t ≡ false
  unended = is.runs

  -- no other running transaction has a version of the key
  unwritten : (k : KeyHolds h n at_key) (u : ℕ) → has_ended h u ≡ false → (t == u) ≡ false → version_of u (kept h n at_key) ≡ None
  unwritten k u runs_on other =
      let quiet = false_from_ne_true (has_written at_key (writes_of n u h)) (is.others u runs_on other) in
      grind (arith, has_written-last_of at_key (writes_of n u h), k.own u runs_on, quiet)

  pub kept-wrote : (table : ℕ) (key : List Val) → kept g table key ≡ (if (n == table) && eq_by_cmp key_cmp key at_key then with_version t new (kept h table key) else kept h table key)
  kept-wrote table key = grind (arith, versions_at-written key t at_key new (versions table h))

  -- a write changes no committed transaction's writes
  pub same-writes : (table u : ℕ) → contains u (committed h) ≡ true → writes_of table u g ≡ writes_of table u h
  same-writes table u there = grind (arith, nat_tests, committed-ended h u there, unended)

  own-wrote : (table : ℕ) (key : List Val) → KeyHolds h table key → (u : ℕ) → has_ended h u ≡ false
      → option_map Version.row (version_of u (kept g table key)) ≡ last_of key (writes_of table u g)
  own-wrote table key k u runs_on =
      ap (λ vs. option_map Version.row (version_of u vs)) (kept-wrote table key)
      ∙ grind (arith, nat_tests, version_of-with u t new (kept h table key), k.own u runs_on, last_of-push key (writes_of table u h) (record { key = at_key; row = new }))

  newest-wrote : (table : ℕ) (key : List Val) → newest_by (has_ended h) (kept g table key) ≡ newest_by (has_ended h) (kept h table key)
  newest-wrote table key = grind (arith, kept-wrote table key, newest_with (has_ended h) t new (kept h table key) unended)

  only-wrote : (table : ℕ) (key : List Val) → KeyHolds h table key → OnlyLast (has_ended h) (kept g table key)
  only-wrote table key k =
      subst (OnlyLast (has_ended h)) (sym (kept-wrote table key))
      (cond_both ((n == table) && eq_by_cmp key_cmp key at_key) (with_version t new (kept h table key)) (kept h table key) (OnlyLast (has_ended h)) there (λ _. k.only))
    where
      there : ((n == table) && eq_by_cmp key_cmp key at_key) ≡ true → OnlyLast (has_ended h) (with_version t new (kept h table key))
      there is =
          let both = and_parts (n == table) (eq_by_cmp key_cmp key at_key) is in
          let table_is : n ≡ table = eqb-true n table both.0 in
          let key_is = key_ties-is key at_key both.1 in
          let here : KeyHolds h n at_key = (subst (λ m. KeyHolds h m at_key) (sym table_is) (subst (KeyHolds h table) key_is k)) in
          let others : OthersPass (has_ended h) t (kept h n at_key) = others-from (has_ended h) t (kept h n at_key) (unwritten here) in
          only_with (has_ended h) t new (kept h table key) (subst (OthersPass (has_ended h) t) (λ i. kept h (table_is i) (sym key_is i)) others) k.only

  pub key_written : (table : ℕ) (key : List Val) → KeyHolds h table key → KeyHolds g table key
  key_written table key k = record {
    newest = ap row_of (newest-wrote table key) ∙ k.newest
        ∙ sym (ap (at key) (in_turn-same (λ u. writes_of table u g) (λ u. writes_of table u h) (committed h) [] (same-writes table)));
    writer = ap (option_map Version.txid) (newest-wrote table key) ∙ k.writer
        ∙ sym (last_writer-same key (λ u. writes_of table u g) (λ u. writes_of table u h) (committed h) (same-writes table));
    own = own-wrote table key k;
    only = only-wrote table key k;
  }

key_step : (h : History) (mark : Mark) → Fine h mark → Legal h → (table : ℕ) (key : List Val) → KeyHolds h table key → KeyHolds (mark ∷ h) table key
key_step h (ended whose t true) fine l table key k = key_committed h l whose t (ender-unended h l whose t true fine) table key k
key_step h (ended whose t false) fine l table key k = key_rolled_back h l whose t (ender-unended h l whose t false fine) table key k
key_step h (tabled (wrote whose t n at_key old new)) fine l table key k = key_written h l whose t n at_key old new (alone h l fine) table key k
key_step h _ _ l table key k = record { newest = k.newest; writer = k.writer; own = k.own; only = k.only }

pub key_holds : (h : History) → Legal h → (table : ℕ) (key : List Val) → KeyHolds h table key
key_holds _ start table key = record { newest = refl; writer = refl; own = λ t e. refl; only = tt }
key_holds _ (next {h = h} {mark = mark} l fine) table key = key_step h mark fine l table key (key_holds h l table key)
