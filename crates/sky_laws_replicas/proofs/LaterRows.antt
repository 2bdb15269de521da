-- The rows of a table above a place, while a copy of it runs, and after one was given up.
use Rattle.std.proofs.Common.{arith, ◌≡◌, ℕ, ◌≤◌, ◌<◌, ◌==◌, List, [], ◌∷◌, ◌++◌, Bool, true, false, not, ◌&&◌, ◌||◌, Option, Some, None, is_some, append_assoc, append-nil, refl, sym, ap, subst, ◌∙◌}
use Rattle.std.proofs.lemmas.Bool.Decides.{nat_tests}
use Rattle.std.proofs.lemmas.Bool.{and_parts, false_from_ne_true}
use Rattle.sky_val.specs.declared.val.Val.{Val}
use Rattle.sky_val.specs.Entries.{Entries, at}
use Rattle.sky_val.proofs.EntryLemmas.{same_entries}
use Rattle.sky_txid.specs.Ids.{contains}
use Rattle.sky_model.specs.History.{Mark, Whose, of_copy, began, ended, tabled, wrote, noded, copied, History}
use Rattle.sky_model.specs.Transactions.{next_txid}
use Rattle.sky_model.specs.Copies.{copies, is_copied_by, is_copys}
use Rattle.sky_model.specs.Rows.{Write, committed, writes as writes_of, rows, in_turn, has_written}
use Rattle.sky_model.specs.Calls.{past_of}
use Rattle.sky_histories.proofs.Legal.{Fine, ends as ends_session, ends_work, ends_copy, Legal, legal-below_mark, fine_mark}
use Rattle.sky_histories.proofs.Snapshots.{contains-push, copys-of, ender-unended, begun-next}
use Rattle.sky_histories.proofs.SnapshotLaws.{legal-below, legal_place}
use Rattle.sky_histories.proofs.Guarded.{copied_by-push, copied_by-without}
use Rattle.sky_histories.proofs.Holders.{not-copys, copy-alone, alone}
use Rattle.sky_histories.proofs.RowWrites.{over, last_of, at-put_all, has_written-last_of, in_turn-push, in_turn-same}
use Rattle.sky_histories.proofs.KeyVersions.{same-writes}
use Rattle.sky_histories.proofs.Histories.{legal_past}
use Rattle.sky_model.specs.Sessions.{own_txid, sight, place_of_sight}
use Rattle.sky_model.specs.Rows.{put_all, own_writes}
use Rattle.sky_model.specs.World.{history_in}
use Rattle.sky_histories.proofs.RowSights.{Since, here, later as above_it, place-since}
use Rattle.sky_model.proofs.Cases.{by_test, by_same}
use Rattle.sky_laws_replicas.specs.LawsOfReplicas.{HasProvidersRows, copied_rows, rows_since, ShowsProvidersRows, ReplicasShowProvidersRows, SessionsSeeProvidersRows, CopiesAreUnseen}
use Rattle.sky_laws_replicas.proofs.HeldRows.{rows-in-order}
use Rattle.sky_laws_replicas.proofs.KeptCalls.{copied_tables_have_providers_rows}

-- ---- rows after more commits

later-committed : (later : List Mark) (p : History) → committed (later ++ p) ≡ committed p ++ committed later
later-committed [] p = sym (append-nil (committed p))
later-committed (ended whose t true ∷ later) p = ap (λ ts. ts ++ t ∷ []) (later-committed later p) ∙ append_assoc (committed p) (committed later) (t ∷ [])
later-committed (_ ∷ later) p = later-committed later p

turns-append : (f : ℕ → List Write) (xs ys : List ℕ) (rs : Entries (List Val)) → in_turn f (xs ++ ys) rs ≡ in_turn f ys (in_turn f xs rs)
turns-append f [] ys rs = refl
turns-append f (x ∷ xs) ys rs = turns-append f xs ys _

still-committed : (later : List Mark) (p : History) (u : ℕ) → contains u (committed p) ≡ true → contains u (committed (later ++ p)) ≡ true
still-committed [] p u is = is
still-committed (ended whose t true ∷ later) p u is = contains-push u t (committed (later ++ p)) ∙ ap (λ b. b || u == t) (still-committed later p u is)
still-committed (_ ∷ later) p u is = still-committed later p u is

-- those that had committed have written what they had
writes-stay : (later : List Mark) (p : History) → Legal (later ++ p) → (table u : ℕ) → contains u (committed p) ≡ true → writes_of table u (later ++ p) ≡ writes_of table u p
writes-stay [] p l table u is = refl
writes-stay (tabled (wrote whose t n key old new) ∷ later) p l table u is =
    let below : Legal (later ++ p) = legal-below_mark l in
    same-writes (later ++ p) below whose t n key old new (alone (later ++ p) below (fine_mark l)) table u (still-committed later p u is) ∙ writes-stay later p below table u is
writes-stay (_ ∷ later) p l table u is = writes-stay later p (legal-below_mark l) table u is

rows-later : (later : List Mark) (p : History) → Legal (later ++ p) → (table : ℕ) → rows table (later ++ p) ≡ rows_since table later p (rows table p)
rows-later later p l table =
    ap (λ ts. in_turn (λ t. writes_of table t (later ++ p)) ts []) (later-committed later p)
    ∙ turns-append (λ t. writes_of table t (later ++ p)) (committed p) (committed later) []
    ∙ ap (in_turn (λ t. writes_of table t (later ++ p)) (committed later))
    (in_turn-same (λ t. writes_of table t (later ++ p)) (λ t. writes_of table t p) (committed p) [] (writes-stay later p l table))

pub replicas_show_providers_rows : ReplicasShowProvidersRows
replicas_show_providers_rows calls in_form database above later p name under tick is =
    let place : History = noded (copied name under tick) ∷ p in
    let copy : HasProvidersRows (past_of calls) database place name under =
    copied_tables_have_providers_rows calls in_form database (above ++ later) p name under tick (is ∙ sym (append_assoc above later place)) in
    let legal : Legal (later ++ place) = legal-below above (later ++ place) (subst Legal is (legal_past calls database)) in
    record { copy = copy; shown = rows-later later place legal copy.table ∙ ap (rows_since copy.table later place) copy.same }

-- ---- what a session is shown

-- a place is below
record IsAbove (k h : History) : Type 0 where
  more : List Mark
  is : h ≡ more ++ k

is-above : {k h : History} → Since k h → IsAbove k h
is-above here = record { more = []; is = refl }
is-above (above_it {h = h} {mark = mark} since) = let a = is-above since in record { more = mark ∷ a.more; is = ap (λ g. mark ∷ g) a.is }

-- own writes on top of the rows of a place
shown-by : (own : List Write) (table : ℕ) (k g : History) (rs : Entries (List Val)) → k ≡ g → rows table g ≡ rs → put_all own (rows table k) ≡ put_all own rs
shown-by own table k g rs same is = ap (λ x. put_all own (rows table x)) same ∙ ap (put_all own) is

pub sessions_see_providers_rows : SessionsSeeProvidersRows
sessions_see_providers_rows calls in_form database above h who newer p name under tick is sees =
    let place : History = noded (copied name under tick) ∷ p in
    let a : IsAbove (place_of_sight h (sight who h)) h = is-above (place-since h who) in
    let whole : history_in (past_of calls) database ≡ (above ++ a.more) ++ (newer ++ place) =
    is ∙ ap (λ g. above ++ g) (a.is ∙ ap (λ g. a.more ++ g) sees) ∙ sym (append_assoc above a.more (newer ++ place)) in
    let s : ShowsProvidersRows (past_of calls) database newer place name under = replicas_show_providers_rows calls in_form database (above ++ a.more) newer p name under tick whole in
    record {
      copy = s.copy;
      shown = shown-by (own_writes s.copy.table (own_txid who h) h) s.copy.table (place_of_sight h (sight who h)) (newer ++ place) (rows_since s.copy.table newer place (copied_rows (past_of calls) database place name under s.copy)) sees s.shown;
    }

-- ---- while a copy runs

-- a copy that still runs after a transaction has ended ran before, and it isn't its own
pub still-copied : (h : History) → Legal h → (whose : Whose) (u : ℕ) (c : Bool) → Fine h (ended whose u c) → (table t : ℕ) → is_copied_by table t (copies (ended whose u c ∷ h)) ≡ true
    → (is_copied_by table t (copies h) ≡ true) × ((t == u) ≡ false)
still-copied h l _ _ _ (ends_session who u c mine) table t is =
    (is, by_same (λ b. b ≡ false) t u (λ same. absurd (not-copys h l who table t (mine ∙ ap Some (sym same)) is)) (λ _. refl))
still-copied h l _ _ _ (ends_work u c work) table t is =
    (is, by_same (λ b. b ≡ false) t u (λ same. absurd (cc (sym (copys-of table t (copies h) is) ∙ ap (λ v. is_copys v (copies h)) same ∙ work.apart))) (λ _. refl))
still-copied h l _ _ _ (ends_copy n u c may) table t is =
    let parts = and_parts (is_copied_by table t (copies h)) (not (t == u)) (sym (copied_by-without table u t (copies h)) ∙ is) in (parts.0, of (t == u) parts.1)
  where
    of : (b : Bool) → not b ≡ true → b ≡ false
    of true e = absurd (cc)
    of false e = refl

-- ids rise
next-later : (later : List Mark) (q : History) → next_txid q ≤ next_txid (later ++ q)
next-later [] q = omega arith
next-later (began whose t ∷ later) q = (let below = next-later later q in omega (arith, below))
next-later (_ ∷ later) q = next-later later q

-- so one that runs after a mark above its beginning ran before it
pub ran-before : (table t : ℕ) (q : History) (later : List Mark) (mark : Mark) → Legal (mark ∷ later ++ began (of_copy table) t ∷ q) → is_copied_by table t (copies (mark ∷ later ++ began (of_copy table) t ∷ q)) ≡ true
    → is_copied_by table t (copies (later ++ began (of_copy table) t ∷ q)) ≡ true
ran-before table t q later (began (of_copy n) u) l is =
    let h : History = later ++ began (of_copy table) t ∷ q in
    let u-is : u ≡ next_txid h = begun-next h (of_copy n) u (fine_mark l) in
    let t-is : t ≡ next_txid q = begun-next q (of_copy table) t (fine_mark (legal-below later (began (of_copy table) t ∷ q) (legal-below_mark l))) in
    let up = next-later later (began (of_copy table) t ∷ q) in
    let less : t < u = omega (arith, u-is, t-is, up) in
    by_test (λ b. (is_copied_by table t (copies h) || (n == table && b)) ≡ true → (u == t) ≡ b → is_copied_by table t (copies h) ≡ true) (u == t)
    (λ _ _ same. absurd (grind (arith, nat_tests, same, less))) (λ _ old _. grind (arith, old)) (sym (copied_by-push table t (copies h) (record { table = n; txid = u })) ∙ is) refl
ran-before table t q later (ended whose u c) l is =
    (still-copied (later ++ began (of_copy table) t ∷ q) (legal-below_mark l) whose u c (fine_mark l) table t is).0
ran-before table t q later mark l is = is

-- the commit of another transaction leaves the rows of its table
rows-ended : (h : History) → Legal h → (whose : Whose) (u table t : ℕ) → Fine h (ended whose u true) → is_copied_by table t (copies h) ≡ true → (t == u) ≡ false → rows table (ended whose u true ∷ h) ≡ rows table h
rows-ended h l whose u table t fine is other =
    same_entries (rows table (ended whose u true ∷ h)) (rows table h) (rows-in-order table (ended whose u true ∷ h)) (rows-in-order table h) (λ key.
    ap (at key) (in_turn-push (λ v. writes_of table v h) (committed h) u []) ∙ at-put_all key (writes_of table u h) (rows table h)
    ∙ of key (last_of key (writes_of table u h))
    (sym (has_written-last_of key (writes_of table u h))
    ∙ false_from_ne_true (has_written key (writes_of table u h)) (copy-alone h l t table key is u (ender-unended h l whose u true fine) other)))
  where
    of : (key : List Val) (o : Option (Option (List Val))) → is_some o ≡ false → over o (at key (rows table h)) ≡ at key (rows table h)
    of key None none = refl
    of key (Some left) none = absurd (cc)

pub unseen : (table t : ℕ) (q : History) (later : List Mark) → Legal (later ++ began (of_copy table) t ∷ q) → is_copied_by table t (copies (later ++ began (of_copy table) t ∷ q)) ≡ true
    → rows table (later ++ began (of_copy table) t ∷ q) ≡ rows table q
unseen table t q [] l is = refl
unseen table t q (tabled (wrote whose u n key old new) ∷ later) l is =
    let h : History = later ++ began (of_copy table) t ∷ q in
    let below : Legal h = legal-below_mark l in
    in_turn-same (λ v. writes_of table v (tabled (wrote whose u n key old new) ∷ h)) (λ v. writes_of table v h) (committed h) [] (same-writes h below whose u n key old new (alone h below (fine_mark l)) table)
    ∙ unseen table t q later below is
unseen table t q (ended whose u true ∷ later) l is =
    let h : History = later ++ began (of_copy table) t ∷ q in
    let still = still-copied h (legal-below_mark l) whose u true (fine_mark l) table t is in
    rows-ended h (legal-below_mark l) whose u table t (fine_mark l) still.0 still.1 ∙ unseen table t q later (legal-below_mark l) still.0
unseen table t q (mark ∷ later) l is = unseen table t q later (legal-below_mark l) (ran-before table t q later mark l is)

pub copies_are_unseen : CopiesAreUnseen
copies_are_unseen later q table t is runs = unseen table t q later (legal_place (later ++ began (of_copy table) t ∷ q) is) runs
