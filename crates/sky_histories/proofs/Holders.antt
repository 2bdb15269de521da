-- A session holds a key if and only if its running transaction has written it; and who writes a key is alone in this.
use Rattle.std.proofs.Common.{◌≡◌, ℕ, true, false, List, [], ◌∷◌, ◌++◌, Option, Some, None, find, refl, sym, ◌∙◌, ap, arith, if◌then◌else◌, ◌||◌, ◌&&◌, ◌==◌, not}
use Rattle.std.proofs.lemmas.Bool.{or_parts, eqb-true, false_from_ne_true, and_parts}
use Rattle.std.specs.Ordering.{eq_by_cmp}
use Rattle.std.specs.Cmp.{eq_by_cmp_equiv}
use Rattle.std.proofs.lemmas.Bool.Decides.{nat_tests}
use Rattle.sky_val.specs.declared.val.Val.{Val}
use Rattle.sky_val.specs.Order.{key_cmp}
use Rattle.sky_keys.specs.Waits.{other_than}
use Rattle.sky_val.proofs.Orders.{key_cmp-IsTotalOrder}
use Rattle.sky_keys.proofs.EntryLemmas.{key_ties-is}
use Rattle.sky_model.specs.History.{Mark, of_session, of_worker, tabled, wrote, History, Whose, of_copy}
use Rattle.sky_txid.specs.Ids.{contains}
use Rattle.sky_model.specs.Transactions.{next_txid, running, has_ended}
use Rattle.sky_model.specs.Sessions.{own_txid}
use Rattle.sky_model.specs.Rows.{Write, writes as writes_of, has_written, wrote_in, is_read_only}
use Rattle.sky_model.specs.Locks.{holder}
use Rattle.sky_model.specs.LawsOfLocks.{HasWritten}
use Rattle.sky_model.specs.State.{part_of}
use Rattle.sky_model.specs.ShownRows.{least_writer}
use Rattle.sky_histories.proofs.Legal.{brief, Fine, begins, ends, writes, Legal, start, next, begins_work, ends_work, begins_copy, ends_copy, copies_row, applies_row}
use Rattle.sky_histories.proofs.Snapshots.{sound, contains-push, contains-filter, own-unended, runs-unended, copy-runs, copys-of}
use Rattle.sky_model.proofs.Cases.{by_test, by_same}
use Rattle.sky_model.specs.Copies.{copies, is_copied, is_copied_by}
use Rattle.sky_model.specs.Nodes.{node, is_leaf}
use Rattle.sky_histories.proofs.Guarded.{copied_by-push, copied_by-without, copied-by, IsGuarded, copies-guarded, one-copy, unguarded, brief-works, IsUncopied, brief-uncopied}
use Rattle.sky_histories.proofs.WrittenTables.{some, is-written, has-some}

pub turned : (x y : List Val) → eq_by_cmp key_cmp x y ≡ eq_by_cmp key_cmp y x
turned x y = (eq_by_cmp_equiv key_cmp-IsTotalOrder).symm x y

-- one write more
pub has_written-push : (key : List Val) (ws : List Write) (w : Write) → has_written key (ws ++ w ∷ []) ≡ (has_written key ws || eq_by_cmp key_cmp key w.key)
has_written-push key [] w = grind arith
has_written-push key (x ∷ ws) w = grind (arith, has_written-push key ws w)

-- if a key has a holder other than a session, that holder holds the key, and isn't the session
unless-another : (who w : ℕ) (o : Option ℕ) → other_than who o ≡ Some w → (o ≡ Some w) × ((who == w) ≡ false)
unless-another who w None e = absurd (cc)
unless-another who w (Some h) e =
    by_same (λ b. (if b then None else Some h) ≡ Some w → (Some h ≡ Some w) × ((who == w) ≡ false)) h who (λ _ e. absurd (cc))
    (λ apart e. let one : h ≡ w = cc in let other : (who == w) ≡ false = grind (arith, nat_tests) in (e, other)) e

unless-kept : (who w : ℕ) → (who == w) ≡ false → other_than who (Some w) ≡ Some w
unless-kept who w other = (let turned : (w == who) ≡ false = grind (arith, nat_tests) in ap (λ b. if b then None else Some w) turned)

unless-own : (who w : ℕ) → other_than who (Some w) ≡ None → who ≡ w
unless-own who w e = grind (arith, nat_tests)

-- the holder's transaction has written the key
holder-step : (h : History) (mark : Mark) → Fine h mark → Legal h → (table : ℕ) (key : List Val) (who : ℕ)
    → (holder table key h ≡ Some who → HasWritten h table key who) → holder table key (mark ∷ h) ≡ Some who → HasWritten (mark ∷ h) table key who
holder-step h _ (begins v none) l table key who ih e = let w : HasWritten h table key who = ih e in record {
  txid = w.txid;
  runs = by_same (λ b. (if b then Some (next_txid h) else own_txid who h) ≡ Some w.txid) v who (λ one. absurd (cc (sym none ∙ ap (λ x. own_txid x h) one ∙ w.runs))) (λ _. w.runs);
  wrote = w.wrote;
}
holder-step h _ (ends v t c mine) l table key who ih e =
    let both : (holder table key h ≡ Some who) × ((v == who) ≡ false) = unless-another v who (holder table key h) e in
    let w : HasWritten h table key who = ih both.0 in
    record { txid = w.txid; runs = ap (λ b. if b then None else own_txid who h) both.1 ∙ w.runs; wrote = w.wrote }
holder-step h _ (writes v t n at_key old new mine free stands) l table key who ih e =
    by_test (λ b. (if b then Some v else holder table key h) ≡ Some who → HasWritten (tabled (wrote (of_session v) t n at_key old new) ∷ h) table key who) (n == table && eq_by_cmp key_cmp at_key key)
    (λ is e. let one : v ≡ who = cc in record {
      txid = t;
      runs = ap (λ x. own_txid x h) (sym one) ∙ mine;
      wrote = grind (arith, nat_tests, turned key at_key, has_written-push key (writes_of table t h) (record { key = at_key; row = new }));
    })
    (λ _ e. let w : HasWritten h table key who = ih e in record {
      txid = w.txid;
      runs = w.runs;
      wrote = grind (arith, has_written-push key (writes_of table w.txid h) (record { key = at_key; row = new }), w.wrote);
    }) e
holder-step h _ (copies_row n t at_key old new is) l table key who ih e = let w : HasWritten h table key who = ih e in record {
  txid = w.txid;
  runs = w.runs;
  wrote = grind (arith, has_written-push key (writes_of table w.txid h) (record { key = at_key; row = new }), w.wrote);
}
holder-step h _ (applies_row n t at_key old new is) l table key who ih e = let w : HasWritten h table key who = ih e in record {
  txid = w.txid;
  runs = w.runs;
  wrote = grind (arith, has_written-push key (writes_of table w.txid h) (record { key = at_key; row = new }), w.wrote);
}
holder-step h _ _ l table key who ih e = let w : HasWritten h table key who = ih e in record { txid = w.txid; runs = w.runs; wrote = w.wrote }

pub holder-written : (h : History) → Legal h → (table : ℕ) (key : List Val) (who : ℕ) → holder table key h ≡ Some who → HasWritten h table key who
holder-written _ start table key who e = absurd (cc)
holder-written _ (next {h = h} {mark = mark} l fine) table key who e = holder-step h mark fine l table key who (holder-written h l table key who) e

-- one that hasn't ended and has written a key is a session's, which holds the key
record Holding (h : History) (table : ℕ) (key : List Val) (u : ℕ) : Type 0 where
  who : ℕ
  owns : own_txid who h ≡ Some u
  holds : holder table key h ≡ Some who

-- or it is that of a copy of the table, or a worker's that ends in the step in which it began
data Writer (h : History) (table : ℕ) (key : List Val) (u : ℕ) : Type 0 where
  sessions : Holding h table key u → Writer h table key u
  copys : is_copied_by table u (copies h) ≡ true → Writer h table key u
  workers : contains u (brief h) ≡ true → Writer h table key u

abbrev Held : History → ℕ → List Val → Type 0
Held h table key = (u : ℕ) → has_ended h u ≡ false → has_written key (writes_of table u h) ≡ true → Writer h table key u

held-step : (h : History) (mark : Mark) → Fine h mark → Legal h → (table : ℕ) (key : List Val) → Held h table key → Held (mark ∷ h) table key
held-step h _ (begins v none) l table key ih = λ u unended wrote_it. elim (ih u unended wrote_it) [
  | sessions o ↦ sessions (record {
    who = o.who;
    owns = by_same (λ b. (if b then Some (next_txid h) else own_txid o.who h) ≡ Some u) v o.who (λ one. absurd (cc (sym none ∙ ap (λ x. own_txid x h) one ∙ o.owns))) (λ _. o.owns);
    holds = o.holds;
  })
  | copys c ↦ copys c
  | workers w ↦ workers w
]
held-step h _ (ends v t c mine) l table key ih = λ u unended wrote_it.
    let parts = or_parts (u == t) (has_ended h u) unended in
    elim (ih u parts.1 wrote_it) [
      | sessions o ↦
          let apart = another v u t o.who (o.owns) mine parts.0 in
          sessions (record { who = o.who; owns = ap (λ b. if b then None else own_txid o.who h) apart ∙ o.owns; holds = ap (other_than v) o.holds ∙ unless-kept v o.who apart })
      | copys c ↦ copys c
      | workers w ↦ workers w
    ]
  where
    another : (v u t who : ℕ) → own_txid who h ≡ Some u → own_txid v h ≡ Some t → (u == t) ≡ false → (v == who) ≡ false
    another v u t who owns mine other = false_from_ne_true (v == who) (λ is.
        let same : t ≡ u = cc (sym mine ∙ ap (λ x. own_txid x h) (eqb-true v who is) ∙ owns) in absurd (grind (arith, nat_tests)))
held-step h _ begins_work l table key ih = λ u unended wrote_it. elim (ih u unended wrote_it) [
  | sessions o ↦ sessions (record { who = o.who; owns = o.owns; holds = o.holds })
  | copys c ↦ copys c
  | workers w ↦ workers (grind (arith, contains-push u (next_txid h) (brief h), w))
]
held-step h _ (ends_work t c is) l table key ih = λ u unended wrote_it.
    let parts = or_parts (u == t) (has_ended h u) unended in
    elim (ih u parts.1 wrote_it) [
      | sessions o ↦ sessions (record { who = o.who; owns = o.owns; holds = o.holds })
      | copys c ↦ copys c
      | workers w ↦ workers (grind (arith, contains-filter u t (brief h), w, parts.0))
    ]
held-step h _ (begins_copy n may) l table key ih = λ u unended wrote_it. elim (ih u unended wrote_it) [
  | sessions o ↦ sessions (record { who = o.who; owns = o.owns; holds = o.holds })
  | copys c ↦ copys (grind (arith, copied_by-push table u (copies h) (record { table = n; txid = next_txid h }), c))
  | workers w ↦ workers w
]
held-step h _ (ends_copy n t c is) l table key ih = λ u unended wrote_it.
    let parts = or_parts (u == t) (has_ended h u) unended in
    elim (ih u parts.1 wrote_it) [
      | sessions o ↦ sessions (record { who = o.who; owns = o.owns; holds = o.holds })
      | copys c ↦ copys (grind (arith, copied_by-without table t u (copies h), c, parts.0))
      | workers w ↦ workers w
    ]
held-step h _ (writes v t n at_key old new mine free stands) l table key ih = λ u unended wrote_it.
    by_test (λ _. Writer (tabled (wrote (of_session v) t n at_key old new) ∷ h) table key u) ((n == table && eq_by_cmp key_cmp at_key key) && t == u)
    (λ is. sessions (record { who = v; owns = grind (arith, nat_tests); holds = grind (arith, nat_tests) }))
    (λ isnt. elim (ih u unended (grind (arith, nat_tests, turned key at_key, has_written-push key (writes_of table u h) (record { key = at_key; row = new })))) [
      | sessions o ↦ sessions (record { who = o.who; owns = o.owns; holds = grind (arith, nat_tests, turned key at_key, key_ties-is key at_key, o.holds, o.owns) })
      | copys c ↦ copys c
      | workers w ↦ workers w
    ])
held-step h _ (copies_row n t at_key old new is) l table key ih = λ u unended wrote_it.
    by_test (λ _. Writer (tabled (wrote (of_copy n) t n at_key old new) ∷ h) table key u) (n == table && t == u)
    (λ same. let both = and_parts (n == table) (t == u) same in copys ((λ i. is_copied_by (sym (eqb-true n table both.0) i) (sym (eqb-true t u both.1) i) (copies h)) ∙ is.runs))
    (λ isnt. elim (ih u unended (grind (arith, isnt, wrote_it))) [
      | sessions o ↦ sessions (record { who = o.who; owns = o.owns; holds = o.holds })
      | copys c ↦ copys c
      | workers w ↦ workers w
    ])
held-step h _ (applies_row n t at_key old new is) l table key ih = λ u unended wrote_it.
    by_test (λ _. Writer (tabled (wrote of_worker t n at_key old new) ∷ h) table key u) (n == table && t == u)
    (λ same. workers (ap (λ k. contains k (brief h)) (sym (eqb-true t u (and_parts (n == table) (t == u) same).1)) ∙ is.brief.brief))
    (λ isnt. elim (ih u unended (grind (arith, isnt, wrote_it))) [
      | sessions o ↦ sessions (record { who = o.who; owns = o.owns; holds = o.holds })
      | copys c ↦ copys c
      | workers w ↦ workers w
    ])
held-step h _ _ l table key ih = λ u unended wrote_it. elim (ih u unended wrote_it) [
  | sessions o ↦ sessions (record { who = o.who; owns = o.owns; holds = o.holds })
  | copys c ↦ copys c
  | workers w ↦ workers w
]

held : (h : History) → Legal h → (table : ℕ) (key : List Val) → Held h table key
held _ start table key = λ u unended wrote_it. absurd (cc)
held _ (next {h = h} {mark = mark} l fine) table key = held-step h mark fine l table key (held h l table key)

-- a copy's transaction is no session's
pub not-copys : (h : History) → Legal h → (who table t : ℕ) → own_txid who h ≡ Some t → is_copied_by table t (copies h) ≡ true → ⊥
not-copys h l who table t owns is = cc (sym ((sound h l).copying t (copys-of table t (copies h) is)) ∙ (sound h l).nobodys who t owns)

-- nor is a worker's that ends in the step in which it began
not-workers : (h : History) → Legal h → (who t : ℕ) → own_txid who h ≡ Some t → contains t (brief h) ≡ true → ⊥
not-workers h l who t owns is = cc (sym (brief-works h l t is).works ∙ (sound h l).nobodys who t owns)

-- so a session whose running transaction has written a key holds it
pub written-holder : (h : History) → Legal h → (table : ℕ) (key : List Val) (who : ℕ) → HasWritten h table key who → holder table key h ≡ Some who
written-holder h l table key who w = elim (held h l table key w.txid (own-unended h l who w.txid w.runs) w.wrote) [
  | sessions o ↦ o.holds ∙ ap Some ((sound h l).once o.who who w.txid o.owns w.runs)
  | copys c ↦ absurd (not-copys h l who table w.txid w.runs c)
  | workers b ↦ absurd (not-workers h l who w.txid w.runs b)
]

-- ---- who writes a key

-- a transaction that hasn't ended, and no other one that hasn't has written the key
pub record IsAlone (h : History) (t n : ℕ) (key : List Val) : Type 0 where
  pub runs : has_ended h t ≡ false
  pub others : (u : ℕ) → has_ended h u ≡ false → (t == u) ≡ false → has_written key (writes_of n u h) ≡ true → ⊥

-- one that hasn't ended and has written a key of a table has written in the table
pub in-table : (h : History) → Legal h → (n u : ℕ) (key : List Val) → has_ended h u ≡ false → has_written key (writes_of n u h) ≡ true → wrote_in n u h ≡ true
in-table h l n u key unended wrote_it = is-written h l n u ∙ (λ i. not (unended i) && has-some key h n u wrote_it i)

-- a session that writes a key of a table that isn't read-only, and that no other session holds
session-alone : (h : History) → Legal h → (who t n : ℕ) (key : List Val) → own_txid who h ≡ Some t → other_than who (holder n key h) ≡ None → (is_leaf (node h) ≡ true → is_read_only n h ≡ false)
    → (u : ℕ) → has_ended h u ≡ false → (t == u) ≡ false → has_written key (writes_of n u h) ≡ true → ⊥
session-alone h l who t n key mine free writable u unended other wrote_it = elim (held h l n key u unended wrote_it) [
  | sessions o ↦
      let one : who ≡ o.who = unless-own who o.who (sym (ap (other_than who) o.holds) ∙ free) in
      let same : t ≡ u = cc (sym mine ∙ ap (λ x. own_txid x h) one ∙ o.owns) in
      grind (arith, nat_tests)
  | copys c ↦
      let g : IsGuarded h n = copies-guarded h l n (copied-by n u (copies h) c) in
      cc (sym (writable g.leaf) ∙ g.guarded)
  | workers w ↦
      let g : IsGuarded h n = (brief-uncopied h l n u w (in-table h l n u key unended wrote_it)).guard in
      cc (sym (writable g.leaf) ∙ g.guarded)
]

-- a session's running transaction has written no key of a leaf's read-only table
session-unwritten : (h : History) → Legal h → (n u who : ℕ) (key : List Val) → own_txid who h ≡ Some u → IsGuarded h n → has_ended h u ≡ false → has_written key (writes_of n u h) ≡ true → ⊥
session-unwritten h l n u who key owns g unended wrote_it = cc (sym (unguarded h l who u n owns (in-table h l n u key unended wrote_it) g.leaf) ∙ g.guarded)

-- a copy that writes one of its table
pub copy-alone : (h : History) → Legal h → (t n : ℕ) (key : List Val) → is_copied_by n t (copies h) ≡ true
    → (u : ℕ) → has_ended h u ≡ false → (t == u) ≡ false → has_written key (writes_of n u h) ≡ true → ⊥
copy-alone h l t n key is u unended other wrote_it = elim (held h l n key u unended wrote_it) [
  | sessions o ↦ session-unwritten h l n u o.who key o.owns (copies-guarded h l n (copied-by n t (copies h) is)) unended wrote_it
  | copys c ↦ let same : t ≡ u = one-copy h l n t u is c in grind (arith, nat_tests)
  | workers w ↦ cc (sym (copied-by n t (copies h) is) ∙ (brief-uncopied h l n u w (in-table h l n u key unended wrote_it)).uncopied)
]

-- a worker that writes one of a table of which no copy runs, and that no other running transaction has written
worker-alone : (h : History) → Legal h → (t n : ℕ) (key : List Val) → ((u : ℕ) → contains u (running h) ≡ true → (t == u) ≡ false → wrote_in n u h ≡ false) → is_copied n (copies h) ≡ false
    → (u : ℕ) → has_ended h u ≡ false → (t == u) ≡ false → has_written key (writes_of n u h) ≡ true → ⊥
worker-alone h l t n key others uncopied u unended other wrote_it =
    let there : wrote_in n u h ≡ true = in-table h l n u key unended wrote_it in
    elim (held h l n key u unended wrote_it) [
      | sessions o ↦ cc (sym there ∙ others u ((sound h l).owns o.who u o.owns) other)
      | copys c ↦ cc (sym (copied-by n u (copies h) c) ∙ uncopied)
      | workers w ↦ cc (sym there ∙ others u ((sound h l).works u (brief-works h l u w).works) other)
    ]

pub alone : (h : History) → Legal h → {whose : Whose} {t n : ℕ} {key : List Val} {old new : Option (List Val)} → Fine h (tabled (wrote whose t n key old new)) → IsAlone h t n key
alone h l (writes who t n key old new mine free stands) = record { runs = own-unended h l who t mine; others = session-alone h l who t n key mine free stands.writable }
alone h l (copies_row n t key old new is) =
    record { runs = runs-unended h (sound h l) t (copy-runs h (sound h l) n t is.runs); others = copy-alone h l t n key is.runs }
alone h l (applies_row n t key old new is) =
    record { runs = runs-unended h (sound h l) t ((sound h l).works t is.brief.work.works); others = worker-alone h l t n key is.alone is.uncopied }

-- ---- a leaf's table that isn't copied

-- no running transaction has written one, while no worker's runs that ends in the step in which it began
pub guarded-unwritten : (h : History) → Legal h → brief h ≡ [] → (n : ℕ) → IsUncopied h n → least_writer (part_of h) n ≡ None
guarded-unwritten h l idle n g = of (running h) (λ u runs. runs)
  where
    same-key : (key : List Val) (ws : List Write) → (eq_by_cmp key_cmp key key || has_written key ws) ≡ true
    same-key key ws = ap (λ b. b || has_written key ws) ((eq_by_cmp_equiv key_cmp-IsTotalOrder).refl key)

    by-key : (u : ℕ) → has_ended h u ≡ false → (ws : List Write) → ((key : List Val) → has_written key ws ≡ true → has_written key (writes_of n u h) ≡ true) → some ws ≡ true → ⊥
    by-key u unended [] own is = absurd (cc)
    by-key u unended (w ∷ ws) own is =
        let wrote_it : has_written w.key (writes_of n u h) ≡ true = own w.key (same-key w.key ws) in
        elim (held h l n w.key u unended wrote_it) [
          | sessions o ↦ session-unwritten h l n u o.who w.key o.owns g.guard unended wrote_it
          | copys c ↦ cc (sym (copied-by n u (copies h) c) ∙ g.uncopied)
          | workers b ↦ cc (sym b ∙ ap (contains u) idle)
        ]

    none : (u : ℕ) → contains u (running h) ≡ true → wrote_in n u h ≡ false
    none u runs = false_from_ne_true (wrote_in n u h) (λ there.
        let parts = and_parts (not (has_ended h u)) (some (writes_of n u h)) (sym (is-written h l n u) ∙ there) in
        by-key u (runs-unended h (sound h l) u runs) (writes_of n u h) (λ key is. is) parts.1)

    of : (ts : List ℕ) → ((u : ℕ) → contains u ts ≡ true → contains u (running h) ≡ true) → find (λ u. wrote_in n u h) ts ≡ None
    of [] within = refl
    of (u ∷ ts) within =
        let first : wrote_in n u h ≡ false = none u (within u (grind (arith, nat_tests))) in
        ap (λ b. if b then Some u else find (λ v. wrote_in n v h) ts) first ∙ of ts (λ v is. within v (grind (arith, is)))
