-- What a waiting session attempts fits its table and its key, as it did when it began to wait.
use Rattle.std.proofs.Common.{◌≡◌, inl, inr, ℕ, ◌+◌, ◌<◌, Bool, true, false, List, [], ◌∷◌, ◌++◌, Some, length, refl, sym, ◌∙◌, ap, subst, arith, if◌then◌else◌, length-append, slice_index_or, ◌||◌, ◌==◌, not, find, All}
use Rattle.std.proofs.lemmas.Bool.{false_from_ne_true, not-true}
use Rattle.std.proofs.lemmas.Bool.Decides.{nat_tests}
use Rattle.std.proofs.lemmas.List.Elements.{All-nil, All-head, All-tail, All-push, All-weaker, All-filter, filter_passes}
use Rattle.std.proofs.lemmas.List.Folds.{list_any_at}
use Rattle.sky_val.specs.declared.column.Column.{Column}
use Rattle.sky_keys.specs.Waits.{Waiting, is_waiting, without}
use Rattle.sky_keys.proofs.WaitLemmas.{is_waiting-without}
use Rattle.sky_model.specs.declared.stmt.Attempt.TheVariants.{Deletion}
use Rattle.sky_model.specs.History.{Mark, connected, disconnected, tabled, table_made, read_only, waits, waited, noded, History}
use Rattle.sky_model.specs.Sessions.{has_open}
use Rattle.sky_model.specs.Rows.{table_names, columns_of, is_read_only}
use Rattle.sky_model.specs.Nodes.{node, is_leaf}
use Rattle.sky_model.specs.Locks.{waiting, attempt}
use Rattle.sky_model.specs.State.{part_of}
use Rattle.sky_model.specs.Settling.{ready}
use Rattle.sky_histories.proofs.Good.{same-session}
use Rattle.sky_histories.proofs.Legal.{AttemptFits, MayWait, Fine, connects, disconnects, makes_table, begins_waiting, ends_waiting, nodes, guards, without_node, at_joining, at_leaving, Legal, start, next}
use Rattle.sky_histories.proofs.NodeReadings.{leaf-before}
use Rattle.sky_model.proofs.Cases.{by_test, by_same}

-- ---- the entries of a list

-- of a session that isn't among them they are others
others : (who : ℕ) (ws : List Waiting) → is_waiting who ws ≡ false → All (λ w. (w.who == who) ≡ false) ws
others who ws quiet k d within = false_from_ne_true ((slice_index_or ws k d).who == who) (λ e. absurd (cc (sym quiet ∙ list_any_at (λ w. w.who == who) ws k d within e)))

-- those that are left without a session's are
left-others : (who : ℕ) (ws : List Waiting) → All (λ w. (w.who == who) ≡ false) (without who ws)
left-others who ws k d within = not-true ((slice_index_or (without who ws) k d).who == who) (filter_passes (λ w. not (w.who == who)) ws k d within)

found-one : (P : Waiting → Type 0) (p : Waiting → Bool) (ws : List Waiting) (w : Waiting) → All P ws → find p ws ≡ Some w → P w
found-one P p [] w all e = absurd (cc)
found-one P p (x ∷ ws) w all e =
    by_test (λ b. (if b then Some x else find p ws) ≡ Some w → P w) (p x) (λ _ is. (let one : x ≡ w = cc in subst P one (All-head P x ws all))) (λ _. found-one P p ws w (All-tail P x ws all)) e

-- ---- those that wait

record EntryFits (h : History) (w : Waiting) : Type 0 where
  within : w.table < length (table_names h)
  writable : is_leaf (node h) ≡ true → is_read_only w.table h ≡ false
  fits : AttemptFits (columns_of w.table h) w.key (attempt w.who h)
  is_open : has_open w.who h ≡ true

abbrev AllFit : History → Type 0
AllFit h = All (EntryFits h) (waiting h)

fit-step : (h : History) (mark : Mark) → Fine h mark → AllFit h → AllFit (mark ∷ h)
fit-step h _ (makes_table name columns new) all = All-weaker (EntryFits h) (EntryFits (tabled (table_made name columns) ∷ h)) still (waiting h) all
  where
    still : (w : Waiting) → EntryFits h w → EntryFits (tabled (table_made name columns) ∷ h) w
    still w is = record {
      within = (let more : length (table_names h ++ name ∷ []) ≡ length (table_names h) + 1 = length-append (table_names h) (name ∷ []) in let below : w.table < length (table_names h) = is.within in omega (arith, more, below));
      writable = is.writable;
      fits = subst (λ (cs : List Column). AttemptFits cs w.key (attempt w.who h)) (sym (ap (λ b. if b then columns else columns_of w.table h) (other is.within))) is.fits;
      is_open = is.is_open;
    }
      where
        other : w.table < length (table_names h) → (length (table_names h) == w.table) ≡ false
        other below = grind (arith, nat_tests)
fit-step h _ (begins_waiting who table key attempted may) all =
    All-push (EntryFits g) (waiting h) (record { who = who; table = table; key = key })
    (λ k d within. still _ (others who (waiting h) may.quiet k d within) (all k d within))
    (record { within = may.within; writable = may.writable; fits = subst (AttemptFits (columns_of table h) key) (sym (ap (λ b. if b then attempted else attempt who h) (same-session who))) may.fits; is_open = may.is_open })
  where
    g : History
    g = tabled (waits who table key attempted) ∷ h

    still : (w : Waiting) → (w.who == who) ≡ false → EntryFits h w → EntryFits g w
    still w apart is =
        let turned : (who == w.who) ≡ false = grind (arith, nat_tests) in
        record { within = is.within; writable = is.writable; fits = subst (AttemptFits (columns_of w.table h) w.key) (sym (ap (λ b. if b then attempted else attempt w.who h) turned)) is.fits; is_open = is.is_open }
fit-step h _ (ends_waiting who) all = λ k d within. still _ (left-others who (waiting h) k d within) (All-filter (λ w. not (w.who == who)) (EntryFits h) (waiting h) all k d within)
  where
    still : (w : Waiting) → (w.who == who) ≡ false → EntryFits h w → EntryFits (tabled (waited who) ∷ h) w
    still w apart is =
        let turned : (who == w.who) ≡ false = grind (arith, nat_tests) in
        record { within = is.within; writable = is.writable; fits = subst (AttemptFits (columns_of w.table h) w.key) (sym (ap (λ b. if b then Deletion else attempt w.who h) turned)) is.fits; is_open = is.is_open }
fit-step h _ (connects who e) all = All-weaker (EntryFits h) (EntryFits (connected who ∷ h)) (λ w is. record { within = is.within; writable = is.writable; fits = is.fits; is_open = grind (arith, is.is_open) }) (waiting h) all
fit-step h _ (disconnects who quiet away) all = λ k d within. still _ (others who (waiting h) quiet k d within) (all k d within)
  where
    still : (w : Waiting) → (w.who == who) ≡ false → EntryFits h w → EntryFits (disconnected who ∷ h) w
    still w apart is =
        let turned : (who == w.who) ≡ false = grind (arith, nat_tests) in
        record { within = is.within; writable = is.writable; fits = is.fits; is_open = ap (λ b. if b then false else has_open w.who h) turned ∙ is.is_open }
fit-step h _ (nodes mark fits) all = All-weaker (EntryFits h) (EntryFits (noded mark ∷ h)) still (waiting h) all
  where
    still : (w : Waiting) → EntryFits h w → EntryFits (noded mark ∷ h) w
    still w is = record {
      within = is.within;
      writable = λ leaf. elim (leaf-before h mark fits leaf) [
        | inl was ↦ is.writable was
        | inr free ↦ free w.table
      ];
      fits = is.fits;
      is_open = is.is_open;
    }
fit-step h _ (guards _ _ (without_node table on bare)) all = All-weaker (EntryFits h) (EntryFits (tabled (read_only table on) ∷ h)) still (waiting h) all
  where
    still : (w : Waiting) → EntryFits h w → EntryFits (tabled (read_only table on) ∷ h) w
    still w is = record { within = is.within; writable = λ leaf. absurd (cc (sym leaf ∙ ap is_leaf bare)); fits = is.fits; is_open = is.is_open }
fit-step h _ (guards _ _ (at_joining table last unused)) all = λ k d within. still _ (unused.unawaited k d within) (all k d within)
  where
    still : (w : Waiting) → (w.table == table) ≡ false → EntryFits h w → EntryFits (tabled (read_only table true) ∷ h) w
    still w apart is =
        let turned : (table == w.table) ≡ false = grind (arith, nat_tests) in
        record { within = is.within; writable = λ leaf. ap (λ b. if b then true else is_read_only w.table h) turned ∙ is.writable leaf; fits = is.fits; is_open = is.is_open }
fit-step h _ (guards _ _ (at_leaving table last uncopied unwritten)) all = All-weaker (EntryFits h) (EntryFits (tabled (read_only table false) ∷ h)) still (waiting h) all
  where
    still : (w : Waiting) → EntryFits h w → EntryFits (tabled (read_only table false) ∷ h) w
    still w is = record {
      within = is.within;
      writable = λ leaf. by_test (λ b. (if b then false else is_read_only w.table h) ≡ false) (table == w.table) (λ _. refl) (λ _. is.writable leaf);
      fits = is.fits;
      is_open = is.is_open;
    }
fit-step h mark _ all = All-weaker (EntryFits h) (EntryFits (mark ∷ h)) (λ w is. record { within = is.within; writable = is.writable; fits = is.fits; is_open = is.is_open }) (waiting h) all

all-fit : (h : History) → Legal h → AllFit h
all-fit _ start = All-nil (EntryFits [])
all-fit _ (next {h = h} {mark = mark} l fine) = fit-step h mark fine (all-fit h l)

-- the one that is ready may attempt it once it no longer waits
pub may_go_on : (h : History) → Legal h → (w : Waiting) → ready (part_of h) ≡ Some w → MayWait (part_of (tabled (waited w.who) ∷ h)) (node h) w.who w.table w.key (attempt w.who h)
may_go_on h l w is =
    let e : EntryFits h w = found-one (EntryFits h) _ (waiting h) w (all-fit h l) is in
    record { within = e.within; writable = e.writable; fits = e.fits; quiet = is_waiting-without w.who (waiting h); is_open = e.is_open }

waiter-open : (h : History) (who : ℕ) (ws : List Waiting) → All (EntryFits h) ws → is_waiting who ws ≡ true → has_open who h ≡ true
waiter-open h who [] all e = absurd (cc)
waiter-open h who (w ∷ ws) all e =
    by_same (λ b. (b || is_waiting who ws) ≡ true → has_open who h ≡ true) w.who who (λ one _. ap (λ n. has_open n h) (sym one) ∙ (All-head (EntryFits h) w ws all).is_open)
    (λ _. waiter-open h who ws (All-tail (EntryFits h) w ws all)) e

-- a session that waits has the database open
pub waits-open : (h : History) → Legal h → (who : ℕ) → is_waiting who (waiting h) ≡ true → has_open who h ≡ true
waits-open h l who is = waiter-open h who (waiting h) (all-fit h l) is
