-- The events of a table between two places apply to its rows at the one, and give those at the other.
use Rattle.std.proofs.Common.{◌≡◌, inl, inr, ℕ, Bool, true, false, not, ◌&&◌, ◌==◌, List, [], ◌∷◌, ◌++◌, Option, Some, None, filter, refl, sym, ◌∙◌, ap, subst, if◌then◌else◌, append-nil}
use Rattle.std.proofs.lemmas.Bool.{and_parts, not-true, true_from_ne_false, false_from_ne_true}
use Rattle.std.proofs.lemmas.List.Elements.{filter-append}
use Rattle.sky_val.specs.declared.val.Val.{Val}
use Rattle.sky_val.specs.declared.column.Column.{Column}
use Rattle.sky_val.specs.declared.event.Event.{Event}
use Rattle.sky_val.specs.Entries.{Entries, at}
use Rattle.sky_names.specs.Places.{place_of}
use Rattle.sky_names.proofs.PlaceLemmas.{slice_get-place_of, place_of_within}
use Rattle.londiste_state.specs.Nodes.{Node, of_root, of_leaf}
use Rattle.sky_urlenc.specs.Changes.{changed, put, allows, applies, change_of, after_op, may_do}
use Rattle.sky_model.specs.History.{Mark, Whose, tabled, wrote, queued, put as event_put, History}
use Rattle.sky_model.specs.Transactions.{has_ended, has_committed}
use Rattle.sky_model.specs.Nodes.{node, is_root, set_tables}
use Rattle.sky_model.specs.Queues.{queues, events}
use Rattle.sky_model.specs.Rows.{table_names, columns_of, rows}
use Rattle.sky_model.specs.Rows as rows_of
use Rattle.sky_model.specs.State.{database_of}
use Rattle.sky_model.specs.Promises.{after_all}
use Rattle.sky_model.specs.DatabaseCalls.{database_part}
use Rattle.sky_histories.proofs.Legal.{queue_of_set, Fine, puts, puts_back, Legal, legal-below_mark, fine_mark}
use Rattle.sky_histories.proofs.Histories.{legal_calls}
use Rattle.sky_histories.proofs.Holders.{alone}
use Rattle.sky_histories.proofs.NodeReadings.{set-number}
use Rattle.sky_histories.proofs.Snapshots.{sound, runs-unended, own-unended}
use Rattle.sky_histories.proofs.RowSights.{Since, here, later, legal-since, ended-since}
use Rattle.sky_model.proofs.Cases.{by_test, by_same}
use Rattle.sky_histories.proofs.Good.{same-session}
use Rattle.sky_laws_changes.specs.TableEvents.{table_events}
use Rattle.sky_laws_changes.specs.Listing.{IsListed, StaysListed}
use Rattle.sky_laws_changes.specs.LawsOfChanges.{Give, EventsGiveRows}
use Rattle.sky_laws_changes.proofs.WriteLists.{Written, Set, but, Within, after, FirstIn, OldIs, Meets, writes-give, writes-meet}
use Rattle.sky_laws_changes.proofs.Places.{since-below, since-joined, since-or, either-since, from-below, to-below, committed-ended, uncommitted-since, committed-then}
use Rattle.sky_laws_changes.proofs.TableWrites.{is_listed, written, rows-left, within, first-in, old-are}
use Rattle.sky_laws_changes.proofs.CutCalls.{cut_calls}
use Rattle.sky_laws_changes.proofs.SetTriggers.{queue_at, KeepsSet, keeps-set}
use Rattle.sky_laws_changes.proofs.ListedTables.{place-kept, place-of-own, columns-kept, among-one, OthersEnded, others-ended}
use Rattle.sky_laws_changes.proofs.ToldEvents.{is_event, Says, Tells, none_told, untold, told}
use Rattle.sky_laws_changes.proofs.CutTells.{AtTable, cut-tells}

-- ---- events that say what writes did do it

put-append : (columns : List Column) (rows : Entries (List Val)) (xs ys : List Event) → put columns rows (xs ++ ys) ≡ put columns (put columns rows xs) ys
put-append columns rows [] ys = refl
put-append columns rows (x ∷ xs) ys = put-append columns (changed columns (change_of columns x) rows) xs ys

applies-append : (columns : List Column) (rows : Entries (List Val)) (xs ys : List Event) → applies columns rows (xs ++ ys) ≡ (applies columns rows xs && applies columns (put columns rows xs) ys)
applies-append columns rows [] ys = refl
applies-append columns rows (x ∷ xs) ys =
    ap (λ b. allows columns (change_of columns x) rows && b) (applies-append columns (changed columns (change_of columns x) rows) xs ys)
    ∙ grouped (allows columns (change_of columns x) rows) (applies columns (changed columns (change_of columns x) rows) xs) _
  where
    grouped : (a b c : Bool) → (a && (b && c)) ≡ ((a && b) && c)
    grouped true b c = refl
    grouped false b c = refl

-- all writes of some transactions were made while the table was in the set
abbrev AllListed : Set → List Written → Type 0
AllListed s [] = Unit {0}
AllListed s (w ∷ ws) = (s w.by ≡ true → w.listed ≡ true) × AllListed s ws

-- the events of these transactions
abbrev of_set : Set → List Event → List Event
of_set s es = filter (λ e. s e.ev_txid) es

says-put : (columns : List Column) (e : Event) (w : Written) → Says columns e w → (rows : Entries (List Val)) → changed columns (change_of columns e) rows ≡ rows_of.put w.key w.new rows
says-put columns e w is rows = ap (λ o. changed columns o rows) is.is ∙ ap (λ k. after_op is.did.op k is.did.row rows) is.key ∙ is.does rows

unset : (s : Set) (w : Written) → (s w.by ≡ true → w.listed ≡ true) → w.listed ≡ false → s w.by ≡ false
unset s w listed isnt = false_from_ne_true (s w.by) (λ is. absurd (cc (sym isnt ∙ listed is)))

tells-put : (columns : List Column) (s : Set) {es : List Event} {ws : List Written} → Tells columns es ws → AllListed s ws → (rows : Entries (List Val)) → put columns rows (of_set s es) ≡ after s ws rows
tells-put columns s none_told all rows = refl
tells-put columns s (untold {ws = ws} w isnt more) all rows =
    tells-put columns s more all.1 rows ∙ sym (ap (λ b. if b then rows_of.put w.key w.new (after s ws rows) else after s ws rows) (unset s w all.0 isnt))
tells-put columns s (told {es = es} {ws = ws} w e is more) all rows =
    ap (put columns rows) (filter-append (λ x. s x.ev_txid) es (e ∷ []) ∙ ap (λ b. of_set s es ++ (if b then e ∷ [] else [])) (ap s is.by))
    ∙ put-append columns rows (of_set s es) (if s w.by then e ∷ [] else [])
    ∙ ap (λ r. put columns r (if s w.by then e ∷ [] else [])) (tells-put columns s more all.1 rows)
    ∙ by_test (λ b. put columns (after s ws rows) (if b then e ∷ [] else []) ≡ (if b then rows_of.put w.key w.new (after s ws rows) else after s ws rows)) (s w.by)
    (λ _. says-put columns e w is (after s ws rows)) (λ _. refl)

module _ (columns : List Column) (a b : Set) (in_all : Within a b) where
  allowed-by : (e : Event) (w : Written) → Says columns e w → (rows : Entries (List Val)) → at w.key rows ≡ w.old → applies columns rows (e ∷ []) ≡ true
  allowed-by e w is rows there =
      ap (λ o. allows columns o rows && true) is.is ∙ ap (λ k. may_do is.did.op k rows && true) is.key ∙ ap (λ c. c && true) (is.may rows there)

  tells-apply : {es : List Event} {ws : List Written} → Tells columns es ws → AllListed (but b a) ws → (rows : Entries (List Val)) → Meets a b in_all ws rows → applies columns rows (of_set (but b a) es) ≡ true
  tells-apply none_told all rows meets = refl
  tells-apply (untold w isnt more) all rows meets = tells-apply more all.1 rows meets.1
  tells-apply (told {es = es} {ws = ws} w e is more) all rows meets =
      ap (applies columns rows) (filter-append (λ x. but b a x.ev_txid) es (e ∷ []) ∙ ap (λ c. of_set (but b a) es ++ (if c then e ∷ [] else [])) (ap (but b a) is.by))
      ∙ applies-append columns rows (of_set (but b a) es) (if but b a w.by then e ∷ [] else [])
      ∙ (λ i. tells-apply more all.1 rows meets.1 i && applies columns (tells-put columns (but b a) more all.1 rows i) (if but b a w.by then e ∷ [] else []))
      ∙ by_test (λ c. but b a w.by ≡ c → applies columns (after (but b a) ws rows) (if c then e ∷ [] else []) ≡ true) (but b a w.by)
      (λ _ in_set. allowed-by e w is (after (but b a) ws rows) (meets.0 in_set)) (λ _ _. refl) refl

-- ---- two places

module _ (n : ℕ) (name : List ℕ) (q : ℕ) (p r top : History) (low : Since p r) (high : Since r top) (l : Legal top)
    (there : place_of name (table_names p) ≡ Some n) (stays : StaysListed p r q name) where
  -- the transactions between them
  abbrev since : Set
  since = but (has_committed r) (has_committed p)

  lr : Legal r
  lr = legal-since high l

  listed-at : (x : History) → Since p x → Since x r → is_listed n x ≡ true
  listed-at x above below =
      let is : IsListed x q name = stays x (to-below above) (to-below below) in
      among-one (table_names x) (set_tables (node x)) name n (place-kept name n above there) is.among

  others-rest : (e : History) (mark : Mark) (h : History) → OthersEnded e (written n (mark ∷ h)) → OthersEnded e (written n h)
  others-rest e (tabled (wrote whose t m key old new)) h =
      by_test (λ b. OthersEnded e (if b then record { by = t; key = key; old = old; new = new; listed = is_listed n h } ∷ written n h else written n h) → OthersEnded e (written n h)) (m == n) (λ _ all. all.1) (λ _ all. all)
  others-rest e _ h = λ all. all

  -- what is so of one of the writes
  entry-of : (e : History) {whose : Whose} {t m : ℕ} {key : List Val} {old new : Option (List Val)} {y x : History} → Since (tabled (wrote whose t m key old new) ∷ y) x → m ≡ n
      → OthersEnded e (written n x) → is_listed n y ≡ false → has_ended e t ≡ true
  entry-of e {t = t} {m = m} {key = key} {old = old} {new = new} {y = y} here same all isnt =
      (subst (λ b. OthersEnded e (if b then record { by = t; key = key; old = old; new = new; listed = is_listed n y } ∷ written n y else written n y)) (ap (λ k. k == n) same ∙ same-session n) all).0 isnt
  entry-of e (later {h = h} {mark = mark} s) same all isnt = entry-of e s same (others-rest e mark h all) isnt

  all-listed : (x : History) → Since x top → AllListed since (written n x)
  all-listed [] s = tt
  all-listed (tabled (wrote whose t m key old new) ∷ y) s =
      by_same (λ b. AllListed since (if b then record { by = t; key = key; old = old; new = new; listed = is_listed n y } ∷ written n y else written n y)) m n
      (λ same. (λ is. listed_so same is, all-listed y (since-below s))) (λ _. all-listed y (since-below s))
    where
      listed_so : m ≡ n → since t ≡ true → is_listed n y ≡ true
      listed_so same is = elim (either-since (since-below s) high) [
        | inl up ↦ elim (either-since s (since-joined low high)) [
          | inl below_p ↦ if_below below_p
          | inr above_p ↦ if_above above_p up
        ]
        | inr down ↦ absurd (cc (sym (alone y ly (fine_mark below)).runs ∙ ended-since down t (committed-ended r lr t both.0)))
      ]
        where
          below : Legal (tabled (wrote whose t m key old new) ∷ y)
          below = legal-since s l

          ly : Legal y
          ly = legal-below_mark below

          both : (has_committed r t ≡ true) × (not (has_committed p t) ≡ true)
          both = and_parts (has_committed r t) (not (has_committed p t)) is

          -- the transaction hadn't ended at the earlier place
          unended : has_ended p t ≡ true → ⊥
          unended over = cc (sym (not-true (has_committed p t) both.1) ∙ committed-then low lr t over both.0)

          if_below : Since (tabled (wrote whose t m key old new) ∷ y) p → is_listed n y ≡ true
          if_below s_p = true_from_ne_false (is_listed n y) (λ isnt. unended (entry-of p s_p same (others-ended n p (legal-since low lr) (listed-at p here low)) isnt))

          if_above : Since p (tabled (wrote whose t m key old new) ∷ y) → Since y r → is_listed n y ≡ true
          if_above s_p up = elim (since-or p (tabled (wrote whose t m key old new)) y s_p) [
            | inl same ↦ if_below (subst (λ x. Since x p) same here)
            | inr s_y ↦ listed-at y s_y up
          ]
  all-listed (_ ∷ y) s = all-listed y (since-below s)

  -- an event that was put above the later place isn't of these
  put-running : (h : History) → Legal h → {k : ℕ} {e : Event} → Fine h (queued (event_put k e)) → has_ended h e.ev_txid ≡ false
  put-running h lh (puts who k e i id mine newest) = own-unended h lh who e.ev_txid mine
  put-running h lh (puts_back retry t back) = runs-unended h (sound h lh) t ((sound h lh).works t back.works)

  one-less : (es : List Event) (e : Event) → since e.ev_txid ≡ false → of_set since (table_events name (es ++ e ∷ [])) ≡ of_set since (table_events name es)
  one-less es e isnt =
      ap (of_set since) (filter-append (is_event name) es (e ∷ []))
      ∙ filter-append (λ x. since x.ev_txid) (table_events name es) (table_events name (e ∷ []))
      ∙ ap (λ more. of_set since (table_events name es) ++ more)
      (by_test (λ b. of_set since (if b then e ∷ [] else []) ≡ []) (is_event name e) (λ _. ap (λ b. if b then e ∷ [] else []) isnt) (λ _. refl))
      ∙ append-nil (of_set since (table_events name es))

  pub events-above : {h t : History} → Since h t → Since r h → Legal t → of_set since (table_events name (events q t)) ≡ of_set since (table_events name (events q h))
  events-above here up lt = refl
  events-above (later {h = h} {mark = queued (event_put k e)} s) up lt =
      let unset_one : since e.ev_txid ≡ false = ap (λ b. b && not (has_committed p e.ev_txid)) (uncommitted-since (since-joined up s) (legal-below_mark lt) e.ev_txid (put-running h (legal-below_mark lt) (fine_mark lt))) in
      by_test (λ b. of_set since (table_events name (if b then events q h ++ e ∷ [] else events q h)) ≡ of_set since (table_events name (events q h))) (k == q) (λ _. one-less (events q h) e unset_one) (λ _. refl)
      ∙ events-above s up (legal-below_mark lt)
  events-above (later s) up lt = events-above s up (legal-below_mark lt)

  -- ---- the law

  pub gives : Tells (columns_of n p) (table_events name (events q top)) (written n top) → Give (columns_of n p) (rows n p) (of_set since (table_events name (events q top))) (rows n r)
  gives tells = record {
    apply = ap (λ x. applies (columns_of n p) x (of_set since (table_events name (events q top)))) before
        ∙ tells-apply (columns_of n p) (has_committed p) (has_committed r) in_all tells (all-listed top here) (after (has_committed p) (written n top) []) (writes-meet (has_committed p) (has_committed r) in_all (written n top) first old);
    give = ap (λ x. put (columns_of n p) x (of_set since (table_events name (events q top)))) before
        ∙ tells-put (columns_of n p) since tells (all-listed top here) (after (has_committed p) (written n top) [])
        ∙ writes-give (has_committed p) (has_committed r) in_all (written n top) first ∙ sym (rows-left n high l);
  }
    where
      in_all : Within (has_committed p) (has_committed r)
      in_all = within n p r top low high l

      first : FirstIn (has_committed p) (has_committed r) (written n top)
      first = first-in n p r top low high l top here

      old : OldIs (has_committed r) (written n top)
      old = old-are n p r top low high l top here

      before : rows n p ≡ after (has_committed p) (written n top) []
      before = rows-left n (since-joined low high) l

-- a database whose set has a queue is a root's
pub root-of : (h : History) (q : ℕ) → queue_at h ≡ Some q → is_root (node h) ≡ true
root-of h q is = of (node h) is
  where
    of : (m : Option Node) → queue_of_set (queues h) m ≡ Some q → is_root m ≡ true
    of None e = absurd (cc)
    of (Some (of_root x)) e = refl
    of (Some (of_leaf x)) e = absurd (cc)

pub events_give_rows : EventsGiveRows
events_give_rows h p r place pr rh q n name there stays =
    subst (λ es. Give (columns_of n p) (rows n p) es (rows n r)) (events-above n name q p r top low high l there stays h_top h_r l)
    (gives n name q p r top low high l there stays (cut-tells n name (columns_of n p) q top (cut_calls place.calls place.in_form) l set.root (set.queue ∙ at_p) known))
  where
    top : History
    top = after_all database_part place.calls

    l : Legal top
    l = legal_calls place.calls

    h_top : Since h top
    h_top = from-below h top (record { later = place.later; reaches = place.below })

    low : Since p r
    low = from-below p r pr

    h_r : Since r h
    h_r = from-below r h rh

    high : Since r top
    high = since-joined h_r h_top

    p_top : Since p top
    p_top = since-joined low high

    at_p : queue_at p ≡ Some q
    at_p = sym (set-number (database_of p)) ∙ (stays p (to-below here) pr).set

    set : KeepsSet p top
    set = keeps-set p_top l (root-of p q at_p)

    placed : place_of name (table_names top) ≡ Some n
    placed = place-kept name n p_top there

    known : AtTable n name (columns_of n p) top
    known = record {
      named = λ _. slice_get-place_of name (table_names top) n placed;
      only = λ m is. let same : Some m ≡ Some n = sym (place-of-own top l m name is) ∙ placed in cc;
      columns_are = λ _. columns-kept n p_top (place_of_within name (table_names p) n there);
    }
