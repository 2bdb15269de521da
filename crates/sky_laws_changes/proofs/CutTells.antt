-- In the queue of a set the events of a table say what its writes did while it was in the set.
use Rattle.std.proofs.Common.{◌≡◌, ℕ, zero, suc, ◌+◌, ◌<◌, ℤ, Bool, true, false, not, ◌&&◌, ◌==◌, List, [], ◌∷◌, ◌++◌, Option, Some, None, Ok, IfSome, is_none, is_some, length, filter, map, bytes_eq, slice_get, unwrap_or, refl, sym, ◌∙◌, ap, subst, arith, if◌then◌else◌, append-nil, length-append}
use Rattle.std.proofs.lemmas.Bool.{false_from_ne_true}
use Rattle.std.proofs.lemmas.Bool.Decides.{nat_tests}
use Rattle.std.proofs.lemmas.List.Elements.{filter-append}
use Rattle.sky_val.specs.declared.val.Val.{Val}
use Rattle.sky_val.specs.declared.column.Column.{Column}
use Rattle.sky_val.specs.declared.event.Event.{Event}
use Rattle.sky_names.proofs.PlaceLemmas.{bytes_eq_refl, same_name}
use Rattle.pgq_retry.specs.declared.retry.Retry.{Retry}
use Rattle.londiste_state.specs.Nodes.{Node, of_root, of_leaf}
use Rattle.sky_urlenc.specs.RowEvents.{Trigger, TracedWrite, leaves_out, event_of}
use Rattle.sky_model.specs.History.{Mark, of_session, tabled, table_made, wrote, queued, raised, put, returned, set_added, set_removed, History}
use Rattle.sky_model.specs.Nodes.{after_node, node, is_root, is_leaf}
use Rattle.sky_model.specs.Queues.{queues_made, queues, events}
use Rattle.sky_model.specs.Retries.{brought_by}
use Rattle.sky_model.specs.Rows.{table_names, columns_of}
use Rattle.sky_model.specs.Triggers.{TableTrigger, triggers, triggers_of}
use Rattle.sky_model.specs.State.{part_of, database_of}
use Rattle.sky_model.specs.ShownRows.{snapshot_now}
use Rattle.sky_model.specs.Sessions.{own_txid}
use Rattle.sky_model.specs.StepQueue.{tells_of_rows}
use Rattle.sky_model.specs.StepNode.{set_trigger}
use Rattle.sky_model.specs.Telling.{told_event, told_of}
use Rattle.sky_model.specs.Settling.{marked}
use Rattle.sky_model.specs.LawsOfNodes.{triggers_into}
use Rattle.sky_model.specs.LawsOfWrites.{IsRowOf}
use Rattle.sky_histories.proofs.Legal.{Fine, writes as session_writes, returns as comes_back, Legal, legal-below_mark, fine_mark}
use Rattle.sky_histories.proofs.Inserted.{none, with_raised, with_put}
use Rattle.sky_histories.proofs.NodeReadings.{IsSameNode, same-node}
use Rattle.sky_histories.proofs.WrittenRows.{all-left, read-left}
use Rattle.sky_histories.proofs.RetryCopies.{owned}
use Rattle.sky_histories.proofs.StandingQueues.{beyond}
use Rattle.sky_histories.proofs.RowSights.{here, later}
use Rattle.sky_histories.proofs.Good.{same-session}
use Rattle.sky_model.proofs.Cases.{by_test, by_same}
use Rattle.sky_laws_changes.specs.TableEvents.{is_name, changes_table, table_events}
use Rattle.sky_laws_changes.proofs.HeldValues.{AreHeld}
use Rattle.sky_laws_changes.proofs.HeldRows.{standing-held}
use Rattle.sky_laws_changes.proofs.PlainMarks.{IsTableOf, Plain}
use Rattle.sky_laws_changes.proofs.WriteLists.{Written}
use Rattle.sky_laws_changes.proofs.TableWrites.{is_listed, written, row-met}
use Rattle.sky_laws_changes.proofs.Cuts.{write_of, Cut, nothing, plain, writes, leaf_writes, inserts, returns, lists, unlists, roots, Events, node-events, told-only, cut-held}
use Rattle.sky_laws_changes.proofs.SetTriggers.{queue_at, keeps-set, root-before, legal-events, queue-events, fresh-name, new-number, is_into, into-set}
use Rattle.sky_laws_changes.proofs.ListedTables.{none-listed, bare-below}
use Rattle.sky_laws_changes.proofs.ToldEvents.{is_event, Adds, no_more, one_more, hits, AddsTo, told-adds, Says, says-set, Tells, none_told, untold, told, ignores-none}

-- ---- a table

-- what is known of a table of this number, if it exists
pub record AtTable (n : ℕ) (name : List ℕ) (columns : List Column) (h : History) : Type 0 where
  pub named : n < length (table_names h) → slice_get (table_names h) n ≡ Some name
  pub only : (m : ℕ) → slice_get (table_names h) m ≡ Some name → m ≡ n
  pub columns_are : n < length (table_names h) → columns_of n h ≡ columns

get-front : (names : List (List ℕ)) (last : List ℕ) (n : ℕ) → n < length names → slice_get (names ++ last ∷ []) n ≡ slice_get names n
get-front [] last n within = absurd (omega arith)
get-front (x ∷ names) last zero within = refl
get-front (x ∷ names) last (suc n) within = get-front names last n (omega (arith, within))

got-within : (names : List (List ℕ)) (n : ℕ) (name : List ℕ) → slice_get names n ≡ Some name → n < length names
got-within [] n name is = absurd (cc)
got-within (x ∷ names) zero name is = omega arith
got-within (x ∷ names) (suc n) name is = omega (arith, got-within names n name is)

module _ (n : ℕ) (name : List ℕ) (columns : List Column) where
  table-below : (mark : Mark) (h : History) → AtTable n name columns (mark ∷ h) → AtTable n name columns h
  table-below (tabled (table_made made_name more)) h a =
      let longer : length (table_names h ++ made_name ∷ []) ≡ length (table_names h) + 1 = length-append (table_names h) (made_name ∷ []) in
      record {
        named = λ within. sym (get-front (table_names h) made_name n within) ∙ a.named (omega (arith, longer, within));
        only = λ m is. a.only m (get-front (table_names h) made_name m (got-within (table_names h) m name is) ∙ is);
        columns_are = λ within.
            let other : (length (table_names h) == n) ≡ false = grind (arith, nat_tests, within) in
            ap (λ b. if b then more else columns_of n h) (sym other) ∙ a.columns_are (omega (arith, longer, within));
      }
  table-below _ h a = record { named = a.named; only = a.only; columns_are = a.columns_are }

  table-events : (h : History) (marks : List Mark) → Events marks → AtTable n name columns (marked h marks) → AtTable n name columns h
  table-events h _ none a = a
  table-events h _ (with_raised {ys = ys} queue value more) a = table-below (queued (raised queue value)) h (table-events (queued (raised queue value) ∷ h) ys more a)
  table-events h _ (with_put {ys = ys} queue event more) a = table-below (queued (put queue event)) h (table-events (queued (put queue event) ∷ h) ys more a)

-- the columns of a table are such that rows can be read back
names-events : (h : History) (marks : List Mark) → Events marks → table_names (marked h marks) ≡ table_names h
names-events h _ none = refl
names-events h _ (with_raised {ys = ys} queue value more) = names-events (queued (raised queue value) ∷ h) ys more
names-events h _ (with_put {ys = ys} queue event more) = names-events (queued (put queue event) ∷ h) ys more

columns-events : (n : ℕ) (h : History) (marks : List Mark) → Events marks → columns_of n (marked h marks) ≡ columns_of n h
columns-events n h _ none = refl
columns-events n h _ (with_raised {ys = ys} queue value more) = columns-events n (queued (raised queue value) ∷ h) ys more
columns-events n h _ (with_put {ys = ys} queue event more) = columns-events n (queued (put queue event) ∷ h) ys more

cut-columns : (n : ℕ) (h : History) → Cut h → n < length (table_names h) → IsTableOf (columns_of n h)
cut-columns n _ nothing within = absurd (omega arith)
cut-columns n _ (plain {h = h} (tabled (table_made name columns)) cut is) within =
    let longer : length (table_names h ++ name ∷ []) ≡ length (table_names h) + 1 = length-append (table_names h) (name ∷ []) in
    by_test (λ b. (length (table_names h) == n) ≡ b → IsTableOf (if b then columns else columns_of n h)) (length (table_names h) == n) (λ _ _. is)
    (λ _ other. cut-columns n h cut (grind (arith, nat_tests, other, longer, within))) refl
cut-columns n _ (plain {h = h} mark cut is) within = cut-columns n h cut within
cut-columns n _ (writes {h = h} who t table key old new time marks cut said some held) within =
    let only : Events marks = told-only h time (write_of who t table key old new) marks said in
    subst IsTableOf (sym (columns-events n (write_of who t table key old new ∷ h) marks only))
    (cut-columns n h cut (subst (λ names. n < length names) (names-events (write_of who t table key old new ∷ h) marks only) within))
cut-columns n _ (leaf_writes {h = h} whose t table key old new cut leaf) within = cut-columns n h cut within
cut-columns n _ (inserts {h = h} q value e cut is) within = cut-columns n h cut within
cut-columns n _ (returns {h = h} retry t moment cut) within = cut-columns n h cut within
cut-columns n _ (lists {h = h} name table q cut after) within = cut-columns n h cut within
cut-columns n _ (unlists {h = h} name table cut after) within = cut-columns n h cut within
cut-columns n _ (roots {h = h} name queue t time cut bare) within = cut-columns n h cut within

-- ---- events that aren't the table's

-- a type that isn't reserved says nothing of rows
not-of-rows : (name : List ℕ) (e : Event) → tells_of_rows e.ev_type ≡ false → changes_table name e ≡ false
not-of-rows name e other = ap (λ b. b && is_name name e.ev_extra1) other

-- no event but those of writes is the table's
written-events : (n : ℕ) (h : History) (marks : List Mark) → Events marks → written n (marked h marks) ≡ written n h
written-events n h _ none = refl
written-events n h _ (with_raised {ys = ys} queue value more) = written-events n (queued (raised queue value) ∷ h) ys more
written-events n h _ (with_put {ys = ys} queue event more) = written-events n (queued (put queue event) ∷ h) ys more

-- what was written before there was a root was written while the table wasn't in a set
all-untold : (n : ℕ) (columns : List Column) (h : History) → node h ≡ None → Tells columns [] (written n h)
all-untold n columns [] bare = none_told
all-untold n columns (tabled (wrote whose t m key old new) ∷ h) bare =
    by_test (λ b. Tells columns [] (if b then record { by = t; key = key; old = old; new = new; listed = is_listed n h } ∷ written n h else written n h)) (m == n)
    (λ _. untold _ (none-listed n h bare) (all-untold n columns h bare)) (λ _. all-untold n columns h bare)
all-untold n columns (mark ∷ h) bare = all-untold n columns h (bare-below mark h bare)

-- ---- the events of a write

-- of the triggers of a table, those that make events of it in a queue
hits-into : (n q : ℕ) (columns : List Column) (old new : Option (List Val)) (ts : List TableTrigger)
    → filter (λ x. x.queue == q && not (leaves_out x columns old new)) (map TableTrigger.trigger (triggers_of n ts))
    ≡ filter (λ x. not (leaves_out x columns old new)) (map TableTrigger.trigger (filter (is_into n q) ts))
hits-into n q columns old new [] = refl
hits-into n q columns old new (t ∷ ts) = grind (arith, hits-into n q columns old new ts)

-- the set's trigger alone does, if the table is in the set
set-hits : (n q : ℕ) (columns : List Column) (old new : Option (List Val)) (h : History) → Cut h → Legal h → is_root (node h) ≡ true → queue_at h ≡ Some q
    → filter (λ x. x.queue == q && not (leaves_out x columns old new)) (map TableTrigger.trigger (triggers_of n (triggers h))) ≡ (if is_listed n h then set_trigger q ∷ [] else [])
set-hits n q columns old new h cut l root set =
    hits-into n q columns old new (triggers h)
    ∙ ap (λ ts. filter (λ x. not (leaves_out x columns old new)) (map TableTrigger.trigger ts)) (into-set n q h cut l root set)
    ∙ by_test (λ b. filter (λ x. not (leaves_out x columns old new)) (map TableTrigger.trigger (if b then triggers_into n (Some q) else [])) ≡ (if b then set_trigger q ∷ [] else [])) (is_listed n h)
    (λ _. ap (λ b. if not b then set_trigger q ∷ [] else []) (ignores-none q columns old new)) (λ _. refl)

a-root : (n : Option Node) → is_root n ≡ true → is_leaf n ≡ false
a-root None e = absurd (cc)
a-root (Some (of_root r)) e = refl
a-root (Some (of_leaf l)) e = absurd (cc)

-- the rows of a session's write are those of its table
record RowsFit (h : History) (m : ℕ) (key : List Val) (old new : Option (List Val)) : Type 0 where
  within : m < length (table_names h)
  before : IfSome old (IsRowOf (columns_of m h) key)
  after : IfSome new (IsRowOf (columns_of m h) key)

rows-fit : (h : History) → Legal h → {who t m : ℕ} {key : List Val} {old new : Option (List Val)} → Fine h (write_of who t m key old new) → RowsFit h m key old new
rows-fit h l {old = old} {new = new} (session_writes who t m key _ _ mine free is) = record { within = is.within; before = was; after = is.fits was }
  where
    was : IfSome old (IsRowOf (columns_of m h) key)
    was = subst (λ o. IfSome o (IsRowOf (columns_of m h) key)) is.stands (read-left h (all-left h l) (snapshot_now (part_of h)) (own_txid who h) m key)

-- the name of a table
record Got (names : List (List ℕ)) (m : ℕ) : Type 0 where
  name : List ℕ
  is : slice_get names m ≡ Some name

get-some : (names : List (List ℕ)) (m : ℕ) → m < length names → Got names m
get-some [] m within = absurd (omega arith)
get-some (x ∷ names) zero within = record { name = x; is = refl }
get-some (x ∷ names) (suc m) within = let rest : Got names m = get-some names m (omega (arith, within)) in record { name = rest.name; is = rest.is }

filter-nothing : (f : Trigger → Bool) (ts : List Trigger) → filter (λ x. false && f x) ts ≡ []
filter-nothing f [] = refl
filter-nothing f (t ∷ ts) = filter-nothing f ts

-- no event, or one
adds-none : {now : ℤ} {t : ℕ} {w : TracedWrite} (ts : List Trigger) (es : List Event) → ts ≡ [] → Adds now t w ts es → es ≡ []
adds-none _ _ same no_more = refl
adds-none _ _ same (one_more id trigger more) = absurd (cc)

record IsOne (now : ℤ) (t : ℕ) (w : TracedWrite) (trigger : Trigger) (es : List Event) : Type 0 where
  id : ℕ
  is : es ≡ told_event id now t (event_of w trigger) ∷ []

adds-one : {now : ℤ} {t : ℕ} {w : TracedWrite} (ts : List Trigger) (es : List Event) (trigger : Trigger) → ts ≡ trigger ∷ [] → Adds now t w ts es → IsOne now t w trigger es
adds-one _ _ trigger same no_more = absurd (cc)
adds-one {now = now} {t = t} {w = w} _ _ trigger same (one_more {triggers = rest} {es = es} id own more) =
    let first_is : own ≡ trigger = cc in
    let none_left : rest ≡ [] = cc in
    record { id = id; is = (λ i. told_event id now t (event_of w (first_is i)) ∷ adds-none rest es none_left more i) }

module _ (n : ℕ) (name : List ℕ) (columns : List Column) (q : ℕ) where
  abbrev pub Told : History → Type 0
  Told h = Tells columns (table_events name (events q h)) (written n h)

  module _ (h : History) (cut : Cut h) (l : Legal h) (root : is_root (node h) ≡ true) (set : queue_at h ≡ Some q) (a : AtTable n name columns h)
      (who t m : ℕ) (key : List Val) (old new : Option (List Val)) (time : ℤ) (marks : List Mark)
      (said : told_of (database_of (write_of who t m key old new ∷ h)) time (write_of who t m key old new) ≡ Ok marks) (some : old ≡ None → is_some new ≡ true)
      (held : is_leaf (node h) ≡ false → IfSome new AreHeld) (fine : Fine h (write_of who t m key old new)) where
    abbrev w : TracedWrite
    w = record { table = unwrap_or (slice_get (table_names h) m) []; columns = columns_of m h; old = old; new = new }

    abbrev g : History
    g = marked (write_of who t m key old new ∷ h) marks

    abbrev this : Written
    this = record { by = t; key = key; old = old; new = new; listed = is_listed n h }

    abbrev ts : List Trigger
    ts = map TableTrigger.trigger (triggers_of m (triggers h))

    only : Events marks
    only = told-only h time (write_of who t m key old new) marks said

    fit : RowsFit h m key old new
    fit = rows-fit h l fine

    added : AddsTo name q time t w (filter (hits name q time t w) ts) marks (write_of who t m key old new ∷ h)
    added = told-adds name q time t w ts (database_of (write_of who t m key old new ∷ h)) marks said (write_of who t m key old new ∷ h)

    -- of another table nothing is added
    told-other : (m == n) ≡ false → Told h → Tells columns (table_events name (events q g)) (written n h)
    told-other other ih = subst (λ es. Tells columns es (written n h)) (sym (added.stands ∙ ap (λ es. table_events name (events q h) ++ es) nothing_more ∙ append-nil (table_events name (events q h)))) ih
      where
        at_m : Got (table_names h) m
        at_m = get-some (table_names h) m fit.within

        unnamed : bytes_eq name w.table ≡ false
        unnamed = false_from_ne_true (bytes_eq name w.table) (λ is.
            let one : name ≡ at_m.name = same_name name w.table is ∙ ap (λ o. unwrap_or o []) at_m.is in
            absurd (cc (sym other ∙ ap (λ k. m == k) (sym (a.only m (at_m.is ∙ ap (λ x. Some x) (sym one)))) ∙ same-session m)))

        nothing_more : added.more ≡ []
        nothing_more = adds-none (filter (hits name q time t w) ts) added.more
            (ap (λ b. filter (λ x. b && (x.queue == q && not (leaves_out x (columns_of m h) old new))) ts) unnamed ∙ filter-nothing (λ x. x.queue == q && not (leaves_out x (columns_of m h) old new)) ts) added.pairs

    told-same : m ≡ n → Told h → Tells columns (table_events name (events q g)) (this ∷ written n h)
    told-same same ih = by_test (λ b. is_listed n h ≡ b → Tells columns (table_events name (events q g)) (this ∷ written n h)) (is_listed n h) (λ _ is. listed_so is) (λ _ isnt. unlisted_so isnt) refl
      where
        within_n : n < length (table_names h)
        within_n = subst (λ k. k < length (table_names h)) same fit.within

        named : w.table ≡ name
        named = ap (λ o. unwrap_or o []) (ap (slice_get (table_names h)) same ∙ a.named within_n)

        columns_same : columns_of m h ≡ columns
        columns_same = ap (λ k. columns_of k h) same ∙ a.columns_are within_n

        own_hits : filter (hits name q time t w) ts ≡ (if is_listed n h then set_trigger q ∷ [] else [])
        own_hits =
            ap (λ b. filter (λ x. b && (x.queue == q && not (leaves_out x (columns_of m h) old new))) ts) (ap (bytes_eq name) named ∙ bytes_eq_refl name)
            ∙ ap (λ k. filter (λ x. x.queue == q && not (leaves_out x (columns_of m h) old new)) (map TableTrigger.trigger (triggers_of k (triggers h)))) same
            ∙ set-hits n q (columns_of m h) old new h cut l root set

        unlisted_so : is_listed n h ≡ false → Tells columns (table_events name (events q g)) (this ∷ written n h)
        unlisted_so isnt =
            subst (λ es. Tells columns es (this ∷ written n h))
            (sym (added.stands ∙ ap (λ es. table_events name (events q h) ++ es) (adds-none (filter (hits name q time t w) ts) added.more (own_hits ∙ ap (λ b. if b then set_trigger q ∷ [] else []) isnt) added.pairs)
            ∙ append-nil (table_events name (events q h))))
            (untold this isnt ih)

        listed_so : is_listed n h ≡ true → Tells columns (table_events name (events q g)) (this ∷ written n h)
        listed_so is =
            subst (λ es. Tells columns es (this ∷ written n h)) (sym (added.stands ∙ ap (λ es. table_events name (events q h) ++ es) one.is))
            (told this (told_event one.id time t (event_of w (set_trigger q))) says ih)
          where
            one : IsOne time t w (set_trigger q) added.more
            one = adds-one (filter (hits name q time t w) ts) added.more (set_trigger q) (own_hits ∙ ap (λ b. if b then set_trigger q ∷ [] else []) is) added.pairs

            free : is_leaf (node h) ≡ false
            free = a-root (node h) root

            old_held : IfSome old AreHeld
            old_held = subst (λ o. IfSome o AreHeld) (row-met (of_session who) t m key old new h l fine) (standing-held h (cut-held h cut free) t m key)

            says : Says columns (told_event one.id time t (event_of w (set_trigger q))) this
            says =
                subst (λ x. Says columns (told_event one.id time t (event_of x (set_trigger q))) this) (λ i. record { table = sym named i; columns = sym columns_same i; old = old; new = new })
                (says-set name columns one.id time q t key old new (is_listed n h) (subst IsTableOf columns_same (cut-columns m h cut fit.within)) some
                (subst (λ cs. IfSome old (IsRowOf cs key)) columns_same fit.before) (subst (λ cs. IfSome new (IsRowOf cs key)) columns_same fit.after) old_held (held free))

    told-write : Told h → Told g
    told-write ih =
        subst (Tells columns (table_events name (events q g))) (sym (written-events n (write_of who t m key old new ∷ h) marks only))
        (by_same (λ b. Tells columns (table_events name (events q g)) (if b then this ∷ written n h else written n h)) m n (λ same. told-same same ih) (λ other. told-other other ih))

  -- ---- the other pieces

  plain-same : (h : History) (mark : Mark) → Plain mark → Told h → Told (mark ∷ h)
  plain-same h (tabled (wrote whose t m key old new)) is ih = absurd is
  plain-same h (queued (put p e)) is ih = absurd is
  plain-same h _ is ih = ih

  -- one event more that isn't the table's
  one-apart : (h : History) (p : ℕ) (e : Event) → is_event name e ≡ false → table_events name (if p == q then events q h ++ e ∷ [] else events q h) ≡ table_events name (events q h)
  one-apart h p e isnt =
      by_test (λ b. table_events name (if b then events q h ++ e ∷ [] else events q h) ≡ table_events name (events q h)) (p == q)
      (λ _. filter-append (is_event name) (events q h) (e ∷ []) ∙ ap (λ b. table_events name (events q h) ++ (if b then e ∷ [] else [])) isnt ∙ append-nil (table_events name (events q h))) (λ _. refl)

  back-owned : {h : History} {retry : Retry} {moment : ℤ} (t : ℕ) → Legal (queued (put retry.queue (brought_by t retry.event)) ∷ h) → Fine (queued (put retry.queue (brought_by t retry.event)) ∷ h) (queued (returned retry moment))
      → is_event name (brought_by t retry.event) ≡ false
  back-owned {h = h} {retry = retry} t l (comes_back below _ u moment same back due) =
      let lower : h ≡ below = cc in
      ap (λ o. is_none o && changes_table name (brought_by t retry.event)) (owned below (subst Legal lower (legal-below_mark l)) retry back.waits)

  pub cut-tells : (h : History) → Cut h → Legal h → is_root (node h) ≡ true → queue_at h ≡ Some q → AtTable n name columns h → Told h
  cut-tells _ nothing l root set a = absurd (cc)
  cut-tells _ (plain {h = h} mark cut is) l root set a =
      let below : Legal h = legal-below_mark l in
      let was : is_root (node h) ≡ true = root-before h mark is root in
      plain-same h mark is (cut-tells h cut below was (sym (keeps-set (later here) l was).queue ∙ set) (table-below n name columns mark h a))
  cut-tells _ (writes {h = h} who t m key old new time marks cut said some held) l root set a =
      let write : Mark = write_of who t m key old new in
      let only : Events marks = told-only h time write marks said in
      let lw : Legal (write ∷ h) = legal-events (write ∷ h) marks only l in
      let below : Legal h = legal-below_mark lw in
      let was : is_root (node h) ≡ true = ap is_root (sym (node-events (write ∷ h) marks only)) ∙ root in
      let set_then : queue_at h ≡ Some q = sym (queue-events (write ∷ h) marks only) ∙ set in
      let b : AtTable n name columns h = table-below n name columns write h (table-events n name columns (write ∷ h) marks only a) in
      told-write h cut below was set_then b who t m key old new time marks said some held (fine_mark lw) (cut-tells h cut below was set_then b)
  cut-tells _ (leaf_writes {h = h} whose t table key old new cut leaf) l root set a = absurd (cc (sym (a-root (node h) root) ∙ leaf))
  cut-tells _ (inserts {h = h} p value e cut is) l root set a =
      subst (λ es. Tells columns es (written n h))
      (sym (by_same (λ b. table_events name (if b then events q h ++ e ∷ [] else events q h) ≡ table_events name (events q h)) p q
      (λ same. subst (λ b. table_events name (if b then events q h ++ e ∷ [] else events q h) ≡ table_events name (events q h)) (ap (λ k. k == q) same ∙ same-session q)
      (one-apart h p e (ap (λ b. is_none e.ev_owner && b) (not-of-rows name e (is (set ∙ ap (λ k. Some k) (sym same)))) ∙ never (is_none e.ev_owner))))
      (λ other. refl)))
      (cut-tells h cut (legal-below_mark (legal-below_mark l)) root set (table-below n name columns _ h (table-below n name columns _ _ a)))
    where
      never : (b : Bool) → (b && false) ≡ false
      never true = refl
      never false = refl
  cut-tells _ (returns {h = h} retry t moment cut) l root set a =
      subst (λ es. Tells columns es (written n h)) (sym (one-apart h retry.queue (brought_by t retry.event) (back-owned t (legal-below_mark l) (fine_mark l))))
      (cut-tells h cut (legal-below_mark (legal-below_mark l)) root set (table-below n name columns _ h (table-below n name columns _ _ a)))
  cut-tells _ (lists {h = h} table_name table p cut after) l root set a =
      let same : IsSameNode (node h) (after_node (set_added table_name) (node h)) = same-node (set_added table_name) refl (node h) in
      cut-tells h cut (legal-below_mark (legal-below_mark l)) (sym same.root ∙ root) (sym (same.set (queues h)) ∙ set) (table-below n name columns _ h (table-below n name columns _ _ a))
  cut-tells _ (unlists {h = h} table_name table cut after) l root set a =
      let same : IsSameNode (node h) (after_node (set_removed table_name) (node h)) = same-node (set_removed table_name) refl (node h) in
      cut-tells h cut (legal-below_mark (legal-below_mark l)) (sym same.root ∙ root) (sym (same.set (queues h)) ∙ set) (table-below n name columns _ h (table-below n name columns _ _ a))
  cut-tells _ (roots {h = h} root_name queue t time cut bare) l root set a =
      let below : Legal h = legal-below_mark (legal-below_mark l) in
      let new : q ≡ queues_made h = new-number queue (queues h) (queues_made h) q (fresh-name (fine_mark (legal-below_mark l))) set in
      subst (λ es. Tells columns (table_events name es) (written n h)) (sym (beyond h below q (omega (arith, new))).events) (all-untold n columns h bare)
