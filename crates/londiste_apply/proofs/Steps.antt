-- What a worker makes of events, one after another.
use Rattle.std.proofs.Common.{◌≡◌, ℕ, suc, ◌+◌, ◌<◌, ◌≤◌, Bool, true, false, not, cond, List, [], ◌∷◌, ◌++◌, All, length, drop, get_or, filter, Option, Some, None, IfSome, Result, Ok, Err, IfOk, option_and_then, refl, sym, ◌∙◌, ap, subst, arith, add-one, if◌then◌else◌}
use Rattle.std.specs.Ordering.{eq_by_cmp}
use Rattle.std.proofs.lemmas.List.Filters.{length-filter_both}
use Rattle.std.proofs.lemmas.List.Elements.{All-nil, All-cons, All-head, All-tail}
use Rattle.std.proofs.lemmas.List.{drop_all}
use Rattle.std.proofs.Math.Seq.{drop-cons}
use Rattle.sky_val.specs.declared.val.Val.{Val}
use Rattle.sky_val.specs.declared.column.Column.{Column}
use Rattle.sky_val.specs.declared.event.Event.{Event}
use Rattle.sky_val.specs.Order.{key_cmp}
use Rattle.sky_val.specs.Schemas.{key_of}
use Rattle.sky_urlenc.specs.Changes.{Change, change_of}
use Rattle.sky_txid.specs.Ids.{contains}
use Rattle.sky_txid.specs.Snapshot.{SnapshotView}
use Rattle.sky_keys.specs.declared.version.Version.{Version}
use Rattle.sky_keys.specs.Versions.{with_version, versions_at, written, read}
use Rattle.sky_keys.proofs.EntryLemmas.{versions_at-written}
use Rattle.sky_names.specs.Places.{place_of}
use Rattle.londiste_state.specs.Nodes.{Leaf, Node, of_root, of_leaf}
use Rattle.sky_model.specs.History.{Mark, Pick}
use Rattle.sky_model.specs.Rows.{Write}
use Rattle.sky_model.specs.ShownRows.{snapshot_now}
use Rattle.sky_model.specs.State.{RowPart, after_part, after_part_marks}
use Rattle.sky_model.specs.StepCopy.{row_for}
use Rattle.sky_model.specs.StepApply.{picks, picked, may_meet, row_left, change_write, work_write, changes_row, applies_event, Applying, write_then, applies_events}
use Rattle.sky_model.proofs.Cases.{by_same}
use Rattle.sky_histories.proofs.ApplyCalls.{IsWritten, event-written}
use Rattle.londiste_apply.specs.Applying.{as_leaf, MayWriteFor, Makes, Works}
use Rattle.londiste_apply.specs.Writing.{is_own_last, MayWrite, Marked}
use Rattle.londiste_apply.proofs.Own.{own-with}

-- ---- what marks have changed

pub marked-none : (d : RowPart) → Marked d d
marked-none d = record { marks = []; left = refl }

pub marked-same : (first old new : RowPart) → Marked first old → new ≡ old → Marked first new
marked-same first old new is same = record { marks = is.marks; left = same ∙ is.left }

-- one more mark
marks-then : (d : RowPart) (marks : List Mark) (mark : Mark) → after_part (after_part_marks d marks) mark ≡ after_part_marks d (marks ++ mark ∷ [])
marks-then d [] mark = refl
marks-then d (first ∷ marks) mark = marks-then (after_part d first) marks mark

pub marked-one : (first old new : RowPart) (mark : Mark) → Marked first old → new ≡ after_part old mark → Marked first new
marked-one first old new mark is one = record { marks = is.marks ++ mark ∷ []; left = one ∙ ap (λ (d : RowPart). after_part d mark) is.left ∙ marks-then first is.marks mark }

-- ---- a change is made, or can't be

module _ (d : RowPart) (table t : ℕ) (change : Change) (key : List Val) (keyed : key ≡ key_of (d.columns table) change.row) (s : SnapshotView) (present : s ≡ snapshot_now d) where
  -- the row that is there is that of the definition
  meets : (old : Option (List Val)) → old ≡ read s (Some t) (versions_at key (d.versions table)) → may_meet change.op old ≡ may_meet change.op (row_for d table t (key_of (d.columns table) change.row))
  meets old is = ap (may_meet change.op) (is ∙ (λ i. read (present i) (Some t) (versions_at (keyed i) (d.versions table))))

  pub makes-none : (old : Option (List Val)) → old ≡ read s (Some t) (versions_at key (d.versions table)) → may_meet change.op old ≡ false → Makes false d d (changes_row d table t (Some change))
  makes-none old is cant =
      subst (λ b. Makes false d d (if b then Some (work_write d table t (record { key = key_of (d.columns table) change.row; row = row_left change.op change.row })) else None)) (sym (sym (meets old is) ∙ cant)) (refl, refl)

  pub makes-one : (old : Option (List Val)) → old ≡ read s (Some t) (versions_at key (d.versions table)) → may_meet change.op old ≡ true → (row : Option (List Val)) → row ≡ row_left change.op change.row
      → (new : RowPart) → new ≡ after_part d (work_write d table t (record { key = key; row = row })) → Makes true d new (changes_row d table t (Some change))
  makes-one old is may row leaves new wrote =
      subst (λ b. Makes true d new (if b then Some (work_write d table t (record { key = key_of (d.columns table) change.row; row = row_left change.op change.row })) else None)) (sym (sym (meets old is) ∙ may))
      (refl, wrote ∙ (λ i. after_part d (work_write d table t (record { key = keyed i; row = leaves i }))))

  -- it was made if it may meet the row that is there
  pub makes-as-met : {E : Type 0} → (r : Result Bool E) (new : RowPart) (row : Option (List Val)) → row ≡ row_left change.op change.row
      → IfOk r (λ made. made ≡ may_meet change.op (read s (Some t) (versions_at key (d.versions table))))
      → IfOk r (λ made. made ≡ true → new ≡ after_part d (work_write d table t (record { key = key; row = row }))) → IfOk r (λ made. made ≡ false → new ≡ d)
      → IfOk r (λ made. Makes made d new (changes_row d table t (Some change)))
  makes-as-met (Ok true) new row leaves met wrote same = makes-one _ refl (sym met) row leaves new (wrote refl)
  makes-as-met (Ok false) new row leaves met wrote same = subst (λ n. Makes false d n (changes_row d table t (Some change))) (sym (same refl)) (makes-none _ refl (sym met))
  makes-as-met (Err e) new row leaves met wrote same = tt

-- ---- an event is applied, or can't be

module _ (d : RowPart) (t : ℕ) (event : Event) where
  -- by the name of its table
  abbrev by-name : Option (List ℕ) → Option Mark
  by-name o = option_and_then (λ table. changes_row d table t (change_of (d.columns table) event)) (option_and_then (λ name. place_of name d.tables) o)

  pub makes-unnamed : event.ev_extra1 ≡ None → Makes false d d (applies_event d t event)
  makes-unnamed none = subst (λ o. Makes false d d (by-name o)) (sym none) (refl, refl)

  module _ (name : List ℕ) (named : event.ev_extra1 ≡ Some name) where
    -- by the table of that name
    abbrev by-table : Option ℕ → Option Mark
    by-table o = option_and_then (λ table. changes_row d table t (change_of (d.columns table) event)) o

    at-table : (o : Option ℕ) → place_of name d.tables ≡ o → applies_event d t event ≡ by-table o
    at-table o there = ap by-name named ∙ ap by-table there

    pub makes-missing : place_of name d.tables ≡ None → Makes false d d (applies_event d t event)
    makes-missing none = subst (λ o. Makes false d d o) (sym (at-table None none)) (refl, refl)

    module _ (table : ℕ) (there : place_of name d.tables ≡ Some table) (columns : List Column) (of_table : columns ≡ d.columns table) where
      reads : (o : Option Change) → o ≡ change_of columns event → applies_event d t event ≡ changes_row d table t o
      reads o is = at-table (Some table) there ∙ ap (changes_row d table t) (ap (λ cs. change_of cs event) (sym of_table) ∙ sym is)

      pub makes-unread : None ≡ change_of columns event → Makes false d d (applies_event d t event)
      makes-unread is = subst (λ o. Makes false d d o) (sym (reads None is)) (refl, refl)

      pub makes-read : {E : Type 0} → (r : Result Bool E) (new : RowPart) (change : Change) → Some change ≡ change_of columns event → IfOk r (λ made. Makes made d new (changes_row d table t (Some change)))
          → IfOk r (λ made. Makes made d new (applies_event d t event))
      makes-read (Ok made) new change is makes = subst (λ o. Makes made d new o) (sym (reads (Some change) is)) makes
      makes-read (Err e) new change is makes = tt

    -- its table may be written
    pub may-here : (table : ℕ) → place_of name d.tables ≡ Some table → MayWriteFor d t event → MayWrite d table t
    may-here table there may =
        subst (λ o. IfSome o (λ n. MayWrite d n t)) (ap (λ o. option_and_then (λ n. place_of n d.tables) o) named ∙ there) may

-- ---- a worker that writes may go on after it did

-- in each table in which it may write
module _ (d : RowPart) (n t : ℕ) (w : Write) (table : ℕ) (may : MayWrite d table t) where
  last-at : (b : Bool) (vs : List Version) → is_own_last t vs ≡ true → is_own_last t (cond b (with_version t w.row vs) vs) ≡ true
  last-at true vs last = own-with t w.row vs last
  last-at false vs last = last

  pub work-may : MayWrite (after_part d (work_write d n t w)) table t
  work-may = record {
    within = may.within;
    runs = may.runs;
    free = may.free;
    last = λ key. by_same (λ b. is_own_last t (versions_at key (if b then written t w.key w.row (d.versions table) else d.versions table)) ≡ true) n table
        (λ _. subst (λ vs. is_own_last t vs ≡ true) (sym (versions_at-written key t w.key w.row (d.versions table))) (last-at (eq_by_cmp key_cmp key w.key) (versions_at key (d.versions table)) (may.last key)))
        (λ _. may.last key);
  }

work-may-for : (d : RowPart) (n t : ℕ) (w : Write) (event : Event) → MayWriteFor d t event → MayWriteFor (after_part d (work_write d n t w)) t event
work-may-for d n t w event may = of (option_and_then (λ name. place_of name d.tables) event.ev_extra1) may
  where
    of : (o : Option ℕ) → IfSome o (λ table. MayWrite d table t) → IfSome o (λ table. MayWrite (after_part d (work_write d n t w)) table t)
    of None may = tt
    of (Some table) may = work-may d n t w table may

work-may-all : (d : RowPart) (n t : ℕ) (w : Write) (events : List Event) → All (MayWriteFor d t) events → All (MayWriteFor (after_part d (work_write d n t w)) t) events
work-may-all d n t w [] may = All-nil (MayWriteFor (after_part d (work_write d n t w)) t)
work-may-all d n t w (event ∷ events) may =
    All-cons (MayWriteFor (after_part d (work_write d n t w)) t) event events (work-may-for d n t w event (All-head (MayWriteFor d t) event events may)) (work-may-all d n t w events (All-tail (MayWriteFor d t) event events may))

-- ---- events, one after another

-- what is made of the rest of the events, after so many of them, is what is made of all of them, of the row part as it was before them
pub record IsBetween (first now : RowPart) (t : ℕ) (all rest : List Event) (many : ℕ) : Type 0 where
  pub runs : contains t now.workers ≡ true
  pub may : All (MayWriteFor now t) rest
  pub left : after_part_marks now (applies_events now t rest).marks ≡ after_part_marks first (applies_events first t all).marks
  pub bad : (applies_events now t rest).bad ≡ (applies_events first t all).bad
  pub count : many + length rest ≡ length all
  pub marked : Marked first now

pub between-first : (d : RowPart) (t : ℕ) (all : List Event) → contains t d.workers ≡ true → All (MayWriteFor d t) all → IsBetween d d t all all 0
between-first d t all runs may = record { runs = runs; may = may; left = refl; bad = refl; count = omega arith; marked = marked-none d }

-- one more of them was applied; the snapshot by which the worker reads is the same
pub record IsAfter (first now next : RowPart) (t : ℕ) (all rest : List Event) (many : ℕ) : Type 0 where
  pub between : IsBetween first next t all rest (many + 1)
  pub present : snapshot_now next ≡ snapshot_now now

-- the first of the rest is applied, or can't be
module _ (first now : RowPart) (t : ℕ) (all : List Event) (event : Event) (rest : List Event) (many : ℕ) (is : IsBetween first now t all (event ∷ rest) many) where
  -- what comes after its mark
  abbrev after-it : Mark → Applying
  after-it mark = applies_events (after_part now mark) t rest

  pub between-next : (next : RowPart) → Makes true now next (applies_event now t event) → IsAfter first now next t all rest many
  between-next next makes = by (applies_event now t event) refl makes is.left is.bad
    where
      by : (o : Option Mark) → applies_event now t event ≡ o → Makes true now next o → after_part_marks now (write_then event o after-it).marks ≡ after_part_marks first (applies_events first t all).marks
          → (write_then event o after-it).bad ≡ (applies_events first t all).bad → IsAfter first now next t all rest many
      by None o_is makes left bad = (let no : true ≡ false = makes.0 in absurd (cc))
      by (Some mark) o_is makes left bad = record {
        between = record {
          runs = subst (λ (d : RowPart). contains t d.workers ≡ true) (sym one) is.runs;
          may = subst (λ (d : RowPart). All (MayWriteFor d t) rest) (sym one) (work-may-all now w.table t write rest (All-tail (MayWriteFor now t) event rest is.may));
          left = ap (λ (d : RowPart). after_part_marks d (applies_events d t rest).marks) makes.1 ∙ left;
          bad = ap (λ (d : RowPart). (applies_events d t rest).bad) makes.1 ∙ bad;
          count = (let was : many + suc (length rest) ≡ length all = is.count in omega arith);
          marked = marked-one first now next mark is.marked makes.1;
        };
        present = ap snapshot_now one;
      }
        where
          w : IsWritten now t event mark
          w = event-written now t event mark o_is

          write : Write
          write = change_write (now.columns w.table) w.change

          one : next ≡ after_part now (work_write now w.table t write)
          one = makes.1 ∙ ap (after_part now) w.is

  pub between-bad : (next : RowPart) → Makes false now next (applies_event now t event) → Works (record { many = many; bad = Some event.ev_id }) first next t all
  between-bad next makes = by (applies_event now t event) makes is.left is.bad
    where
      by : (o : Option Mark) → Makes false now next o → after_part_marks now (write_then event o after-it).marks ≡ after_part_marks first (applies_events first t all).marks
          → (write_then event o after-it).bad ≡ (applies_events first t all).bad → Works (record { many = many; bad = Some event.ev_id }) first next t all
      by None makes left bad = record {
        runs = subst (λ (d : RowPart). contains t d.workers ≡ true) (sym makes.1) is.runs;
        left = makes.1 ∙ left;
        bad = bad;
        many = λ none. absurd (cc);
      }
      by (Some mark) makes left bad = (let no : false ≡ true = makes.0 in absurd (cc))

-- until none is left
pub between-done : (first now : RowPart) (t : ℕ) (all rest : List Event) (many : ℕ) → IsBetween first now t all rest many → rest ≡ [] → Works (record { many = many; bad = None }) first now t all
between-done first now t all rest many is none = record {
  runs = is.runs;
  left = sym (ap (λ es. after_part_marks now (applies_events now t es).marks) none) ∙ is.left;
  bad = sym (ap (λ es. (applies_events now t es).bad) none) ∙ is.bad;
  many = λ _. (let was = is.count in let gone : length rest ≡ 0 = ap length none in omega arith);
}

-- the table of the next of those that are left may be written
pub head-may : (d : RowPart) (t : ℕ) (event : Event) (rest left : List Event) → left ≡ event ∷ rest → All (MayWriteFor d t) left → MayWriteFor d t event
head-may d t event rest left here may = All-head (MayWriteFor d t) event rest (subst (All (MayWriteFor d t)) here may)

pub made-as : (b c : Bool) (old new : RowPart) (o : Option Mark) → b ≡ c → Makes b old new o → Makes c old new o
made-as b c old new o is makes = subst (λ x. Makes x old new o) is makes

-- one that can't be applied leaves all as it was
pub marked-unmade : (first old new : RowPart) (o : Option Mark) → Makes false old new o → Marked first old → Marked first new
marked-unmade first old new None makes is = marked-same first old new is makes.1
marked-unmade first old new (Some mark) makes is = (let no : false ≡ true = makes.0 in absurd (cc))

-- nothing is made of no events
pub works-none : (d : RowPart) (t : ℕ) → contains t d.workers ≡ true → Works (record { many = 0; bad = None }) d d t []
works-none d t runs = record { runs = runs; left = refl; bad = refl; many = λ _. refl }

-- ---- those that are picked, among those that are looked at

-- a leaf picks some, and no other node does
pub picked-leaf : (n : Option Node) (l : Leaf) → Some l ≡ as_leaf n → (pick : Pick) (events : List Event) → picked n pick events ≡ filter (picks l pick) events
picked-leaf None l is pick events = absurd (cc)
picked-leaf (Some (of_root r)) l is pick events = absurd (cc)
picked-leaf (Some (of_leaf m)) l is pick events = let same : m ≡ l = cc in ap (λ (x : Leaf). filter (picks x pick) events) same

pub picked-none : (n : Option Node) → None ≡ as_leaf n → (pick : Pick) (events : List Event) → picked n pick events ≡ []
picked-none None is pick events = refl
picked-none (Some (of_root r)) is pick events = refl
picked-none (Some (of_leaf l)) is pick events = absurd (cc)

-- the one that is looked at comes before those after it
drop-from : (xs : List Event) (place : ℕ) (x : Event) → place < length xs → x ≡ get_or xs place x → drop place xs ≡ x ∷ drop (place + 1) xs
drop-from xs place x within is = drop-cons xs place x within ∙ ap (λ y. y ∷ drop (suc place) xs) (sym is) ∙ ap (λ n. x ∷ drop n xs) (sym (add-one place))

module _ (p : Event → Bool) (events : List Event) (index : ℕ) (event : Event) (within : index < length events) (is : event ≡ get_or events index event) where
  picked-from : filter p (drop index events) ≡ cond (p event) (event ∷ filter p (drop (index + 1) events)) (filter p (drop (index + 1) events))
  picked-from = ap (filter p) (drop-from events index event within is)

  pub picked-here : p event ≡ true → filter p (drop index events) ≡ event ∷ filter p (drop (index + 1) events)
  picked-here picks = picked-from ∙ ap (λ b. cond b (event ∷ filter p (drop (index + 1) events)) (filter p (drop (index + 1) events))) picks

  pub picked-later : p event ≡ false → filter p (drop index events) ≡ filter p (drop (index + 1) events)
  picked-later passes = picked-from ∙ ap (λ b. cond b (event ∷ filter p (drop (index + 1) events)) (filter p (drop (index + 1) events))) passes

pub none-left : (p : Event → Bool) (events : List Event) (index : ℕ) → length events ≤ index → filter p (drop index events) ≡ []
none-left p events index past = ap (filter p) (drop_all index events past)

-- so many were applied that one more is one of them
pub picked-few : (p : Event → Bool) (events : List Event) (many : ℕ) (event : Event) (rest left : List Event) → many + length left ≡ length (filter p events) → left ≡ event ∷ rest → many < length events
picked-few p events many event rest left count here =
    let one : length left ≡ length (event ∷ rest) = ap length here in
    let few = length-filter_both p (λ e. not (p e)) (λ _. refl) events in
    omega (arith, count, one, few)
