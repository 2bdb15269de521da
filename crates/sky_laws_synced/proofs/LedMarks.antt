-- The batches that the marks of a leaf's database say were applied: what is known of them stays known.
use Rattle.std.proofs.Common.{◌≡◌, ℕ, List, [], ◌∷◌, ◌++◌, true, append_assoc, refl, sym, ap, ◌∙◌}
use Rattle.sky_model.specs.History.{Mark, of_worker, tabled, wrote, noded, applied, Pick, History, Fact, Past}
use Rattle.sky_model.specs.Settling.{marked}
use Rattle.sky_model.specs.World.{on_top}
use Rattle.sky_histories.proofs.ApplyCalls.{is_written}
use Rattle.sky_histories.proofs.StatementMarks.{EachMark, each-rest, when-true}
use Rattle.sky_laws_synced.specs.LawsOfChanges.{WasApplied}

-- each of those of a history was applied to the tables of a database
abbrev pub AllApplied : Past → ℕ → History → Type 0
AllApplied past d [] = Unit {0}
AllApplied past d (noded (applied pick tick) ∷ g) = WasApplied past d g pick tick × AllApplied past d g
AllApplied past d (_ ∷ g) = AllApplied past d g

applied-above : (past : Past) (fact : Fact) (d : ℕ) (g : History) (pick : Pick) (tick : ℕ) → WasApplied past d g pick tick → WasApplied (fact ∷ past) d g pick tick
applied-above past fact d g pick tick w = record {
  before = w.before;
  later = fact ∷ w.later;
  reaches = ap (λ x. fact ∷ x) w.reaches;
  leaf = w.leaf;
  is_leaf = w.is_leaf;
  provider = w.provider;
  found = w.found;
  batch = w.batch;
  of_set = w.of_set;
  closing = w.closing;
  puts = w.puts;
  led = w.led;
}

pub all-above : (past : Past) (fact : Fact) (d : ℕ) (g : History) → AllApplied past d g → AllApplied (fact ∷ past) d g
all-above past fact d [] all = tt
all-above past fact d (noded (applied pick tick) ∷ g) all = (applied-above past fact d g pick tick all.0, all-above past fact d g all.1)
all-above past fact d (_ ∷ g) all = all-above past fact d g all

pub all-on-top : (past : Past) (facts : List Fact) (d : ℕ) (g : History) → AllApplied past d g → AllApplied (on_top past facts) d g
all-on-top past [] d g all = all
all-on-top past (fact ∷ facts) d g all = all-on-top (fact ∷ past) facts d g (all-above past fact d g all)

-- the writes of a batch are none of these marks
written-one : (past : Past) (d : ℕ) (g : History) (mark : Mark) → is_written mark ≡ true → AllApplied past d g → AllApplied past d (mark ∷ g)
written-one past d g (tabled (wrote of_worker t table key old new)) e all = all
written-one past d g _ e all = absurd (cc e)

pub all-written : (past : Past) (d : ℕ) (g : History) (marks : List Mark) → EachMark is_written marks → AllApplied past d g → AllApplied past d (marked g marks)
all-written past d g [] each all = all
all-written past d g (mark ∷ marks) each all =
    all-written past d (mark ∷ g) marks (each-rest is_written mark marks each) (written-one past d g mark (when-true (EachMark is_written marks) (is_written mark) each) all)

-- the one at a place
pub applied-at-place : (past : Past) (d : ℕ) (later : List Mark) (g : History) (pick : Pick) (tick : ℕ) → AllApplied past d (later ++ noded (applied pick tick) ∷ g) → WasApplied past d g pick tick
applied-at-place past d [] g pick tick all = all.0
applied-at-place past d (noded (applied other at) ∷ later) g pick tick all = applied-at-place past d later g pick tick all.1
applied-at-place past d (_ ∷ later) g pick tick all = applied-at-place past d later g pick tick all

-- facts on top of a past, the newest first
pub record IsAbove (past now : Past) : Type 0 where
  pub later : List Fact
  pub reaches : now ≡ later ++ past

pub is-above : (past : Past) (facts : List Fact) → IsAbove past (on_top past facts)
is-above past [] = record { later = []; reaches = refl }
is-above past (fact ∷ facts) =
    let rest : IsAbove (fact ∷ past) (on_top (fact ∷ past) facts) = is-above (fact ∷ past) facts in
    record { later = rest.later ++ fact ∷ []; reaches = rest.reaches ∙ sym (append_assoc rest.later (fact ∷ []) past) }
