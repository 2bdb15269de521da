-- What the versions of a key say of its rows, at each place of a legal history.
use Rattle.std.proofs.Common.{◌≡◌, ℕ, ◌≤◌, true, false, [], ◌∷◌, refl, sym, ◌∙◌, arith, ◌||◌, ◌==◌}
use Rattle.std.proofs.lemmas.Bool.{or_right}
use Rattle.std.proofs.lemmas.Bool.Decides.{nat_tests}
use Rattle.sky_val.specs.Entries.{is_in_order}
use Rattle.sky_txid.specs.Ids.{contains}
use Rattle.sky_keys.proofs.EntryLemmas.{is_in_order-written, is_in_order-forgotten}
use Rattle.sky_model.specs.History.{Mark, ended, tabled, wrote, History, began}
use Rattle.sky_model.specs.Transactions.{next_txid, has_ended}
use Rattle.sky_model.specs.Rows.{committed, writes as writes_of}
use Rattle.sky_model.specs.Versions.{versions}
use Rattle.sky_histories.proofs.Legal.{Fine, writes, Legal, start, next, copies_row, applies_row}
use Rattle.sky_histories.proofs.Snapshots.{contains-push, sound, runs-below, copy-runs}

-- the versions of a table are in the order of their keys
pub is_in_order-versions : (table : ℕ) (h : History) → is_in_order (versions table h) ≡ true
is_in_order-versions table [] = refl
is_in_order-versions table (tabled (wrote who t n key old new) ∷ h) = grind (arith, is_in_order-versions table h, is_in_order-written t key new (versions table h))
is_in_order-versions table (ended who t false ∷ h) = is_in_order-forgotten t (versions table h) (is_in_order-versions table h)
is_in_order-versions table (_ ∷ h) = is_in_order-versions table h

-- a transaction that has committed has ended
pub committed-ended : (h : History) (t : ℕ) → contains t (committed h) ≡ true → has_ended h t ≡ true
committed-ended [] t e = absurd (cc)
committed-ended (ended who u true ∷ h) t e =
    let either : (contains t (committed h) || t == u) ≡ true = sym (contains-push t u (committed h)) ∙ e in
    grind (arith, committed-ended h t)
committed-ended (ended who u false ∷ h) t e = or_right (t == u) (has_ended h t) (committed-ended h t e)
committed-ended (_ ∷ h) t e = committed-ended h t e

-- a transaction that hasn't begun has written nothing
abbrev pub Begun : History → Type 0
Begun h = (table t : ℕ) → next_txid h ≤ t → writes_of table t h ≡ []

begun_step : (h : History) (mark : Mark) → Fine h mark → Legal h → Begun h → Begun (mark ∷ h)
begun_step h (began whose t) fine l b = λ table u le. b table u (omega arith)
begun_step h _ (writes who t n key old new e free stands) l b = λ table u le. grind (arith, nat_tests, b table u le, runs-below h (sound h l) t ((sound h l).owns who t e))
begun_step h _ (copies_row n t key old new is) l b = λ table u le. grind (arith, nat_tests, b table u le, runs-below h (sound h l) t (copy-runs h (sound h l) n t is.runs))
begun_step h _ (applies_row n t key old new is) l b = λ table u le. grind (arith, nat_tests, b table u le, runs-below h (sound h l) t ((sound h l).works t is.brief.work.works))
begun_step h _ _ l b = b

pub begun : (h : History) → Legal h → Begun h
begun _ start = λ table t le. refl
begun _ (next {h = h} {mark = mark} l fine) = begun_step h mark fine l (begun h l)
