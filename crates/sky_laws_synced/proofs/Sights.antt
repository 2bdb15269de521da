-- Each session's sight is the place after some of the calls: none is taken in the midst of one.
use Rattle.std.proofs.Common.{◌≡◌, ℕ, ◌==◌, List, [], ◌∷◌, ◌++◌, map, true, false, ◌⊎◌, inl, inr, refl, sym, ap, subst, ◌∙◌, if◌then◌else◌}
use Rattle.sky_model.specs.History.{Mark, repeats, sight_taken, block_failed, block_ended, History, Fact, within, Past}
use Rattle.sky_model.specs.Sessions.{Sight, at_each, at_first, at_place, sight, place_of_sight}
use Rattle.sky_model.specs.State.{database_of}
use Rattle.sky_model.specs.Outcome.{marks_of}
use Rattle.sky_model.specs.Settling.{marked}
use Rattle.sky_model.specs.StepNode.{NodeCall, node_does}
use Rattle.sky_model.specs.World.{history_in, on_top}
use Rattle.sky_model.specs.Calls.{Call, past_of}
use Rattle.sky_model.specs.DatabaseCalls.{DatabaseCall}
use Rattle.sky_histories.proofs.PastHistories.{history-marks}
use Rattle.sky_histories.proofs.NodeDeeds.{after-node_does}
use Rattle.sky_histories.proofs.StatementMarks.{EachMark, each-rest, when-true}
use Rattle.sky_model.proofs.Cases.{by_test}
use Rattle.sky_laws_synced.specs.LawsOfSeen.{SeesAfter, SightsAreAfterCalls}
use Rattle.sky_laws_replicas.proofs.EachCall.{AreSame, is_beside, is_daemons, marks_in, after-call}
use Rattle.sky_laws_synced.proofs.SightMarks.{takes_none, LooksFirst, with_look, without_look, looks-does, none-daemon, none-node}

-- ---- marks

sight-kept : (v : ℕ) (k h : History) (mark : Mark) → takes_none mark ≡ true → sight v (mark ∷ h) ≡ at_place k → sight v h ≡ at_place k
sight-kept v k h (sight_taken w) none is = absurd (cc none)
sight-kept v k h (repeats w) none is = by_test (λ b. (if b then at_first else sight v h) ≡ at_place k → sight v h ≡ at_place k) (w == v) (λ _ e. absurd (cc e)) (λ _ e. e) is
sight-kept v k h (block_failed w) none is = by_test (λ b. (if b then at_each else sight v h) ≡ at_place k → sight v h ≡ at_place k) (w == v) (λ _ e. absurd (cc e)) (λ _ e. e) is
sight-kept v k h (block_ended w) none is = by_test (λ b. (if b then at_each else sight v h) ≡ at_place k → sight v h ≡ at_place k) (w == v) (λ _ e. absurd (cc e)) (λ _ e. e) is
sight-kept v k h _ none is = is

sight-marks : (v : ℕ) (k : History) (marks : List Mark) (h : History) → EachMark takes_none marks → sight v (marked h marks) ≡ at_place k → sight v h ≡ at_place k
sight-marks v k [] h each is = is
sight-marks v k (mark ∷ marks) h each is =
    sight-kept v k h mark (when-true (EachMark takes_none marks) (takes_none mark) each) (sight-marks v k marks (mark ∷ h) (each-rest takes_none mark marks each) is)

sight-first : (v : ℕ) (k h : History) (marks : List Mark) → LooksFirst marks → sight v (marked h marks) ≡ at_place k → (sight v h ≡ at_place k) ⊎ (h ≡ k)
sight-first v k h _ (without_look marks each) is = inl (sight-marks v k marks h each is)
sight-first v k h _ (with_look w marks each) is =
    by_test (λ b. (if b then at_place h else sight v h) ≡ at_place k → (sight v h ≡ at_place k) ⊎ (h ≡ k)) (w == v) (λ _ e. inr (let same : h ≡ k = cc e in same)) (λ _ e. inl e)
    (sight-marks v k marks (sight_taken w ∷ h) each is)

-- ---- one call

-- a sight is an old one, or it is the place before the call
abbrev KeepsSights : (from now : Past) → Type 0
KeepsSights from now = (d v : ℕ) (k : History) → sight v (history_in now d) ≡ at_place k → (sight v (history_in from d) ≡ at_place k) ⊎ (history_in from d ≡ k)

unchanged : (past : Past) → KeepsSights past past
unchanged past d v k is = inl is

-- marks of a turn that begins where the histories are as before it
kept-turn : (past p : Past) (e : ℕ) (marks : List Mark) → LooksFirst marks → AreSame p past → KeepsSights past (on_top p (map (within e) marks))
kept-turn past p e marks look same d v k is =
    subst (λ h. (sight v h ≡ at_place k) ⊎ (h ≡ k)) (same d)
    (by_test (λ b. sight v (if b then marked (history_in p d) marks else history_in p d) ≡ at_place k → (sight v (history_in p d) ≡ at_place k) ⊎ (history_in p d ≡ k)) (e == d)
    (λ _ now. sight-first v k (history_in p d) marks look now) (λ _ still. inl still) (sym (ap (sight v) (history-marks p e marks d)) ∙ is))

kept-marks : (past p : Past) (e : ℕ) (marks : List Mark) → EachMark takes_none marks → KeepsSights past p → KeepsSights past (on_top p (map (within e) marks))
kept-marks past p e marks each kept d v k is =
    kept d v k
    (by_test (λ b. sight v (if b then marked (history_in p d) marks else history_in p d) ≡ at_place k → sight v (history_in p d) ≡ at_place k) (e == d)
    (λ _ now. sight-marks v k marks (history_in p d) each now) (λ _ still. still) (sym (ap (sight v) (history-marks p e marks d)) ∙ is))

kept-called : (past p : Past) (e : ℕ) (call : NodeCall) → KeepsSights past p → KeepsSights past (on_top p (map (within e) (marks_of (node_does (database_of (history_in p e)) call))))
kept-called past p e call kept = kept-marks past p e (marks_of (node_does (database_of (history_in p e)) call)) (none-node (database_of (history_in p e)) call) kept

kept-does : (past p : Past) (e : ℕ) (call : DatabaseCall) → (is_daemons call ≡ false → AreSame p past) → KeepsSights past p → KeepsSights past (on_top p (map (within e) (marks_in p e call)))
kept-does past p e call same kept =
    by_test (λ b. is_daemons call ≡ b → KeepsSights past (on_top p (map (within e) (marks_in p e call)))) (is_daemons call)
    (λ _ works. kept-marks past p e (marks_in p e call) (none-daemon (history_in p e) call works) kept) (λ _ own. kept-turn past p e (marks_in p e call) (looks-does (history_in p e) call) (same own)) refl

kept-aside : (past p : Past) (fact : Fact) → is_beside fact ≡ true → KeepsSights past p → KeepsSights past (fact ∷ p)
kept-aside past p (within d mark) e kept = absurd (cc e)
kept-aside past p _ e kept = kept

kept-call : (call : Call) (calls : List Call) → KeepsSights (past_of calls) (past_of (call ∷ calls))
kept-call call calls =
    after-call (λ _. Unit {0}) (λ _. Unit {0}) (KeepsSights past) call calls (record {
      does = λ p e deed own same kept. kept-does past p e deed same kept;
      nodes = λ p who s home_is this at refused kept _.
          after-node_does (KeepsSights past) (λ q e kept. kept) (λ q e table hand kept. kept) (λ q e batch kept. kept) (kept-called past) p who s home_is refused kept;
      aside = kept-aside past;
      appears = λ p name at. at;
    }) tt (λ d v k is. inl is) tt
  where
    past : Past
    past = past_of calls

-- ---- all calls

-- a place is the one after some of the calls
record IsAfter (calls : List Call) (d : ℕ) (k : History) : Type 0 where
  later : List Call
  upto : List Call
  are : calls ≡ later ++ upto
  is : history_in (past_of upto) d ≡ k

after-some : (calls : List Call) (d v : ℕ) (k : History) → sight v (history_in (past_of calls) d) ≡ at_place k → IsAfter calls d k
after-some [] d v k is = absurd (cc is)
after-some (call ∷ calls) d v k is = elim (kept-call call calls d v k is) [
  | inl old ↦ let a : IsAfter calls d k = after-some calls d v k old in record { later = call ∷ a.later; upto = a.upto; are = ap (λ cs. call ∷ cs) a.are; is = a.is }
  | inr here ↦ record { later = call ∷ []; upto = calls; are = refl; is = here }
]

pub sights_are_after_calls : SightsAreAfterCalls
sights_are_after_calls calls d who = of (sight who h) refl
  where
    h : History
    h = history_in (past_of calls) d

    now : (s : Sight History) → sight who h ≡ s → place_of_sight h s ≡ h → SeesAfter calls d who
    now s is own = record { later = []; upto = calls; are = refl; sees = ap (place_of_sight h) is ∙ own }

    of : (s : Sight History) → sight who h ≡ s → SeesAfter calls d who
    of at_each is = now at_each is refl
    of at_first is = now at_first is refl
    of (at_place k) is = let a : IsAfter calls d k = after-some calls d who k is in record { later = a.later; upto = a.upto; are = a.are; sees = ap (place_of_sight h) is ∙ sym a.is }
