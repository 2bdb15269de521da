-- Where the consumers of all leaves' workers are, fact by fact.
use Rattle.std.proofs.Common.{◌≡◌, ℕ, List, [], ◌∷◌, map, true, Some, None, is_some, refl, sym, ap, subst, ◌∙◌, if◌then◌else◌}
use Rattle.londiste_state.specs.Nodes.{of_leaf, Leaf}
use Rattle.sky_model.specs.History.{Mark, noded, History, Fact, within, node_made, in_hand, batch_in_hand, Past}
use Rattle.sky_model.specs.Nodes.{node}
use Rattle.sky_model.specs.Settling.{marked}
use Rattle.sky_model.specs.StepNode.{NodeCall}
use Rattle.sky_model.specs.World.{history_in, hands, batches, on_top}
use Rattle.sky_histories.proofs.Legal.{Legal}
use Rattle.sky_histories.proofs.Histories.{AllLegal}
use Rattle.sky_histories.proofs.PastHistories.{history-marks}
use Rattle.sky_histories.proofs.StatementMarks.{EachMark, each-rest, when-true}
use Rattle.sky_model.proofs.Cases.{by_same}
use Rattle.sky_laws_replicas.proofs.NodeNames.{source_of}
use Rattle.sky_laws_replicas.proofs.Keeping.{fine-within, Noded, noded-within, source-within, source-made, made-noded}
use Rattle.sky_laws_replicas.proofs.Others.{legal-under}
use Rattle.sky_laws_replicas.proofs.HandsAt.{hands-marks}
use Rattle.sky_laws_replicas.proofs.CallPasts.{call_marks, called, after_calls}
use Rattle.sky_laws_replicas.proofs.SessionsMarks.{is_sessions}
use Rattle.sky_laws_synced.proofs.Following.{Following, following-marks}
use Rattle.sky_laws_synced.proofs.ConsumersMarks.{SparesNodes}
use Rattle.sky_laws_synced.proofs.LeafFollows.{copy_name, LeafFollows, KeptAt, all-kept}
use Rattle.sky_laws_replicas.proofs.EachCall.{is_beside}

-- ---- what is so

-- of the workers of a leaf, by the history of its provider's database
pub record AtSource (past : Past) (d : ℕ) (l : Leaf) : Type 0 where
  pub p : ℕ
  pub from : source_of past d ≡ Some p
  pub queue : ℕ
  pub follows : LeafFollows (history_in past p) queue l (batches past d) (hands past d)

pub record Follow (past : Past) : Type 0 where
  pub all_noded : Noded past
  pub leaves : (d : ℕ) (l : Leaf) → node (history_in past d) ≡ Some (of_leaf l) → AtSource past d l
  -- leaves of one provider have names of their own
  pub apart : (d e p : ℕ) (l m : Leaf) → node (history_in past d) ≡ Some (of_leaf l) → node (history_in past e) ≡ Some (of_leaf m) → source_of past d ≡ Some p → source_of past e ≡ Some p → l.name ≡ m.name → d ≡ e
  -- in a database without a node, nothing is in hand
  pub bare : (d : ℕ) → node (history_in past d) ≡ None → batches past d ≡ None
  pub empty : (d : ℕ) (name : List ℕ) → node (history_in past d) ≡ None → hands past d name ≡ None

abbrev pub KeptFollow : Past → Type 0
KeptFollow past = AllLegal past → Follow past

-- ---- a past after another

abbrev pub Sourced : (past now : Past) → Type 0
Sourced past now = (d p : ℕ) → source_of past d ≡ Some p → source_of now d ≡ Some p

-- a leaf was one before, of this name, and what is so of its workers is so still
pub record Next (past now : Past) (f : Follow past) (d : ℕ) (l : Leaf) : Type 0 where
  pub was : Leaf
  pub is_leaf : node (history_in past d) ≡ Some (of_leaf was)
  pub named : l.name ≡ was.name
  pub follows : LeafFollows (history_in now (f.leaves d was is_leaf).p) (f.leaves d was is_leaf).queue l (batches now d) (hands now d)

pub follow-next : (past now : Past) → (f : Follow past) → Noded now → Sourced past now → ((d : ℕ) (l : Leaf) → node (history_in now d) ≡ Some (of_leaf l) → Next past now f d l)
    → ((d : ℕ) → node (history_in now d) ≡ None → batches now d ≡ None) → ((d : ℕ) (name : List ℕ) → node (history_in now d) ≡ None → hands now d name ≡ None) → Follow now
follow-next past now f noded_now sourced next bare empty = record {
  all_noded = noded_now;
  leaves = λ d l is. let n = next d l is in let a = f.leaves d n.was n.is_leaf in record { p = a.p; from = sourced d a.p a.from; queue = a.queue; follows = n.follows };
  apart = λ d e p l m is also from comes same.
      let n = next d l is in
      let o = next e m also in
      f.apart d e p n.was o.was n.is_leaf o.is_leaf (back d l is p from) (back e m also p comes) (sym n.named ∙ same ∙ o.named);
  bare = bare;
  empty = empty;
}
  where
    back : (d : ℕ) (l : Leaf) → node (history_in now d) ≡ Some (of_leaf l) → (p : ℕ) → source_of now d ≡ Some p → source_of past d ≡ Some p
    back d l is p from =
        let n = next d l is in
        let a = f.leaves d n.was n.is_leaf in
        let one : a.p ≡ p = cc (sym (sourced d a.p a.from) ∙ from) in
        a.from ∙ ap Some one

-- ---- marks in a database

pub batches-marks : (past : Past) (e : ℕ) (marks : List Mark) → batches (on_top past (map (within e) marks)) ≡ batches past
batches-marks past e [] = refl
batches-marks past e (mark ∷ marks) = batches-marks (within e mark ∷ past) e marks

pub batches-calls : (past : Past) (e : ℕ) (calls : List NodeCall) → batches (after_calls past e calls) ≡ batches past
batches-calls past e [] = refl
batches-calls past e (call ∷ calls) = batches-calls (called past e call) e calls ∙ batches-marks past e (call_marks (history_in past e) call)

-- nodes and sources stay
pub record Stays (past now : Past) : Type 0 where
  pub all_noded : Noded now
  pub sourced : Sourced past now

pub stays-marks : (past : Past) (e : ℕ) (marks : List Mark) → AllLegal (on_top past (map (within e) marks)) → Noded past → Stays past (on_top past (map (within e) marks))
stays-marks past e [] legal all = record { all_noded = all; sourced = λ d p from. from }
stays-marks past e (mark ∷ marks) legal all =
    let fine = fine-within past e mark (legal-under (within e mark ∷ past) (map (within e) marks) legal) in
    let s = stays-marks (within e mark ∷ past) e marks legal (noded-within past e mark fine all) in
    record { all_noded = s.all_noded; sourced = λ d p from. s.sourced d p (source-within past e mark d p all fine from) }

pub legal-calls : (past : Past) (e : ℕ) (calls : List NodeCall) → AllLegal (after_calls past e calls) → AllLegal past
legal-calls past e [] legal = legal
legal-calls past e (call ∷ calls) legal = legal-under past (map (within e) (call_marks (history_in past e) call)) (legal-calls (called past e call) e calls legal)

pub stays-calls : (past : Past) (e : ℕ) (calls : List NodeCall) → AllLegal (after_calls past e calls) → Noded past → Stays past (after_calls past e calls)
stays-calls past e [] legal all = record { all_noded = all; sourced = λ d p from. from }
stays-calls past e (call ∷ calls) legal all =
    let one = stays-marks past e (call_marks (history_in past e) call) (legal-calls (called past e call) e calls legal) all in
    let rest = stays-calls (called past e call) e calls legal one.all_noded in
    record { all_noded = rest.all_noded; sourced = λ d p from. rest.sourced d p (one.sourced d p from) }

-- ---- sessions and daemons

leaf-before_mark : (h : History) (mark : Mark) (l : Leaf) → is_sessions mark ≡ true → node (mark ∷ h) ≡ Some (of_leaf l) → node h ≡ Some (of_leaf l)
leaf-before_mark h (noded mark) l e is = absurd (cc e)
leaf-before_mark h mark l e is = is

leaf-before : (h : History) (marks : List Mark) (l : Leaf) → EachMark is_sessions marks → node (marked h marks) ≡ Some (of_leaf l) → node h ≡ Some (of_leaf l)
leaf-before h [] l each is = is
leaf-before h (mark ∷ marks) l each is =
    leaf-before_mark h mark l (when-true (EachMark is_sessions marks) (is_sessions mark) each) (leaf-before (mark ∷ h) marks l (each-rest is_sessions mark marks each) is)

none-before_mark : (h : History) (mark : Mark) → is_sessions mark ≡ true → node (mark ∷ h) ≡ None → node h ≡ None
none-before_mark h (noded mark) e is = absurd (cc e)
none-before_mark h mark e is = is

none-before : (h : History) (marks : List Mark) → EachMark is_sessions marks → node (marked h marks) ≡ None → node h ≡ None
none-before h [] each is = is
none-before h (mark ∷ marks) each is = none-before_mark h mark (when-true (EachMark is_sessions marks) (is_sessions mark) each) (none-before (mark ∷ h) marks (each-rest is_sessions mark marks each) is)

-- marks that spare each consumer of a node, by which no leaf is made
pub follow-marked : (past : Past) (e : ℕ) (marks : List Mark) → SparesNodes (history_in past e) marks
    → ((l : Leaf) → node (marked (history_in past e) marks) ≡ Some (of_leaf l) → node (history_in past e) ≡ Some (of_leaf l)) → (node (marked (history_in past e) marks) ≡ None → node (history_in past e) ≡ None)
    → KeptFollow past → KeptFollow (on_top past (map (within e) marks))
follow-marked past e marks spared leaf_was none_was kept after =
    let legal : AllLegal past = legal-under past (map (within e) marks) after in
    let f : Follow past = kept legal in
    let s : Stays past now = stays-marks past e marks after f.all_noded in
    follow-next past now f s.all_noded s.sourced
    (λ d l is.
    let was : node (history_in past d) ≡ Some (of_leaf l) = before d (λ g h. node g ≡ Some (of_leaf l) → node h ≡ Some (of_leaf l)) (leaf_was l) (λ here. here) is in
    let a : AtSource past d l = f.leaves d l was in
    record {
      was = l;
      is_leaf = was;
      named = refl;
      follows =
          subst (λ b. LeafFollows (history_in now a.p) a.queue l b (hands now d)) (sym (ap (λ g. g d) (batches-marks past e marks)))
          (subst (LeafFollows (history_in now a.p) a.queue l (batches past d)) (sym (ap (λ g. g d) (hands-marks past e marks)))
          (all-kept (history_in past a.p) (history_in now a.p) a.queue l (batches past d) (hands past d) (still a.p a.queue l.name) (still a.p a.queue (copy_name l)) a.follows));
    })
    (λ d is. ap (λ g. g d) (batches-marks past e marks) ∙ f.bare d (before d (λ g h. node g ≡ None → node h ≡ None) none_was (λ here. here) is))
    (λ d name is. ap (λ g. g d name) (hands-marks past e marks) ∙ f.empty d name (before d (λ g h. node g ≡ None → node h ≡ None) none_was (λ here. here) is))
  where
    now : Past
    now = on_top past (map (within e) marks)

    before : (d : ℕ) (P : History → History → Type 0) → P (marked (history_in past e) marks) (history_in past e) → P (history_in past d) (history_in past d) → P (history_in now d) (history_in past d)
    before d P here there =
        subst (λ g. P g (history_in past d)) (sym (history-marks past e marks d))
        (by_same (λ b. P (if b then marked (history_in past d) marks else history_in past d) (history_in past d)) e d
        (λ same. subst (λ n. P (marked (history_in past n) marks) (history_in past n)) same here) (λ _. there))

    still : (p q : ℕ) (c : List ℕ) → KeptAt (history_in past p) (history_in now p) q c
    still p q c tick hand f =
        by_same (λ b. history_in now p ≡ (if b then marked (history_in past p) marks else history_in past p) → Following (history_in now p) q c tick hand) e p
        (λ same is.
        subst (λ g. Following g q c tick hand) (sym is)
        (following-marks (history_in past p) marks q c tick hand (subst Legal is (after p)) (subst (λ n. SparesNodes (history_in past n) marks) same spared q c f.of_set f.is_nodes) f))
        (λ _ is. subst (λ g. Following g q c tick hand) (sym is) f) (history-marks past e marks p)

pub follow-marks : (past : Past) (e : ℕ) (marks : List Mark) → SparesNodes (history_in past e) marks → EachMark is_sessions marks → KeptFollow past → KeptFollow (on_top past (map (within e) marks))
follow-marks past e marks spared each = follow-marked past e marks spared (λ l. leaf-before (history_in past e) marks l each) (none-before (history_in past e) marks each)

-- ---- other facts

pub follow-made : (past : Past) (e : ℕ) → is_some (node (history_in past e)) ≡ true → KeptFollow past → KeptFollow (node_made e ∷ past)
follow-made past e has kept after =
    let f : Follow past = kept (λ d. after d) in
    follow-next past (node_made e ∷ past) f (made-noded past e has f.all_noded) (λ d p from. source-made past e d p from)
    (λ d l is. record { was = l; is_leaf = is; named = refl; follows = (f.leaves d l is).follows }) (λ d is. f.bare d is) (λ d name is. f.empty d name is)

pub follow-aside : (past : Past) (fact : Fact) → is_beside fact ≡ true → KeptFollow past → KeptFollow (fact ∷ past)
follow-aside past (within d mark) e kept after = absurd (cc e)
follow-aside past (node_made d) e kept after = absurd (cc e)
follow-aside past (in_hand d table hand) e kept after = absurd (cc e)
follow-aside past (batch_in_hand d batch) e kept after = absurd (cc e)
follow-aside past fact e kept after =
    let f : Follow past = kept (λ d. after d) in
    follow-next past (fact ∷ past) f f.all_noded (λ d p from. from)
    (λ d l is. record { was = l; is_leaf = is; named = refl; follows = (f.leaves d l is).follows }) (λ d is. f.bare d is) (λ d name is. f.empty d name is)
