-- What a move of one worker leaves to the others: the marks of its own copy, the end of its hold, and what it then has in hand.
use Rattle.std.proofs.Common.{arith, ◌≡◌, ℕ, ◌==◌, List, [], ◌∷◌, Bool, true, false, not, ◌&&◌, ◌||◌, Some, None, is_some, map, bytes_eq, refl, sym, ap, subst, ◌∙◌, if◌then◌else◌}
use Rattle.std.proofs.lemmas.Bool.Decides.{nat_tests}
use Rattle.sky_names.specs.Places.{place_of}
use Rattle.sky_names.proofs.PlaceLemmas.{same_name}
use Rattle.sky_model.specs.History.{Mark, of_copy, began, ended, tabled, table_made, wrote, noded, copied, leaf_removed, state_set, hold_begun, hold_ended, History, Fact, within, in_hand, Past}
use Rattle.sky_model.specs.Rows.{table_names}
use Rattle.sky_model.specs.Hands.{CopyHand, of_copy}
use Rattle.sky_model.specs.StepNode.{is_in_copy}
use Rattle.sky_model.specs.World.{history_in, on_top}
use Rattle.sky_histories.proofs.Histories.{AllLegal}
use Rattle.sky_histories.proofs.StatementMarks.{EachMark, each-rest, when-true}
use Rattle.sky_histories.proofs.NodeTables.{one-place}
use Rattle.sky_histories.proofs.Good.{same-session}
use Rattle.sky_model.proofs.Cases.{by_test, by_same}
use Rattle.sky_laws_replicas.specs.LawsOfReplicas.{copy_in_hand}
use Rattle.sky_laws_replicas.proofs.NodeNames.{source_of}
use Rattle.sky_laws_replicas.proofs.Copying.{spares_copy, leaves_held, place-stays}
use Rattle.sky_laws_replicas.proofs.HandsAt.{is_at, AreOne, one-at, at-itself, hand-is}
use Rattle.sky_laws_replicas.proofs.RunningCopies.{IsCopied, Uncopied, begins_no_copy}
use Rattle.sky_laws_replicas.proofs.Keeping.{legal-before, fine-within, in-history, source-within, Copying, copying-handed, TellsOfCopied, copied-beside, Keeps, Kept, was-source, keeps-within, keeps_copies, fits-step}

-- all tables; all but one
abbrev pub each_table : ℕ → List ℕ → Bool
each_table e other = true

abbrev pub other_than : ℕ → List ℕ → ℕ → List ℕ → Bool
other_than d name e other = not (is_at d name e other)

-- ---- legality goes further down

pub legal-under : (past : Past) (facts : List Fact) → AllLegal (on_top past facts) → AllLegal past
legal-under past [] after = after
legal-under past (fact ∷ facts) after = legal-before past fact (legal-under (fact ∷ past) facts after)

-- so what is kept by facts may be proved by what holds before them
pub by-before : (past : Past) (facts : List Fact) → (AllLegal past → Keeps each_table past → Kept each_table (on_top past facts)) → Kept each_table past → Kept each_table (on_top past facts)
by-before past facts so kept after = let legal : AllLegal past = legal-under past facts after in so legal (kept legal) after

-- ---- what holds of all holds of one

pub fewer : (d : ℕ) (name : List ℕ) (past : Past) → Keeps each_table past → Kept (other_than d name) past
fewer d name past k legal = record {
  all_noded = k.all_noded;
  all_copied = k.all_copied;
  copying = λ e other hand is has. k.copying e other hand refl has;
  apart = λ e other f third one two p is also. k.apart e other f third one two p refl refl;
  running = λ e other table is. k.running e other table refl;
}

-- where there is nothing in hand, no copy runs
pub idle-hand : (past : Past) (d : ℕ) (name : List ℕ) → Keeps each_table past → copy_in_hand past d name ≡ None → Uncopied (history_in past d) name
idle-hand past d name k nothing n c = absurd (cc (sym (k.running d name n refl c) ∙ ap is_some nothing))

-- the workers of other tables with this provider's database have other numbers of holds in hand
abbrev pub Free : Past → (p d : ℕ) → List ℕ → ℕ → Type 0
Free past p d name hold = (e : ℕ) (other : List ℕ) (hand : CopyHand) → other_than d name e other ≡ true → copy_in_hand past e other ≡ Some hand → source_of past e ≡ Some p → (hold == hand.hold) ≡ false

pub own-free : (past : Past) (p d : ℕ) (name : List ℕ) (hand : CopyHand) → Keeps each_table past → copy_in_hand past d name ≡ Some hand → source_of past d ≡ Some p → Free past p d name hand.hold
own-free past p d name hand k has from e other two differ have comes = k.apart d name e other hand two p refl refl (not-false-back (is_at d name e other) differ) has have from comes
  where
    not-false-back : (b : Bool) → not b ≡ true → b ≡ false
    not-false-back true e = absurd (cc e)
    not-false-back false e = refl

-- that, as long as the histories are legal
abbrev pub KeptFree : (p d : ℕ) → List ℕ → ℕ → Past → Type 0
KeptFree p d name hold past = AllLegal past → Keeps (other_than d name) past × Free past p d name hold

pub free-within : (p d : ℕ) (name : List ℕ) (hold : ℕ) (past : Past) (e : ℕ) (mark : Mark) → Kept (other_than d name) (within e mark ∷ past) → KeptFree p d name hold past → KeptFree p d name hold (within e mark ∷ past)
free-within p d name hold past e mark next kept after =
    let legal : AllLegal past = legal-before past (within e mark) after in
    let both = kept legal in (
      next after,
      λ f other hand differ has from.
          let c = both.0.copying f other hand differ has in
          both.1 f other hand differ has (was-source past (within e mark ∷ past) f other hand c (source-within past e mark f c.p both.0.all_noded (fine-within past e mark after) c.from) p from),
    )

pub kept-alone : (p d : ℕ) (name : List ℕ) (hold : ℕ) (past : Past) → KeptFree p d name hold past → Kept (other_than d name) past
kept-alone p d name hold past kept legal = (kept legal).0

-- ---- the marks of the own copy

abbrev pub is_own : List ℕ → ℕ → Mark → Bool
is_own name table (began (of_copy n) t) = n == table
is_own name table (ended (of_copy n) t c) = n == table
is_own name table (tabled (wrote (of_copy n) t m key old new)) = n == table
is_own name table (noded (leaf_removed other)) = bytes_eq name other
is_own name table (noded (state_set other state)) = is_in_copy state
is_own name table mark = keeps_copies mark

own-tells : (past : Past) (e : ℕ) (name : List ℕ) (table : ℕ) (mark : Mark) → is_own name table mark ≡ true → TellsOfCopied past e mark
own-tells past e name table (noded (copied other under tick)) is = absurd (cc is)
own-tells past e name table mark is = tt

own-held : (name : List ℕ) (table number : ℕ) (mark : Mark) → is_own name table mark ≡ true → leaves_held number mark ≡ true
own-held name table number (noded (hold_ended hold)) e = absurd (cc e)
own-held name table number mark e = refl

own-spares_copy : (name : List ℕ) (table : ℕ) (third : List ℕ) (other : ℕ) (mark : Mark) → (table == other) ≡ false → bytes_eq third name ≡ false → is_own name table mark ≡ true → spares_copy third other mark ≡ true
own-spares_copy name table third other (ended (of_copy n) t c) apart differ e = grind (arith, nat_tests, apart, e)
own-spares_copy name table third other (tabled (wrote (of_copy n) t m key old new)) apart differ e = grind (arith, nat_tests, apart, e)
own-spares_copy name table third other (noded (copied x under tick)) apart differ e = absurd (cc e)
own-spares_copy name table third other (noded (leaf_removed x)) apart differ e = ap (λ y. not (bytes_eq third y)) (sym (same_name name x e)) ∙ ap not differ
own-spares_copy name table third other (noded (state_set x state)) apart differ e = ap (λ b. b || not (bytes_eq third x)) e
own-spares_copy name table third other mark apart differ e = refl

own-begins : (name : List ℕ) (table other : ℕ) (mark : Mark) → (table == other) ≡ false → is_own name table mark ≡ true → begins_no_copy other mark ≡ true
own-begins name table other (began (of_copy n) t) apart e = grind (arith, nat_tests, apart, e)
own-begins name table other mark apart e = refl

-- another table of this database has another name
pub names-differ : (d : ℕ) (name : List ℕ) (e : ℕ) (other : List ℕ) → other_than d name e other ≡ true → d ≡ e → bytes_eq other name ≡ false
names-differ d name e other differ same =
    by_test (λ b. bytes_eq other name ≡ b → b ≡ false) (bytes_eq other name)
    (λ _ is. absurd (cc (sym differ ∙ ap (λ b. not (b && bytes_eq other name)) (ap (λ k. k == e) same ∙ same-session e) ∙ ap not is))) (λ _ _. refl) refl

pub own-step : (past : Past) (d : ℕ) (name : List ℕ) (table : ℕ) (mark : Mark) → place_of name (table_names (history_in past d)) ≡ Some table → is_own name table mark ≡ true
    → Kept (other_than d name) past → Kept (other_than d name) (within d mark ∷ past)
own-step past d name table mark there own kept =
    keeps-within (other_than d name) past d mark (λ _ _. own-tells past d name table mark own)
    (λ _ _ e other hand differ has c. record {
      replica = λ same. own-spares_copy name table other c.table mark (apart e other differ same c.table c.here.named) (names-differ d name e other differ same) own;
      provider = λ _. own-held name table hand.hold mark own;
    }) (λ other n differ at. own-begins name table n mark (apart d other differ refl n at) own) kept
  where
    apart : (e : ℕ) (other : List ℕ) → other_than d name e other ≡ true → d ≡ e → (n : ℕ) → place_of other (table_names (history_in past e)) ≡ Some n → (table == n) ≡ false
    apart e other differ same n at =
        by_same (λ b. b ≡ false) table n
        (λ one.
        let names : name ≡ other = one-place name other (table_names (history_in past d)) table there (ap (λ k. place_of other (table_names (history_in past k))) same ∙ at ∙ ap Some (sym one)) in
        absurd (cc (sym differ ∙ sym (ap (λ k. not (is_at d name k name)) same ∙ ap (λ x. not (is_at d name e x)) names) ∙ ap not (at-itself d name)))) (λ _. refl)

-- the number of a table stays
pub number-stays : (name : List ℕ) (table : ℕ) (h : History) (mark : Mark) → place_of name (table_names h) ≡ Some table → place_of name (table_names (mark ∷ h)) ≡ Some table
number-stays name table h (tabled (table_made last columns)) is = place-stays name (table_names h) last table is
number-stays name table h mark is = is

pub number-within : (name : List ℕ) (table : ℕ) (past : Past) (e : ℕ) (mark : Mark) (d : ℕ) → place_of name (table_names (history_in past d)) ≡ Some table
    → place_of name (table_names (history_in (within e mark ∷ past) d)) ≡ Some table
number-within name table past e mark d is = in-history (λ h. place_of name (table_names h) ≡ Some table) past e mark d (λ _ at. number-stays name table (history_in past d) mark at) is

pub own-marks : (past : Past) (d : ℕ) (name : List ℕ) (table : ℕ) (marks : List Mark) → place_of name (table_names (history_in past d)) ≡ Some table → EachMark (is_own name table) marks
    → Kept (other_than d name) past → Kept (other_than d name) (on_top past (map (within d) marks))
own-marks past d name table [] there each kept = kept
own-marks past d name table (mark ∷ marks) there each kept =
    own-marks (within d mark ∷ past) d name table marks (number-within name table past d mark d there) (each-rest (is_own name table) mark marks each)
    (own-step past d name table mark there (when-true (EachMark (is_own name table) marks) (is_own name table mark) each) kept)

pub own-marks-free : (p : ℕ) (hold : ℕ) (past : Past) (d : ℕ) (name : List ℕ) (table : ℕ) (marks : List Mark) → place_of name (table_names (history_in past d)) ≡ Some table → EachMark (is_own name table) marks
    → KeptFree p d name hold past → KeptFree p d name hold (on_top past (map (within d) marks))
own-marks-free p hold past d name table [] there each kept = kept
own-marks-free p hold past d name table (mark ∷ marks) there each kept =
    own-marks-free p hold (within d mark ∷ past) d name table marks (number-within name table past d mark d there) (each-rest (is_own name table) mark marks each)
    (free-within p d name hold past d mark (own-step past d name table mark there (when-true (EachMark (is_own name table) marks) (is_own name table mark) each) (kept-alone p d name hold past kept)) kept)

-- ---- marks that are none of a copy's, in another database

pub quiet-marks : (past : Past) (e d : ℕ) (name : List ℕ) (marks : List Mark) → EachMark keeps_copies marks → Kept (other_than d name) past → Kept (other_than d name) (on_top past (map (within e) marks))
quiet-marks past e d name [] each kept = kept
quiet-marks past e d name (mark ∷ marks) each kept =
    quiet-marks (within e mark ∷ past) e d name marks (each-rest keeps_copies mark marks each)
    (fits-step (other_than d name) past (within e mark) (when-true (EachMark keeps_copies marks) (keeps_copies mark) each) kept)

-- ---- the own hold

pub begins-hold : (p d : ℕ) (name : List ℕ) (hold number : ℕ) (past : Past) → KeptFree p d name hold past → KeptFree p d name hold (within p (noded (hold_begun number)) ∷ past)
begins-hold p d name hold number past kept =
    free-within p d name hold past p (noded (hold_begun number))
    (keeps-within (other_than d name) past p (noded (hold_begun number)) (λ _ _. tt) (λ _ _ e other hand differ has c. record { replica = λ _. refl; provider = λ _. refl }) (λ _ _ _ _. refl)
    (kept-alone p d name hold past kept)) kept

pub ends-hold : (p d : ℕ) (name : List ℕ) (hold : ℕ) (past : Past) → KeptFree p d name hold past → Kept (other_than d name) (within p (noded (hold_ended hold)) ∷ past)
ends-hold p d name hold past kept after =
    keeps-within (other_than d name) past p (noded (hold_ended hold)) (λ _ _. tt)
    (λ legal _ e other hand differ has c. record {
      replica = λ _. refl;
      provider = λ same. ap not ((kept legal).1 e other hand differ has (c.from ∙ ap Some (sym same)));
    }) (λ _ _ _ _. refl) (kept-alone p d name hold past kept) after

-- ---- what the own worker has in hand

-- nothing, if no copy of its table runs
pub puts-down : (d : ℕ) (name : List ℕ) (past : Past) → (AllLegal past → Uncopied (history_in past d) name) → Kept (other_than d name) past → Kept each_table (in_hand d name None ∷ past)
puts-down d name past none kept after =
    let legal : AllLegal past = legal-before past (in_hand d name None) after in
    let k = kept legal in
    record {
      all_noded = k.all_noded;
      all_copied = copied-beside past (in_hand d name None) (λ e. refl) (λ e q found. found) k.all_copied;
      copying = λ e other hand _ has. let o = others e other hand has in copying-handed past d name None e other hand (k.copying e other hand o.0 o.1);
      apart = λ e other f third one two p _ _ differ has have.
          let x = others e other one has in let y = others f third two have in k.apart e other f third one two p x.0 y.0 differ x.1 y.1;
      running = λ e other table _ c.
          ap is_some (hand-is past d name None e other)
          ∙ by_test (λ b. is_at d name e other ≡ b → is_some (if b then None else copy_in_hand past e other) ≡ true) (is_at d name e other)
          (λ _ at. let one : AreOne d name e other = one-at d name e other at in
          absurd (none legal table (subst (λ x. IsCopied (history_in past d) x table) (sym one.table) (subst (λ n. IsCopied (history_in past n) other table) (sym one.database) c))))
          (λ _ no. k.running e other table (ap not no) c) refl;
    }
  where
    others : (e : ℕ) (other : List ℕ) (hand : CopyHand) → copy_in_hand (in_hand d name None ∷ past) e other ≡ Some hand → (other_than d name e other ≡ true) × (copy_in_hand past e other ≡ Some hand)
    others e other hand has =
        by_test (λ b. (if b then None else copy_in_hand past e other) ≡ Some hand → (not b ≡ true) × (copy_in_hand past e other ≡ Some hand)) (is_at d name e other)
        (λ _ none. absurd (cc none)) (λ _ some. (refl, some)) (sym (hand-is past d name None e other) ∙ has)

-- this table, or another one with what it has in hand
data Whom (d : ℕ) (name : List ℕ) (hand : CopyHand) (past : Past) (e : ℕ) (other : List ℕ) (held : CopyHand) : Type 0 where
  itself : d ≡ e → name ≡ other → hand ≡ held → Whom d name hand past e other held
  another : other_than d name e other ≡ true → copy_in_hand past e other ≡ Some held → Whom d name hand past e other held

pub takes-up : (p d : ℕ) (name : List ℕ) (hand : CopyHand) (past : Past) → KeptFree p d name hand.hold past → (AllLegal past → Copying past d name hand) → (AllLegal past → source_of past d ≡ Some p)
    → Kept each_table (in_hand d name (Some (of_copy hand)) ∷ past)
takes-up p d name hand past kept copy from after =
    let legal : AllLegal past = legal-before past (in_hand d name (Some (of_copy hand))) after in
    let both = kept legal in
    let k = both.0 in
    record {
      all_noded = k.all_noded;
      all_copied = copied-beside past (in_hand d name (Some (of_copy hand))) (λ e. refl) (λ e q found. found) k.all_copied;
      copying = λ e other held _ has. copying-handed past d name (Some (of_copy hand)) e other held (of k (copy legal) e other held (whom e other held has));
      apart = λ e other f third one two q _ _ differ has have comes goes. apart (from legal) k both.1 e other f third one two q differ comes goes (whom e other one has) (whom f third two have);
      running = λ e other table _ c.
          ap is_some (hand-is past d name (Some (of_copy hand)) e other)
          ∙ by_test (λ b. is_at d name e other ≡ b → is_some (if b then Some hand else copy_in_hand past e other) ≡ true) (is_at d name e other) (λ _ _. refl) (λ _ no. k.running e other table (ap not no) c) refl;
    }
  where
    whom : (e : ℕ) (other : List ℕ) (held : CopyHand) → copy_in_hand (in_hand d name (Some (of_copy hand)) ∷ past) e other ≡ Some held → Whom d name hand past e other held
    whom e other held has =
        by_test (λ b. is_at d name e other ≡ b → (if b then Some hand else copy_in_hand past e other) ≡ Some held → Whom d name hand past e other held) (is_at d name e other)
        (λ _ at some. let one : AreOne d name e other = one-at d name e other at in itself one.database one.table (cc some)) (λ _ no some. another (ap not no) some) refl
        (sym (hand-is past d name (Some (of_copy hand)) e other) ∙ has)

    of : Keeps (other_than d name) past → Copying past d name hand → (e : ℕ) (other : List ℕ) (held : CopyHand) → Whom d name hand past e other held → Copying past e other held
    of k c e other held (itself one table is) = subst (Copying past e other) is (subst (λ x. Copying past e x hand) table (subst (λ n. Copying past n name hand) one c))
    of k c e other held (another differ has) = k.copying e other held differ has

    apart : source_of past d ≡ Some p → Keeps (other_than d name) past → Free past p d name hand.hold → (e : ℕ) (other : List ℕ) (f : ℕ) (third : List ℕ) (one two : CopyHand) (q : ℕ) → is_at e other f third ≡ false
        → source_of past e ≡ Some q → source_of past f ≡ Some q → Whom d name hand past e other one → Whom d name hand past f third two → (one.hold == two.hold) ≡ false
    apart comes_from k free e other f third one two q differ comes goes (itself d1 n1 h1) (itself d2 n2 h2) =
        absurd (cc (sym differ ∙ (ap (λ x. is_at e other x third) (sym d2 ∙ d1) ∙ ap (is_at e other e) (sym n2 ∙ n1) ∙ at-itself e other)))
    apart comes_from k free e other f third one two q differ comes goes (itself d1 n1 h1) (another differs has) =
        ap (λ (x : CopyHand). x.hold == two.hold) (sym h1) ∙ free f third two differs has (goes ∙ sym comes ∙ ap (source_of past) (sym d1) ∙ comes_from)
    apart comes_from k free e other f third one two q differ comes goes (another differs has) (itself d2 n2 h2) =
        turned one.hold two.hold (ap (λ (x : CopyHand). x.hold == one.hold) (sym h2) ∙ free e other one differs has (comes ∙ sym goes ∙ ap (source_of past) (sym d2) ∙ comes_from))
      where
        turned : (a b : ℕ) → (b == a) ≡ false → (a == b) ≡ false
        turned a b e = grind (arith, nat_tests, e)
    apart comes_from k free e other f third one two q differ comes goes (another differs has) (another also have) = k.apart e other f third one two q differs also differ has have comes goes
