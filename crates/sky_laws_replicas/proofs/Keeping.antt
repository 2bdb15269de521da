-- What holds of all copies in hand, and of all tables that have been copied, fact by fact.
use Rattle.std.proofs.Common.{arith, ◌≡◌, ℕ, ◌==◌, List, [], ◌∷◌, ◌++◌, Bool, true, false, not, ◌||◌, Option, Some, None, is_some, option_map, refl, sym, ap, subst, ◌∙◌, if◌then◌else◌}
use Rattle.std.specs.Option.{option_and_then}
use Rattle.sky_val.specs.declared.val.Val.{Val}
use Rattle.sky_val.specs.Entries.{Entries}
use Rattle.sky_names.specs.Places.{place_of}
use Rattle.sky_txid.specs.Ids.{contains}
use Rattle.sky_txid.specs.Snapshot.{SnapshotView}
use Rattle.londiste_state.specs.declared.state.TableState.{TableState}
use Rattle.londiste_state.specs.Nodes.{Node, node_name}
use Rattle.sky_model.specs.History.{Mark, of_copy, began, ended, tabled, wrote, noded, copied, leaf_removed, state_set, hold_begun, hold_ended, History, Fact, within, node_made, in_hand, Past}
use Rattle.sky_model.specs.Transactions.{snapshot}
use Rattle.sky_model.specs.Rows.{table_names, rows, writes as writes_of, put_all}
use Rattle.sky_model.specs.Nodes.{node}
use Rattle.sky_model.specs.State.{database_of}
use Rattle.sky_model.specs.Hands.{CopyHand, Hand, copy_in}
use Rattle.sky_model.specs.CopyMoves.{newest_of, last_key}
use Rattle.sky_model.specs.StepNode.{may_move, may_copy}
use Rattle.sky_model.specs.World.{history_in, nodes, on_top}
use Rattle.sky_histories.proofs.Legal.{Fine, nodes as noding, Legal, legal-below_mark, fine_mark}
use Rattle.sky_histories.proofs.Histories.{AllLegal}
use Rattle.sky_histories.proofs.Good.{same-session}
use Rattle.sky_model.proofs.Cases.{by_test, by_same}
use Rattle.sky_laws_replicas.specs.LawsOfReplicas.{CopyBegan, copy_in_hand}
use Rattle.sky_laws_replicas.proofs.NodeNames.{provider_of, IsNamedAs, named-stays, database_among, names_in, source_of, among-same, among-more}
use Rattle.sky_laws_replicas.proofs.StaysInCopy.{ends_copying, other-moved}
use Rattle.sky_laws_replicas.proofs.Copying.{Runs, spares_copy, runs-step, Holds, leaves_held, holds-step}
use Rattle.sky_histories.proofs.Snapshots.{contains-push}
use Rattle.sky_laws_replicas.proofs.HandsAt.{is_at, AreOne, one-at, hand-is}
use Rattle.sky_laws_replicas.proofs.RunningCopies.{IsCopied, begins_no_copy, copied-before}

-- ---- legality goes down

pub legal-before : (past : Past) (fact : Fact) → AllLegal (fact ∷ past) → AllLegal past
legal-before past (within e mark) all d = by_test (λ b. Legal (if b then mark ∷ history_in past d else history_in past d) → Legal (history_in past d)) (e == d) (λ _ l. legal-below_mark l) (λ _ l. l) (all d)
legal-before past _ all d = all d

pub fine-within : (past : Past) (e : ℕ) (mark : Mark) → AllLegal (within e mark ∷ past) → Fine (history_in past e) mark
fine-within past e mark all = fine_mark (subst (λ b. Legal (if b then mark ∷ history_in past e else history_in past e)) (same-session e) (all e))

-- ---- nodes

-- each database that has got its node has one
abbrev pub Noded : Past → Type 0
Noded past = (d : ℕ) → contains d (nodes past) ≡ true → is_some (node (history_in past d)) ≡ true

-- what is so of a history, is so after a mark in some database
pub in-history : (P : History → Type 0) (past : Past) (e : ℕ) (mark : Mark) (d : ℕ) → (e ≡ d → P (history_in past d) → P (mark ∷ history_in past d)) → P (history_in past d) → P (history_in (within e mark ∷ past) d)
in-history P past e mark d next holds = by_same (λ b. P (if b then mark ∷ history_in past d else history_in past d)) e d (λ same. next same holds) (λ _. holds)

named-within : (past : Past) (e : ℕ) (mark : Mark) (d : ℕ) (n : Node) → Fine (history_in past e) mark → node (history_in past d) ≡ Some n → IsNamedAs n (node (history_in (within e mark ∷ past) d))
named-within past e mark d n fine is =
    by_same (λ b. IsNamedAs n (node (if b then mark ∷ history_in past d else history_in past d))) e d
    (λ same. named-stays (history_in past d) mark n is (subst (λ k. Fine (history_in past k) mark) same fine)) (λ _. record { name = ap (option_map node_name) is; provider = ap provider_of is })

pub noded-within : (past : Past) (e : ℕ) (mark : Mark) → Fine (history_in past e) mark → Noded past → Noded (within e mark ∷ past)
noded-within past e mark fine all d there = of (node (history_in past d)) refl (all d there)
  where
    has : (o : Option Node) (n : Node) → option_map node_name o ≡ Some (node_name n) → is_some o ≡ true
    has None n is = absurd (cc is)
    has (Some m) n is = refl

    of : (o : Option Node) → node (history_in past d) ≡ o → is_some o ≡ true → is_some (node (history_in (within e mark ∷ past) d)) ≡ true
    of None is some = absurd (cc some)
    of (Some n) is some = has (node (history_in (within e mark ∷ past) d)) n (named-within past e mark d n fine is).name

-- a leaf keeps its provider's database
pub source-within : (past : Past) (e : ℕ) (mark : Mark) (d p : ℕ) → Noded past → Fine (history_in past e) mark → source_of past d ≡ Some p → source_of (within e mark ∷ past) d ≡ Some p
source-within past e mark d p all fine is = of (node (history_in past d)) refl is
  where
    name-same : (x : ℕ) → contains x (nodes past) ≡ true → names_in (within e mark ∷ past) x ≡ names_in past x
    name-same x there = by (node (history_in past x)) refl (all x there)
      where
        by : (o : Option Node) → node (history_in past x) ≡ o → is_some o ≡ true → names_in (within e mark ∷ past) x ≡ names_in past x
        by None none some = absurd (cc some)
        by (Some n) found some = (named-within past e mark x n fine found).name ∙ sym (ap (option_map node_name) found)

    among : (o : Option (List ℕ)) → option_and_then (λ provider. database_among (names_in past) provider (nodes past)) o ≡ Some p
        → option_and_then (λ provider. database_among (names_in (within e mark ∷ past)) provider (nodes past)) o ≡ Some p
    among None there = absurd (cc there)
    among (Some provider) there = among-same (names_in (within e mark ∷ past)) (names_in past) provider (nodes past) name-same ∙ there

    of : (o : Option Node) → node (history_in past d) ≡ o → option_and_then (λ provider. database_among (names_in past) provider (nodes past)) (provider_of (node (history_in past d))) ≡ Some p
        → source_of (within e mark ∷ past) d ≡ Some p
    of None none there = absurd (cc (sym there ∙ ap (λ o. option_and_then (λ provider. database_among (names_in past) provider (nodes past)) (provider_of o)) none))
    of (Some n) found there =
        among (provider_of (node (history_in (within e mark ∷ past) d)))
        (ap (option_and_then (λ provider. database_among (names_in past) provider (nodes past))) ((named-within past e mark d n fine found).provider ∙ sym (ap provider_of found)) ∙ there)

pub source-made : (past : Past) (e d p : ℕ) → source_of past d ≡ Some p → source_of (node_made e ∷ past) d ≡ Some p
source-made past e d p is = of (provider_of (node (history_in past d))) is
  where
    of : (o : Option (List ℕ)) → option_and_then (λ provider. database_among (names_in past) provider (nodes past)) o ≡ Some p
        → option_and_then (λ provider. database_among (names_in past) provider (nodes past ++ e ∷ [])) o ≡ Some p
    of None there = absurd (cc there)
    of (Some provider) there = among-more (names_in past) provider (nodes past) (e ∷ []) p there

-- ---- copies in hand

-- that it began stays said
pub began-on : {past before : Past} {d p table t hold : ℕ} {at_once : Bool} (fact : Fact) → CopyBegan past d p table t hold at_once before → CopyBegan (fact ∷ past) d p table t hold at_once before
began-on fact b = record { later = fact ∷ b.later; is = ap (λ q. fact ∷ q) b.is }

pub began-under : {past before : Past} {d p table t hold : ℕ} {at_once : Bool} (facts : List Fact) → CopyBegan past d p table t hold at_once before → CopyBegan (on_top past facts) d p table t hold at_once before
began-under [] b = b
began-under (fact ∷ facts) b = began-under facts (began-on fact b)

-- the copy of a table runs that a worker has in hand: it has copied the first rows, up to the last key in hand, of those that the provider's table had
-- where the snapshot was taken that is held for it
pub record Copying (past : Past) (d : ℕ) (name : List ℕ) (hand : CopyHand) : Type 0 where
  pub p : ℕ
  pub from : source_of past d ≡ Some p
  pub table : ℕ
  pub t : ℕ
  pub before : Past
  pub copy_began : CopyBegan past d p table t hand.hold false before
  pub there : Holds (history_in past p) hand.hold (history_in before p)
  pub from_newest : newest_of (database_of (history_in before p)) ≡ hand.tick
  pub source : ℕ
  pub source_named : place_of name (table_names (history_in before p)) ≡ Some source
  pub made : Entries (List Val)
  pub rest : Entries (List Val)
  pub here : Runs (history_in past d) name table t made
  pub rows_are : rows source (history_in before p) ≡ made ++ rest
  pub last : hand.last ≡ last_key None made

-- ---- tables that have been copied

pub record CopiedFrom (past : Past) (d : ℕ) (p : History) (name : List ℕ) (under : SnapshotView) (tick : ℕ) : Type 0 where
  pub provider : ℕ
  pub from : source_of past d ≡ Some provider
  pub table : ℕ
  pub t : ℕ
  pub hold : ℕ
  pub at_once : Bool
  pub before : Past
  pub copy_began : CopyBegan past d provider table t hold at_once before
  pub taken : snapshot (history_in before provider) ≡ under
  pub from_newest : newest_of (database_of (history_in before provider)) ≡ tick
  pub source : ℕ
  pub source_named : place_of name (table_names (history_in before provider)) ≡ Some source
  pub below : History
  pub last : p ≡ ended (of_copy table) t true ∷ below
  pub same : put_all (writes_of table t below) [] ≡ rows source (history_in before provider)

abbrev pub AllCopied : Past → Type 0
AllCopied past = (d : ℕ) (later : List Mark) (p : History) (name : List ℕ) (under : SnapshotView) (tick : ℕ) → history_in past d ≡ later ++ noded (copied name under tick) ∷ p
    → CopiedFrom past d p name under tick

-- a database that was found is found still
abbrev pub StillFound : Past → Fact → ℕ → Type 0
StillFound past fact d = (p : ℕ) → source_of past d ≡ Some p → source_of (fact ∷ past) d ≡ Some p

copied-still : (past : Past) (fact : Fact) (d : ℕ) (p : History) (name : List ℕ) (under : SnapshotView) (tick : ℕ) → StillFound past fact d → CopiedFrom past d p name under tick
    → CopiedFrom (fact ∷ past) d p name under tick
copied-still past fact d p name under tick still c = record {
  provider = c.provider;
  from = still c.provider c.from;
  table = c.table;
  t = c.t;
  hold = c.hold;
  at_once = c.at_once;
  before = c.before;
  copy_began = began-on fact c.copy_began;
  taken = c.taken;
  from_newest = c.from_newest;
  source = c.source;
  source_named = c.source_named;
  below = c.below;
  last = c.last;
  same = c.same;
}

-- a mark that tells of a copied table, of one that has its provider's rows
abbrev pub TellsOfCopied : Past → ℕ → Mark → Type 0
TellsOfCopied past e (noded (copied name under tick)) = CopiedFrom past e (history_in past e) name under tick
TellsOfCopied past e mark = Unit {0}

copied-within : (past : Past) (e : ℕ) (mark : Mark) → Noded past → Fine (history_in past e) mark → TellsOfCopied past e mark → AllCopied past → AllCopied (within e mark ∷ past)
copied-within past e mark there fine tells all d later p name under tick is =
    copied-still past (within e mark) d p name under tick (λ q found. source-within past e mark d q there fine found)
    (by_same (λ b. (if b then mark ∷ history_in past d else history_in past d) ≡ later ++ noded (copied name under tick) ∷ p → CopiedFrom past d p name under tick) e d
    (λ same. here later (subst (λ k. TellsOfCopied past k mark) same tells)) (λ _ there. all d later p name under tick there) is)
  where
    here : (later : List Mark) → TellsOfCopied past d mark → mark ∷ history_in past d ≡ later ++ noded (copied name under tick) ∷ p → CopiedFrom past d p name under tick
    here [] told e =
        let one : mark ≡ noded (copied name under tick) = cc in
        let same : history_in past d ≡ p = cc in
        subst (λ x. CopiedFrom past d x name under tick) same (subst (TellsOfCopied past d) one told)
    here (m ∷ ms) told e = all d ms p name under tick (let same : history_in past d ≡ ms ++ noded (copied name under tick) ∷ p = cc in same)

-- ---- all of it

-- of two tables with one provider's database the workers have different numbers of holds in hand
abbrev pub Apart : (ℕ → List ℕ → Bool) → Past → Type 0
Apart among past = (d : ℕ) (name : List ℕ) (e : ℕ) (other : List ℕ) (one two : CopyHand) (p : ℕ) → among d name ≡ true → among e other ≡ true → is_at d name e other ≡ false
    → copy_in_hand past d name ≡ Some one → copy_in_hand past e other ≡ Some two → source_of past d ≡ Some p → source_of past e ≡ Some p → (one.hold == two.hold) ≡ false

-- each copy that runs, of one of these tables, is in hand
abbrev pub AllInHand : (ℕ → List ℕ → Bool) → Past → Type 0
AllInHand among past = (d : ℕ) (name : List ℕ) (table : ℕ) → among d name ≡ true → IsCopied (history_in past d) name table → is_some (copy_in_hand past d name) ≡ true

-- what holds of what is in hand for some tables, and of all copied tables
pub record Keeps (among : ℕ → List ℕ → Bool) (past : Past) : Type 0 where
  pub all_noded : Noded past
  pub all_copied : AllCopied past
  pub copying : (d : ℕ) (name : List ℕ) (hand : CopyHand) → among d name ≡ true → copy_in_hand past d name ≡ Some hand → Copying past d name hand
  pub apart : Apart among past
  pub running : AllInHand among past

-- a mark is none by which the copy in hand would write or end, or its hold would
pub record Passes (past : Past) (e : ℕ) (mark : Mark) (d : ℕ) (name : List ℕ) (hand : CopyHand) (c : Copying past d name hand) : Type 0 where
  pub replica : e ≡ d → spares_copy name c.table mark ≡ true
  pub provider : e ≡ c.p → leaves_held hand.hold mark ≡ true

-- so it goes on after a fact that leaves what it reads
copying-on : (past : Past) (fact : Fact) (d : ℕ) (name : List ℕ) (hand : CopyHand) (c : Copying past d name hand) → source_of (fact ∷ past) d ≡ Some c.p
    → Holds (history_in (fact ∷ past) c.p) hand.hold (history_in c.before c.p) → Runs (history_in (fact ∷ past) d) name c.table c.t c.made → Copying (fact ∷ past) d name hand
copying-on past fact d name hand c from there here = record {
  p = c.p;
  from = from;
  table = c.table;
  t = c.t;
  before = c.before;
  copy_began = began-on fact c.copy_began;
  there = there;
  from_newest = c.from_newest;
  source = c.source;
  source_named = c.source_named;
  made = c.made;
  rest = c.rest;
  here = here;
  rows_are = c.rows_are;
  last = c.last;
}

copying-within : (past : Past) (e : ℕ) (mark : Mark) → AllLegal past → Noded past → Fine (history_in past e) mark → (d : ℕ) (name : List ℕ) (hand : CopyHand) → (c : Copying past d name hand)
    → Passes past e mark d name hand c → Copying (within e mark ∷ past) d name hand
copying-within past e mark legal all fine d name hand c passes =
    copying-on past (within e mark) d name hand c (source-within past e mark d c.p all fine c.from)
    (in-history (λ h. Holds h hand.hold (history_in c.before c.p)) past e mark c.p (λ same. holds-step (history_in past c.p) mark hand.hold (history_in c.before c.p) (passes.provider same)) c.there)
    (in-history (λ h. Runs h name c.table c.t c.made) past e mark d
    (λ same. runs-step (history_in past d) (legal d) mark (subst (λ k. Fine (history_in past k) mark) same fine) name c.table c.t c.made (passes.replica same)) c.here)

-- a mark begins no copy of these tables
abbrev pub BeginsNone : (ℕ → List ℕ → Bool) → Past → ℕ → Mark → Type 0
BeginsNone among past e mark = (name : List ℕ) (table : ℕ) → among e name ≡ true → place_of name (table_names (history_in past e)) ≡ Some table → begins_no_copy table mark ≡ true

running-within : (among : ℕ → List ℕ → Bool) (past : Past) (e : ℕ) (mark : Mark) → AllLegal past → BeginsNone among past e mark → AllInHand among past → AllInHand among (within e mark ∷ past)
running-within among past e mark legal none all d name table is =
    in-history (λ h. IsCopied h name table → is_some (copy_in_hand past d name) ≡ true) past e mark d
    (λ same before c. before (copied-before (history_in past d) (legal d) mark name table
    (λ at. none name table (subst (λ k. among k name ≡ true) (sym same) is) (ap (λ k. place_of name (table_names (history_in past k))) same ∙ at)) c)) (all d name table is)

-- what holds as long as the histories are legal
abbrev pub Kept : (ℕ → List ℕ → Bool) → Past → Type 0
Kept among past = AllLegal past → Keeps among past

-- a copy's database of the provider was the one that it is
pub was-source : (past now : Past) (d : ℕ) (name : List ℕ) (hand : CopyHand) (c : Copying past d name hand) → source_of now d ≡ Some c.p → (p : ℕ) → source_of now d ≡ Some p → source_of past d ≡ Some p
was-source past now d name hand c still p is = c.from ∙ sym still ∙ is

pub keeps-within : (among : ℕ → List ℕ → Bool) (past : Past) (e : ℕ) (mark : Mark) → (AllLegal past → Keeps among past → TellsOfCopied past e mark)
    → (AllLegal past → Keeps among past → (d : ℕ) (name : List ℕ) (hand : CopyHand) → among d name ≡ true → copy_in_hand past d name ≡ Some hand → (c : Copying past d name hand) → Passes past e mark d name hand c)
    → BeginsNone among past e mark → Kept among past → Kept among (within e mark ∷ past)
keeps-within among past e mark tells passes none kept after =
    let legal : AllLegal past = legal-before past (within e mark) after in
    let fine : Fine (history_in past e) mark = fine-within past e mark after in
    let k : Keeps among past = kept legal in
    record {
      all_noded = noded-within past e mark fine k.all_noded;
      all_copied = copied-within past e mark k.all_noded fine (tells legal k) k.all_copied;
      copying = λ d name hand is has. let c = k.copying d name hand is has in copying-within past e mark legal k.all_noded fine d name hand c (passes legal k d name hand is has c);
      apart = λ d name f other one two p is also differ has have from comes.
          let c = k.copying d name one is has in
          let b = k.copying f other two also have in
          k.apart d name f other one two p is also differ has have
          (was-source past (within e mark ∷ past) d name one c (source-within past e mark d c.p k.all_noded fine c.from) p from)
          (was-source past (within e mark ∷ past) f other two b (source-within past e mark f b.p k.all_noded fine b.from) p comes);
      running = running-within among past e mark legal none k.running;
    }

-- ---- marks of other statements

-- whether a mark is none of a copy that begins, writes or ends, of one that has ended, of a hold that begins or ends, and of a table that leaves a leaf or
-- goes on from being copied
abbrev pub keeps_copies : Mark → Bool
keeps_copies (began (of_copy n) t) = false
keeps_copies (ended (of_copy n) t c) = false
keeps_copies (tabled (wrote (of_copy n) t m key old new)) = false
keeps_copies (noded (copied name under tick)) = false
keeps_copies (noded (hold_begun hold)) = false
keeps_copies (noded (hold_ended hold)) = false
keeps_copies (noded (leaf_removed name)) = false
keeps_copies (noded (state_set name state)) = not (ends_copying state)
keeps_copies mark = true

moves-as : {h : History} {name : List ℕ} {state : TableState} → Fine h (noded (state_set name state)) → may_move name state (node h) ≡ true
moves-as (noding _ fits) = fits.may

pub quiet-spares_copy : (h : History) (name : List ℕ) (table : ℕ) (mark : Mark) → Fine h mark → may_copy name (node h) ≡ true → keeps_copies mark ≡ true → spares_copy name table mark ≡ true
quiet-spares_copy h name table (ended (of_copy n) t c) fine may e = absurd (cc e)
quiet-spares_copy h name table (tabled (wrote (of_copy n) t m key old new)) fine may e = absurd (cc e)
quiet-spares_copy h name table (noded (copied other under tick)) fine may e = absurd (cc e)
quiet-spares_copy h name table (noded (leaf_removed other)) fine may e = absurd (cc e)
quiet-spares_copy h name table (noded (state_set other state)) fine may e = other-moved name other state (node h) (goes-not (ends_copying state) e) (moves-as fine) may
  where
    goes-not : (b : Bool) → not b ≡ true → b ≡ false
    goes-not true e = absurd (cc e)
    goes-not false e = refl
quiet-spares_copy h name table mark fine may e = refl

pub quiet-held : (number : ℕ) (mark : Mark) → keeps_copies mark ≡ true → leaves_held number mark ≡ true
quiet-held number (noded (hold_ended hold)) e = absurd (cc e)
quiet-held number mark e = refl

pub quiet-begins : (table : ℕ) (mark : Mark) → keeps_copies mark ≡ true → begins_no_copy table mark ≡ true
quiet-begins table (began (of_copy n) t) e = absurd (cc e)
quiet-begins table mark e = refl

pub quiet-tells : (past : Past) (e : ℕ) (mark : Mark) → keeps_copies mark ≡ true → TellsOfCopied past e mark
quiet-tells past e (noded (copied name under tick)) is = absurd (cc is)
quiet-tells past e mark is = tt

-- a fact is one of other statements
abbrev pub FactFits : Past → Fact → Type 0
FactFits past (within d mark) = keeps_copies mark ≡ true
FactFits past (node_made d) = is_some (node (history_in past d)) ≡ true
FactFits past (in_hand d name hand) = copy_in_hand past d name ≡ copy_in hand
FactFits past fact = Unit {0}

-- facts are, one after another
abbrev pub FactsFit : Past → List Fact → Type 0
FactsFit past [] = Unit {0}
FactsFit past (fact ∷ facts) = FactFits past fact × FactsFit (fact ∷ past) facts

pub made-noded : (past : Past) (e : ℕ) → is_some (node (history_in past e)) ≡ true → Noded past → Noded (node_made e ∷ past)
made-noded past e has all d there =
    by_same (λ b. (contains d (nodes past) || b) ≡ true → is_some (node (history_in past d)) ≡ true) d e
    (λ same _. subst (λ k. is_some (node (history_in past k)) ≡ true) (sym same) has) (λ _ is. all d (grind (arith, is))) (sym (contains-push d e (nodes past)) ∙ there)

pub copying-handed : (past : Past) (e : ℕ) (other : List ℕ) (new : Option Hand) (d : ℕ) (name : List ℕ) (hand : CopyHand) → Copying past d name hand → Copying (in_hand e other new ∷ past) d name hand
copying-handed past e other new d name hand c = copying-on past (in_hand e other new) d name hand c c.from c.there c.here

pub copied-beside : (past : Past) (fact : Fact) → ((d : ℕ) → history_in (fact ∷ past) d ≡ history_in past d) → ((d : ℕ) → StillFound past fact d) → AllCopied past → AllCopied (fact ∷ past)
copied-beside past fact same still all d later p name under tick is = copied-still past fact d p name under tick (still d) (all d later p name under tick (sym (same d) ∙ is))

pub handed-same : (past : Past) (e : ℕ) (other : List ℕ) (hand : Option Hand) → copy_in_hand past e other ≡ copy_in hand → (d : ℕ) (name : List ℕ) → copy_in_hand (in_hand e other hand ∷ past) d name ≡ copy_in_hand past d name
handed-same past e other hand is d name =
    hand-is past e other hand d name
    ∙ by_test (λ b. is_at e other d name ≡ b → (if b then copy_in hand else copy_in_hand past d name) ≡ copy_in_hand past d name) (is_at e other d name)
    (λ _ at. let one : AreOne e other d name = one-at e other d name at in sym is ∙ ap (λ k. copy_in_hand past k other) one.database ∙ ap (copy_in_hand past d) one.table) (λ _ _. refl) refl

pub fits-step : (among : ℕ → List ℕ → Bool) (past : Past) (fact : Fact) → FactFits past fact → Kept among past → Kept among (fact ∷ past)
fits-step among past (within e mark) quiet kept after =
    keeps-within among past e mark (λ _ _. quiet-tells past e mark quiet)
    (λ _ _ d name hand is has c. record {
      replica = λ same. quiet-spares_copy (history_in past d) name c.table mark (subst (λ k. Fine (history_in past k) mark) same (fine-within past e mark after)) c.here.may quiet;
      provider = λ _. quiet-held hand.hold mark quiet;
    }) (λ name table is at. quiet-begins table mark quiet) kept after
fits-step among past (node_made e) has kept after =
    let k : Keeps among past = kept (legal-before past (node_made e) after) in
    record {
      all_noded = made-noded past e has k.all_noded;
      all_copied = copied-beside past (node_made e) (λ d. refl) (λ d q found. source-made past e d q found) k.all_copied;
      copying = λ d name hand is has. let c = k.copying d name hand is has in copying-on past (node_made e) d name hand c (source-made past e d c.p c.from) c.there c.here;
      apart = λ d name f other one two p is also differ has have from comes.
          let c = k.copying d name one is has in
          let b = k.copying f other two also have in
          k.apart d name f other one two p is also differ has have
          (was-source past (node_made e ∷ past) d name one c (source-made past e d c.p c.from) p from) (was-source past (node_made e ∷ past) f other two b (source-made past e f b.p b.from) p comes);
      running = k.running;
    }
fits-step among past (in_hand e other hand) same kept after =
    let k : Keeps among past = kept (legal-before past (in_hand e other hand) after) in
    let still = handed-same past e other hand same in
    record {
      all_noded = k.all_noded;
      all_copied = copied-beside past (in_hand e other hand) (λ d. refl) (λ d q found. found) k.all_copied;
      copying = λ d name h is has. copying-handed past e other hand d name h (k.copying d name h is (sym (still d name) ∙ has));
      apart = λ d name f o one two p is also differ has have from comes. k.apart d name f o one two p is also differ (sym (still d name) ∙ has) (sym (still f o) ∙ have) from comes;
      running = λ d name table is c. ap is_some (still d name) ∙ k.running d name table is c;
    }
fits-step among past _ fits kept after =
    let k = kept (λ d. after d) in
    record {
      all_noded = k.all_noded;
      all_copied = λ d later p name under tick is. copied-still past _ d p name under tick (λ q found. found) (k.all_copied d later p name under tick is);
      copying = λ d name hand is has. let c = k.copying d name hand is has in copying-on past _ d name hand c c.from c.there c.here;
      apart = k.apart;
      running = k.running;
    }

pub fits-steps : (among : ℕ → List ℕ → Bool) (past : Past) (facts : List Fact) → FactsFit past facts → Kept among past → Kept among (on_top past facts)
fits-steps among past [] fit kept = kept
fits-steps among past (fact ∷ facts) fit kept = fits-steps among (fact ∷ past) facts fit.1 (fits-step among past fact fit.0 kept)
