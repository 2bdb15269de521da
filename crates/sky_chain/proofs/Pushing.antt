-- What is kept after a node was taken from the spare ones and inserted into a list.
use Rattle.std.proofs.Common.{◌≡◌, ◌≢◌, ℕ, ◌-◌, ◌<◌, ◌≤◌, Bool, true, false, List, [], ◌∷◌, ◌++◌, map, length, set, Option, Some, None, slice_get, get_or, take, drop, length-set, length-append, refl, sym, ap, ◌∙◌, arith}
use Rattle.std.specs.Prelude.{◌==◌, if◌then◌else◌}
use Rattle.std.specs.Option.{unwrap_or}
use Rattle.std.specs.List.{AllByRecursion}
use Rattle.std.proofs.Math.Seq.{take-append_seam}
use Rattle.std.proofs.lemmas.Bool.Decides.{nat_tests}
use Rattle.std.proofs.lemmas.Option.{slice_get_within, same_Some, get_or_from_slice_get}
use Rattle.sky_chain.specs.declared.links.Link.{Link}
use Rattle.sky_chain.specs.declared.links.Ends.{Ends}
use Rattle.sky_chain.specs.Chains.{ChainsView, list_of, IsUnlinked, Lacks}
use Rattle.sky_chain.specs.Links.{nowhere, first_or, last_or, Chain, spare_link, Keeps, AreKept, list_in}
use Rattle.sky_chain.specs.Joins.{ends_joined, inserted, spare_node, with_spare, IsAt}
use Rattle.sky_chain.proofs.Writes.{inserted-elsewhere}
use Rattle.sky_chain.proofs.ChainLemmas.{Same, foreign_is_lacked, Chain-parts, Chain-agrees, last_is_marked, first_is_marked}
use Rattle.sky_chain.proofs.Inserting.{Chain-inserted}
use Rattle.sky_chain.proofs.Reading.{none_at_nowhere, small_links, Keeps-in_use, Chain-below, Chain-lacks_nowhere, found, seen}
use Rattle.sky_chain.proofs.Keeping.{slice_get-append, slice_get-push, slice_get-set_other, Spares-same, Freed-same, freed_lack, KeepsAt-same, keeps_with, first_inserted, last_inserted}

-- the first spare node, whose link is made if there is none
pub taken_kept : {links : List Link} {ends : List Ends} {free free_number spare size capacity : ℕ} {lists : ℕ → Option (List ℕ)} (spares : List ℕ)
    → AreKept links ends free free_number spare size capacity lists spares → 1 ≤ spare
    → (rest : List ℕ) × AreKept (with_spare links free) ends (spare_node links free) free_number spare size capacity lists (spare_node links free ∷ rest)
taken_kept {links} {ends} {free} {free_number} {spare} {size} {capacity} {lists} [] kept some = rw kept.free_node_is (
  [],
  record {
    keeps = λ l. KeepsAt-same (slice_get links) (slice_get more) l (slice_get ends l) (lists l) (λ e is z link at mark. kept_link z link at) (kept.keeps l);
    spares_are = (slice_get-push links (spare_link nowhere), tt, tt);
    free_node_is = refl;
    numbers = kept.numbers;
    numbers_are = kept.numbers_are;
    free_number_is = kept.free_number_is;
    spare_is = omega (arith, kept.spare_is, length-append links (spare_link nowhere ∷ []));
    made = omega (arith, kept.spare_is, length-append links (spare_link nowhere ∷ []));
    room = kept.room;
    small = kept.small;
    few = kept.few;
  },
)
  where
    more : List Link
    more = links ++ spare_link nowhere ∷ []

    kept_link : (z : ℕ) (link : Link) → slice_get links z ≡ Some link → slice_get (links ++ spare_link nowhere ∷ []) z ≡ slice_get links z
    kept_link z link at = slice_get-append links (spare_link nowhere ∷ []) z link at ∙ sym at
taken_kept {links} {ends} {free} {free_number} {spare} {size} {capacity} {lists} (x ∷ rest) kept some =
    pick (free == nowhere) (grind (arith, nat_tests, here))
  where
    here : free ≢ nowhere
    here same = absurd (cc (none_at_nowhere links (small_links kept), kept.spares_are.0, ap (slice_get links) (sym kept.free_node_is ∙ same)))

    pick : (b : Bool) → b ≡ false → (rest : List ℕ)
        × AreKept (if b then links ++ spare_link nowhere ∷ [] else links) ends (if b then length links else free) free_number spare size capacity lists ((if b then length links else free) ∷ rest)
    pick true is = absurd (cc)
    pick false is = (rest, rw kept.free_node_is (rw kept.free_node_is at kept))

module _ {links : List Link} {ends : List Ends} {node free_number spare size capacity : ℕ} {lists : ℕ → Option (List ℕ)} {rest : List ℕ} (kept : AreKept links ends node free_number spare size capacity lists (node ∷ rest)) where
  -- it is in no list
  pub spare_is_unlinked : (list : ℕ) (nodes : List ℕ) → lists list ≡ Some nodes → Lacks node nodes
  spare_is_unlinked list nodes is =
      let there = found kept list nodes is in
      let known = slice_get_within ends list there.0 there.1 in
      foreign_is_lacked (slice_get links) list node nowhere nodes nowhere
      (λ link at same. nowhere_else list known (sym same ∙ ap (λ (k : Link). k.list) (same_Some _ _ (sym at ∙ kept.spares_are.0)))) there.2.chain
    where
      nowhere_else : (list : ℕ) → list < length ends → list ≢ nowhere
      nowhere_else list known same = omega (arith, known, same, kept.few)

  -- and is inserted into one, whose nodes are these
  module _ (new : List Link) (list : ℕ) (e : Ends) (front back : List ℕ) (there : slice_get ends list ≡ Some e) (is : lists list ≡ Some (front ++ back))
      (at : (z : ℕ) → slice_get new z ≡ inserted (slice_get links) list node (last_or front nowhere) (first_or back nowhere) z) where
    was : Keeps (slice_get links) list e (front ++ back)
    was = rw (there, is) at (kept.keeps list)

    none : slice_get links nowhere ≡ None
    none = none_at_nowhere links (small_links kept)

    here : node ≢ nowhere
    here same = absurd (cc (none, kept.spares_are.0, ap (slice_get links) same))

    known : (l : ℕ) (k : Ends) → slice_get ends l ≡ Some k → l ≢ nowhere
    known l k at_l same = omega (arith, slice_get_within ends l k at_l, same, kept.few)

    lacked : Lacks nowhere (front ++ back)
    lacked = Chain-lacks_nowhere links (small_links kept) list nowhere (front ++ back) nowhere was.chain

    parts : Chain (slice_get links) list nowhere front (first_or back nowhere) × Chain (slice_get links) list (last_or front nowhere) back nowhere
    parts = Chain-parts (slice_get links) list nowhere front back nowhere was.chain

    before_marked : (link : Link) → slice_get links (last_or front nowhere) ≡ Some link → link.list ≡ list
    before_marked = last_is_marked (slice_get links) list nowhere front (first_or back nowhere) parts.0 (λ link at_none. absurd (cc (none, at_none)))

    after_marked : (link : Link) → slice_get links (first_or back nowhere) ≡ Some link → link.list ≡ list
    after_marked = first_is_marked (slice_get links) list (last_or front nowhere) back nowhere parts.1 (λ link at_none. absurd (cc (none, at_none)))

    -- the links of nodes of other lists stay, and so do those of the other spare nodes
    other_same : (z : ℕ) (link : Link) → z ≢ node → slice_get links z ≡ Some link → link.list ≢ list → slice_get new z ≡ slice_get links z
    other_same z link other at_z unmarked =
        at z ∙ inserted-elsewhere (slice_get links) list node (last_or front nowhere) (first_or back nowhere) z other
        (λ same. unmarked (before_marked link (ap (slice_get links) (sym same) ∙ at_z)))
        (λ same. unmarked (after_marked link (ap (slice_get links) (sym same) ∙ at_z)))

    list_same : (l : ℕ) → l ≢ list → l ≢ nowhere → Same (slice_get links) (slice_get new) l
    list_same l other not_spare z link at_z mark =
        other_same z link
        (λ same. not_spare (sym mark ∙ ap (λ (k : Link). k.list) (same_Some _ _ (sym at_z ∙ ap (slice_get links) same ∙ kept.spares_are.0))))
        at_z (λ same. other (sym mark ∙ same))

    keeps_now : Keeps (slice_get new) list (ends_joined (ends_joined e (last_or front nowhere) node) node (first_or back nowhere)) (front ++ node ∷ back)
    keeps_now = record {
      first = first_inserted e front back node here lacked was.first;
      last = last_inserted e front back node here lacked was.last;
      chain = Chain-agrees (inserted (slice_get links) list node (last_or front nowhere) (first_or back nowhere)) (slice_get new) list nowhere (front ++ node ∷ back) nowhere at
          (Chain-inserted list (slice_get links) none front back node _ kept.spares_are.0 (spare_is_unlinked list (front ++ back) is) was.chain);
    }

    pub inserted_kept : (free : ℕ) → length new ≡ length links → free ≡ first_or rest nowhere → 1 ≤ spare
        → AreKept new (set ends list (ends_joined (ends_joined e (last_or front nowhere) node) node (first_or back nowhere))) free free_number (spare - 1) size capacity
        (λ l. if l == list then Some (front ++ node ∷ back) else lists l) rest
    inserted_kept free same free_node_is some = record {
      keeps = keeps_with (slice_get new) ends list (ends_joined (ends_joined e (last_or front nowhere) node) node (first_or back nowhere)) e (Some (front ++ node ∷ back)) lists there keeps_now
          (λ l other. KeepsAt-same (slice_get links) (slice_get new) l (slice_get ends l) (lists l) (λ k at_l. list_same l other (known l k at_l)) (kept.keeps l));
      spares_are = Spares-same (slice_get links) (slice_get new) node rest (λ z link other at_z mark. other_same z link other at_z (λ listed. known list e there (sym listed ∙ mark)))
          kept.spares_are.1 kept.spares_are.2;
      free_node_is = free_node_is;
      numbers = kept.numbers;
      numbers_are = Freed-same (slice_get ends) (slice_get (set ends list _)) list kept.numbers (λ z other. slice_get-set_other ends list z _ other)
          (freed_lack (slice_get ends) list e kept.numbers there (Keeps-in_use links list e (front ++ back) (small_links kept) was) kept.numbers_are) kept.numbers_are;
      free_number_is = kept.free_number_is;
      spare_is = omega (arith, kept.spare_is, same);
      made = omega (arith, kept.made, same);
      room = kept.room;
      small = kept.small;
      few = omega (arith, kept.few, length-set ends list (ends_joined (ends_joined e (last_or front nowhere) node) node (first_or back nowhere)));
    }

-- a vector that was overwritten whole has what was written
pub refilled : {X : Type 0} (new old : List X) (len : ℕ) → length new ≡ length old → len ≡ length old → take len (new ++ drop (length new) old) ≡ new
refilled new old len same is = rw (is, ← same) (take-append_seam new (drop (length new) old))

-- nodes that are ends have links
last_below : {n : ℕ} (xs : List ℕ) (before : ℕ) → (before ≢ nowhere → before < n) → AllByRecursion (λ x. x < n) xs → last_or xs before ≢ nowhere → last_or xs before < n
last_below [] before within below other = within other
last_below (x ∷ xs) before within below other = last_below xs x (λ _. below.0) below.1 other

pub first_below : {n : ℕ} (xs : List ℕ) → AllByRecursion (λ x. x < n) xs → first_or xs nowhere ≢ nowhere → first_or xs nowhere < n
first_below [] below other = absurd (other refl)
first_below (x ∷ xs) below other = below.0

-- and so do the neighbours of a place
pub neighbours_within : {links : List Link} {ends : List Ends} {free free_number spare size capacity : ℕ} {lists : ℕ → Option (List ℕ)} {spares : List ℕ}
    → AreKept links ends free free_number spare size capacity lists spares → (list : ℕ) (front back : List ℕ) → lists list ≡ Some (front ++ back)
    → (last_or front nowhere ≢ nowhere → last_or front nowhere < length links) × (first_or back nowhere ≢ nowhere → first_or back nowhere < length links)
neighbours_within {links} kept list front back is =
    let chain = (found kept list (front ++ back) is).2.chain in
    let parts = Chain-parts (slice_get links) list nowhere front back nowhere chain in
    (last_below front nowhere (λ other. absurd (other refl)) (Chain-below links (small_links kept) list nowhere front _ parts.0), first_below back (Chain-below links (small_links kept) list _ back nowhere parts.1))

module _ {links : List Link} {ends : List Ends} {free free_number spare size capacity : ℕ} {lists : ℕ → Option (List ℕ)} {spares : List ℕ}
    (kept : AreKept links ends free free_number spare size capacity lists spares) (view : ChainsView) (is : record { lists = map (list_in links) ends; spare = spare; size = size } ≡ view)
    (some : 1 ≤ view.spare) (taken : List Link) (node : ℕ) (taken_is : taken ≡ with_spare links free) (node_is : node ≡ spare_node links free)
    (list before after : ℕ) (front back : List ℕ) (place : IsAt view list front back before after) where
  some_spare : 1 ≤ spare
  some_spare = rw (ap (λ (v : ChainsView). v.spare) is) some

  listed : lists list ≡ Some (front ++ back)
  listed = sym (seen kept view is list) ∙ place.0

  rest : List ℕ
  rest = (taken_kept spares kept some_spare).0

  after_taking : (rest : List ℕ) × AreKept taken ends node free_number spare size capacity lists (node ∷ rest)
  after_taking = rw (taken_is, node_is) (taken_kept spares kept some_spare)

  pub push_within : (before ≢ nowhere → before < length taken) × (after ≢ nowhere → after < length taken)
  push_within = rw (place.1, place.2) (neighbours_within after_taking.1 list front back listed)

  -- the spare node was taken and inserted into a list
  pub pushed_kept : (e now : Ends) (next len : ℕ) (new : List Link) → e ≡ get_or ends list e → ((link : Link) → slice_get taken node ≡ Some link → next ≡ link.next)
      → ((z : ℕ) → slice_get new z ≡ inserted (slice_get taken) list node before after z) → now ≡ ends_joined (ends_joined e before node) node after
      → length new ≡ length taken → len ≡ length taken
      → (rest : List ℕ) × AreKept (take len (new ++ drop (length new) taken)) (set ends list now) next free_number (spare - 1) size capacity
      (λ l. if l == list then Some (front ++ node ∷ back) else lists l) rest
  pushed_kept e now next len new read next_is at now_is same len_is =
      let there = found kept list (front ++ back) listed in
      let e_is : e ≡ there.0 = read ∙ get_or_from_slice_get ends list there.0 e there.1 in
      let k = after_taking.1 in
      let front_end = last_or front nowhere in
      let back_end = first_or back nowhere in
      let now_at : now ≡ ends_joined (ends_joined there.0 front_end node) node back_end =
      now_is ∙ ap (λ o. ends_joined (ends_joined o before node) node after) e_is
      ∙ ap (λ b. ends_joined (ends_joined there.0 b node) node after) place.1
      ∙ ap (λ a. ends_joined (ends_joined there.0 front_end node) node a) place.2 in
      let new_at : (z : ℕ) → slice_get new z ≡ inserted (slice_get taken) list node front_end back_end z =
      λ z. at z ∙ ap (λ b. inserted (slice_get taken) list node b after z) place.1 ∙ ap (λ a. inserted (slice_get taken) list node front_end a z) place.2 in
      rw (refilled new taken len same len_is, now_at)
      (after_taking.0, inserted_kept k new list there.0 front back there.1 listed new_at next same (next_is _ k.spares_are.0) some_spare)

  -- it was in no list, and is below the size
  pub push_unlinked : IsUnlinked view node × (node < view.size)
  push_unlinked =
      (λ l. lacked (list_of view l) (λ nodes shown. spare_is_unlinked after_taking.1 l nodes (sym (seen kept view is l) ∙ shown)), below)
    where
      lacked : (o : Option (List ℕ)) → ((nodes : List ℕ) → o ≡ Some nodes → Lacks node nodes) → Lacks node (unwrap_or o [])
      lacked None lacks = tt
      lacked (Some nodes) lacks = lacks nodes refl

      below : node < view.size
      below = omega (arith, after_taking.1.made, slice_get_within taken node _ after_taking.1.spares_are.0, ap (λ (v : ChainsView). v.size) is)
