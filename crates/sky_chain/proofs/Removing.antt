-- What is kept after a node was removed from its list.
use Rattle.std.proofs.Common.{◌≡◌, ◌≢◌, ℕ, suc, ◌<◌, ◌≤◌, List, [], ◌∷◌, ◌++◌, map, length, set, Option, Some, None, slice_get, get_or, take, drop, length-set, refl, sym, ap, ◌∙◌, arith}
use Rattle.std.specs.Prelude.{◌==◌, if◌then◌else◌}
use Rattle.std.proofs.lemmas.Option.{slice_get_within, slice_get-get_or, get_or_from_slice_get, same_Some}
use Rattle.sky_chain.specs.declared.links.Link.{Link}
use Rattle.sky_chain.specs.declared.links.Ends.{Ends}
use Rattle.sky_chain.specs.Chains.{ChainsView, IsBetween, Lacks}
use Rattle.sky_chain.specs.Links.{nowhere, first_or, last_or, Links, Chain, spare_link, Spares, Keeps, AreKept, list_in}
use Rattle.sky_chain.specs.Joins.{linked, ends_joined}
use Rattle.sky_chain.proofs.Lists.{Distinct}
use Rattle.sky_chain.proofs.Writes.{joined-elsewhere}
use Rattle.sky_chain.proofs.ChainLemmas.{Same, Chain-parts, last_is_marked, first_is_marked}
use Rattle.sky_chain.proofs.Inserting.{Chain-removed}
use Rattle.sky_chain.proofs.Reading.{none_at_nowhere, small_links, Keeps-in_use, Chain-below, Spares-below, Chain-lacks_nowhere, length_of_distinct, found, seen}
use Rattle.sky_chain.proofs.Keeping.{slice_get-set_same, slice_get-set_other, Spares-same, spares_lack, Freed-same, freed_lack, KeepsAt-same, keeps_with, first_removed, last_removed}
use Rattle.sky_chain.proofs.Pushing.{refilled, first_below, neighbours_within}

Spares-distinct : (links : Links) (xs : List ℕ) → Spares links xs → Distinct xs
Spares-distinct links [] spares = tt
Spares-distinct links (x ∷ xs) spares = (spares.1, Spares-distinct links xs spares.2)

module _ {links : List Link} {ends : List Ends} {free free_number spare size capacity : ℕ} {lists : ℕ → Option (List ℕ)} {spares : List ℕ}
    (kept : AreKept links ends free free_number spare size capacity lists spares) (list node : ℕ) (front back : List ℕ) (listed : lists list ≡ Some (front ++ node ∷ back)) where
  none : slice_get links nowhere ≡ None
  none = none_at_nowhere links (small_links kept)

  pub there : (e : Ends) × (slice_get ends list ≡ Some e) × Keeps (slice_get links) list e (front ++ node ∷ back)
  there = found kept list (front ++ node ∷ back) listed

  known : (l : ℕ) (k : Ends) → slice_get ends l ≡ Some k → l ≢ nowhere
  known l k at_l same = omega (arith, slice_get_within ends l k at_l, same, kept.few)

  parts : Chain (slice_get links) list nowhere front node × Chain (slice_get links) list (last_or front nowhere) (node ∷ back) nowhere
  parts = Chain-parts (slice_get links) list nowhere front (node ∷ back) nowhere there.2.chain

  -- its link leads to its neighbours
  pub removed_link : slice_get links node ≡ Some (record { prev = last_or front nowhere; next = first_or back nowhere; list = list })
  removed_link = parts.1.0

  before_marked : (link : Link) → slice_get links (last_or front nowhere) ≡ Some link → link.list ≡ list
  before_marked = last_is_marked (slice_get links) list nowhere front node parts.0 (λ link at_none. absurd (cc (none, at_none)))

  after_marked : (link : Link) → slice_get links (first_or back nowhere) ≡ Some link → link.list ≡ list
  after_marked = first_is_marked (slice_get links) list node back nowhere parts.1.1 (λ link at_none. absurd (cc (none, at_none)))

  node_apart : Lacks node spares
  node_apart = spares_lack (slice_get links) node spares
      (λ link at same. known list there.0 there.1 (sym (ap (λ (k : Link). k.list) (same_Some _ _ (sym at ∙ removed_link))) ∙ same)) kept.spares_are

  pub neighbours : (last_or front nowhere ≢ nowhere → last_or front nowhere < length links) × (first_or back nowhere ≢ nowhere → first_or back nowhere < length links) × (list < length ends)
  neighbours =
      ((neighbours_within kept list front (node ∷ back) listed).0, first_below back (Chain-below links (small_links kept) list node back nowhere parts.1.1), slice_get_within ends list there.0 there.1)

  -- one more node is spare, and there is memory for all of them
  pub removed_fits : suc spare ≤ size
  removed_fits =
      let fits : length (node ∷ spares) ≤ length links =
      length_of_distinct (length links) (node ∷ spares) (node_apart, Spares-distinct (slice_get links) spares kept.spares_are)
      (slice_get_within links node _ removed_link, Spares-below links (small_links kept) spares kept.spares_are) in
      omega (arith, fits, kept.spare_is)

  module _ (new : List Link) (same : length new ≡ length links) (at : (z : ℕ) → slice_get new z ≡ linked (slice_get links) (last_or front nowhere) (first_or back nowhere) z) where
    elsewhere : (z : ℕ) → z ≢ node → slice_get (set new node (spare_link free)) z ≡ linked (slice_get links) (last_or front nowhere) (first_or back nowhere) z
    elsewhere z other = slice_get-set_other new node z (spare_link free) other ∙ at z

    here : slice_get (set new node (spare_link free)) node ≡ Some (spare_link free)
    here =
        slice_get-set_same new node (spare_link free) (get_or new node (spare_link free))
        (slice_get-get_or new node (spare_link free) (omega (arith, same, slice_get_within links node _ removed_link)))

    other_same : (z : ℕ) (link : Link) → z ≢ node → slice_get links z ≡ Some link → link.list ≢ list → slice_get (set new node (spare_link free)) z ≡ slice_get links z
    other_same z link other at_z unmarked =
        elsewhere z other
        ∙ joined-elsewhere (slice_get links) (last_or front nowhere) (first_or back nowhere) z
        (λ is. unmarked (before_marked link (ap (slice_get links) (sym is) ∙ at_z)))
        (λ is. unmarked (after_marked link (ap (slice_get links) (sym is) ∙ at_z)))

    list_same : (l : ℕ) → l ≢ list → Same (slice_get links) (slice_get (set new node (spare_link free))) l
    list_same l other z link at_z mark =
        other_same z link
        (λ is. other (sym mark ∙ ap (λ (k : Link). k.list) (same_Some _ _ (sym at_z ∙ ap (slice_get links) is ∙ removed_link))))
        at_z (λ is. other (sym mark ∙ is))

    keeps_now : Keeps (slice_get (set new node (spare_link free))) list (ends_joined there.0 (last_or front nowhere) (first_or back nowhere)) (front ++ back)
    keeps_now =
        let lacked = Chain-lacks_nowhere links (small_links kept) list nowhere (front ++ node ∷ back) nowhere there.2.chain in
        record {
          first = first_removed there.0 front back node lacked there.2.first;
          last = last_removed there.0 front back node lacked there.2.last;
          chain = Chain-removed list (slice_get links) none (slice_get (set new node (spare_link free))) front node back elsewhere there.2.chain;
        }

    pub removed_kept : AreKept (set new node (spare_link free)) (set ends list (ends_joined there.0 (last_or front nowhere) (first_or back nowhere))) node free_number (suc spare) size capacity
        (λ l. if l == list then Some (front ++ back) else lists l) (node ∷ spares)
    removed_kept = record {
      keeps = keeps_with (slice_get (set new node (spare_link free))) ends list (ends_joined there.0 (last_or front nowhere) (first_or back nowhere)) there.0 (Some (front ++ back)) lists there.1 keeps_now
          (λ l other. KeepsAt-same (slice_get links) (slice_get (set new node (spare_link free))) l (slice_get ends l) (lists l) (λ k at_l. list_same l other) (kept.keeps l));
      spares_are = (
        here ∙ ap (λ z. Some (spare_link z)) kept.free_node_is,
        node_apart,
        Spares-same (slice_get links) (slice_get (set new node (spare_link free))) node spares (λ z link other at_z mark. other_same z link other at_z (λ is. known list there.0 there.1 (sym is ∙ mark)))
            node_apart kept.spares_are,
      );
      free_node_is = refl;
      numbers = kept.numbers;
      numbers_are = Freed-same (slice_get ends) (slice_get (set ends list _)) list kept.numbers (λ z other. slice_get-set_other ends list z _ other)
          (freed_lack (slice_get ends) list there.0 kept.numbers there.1 (Keeps-in_use links list there.0 (front ++ node ∷ back) (small_links kept) there.2) kept.numbers_are) kept.numbers_are;
      free_number_is = kept.free_number_is;
      spare_is = omega (arith, kept.spare_is, same, length-set new node (spare_link free));
      made = omega (arith, kept.made, same, length-set new node (spare_link free));
      room = kept.room;
      small = kept.small;
      few = omega (arith, kept.few, length-set ends list (ends_joined there.0 (last_or front nowhere) (first_or back nowhere)));
    }

module _ {links : List Link} {ends : List Ends} {free free_number spare size capacity : ℕ} {lists : ℕ → Option (List ℕ)} {spares : List ℕ}
    (kept : AreKept links ends free free_number spare size capacity lists spares) (view : ChainsView) (is : record { lists = map (list_in links) ends; spare = spare; size = size } ≡ view)
    (list node : ℕ) (front back : List ℕ) (between : IsBetween view list front node back) where
  shown : lists list ≡ Some (front ++ node ∷ back)
  shown = sym (seen kept view is list) ∙ between

  pub unlink_fits : suc spare ≤ size
  unlink_fits = removed_fits kept list node front back shown

  module _ (link : Link) (read : link ≡ get_or links node link) where
    link_is : link ≡ record { prev = last_or front nowhere; next = first_or back nowhere; list = list }
    link_is = read ∙ get_or_from_slice_get links node _ link (removed_link kept list node front back shown)

    -- the places in its link are within bounds
    pub unlink_within : (link.prev ≢ nowhere → link.prev < length links) × (link.next ≢ nowhere → link.next < length links) × (link.list < length ends)
    unlink_within = rw link_is (neighbours kept list node front back shown)

    pub unlinked_kept : (e now : Ends) (len : ℕ) (new : List Link) → e ≡ get_or ends link.list e → now ≡ ends_joined e link.prev link.next
        → ((z : ℕ) → slice_get new z ≡ linked (slice_get links) link.prev link.next z) → length new ≡ length links → len ≡ length links
        → AreKept (set (take len (new ++ drop (length new) links)) node (spare_link free)) (set ends link.list now) node free_number (suc spare) size capacity
        (λ l. if l == list then Some (front ++ back) else lists l) (node ∷ spares)
    unlinked_kept e now len new e_read now_is at same len_is =
        let was = there kept list node front back shown in
        let e_is : e ≡ was.0 = (rw link_is at e_read) ∙ get_or_from_slice_get ends list was.0 e was.1 in
        let now_at : now ≡ ends_joined was.0 (last_or front nowhere) (first_or back nowhere) = (rw link_is at now_is) ∙ ap (λ o. ends_joined o (last_or front nowhere) (first_or back nowhere)) e_is in
        rw (link_is, refilled new links len same len_is, now_at) (removed_kept kept list node front back shown new same (rw link_is at at))
