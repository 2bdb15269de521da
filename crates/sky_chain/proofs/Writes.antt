-- Links after writes: what is at the places written, and elsewhere.
use Rattle.std.proofs.Common.{◌≡◌, ◌≢◌, ℕ, Some, ◌∙◌, arith}
use Rattle.std.proofs.lemmas.Bool.Decides.{nat_tests}
use Rattle.sky_chain.specs.declared.links.Link.{Link}
use Rattle.sky_chain.specs.Links.{Links}
use Rattle.sky_chain.specs.Joins.{next_set, prev_set, list_set, linked, inserted}

module _ (links : Links) where
  pub next_set-there : (node next : ℕ) (link : Link) → links node ≡ Some link → next_set links node next node ≡ Some (record { prev = link.prev; next = next; list = link.list })
  next_set-there node next link is = grind (arith, nat_tests)

  pub prev_set-there : (node prev : ℕ) (link : Link) → links node ≡ Some link → prev_set links node prev node ≡ Some (record { prev = prev; next = link.next; list = link.list })
  prev_set-there node prev link is = grind (arith, nat_tests)

  pub list_set-there : (node list : ℕ) (link : Link) → links node ≡ Some link → list_set links node list node ≡ Some (record { prev = link.prev; next = link.next; list = list })
  list_set-there node list link is = grind (arith, nat_tests)

  pub next_set-elsewhere : (node next z : ℕ) → z ≢ node → next_set links node next z ≡ links z
  next_set-elsewhere node next z other = grind (arith, nat_tests)

  pub prev_set-elsewhere : (node prev z : ℕ) → z ≢ node → prev_set links node prev z ≡ links z
  prev_set-elsewhere node prev z other = grind (arith, nat_tests)

  pub list_set-elsewhere : (node list z : ℕ) → z ≢ node → list_set links node list z ≡ links z
  list_set-elsewhere node list z other = grind (arith, nat_tests)

module _ (links : Links) where
  pub joined-elsewhere : (before after z : ℕ) → z ≢ before → z ≢ after → linked links before after z ≡ links z
  joined-elsewhere before after z one other =
      prev_set-elsewhere (next_set links before after) after before z other ∙ next_set-elsewhere links before after z one

  -- if a node is neither
  pub inserted-elsewhere : (list node before after z : ℕ) → z ≢ node → z ≢ before → z ≢ after → inserted links list node before after z ≡ links z
  inserted-elsewhere list node before after z here one other =
      let first = linked links before node in
      list_set-elsewhere (linked first node after) node list z here
      ∙ prev_set-elsewhere (next_set first node after) after node z other
      ∙ next_set-elsewhere first node after z here
      ∙ joined-elsewhere before node z one here

  pub inserted-there : (list node before after : ℕ) (link : Link) → node ≢ before → node ≢ after → links node ≡ Some link → inserted links list node before after node ≡ Some (record { prev = before; next = after; list = list })
  inserted-there list node before after link one other is =
      let first = next_set links before node in
      let second = prev_set first node before in
      let third = next_set second node after in
      let at_first : first node ≡ Some link = next_set-elsewhere links before node node one ∙ is in
      let at_second : second node ≡ Some (record { prev = before; next = link.next; list = link.list }) = prev_set-there first node before link at_first in
      let at_third : third node ≡ Some (record { prev = before; next = after; list = link.list }) = next_set-there second node after _ at_second in
      let at_fourth : prev_set third after node node ≡ Some (record { prev = before; next = after; list = link.list }) = prev_set-elsewhere third after node node other ∙ at_third in
      list_set-there (prev_set third after node) node list _ at_fourth
