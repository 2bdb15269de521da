-- Where the consumers of a leaf's workers are, and what is kept of it while its tables change.
use Rattle.std.proofs.Common.{◌≡◌, ℕ, List, true, false, Option, Some, None, is_some, option_map, bytes_eq, refl, sym, ap, subst, ◌∙◌, if◌then◌else◌}
use Rattle.sky_names.proofs.PlaceLemmas.{bytes_eq_refl, bytes_eq_sym, same_name}
use Rattle.londiste_state.specs.declared.state.TableState.{TableState}
use Rattle.londiste_state.specs.declared.state.TableState.TheVariants.{Absent, InCopy, CatchingUp, WannaSync, DoSync, Synced}
use Rattle.londiste_state.specs.Nodes.{of_leaf, Leaf, LeafTable, changed_in}
use Rattle.sky_model.specs.History.{History}
use Rattle.sky_model.specs.Hands.{CopyHand, BatchHand, Hand, of_copy, batch_in}
use Rattle.sky_model.specs.StepConsumer.{has_dot}
use Rattle.sky_model.specs.CopyMoves.{copy_consumer}
use Rattle.sky_model.specs.ReplayMoves.{is_on_way}
use Rattle.sky_model.proofs.Cases.{by_test}
use Rattle.sky_histories.proofs.InCopyTables.{found, found-named, found-changed}
use Rattle.sky_laws_synced.specs.Tables.{has_own_tick}
use Rattle.sky_laws_synced.proofs.Following.{Following}

-- ---- the tables of a leaf

-- the one that changes, and the others
pub found-here : (name : List ℕ) (g : LeafTable → LeafTable) → ((t : LeafTable) → (g t).name ≡ t.name) → (ts : List LeafTable) (t : LeafTable) → found name ts ≡ Some t → found name (changed_in name g ts) ≡ Some (g t)
found-here name g names ts t is =
    found-changed name name g names ts ∙ ap (option_map (λ (x : LeafTable). if bytes_eq name x.name then g x else x)) is ∙ ap (λ b. Some (if b then g t else t)) (found-named name ts t is)

pub found-other : (name other : List ℕ) (g : LeafTable → LeafTable) → ((t : LeafTable) → (g t).name ≡ t.name) → (ts : List LeafTable) → bytes_eq name other ≡ false → found name (changed_in other g ts) ≡ found name ts
found-other name other g names ts differ = found-changed name other g names ts ∙ of (found name ts) refl
  where
    of : (o : Option LeafTable) → found name ts ≡ o → option_map (λ (x : LeafTable). if bytes_eq other x.name then g x else x) o ≡ o
    of None is = refl
    of (Some t) is =
        ap (λ b. Some (if b then g t else t)) (ap (bytes_eq other) (sym (same_name name t.name (found-named name ts t is))) ∙ bytes_eq_sym other name ∙ differ)

-- ---- where the consumers are

-- the consumer of the copies of a leaf's tables
abbrev pub copy_name : Leaf → List ℕ
copy_name l = copy_consumer (Some (of_leaf l))

-- that consumer, and a table of the leaf, with what the table's worker has in hand: a copy runs only of a table that is being copied, and the consumer is
-- at the tick at which it registered for it; once the table is copied, the consumer is at the tick to which the copy has come
pub record CopyOf (h : History) (q : ℕ) (l : Leaf) (t : LeafTable) (hand : Option Hand) : Type 0 where
  pub copying : (copy : CopyHand) → hand ≡ Some (of_copy copy) → (t.state ≡ InCopy) × Following h q (copy_name l) copy.tick None
  pub follows : has_own_tick t.state ≡ true → Following h q (copy_name l) t.tick (batch_in hand)
  pub others : has_own_tick t.state ≡ false → batch_in hand ≡ None
  pub under : has_own_tick t.state ≡ true → is_some t.snapshot ≡ true

-- of all workers of a leaf; at most one table is on its way
pub record LeafFollows (h : History) (q : ℕ) (l : Leaf) (batch : Option BatchHand) (hand : List ℕ → Option Hand) : Type 0 where
  pub undotted : has_dot l.name ≡ false
  pub replays : Following h q l.name l.tick batch
  pub copies : (name : List ℕ) (t : LeafTable) → found name l.tables ≡ Some t → CopyOf h q l t (hand name)
  pub idle : (name : List ℕ) → found name l.tables ≡ None → hand name ≡ None
  pub alone : (one other : List ℕ) (t u : LeafTable) → found one l.tables ≡ Some t → found other l.tables ≡ Some u → is_on_way t.state ≡ true → is_on_way u.state ≡ true → one ≡ other

-- what is so of a consumer in one history is so in another
abbrev pub KeptAt : (h g : History) → ℕ → List ℕ → Type 0
KeptAt h g q c = (tick : ℕ) (hand : Option BatchHand) → Following h q c tick hand → Following g q c tick hand

pub copy-kept : (h g : History) (q : ℕ) (l : Leaf) (t : LeafTable) (hand : Option Hand) → KeptAt h g q (copy_name l) → CopyOf h q l t hand → CopyOf g q l t hand
copy-kept h g q l t hand keep c = record {
  copying = λ copy is. let both = c.copying copy is in (both.0, keep copy.tick None both.1);
  follows = λ has. keep t.tick (batch_in hand) (c.follows has);
  others = c.others;
  under = c.under;
}

-- a table that isn't on its way needs no consumer
pub copied-on-way : (state : TableState) → has_own_tick state ≡ true → is_on_way state ≡ true
copied-on-way Absent e = absurd (cc e)
copied-on-way InCopy e = refl
copied-on-way CatchingUp e = refl
copied-on-way (WannaSync tick) e = refl
copied-on-way (DoSync tick) e = refl
copied-on-way Synced e = absurd (cc e)

pub copy-off_way : (h g : History) (q : ℕ) (l : Leaf) (t : LeafTable) (hand : Option Hand) → is_on_way t.state ≡ false → CopyOf h q l t hand → CopyOf g q l t hand
copy-off_way h g q l t hand off c = record {
  copying = λ copy is. absurd (cc (sym off ∙ ap is_on_way (c.copying copy is).0));
  follows = λ has. absurd (cc (sym off ∙ copied-on-way t.state has));
  others = c.others;
  under = c.under;
}

pub all-kept : (h g : History) (q : ℕ) (l : Leaf) (batch : Option BatchHand) (hand : List ℕ → Option Hand) → KeptAt h g q l.name → KeptAt h g q (copy_name l) → LeafFollows h q l batch hand → LeafFollows g q l batch hand
all-kept h g q l batch hand keep also f = record {
  undotted = f.undotted;
  replays = keep l.tick batch f.replays;
  copies = λ name t is. copy-kept h g q l t (hand name) also (f.copies name t is);
  idle = f.idle;
  alone = f.alone;
}

-- the leaf's worker comes to a tick
pub replayed : (h g : History) (q : ℕ) (l : Leaf) (batch next : Option BatchHand) (hand : List ℕ → Option Hand) (tick : ℕ) → KeptAt h g q (copy_name l) → Following g q l.name tick next
    → LeafFollows h q l batch hand → LeafFollows g q (record l { tick = tick }) next hand
replayed h g q l batch next hand tick also at f = record {
  undotted = f.undotted;
  replays = at;
  copies = λ name t is. let c = copy-kept h g q l t (hand name) also (f.copies name t is) in record { copying = c.copying; follows = c.follows; others = c.others; under = c.under };
  idle = f.idle;
  alone = f.alone;
}

-- if a table is on its way, no other one is
pub off-way : (h : History) (q : ℕ) (l : Leaf) (batch : Option BatchHand) (hand : List ℕ → Option Hand) (name : List ℕ) (t : LeafTable) → LeafFollows h q l batch hand → found name l.tables ≡ Some t → is_on_way t.state ≡ true
    → (n : List ℕ) (u : LeafTable) → bytes_eq n name ≡ false → found n l.tables ≡ Some u → is_on_way u.state ≡ false
off-way h q l batch hand name t f is on n u differ there =
    by_test (λ b. is_on_way u.state ≡ b → b ≡ false) (is_on_way u.state)
    (λ _ also. let same : n ≡ name = f.alone n name u t there is also on in absurd (cc (sym differ ∙ ap (λ x. bytes_eq x name) same ∙ bytes_eq_refl name))) (λ _ _. refl) refl

-- the tables of a leaf change in one of them: in its state, or by its joining or leaving
pub record ChangesOne (h g : History) (q : ℕ) (l : Leaf) (hand next : List ℕ → Option Hand) (name : List ℕ) (ts : List LeafTable) : Type 0 where
  pub others : (n : List ℕ) → bytes_eq n name ≡ false → found n ts ≡ found n l.tables
  pub hands : (n : List ℕ) → bytes_eq n name ≡ false → next n ≡ hand n
  pub kept : (n : List ℕ) (u : LeafTable) → bytes_eq n name ≡ false → found n l.tables ≡ Some u → CopyOf h q l u (hand n) → CopyOf g q l u (hand n)
  pub here : (u : LeafTable) → found name ts ≡ Some u → CopyOf g q l u (next name)
  pub none : found name ts ≡ None → next name ≡ None
  pub sole : (u : LeafTable) → found name ts ≡ Some u → is_on_way u.state ≡ true → (n : List ℕ) (v : LeafTable) → bytes_eq n name ≡ false → found n l.tables ≡ Some v → is_on_way v.state ≡ false

pub changed : (h g : History) (q : ℕ) (l : Leaf) (batch then_batch : Option BatchHand) (hand next : List ℕ → Option Hand) (name : List ℕ) (ts : List LeafTable) → Following g q l.name l.tick then_batch
    → ChangesOne h g q l hand next name ts → LeafFollows h q l batch hand → LeafFollows g q (record l { tables = ts }) then_batch next
changed h g q l batch then_batch hand next name ts at c f = record {
  undotted = f.undotted;
  replays = at;
  copies = copies;
  idle = λ n none.
      by_test (λ b. bytes_eq n name ≡ b → next n ≡ None) (bytes_eq n name)
      (λ _ is. let same : n ≡ name = same_name n name is in ap next same ∙ c.none (ap (λ x. found x ts) (sym same) ∙ none))
      (λ _ differ. c.hands n differ ∙ f.idle n (sym (c.others n differ) ∙ none)) refl;
  alone = alone;
}
  where
    copies : (n : List ℕ) (t : LeafTable) → found n ts ≡ Some t → CopyOf g q (record l { tables = ts }) t (next n)
    copies n t is = let k : CopyOf g q l t (next n) = of in record { copying = k.copying; follows = k.follows; others = k.others; under = k.under }
      where
        of : CopyOf g q l t (next n)
        of =
            by_test (λ b. bytes_eq n name ≡ b → CopyOf g q l t (next n)) (bytes_eq n name)
            (λ _ one. let same : n ≡ name = same_name n name one in subst (λ x. CopyOf g q l t (next x)) (sym same) (c.here t (ap (λ x. found x ts) (sym same) ∙ is)))
            (λ _ differ.
            let was : found n l.tables ≡ Some t = sym (c.others n differ) ∙ is in
            subst (CopyOf g q l t) (sym (c.hands n differ)) (c.kept n t differ was (f.copies n t was))) refl

    alone : (one other : List ℕ) (t u : LeafTable) → found one ts ≡ Some t → found other ts ≡ Some u → is_on_way t.state ≡ true → is_on_way u.state ≡ true → one ≡ other
    alone one other t u is also on way =
        by_test (λ b. bytes_eq one name ≡ b → one ≡ other) (bytes_eq one name)
        (λ _ here. by_test (λ b. bytes_eq other name ≡ b → one ≡ other) (bytes_eq other name)
        (λ _ there. same_name one name here ∙ sym (same_name other name there))
        (λ _ differ.
        absurd (cc (sym (c.sole t (ap (λ x. found x ts) (sym (same_name one name here)) ∙ is) on other u differ (sym (c.others other differ) ∙ also)) ∙ way))) refl)
        (λ _ differ. by_test (λ b. bytes_eq other name ≡ b → one ≡ other) (bytes_eq other name)
        (λ _ there.
        absurd (cc (sym (c.sole u (ap (λ x. found x ts) (sym (same_name other name there)) ∙ also) way one t differ (sym (c.others one differ) ∙ is)) ∙ on)))
        (λ _ apart. f.alone one other t u (sym (c.others one differ) ∙ is) (sym (c.others other apart) ∙ also) on way) refl) refl
