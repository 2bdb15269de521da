-- The transaction of a switch that is pending at the end of a call is that of a session's block; it commits only once none of its own is pending.
use Rattle.std.proofs.Common.{◌≡◌, ℕ, ℤ, List, [], ◌∷◌, Bool, true, false, ◌==◌, Some, None, option_map, unwrap_or, refl, sym, ◌∙◌, ap, subst, arith, if◌then◌else◌}
use Rattle.std.proofs.lemmas.Bool.Decides.{nat_tests}
use Rattle.sky_txid.specs.Ids.{contains}
use Rattle.pgq_tables.specs.Tables as tables_of
use Rattle.pgq_tables.specs.Tables.{no_tables, new_tables, with_stored, with_pending, without_pending, with_second_step}
use Rattle.sky_model.specs.History.{Mark, of_session, of_worker, began, ended, block_begun, block_failed, block_ended, queued, made, put, switching, switched, second_step, dropped, History, of_copy}
use Rattle.sky_model.specs.Transactions.{workers}
use Rattle.sky_model.specs.Sessions.{outside, inside, failed, block, own_txid}
use Rattle.sky_model.specs.Queues.{queues_made, is_pending, event_tables}
use Rattle.sky_model.specs.Settling.{marked}
use Rattle.sky_histories.proofs.Legal.{Fine, begins, ends, begins_work, ends_work, fails_block, ends_block, Legal, next, begins_copy, ends_copy}
use Rattle.sky_histories.proofs.Snapshots.{sound, copys-of}
use Rattle.sky_model.proofs.Cases.{by_test, by_same}
use Rattle.sky_model.specs.Copies.{copies}

-- no switch of a transaction is pending
abbrev pub Unpending : History → ℕ → Type 0
Unpending h t = (q : ℕ) → (event_tables q h).pending ≡ Some t → ⊥

-- a session in a block owns a transaction
pub record Owner (h : History) (t : ℕ) : Type 0 where
  pub who : ℕ
  pub owns : own_txid who h ≡ Some t
  pub within : block who h ≡ inside

-- each transaction has committed while no switch of its own was pending
abbrev pub Settled : History → Type 0
Settled [] = Unit {0}
Settled (ended whose t true ∷ h) = Unpending h t × Settled h
Settled (_ ∷ h) = Settled h

-- and a pending one is of a session in a block
pub record Held (h : History) : Type 0 where
  pub settled : Settled h
  pub owned : (q t : ℕ) → (event_tables q h).pending ≡ Some t → Owner h t

-- a mark that keeps it so
abbrev pub PlainAt : History → Mark → Type 0
PlainAt h (queued (switching q t)) = Owner h t
PlainAt h (ended (of_session who) t true) = block who h ≡ inside → Unpending h t
PlainAt h mark = Unit {0}

other-block : (who v : ℕ) (h : History) (t : ℕ) → own_txid who h ≡ Some t → own_txid v h ≡ None → (v == who) ≡ false
other-block who v h t owns none = by_same (λ b. b ≡ false) v who (λ same. absurd (cc (sym none ∙ ap (λ x. own_txid x h) same ∙ owns))) (λ other. refl)

-- an owner stays one if it isn't the one whose transaction begins or ends, and whose block does
owner-began : (h : History) (v u t : ℕ) → own_txid v h ≡ None → Owner h t → Owner (began (of_session v) u ∷ h) t
owner-began h v u t none o =
    record { who = o.who; owns = ap (λ b. if b then Some u else own_txid o.who h) (other-block o.who v h t o.owns none) ∙ o.owns; within = o.within }

owner-ended : (h : History) (l : Legal h) (v u t : ℕ) (committed : Bool) → own_txid v h ≡ Some u → (u ≡ t → ⊥) → Owner h t → Owner (ended (of_session v) u committed ∷ h) t
owner-ended h l v u t committed mine apart o =
    let other : (v == o.who) ≡ false = by_same (λ b. b ≡ false) v o.who (λ same. absurd (apart (ap (λ x. unwrap_or x u) (sym mine ∙ ap (λ x. own_txid x h) same ∙ o.owns)))) (λ _. refl) in
    record { who = o.who; owns = ap (λ b. if b then None else own_txid o.who h) other ∙ o.owns; within = o.within }

owner-begun : (h : History) (v t : ℕ) → Owner h t → Owner (block_begun v ∷ h) t
owner-begun h v t o = record { who = o.who; owns = o.owns; within = by_test (λ b. (if b then inside else block o.who h) ≡ inside) (v == o.who) (λ _. refl) (λ _. o.within) }

owner-failed : (h : History) (v t : ℕ) → own_txid v h ≡ None → Owner h t → Owner (block_failed v ∷ h) t
owner-failed h v t none o = record { who = o.who; owns = o.owns; within = ap (λ b. if b then failed else block o.who h) (other-block o.who v h t o.owns none) ∙ o.within }

owner-left : (h : History) (v t : ℕ) → own_txid v h ≡ None → Owner h t → Owner (block_ended v ∷ h) t
owner-left h v t none o = record { who = o.who; owns = o.owns; within = ap (λ b. if b then outside else block o.who h) (other-block o.who v h t o.owns none) ∙ o.within }

-- any other mark leaves owners as they are
owner-same : (h g : History) → ((who : ℕ) → own_txid who g ≡ own_txid who h) → ((who : ℕ) → block who g ≡ block who h) → (t : ℕ) → Owner h t → Owner g t
owner-same h g own same t o = record { who = o.who; owns = own o.who ∙ o.owns; within = same o.who ∙ o.within }

-- one that commits outside a block has no switch pending
unpending-outside : (h : History) → Legal h → Held h → (who t : ℕ) → own_txid who h ≡ Some t → (block who h ≡ inside → Unpending h t) → Unpending h t
unpending-outside h l r who t mine inside-only q pends =
    let o : Owner h t = r.owned q t pends in
    let same : o.who ≡ who = (sound h l).once o.who who t o.owns mine in
    inside-only (ap (λ x. block x h) (sym same) ∙ o.within) q pends

-- nor has a worker's
unpending-work : (h : History) → Legal h → Held h → (t : ℕ) → contains t (workers h) ≡ true → Unpending h t
unpending-work h l r t works q pends = let o : Owner h t = r.owned q t pends in cc (sym works ∙ (sound h l).nobodys o.who t o.owns)

held-mark : (h : History) → Legal h → (mark : Mark) → Fine h mark → PlainAt h mark → Held h → Held (mark ∷ h)
held-mark h l _ (begins who none) plain r = record { settled = r.settled; owned = λ q t pends. owner-began h who _ t none (r.owned q t pends) }
held-mark h l _ begins_work plain r = record { settled = r.settled; owned = λ q t pends. owner-same h _ (λ _. refl) (λ _. refl) t (r.owned q t pends) }
held-mark h l _ (begins_copy table may) plain r = record { settled = r.settled; owned = λ q t pends. owner-same h _ (λ _. refl) (λ _. refl) t (r.owned q t pends) }
held-mark h l _ (ends who u true mine) plain r =
    let none : Unpending h u = unpending-outside h l r who u mine plain in
    record { settled = (none, r.settled); owned = λ q t pends. owner-ended h l who u t true mine (λ same. none q (subst (λ n. (event_tables q h).pending ≡ Some n) (sym same) pends)) (r.owned q t pends) }
held-mark h l _ (ends_work u true works) plain r =
    record { settled = (unpending-work h l r u works.works, r.settled); owned = λ q t pends. owner-same h _ (λ _. refl) (λ _. refl) t (r.owned q t pends) }
held-mark h l _ (ends who u false mine) plain r = record { settled = r.settled; owned = owned }
  where
    owned : (q t : ℕ) → (event_tables q (ended (of_session who) u false ∷ h)).pending ≡ Some t → Owner (ended (of_session who) u false ∷ h) t
    owned q t =
        by_test (λ b. (if b then without_pending (event_tables q h) else event_tables q h).pending ≡ Some t → Owner (ended (of_session who) u false ∷ h) t) (is_pending u (event_tables q h))
        (λ _ none. absurd (cc))
        (λ isnt pends. owner-ended h l who u t false mine
        (λ same. let is : is_pending u (event_tables q h) ≡ true = ap (λ o. unwrap_or (option_map (λ v. v == u) o) false) pends ∙ grind (arith, nat_tests, same) in cc (sym is ∙ isnt)) (r.owned q t pends))
held-mark h l _ (ends_work u false works) plain r = record { settled = r.settled; owned = owned }
  where
    owned : (q t : ℕ) → (event_tables q (ended of_worker u false ∷ h)).pending ≡ Some t → Owner (ended of_worker u false ∷ h) t
    owned q t =
        by_test (λ b. (if b then without_pending (event_tables q h) else event_tables q h).pending ≡ Some t → Owner (ended of_worker u false ∷ h) t) (is_pending u (event_tables q h))
        (λ _ none. absurd (cc)) (λ _ pends. owner-same h _ (λ _. refl) (λ _. refl) t (r.owned q t pends))
held-mark h l _ (ends_copy n u true is) plain r =
    record { settled = (unpending-work h l r u ((sound h l).copying u (copys-of n u (copies h) is.runs)), r.settled); owned = λ q t pends. owner-same h _ (λ _. refl) (λ _. refl) t (r.owned q t pends) }
held-mark h l _ (ends_copy n u false is) plain r = record { settled = r.settled; owned = owned }
  where
    owned : (q t : ℕ) → (event_tables q (ended (of_copy n) u false ∷ h)).pending ≡ Some t → Owner (ended (of_copy n) u false ∷ h) t
    owned q t =
        by_test (λ b. (if b then without_pending (event_tables q h) else event_tables q h).pending ≡ Some t → Owner (ended (of_copy n) u false ∷ h) t) (is_pending u (event_tables q h))
        (λ _ none. absurd (cc)) (λ _ pends. owner-same h _ (λ _. refl) (λ _. refl) t (r.owned q t pends))
held-mark h l (block_begun v) fine plain r = record { settled = r.settled; owned = λ q t pends. owner-begun h v t (r.owned q t pends) }
held-mark h l _ (fails_block v is none) plain r = record { settled = r.settled; owned = λ q t pends. owner-failed h v t none (r.owned q t pends) }
held-mark h l _ (ends_block v none) plain r = record { settled = r.settled; owned = λ q t pends. owner-left h v t none (r.owned q t pends) }
held-mark h l (queued (made name u time)) fine plain r = record {
  settled = r.settled;
  owned = λ q t. by_test (λ b. (if b then new_tables u time else event_tables q h).pending ≡ Some t → Owner (queued (made name u time) ∷ h) t) (queues_made h == q)
      (λ _ none. absurd (cc)) (λ _ pends. owner-same h _ (λ _. refl) (λ _. refl) t (r.owned q t pends));
}
held-mark h l (queued (put p event)) fine plain r = record {
  settled = r.settled;
  owned = λ q t. by_test (λ b. (if b then with_stored event (event_tables q h) else event_tables q h).pending ≡ Some t → Owner (queued (put p event) ∷ h) t) (p == q)
      (λ _ pends. owner-same h _ (λ _. refl) (λ _. refl) t (r.owned q t pends)) (λ _ pends. owner-same h _ (λ _. refl) (λ _. refl) t (r.owned q t pends));
}
held-mark h l (queued (switching p u)) fine plain r = record {
  settled = r.settled;
  owned = λ q t. by_test (λ b. (if b then with_pending u (event_tables q h) else event_tables q h).pending ≡ Some t → Owner (queued (switching p u) ∷ h) t) (p == q)
      (λ _ pends. owner-same h _ (λ _. refl) (λ _. refl) t (subst (Owner h) (ap (λ o. unwrap_or o u) pends) plain)) (λ _ pends. owner-same h _ (λ _. refl) (λ _. refl) t (r.owned q t pends));
}
held-mark h l (queued (switched p time)) fine plain r = record {
  settled = r.settled;
  owned = λ q t. by_test (λ b. (if b then tables_of.with_switch time (event_tables q h) else event_tables q h).pending ≡ Some t → Owner (queued (switched p time) ∷ h) t) (p == q)
      (λ _ none. absurd (cc)) (λ _ pends. owner-same h _ (λ _. refl) (λ _. refl) t (r.owned q t pends));
}
held-mark h l (queued (second_step p u)) fine plain r = record {
  settled = r.settled;
  owned = λ q t. by_test (λ b. (if b then with_second_step u (event_tables q h) else event_tables q h).pending ≡ Some t → Owner (queued (second_step p u) ∷ h) t) (p == q)
      (λ _ pends. owner-same h _ (λ _. refl) (λ _. refl) t (r.owned q t pends)) (λ _ pends. owner-same h _ (λ _. refl) (λ _. refl) t (r.owned q t pends));
}
held-mark h l (queued (dropped p)) fine plain r = record {
  settled = r.settled;
  owned = λ q t. by_test (λ b. (if b then no_tables else event_tables q h).pending ≡ Some t → Owner (queued (dropped p) ∷ h) t) (p == q)
      (λ _ none. absurd (cc)) (λ _ pends. owner-same h _ (λ _. refl) (λ _. refl) t (r.owned q t pends));
}
held-mark h l mark fine plain r = record { settled = r.settled; owned = λ q t pends. owner-same h _ (λ _. refl) (λ _. refl) t (r.owned q t pends) }

-- a switch that is made at once
pub held-both : (h : History) (p u : ℕ) (time : ℤ) → Held h → Held (queued (switched p time) ∷ queued (switching p u) ∷ h)
held-both h p u time r = record { settled = r.settled; owned = owned }
  where
    owned : (q t : ℕ) → (event_tables q (queued (switched p time) ∷ queued (switching p u) ∷ h)).pending ≡ Some t → Owner (queued (switched p time) ∷ queued (switching p u) ∷ h) t
    owned q t =
        by_test (λ b. (if b then tables_of.with_switch time (if b then with_pending u (event_tables q h) else event_tables q h) else (if b then with_pending u (event_tables q h) else event_tables q h)).pending ≡ Some t
        → Owner (queued (switched p time) ∷ queued (switching p u) ∷ h) t) (p == q) (λ _ none. absurd (cc)) (λ _ pends. owner-same h _ (λ _. refl) (λ _. refl) t (r.owned q t pends))

-- ---- marks that keep it so, one after another

abbrev pub Keeps : History → List Mark → Type 0
Keeps h marks = Legal (marked h marks) → Held h → Held (marked h marks)

pub legal-before : (h : History) (marks : List Mark) → Legal (marked h marks) → Legal h
legal-before h [] l = l
legal-before h (mark ∷ marks) l = of (legal-before (mark ∷ h) marks l)
  where
    of : Legal (mark ∷ h) → Legal h
    of (next l fine) = l

pub keeps-mark : (h : History) (mark : Mark) (marks : List Mark) → PlainAt h mark → Keeps (mark ∷ h) marks → Keeps h (mark ∷ marks)
keeps-mark h mark marks plain rest l r = of (legal-before (mark ∷ h) marks l)
  where
    of : Legal (mark ∷ h) → Held (marked h (mark ∷ marks))
    of (next below fine) = rest l (held-mark h below mark fine plain r)
