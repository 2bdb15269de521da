-- What writes do to the rows of a table, key by key.
use Rattle.std.proofs.Common.{◌≡◌, ℕ, Bool, true, false, cond, not, List, [], ◌∷◌, ◌++◌, Option, Some, None, T, refl, sym, subst, ap, ◌∙◌, is_some, if◌then◌else◌, ◌||◌, ◌==◌, arith}
use Rattle.std.proofs.lemmas.Bool.{or_right}
use Rattle.std.specs.Ordering.{eq_by_cmp}
use Rattle.std.specs.Cmp.{eq_by_cmp_equiv}
use Rattle.std.specs.FinMap.Entries.{find-where_key, is_sorted-where_key}
use Rattle.std.proofs.lemmas.Bool.Decides.{nat_tests}
use Rattle.sky_val.specs.declared.val.Val.{Val}
use Rattle.sky_val.specs.Order.{key_cmp}
use Rattle.sky_val.specs.Entries.{Entries, at, is_in_order}
use Rattle.sky_val.proofs.Orders.{key_cmp-IsTotalOrder, key_cmp-IsAntisymmetric}
use Rattle.sky_val.proofs.EntryLemmas.{at-put, is_in_order-put}
use Rattle.sky_txid.specs.Ids.{contains}
use Rattle.sky_model.specs.Rows.{Write, removed, put, put_all, in_turn, has_written, last_writer}
use Rattle.sky_model.proofs.Cases.{by_test}

-- what a write left of a key, or what was there
abbrev pub over : Option (Option (List Val)) → Option (List Val) → Option (List Val)
over None row = row
over (Some left) row = left

-- what the last write of a key left, or what an earlier one did
abbrev pub last_from : List Val → Option (Option (List Val)) → List Write → Option (Option (List Val))
last_from key left [] = left
last_from key left (w ∷ ws) = last_from key (if eq_by_cmp key_cmp key w.key then Some w.row else left) ws

-- what the last write of a key left
abbrev pub last_of : List Val → List Write → Option (Option (List Val))
last_of key ws = last_from key None ws

from_T : (b : Bool) → T b → b ≡ true
from_T true h = refl
from_T false h = absurd h

to_T : (b : Bool) → b ≡ true → T b
to_T b h = subst T (sym h) tt

turned : {A : Type 0} (b : Bool) (x y : A) → cond (not b) x y ≡ cond b y x
turned b x y = grind arith

at-removed : (q key : List Val) (rows : Entries (List Val)) → at q (removed key rows) ≡ cond (eq_by_cmp key_cmp q key) None (at q rows)
at-removed q key rows =
    find-where_key key_cmp (λ k. not (eq_by_cmp key_cmp key k)) q (λ k e. ap (λ x. not (eq_by_cmp key_cmp key x)) (sym (key_cmp-IsAntisymmetric q k e))) rows
    ∙ turned (eq_by_cmp key_cmp key q) (at q rows) None
    ∙ ap (λ b. cond b None (at q rows)) ((eq_by_cmp_equiv key_cmp-IsTotalOrder).symm key q)

at-put_row : (q key : List Val) (row : Option (List Val)) (rows : Entries (List Val)) → at q (put key row rows) ≡ cond (eq_by_cmp key_cmp q key) row (at q rows)
at-put_row q key None rows = at-removed q key rows
at-put_row q key (Some row) rows = at-put q key row rows

over-last_from : (q : List Val) (left : Option (Option (List Val))) (ws : List Write) (row : Option (List Val)) → over (last_from q left ws) row ≡ over (last_of q ws) (over left row)
over-last_from q left [] row = refl
over-last_from q left (w ∷ ws) row =
    over-last_from q (if eq_by_cmp key_cmp q w.key then Some w.row else left) ws row
    ∙ ap (over (last_of q ws)) (grind arith)
    ∙ sym (over-last_from q (if eq_by_cmp key_cmp q w.key then Some w.row else None) ws (over left row))

-- writes leave of a key what the last of them left, or what was there
pub at-put_all : (q : List Val) (ws : List Write) (rows : Entries (List Val)) → at q (put_all ws rows) ≡ over (last_of q ws) (at q rows)
at-put_all q [] rows = refl
at-put_all q (w ∷ ws) rows =
    at-put_all q ws (put w.key w.row rows)
    ∙ ap (over (last_of q ws)) (at-put_row q w.key w.row rows ∙ grind arith)
    ∙ sym (over-last_from q (if eq_by_cmp key_cmp q w.key then Some w.row else None) ws (at q rows))

is_in_order-put_row : (key : List Val) (row : Option (List Val)) (rows : Entries (List Val)) → is_in_order rows ≡ true → is_in_order (put key row rows) ≡ true
is_in_order-put_row key None rows ordered = from_T _ (is_sorted-where_key key_cmp (λ k. not (eq_by_cmp key_cmp key k)) rows (to_T _ ordered))
is_in_order-put_row key (Some row) rows ordered = is_in_order-put key row rows ordered

pub is_in_order-put_all : (ws : List Write) (rows : Entries (List Val)) → is_in_order rows ≡ true → is_in_order (put_all ws rows) ≡ true
is_in_order-put_all [] rows ordered = ordered
is_in_order-put_all (w ∷ ws) rows ordered = is_in_order-put_all ws (put w.key w.row rows) (is_in_order-put_row w.key w.row rows ordered)

pub is_in_order-in_turn : (writes_of : ℕ → List Write) (ts : List ℕ) (rows : Entries (List Val)) → is_in_order rows ≡ true → is_in_order (in_turn writes_of ts rows) ≡ true
is_in_order-in_turn writes_of [] rows ordered = ordered
is_in_order-in_turn writes_of (t ∷ ts) rows ordered = is_in_order-in_turn writes_of ts (put_all (writes_of t) rows) (is_in_order-put_all (writes_of t) rows ordered)

-- one more write
last_from-push : (q : List Val) (left : Option (Option (List Val))) (ws : List Write) (w : Write) → last_from q left (ws ++ w ∷ []) ≡ (if eq_by_cmp key_cmp q w.key then Some w.row else last_from q left ws)
last_from-push q left [] w = refl
last_from-push q left (x ∷ ws) w = last_from-push q (if eq_by_cmp key_cmp q x.key then Some x.row else left) ws w

pub last_of-push : (q : List Val) (ws : List Write) (w : Write) → last_of q (ws ++ w ∷ []) ≡ (if eq_by_cmp key_cmp q w.key then Some w.row else last_of q ws)
last_of-push q ws w = last_from-push q None ws w

is_some-last_from : (q : List Val) (left : Option (Option (List Val))) (ws : List Write) → is_some (last_from q left ws) ≡ (has_written q ws || is_some left)
is_some-last_from q left [] = refl
is_some-last_from q left (w ∷ ws) = grind (arith, is_some-last_from q (if eq_by_cmp key_cmp q w.key then Some w.row else left) ws)

-- a key is written if some write left something of it
pub has_written-last_of : (q : List Val) (ws : List Write) → has_written q ws ≡ is_some (last_of q ws)
has_written-last_of q ws = grind (arith, is_some-last_from q None ws)

-- one more transaction, in the order of commits
pub in_turn-push : (writes_of : ℕ → List Write) (ts : List ℕ) (t : ℕ) (rows : Entries (List Val)) → in_turn writes_of (ts ++ t ∷ []) rows ≡ put_all (writes_of t) (in_turn writes_of ts rows)
in_turn-push writes_of [] t rows = refl
in_turn-push writes_of (u ∷ ts) t rows = in_turn-push writes_of ts t (put_all (writes_of u) rows)

last_writer-from-push : (q : List Val) (writes_of : ℕ → List Write) (last : Option ℕ) (ts : List ℕ) (t : ℕ)
    → last_writer q writes_of last (ts ++ t ∷ []) ≡ (if has_written q (writes_of t) then Some t else last_writer q writes_of last ts)
last_writer-from-push q writes_of last [] t = refl
last_writer-from-push q writes_of last (u ∷ ts) t = last_writer-from-push q writes_of (if has_written q (writes_of u) then Some u else last) ts t

pub last_writer-push : (q : List Val) (writes_of : ℕ → List Write) (ts : List ℕ) (t : ℕ)
    → last_writer q writes_of None (ts ++ t ∷ []) ≡ (if has_written q (writes_of t) then Some t else last_writer q writes_of None ts)
last_writer-push q writes_of ts t = last_writer-from-push q writes_of None ts t

-- two transactions' writes that are the same for those in the list
first-in : (t : ℕ) (ts : List ℕ) → contains t (t ∷ ts) ≡ true
first-in t ts = (let same : (t == t) ≡ true = grind (arith, nat_tests) in ap (λ b. b || contains t ts) same)

later-in : (u t : ℕ) (ts : List ℕ) → contains u ts ≡ true → contains u (t ∷ ts) ≡ true
later-in u t ts e = or_right (u == t) (contains u ts) e

pub in_turn-same : (f g : ℕ → List Write) (ts : List ℕ) (rows : Entries (List Val)) → ((u : ℕ) → contains u ts ≡ true → f u ≡ g u) → in_turn f ts rows ≡ in_turn g ts rows
in_turn-same f g [] rows same = refl
in_turn-same f g (t ∷ ts) rows same =
    in_turn-same f g ts (put_all (f t) rows) (λ u e. same u (later-in u t ts e))
    ∙ ap (λ ws. in_turn g ts (put_all ws rows)) (same t (first-in t ts))

last_writer-from-same : (q : List Val) (f g : ℕ → List Write) (last : Option ℕ) (ts : List ℕ) → ((u : ℕ) → contains u ts ≡ true → f u ≡ g u)
    → last_writer q f last ts ≡ last_writer q g last ts
last_writer-from-same q f g last [] same = refl
last_writer-from-same q f g last (t ∷ ts) same =
    last_writer-from-same q f g (if has_written q (f t) then Some t else last) ts (λ u e. same u (later-in u t ts e))
    ∙ ap (λ ws. last_writer q g (if has_written q ws then Some t else last) ts) (same t (first-in t ts))

pub last_writer-same : (q : List Val) (f g : ℕ → List Write) (ts : List ℕ) → ((u : ℕ) → contains u ts ≡ true → f u ≡ g u) → last_writer q f None ts ≡ last_writer q g None ts
last_writer-same q f g ts same = last_writer-from-same q f g None ts same

-- what holds of the transactions of a list, and of one before, holds of the last writer
pub last_writer-has : (q : List Val) (f : ℕ → List Write) (holds : ℕ → Type 0) (last : Option ℕ) (ts : List ℕ) → ((u : ℕ) → contains u ts ≡ true → holds u)
    → ((u : ℕ) → last ≡ Some u → holds u) → (t : ℕ) → last_writer q f last ts ≡ Some t → holds t
last_writer-has q f holds last [] in_list in_front t is = in_front t is
last_writer-has q f holds last (u ∷ ts) in_list in_front t is =
    last_writer-has q f holds (if has_written q (f u) then Some u else last) ts (λ v e. in_list v (later-in v u ts e))
    (λ v. by_test (λ b. (if b then Some u else last) ≡ Some v → holds v) (has_written q (f u)) (λ _ e. let one : u ≡ v = cc in subst holds one (in_list u (first-in u ts))) (λ _. in_front v)) t is
