-- If what is written is held, so is what is read.
use Rattle.std.proofs.Common.{ℕ, List, [], ◌∷◌, ◌++◌, Option, Some, None, IfSome, sym, subst, ◌&&◌, ◌==◌, if◌then◌else◌}
use Rattle.std.specs.Ordering.{eq_by_cmp}
use Rattle.sky_val.specs.declared.val.Val.{Val}
use Rattle.sky_val.specs.Order.{key_cmp}
use Rattle.sky_val.specs.Entries.{Entries, at}
use Rattle.sky_model.specs.History.{Mark, tabled, wrote, History}
use Rattle.sky_model.specs.Sessions.{own_txid}
use Rattle.sky_model.specs.Rows.{Write, committed, writes as writes_of, put, put_all, in_turn, rows, own_writes}
use Rattle.sky_model.specs.ShownRows.{rows_in}
use Rattle.sky_histories.proofs.RowSights.{Since, here, later, place, place-since}
use Rattle.sky_model.proofs.Cases.{by_test}
use Rattle.sky_laws_changes.proofs.HeldValues.{AreHeld}
use Rattle.sky_laws_changes.proofs.WriteLists.{at-put_one}

-- what is written in a history is held
abbrev pub AllHeld : History → Type 0
AllHeld [] = Unit {0}
AllHeld (tabled (wrote whose t n key old new) ∷ h) = IfSome new AreHeld × AllHeld h
AllHeld (_ ∷ h) = AllHeld h

pub held-below : (mark : Mark) (h : History) → AllHeld (mark ∷ h) → AllHeld h
held-below (tabled (wrote whose t n key old new)) h held = held.1
held-below _ h held = held

pub held-since : {k h : History} → Since k h → AllHeld h → AllHeld k
held-since here held = held
held-since (later {h = h} {mark = mark} s) held = held-since s (held-below mark h held)

abbrev HeldWrites : List Write → Type 0
HeldWrites [] = Unit {0}
HeldWrites (w ∷ ws) = IfSome w.row AreHeld × HeldWrites ws

held-push : (ws : List Write) (w : Write) → HeldWrites ws → IfSome w.row AreHeld → HeldWrites (ws ++ w ∷ [])
held-push [] w all is = (is, tt)
held-push (x ∷ ws) w all is = (all.0, held-push ws w all.1 is)

held-writes : (n t : ℕ) (h : History) → AllHeld h → HeldWrites (writes_of n t h)
held-writes n t [] held = tt
held-writes n t (tabled (wrote whose u m key old new) ∷ h) held =
    by_test (λ b. HeldWrites (if b then writes_of n t h ++ record { key = key; row = new } ∷ [] else writes_of n t h)) (m == n && u == t)
    (λ _. held-push (writes_of n t h) (record { key = key; row = new }) (held-writes n t h held.1) held.0) (λ _. held-writes n t h held.1)
held-writes n t (_ ∷ h) held = held-writes n t h held

-- what is at each key is held
abbrev pub HeldEntries : Entries (List Val) → Type 0
HeldEntries entries = (key : List Val) → IfSome (at key entries) AreHeld

put-held : (key : List Val) (row : Option (List Val)) (entries : Entries (List Val)) → IfSome row AreHeld → HeldEntries entries → HeldEntries (put key row entries)
put-held key row entries is held q =
    subst (λ o. IfSome o AreHeld) (sym (at-put_one q key row entries))
    (by_test (λ b. IfSome (if b then row else at q entries) AreHeld) (eq_by_cmp key_cmp q key) (λ _. is) (λ _. held q))

put_all-held : (ws : List Write) (entries : Entries (List Val)) → HeldWrites ws → HeldEntries entries → HeldEntries (put_all ws entries)
put_all-held [] entries all held = held
put_all-held (w ∷ ws) entries all held = put_all-held ws (put w.key w.row entries) all.1 (put-held w.key w.row entries all.0 held)

in_turn-held : (f : ℕ → List Write) (ts : List ℕ) (entries : Entries (List Val)) → ((t : ℕ) → HeldWrites (f t)) → HeldEntries entries → HeldEntries (in_turn f ts entries)
in_turn-held f [] entries all held = held
in_turn-held f (t ∷ ts) entries all held = in_turn-held f ts (put_all (f t) entries) all (put_all-held (f t) entries (all t) held)

pub rows-held : (n : ℕ) (h : History) → AllHeld h → HeldEntries (rows n h)
rows-held n h held = in_turn-held (λ t. writes_of n t h) (committed h) [] (λ t. held-writes n t h held) (λ key. tt)

own-held : (n : ℕ) (own : Option ℕ) (h : History) → AllHeld h → HeldWrites (own_writes n own h)
own-held n None h held = tt
own-held n (Some t) h held = held-writes n t h held

-- so is what keys show, at a sight or now
pub shown-held : (h : History) → AllHeld h → (who n : ℕ) (key : List Val) → IfSome ((rows_in h).key who n key).row AreHeld
shown-held h held who n key =
    put_all-held (own_writes n (own_txid who h) h) (rows n (place h who)) (own-held n (own_txid who h) h held) (rows-held n (place h who) (held-since (place-since h who) held)) key

pub standing-held : (h : History) → AllHeld h → (t n : ℕ) (key : List Val) → IfSome (at key (put_all (writes_of n t h) (rows n h))) AreHeld
standing-held h held t n key = put_all-held (writes_of n t h) (rows n h) (held-writes n t h held) (rows-held n h held) key
