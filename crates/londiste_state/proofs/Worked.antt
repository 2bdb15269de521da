-- Worked states, by computation: how they are written, what isn't written so, and how they move.
use Rattle.std.proofs.Common.{◌≡◌, ℕ, ◌^◌, ◌-◌, true, false, List, [], ◌∷◌, ◌++◌, length, get_or, None, refl, sym, ◌∙◌, ap, arith}
use Rattle.std.specs.Prelude.{codes}
use Rattle.std.specs.Fmt.{digits, decimal}
use Rattle.std.proofs.lemmas.List.{append_cancel_left}
use Rattle.sky_val.specs.Numbers.{number_of}
use Rattle.londiste_state.specs.declared.state.TableState.TheVariants.{Absent, InCopy, CatchingUp, WannaSync, DoSync, Synced}
use Rattle.londiste_state.specs.StateText.{state_text, IsStateText}
use Rattle.londiste_state.specs.Moves.{is_allowed}
use Rattle.londiste_state.specs.Nodes.{Leaf, of_leaf, table_of, tables_of, new_table, with_leaf_table, without_leaf_table, with_state}
use Rattle.londiste_state.proofs.Ticks.{none-isnt-some, number_back}

writes : state_text (WannaSync 12) ≡ codes "wanna-sync:12"
unfolding digits
writes = refl

writes_zero : state_text (DoSync 0) ≡ codes "do-sync:0"
unfolding digits
writes_zero = refl

writes_largest : state_text (DoSync (2 ^ 64 - 1)) ≡ codes "do-sync:18446744073709551615"
unfolding digits
writes_largest = refl

-- the text of a state is one
reads : IsStateText (codes "wanna-sync:12")
reads = (WannaSync 12, omega arith, writes)

-- no digits after the word but a tick's in decimal make a text of a state
no_tick : (text : List ℕ) → number_of (2 ^ 64 - 1) text ≡ None → ¬ (IsStateText (codes "wanna-sync:" ++ text))
no_tick text none (WannaSync tick, small, is) =
    let same = append_cancel_left (codes "wanna-sync:") (decimal tick) text is in
    none-isnt-some tick (sym none ∙ ap (number_of (2 ^ 64 - 1)) (sym same) ∙ number_back tick small)
no_tick text none (state, small, is) = absurd (omega (arith, ap (λ t. get_or t 0 0) is))

leading_zero : ¬ (IsStateText (codes "wanna-sync:012"))
leading_zero = no_tick (codes "012") refl

sign : ¬ (IsStateText (codes "wanna-sync:+12"))
sign = no_tick (codes "+12") refl

no_number : ¬ (IsStateText (codes "wanna-sync:"))
no_number = no_tick [] refl

too_large : ¬ (IsStateText (codes "wanna-sync:18446744073709551616"))
too_large = no_tick (codes "18446744073709551616") refl

trailing_space : ¬ (IsStateText (codes "ok "))
trailing_space (Synced, small, is) = absurd (omega (arith, ap length is))
trailing_space (state, small, is) = absurd (omega (arith, ap (λ t. get_or t 0 0) is))

-- how a table may move
begins : is_allowed Absent InCopy ≡ true
begins = refl

skips_the_copy : is_allowed Absent CatchingUp ≡ false
skips_the_copy = refl

handed_over : is_allowed (WannaSync 5) (DoSync 7) ≡ true
handed_over = refl

handed_over_below : is_allowed (WannaSync 5) (DoSync 4) ≡ false
handed_over_below = refl

goes_back : is_allowed (DoSync 7) CatchingUp ≡ false
goes_back = refl

-- a leaf to which two tables joined
worked : Leaf
worked = with_leaf_table (codes "u") (with_leaf_table (codes "t") (record { name = codes "leaf"; provider = codes "root"; tick = 3; tables = [] }))

-- one of them moves, and the other stays
moved : (with_state (codes "t") InCopy worked).tables ≡ record { name = codes "t"; state = InCopy; snapshot = None; tick = 0 } ∷ new_table (codes "u") ∷ []
unfolding worked
moved = refl

-- one of them leaves
left : tables_of (of_leaf (without_leaf_table (codes "t") worked)) ≡ codes "u" ∷ []
unfolding worked
left = refl

gone : table_of (codes "t") (without_leaf_table (codes "t") worked) ≡ None
unfolding worked
gone = refl
