-- A text is that of one state at most.
use Rattle.std.proofs.Common.{◌≡◌, ◌↔◌, ℕ, ◌<◌, ◌^◌, ◌++◌, List, get_or, arith, Option, Some, None, Result, Ok, Err, refl, sym, ◌∙◌, ap}
use Rattle.std.specs.Prelude.{false, codes, ok_or, MatchOption}
use Rattle.std.specs.Fmt.{decimal}
use Rattle.std.proofs.lemmas.Fmt.{decimal_injective}
use Rattle.std.proofs.lemmas.List.{append_cancel_left}
use Rattle.londiste_state.specs.declared.state.StateFault.{StateFault}
use Rattle.londiste_state.specs.declared.state.StateFault.TheVariants.{BadState}
use Rattle.londiste_state.specs.declared.state.TableState.{TableState}
use Rattle.londiste_state.specs.declared.state.TableState.TheVariants.{Absent, InCopy, CatchingUp, WannaSync, DoSync, Synced}
use Rattle.londiste_state.specs.StateText.{state_text, IsState, IsStateText, has_tick}

-- the first bytes of two states of different kinds differ
pub text_injective : (s t : TableState) → IsState s → IsState t → state_text s ≡ state_text t → s ≡ t
text_injective Absent Absent fits fits' same = refl
text_injective InCopy InCopy fits fits' same = refl
text_injective CatchingUp CatchingUp fits fits' same = refl
text_injective (WannaSync n) (WannaSync m) fits fits' same = ap WannaSync (decimal_injective n m fits fits' (append_cancel_left (codes "wanna-sync:") (decimal n) (decimal m) same))
text_injective (DoSync n) (DoSync m) fits fits' same = ap DoSync (decimal_injective n m fits fits' (append_cancel_left (codes "do-sync:") (decimal n) (decimal m) same))
text_injective Synced Synced fits fits' same = refl
text_injective s t fits fits' same = absurd (omega (arith, ap (λ text. get_or text 0 0) same))

-- so what is written as a state is read as that state alone
pub only_state : (s : TableState) (bytes : List ℕ) → IsState s → state_text s ≡ bytes
    → (state : TableState) → IsState state → state_text state ≡ bytes → ◌≡◌ {A = Result TableState StateFault} (Ok s) (Ok state)
only_state s bytes fits is state fits' is' = ap Ok (text_injective s state fits fits' (is ∙ sym is'))

pub is_written : (s : TableState) (bytes : List ℕ) → IsState s → state_text s ≡ bytes
    → (◌≡◌ {A = Result TableState StateFault} (Ok s) (Err BadState)) ↔ ¬ (IsStateText bytes)
is_written s bytes fits is = ((λ h. absurd (cc)), (λ none. absurd (none (s, fits, is))))

-- where neither a state without a tick is written so nor one with a tick, none is
none_written : (text : List ℕ) → ((state : TableState) → has_tick state ≡ false → ¬ (state_text state ≡ text))
    → ((tick : ℕ) → tick < 2 ^ 64 → ¬ (codes "wanna-sync:" ++ decimal tick ≡ text))
    → ((tick : ℕ) → tick < 2 ^ 64 → ¬ (codes "do-sync:" ++ decimal tick ≡ text))
    → ¬ (IsStateText text)
none_written text plain wanna sync (WannaSync tick, fits, is) = wanna tick fits is
none_written text plain wanna sync (DoSync tick, fits, is) = sync tick fits is
none_written text plain wanna sync (Absent, fits, is) = plain Absent refl is
none_written text plain wanna sync (InCopy, fits, is) = plain InCopy refl is
none_written text plain wanna sync (CatchingUp, fits, is) = plain CatchingUp refl is
none_written text plain wanna sync (Synced, fits, is) = plain Synced refl is

-- of a state without a tick nothing is asked
no_tick : (state : TableState) → has_tick state ≡ false → IsState state
no_tick (WannaSync tick) none = absurd (cc)
no_tick (DoSync tick) none = absurd (cc)
no_tick state none = tt

-- so a text without a tick is refused if no state is written so
pub plain_refused : (text : List ℕ) (found : Option TableState)
    → MatchOption found ((state : TableState) → has_tick state ≡ false → ¬ (state_text state ≡ text)) (λ state. (has_tick state ≡ false) × (state_text state ≡ text))
    → ((tick : ℕ) → tick < 2 ^ 64 → ¬ (codes "wanna-sync:" ++ decimal tick ≡ text))
    → ((tick : ℕ) → tick < 2 ^ 64 → ¬ (codes "do-sync:" ++ decimal tick ≡ text))
    → (◌≡◌ {A = Result TableState StateFault} (ok_or found BadState) (Err BadState)) ↔ ¬ (IsStateText text)
plain_refused text None plain wanna sync = ((λ _. none_written text plain wanna sync), (λ _. refl))
plain_refused text (Some s) (none, is) wanna sync = is_written s text (no_tick s none) is
