-- What a state that was read says. Assumes nothing.
use mathlib.Core.Bool.{Bool, not}
use mathlib.Core.Path.{◌≡◌, sym, ap, ◌∙◌}
use Rattle.context.specs.declared.ContextState.{ContextState}
use Rattle.context.specs.Context.{is_inactive, is_live}

-- the state that was read says whether the slot is live
pub live_told : {a s : ContextState} {r b : Bool} → a ≡ s → r ≡ is_inactive a → r ≡ b → is_live s ≡ not b
live_told p q o = ap not (ap is_inactive (sym p) ∙ sym q ∙ o)
