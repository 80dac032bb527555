-- How the run above goes on, turn by turn. Assumes nothing.
use mathlib.Core.Bool.{Bool, true, false}
use mathlib.Core.Path.{◌≡◌, sym, ap, ◌∙◌}
use Prim.Native.Nat.{ℕ, suc, ◌-◌, ◌≤◌, ◌<◌}
use borrow.Author.Tests.{lt-ltb, le-ltb, eq-eqb, ne_eqb}
use Rattle.children.specs.Marks.{with, count_below}
use Rattle.context.specs.declared.Context.{Context}
use Rattle.context.specs.declared.ContextState.{ContextState}
use Rattle.context.specs.Context.{no_parent, is_retired}
use Rattle.forest.specs.Walk.{loops, bad, ok}
use Rattle.forest.specs.Run.{single_in, climb}
use Rattle.links.specs.Summary.{retired_at}

module _ (n : ℕ) (passes : ℕ → Bool) (parent : ℕ → ℕ) (d : ℕ) (e : d ≡ suc (d - 1)) (a p : ℕ) where
  pub climb-top : n ≤ p → p ≡ no_parent → climb n passes parent d a p ≡ ok a
  unfolding climb
  climb-top h q = rw (e, climb, le-ltb p n h, eq-eqb p no_parent q)

  pub climb_out : n ≤ p → (p ≡ no_parent → ⊥) → climb n passes parent d a p ≡ bad
  unfolding climb
  climb_out h q = rw (e, climb, le-ltb p n h, ne_eqb p no_parent q)

  pub climb-ends : p < n → passes p ≡ false → climb n passes parent d a p ≡ ok a
  unfolding climb
  climb-ends h q = rw (e, climb, lt-ltb p n h, q)

  pub climb_goes : p < n → passes p ≡ true → climb n passes parent d a p ≡ climb n passes parent (d - 1) (with a p) (parent p)
  unfolding climb
  climb_goes h q = ap (λ (x : ℕ). climb n passes parent x a p) e ∙ rw (lt-ltb p n h, q)

pub climb_spent : (n : ℕ) (passes : ℕ → Bool) (parent : ℕ → ℕ) (d a p : ℕ) → d ≡ 0 → climb n passes parent d a p ≡ loops
unfolding climb
climb_spent n passes parent d a p e = rw e

-- ---- a retired slot with one child

-- the state that was read says whether the slot is retired
pub retired_told : (s : ℕ → Context) {i p : ℕ} {a : ContextState} {r b : Bool} → i ≡ p → a ≡ (s i).state → r ≡ is_retired a → r ≡ b → retired_at s p ≡ b
retired_told s q e o t = ap (retired_at s) (sym q) ∙ ap is_retired (sym e) ∙ sym o ∙ t

module _ (n : ℕ) (retired : ℕ → Bool) (kids : ℕ → ℕ) (p : ℕ) where
  pub single_yes : retired p ≡ true → count_below n (kids p) ≡ 1 → single_in n retired kids p ≡ true
  single_yes r o = rw (r, eq-eqb (count_below n (kids p)) 1 o)

  pub single-other : retired p ≡ false → single_in n retired kids p ≡ false
  single-other r = rw r

  pub single_many : retired p ≡ true → (count_below n (kids p) ≡ 1 → ⊥) → single_in n retired kids p ≡ false
  single_many r o = rw (r, ne_eqb (count_below n (kids p)) 1 o)

pub climb_moved : (n : ℕ) (passes : ℕ → Bool) (parent : ℕ → ℕ) {d d' a a' p p' : ℕ} → d ≡ d' → a ≡ a' → p ≡ p'
    → climb n passes parent d a p ≡ climb n passes parent d' a' p'
climb_moved n passes parent {d} {d'} {a} {a'} {p} {p'} x y z = rw (x, y, z)
