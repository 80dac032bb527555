-- How the walk down goes on, from mark to mark, and what is told of it. Assumes nothing.
use Rattle.std.specs.Prelude.{Ok}
use mathlib.Core.Bool.{Bool, true, false, cond}
use mathlib.Core.Path.{◌≡◌, ap, ◌∙◌}
use Prim.Native.Nat.{ℕ, suc, ◌-◌}
use native.Mathlib.Omega.{arith}
use Rattle.error.specs.declared.DpeErrorCode.{DpeErrorCode}
use Rattle.children.specs.Marks.{marked, with}
use Rattle.forest.specs.Walk.{Answer, loops, bad, ok, over, walk_down}
use Rattle.forest.specs.Told.{told_of}

-- ---- what is told

pub told-marks : (e : DpeErrorCode) (a : Answer) (w : ℕ) → told_of e a ≡ Ok w → a ≡ ok w
unfolding told_of
told-marks e loops w q = absurd (let z : ◌≡◌ {A = ℕ} 0 1 = cc in omega arith)
told-marks e bad w q = absurd (let z : ◌≡◌ {A = ℕ} 0 1 = cc in omega arith)
told-marks e (ok x) w q = let z : x ≡ w = cc in ap ok z

-- ---- at a slot

-- how the walk answers for a child, where `down` leads to it
abbrev pub child : ℕ → (ℕ → Bool) → (ℕ → ℕ) → ℕ → ℕ → ℕ → Answer
child n live kids depth down c = cond (marked down c) loops (walk_down n live kids depth down c)

-- a child that is on the path, and one that is not
pub on_path : (n d : ℕ) (live : ℕ → Bool) (kids : ℕ → ℕ) (down k : ℕ) → marked down k ≡ true → child n live kids d down k ≡ loops
on_path n d live kids down k e = rw e

pub off_path : (n d : ℕ) (live : ℕ → Bool) (kids : ℕ → ℕ) (down k : ℕ) → marked down k ≡ false → child n live kids d down k ≡ walk_down n live kids d down k
off_path n d live kids down k e = rw e

module _ (n d : ℕ) (live : ℕ → Bool) (kids : ℕ → ℕ) (path slot : ℕ) where
  pub walk_spent : d ≡ 0 → walk_down n live kids d path slot ≡ loops
  unfolding walk_down
  walk_spent e = rw e

  walk_step : (d ≡ 0 → ⊥) → walk_down n live kids d path slot ≡ cond (live slot) (over (child n live kids (d - 1) (with path slot)) (kids slot) n) bad
  unfolding walk_down
  walk_step h = let e : d ≡ suc (d - 1) = omega arith in ap (λ (x : ℕ). walk_down n live kids x path slot) e

  pub walk_inactive : (d ≡ 0 → ⊥) → live slot ≡ false → walk_down n live kids d path slot ≡ bad
  walk_inactive h e = walk_step h ∙ rw e

  pub walk-over : (down : ℕ) → down ≡ with path slot → (d ≡ 0 → ⊥) → live slot ≡ true
      → walk_down n live kids d path slot ≡ over (child n live kids (d - 1) down) (kids slot) n
  walk-over down q h e = walk_step h ∙ rw (e, ← q)
