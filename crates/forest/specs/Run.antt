-- The run above a slot: upward, while the slot is retired with exactly one child. Assumes nothing: these are definitions.
use Rattle.std.specs.Prelude.{◌≡◌, Bool, true, cond, ◌&&◌, ℕ, zero, suc, eqb, ltb}
use Rattle.children.specs.Below.{count}
use Rattle.children.specs.Marks.{with, count_below}
use Rattle.context.specs.Context.{no_parent}
use Rattle.forest.specs.Links.{Table}
use Rattle.forest.specs.Walk.{Answer, loops, bad, ok}

-- p is retired and has exactly one child below n
abbrev pub single : ℕ → Table → ℕ → Bool
single n t p = t.retired p && eqb (count (t.mark p) n) 1

-- the same, as functions of the slot say it
abbrev pub single_in : ℕ → (ℕ → Bool) → (ℕ → ℕ) → ℕ → Bool
single_in n retired kids p = retired p && eqb (count_below n (kids p)) 1

-- x stands in the unbroken run of such slots that begins at p and goes upward
pub data Run (n : ℕ) (t : Table) : ℕ → ℕ → Type 0 where
  here : {p : ℕ} → single n t p ≡ true → Run n t p p
  next : {p x : ℕ} → single n t p ≡ true → Run n t (t.parent p) x → Run n t p x

-- the run from p upward, with what was taken so far; it ends well at no parent and at a slot that does not pass
unfoldable pub climb : ℕ → (ℕ → Bool) → (ℕ → ℕ) → ℕ → ℕ → ℕ → Answer
climb n passes parent zero taken p = loops
climb n passes parent (suc depth) taken p =
    cond (ltb p n) (cond (passes p) (climb n passes parent depth (with taken p) (parent p)) (ok taken)) (cond (eqb p no_parent) (ok taken) bad)
