-- The walk down, depth first. It has two forms: document 01's, which keeps its path and whose depth falls; and the Rust's, which keeps no path and
-- has no bound, so that it is given a fuel. Assumes nothing: these are definitions.
use Rattle.std.specs.Prelude.{Bool, cond, ℕ, zero, suc}
use Rattle.children.specs.Marks.{marked, with, joined}

-- the walk does not end; it met a slot that is refused; the marks that it found
pub data Answer : Type 0 where
  loops : Answer
  bad : Answer
  ok : ℕ → Answer

-- the first refusal of two answers, or the marks of both
abbrev pub both : Answer → Answer → Answer
both loops b = loops
both bad b = bad
both (ok x) loops = loops
both (ok x) bad = bad
both (ok x) (ok y) = ok (joined x y)

-- all the marks of m, joined with the answers for those below c, upward; the first refusal met ends it
unfoldable pub over : (ℕ → Answer) → ℕ → ℕ → Answer
over rec m zero = ok m
over rec m (suc c) = cond (marked m c) (both (over rec m c) (rec c)) (over rec m c)

-- the slots below s, of n slots with the children `kids`, where `path` leads down to s; a child that is on the path loops
unfoldable pub walk_down : ℕ → (ℕ → Bool) → (ℕ → ℕ) → ℕ → ℕ → ℕ → Answer
walk_down n live kids zero path s = loops
walk_down n live kids (suc depth) path s =
    cond (live s) (over (λ c. cond (marked (with path s) c) loops (walk_down n live kids depth (with path s) c)) (kids s) n) bad

-- the same as the Rust walks: no path, and `loops` only where the fuel is used up
unfoldable pub rust_down : ℕ → (ℕ → Bool) → (ℕ → ℕ) → ℕ → ℕ → Answer
rust_down n live kids zero s = loops
rust_down n live kids (suc fuel) s = cond (live s) (over (rust_down n live kids fuel) (kids s) n) bad
