-- The Rust's walk down has no path and no bound. For every table, damaged ones included: WalkLoops is answered exactly where that walk returns at
-- no number of steps, and every other answer is its own. Assumes nothing.
use Rattle.std.specs.Prelude.{Err}
use mathlib.Core.Logic.{◌≢◌, ◌↔◌}
use mathlib.Core.Path.{◌≡◌, sym, ap, ◌∙◌}
use Prim.Native.Nat.{ℕ, ◌+◌, ◌<◌}
use native.Mathlib.Omega.{arith}
use borrow.Author.Tests.{lt-ltb}
use Rattle.error.specs.declared.DpeErrorCode.TheVariants.{InvalidHandle, Added}
use Rattle.error.specs.declared.AddedErrorCode.TheVariants.{WalkLoops}
use Rattle.context.specs.declared.Context.{Context}
use Rattle.forest.specs.Walk.{loops, walk_down, rust_down}
use Rattle.forest.specs.Told.{told_of}
use Rattle.forest.proofs.Enough.{enough, loops_iff_never, walk_enough}
use Rattle.forest.proofs.Told.{told-loops}
use Rattle.links.specs.Summary.{live_at, kids_at}
use Rattle.walks.specs.Walks.{descendants_in}

handle-apart : InvalidHandle ≢ Added WalkLoops
handle-apart e = let z : ◌≡◌ {A = ℕ} 0 1 = cc in omega arith

module _ (n : ℕ) (s : ℕ → Context) (slot : ℕ) (h : slot < n) where
  inside : descendants_in n s slot ≡ told_of InvalidHandle (walk_down n (live_at s) (kids_at s) n 0 slot)
  unfolding descendants_in
  inside = rw (lt-ltb slot n h)

  pub descendants_loop : (descendants_in n s slot ≡ Err (Added WalkLoops)) ↔ ((fuel : ℕ) → rust_down n (live_at s) (kids_at s) fuel slot ≡ loops)
  descendants_loop =
      let t = told-loops InvalidHandle handle-apart (walk_down n (live_at s) (kids_at s) n 0 slot) in
      let r = loops_iff_never n (live_at s) (kids_at s) slot h in
      (λ e. r.0 (t.0 (sym inside ∙ e)), λ f. inside ∙ t.1 (r.1 f))

  pub descendants_own : (fuel : ℕ) → rust_down n (live_at s) (kids_at s) fuel slot ≢ loops
      → descendants_in n s slot ≡ told_of InvalidHandle (rust_down n (live_at s) (kids_at s) fuel slot)
  descendants_own fuel ne = inside ∙ ap (told_of InvalidHandle) (enough n (live_at s) (kids_at s) slot h fuel ne)

  -- a depth of n is never used up: more depth changes no answer
  pub descendants_deep : (more : ℕ) → descendants_in n s slot ≡ told_of InvalidHandle (walk_down n (live_at s) (kids_at s) (n + more) 0 slot)
  descendants_deep more = inside ∙ ap (told_of InvalidHandle) (sym (walk_enough n (live_at s) (kids_at s) slot h more))
