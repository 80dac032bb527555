-- The Rust's run above a slot has no bound. For every table, damaged ones included: WalkLoops is answered exactly where that run returns at no
-- number of steps, and every other answer is its own. Assumes nothing.
use Rattle.std.specs.Prelude.{Err}
use mathlib.Core.Bool.{false}
use mathlib.Core.Logic.{◌≢◌, ◌↔◌}
use mathlib.Core.Path.{◌≡◌, sym, ap}
use Prim.Native.Nat.{ℕ, ◌+◌, ◌<◌}
use native.Mathlib.Omega.{arith}
use Rattle.error.specs.declared.DpeErrorCode.TheVariants.{InternalError, Added}
use Rattle.error.specs.declared.InternalErrorCode.TheVariants.{DestroyParentIndexOob}
use Rattle.error.specs.declared.AddedErrorCode.TheVariants.{WalkLoops}
use Rattle.context.specs.declared.Context.{Context}
use Rattle.forest.specs.Walk.{Answer, loops}
use Rattle.forest.specs.Run.{single_in, climb}
use Rattle.forest.specs.Told.{told_of}
use Rattle.forest.proofs.EnoughUp.{enough-up, loops_iff_never-up, climb_enough}
use Rattle.forest.proofs.Told.{told-loops}
use Rattle.links.specs.Summary.{retired_at, parent_at, kids_at}
use Rattle.walks_run.specs.Run.{run_from, run_in}

parent-apart : InternalError DestroyParentIndexOob ≢ Added WalkLoops
parent-apart e = let z : ◌≡◌ {A = ℕ} 0 1 = cc in omega arith

-- above a slot that is no member of a run: an active one is none
module _ (n : ℕ) (s : ℕ → Context) (slot : ℕ) (h : slot < n) (off : single_in n (retired_at s) (kids_at s) slot ≡ false) where
  -- the Rust's run, which goes on for as long as it is given fuel
  abbrev rust_run : ℕ → Answer
  rust_run fuel = climb n (single_in n (retired_at s) (kids_at s)) (parent_at s) fuel 0 (parent_at s slot)

  pub run_loop : (run_in n s slot ≡ Err (Added WalkLoops)) ↔ ((fuel : ℕ) → rust_run fuel ≡ loops)
  unfolding run_from
  run_loop =
      let t = told-loops (InternalError DestroyParentIndexOob) parent-apart (rust_run n) in
      let r = loops_iff_never-up n (single_in n (retired_at s) (kids_at s)) (parent_at s) 0 slot h off (parent_at s slot) in
      (λ e. r.0 (t.0 e), λ f. t.1 (r.1 f))

  pub run_own : (fuel : ℕ) → rust_run fuel ≢ loops → run_in n s slot ≡ told_of (InternalError DestroyParentIndexOob) (rust_run fuel)
  unfolding run_from
  run_own fuel ne =
      ap (told_of (InternalError DestroyParentIndexOob)) (enough-up n (single_in n (retired_at s) (kids_at s)) (parent_at s) 0 slot h off fuel (parent_at s slot) ne)

  pub run_deep : (more : ℕ) → run_in n s slot ≡ told_of (InternalError DestroyParentIndexOob) (rust_run (n + more))
  unfolding run_from
  run_deep more =
      ap (told_of (InternalError DestroyParentIndexOob)) (sym (climb_enough n (single_in n (retired_at s) (kids_at s)) (parent_at s) 0 slot h off more (parent_at s slot)))
