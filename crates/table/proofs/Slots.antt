-- Laws of the search for an inactive slot. Assumes nothing.
use Rattle.std.specs.Prelude.{Ok, Err}
use mathlib.Core.Path.{◌≡◌}
use Prim.Native.Nat.{ℕ, ◌≤◌, ◌<◌}
use borrow.Author.Tests.{lt-ltb, le-ltb}
use Rattle.error.specs.declared.DpeErrorCode.TheVariants.{MaxTcis}
use Rattle.children.specs.Below.{lowest}
use Rattle.context.specs.declared.Context.{Context}
use Rattle.table.specs.State.{idle_at, free_in}

module _ (n : ℕ) (s : ℕ → Context) where
  pub free-at : (i : ℕ) → lowest (idle_at s) n ≡ i → i < n → Ok i ≡ free_in n s
  unfolding free_in
  free-at i e h = rw (e, lt-ltb i n h)

  pub free_none : n ≤ lowest (idle_at s) n → Err MaxTcis ≡ free_in n s
  unfolding free_in
  free_none h = rw (le-ltb _ _ h)
