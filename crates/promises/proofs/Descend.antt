-- The walks from a yes: descendants are exactly the slots below. Assumes nothing.
use Rattle.std.specs.Prelude.{Ok}
use mathlib.Core.Path.{◌≡◌, ap}
use mathlib.Core.Logic.{◌↔◌}
use mathlib.Core.Bool.{true}
use Prim.Native.Nat.{ℕ, ◌≤◌, ◌<◌}
use borrow.Author.Tests.{lt-ltb}
use Rattle.error.specs.declared.DpeErrorCode.TheVariants.{InvalidHandle}
use Rattle.children.specs.Marks.{slot_count, mark_count, marked}
use Rattle.context.specs.declared.Context.{Context}
use Rattle.table.specs.declared.state.State.{State}
use Rattle.context.specs.Context.{slot_of}
use Rattle.forest.specs.Walk.{ok, walk_down}
use Rattle.forest.proofs.Descend.{descends}
use Rattle.links.specs.Summary.{live_at, retired_at, parent_at, kids_at, table_of, Words}
use Rattle.links.proofs.Tables.{reads_of}
use Rattle.forest.specs.Told.{told_of}
use Rattle.walks.specs.Walks.{descendants_in}
use Rattle.verdict.specs.Tests.{Header, header_of}
use Rattle.verdict.specs.Rule.{Live, ForestRule, Forest}
use Rattle.verdict.proofs.Trees.{live_is}
use Rattle.promises.specs.Keeps.{BelowIn}
use Rattle.promises.proofs.Rule.{links, roots, few}
use Rattle.promises.proofs.Steps.{below_iff}

-- a walk down that ends well is answered with its marks
pub told-down : (n : ℕ) (s : ℕ → Context) (i w : ℕ) → i < n → walk_down n (live_at s) (kids_at s) n 0 i ≡ ok w → descendants_in n s i ≡ Ok w
unfolding descendants_in told_of
told-down n s i w lt e = rw (lt-ltb i n lt) (ap (told_of InvalidHandle) e)

-- for any number of slots up to 64
pub descendants : (n : ℕ) (h : Header) (s : ℕ → Context) → n ≤ mark_count → Words n s → ForestRule n h s → (i : ℕ) → Live n s i
    → (w : ℕ) × (descendants_in n s i ≡ Ok w) × ((x : ℕ) → (marked w x ≡ true) ↔ BelowIn n s x i)
descendants n h s small W F i v =
    let L = links n h s small F in
    let d = descends n (table_of n s) L (live_at s) (retired_at s) (parent_at s) (kids_at s) (reads_of n s W) (roots n h s small F) i ((live_is n s i).1 v) in (
      d.0,
      told-down n s i d.0 v.slot d.1,
      λ x. let b = below_iff n s small L x i v in (λ m. b.0 ((d.2 x).0 m), λ y. (d.2 x).1 (b.1 y)),
    )

-- for a table
pub descendants_below : (t : State) → Words slot_count (slot_of t.contexts) → Forest t → (i : ℕ) → Live slot_count (slot_of t.contexts) i
    → (w : ℕ) × (descendants_in slot_count (slot_of t.contexts) i ≡ Ok w) × ((x : ℕ) → (marked w x ≡ true) ↔ BelowIn slot_count (slot_of t.contexts) x i)
descendants_below t W F i v = descendants slot_count (header_of t) (slot_of t.contexts) few W F i v
