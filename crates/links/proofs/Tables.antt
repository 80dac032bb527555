-- The links of a table, as the theory has them: what holds of every table, damaged or not. Assumes nothing.
use mathlib.Core.Bool.{true}
use mathlib.Core.Path.{◌≡◌, refl}
use Prim.Native.Nat.{ℕ, ◌≤◌}
use Rattle.children.specs.Marks.{mark_count}
use Rattle.children.proofs.Cases.{clash}
use Rattle.context.specs.declared.ContextState.{ContextState}
use Rattle.context.specs.declared.ContextState.TheVariants.{Inactive, Active, Retired}
use Rattle.context.specs.declared.Context.{Context}
use Rattle.context.specs.Context.{is_live, is_retired}
use Rattle.forest.specs.Links.{Reads}
use Rattle.forest.proofs.Slots.{Frame, frame_in, reads_in}
use Rattle.links.specs.Summary.{live_at, retired_at, parent_at, kids_at, table_of, Words}

retired-live : (k : ContextState) → is_retired k ≡ true → is_live k ≡ true
retired-live Inactive e = clash e refl
retired-live Active e = refl
retired-live Retired e = refl

pub frame-of : (n : ℕ) (s : ℕ → Context) → n ≤ mark_count → Frame n (table_of n s)
frame-of n s h = frame_in n (live_at s) (retired_at s) (parent_at s) (kids_at s) h (λ i l e. retired-live (s i).state e)

pub reads_of : (n : ℕ) (s : ℕ → Context) → Words n s → Reads n (table_of n s) (live_at s) (retired_at s) (parent_at s) (kids_at s)
reads_of n s w = reads_in n (live_at s) (retired_at s) (parent_at s) (kids_at s) w
