-- What is promised of every table that the validator says yes to, in document 01's words and the rule's: no walk stands in it. A table is a
-- function s from a slot to its context, and n is the number of slots. Assumes nothing: these are definitions.
use Rattle.std.specs.Prelude.{◌≡◌, List, ◌≢◌, ◌⊎◌, ◌↔◌, true, ℕ, suc, ◌-◌, ◌^◌, ◌≤◌, ◌<◌, length, get_or, Ok, Err}
use Rattle.error.specs.Numbers.{done}
use Rattle.error.specs.declared.DpeErrorCode.{DpeErrorCode}
use Rattle.error.specs.declared.DpeErrorCode.TheVariants.{InvalidHandle, InvalidLocality}
use Rattle.children.specs.Marks.{slot_count, mark_count, marked, count_below}
use Rattle.context.specs.declared.ContextState.TheVariants.{Retired}
use Rattle.context.specs.declared.Context.{Context}
use Rattle.table.specs.declared.state.State.{State}
use Rattle.handle.specs.Handle.{default_handle}
use Rattle.context.specs.Context.{no_parent, destroyed, with_children, slot_of}
use Rattle.lookup.specs.Lookup.{lookup_in}
use Rattle.walks_path.specs.declared.Path.{Path}
use Rattle.walks.specs.Walks.{descendants_in}
use Rattle.walks_path.specs.Path.{path_in}
use Rattle.initialize_context.specs.Initialize.{initialized_of}
use Rattle.rotate_context.specs.Rotate.{rotated_of}
use Rattle.destroy_context.specs.Destroy.{destroy_of}
use Rattle.verdict.specs.Rule.{Live, ActiveIn, ancestor, Forest}

-- ---- below, and the run above

-- x is below i: one parent step or more lead from x to i, each from a live slot
pub record BelowIn (n : ℕ) (s : ℕ → Context) (x i : ℕ) : Type 0 where
  pub steps : ℕ
  pub ends : ancestor s (suc steps) x ≡ i
  pub live : (k : ℕ) → k ≤ steps → Live n s (ancestor s k x)

-- a retired slot with exactly one child among the marks below n
pub record Lone (n : ℕ) (s : ℕ → Context) (p : ℕ) : Type 0 where
  pub slot : p < n
  pub retired : (s p).state ≡ Retired
  pub one : count_below n (s p).children ≡ 1

-- x is in the unbroken run above i: one parent step or more lead from i to x, each to a retired slot with exactly one child
pub record RunAbove (n : ℕ) (s : ℕ → Context) (i x : ℕ) : Type 0 where
  pub steps : ℕ
  pub ends : ancestor s (suc steps) i ≡ x
  pub lone : (k : ℕ) → k ≤ steps → Lone n s (ancestor s (suc k) i)

-- ---- destroy

-- what goes with i: i itself, all below it, and the run above it
pub data Cleared (n : ℕ) (s : ℕ → Context) (i : ℕ) : ℕ → Type 0 where
  itself : Cleared n s i i
  under : {x : ℕ} → BelowIn n s x i → Cleared n s i x
  above : {x : ℕ} → RunAbove n s i x → Cleared n s i x

-- the context c' is c, but for the marks of cleared children
pub record Unmarked (n : ℕ) (s : ℕ → Context) (i : ℕ) (c c' : Context) : Type 0 where
  pub marks : ℕ
  pub is : c' ≡ with_children c marks
  pub word : marks < 2 ^ mark_count
  pub left : (k : ℕ) → k < mark_count → (marked marks k ≡ true) ↔ ((marked c.children k ≡ true) × ¬ Cleared n s i k)

-- what a destroy of slot i makes of the table t: u
pub record DestroyedAt (t : State) (i : ℕ) (u : State) : Type 0 where
  pub marker : u.marker ≡ t.marker
  pub version : u.version ≡ t.version
  pub support : u.support ≡ t.support
  pub flags : u.flags ≡ t.flags
  pub initialized : u.has_initialized ≡ t.has_initialized
  pub reserved : u.reserved ≡ t.reserved
  pub size : length u.contexts ≡ slot_count
  pub gone : (x : ℕ) → x < slot_count → Cleared slot_count (slot_of t.contexts) i x → slot_of u.contexts x ≡ destroyed (slot_of t.contexts x)
  pub others : (x : ℕ) → x < slot_count → ¬ Cleared slot_count (slot_of t.contexts) i x
      → Unmarked slot_count (slot_of t.contexts) i (slot_of t.contexts x) (slot_of u.contexts x)

-- ---- initialise

-- the locality l has an active default context beside another active one
pub record Crowded (n : ℕ) (s : ℕ → Context) (l : ℕ) : Type 0 where
  pub one : ℕ
  pub other : ℕ
  pub active_one : ActiveIn n s one
  pub active_other : ActiveIn n s other
  pub apart : one ≢ other
  pub place_one : (s one).locality ≡ l
  pub place_other : (s other).locality ≡ l
  pub default : (s one).handle ≡ default_handle

-- ---- path

-- the path p to i: live slots from one that has no parent down to i, each the parent of the next
pub record PathTo (n : ℕ) (s : ℕ → Context) (i : ℕ) (p : Path) : Type 0 where
  pub some : 0 < p.length
  pub few : p.length ≤ n
  pub slots : (k : ℕ) → k < p.length → get_or p.slots (p.length - suc k) 0 ≡ ancestor s k i
  pub live : (k : ℕ) → k < p.length → Live n s (ancestor s k i)
  pub root : (s (ancestor s (p.length - 1) i)).parent_idx ≡ no_parent

-- ---- the promises, of a table t that the validator says yes to

pub record Promises (t : State) : Type 0 where
  -- a destroy that finds its context succeeds, clears exactly what goes with it, and leaves a yes
  pub destroy_clears : (h : List ℕ) (l i : ℕ) → lookup_in slot_count (slot_of t.contexts) h l ≡ Ok i
      → ((destroy_of t h l).answer ≡ done) × DestroyedAt t i (destroy_of t h l).state × Forest (destroy_of t h l).state
  -- one that finds none refuses as the lookup does, and changes nothing
  pub destroy_refuses : (h : List ℕ) (l : ℕ) (e : DpeErrorCode) → lookup_in slot_count (slot_of t.contexts) h l ≡ Err e
      → ((destroy_of t h l).answer ≡ Err e) × ((destroy_of t h l).state ≡ t)
  -- and there is no other refusal
  pub destroy_only : (h : List ℕ) (l : ℕ) (e : DpeErrorCode) → (destroy_of t h l).answer ≡ Err e → (e ≡ InvalidHandle) ⊎ (e ≡ InvalidLocality)
  -- rotate keeps a yes
  pub rotate_keeps : (h : List ℕ) (l flags : ℕ) (b : List ℕ) → Forest (rotated_of t h l flags b).state
  -- initialise keeps a yes exactly where the caller's locality does not end with an active default beside another active context
  pub initialize_keeps : (flags l : ℕ) (b : List ℕ)
      → Forest (initialized_of t flags l b).state ↔ ¬ Crowded slot_count (slot_of (initialized_of t flags l b).state.contexts) l
  -- descendants are exactly the slots below
  pub descendants_below : (i : ℕ) → Live slot_count (slot_of t.contexts) i
      → (w : ℕ) × (descendants_in slot_count (slot_of t.contexts) i ≡ Ok w)
      × ((x : ℕ) → (marked w x ≡ true) ↔ BelowIn slot_count (slot_of t.contexts) x i)
  -- the path refuses no live slot
  pub path_found : (i : ℕ) → Live slot_count (slot_of t.contexts) i
      → (p : Path) × (path_in slot_count (slot_of t.contexts) i ≡ Ok p) × PathTo slot_count (slot_of t.contexts) i p
