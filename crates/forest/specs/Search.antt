-- The validator's search from the roots, its last tests in their order, and the rule that they come to, in which no search stands.
-- Assumes nothing: these are definitions.
use Rattle.std.specs.Prelude.{◌≡◌, ◌≢◌, Bool, true, cond, not, ◌&&◌, ◌||◌, ℕ, zero, suc, ◌≤◌, ◌<◌, eqb, ltb}
use Rattle.children.specs.Below.{count, every}
use Rattle.children.specs.Marks.{marked, with}
use Rattle.context.specs.Context.{no_parent}
use Rattle.forest.specs.Links.{Table, up, Rooted}

-- a slot was met twice; a slot has another type than its root; what was seen
pub data Verdict : Type 0 where
  cycles : Verdict
  mixed : Verdict
  fine : ℕ → Verdict

-- the first fault, or f of what was seen
abbrev pub and_then : Verdict → (ℕ → Verdict) → Verdict
and_then cycles f = cycles
and_then mixed f = mixed
and_then (fine z) f = f z

-- the members of m below c, one after the other, upward; z is what was seen before
unfoldable pub each : (ℕ → ℕ → Verdict) → (ℕ → Bool) → ℕ → ℕ → Verdict
each rec m z zero = fine z
each rec m z (suc c) = and_then (each rec m z c) (λ z'. cond (m c) (rec z' c) (fine z'))

-- the subtree of s, whose slots must have the type k, with a depth that falls
unfoldable pub visit : ℕ → Table → (ℕ → ℕ) → ℕ → ℕ → ℕ → ℕ → Verdict
visit n t kind k zero z s = cycles
visit n t kind k (suc depth) z s =
    cond (marked z s) cycles (cond (t.live s) (cond (eqb (kind s) k) (each (visit n t kind k depth) (t.mark s) (with z s) n) mixed) cycles)

-- a live slot that has no parent
abbrev pub is_root : Table → ℕ → Bool
is_root t i = t.live i && eqb (t.parent i) no_parent

-- the subtrees of all roots, upward
unfoldable pub search_roots : ℕ → Table → (ℕ → ℕ) → Verdict
search_roots n t kind = each (λ z i. visit n t kind (kind i) n z i) (is_root t) 0 n

-- what the forest's tests find
pub data Found : Type 0 where
  forest : Found
  mixed_types : Found
  many_normal : Found
  cyclic : Found

-- a root of the type Normal, whose number is 0
abbrev pub normal_root : Table → (ℕ → ℕ) → ℕ → Bool
normal_root t kind i = is_root t i && eqb (kind i) 0

-- at most one Normal root, and then: every live slot was seen
unfoldable pub last_tests : ℕ → Table → ℕ → ℕ → Found
last_tests n t z normals = cond (ltb 1 normals) many_normal (cond (every (λ i. not (t.live i) || marked z i) n) forest cyclic)

-- the search's own fault, or the last tests
unfoldable pub judge : ℕ → Table → Verdict → ℕ → Found
judge n t cycles normals = cyclic
judge n t mixed normals = mixed_types
judge n t (fine z) normals = last_tests n t z normals

-- the first fault of the forest's tests
unfoldable pub find_fault : ℕ → Table → (ℕ → ℕ) → Found
find_fault n t kind = judge n t (search_roots n t kind) (count (normal_root t kind) n)

-- ---- the rule

-- x is s, or below it
abbrev pub In : Table → ℕ → ℕ → Type 0
In t x s = (a : ℕ) × (up t a x ≡ s)

-- no ring, one type along every link, and at most one Normal root
pub record Rule (n : ℕ) (t : Table) (kind : ℕ → ℕ) : Type 0 where
  pub rooted : Rooted n t
  pub alike : (p c : ℕ) → t.mark p c ≡ true → kind c ≡ kind p
  pub one_normal : count (normal_root t kind) n ≤ 1

-- a slot below a root, of another type than the root
pub record Differ (t : Table) (kind : ℕ → ℕ) : Type 0 where
  pub root : ℕ
  pub other : ℕ
  pub root_is_one : is_root t root ≡ true
  pub below : In t other root
  pub unlike : kind other ≢ kind root

-- what each finding means
pub data Judged (n : ℕ) (t : Table) (kind : ℕ → ℕ) : Found → Type 0 where
  is-mixed : Differ t kind → Judged n t kind mixed_types
  is_many : ¬ Differ t kind → 1 < count (normal_root t kind) n → Judged n t kind many_normal
  is-cyclic : ¬ Differ t kind → count (normal_root t kind) n ≤ 1 → ¬ Rooted n t → Judged n t kind cyclic
  is-forest : Rule n t kind → Judged n t kind forest
