-- The search below a slot and from the roots, one law for each way out; and the last tests. Assumes nothing.
use Rattle.std.specs.Prelude.{Option, Some, None, unwrap_or, Ok, Err}
use mathlib.Core.Bool.{Bool, true, false, not, cond, ◌&&◌, ◌||◌}
use mathlib.Core.Logic.{inl, inr}
use mathlib.Core.Path.{◌≡◌, refl, sym, ap, ◌∙◌}
use Prim.Native.Nat.{ℕ, zero, suc, ◌+◌, ◌-◌, ◌≤◌, ◌<◌}
use native.Mathlib.Decide.{ℕ_discrete, le_ind}
use native.Mathlib.Numerals.{add-one}
use native.Mathlib.Omega.{arith}
use lib.Dec.{eqb}
use borrow.Author.Tests.{lt-ltb, le-ltb, eq-eqb, ne_eqb}
use Rattle.error.specs.declared.ValidationError.{ValidationError}
use Rattle.error.specs.declared.ValidationError.TheVariants.{MultipleNormalConnectedComponents, CyclesInTree, MixedContextTypeConnectedComponents}
use Rattle.children.specs.Below.{count, every}
use Rattle.children.specs.Marks.{slot_count, mark_count, marked, has_below, with, without, count_below, next_below, next_of}
use Rattle.children.proofs.Cases.{two, clash}
use Rattle.children.proofs.Below.{low_ge, low-le, low_bare, count_none, count-some, count_hit, count_miss, count-le, every-at, at_every}
use Rattle.children.proofs.Marks.{has-is, seen, marked-without, next-low, next-some}
use Rattle.context.specs.Bytes.{byte_of}
use Rattle.context.specs.Context.{no_parent}
use Rattle.forest.specs.Links.{Table}
use Rattle.forest.specs.Search.{Verdict, cycles, mixed, fine, and_then, each, visit, is_root, search_roots, normal_root, last_tests, judge, find_fault}
use Rattle.links.specs.declared.Links.{Links}
use Rattle.links.specs.Summary.{number_in}
use Rattle.verdict.specs.Tests.{found_fault}
use Rattle.validation_trees.specs.Summary.{kind_in, table_in, table_by, told, root_step, seen_in}

-- ---- what the code answers for a search

pub told_seen : (v : Verdict) (w : ℕ) → told v ≡ Ok w → v ≡ fine w
unfolding told
told_seen cycles w e = absurd (cc)
told_seen mixed w e = absurd (cc)
told_seen (fine z) w e = let q : z ≡ w = cc in ap fine q

pub is_seen : (v : Verdict) (w : ℕ) → v ≡ fine w → Ok w ≡ told v
unfolding told
is_seen v w e = rw e

-- ---- one slot after the other

module _ (rec : ℕ → ℕ → Verdict) (m : ℕ → Bool) (z : ℕ) where
  each_none : (k w : ℕ) → each rec m z k ≡ fine w → m k ≡ false → each rec m z (k + 1) ≡ fine w
  unfolding each
  each_none k w e b = rw (add-one, each, e, b)

  pub each-one : (k w w' : ℕ) → each rec m z k ≡ fine w → m k ≡ true → rec w k ≡ fine w' → each rec m z (k + 1) ≡ fine w'
  unfolding each
  each-one k w w' e b q = rw (add-one, each, e) (rw b q)

  stays : (k n w : ℕ) (v : Verdict) → ((f : ℕ → Verdict) → and_then v f ≡ v) → k < n → each rec m z k ≡ fine w → m k ≡ true → rec w k ≡ v → each rec m z n ≡ v
  unfolding each
  stays k n w v a h e b q = le_ind (λ (i : ℕ). each rec m z i ≡ v) (rw e (rw b q)) (λ i l g. rw g (a _)) n h

  -- a flaw is the whole search's
  pub each_flaw : (k n w : ℕ) (e : ValidationError) (v : Verdict) → k < n → each rec m z k ≡ fine w → m k ≡ true → rec w k ≡ v → told v ≡ Err e
      → told (each rec m z n) ≡ Err e
  unfolding told
  each_flaw k n w e cycles h p b q f = rw (stays k n w cycles (λ g. refl) h p b q) f
  each_flaw k n w e mixed h p b q f = rw (stays k n w mixed (λ g. refl) h p b q) f
  each_flaw k n w e (fine x) h p b q f = absurd (cc)

  -- slots that are no members are passed over
  skip : (a b w : ℕ) → a ≤ b → ((j : ℕ) → a ≤ j → j < b → m j ≡ false) → each rec m z a ≡ fine w → each rec m z b ≡ fine w
  skip a zero w h q e = ap (each rec m z) (omega arith) ∙ e
  skip a (suc b) w h q e = elim (ℕ_discrete a (suc b)) [
    | yes p ↦ ap (each rec m z) (sym p) ∙ e
    | no ne ↦ ap (each rec m z) (sym (add-one b)) ∙ each_none b w (skip a b w (omega arith) (λ j l u. q j l (omega arith)) e) (q b (omega arith) (omega arith))
  ]

  -- what holds at each turn, where the members below n are the marks of kids: those before the next one are searched
  abbrev pub Turn : ℕ → ℕ → Option ℕ → Type 0
  Turn n met next = (each rec m z (unwrap_or next n) ≡ fine met) × ((k : ℕ) → next ≡ Some k → (k < n) × (m k ≡ true))

  pub turn_on : (n kids k w : ℕ) {next : Option ℕ} → ((j : ℕ) → j < n → m j ≡ marked kids j) → k ≤ n → each rec m z k ≡ fine w → next ≡ next_of n kids k → Turn n w next
  turn_on n kids k w f h e q =
      let le = low-le (marked kids) (n - k) k in (
        ap (each rec m z) (next-low n kids k h q)
            ∙ skip k (next_below n kids k) w (low_ge (marked kids) (n - k) k) (λ j a b. f j (omega arith) ∙ low_bare (marked kids) (n - k) k j a b) e,
        λ r s. let b = next-some n kids k r q s in (b.2, f r b.2 ∙ b.3),
      )

  -- the search before the member k; and the whole search, where no member is left
  pub turn_at : {n met : ℕ} {next : Option ℕ} (k : ℕ) → Turn n met next → next ≡ Some k → each rec m z k ≡ fine met
  turn_at {n} k t e = ap (λ (x : Option ℕ). each rec m z (unwrap_or x n)) (sym e) ∙ t.0

  pub turn_end : {n met : ℕ} {next : Option ℕ} → Turn n met next → next ≡ None → each rec m z n ≡ fine met
  turn_end {n} t e = ap (λ (x : Option ℕ). each rec m z (unwrap_or x n)) (sym e) ∙ t.0

-- ---- at a slot

module _ (n : ℕ) (t : Table) (kind : ℕ → ℕ) (k d z s : ℕ) where
  pub visit_spent : d ≡ 0 → visit n t kind k d z s ≡ cycles
  unfolding visit
  visit_spent e = ap (λ (x : ℕ). visit n t kind k x z s) e

  step : (d ≡ 0 → ⊥) → visit n t kind k d z s
      ≡ cond (marked z s) cycles (cond (t.live s) (cond (eqb (kind s) k) (each (visit n t kind k (d - 1)) (t.mark s) (with z s) n) mixed) cycles)
  unfolding visit
  step h =
      let e : d ≡ suc (d - 1) = omega arith in
      ap (λ (x : ℕ). visit n t kind k x z s) e

  pub visit_met : (d ≡ 0 → ⊥) → marked z s ≡ true → visit n t kind k d z s ≡ cycles
  visit_met h a = step h ∙ rw a

  pub visit-idle : (d ≡ 0 → ⊥) → marked z s ≡ false → t.live s ≡ false → visit n t kind k d z s ≡ cycles
  visit-idle h a b = step h ∙ rw (a, b)

  pub visit-mixed : (d ≡ 0 → ⊥) → marked z s ≡ false → t.live s ≡ true → (kind s ≡ k → ⊥) → visit n t kind k d z s ≡ mixed
  visit-mixed h a b c = step h ∙ rw (a, b, ne_eqb (kind s) k c)

  pub visit-over : (met : ℕ) → met ≡ with z s → (d ≡ 0 → ⊥) → marked z s ≡ false → t.live s ≡ true → kind s ≡ k
      → visit n t kind k d z s ≡ each (visit n t kind k (d - 1)) (t.mark s) met n
  visit-over met e h a b c =
      step h ∙ rw (a, b, eq-eqb (kind s) k c) (ap (λ (x : ℕ). each (visit n t kind k (d - 1)) (t.mark s) x n) (sym e))

-- ---- the links that a summary says

module _ (l : Links) (s : ℕ) (h : s < slot_count) where
  pub live_in : (table_by l).live s ≡ marked l.live s
  unfolding table_in
  live_in = rw (lt-ltb s slot_count h)

  pub mark_in : (j : ℕ) → j < slot_count → (table_by l).mark s j ≡ marked (number_in l.children s) j
  unfolding table_in
  mark_in j g = rw (lt-ltb s slot_count h, lt-ltb j mark_count (omega arith))

  pub root_in : is_root (table_by l) s ≡ (marked l.live s && eqb (number_in l.parents s) no_parent)
  unfolding table_in
  root_in = rw (lt-ltb s slot_count h) (guarded (marked l.live s))
    where
      guarded : (b : Bool) → (b && eqb (cond b (number_in l.parents s) no_parent) no_parent) ≡ (b && eqb (number_in l.parents s) no_parent)
      guarded true = refl
      guarded false = refl

-- past the tests of a slot, as the code makes them
module _ (l : Links) (k d z s met : ℕ) (h : s < slot_count) where
  pub entered : {a b c : Bool} {x : ℕ} → (d ≡ 0 → ⊥) → a ≡ has_below slot_count z s → a ≡ false → b ≡ has_below slot_count l.live s → b ≡ true
      → c ≡ has_below slot_count l.simulations s → x ≡ byte_of c → x ≡ k → met ≡ with z s
      → visit slot_count (table_by l) (kind_in l.simulations) k d z s ≡ each (visit slot_count (table_by l) (kind_in l.simulations) k (d - 1)) ((table_by l).mark s) met slot_count
  entered nz ea fa eb fb ec ex fx em =
      visit-over slot_count (table_by l) (kind_in l.simulations) k d z s met em nz (seen slot_count z s h ea fa)
      (live_in l s h ∙ seen slot_count l.live s h eb fb)
      (sym (ex ∙ ap byte_of (ec ∙ has-is slot_count l.simulations s h)) ∙ fx)

-- ---- from the roots

module _ (t : Table) (kind : ℕ → ℕ) (z i : ℕ) where
  pub step_none : is_root t i ≡ false → root_step t kind z i ≡ fine z
  unfolding root_step
  step_none e = rw e

  pub step-root : is_root t i ≡ true → root_step t kind z i ≡ visit slot_count t kind (kind i) slot_count z i
  unfolding root_step
  step-root e = rw e

module _ (t : Table) (kind : ℕ → ℕ) where
  abbrev pub Roots : ℕ → Verdict
  Roots k = each (λ z i. visit slot_count t kind (kind i) slot_count z i) (is_root t) 0 k

  pub roots_start : Roots 0 ≡ fine 0
  unfolding each
  roots_start = refl

  pub roots_on : (k w w' : ℕ) → Roots k ≡ fine w → root_step t kind w k ≡ fine w' → Roots (k + 1) ≡ fine w'
  unfolding each root_step
  roots_on k w w' e q = rw (add-one, each, e) q

  flawed : (k n w : ℕ) (v : Verdict) → ((f : ℕ → Verdict) → and_then v f ≡ v) → k < n → Roots k ≡ fine w → root_step t kind w k ≡ v → Roots n ≡ v
  unfolding each root_step
  flawed k n w v a h e q = le_ind (λ (i : ℕ). Roots i ≡ v) (rw e q) (λ i l g. rw g (a _)) n h

  pub roots_flaw : (k n w : ℕ) (e : ValidationError) (v : Verdict) → k < n → Roots k ≡ fine w → root_step t kind w k ≡ v → told v ≡ Err e → told (Roots n) ≡ Err e
  unfolding told
  roots_flaw k n w e cycles h p q f = rw (flawed k n w cycles (λ g. refl) h p q) f
  roots_flaw k n w e mixed h p q f = rw (flawed k n w mixed (λ g. refl) h p q) f
  roots_flaw k n w e (fine x) h p q f = absurd (cc)

-- ---- Normal roots

pub count_start : (f : ℕ → Bool) → 0 ≡ count f 0
unfolding count
count_start f = refl

-- ---- every live slot seen

module _ (live seen : ℕ) where
  left_is : (i : ℕ) → i < slot_count → marked (without live seen) i ≡ not (seen_in live seen i)
  unfolding table_in
  left_is i h = marked-without live seen i (omega arith) ∙ rw (lt-ltb i slot_count h) (morgan (marked live i) (marked seen i))
    where
      morgan : (a b : Bool) → (a && not b) ≡ not (not a || b)
      morgan true b = refl
      morgan false b = refl

  pub seen-is : eqb (count_below slot_count (without live seen)) 0 ≡ every (seen_in live seen) slot_count
  seen-is = elim (ℕ_discrete (count_below slot_count (without live seen)) 0) [
    | yes e ↦ eq-eqb _ 0 e ∙ sym (at_every (seen_in live seen) slot_count (λ i h. undo (left_is i h) (count_none (marked (without live seen)) slot_count i e h)))
    | no ne ↦ ne_eqb _ 0 ne ∙ sym (elim (two (every (seen_in live seen) slot_count)) [
      | inr f ↦ f
      | inl t ↦
          let r = count-some (marked (without live seen)) slot_count (omega arith) in
          clash r.2 (left_is r.0 r.1 ∙ ap not (every-at (seen_in live seen) slot_count t r.0 r.1))
    ])
  ]
    where
      undo : {a b : Bool} → a ≡ not b → a ≡ false → b ≡ true
      undo {a} {b = true} p q = refl
      undo {a} {b = false} p q = clash p q

-- ---- the last tests

module _ (l : Links) (z k : ℕ) where
  pub last_many : 1 < k → Err MultipleNormalConnectedComponents ≡ found_fault (last_tests slot_count (table_by l) z k)
  unfolding last_tests found_fault
  last_many h = rw (lt-ltb 1 k h)

  pub last-cycles : k ≤ 1 → every (seen_in l.live z) slot_count ≡ false → Err CyclesInTree ≡ found_fault (last_tests slot_count (table_by l) z k)
  unfolding last_tests found_fault table_in
  last-cycles h e = rw (le-ltb 1 k h, e)

  pub last_valid : k ≤ 1 → every (seen_in l.live z) slot_count ≡ true → Ok tt ≡ found_fault (last_tests slot_count (table_by l) z k)
  unfolding last_tests found_fault table_in
  last_valid h e = rw (le-ltb 1 k h, e)

module _ (t : Table) (kind : ℕ → ℕ) where
  judged_flaw : (v : Verdict) (e : ValidationError) → told v ≡ Err e → Err e ≡ found_fault (judge slot_count t v (count (normal_root t kind) slot_count))
  unfolding told judge found_fault
  judged_flaw cycles e f = let q : e ≡ CyclesInTree = cc in ap Err q
  judged_flaw mixed e f = let q : e ≡ MixedContextTypeConnectedComponents = cc in ap Err q
  judged_flaw (fine z) e f = absurd (cc)

  pub found_flaw : (e : ValidationError) → told (search_roots slot_count t kind) ≡ Err e → Err e ≡ found_fault (find_fault slot_count t kind)
  unfolding find_fault
  found_flaw e f = judged_flaw (search_roots slot_count t kind) e f

  pub found_seen : (z : ℕ) → search_roots slot_count t kind ≡ fine z
      → found_fault (last_tests slot_count t z (count (normal_root t kind) slot_count)) ≡ found_fault (find_fault slot_count t kind)
  unfolding find_fault judge
  found_seen z e = rw e

-- what the check is given of the marks, of a slot, and of the roots
pub ruleset marks = (has-is)

pub ruleset visits = (visit_spent, visit_met, visit-idle, visit-mixed, live_in)

pub ruleset steps = (step_none, step-root)

pub ruleset roots = (roots_start, roots_on)

pub ruleset normals = (count_start, count_hit, count_miss, count-le)

pub ruleset seens = (seen-is)

pub ruleset lasts = (last_many, last-cycles, last_valid)
