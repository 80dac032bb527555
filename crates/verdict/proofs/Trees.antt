-- The links of a table whose slots are sound, and the tests of the forest. Assumes nothing.
use Rattle.std.specs.Prelude.{Ok}
use mathlib.Core.Path.{◌≡◌, refl, sym, ap, ◌∙◌}
use mathlib.Core.Logic.{◌≢◌, ◌↔◌, inl, inr}
use mathlib.Core.Bool.{true, false, not}
use Prim.Native.Nat.{ℕ, zero, suc, ◌+◌, ◌-◌, ◌≤◌, ◌<◌}
use native.Mathlib.Decide.{ℕ_discrete}
use native.Mathlib.Omega.{arith}
use lib.Dec.{ltb}
use borrow.Author.Tests.{lt-ltb}
use Rattle.children.specs.Below.{count}
use Rattle.children.specs.Marks.{mark_count, marked}
use Rattle.children.proofs.Cases.{two, clash, and-true}
use Rattle.children.proofs.Below.{count_pos, count-one, count-le-one}
use Rattle.children.proofs.Marks.{marked_none}
use Rattle.context.specs.declared.ContextState.{ContextState}
use Rattle.context.specs.declared.ContextState.TheVariants.{Inactive, Active, Retired}
use Rattle.context.specs.declared.ContextType.{ContextType}
use Rattle.context.specs.declared.ContextType.TheVariants.{Normal, Simulation}
use Rattle.context.specs.declared.Context.{Context}
use Rattle.context.specs.Bytes.{byte_of}
use Rattle.context.specs.Context.{no_parent, is_live, is_normal}
use Rattle.forest.specs.Links.{Linked, up, Rooted}
use Rattle.forest.specs.Search.{Found, forest, mixed_types, many_normal, cyclic, normal_root, In}
use Rattle.forest.proofs.Links.{up-add, no_slot, live-up, live_below, stay, live-or-top, near_iff}
use Rattle.forest.proofs.Slots.{Tests, linked_iff_tests}
use Rattle.forest.proofs.Forest.{forest_iff}
use Rattle.links.specs.Summary.{parent_at, table_of, steps_up}
use Rattle.links.proofs.Tables.{frame-of}
use Rattle.verdict.specs.Tests.{Header, kind_at, found_fault, forest_of}
use Rattle.verdict.specs.Rule.{Idle, Live, Tied, InState, Sound, NormalRoot, ancestor, Alike, OneNormal, HasRoot}
use Rattle.verdict.specs.Refusals.{Under}
use Rattle.verdict.proofs.Steps.{fault_valid, same, and_iff, eqb_iff, ltb_iff}
use Rattle.verdict.proofs.Slots.{live_iff}

tied_of : (x : ContextState) (n : ℕ) (h : Header) (s : ℕ → Context) (i : ℕ) → is_live x ≡ true → InState x n h s i → Tied n s i
tied_of Inactive n h s i e r = clash e refl
tied_of Active n h s i e r = r.1
tied_of Retired n h s i e r = r.0

idle-of : (x : ContextState) (n : ℕ) (h : Header) (s : ℕ → Context) (i : ℕ) → is_live x ≡ false → InState x n h s i → Idle (s i)
idle-of Inactive n h s i e r = r
idle-of Active n h s i e r = clash refl e
idle-of Retired n h s i e r = clash refl e

-- a type and its number
abbrev number_of : ContextType → ℕ
number_of x = byte_of (not (is_normal x))

same_type : (x y : ContextType) → number_of x ≡ number_of y → x ≡ y
same_type Normal Normal e = refl
same_type Simulation Simulation e = refl
same_type Normal Simulation e = absurd (omega arith)
same_type Simulation Normal e = absurd (omega arith)

pub kind_iff : (s : ℕ → Context) (i j : ℕ) → (kind_at s i ≡ kind_at s j) ↔ ((s i).context_type ≡ (s j).context_type)
kind_iff s i j = (same_type (s i).context_type (s j).context_type, ap number_of)

found_iff : (f : Found) → (found_fault f ≡ Ok tt) ↔ (f ≡ forest)
unfolding found_fault
found_iff forest = (λ e. refl, λ e. refl)
found_iff mixed_types = (λ e. fault_valid e, λ e. absurd (cc))
found_iff many_normal = (λ e. fault_valid e, λ e. absurd (cc))
found_iff cyclic = (λ e. fault_valid e, λ e. absurd (cc))

module _ (n : ℕ) (s : ℕ → Context) where
  pub live_is : (i : ℕ) → ((table_of n s).live i ≡ true) ↔ Live n s i
  live_is i =
      let p = and_iff (ltb_iff i n) (live_iff (s i).state) in
      (λ e. let r = p.0 e in record { slot = r.0; live = r.1 }, λ r. p.1 (r.slot, r.live))

  state-live : (i : ℕ) → (table_of n s).live i ≡ true → is_live (s i).state ≡ true
  state-live i l = (and-true (ltb i n) _ l).1

  state-idle : (i : ℕ) → i < n → (table_of n s).live i ≡ false → is_live (s i).state ≡ false
  state-idle i h l = rw (lt-ltb i n h) at l

  pub parent_is : (i : ℕ) → (table_of n s).live i ≡ true → (table_of n s).parent i ≡ parent_at s i
  parent_is i l = rw l

  parent_none : (i : ℕ) → (table_of n s).live i ≡ false → (table_of n s).parent i ≡ no_parent
  parent_none i l = rw l

  mark_is : (p c : ℕ) → ((table_of n s).mark p c ≡ true) ↔ ((p < n) × ((c < mark_count) × (marked (s p).children c ≡ true)))
  mark_is p c = and_iff (ltb_iff p n) (and_iff (ltb_iff c mark_count) same)

  module _ (h : Header) (few : n ≤ mark_count) (ok : (i : ℕ) → i < n → Sound n h s i) where
    tests : (i : ℕ) → i < n → Tests n (table_of n s) i
    tests i lt = record {
      inactive = λ d. (
        parent_none i d,
        λ c k. elim (two ((table_of n s).mark i c)) [
          | inr e ↦ e
          | inl m ↦
              let q = idle-of (s i).state n h s i (state-idle i lt d) (ok i lt).in_state in
              clash ((mark_is i c).0 m).1.1 (rw q.children (marked_none c))
        ],
      );
      linked_up = λ l.
          let q = tied_of (s i).state n h s i (state-live i l) (ok i lt).in_state in
          rw (parent_is i l) (elim (ℕ_discrete (parent_at s i) no_parent) [
            | yes e ↦ inl e
            | no ne ↦
                let r = q.parent ne in
                inr (r.0.slot, (live_is (parent_at s i)).1 r.0, (mark_is (parent_at s i) i).1 (r.0.slot, (omega arith, r.1)))
          ]);
      linked_down = λ l c k m.
          let q = tied_of (s i).state n h s i (state-live i l) (ok i lt).in_state in
          let r = q.children c k ((mark_is i c).0 m).1.1 in
          let a = (live_is c).1 r.0 in
          (r.0.slot, a, parent_is c a ∙ r.1);
    }

    -- where every slot is sound, parents and marks agree
    pub linked : Linked n (table_of n s)
    linked = (linked_iff_tests n (table_of n s) (frame-of n s few)).0 tests

  -- ---- the forest's tests and the rule, where parents and marks agree

  module _ (L : Linked n (table_of n s)) where
    pub ancestor-is : (k x : ℕ) → (table_of n s).live (up (table_of n s) k x) ≡ true → ancestor s k x ≡ up (table_of n s) k x
    unfolding steps_up up
    ancestor-is zero x l = refl
    ancestor-is (suc k) x l =
        let a = live-up n (table_of n s) L (up (table_of n s) k x) l in
        ap (parent_at s) (ancestor-is k x a) ∙ sym (parent_is (up (table_of n s) k x) a)

    -- parent steps that lead to a live slot, in the rule's words
    steps-live : (x : ℕ) → (table_of n s).live x ≡ true → (k : ℕ) → ((j : ℕ) → j < k → (s (ancestor s j x)).parent_idx ≢ no_parent)
        → ((table_of n s).live (up (table_of n s) k x) ≡ true) × (ancestor s k x ≡ up (table_of n s) k x)
    unfolding steps_up up
    steps-live x l zero f = (l, refl)
    steps-live x l (suc k) f =
        let r = steps-live x l k (λ j h. f j (omega arith)) in
        let e = parent_is (up (table_of n s) k x) r.0 in
        let q : ancestor s (suc k) x ≡ up (table_of n s) (suc k) x = ap (parent_at s) r.1 ∙ sym e in
        ((L.high (up (table_of n s) k x) r.0 (λ z. f k (omega arith) (q ∙ z))).0, q)

    pub under_iff : (x y : ℕ) → Live n s y → In (table_of n s) x y ↔ (Live n s x × Under s x y)
    unfolding up steps_up
    under_iff x y v = (
      λ d.
          let l : (table_of n s).live (up (table_of n s) d.0 x) ≡ true = rw d.1 ((live_is y).1 v) in
          let at : (j : ℕ) → j ≤ d.0 → (table_of n s).live (up (table_of n s) j x) ≡ true = λ j h.
          let q : (d.0 - j) + j ≡ d.0 = omega arith in
          live_below n (table_of n s) L (d.0 - j) (up (table_of n s) j x) (rw (sym (up-add (table_of n s) (d.0 - j) j x), q) l) in (
            (live_is x).0 (at 0 (omega arith)),
            record {
              steps = d.0;
              ends = ancestor-is d.0 x l ∙ d.1;
              links = λ k h e.
                  let a = at (suc k) h in
                  clash a (rw (sym (ancestor-is (suc k) x a) ∙ e) (no_slot n (table_of n s) L));
            },
          ),
      λ r. (r.1.steps, sym (steps-live x ((live_is x).1 r.0) r.1.steps r.1.links).1 ∙ r.1.ends),
    )

    pub root_iff : (x : ℕ) → (table_of n s).live x ≡ true → (up (table_of n s) n x ≡ no_parent) ↔ HasRoot n s x
    unfolding up
    root_iff x l = (
      λ r.
          let a = (near_iff n (table_of n s) L x l).1 r in
          (a.steps, a.few, ap (parent_at s) (ancestor-is a.steps x a.alive) ∙ sym (parent_is _ a.alive) ∙ a.root),
      λ r.
          let k = r.1 in
          elim (live-or-top n (table_of n s) L r.0 x l) [
            | inl e ↦ stay n (table_of n s) L r.0 n x (omega arith) e
            | inr a ↦ stay n (table_of n s) L (suc r.0) n x (omega arith) (parent_is _ a ∙ ap (parent_at s) (sym (ancestor-is r.0 x a)) ∙ r.2)
          ],
    )

    pub rooted_iff : Rooted n (table_of n s) ↔ ((i : ℕ) → Live n s i → HasRoot n s i)
    rooted_iff = (λ r i v. let l = (live_is i).1 v in (root_iff i l).0 (r i l), λ f x l. (root_iff x l).1 (f x ((live_is x).0 l)))

    alike_iff : ((p c : ℕ) → (table_of n s).mark p c ≡ true → kind_at s c ≡ kind_at s p) ↔ Alike n s
    alike_iff = (
      λ f i v ne.
          let l = (live_is i).1 v in
          let e = parent_is i l in
          let m = (L.high i l (λ q. ne (sym e ∙ q))).1 in
          (kind_iff s i (parent_at s i)).0 (f (parent_at s i) i (rw e at m)),
      λ f p c m.
          let r = L.low p c m in
          let e = sym (parent_is c r.1) ∙ r.2 in
          let small = L.small p r.0 in
          let few = L.few in
          let q = f c ((live_is c).0 r.1) (λ z. absurd (let w : p ≡ no_parent = sym e ∙ z in omega arith)) in
          (kind_iff s c (parent_at s c)).1 q ∙ ap (kind_at s) e,
    )

    pub normal-root_iff : (i : ℕ) → (normal_root (table_of n s) (kind_at s) i ≡ true) ↔ NormalRoot n s i
    normal-root_iff i =
        let p = and_iff (and_iff (live_is i) (eqb_iff ((table_of n s).parent i) no_parent)) (eqb_iff (kind_at s i) 0) in (
          λ e. let r = p.0 e in record {
            live = r.0.0;
            root = sym (parent_is i ((live_is i).1 r.0.0)) ∙ r.0.1;
            normal = same_type (s i).context_type Normal r.1;
          },
          λ r. p.1 ((r.live, parent_is i ((live_is i).1 r.live) ∙ r.root), ap number_of r.normal),
        )

    pub normal_iff : (count (normal_root (table_of n s) (kind_at s)) n ≤ 1) ↔ OneNormal n s
    normal_iff = (
      λ h i j a b.
          let m = normal_root (table_of n s) (kind_at s) in
          let p = (normal-root_iff i).1 a in
          let q = (normal-root_iff j).1 b in
          let k = count_pos m n i a.live.slot p in
          count-one m n i j (omega arith) a.live.slot b.live.slot p q,
      λ f. count-le-one (normal_root (table_of n s) (kind_at s)) n (λ i j a b. f i j ((normal-root_iff i).0 a) ((normal-root_iff j).0 b)),
    )

    pub forest_of_iff : (forest_of n s ≡ Ok tt) ↔ (Alike n s × (OneNormal n s × ((i : ℕ) → Live n s i → HasRoot n s i)))
    unfolding forest_of
    forest_of_iff =
        let p = forest_iff n (table_of n s) L (kind_at s) in (
          λ e. let r = p.0 ((found_iff _).0 e) in (alike_iff.0 r.alike, (normal_iff.0 r.one_normal, rooted_iff.0 r.rooted)),
          λ r. (found_iff _).1 (p.1 (record { rooted = rooted_iff.1 r.1.1; alike = alike_iff.1 r.0; one_normal = normal_iff.1 r.1.0 })),
        )
