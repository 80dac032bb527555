-- Each refusal is given exactly where document 01 says. Assumes nothing.
use Rattle.std.specs.Prelude.{Err}
use mathlib.Core.Path.{◌≡◌, refl, sym, ap, ◌∙◌}
use mathlib.Core.Logic.{◌≢◌, ◌↔◌, inl, inr}
use mathlib.Core.Bool.{true, false}
use Prim.Native.Nat.{ℕ, ◌≤◌, ◌<◌}
use native.Mathlib.Decide.{ℕ_discrete, dec_lt}
use native.Mathlib.Omega.{arith}
use lib.Dec.{eqb}
use borrow.Author.Tests.{eq-eqb, ne_eqb}
use Rattle.error.specs.declared.ValidationError.{ValidationError}
use Rattle.error.specs.declared.ValidationError.TheVariants.{MultipleNormalConnectedComponents, CyclesInTree, BadContextState, BadContextType, MixedContextTypeConnectedComponents, ChildWithMultipleParents, AllowCaNotSupported, InvalidMarker, VersionMismatch}
use Rattle.children.specs.Marks.{slot_count, mark_count}
use Rattle.children.specs.Below.{count}
use Rattle.children.proofs.Cases.{two, clash, find, and_both, true-eqb}
use Rattle.children.proofs.Below.{count-more}
use Rattle.context.specs.declared.Context.{Context}
use Rattle.table.specs.declared.state.State.{State}
use Rattle.context.specs.Context.{no_parent, slot_of}
use Rattle.table.specs.State.{magic, version_number}
use Rattle.forest.specs.Links.{Linked, up, Rooted}
use Rattle.forest.specs.Search.{Found, is_root, normal_root, find_fault, Differ, Judged, is-mixed, is_many, is-cyclic, is-forest}
use Rattle.forest.proofs.Search.{root_is, root-of-link}
use Rattle.forest.proofs.Forest.{judged}
use Rattle.links.specs.Summary.{table_of}
use Rattle.verdict.specs.Tests.{Header, header_of, slot_test, locality_of, localities_test, kind_at, found_fault, forest_of, verdict, verdict_of}
use Rattle.verdict.specs.Rule.{Live, OneNormal}
use Rattle.verdict.specs.Refusals.{the_marker, the_version, slots, localities, trees, nowhere, part_of, FirstSlot, in_locality, up_to, FirstPlace, Earlier, Mixed, TwoNormal, Cyclic}
use Rattle.verdict.proofs.Steps.{same, below_stop, below_iff, eqb_iff, test, all}
use Rattle.verdict.proofs.Slots.{sound_iff}
use Rattle.verdict.proofs.Localities.{localities_iff}
use Rattle.verdict.proofs.Trees.{kind_iff, live_is, parent_is, linked, under_iff, root_iff, normal-root_iff, normal_iff}
use Rattle.verdict.proofs.Parts.{apart, from-need, from-slots, from-localities, from-trees, not_from, not_first, here, later, need-fault, below-fault}

unlike : (m n : ℕ) → (eqb m n ≡ false) ↔ (m ≢ n)
unlike m n = (λ f e. clash (eq-eqb m n e) f, λ f. ne_eqb m n f)

chain : {A B C : Type 0} → A ↔ B → B ↔ C → A ↔ C
chain p q = (λ a. q.0 (p.0 a), λ c. p.1 (q.1 c))

module _ (n : ℕ) (h : Header) (s : ℕ → Context) where
  -- ---- marker and version

  pub marker_iff : (verdict n h s ≡ Err InvalidMarker) ↔ (h.marker ≢ magic)
  unfolding verdict
  marker_iff = chain
      (here (not_first (not_from (from-need _ _ refl) refl (apart the_marker the_version refl))
      (not_first (not_from (from-slots n h s) refl (apart the_marker slots refl))
      (not_first (not_from (from-localities n s) refl (apart the_marker localities refl)) (not_from (from-trees n s) refl (apart the_marker trees refl))))))
      (chain (need-fault _ _) (unlike h.marker magic))

  pub version_iff : (verdict n h s ≡ Err VersionMismatch) ↔ ((h.marker ≡ magic) × (h.version ≢ version_number))
  unfolding verdict
  version_iff = later (not_from (from-need _ _ refl) refl (apart the_version the_marker refl)) (test _ (eqb_iff h.marker magic))
      (chain
      (here (not_first (not_from (from-slots n h s) refl (apart the_version slots refl))
      (not_first (not_from (from-localities n s) refl (apart the_version localities refl)) (not_from (from-trees n s) refl (apart the_version trees refl)))))
      (chain (need-fault _ _) (unlike h.version version_number)))

  module _ (e : ValidationError) where
    -- ---- the slots

    pub slot-fault_iff : part_of e ≡ slots → (verdict n h s ≡ Err e) ↔ FirstSlot n h s e
    unfolding verdict
    slot-fault_iff k =
        let p = later (not_from (from-need _ _ refl) k (apart slots the_marker refl)) (test _ (eqb_iff h.marker magic))
        (later (not_from (from-need _ _ refl) k (apart slots the_version refl)) (test _ (eqb_iff h.version version_number))
        (here (not_first (not_from (from-localities n s) k (apart slots localities refl))
        (not_from (from-trees n s) k (apart slots trees refl))))) in (
          λ f.
              let r = p.0 f in
              let b = below-fault (slot_test n h s) n e r.1.1 in record {
                marker = r.0;
                version = r.1.0;
                at = b.0;
                slot = b.1;
                before = λ j l. (sound_iff n h s j).0 (b.2 j l);
                fails = b.3;
              },
          λ r. p.1 (
            r.marker,
            (
              r.version,
              below_stop (slot_test n h s) r.at n e r.slot
                  ((below_iff (slot_test n h s) r.at).1 (λ j l. (sound_iff n h s j).1 (r.before j l))) r.fails,
            ),
          ),
        )

    -- ---- the localities

    pub locality-fault_iff : part_of e ≡ localities → (verdict n h s ≡ Err e) ↔ FirstPlace n h s e
    unfolding verdict localities_test locality_of
    locality-fault_iff k =
        let p = later (not_from (from-need _ _ refl) k (apart localities the_marker refl)) (test _ (eqb_iff h.marker magic))
        (later (not_from (from-need _ _ refl) k (apart localities the_version refl)) (test _ (eqb_iff h.version version_number))
        (later (not_from (from-slots n h s) k (apart localities slots refl)) (all n (λ i l. sound_iff n h s i))
        (here (not_from (from-trees n s) k (apart localities trees refl))))) in (
          λ f.
              let r = p.0 f in
              let b = below-fault (λ j. in_locality n s (s j).locality) n e r.1.1.1 in
              let c = below-fault (up_to s (s b.0).locality) n e b.3 in record {
                marker = r.0;
                version = r.1.0;
                sound = r.1.1.0;
                of = b.0;
                slot = b.1;
                others = b.2;
                at = c.0;
                place = c.1;
                before = c.2;
                fails = c.3;
              },
          λ r. p.1 (
            r.marker,
            (
              r.version,
              (
                r.sound,
                below_stop (λ j. in_locality n s (s j).locality) r.of n e r.slot
                    ((below_iff (λ j. in_locality n s (s j).locality) r.of).1 r.others)
                    (below_stop (up_to s (s r.of).locality) r.at n e r.place
                    ((below_iff (up_to s (s r.of).locality) r.at).1 r.before) r.fails),
              ),
            ),
          ),
        )

    -- ---- the trees

    pub tree-fault_iff : part_of e ≡ trees → (verdict n h s ≡ Err e) ↔ (Earlier n h s × (forest_of n s ≡ Err e))
    unfolding verdict
    tree-fault_iff k =
        let p = later (not_from (from-need _ _ refl) k (apart trees the_marker refl)) (test _ (eqb_iff h.marker magic))
        (later (not_from (from-need _ _ refl) k (apart trees the_version refl)) (test _ (eqb_iff h.version version_number))
        (later (not_from (from-slots n h s) k (apart trees slots refl)) (all n (λ i l. sound_iff n h s i))
        (later (not_from (from-localities n s) k (apart trees localities refl)) (localities_iff n s) same))) in (
          λ f.
              let r = p.0 f in
              (record { marker = r.0; version = r.1.0; sound = r.1.1.0; alone = r.1.1.1.0 }, r.1.1.1.1),
          λ r. p.1 (r.0.marker, (r.0.version, (r.0.sound, (r.0.alone, r.1)))),
        )

-- ---- the trees, where parents and marks agree

module _ (n : ℕ) (s : ℕ → Context) (L : Linked n (table_of n s)) where
  root-of : (i : ℕ) → (is_root (table_of n s) i ≡ true) ↔ (Live n s i × ((s i).parent_idx ≡ no_parent))
  root-of i = (
    λ e. let r = root_is (table_of n s) i e in ((live_is n s i).0 r.0, sym (parent_is n s i r.0) ∙ r.1),
    λ r. let l = (live_is n s i).1 r.0 in and_both l (true-eqb _ no_parent (parent_is n s i l ∙ r.1)),
  )

  differ_iff : Differ (table_of n s) (kind_at s) ↔ Mixed n s
  differ_iff = (
    λ d.
        let r = (root-of d.root).0 d.root_is_one in
        let u = (under_iff n s L d.other d.root r.0).0 d.below in record {
          root = d.root;
          other = d.other;
          live_root = r.0;
          top = r.1;
          live_other = u.0;
          below = u.1;
          unlike = λ e. d.unlike ((kind_iff s d.other d.root).1 e);
        },
    λ m. record {
      root = m.root;
      other = m.other;
      root_is_one = (root-of m.root).1 (m.live_root, m.top);
      below = (under_iff n s L m.other m.root m.live_root).1 (m.live_other, m.below);
      unlike = λ e. m.unlike ((kind_iff s m.other m.root).0 e);
    },
  )

  many_iff : (1 < count (normal_root (table_of n s) (kind_at s)) n) ↔ TwoNormal n s
  many_iff = (
    λ h.
        let r = count-more (normal_root (table_of n s) (kind_at s)) n h in
        let lt = r.2 in record {
          one = r.0;
          two = r.1;
          is_one = (normal-root_iff n s L r.0).0 r.4;
          is_two = (normal-root_iff n s L r.1).0 r.5;
          apart = λ e. omega arith;
        },
    λ w. elim (dec_lt 1 (count (normal_root (table_of n s) (kind_at s)) n)) [
      | yes h ↦ h
      | no nh ↦ absurd (w.apart ((normal_iff n s L).0 (omega arith) w.one w.two w.is_one w.is_two))
    ],
  )

  cyclic_iff : (¬ Rooted n (table_of n s)) ↔ Cyclic n s
  cyclic_iff = (
    λ f. elim (find rootless n) [
      | inl r ↦ record { at = r.0; live = (live_is n s r.0).0 r.2.0; rootless = λ q. r.2.1 ((root_iff n s L r.0 r.2.0).1 q) }
      | inr none ↦ absurd (f (λ x l. elim (ℕ_discrete (up (table_of n s) n x) no_parent) [ yes e ↦ e | no ne ↦ absurd (none x (L.small x l) (l, ne)) ]))
    ],
    λ c r. let l = (live_is n s c.at).1 c.live in c.rootless ((root_iff n s L c.at l).0 (r c.at l)),
  )
    where
      rootless : (i : ℕ) → Dec (((table_of n s).live i ≡ true) × (up (table_of n s) n i ≢ no_parent))
      rootless i = elim (two ((table_of n s).live i)) [
        | inr d ↦ no (λ p. clash p.0 d)
        | inl l ↦ elim (ℕ_discrete (up (table_of n s) n i) no_parent) [ yes e ↦ no (λ p. p.1 e) | no ne ↦ yes (l, ne) ]
      ]

  abbrev Finding : Found → Type 0
  Finding = Judged n (table_of n s) (kind_at s)

  mixed-here : {f : Found} → Finding f → (found_fault f ≡ Err MixedContextTypeConnectedComponents) ↔ Mixed n s
  unfolding found_fault
  mixed-here (is-mixed d) = (λ e. differ_iff.0 d, λ m. refl)
  mixed-here (is_many none l) = (λ e. absurd (cc), λ m. absurd (none (differ_iff.1 m)))
  mixed-here (is-cyclic none l q) = (λ e. absurd (cc), λ m. absurd (none (differ_iff.1 m)))
  mixed-here (is-forest r) = (
    λ e. absurd (cc),
    λ m.
        let d = differ_iff.1 m in
        absurd (d.unlike (root-of-link n (table_of n s) L (kind_at s) r.alike d.below.0 d.root d.other
        (root_is (table_of n s) d.root d.root_is_one).0 d.below.1)),
  )

  many-here : {f : Found} → Finding f → (found_fault f ≡ Err MultipleNormalConnectedComponents) ↔ (¬ Mixed n s × TwoNormal n s)
  unfolding found_fault
  many-here (is-mixed d) = (λ e. absurd (cc), λ r. absurd (r.0 (differ_iff.0 d)))
  many-here (is_many none l) = (λ e. (λ m. none (differ_iff.1 m), many_iff.0 l), λ r. refl)
  many-here (is-cyclic none l q) = (λ e. absurd (cc), λ r. absurd (omega (arith, many_iff.1 r.1)))
  many-here (is-forest r) = (λ e. absurd (cc), λ w. absurd (omega (arith, r.one_normal, many_iff.1 w.1)))

  cycles-here : {f : Found} → Finding f → (found_fault f ≡ Err CyclesInTree) ↔ (¬ Mixed n s × (OneNormal n s × Cyclic n s))
  unfolding found_fault
  cycles-here (is-mixed d) = (λ e. absurd (cc), λ r. absurd (r.0 (differ_iff.0 d)))
  cycles-here (is_many none l) = (λ e. absurd (cc), λ r. absurd (omega (arith, (normal_iff n s L).1 r.1.0)))
  cycles-here (is-cyclic none l q) = (λ e. (λ m. none (differ_iff.1 m), ((normal_iff n s L).0 l, cyclic_iff.0 q)), λ r. refl)
  cycles-here (is-forest r) = (λ e. absurd (cc), λ w. absurd (cyclic_iff.1 w.1.1 r.rooted))

-- ---- the three last refusals

module _ (n : ℕ) (h : Header) (s : ℕ → Context) (few : n ≤ mark_count) where
  finding : Earlier n h s → Judged n (table_of n s) (kind_at s) (find_fault n (table_of n s) (kind_at s))
  finding a = judged n (table_of n s) (linked n s h few a.sound) (kind_at s)

  -- where a slot below a root has another type than the root
  pub mixed_types_iff : (verdict n h s ≡ Err MixedContextTypeConnectedComponents) ↔ (Earlier n h s × Mixed n s)
  unfolding forest_of
  mixed_types_iff =
      let p = tree-fault_iff n h s MixedContextTypeConnectedComponents refl in (
        λ e. let r = p.0 e in (r.0, (mixed-here n s (linked n s h few r.0.sound) (finding r.0)).0 r.1),
        λ r. p.1 (r.0, (mixed-here n s (linked n s h few r.0.sound) (finding r.0)).1 r.1),
      )

  -- where there is no such slot, and two Normal roots
  pub many-normal_iff : (verdict n h s ≡ Err MultipleNormalConnectedComponents) ↔ (Earlier n h s × (¬ Mixed n s × TwoNormal n s))
  unfolding forest_of
  many-normal_iff =
      let p = tree-fault_iff n h s MultipleNormalConnectedComponents refl in (
        λ e. let r = p.0 e in (r.0, (many-here n s (linked n s h few r.0.sound) (finding r.0)).0 r.1),
        λ r. p.1 (r.0, (many-here n s (linked n s h few r.0.sound) (finding r.0)).1 r.1),
      )

  -- where there is neither, and a live slot without a root
  pub cycles_iff : (verdict n h s ≡ Err CyclesInTree) ↔ (Earlier n h s × (¬ Mixed n s × (OneNormal n s × Cyclic n s)))
  unfolding forest_of
  cycles_iff =
      let p = tree-fault_iff n h s CyclesInTree refl in (
        λ e. let r = p.0 e in (r.0, (cycles-here n s (linked n s h few r.0.sound) (finding r.0)).0 r.1),
        λ r. p.1 (r.0, (cycles-here n s (linked n s h few r.0.sound) (finding r.0)).1 r.1),
      )

-- ---- the refusals that are never given

module _ (n : ℕ) (h : Header) (s : ℕ → Context) where
  pub never : (e : ValidationError) → part_of e ≡ nowhere → verdict n h s ≢ Err e
  unfolding verdict
  never e k = not_first (not_from (from-need _ _ refl) k (apart nowhere the_marker refl))
      (not_first (not_from (from-need _ _ refl) k (apart nowhere the_version refl))
      (not_first (not_from (from-slots n h s) k (apart nowhere slots refl))
      (not_first (not_from (from-localities n s) k (apart nowhere localities refl))
      (not_from (from-trees n s) k (apart nowhere trees refl)))))

pub never_given : (t : State) (e : ValidationError) → verdict_of t ≡ Err e
    → (e ≢ ChildWithMultipleParents) × (e ≢ AllowCaNotSupported) × (e ≢ BadContextState) × (e ≢ BadContextType)
never_given t e f =
    let no_part : part_of e ≢ nowhere = λ k. never slot_count (header_of t) (slot_of t.contexts) e k f in
    (λ q. no_part (ap part_of q), λ q. no_part (ap part_of q), λ q. no_part (ap part_of q), λ q. no_part (ap part_of q))
