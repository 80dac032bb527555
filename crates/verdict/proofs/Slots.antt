-- The tests of one slot find no fault just where the slot is sound. Assumes nothing.
use Rattle.std.specs.Prelude.{Ok}
use mathlib.Core.Path.{◌≡◌, refl, ap}
use mathlib.Core.Logic.{◌≢◌, ◌↔◌}
use mathlib.Core.Bool.{Bool, true, false, not, ◌||◌}
use Prim.Native.Nat.{ℕ}
use native.Mathlib.Decide.{ℕ_discrete}
use native.Mathlib.Omega.{arith}
use lib.Dec.{eqb}
use lib.ListN.{replicate}
use borrow.Author.Tests.{eq-eqb, ne_eqb}
use Rattle.children.specs.Marks.{mark_count, marked, count_below}
use Rattle.children.proofs.Cases.{clash}
use Rattle.children.proofs.Below.{count-some, count_pos}
use Rattle.context.specs.declared.ContextState.{ContextState}
use Rattle.context.specs.declared.ContextState.TheVariants.{Inactive, Active, Retired}
use Rattle.context.specs.declared.ContextType.{ContextType}
use Rattle.context.specs.declared.ContextType.TheVariants.{Normal, Simulation}
use Rattle.context.specs.declared.tci.TciNodeData.{TciNodeData}
use Rattle.context.specs.declared.Context.{Context}
use Rattle.context.specs.Bytes.{tci_size, is_on}
use Rattle.context.specs.Context.{no_parent, zero_tci, is_live, is_normal}
use Rattle.context.proofs.Bytes.{same_iff}
use Rattle.links.specs.Summary.{parent_at, kids_at}
use Rattle.verdict.specs.Tests.{Header, is_zero_tci, support_of, inactive_of, parent_test, child_test, links_test, links_at, has_child, state_of, context_of, slot_test}
use Rattle.verdict.specs.Rule.{Supported, Idle, Tied, HasChild, InState, Sound}
use Rattle.verdict.proofs.Steps.{same, seq, test, guard, all, eqb_iff, ltb_iff, ne_iff, and_iff, if_iff, not_iff}

or-normal : (x : ContextType) {b : Bool} → ((is_normal x || b) ≡ true) ↔ (x ≡ Simulation → b ≡ true)
or-normal Normal = (λ e q. absurd (cc), λ f. refl)
or-normal Simulation = (λ e q. e, λ f. f refl)

normal_iff : (x : ContextType) → (is_normal x ≡ true) ↔ (x ≡ Normal)
normal_iff Normal = (λ e. refl, λ e. refl)
normal_iff Simulation = (λ e. clash e refl, λ e. absurd (cc))

pub live_iff : (x : ContextState) → (is_live x ≡ true) ↔ (x ≢ Inactive)
live_iff Inactive = (λ e. clash e refl, λ f. absurd (f refl))
live_iff Active = (λ e q. cc, λ f. refl)
live_iff Retired = (λ e q. cc, λ f. refl)

tci_iff : (d : TciNodeData) → (is_zero_tci d ≡ true) ↔ (d ≡ zero_tci)
unfolding is_zero_tci
tci_iff d =
    let p = and_iff (and_iff (and_iff (and_iff (eqb_iff d.tci_type 0) (same_iff d.tci_cumulative (replicate tci_size 0)))
    (same_iff d.tci_current (replicate tci_size 0))) (eqb_iff d.locality 0)) (eqb_iff d.svn 0) in (
      λ e.
          let r = p.0 e in
          λ i. record {
            tci_type = r.0.0.0.0 i;
            tci_cumulative = r.0.0.0.1 i;
            tci_current = r.0.0.1 i;
            locality = r.0.1 i;
            svn = r.1 i;
          },
      λ e.
          let a = ap (λ (x : TciNodeData). x.tci_type) e in
          let b = ap (λ (x : TciNodeData). x.tci_cumulative) e in
          let c = ap (λ (x : TciNodeData). x.tci_current) e in
          p.1 ((((a, b), c), ap (λ (x : TciNodeData). x.locality) e), ap (λ (x : TciNodeData). x.svn) e),
    )

off_iff : (x : ℕ) → (is_on x ≡ false) ↔ (x ≡ 0)
off_iff x = elim (ℕ_discrete x 0) [
  | yes e ↦ (λ q. e, λ q. rw (eq-eqb x 0 e))
  | no ne ↦ (λ q. clash (rw (ne_eqb x 0 ne)) q, λ q. absurd (ne q))
]

neither : {a b : Bool} {A B : Type 0} → (a ≡ false) ↔ A → (b ≡ false) ↔ B → ((a || b) ≡ false) ↔ (A × B)
neither {a = true} p q = (λ e. clash refl e, λ r. clash refl (p.1 r.0))
neither {a = false} p q = (λ e. (p.0 refl, q.0 e), λ r. q.1 r.1)

supported_iff : (h : Header) (c : Context) → (support_of h.support c ≡ Ok tt) ↔ Supported h c
unfolding support_of
supported_iff h c =
    let p = seq (test _ (or-normal c.context_type))
    (seq (test _ (if_iff (ne_iff c.uses_internal_input_dice 0) same))
    (seq (test _ (if_iff (ne_iff c.uses_internal_input_info 0) same))
    (test _ (if_iff (ne_iff c.parent_idx no_parent) (if_iff (ne_iff c.allow_x509 0) same))))) in (
      λ e. let r = p.0 e in record { simulation = r.0; dice = r.1.0; info = r.1.1.0; x509 = r.1.1.1 },
      λ r. p.1 (r.simulation, (r.dice, (r.info, r.x509))),
    )

idle_iff : (c : Context) → (inactive_of c ≡ Ok tt) ↔ Idle c
unfolding inactive_of
idle_iff c =
    let p = seq (test _ (eqb_iff c.parent_idx no_parent))
    (seq (test _ (eqb_iff c.children 0))
    (seq (test _ (tci_iff c.tci))
    (test _ (not_iff _ (neither (neither (off_iff c.uses_internal_input_dice) (off_iff c.allow_x509))
    (off_iff c.uses_internal_input_info)))))) in (
      λ e. let r = p.0 e in record {
        parent = r.0;
        children = r.1.0;
        tci = r.1.1.0;
        dice = r.1.1.1.0.0;
        x509 = r.1.1.1.0.1;
        info = r.1.1.1.1;
      },
      λ r. p.1 (r.parent, (r.children, (r.tci, ((r.dice, r.x509), r.info)))),
    )

tied_iff : (n : ℕ) (s : ℕ → Context) (i : ℕ) → (links_at n s i ≡ Ok tt) ↔ Tied n s i
unfolding links_test parent_test child_test
tied_iff n s i =
    let p = seq
    (guard (not (eqb (parent_at s i) no_parent)) (ne_iff (parent_at s i) no_parent)
    (seq (test _ (ltb_iff (parent_at s i) n)) (seq (test _ (live_iff (s (parent_at s i)).state)) (test _ same))))
    (all mark_count (λ c h. guard (marked (kids_at s i) c) same
    (seq (test _ (ltb_iff c n)) (seq (test _ (live_iff (s c).state)) (test _ (eqb_iff (parent_at s c) i)))))) in (
      λ e. let r = p.0 e in record {
        parent = λ ne. let q = r.0 ne in (record { slot = q.0; live = q.1.0 }, q.1.1);
        children = λ c h m. let q = r.1 c h m in (record { slot = q.0; live = q.1.0 }, q.1.1);
      },
      λ r. p.1 (
        λ ne. let q = r.parent ne in (q.0.slot, (q.0.live, q.1)),
        λ c h m. let q = r.children c h m in (q.0.slot, (q.0.live, q.1)),
      ),
    )

child_iff : (n : ℕ) (c : Context) → (has_child n c ≡ true) ↔ HasChild n c
child_iff n c =
    let p = ne_iff (count_below n c.children) 0 in (
      λ e. let nz = p.0 e in count-some (marked c.children) n (omega arith),
      λ r. p.1 (λ z. omega (arith, count_pos (marked c.children) n r.0 r.1 r.2)),
    )

state_iff : (x : ContextState) (n : ℕ) (h : Header) (s : ℕ → Context) (i : ℕ)
    → (state_of x n h.initialized (s i) (links_at n s i) ≡ Ok tt) ↔ InState x n h s i
unfolding state_of
state_iff Inactive n h s i = idle_iff (s i)
state_iff Active n h s i = seq (test _ (if_iff (normal_iff (s i).context_type) (ne_iff h.initialized 0))) (tied_iff n s i)
state_iff Retired n h s i = seq (tied_iff n s i) (test _ (child_iff n (s i)))

pub sound_iff : (n : ℕ) (h : Header) (s : ℕ → Context) (i : ℕ) → (slot_test n h s i ≡ Ok tt) ↔ Sound n h s i
unfolding context_of
sound_iff n h s i =
    let p = seq (supported_iff h (s i)) (seq (state_iff (s i).state n h s i) (test _ (eqb_iff (s i).locality (s i).tci.locality))) in (
      λ e. let r = p.0 e in record { supported = r.0; in_state = r.1.0; locality = r.1.1 },
      λ r. p.1 (r.supported, (r.in_state, r.locality)),
    )
