-- Rotate keeps a yes. Assumes nothing.
use mathlib.Core.Path.{◌≡◌, sym, ap, subst, ◌∙◌}
use mathlib.Core.List.{List}
use mathlib.Core.Logic.{◌≢◌}
use Prim.Native.Nat.{ℕ, ◌≤◌, ◌<◌}
use native.Mathlib.Decide.{ℕ_discrete}
use native.Mathlib.Omega.{arith}
use lib.Seq.{get_or-set_same, get_or-set_other}
use borrow.Author.Tests.{eq-eqb}
use Rattle.children.specs.Marks.{slot_count, mark_count}
use Rattle.children.proofs.Cases.{and_both}
use Rattle.context.specs.declared.Context.{Context}
use Rattle.table.specs.declared.state.State.{State}
use Rattle.handle.specs.Handle.{default_handle}
use Rattle.context.specs.Context.{with_handle, no_context, is_active, slot_of}
use Rattle.table.specs.State.{with_slot}
use Rattle.rotate_context.specs.Rotate.{rotated_of}
use Rattle.rotate_context.proofs.Rotate.{unchanged, to-zero, to_taken, ended, alone_iff}
use Rattle.verdict.specs.Tests.{Header, header_of}
use Rattle.verdict.specs.Rule.{ActiveIn, NormalRoot, Alone, ForestRule, Forest}
use Rattle.promises.proofs.Rule.{Own, own, rule-of, links, roots, few, long}

-- a context with another handle says the same of itself
own-handle : (n : ℕ) (h : Header) (c : Context) (g : List ℕ) → Own n h c → Own n h (with_handle c g)
own-handle n h c g o = record {
  supported = record {
    simulation = o.supported.simulation;
    dice = o.supported.dice;
    info = o.supported.info;
    x509 = o.supported.x509;
  };
  idle = λ e.
      let i = o.idle e in
      record { parent = i.parent; children = i.children; tci = i.tci; dice = i.dice; x509 = i.x509; info = i.info };
  initialized = o.initialized;
  child = o.child;
  locality = o.locality;
}

module _ (n : ℕ) (h : Header) (s : ℕ → Context) (small : n ≤ mark_count) (F : ForestRule n h s) where
  -- handles have no part in the rule but in the localities
  other_handles : (g : ℕ → List ℕ) → Alone n (λ j. with_handle (s j) (g j)) → ForestRule n h (λ j. with_handle (s j) (g j))
  other_handles g a = rule-of n (λ j. with_handle (s j) (g j)) small (links n h s small F) (roots n h s small F) h F.marker F.version
      (λ i lt. own-handle n h (s i) (g i) (own n s h i (F.sound i lt)))
      a
      (λ i v ne. F.alike i (record { slot = v.slot; live = v.live }) ne)
      (λ i j p q. F.one_normal i j (was p) (was q))
    where
      was : {i : ℕ} → NormalRoot n (λ j. with_handle (s j) (g j)) i → NormalRoot n s i
      was r = record { live = record { slot = r.live.slot; live = r.live.live }; root = r.root; normal = r.normal }

  module _ (i : ℕ) (new : List ℕ) (s' : ℕ → Context) (at : s' i ≡ with_handle (s i) new) (other : (j : ℕ) → j ≢ i → s' j ≡ s j) where
    same : (j : ℕ) → s' j ≡ with_handle (s j) (s' j).handle
    same j = elim (ℕ_discrete j i) [
      | yes e ↦ rw e (at ∙ ap (λ (c : Context). with_handle (s i) c.handle) (sym at))
      | no ne ↦ other j ne ∙ ap (λ (c : Context). with_handle (s j) c.handle) (sym (other j ne))
    ]

    was-active : {j : ℕ} → ActiveIn n s' j → ActiveIn n s j
    was-active {j} a = record { slot = a.slot; active = sym (ap (λ (c : Context). c.state) (same j)) ∙ a.active }

    place : (j : ℕ) → (s' j).locality ≡ (s j).locality
    place j = ap (λ (c : Context). c.locality) (same j)

    -- the new handle is no default, or no other active context is in the locality
    pub rotated : ((j : ℕ) → ActiveIn n s j → j ≢ i → (s j).locality ≡ (s i).locality → new ≢ default_handle) → ForestRule n h s'
    rotated fit =
        let e : s' ≡ (λ j. with_handle (s j) (s' j).handle) = λ k j. same j k in
        let alone : Alone n s' = λ a b p q ne l.
        let m = sym (place a) ∙ l ∙ place b in
        elim (ℕ_discrete a i) [
          | yes y ↦ rw (y, at) (fit b (was-active q) (λ z. ne (y ∙ sym z)) (sym m ∙ ap (λ (j : ℕ). (s j).locality) y))
          | no ny ↦ rw (other a ny) (F.alone a b (was-active p) (was-active q) ne m)
        ] in
        subst (λ (f : ℕ → Context). ForestRule n h f) (sym e) (other_handles (λ j. (s' j).handle) (subst (λ (f : ℕ → Context). Alone n f) e alone))

-- ---- of a table

module _ (t : State) (F : Forest t) (i : ℕ) (lt : i < slot_count) (new : List ℕ) where
  turned : ((j : ℕ) → ActiveIn slot_count (slot_of t.contexts) j → j ≢ i → (slot_of t.contexts j).locality ≡ (slot_of t.contexts i).locality → new ≢ default_handle)
      → Forest (with_slot t i (with_handle (slot_of t.contexts i) new))
  turned fit =
      let l = long t F in
      rotated slot_count (header_of t) (slot_of t.contexts) few F i new _
      (get_or-set_same t.contexts i _ no_context (omega arith)) (λ j ne. get_or-set_other t.contexts i j _ no_context ne) fit

pub rotate_keeps : (t : State) → Forest t → (h : List ℕ) (l flags : ℕ) (b : List ℕ) → Forest (rotated_of t h l flags b).state
rotate_keeps t F h l flags b = elim (ended t h l flags b) [
  | unchanged e q ↦ rw q F
  | to-zero i g o q ↦ rw q (turned t F i g.below default_handle (λ j a ne e.
      absurd (ne ((alone_iff (slot_of t.contexts) l i slot_count).0 o j a.slot (and_both (ap is_active a.active) (eq-eqb _ _ (e ∙ g.locality)))).0)))
  | to_taken i g new k q ↦ rw q (turned t F i g.below new (λ j a ne e. k.nonzero))
]
