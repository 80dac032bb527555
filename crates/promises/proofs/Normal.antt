-- A yes that is not initialised has no live Normal context: below one there would be ever another. Assumes nothing.
use mathlib.Core.Path.{◌≡◌, refl, sym, ap, ◌∙◌}
use mathlib.Core.Logic.{◌≢◌}
use Prim.Native.Nat.{ℕ, zero, suc, ◌≤◌, ◌<◌}
use native.Mathlib.Omega.{arith}
use Rattle.children.specs.Marks.{mark_count}
use Rattle.children.proofs.Cases.{clash}
use Rattle.context.specs.declared.ContextState.{ContextState}
use Rattle.context.specs.declared.ContextState.TheVariants.{Inactive, Active, Retired}
use Rattle.context.specs.declared.ContextType.TheVariants.{Normal}
use Rattle.context.specs.declared.Context.{Context}
use Rattle.context.specs.Context.{no_parent}
use Rattle.forest.specs.Links.{up}
use Rattle.forest.proofs.Links.{up_in, no_slot}
use Rattle.links.specs.Summary.{table_of}
use Rattle.verdict.specs.Tests.{Header}
use Rattle.verdict.specs.Rule.{Live, ForestRule}
use Rattle.verdict.proofs.Trees.{live_is, parent_is}
use Rattle.promises.proofs.Rule.{Own, mark_same, own, links, roots}

module _ (n : ℕ) (h : Header) (s : ℕ → Context) (small : n ≤ mark_count) (F : ForestRule n h s) (z : h.initialized ≡ 0) where
  -- a live Normal slot k steps below r
  record Deep (r k : ℕ) : Type 0 where
    at : ℕ
    live : Live n s at
    normal : (s at).context_type ≡ Normal
    ends : up (table_of n s) k at ≡ r

  -- it is not active, so it is retired and has a child
  deeper : (r k : ℕ) → Deep r k → Deep r (suc k)
  unfolding up
  deeper r k d = by_state (s d.at).state refl
    where
      lt : d.at < n
      lt = d.live.slot

      o : Own n h (s d.at)
      o = own n s h d.at (F.sound d.at lt)

      by_state : (x : ContextState) → (s d.at).state ≡ x → Deep r (suc k)
      by_state Inactive e = absurd (d.live.live e)
      by_state Active e = absurd (o.initialized e d.normal z)
      by_state Retired e =
          let c = o.child e in
          let b = c.1 in
          let q = (links n h s small F).low d.at c.0 (sym (mark_same n s d.at c.0 lt (omega arith)) ∙ c.2) in
          let v = (live_is n s c.0).0 q.1 in
          let p = sym (parent_is n s c.0 q.1) ∙ q.2 in
          record {
            at = c.0;
            live = v;
            normal = F.alike c.0 v (λ w. let u : d.at ≡ no_parent = sym p ∙ w in omega arith) ∙ ap (λ (j : ℕ). (s j).context_type) p ∙ d.normal;
            ends = sym (up_in (table_of n s) k c.0) ∙ ap (up (table_of n s) k) q.2 ∙ d.ends;
          }

  deep : (r : ℕ) → Live n s r → (s r).context_type ≡ Normal → (k : ℕ) → Deep r k
  unfolding up
  deep r v m zero = record { at = r; live = v; normal = m; ends = refl }
  deep r v m (suc k) = deeper r k (deep r v m k)

  pub none_normal : (r : ℕ) → Live n s r → (s r).context_type ≢ Normal
  none_normal r v m =
      let d = deep r v m n in
      let e = roots n h s small F d.at ((live_is n s d.at).1 d.live) in
      clash ((live_is n s r).1 v) (rw (sym d.ends ∙ e) (no_slot n (table_of n s) (links n h s small F)))
