-- Parent steps of a linked table: steps and marks agree, a ring has no way out, and n steps are as good as any number. Assumes nothing.
use mathlib.Core.Path.{◌≡◌, refl, sym, ap, ◌∙◌}
use mathlib.Core.Logic.{◌⊎◌, inl, inr, ◌≢◌, ◌↔◌}
use mathlib.Core.Bool.{true, false}
use Prim.Native.Nat.{ℕ, zero, suc, ◌+◌, ◌-◌, ◌≤◌, ◌<◌}
use native.Mathlib.Nat.{add_comm, suc-add, zero-add}
use native.Mathlib.Decide.{ℕ_discrete}
use native.Mathlib.Omega.{arith}
use Rattle.children.specs.Below.{count}
use Rattle.children.proofs.Cases.{two, clash}
use Rattle.children.proofs.Below.{count_none, count-some, count-le-one}
use Rattle.context.specs.Context.{no_parent}
use Rattle.forest.specs.Links.{Table, Linked, up, Below, Chain, one, more, Near, Rooted, Ringless}
use Rattle.forest.proofs.Pigeon.{Twice, pigeon}

-- ---- steps

pub up-add : (t : Table) (a b x : ℕ) → up t (a + b) x ≡ up t a (up t b x)
unfolding up
up-add t zero b x = rw (zero-add b)
up-add t (suc a) b x = rw (suc-add a b) (ap t.parent (up-add t a b x))

pub up_in : (t : Table) (k x : ℕ) → up t k (t.parent x) ≡ up t (suc k) x
unfolding up
up_in t zero x = refl
up_in t (suc k) x = ap t.parent (up_in t k x)

module _ (n : ℕ) (t : Table) (L : Linked n t) where
  pub no_slot : t.live no_parent ≡ false
  no_slot = elim (two (t.live no_parent)) [ inl e ↦ absurd (omega (arith, L.few, L.small no_parent e)) | inr e ↦ e ]

  pub live-up : (x : ℕ) → t.live (t.parent x) ≡ true → t.live x ≡ true
  live-up x h = elim (two (t.live x)) [ inl e ↦ e | inr e ↦ clash h (rw (L.idle x e) no_slot) ]

  pub live_below : (k x : ℕ) → t.live (up t k x) ≡ true → t.live x ≡ true
  unfolding up
  live_below zero x h = h
  live_below (suc k) x h = live_below k x (live-up (up t k x) h)

  -- a child is marked
  pub child-marked : (x : ℕ) → t.live (t.parent x) ≡ true → t.mark (t.parent x) x ≡ true
  child-marked x h = (L.high x (live-up x h) (λ e. clash h (rw e no_slot))).1

  chain-of : (k x y : ℕ) → up t (suc k) x ≡ y → t.live y ≡ true → Chain t y x
  unfolding up
  chain-of zero x y e l = one (rw e at (child-marked x (rw e l)))
  chain-of (suc k) x y e l =
      let m = child-marked (up t (suc k) x) (rw e l) in
      more (rw e at m) (chain-of k x (up t (suc k) x) refl (L.low _ _ m).1)

  of_chain : {y x : ℕ} → Chain t y x → Below t x y
  unfolding up
  of_chain (one m) = record { steps = zero; ends = (L.low _ _ m).2; alive = (L.low _ _ m).0 }
  of_chain (more m c) =
      let b = of_chain c in
      record { steps = suc b.steps; ends = ap t.parent b.ends ∙ (L.low _ _ m).2; alive = (L.low _ _ m).0 }

  pub below_iff_chain : (x y : ℕ) → Below t x y ↔ Chain t y x
  below_iff_chain x y = (λ b. chain-of b.steps x y b.ends b.alive, of_chain)

  -- ---- steps

  pub up_top : (k : ℕ) → up t k no_parent ≡ no_parent
  unfolding up
  up_top zero = refl
  up_top (suc k) = ap t.parent (up_top k) ∙ L.idle no_parent no_slot

  pub stay : (k m x : ℕ) → k ≤ m → up t k x ≡ no_parent → up t m x ≡ no_parent
  stay k m x h e =
      let q : (m - k) + k ≡ m = omega arith in
      cc (q, up-add t (m - k) k x, up_top (m - k))

  -- a live slot goes up to live slots until it goes to no_parent
  pub live-or-top : (k x : ℕ) → t.live x ≡ true → (up t k x ≡ no_parent) ⊎ (t.live (up t k x) ≡ true)
  unfolding up
  live-or-top zero x l = inr l
  live-or-top (suc k) x l = go (live-or-top k x l)
    where
      go : (up t k x ≡ no_parent) ⊎ (t.live (up t k x) ≡ true) → (up t (suc k) x ≡ no_parent) ⊎ (t.live (up t (suc k) x) ≡ true)
      go (inl e) = inl (stay k (suc k) x (omega arith) e)
      go (inr h) = elim (ℕ_discrete (up t (suc k) x) no_parent) [ yes e ↦ inl e | no ne ↦ inr (L.high (up t k x) h ne).0 ]

  -- ---- no way out of a ring

  pub ring_stays : (m d x : ℕ) → t.live x ≡ true → up t (suc d) x ≡ x → up t m x ≢ no_parent
  unfolding up
  ring_stays zero d x l r e = clash l (rw e no_slot)
  ring_stays (suc m) d x l r e =
      ring_stays m d (t.parent x) (live_below d (t.parent x) (rw (up_in t d x ∙ r) l)) (up_in t (suc d) x ∙ ap t.parent r) (up_in t m x ∙ e)

  -- steps from x lead to a slot that is in no ring but once
  pub once : (m i j x p : ℕ) → i < j → t.live p ≡ true → up t i x ≡ p → up t j x ≡ p → up t m p ≢ no_parent
  once m i j x p h a e f =
      let q : suc (j - suc i) + i ≡ j = omega arith in
      ring_stays m (j - suc i) p a (cc (up-add t (suc (j - suc i)) i x))

  -- a live slot from which n steps do not lead to no_parent goes up into a ring
  record Ring (x : ℕ) : Type 0 where
    at : ℕ
    gap : ℕ
    alive : t.live (up t at x) ≡ true
    turn : up t (suc gap) (up t at x) ≡ up t at x

  ring : (x : ℕ) → t.live x ≡ true → up t n x ≢ no_parent → Ring x
  ring x l ne =
      let w : Twice (λ k. up t k x) n = pigeon n (λ k. up t k x) (λ i h. L.small (up t i x) (alive i h)) in
      record {
        at = w.lo;
        gap = w.gap;
        alive = alive w.lo (omega arith);
        turn = cc (up-add t (suc w.gap) w.lo x, add_comm w.lo (suc w.gap), w.same);
      }
    where
      alive : (i : ℕ) → i ≤ n → t.live (up t i x) ≡ true
      alive i h = elim (live-or-top i x l) [ inl e ↦ absurd (ne (stay i n x h e)) | inr a ↦ a ]

  -- so n steps are as good as any number
  pub reach : (m x : ℕ) → t.live x ≡ true → up t m x ≡ no_parent → up t n x ≡ no_parent
  reach m x l e = elim (ℕ_discrete (up t n x) no_parent) [
    | yes q ↦ q
    | no ne ↦
        let r = ring x l ne in
        absurd (ring_stays m r.gap (up t r.at x) r.alive r.turn
        (cc (up-add t m r.at x, add_comm m r.at, up-add t r.at m x, up_top r.at)))
  ]

  pub rooted_iff_ringless : Rooted n t ↔ Ringless t
  rooted_iff_ringless = (
    λ r x k l e. ring_stays n k x l e (r x l),
    λ c x l. elim (ℕ_discrete (up t n x) no_parent) [ yes q ↦ q | no ne ↦ let r = ring x l ne in absurd (c (up t r.at x) r.gap r.alive r.turn) ],
  )

  near_of : (k x : ℕ) → k ≤ n → t.live x ≡ true → up t k x ≡ no_parent → Near n t x
  unfolding up
  near_of zero x h l e = clash l (rw e no_slot)
  near_of (suc k) x h l e = go (live-or-top k x l) (near_of k x (omega arith) l)
    where
      go : (up t k x ≡ no_parent) ⊎ (t.live (up t k x) ≡ true) → (up t k x ≡ no_parent → Near n t x) → Near n t x
      go (inl q) f = f q
      go (inr a) f = record { steps = k; few = h; alive = a; root = e }

  pub near_iff : (x : ℕ) → t.live x ≡ true → Near n t x ↔ (up t n x ≡ no_parent)
  unfolding up
  near_iff x l = (λ a. stay (suc a.steps) n x a.few a.root, near_of n x (omega arith) l)

  -- ---- how many slots mark a slot: never two, and none just for a slot with no parent

  pub in_degree : (i : ℕ) → count (λ p. t.mark p i) n ≤ 1
  in_degree i = count-le-one (λ p. t.mark p i) n (λ p q a b. sym (L.low p i a).2 ∙ (L.low q i b).2)

  pub in_degree_zero : (i : ℕ) → t.live i ≡ true → (count (λ p. t.mark p i) n ≡ 0) ↔ (t.parent i ≡ no_parent)
  in_degree_zero i l = (
    λ z. elim (ℕ_discrete (t.parent i) no_parent) [
      | yes e ↦ e
      | no ne ↦ let h = L.high i l ne in clash h.1 (count_none (λ p. t.mark p i) n (t.parent i) z (L.small (t.parent i) h.0))
    ],
    λ e. elim (ℕ_discrete (count (λ p. t.mark p i) n) 0) [
      | yes z ↦ z
      | no nz ↦
          let r = count-some (λ p. t.mark p i) n (omega arith) in
          let k = L.low r.0 i r.2 in
          clash k.0 (rw (sym k.2 ∙ e) no_slot)
    ],
  )
