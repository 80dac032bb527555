-- The walk down over a table that is linked and rooted ends well, and finds just what is below. Assumes nothing.
use mathlib.Core.Path.{◌≡◌, refl, sym, ap, ◌∙◌}
use mathlib.Core.Logic.{◌⊎◌, inl, inr, ◌≢◌, ◌↔◌}
use mathlib.Core.Bool.{Bool, true, false}
use Prim.Native.Nat.{ℕ, zero, suc, ◌<◌}
use native.Mathlib.Decide.{ℕ_discrete}
use native.Mathlib.Omega.{arith}
use Rattle.children.specs.Marks.{marked, joined}
use Rattle.children.proofs.Cases.{two, clash}
use Rattle.forest.specs.Links.{Table, Linked, Reads, up, Below, Chain, one, more, Rooted}
use Rattle.forest.specs.Walk.{Answer, loops, bad, ok, both, over, walk_down, rust_down}
use Rattle.forest.proofs.Words.{join_l, join_r, join_cases}
use Rattle.forest.proofs.Links.{no_slot, below_iff_chain}
use Rattle.forest.proofs.Fuel.{bad-ok, loops-ok}
use Rattle.forest.proofs.Enough.{path_same, rust_same}

both_refused : (a b : Answer) → ((w : ℕ) → a ≢ ok w) → both a b ≡ a
both_refused loops b r = refl
both_refused bad b r = refl
both_refused (ok x) b r = absurd (r x refl)

-- ---- what the answers for the members of m come to

module _ (rec : ℕ → Answer) (m : ℕ) where
  -- the answer for i is a part of w
  record Part (w i : ℕ) : Type 0 where
    set : ℕ
    is : rec i ≡ ok set
    sub : (x : ℕ) → marked set x ≡ true → marked w x ≡ true

  -- x was found by way of a member
  record Via (x : ℕ) : Type 0 where
    kid : ℕ
    set : ℕ
    member : marked m kid ≡ true
    is : rec kid ≡ ok set
    holds : marked set x ≡ true

  record Fine (c w : ℕ) : Type 0 where
    is : over rec m c ≡ ok w
    own : (x : ℕ) → marked m x ≡ true → marked w x ≡ true
    kids : (i : ℕ) → i < c → marked m i ≡ true → Part w i
    only : (x : ℕ) → marked w x ≡ true → (marked m x ≡ true) ⊎ Via x

  record Fails (c : ℕ) : Type 0 where
    kid : ℕ
    member : marked m kid ≡ true
    is : over rec m c ≡ rec kid
    refused : (w : ℕ) → rec kid ≢ ok w

  abbrev View : ℕ → Type 0
  View c = ((w : ℕ) × Fine c w) ⊎ Fails c

  skip : (c : ℕ) → marked m c ≡ false → View c → View (suc c)
  unfolding over
  skip c e (inl v) = inl (
    v.0,
    record {
      is = rw e v.1.is;
      own = v.1.own;
      kids = λ i h q. elim (ℕ_discrete i c) [ yes p ↦ clash (rw p at q) e | no np ↦ v.1.kids i (omega arith) q ];
      only = v.1.only;
    },
  )
  skip c e (inr v) = inr (record { kid = v.kid; member = v.member; is = rw e v.is; refused = v.refused })

  take : (c : ℕ) → marked m c ≡ true → View c → (a : Answer) → rec c ≡ a → View (suc c)
  unfolding over
  take c e (inr v) a q = inr (record {
    kid = v.kid;
    member = v.member;
    is = rw e (rw v.is (both_refused (rec v.kid) (rec c) v.refused));
    refused = v.refused;
  })
  take c e (inl v) loops q = inr (record { kid = c; member = e; is = rw e (rw (v.1.is, q)); refused = λ w p. loops-ok q p })
  take c e (inl v) bad q = inr (record { kid = c; member = e; is = rw e (rw (v.1.is, q)); refused = λ w p. bad-ok q p })
  take c e (inl v) (ok y) q = inl (
    joined v.0 y,
    record {
      is = rw e (rw (v.1.is, q));
      own = λ x p. join_l v.0 y x (v.1.own x p);
      kids = λ i h p. elim (ℕ_discrete i c) [
        | yes t ↦ record { set = y; is = rw t q; sub = λ x k. join_r v.0 y x k }
        | no nt ↦
            let k = v.1.kids i (omega arith) p in
            record { set = k.set; is = k.is; sub = λ x l. join_l v.0 y x (k.sub x l) }
      ];
      only = λ x p. elim (join_cases v.0 y x p) [
        | inl l ↦ v.1.only x l
        | inr r ↦ inr (record { kid = c; set = y; member = e; is = q; holds = r })
      ];
    },
  )

  view : (c : ℕ) → View c
  unfolding over
  view zero = inl (m, record { is = refl; own = λ x p. p; kids = λ i h q. absurd (omega arith); only = λ x p. inl p })
  view (suc c) = go (view c) (two (marked m c))
    where
      go : View c → (marked m c ≡ true) ⊎ (marked m c ≡ false) → View (suc c)
      go v (inl e) = take c e v (rec c) refl
      go v (inr e) = skip c e v

-- ---- the walk over a table that is linked

module _ (n : ℕ) (t : Table) (L : Linked n t) (live retired : ℕ → Bool) (parent kids : ℕ → ℕ) (R : Reads n t live retired parent kids) where
  walk : ℕ → ℕ → Answer
  walk = rust_down n t.live kids

  -- the marks of a live slot are those of the table
  fits : (p c : ℕ) → t.live p ≡ true → marked (kids p) c ≡ t.mark p c
  fits p c l = R.kids_is p c (L.small p l)

  child : (p c : ℕ) → t.live p ≡ true → marked (kids p) c ≡ true → t.mark p c ≡ true
  child p c l h = sym (fits p c l) ∙ h

  -- it ends well, or it went f steps down
  data Walked (f s : ℕ) : Type 0 where
    well : (w : ℕ) → walk f s ≡ ok w → Walked f s
    deep : (x : ℕ) → t.live x ≡ true → up t f x ≡ s → walk f s ≡ loops → Walked f s

  opens : (f s : ℕ) → t.live s ≡ true → walk (suc f) s ≡ over (walk f) (kids s) n
  unfolding walk rust_down
  opens f s l = rw l

  walked : (f s : ℕ) → t.live s ≡ true → Walked f s
  unfolding walk rust_down up
  walked zero s l = deep s l refl refl
  walked (suc f) s l = go (view (walk f) (kids s) n) (λ i. walked f i)
    where
      go : ((w : ℕ) × Fine (walk f) (kids s) n w) ⊎ Fails (walk f) (kids s) n → ((i : ℕ) → t.live i ≡ true → Walked f i) → Walked (suc f) s
      go (inl v) ih = well v.0 (opens f s l ∙ v.1.is)
      go (inr v) ih =
          let k = L.low s v.kid (child s v.kid l v.member) in
          elim (ih v.kid k.1) [
            | well w e ↦ absurd (v.refused w e)
            | deep x a e o ↦ deep x a (ap t.parent e ∙ k.2) (opens f s l ∙ v.is ∙ o)
          ]

  opened : (f s w : ℕ) → t.live s ≡ true → walk (suc f) s ≡ ok w → Fine (walk f) (kids s) n w
  opened f s w l e =
      let at = opens f s l in
      elim (view (walk f) (kids s) n) [
        | inr v ↦ absurd (v.refused w (sym v.is ∙ sym at ∙ e))
        | inl v ↦ let i = v.1.is in let q : v.0 ≡ w = cc in rw q at v.1
      ]

  sound : (f s w x : ℕ) → t.live s ≡ true → walk f s ≡ ok w → marked w x ≡ true → Chain t s x
  unfolding walk rust_down
  sound zero s w x l e h = absurd (loops-ok refl e)
  sound (suc f) s w x l e h = go ((opened f s w l e).only x h) (sound f)
    where
      go : (marked (kids s) x ≡ true) ⊎ Via (walk f) (kids s) x
          → ((s w x : ℕ) → t.live s ≡ true → walk f s ≡ ok w → marked w x ≡ true → Chain t s x) → Chain t s x
      go (inl q) ih = one (child s x l q)
      go (inr v) ih = let q = child s v.kid l v.member in more q (ih v.kid v.set x (L.low s v.kid q).1 v.is v.holds)

  full : {s x : ℕ} → Chain t s x → (f w : ℕ) → walk f s ≡ ok w → marked w x ≡ true
  unfolding walk rust_down
  full c zero w e = absurd (loops-ok refl e)
  full (one {y = s} {x} q) (suc f) w e = let l = (L.low s x q).0 in (opened f s w l e).own x (fits s x l ∙ q)
  full (more {y = s} {z} {x} q c) (suc f) w e =
      let l = L.low s z q in
      let k = (opened f s w l.0 e).kids z (L.small z l.1) (fits s z l.0 ∙ q) in
      k.sub x (full c f k.set k.is)

  -- where the table is rooted too, the walk finds just the slots below s
  pub descends : Rooted n t → (s : ℕ) → t.live s ≡ true → (w : ℕ) × (walk_down n live kids n 0 s ≡ ok w) × ((x : ℕ) → (marked w x ≡ true) ↔ Below t x s)
  unfolding walk
  descends r s l =
      let told : walk_down n live kids n 0 s ≡ rust_down n t.live kids n s =
      path_same n live kids n s ∙ rust_same n live t.live kids kids R.live_is (λ i h. refl) n s (L.small s l) in
      elim (walked n s l) [
        | well w e ↦ (w, told ∙ e, λ x. (λ h. (below_iff_chain n t L x s).1 (sound n s w x l e h), λ b. full ((below_iff_chain n t L x s).0 b) n w e))
        | deep x a e o ↦ clash l (rw (sym e ∙ r x a) (no_slot n t L))
      ]
