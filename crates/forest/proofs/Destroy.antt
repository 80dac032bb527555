-- Destroy: what is cleared, and that the table is linked and rooted again. Assumes nothing.
use mathlib.Core.Path.{◌≡◌, refl, sym, ap, ◌∙◌}
use mathlib.Core.Logic.{◌⊎◌, inl, inr, ◌≢◌, ◌↔◌}
use mathlib.Core.Bool.{Bool, true, false}
use Prim.Native.Nat.{ℕ, zero, suc, ◌<◌}
use native.Mathlib.Decide.{ℕ_discrete}
use native.Mathlib.Omega.{arith}
use Rattle.children.specs.Below.{count}
use Rattle.children.specs.Marks.{marked, with}
use Rattle.children.proofs.Cases.{two, clash, order, true-eqb}
use Rattle.children.proofs.Below.{count-more, count-some, count_pos}
use Rattle.children.proofs.Marks.{marked_none, marked-with_own}
use Rattle.forest.specs.Links.{Table, Linked, Reads, up, Below, Rooted}
use Rattle.forest.specs.Run.{single, Run, here}
use Rattle.forest.specs.Destroy.{clear, Doomed, self, under, above, Destroyed, doomed_word, Destruction}
use Rattle.forest.proofs.Words.{join_l, join_r, join_cases, put_keep, put_cases}
use Rattle.forest.proofs.Links.{live_below, up_in, once, child-marked}
use Rattle.forest.proofs.Descend.{descends}
use Rattle.forest.proofs.Ascend.{run-live, run_more, run_up, run_kids, ascends}

-- ---- any set of live slots that holds the children of its members can be cleared

module _ (n : ℕ) (t : Table) (L : Linked n t) (dead : ℕ → Bool)
    (alive : (x : ℕ) → dead x ≡ true → t.live x ≡ true)
    (closed : (p c : ℕ) → t.mark p c ≡ true → dead p ≡ true → dead c ≡ true) where
  abbrev new : Table
  new = clear dead t

  -- what lives on
  kept : (x : ℕ) → new.live x ≡ true → (dead x ≡ false) × (t.live x ≡ true)
  kept x h = elim (two (dead x)) [ inl e ↦ clash h (rw e) | inr e ↦ (e, rw e at h) ]

  -- what stays marked
  left : (p c : ℕ) → new.mark p c ≡ true → (dead p ≡ false) × (dead c ≡ false) × (t.mark p c ≡ true)
  left p c h = elim (two (dead p)) [
    | inl e ↦ clash h (rw e)
    | inr e ↦ elim (two (dead c)) [ inl f ↦ clash h (rw (e, f)) | inr f ↦ (e, f, rw (e, f) at h) ]
  ]

  -- the parent of a slot that is not cleared is not cleared
  apart : (x : ℕ) → dead x ≡ false → dead (t.parent x) ≡ false
  apart x h = elim (two (dead (t.parent x))) [
    | inr e ↦ e
    | inl e ↦ clash (closed (t.parent x) x (child-marked n t L x (alive (t.parent x) e)) e) h
  ]

  clear-linked : Linked n new
  clear-linked = record {
    few = L.few;
    small = λ i h. L.small i (kept i h).1;
    old = λ i h. elim (two (dead i)) [ inl e ↦ clash h (rw e) | inr e ↦ rw e (L.old i (rw e at h)) ];
    idle = λ i h. elim (two (dead i)) [ inl e ↦ rw e | inr e ↦ rw e (L.idle i (rw e at h)) ];
    high = λ i h q. let k = kept i h in rw (k.0, apart i k.0) (L.high i k.1 (rw k.0 at q));
    low = λ p c h. let k = left p c h in rw (k.0, k.1) (L.low p c k.2);
  }

  same_up : (k x : ℕ) → dead x ≡ false → (up new k x ≡ up t k x) × (dead (up t k x) ≡ false)
  unfolding up
  same_up zero x h = (refl, h)
  same_up (suc k) x h = let r = same_up k x h in (rw (r.0, r.1), apart (up t k x) r.1)

  clear-rooted : Rooted n t → Rooted n new
  clear-rooted r x h = (same_up n x (kept x h).0).0 ∙ r x (kept x h).1

-- ---- destroying s

module _ (n : ℕ) (t : Table) (L : Linked n t) (s : ℕ) (l : t.live s ≡ true) where
  pub doomed-live : {x : ℕ} → Doomed n t s x → t.live x ≡ true
  doomed-live self = l
  doomed-live (under {x} b) = live_below n t L (suc b.steps) x (rw b.ends l)
  doomed-live (above r) = run-live n t L r

  pub doomed_closed : {p : ℕ} → Doomed n t s p → (c : ℕ) → t.mark p c ≡ true → Doomed n t s c
  unfolding up
  doomed_closed self c m = under (record { steps = zero; ends = (L.low s c m).2; alive = l })
  doomed_closed (under {x} b) c m =
      under (record { steps = suc b.steps; ends = sym (up_in t (suc b.steps) c) ∙ rw (L.low x c m).2 b.ends; alive = l })
  doomed_closed (above r) c m = elim (run_kids n t L r s c refl m) [ inl e ↦ rw e self | inr q ↦ above q ]

-- ---- the cleared set as a test

module _ (n : ℕ) (t : Table) (L : Linked n t) (r : Rooted n t) (s : ℕ) (l : t.live s ≡ true)
    (dead : ℕ → Bool) (exact : (x : ℕ) → (dead x ≡ true) ↔ Doomed n t s x) where
  alive : (x : ℕ) → dead x ≡ true → t.live x ≡ true
  alive x h = doomed-live n t L s l ((exact x).0 h)

  closed : (p c : ℕ) → t.mark p c ≡ true → dead p ≡ true → dead c ≡ true
  closed p c m h = (exact c).1 (doomed_closed n t L s l ((exact p).0 h) c m)

  stays : {A : Type 0} {p : ℕ} → dead p ≡ false → Doomed n t s p → A
  stays {A} {p} h d = clash ((exact p).1 d) h

  -- a cleared child of a slot that stays is s or of the run, and the slot has other children
  record Spine (p c : ℕ) : Type 0 where
    steps : ℕ
    ends : up t steps s ≡ c
    lone : single n t p ≡ false

  spine : (p c : ℕ) → dead p ≡ false → t.parent c ≡ p → Doomed n t s c → Spine p c
  unfolding up
  spine p c h e self = record { steps = zero; ends = refl; lone = elim (two (single n t p)) [ inr q ↦ q | inl q ↦ stays h (above (rw e (here q))) ] }
  spine p c h e (under b) = go b.steps b.ends
    where
      go : (k : ℕ) → up t (suc k) c ≡ s → Spine p c
      go zero q = stays h (rw (sym e ∙ q) self)
      go (suc k) q = stays h (under (record { steps = k; ends = rw e at (up_in t (suc k) c ∙ q); alive = l }))
  spine p c h e (above q) =
      let u = run_up n t L q in
      record {
        steps = suc u.0;
        ends = sym (up_in t u.0 s) ∙ u.1;
        lone = elim (two (single n t p)) [ inr g ↦ g | inl g ↦ stays h (above (rw e at (run_more n t L q (rw e g)))) ];
      }

  -- a retired slot that stays and had a child keeps one
  keeps : (p : ℕ) → t.retired p ≡ true → dead p ≡ false → 0 < count (t.mark p) n → 0 < count ((clear dead t).mark p) n
  unfolding up
  keeps p o h k = elim (ℕ_discrete (count (t.mark p) n) 1) [
    | no ne ↦
        let m = count-more (t.mark p) n (omega arith) in
        elim (two (dead m.0)) [
          | inr a ↦ still m.0 m.4 a
          | inl a ↦ elim (two (dead m.1)) [
            | inr b ↦ still m.1 m.5 b
            | inl b ↦ absurd (pair m.0 m.1 (omega arith) m.4 m.5 a b)
          ]
        ]
    | yes e ↦
        let m = count-some (t.mark p) n k in
        elim (two (dead m.0)) [
          | inr a ↦ still m.0 m.2 a
          | inl a ↦ clash (rw (o, true-eqb (count (t.mark p) n) 1 e)) (spine p m.0 h (L.low p m.0 m.2).2 ((exact m.0).0 a)).lone
        ]
  ]
    where
      still : (c : ℕ) → t.mark p c ≡ true → dead c ≡ false → 0 < count ((clear dead t).mark p) n
      still c m e = count_pos ((clear dead t).mark p) n c (L.small c (L.low p c m).1) (rw (h, e) m)

      pair : (c d : ℕ) → c ≢ d → t.mark p c ≡ true → t.mark p d ≡ true → dead c ≡ true → dead d ≡ true → ⊥
      pair c d ne mc md a b =
          let u = spine p c h (L.low p c mc).2 ((exact c).0 a) in
          let v = spine p d h (L.low p d md).2 ((exact d).0 b) in
          let i : up t (suc u.steps) s ≡ p = ap t.parent u.ends ∙ (L.low p c mc).2 in
          let j : up t (suc v.steps) s ≡ p = ap t.parent v.ends ∙ (L.low p d md).2 in
          let a : t.live p ≡ true = (L.low p c mc).0 in
          elim (order u.steps v.steps) [
            | inl o ↦ once n t L n (suc u.steps) (suc v.steps) s p (omega arith) a i j (r p a)
            | inr o ↦ elim o [
              | inl e ↦ ne (sym u.ends ∙ ap (λ k. up t k s) e ∙ v.ends)
              | inr g ↦ once n t L n (suc v.steps) (suc u.steps) s p (omega arith) a j i (r p a)
            ]
          ]

  pub destroyed : Destroyed n t s dead
  destroyed = record {
    linked = clear-linked n t L dead alive closed;
    rooted = clear-rooted n t L dead alive closed r;
    gone = λ x d. let e = (exact x).1 d in (rw e, rw e, λ c. rw e);
    stay = λ x e. (rw e, rw e, rw e);
    loses = λ x c e. rw e (elim (two (dead c)) [ inl f ↦ rw f | inr f ↦ rw f ]);
    dangling = keeps;
  }

-- ---- the two walks, the set that is cleared, and the table afterwards

module _ (n : ℕ) (t : Table) (L : Linked n t) (r : Rooted n t) (s : ℕ) (l : t.live s ≡ true) where
  doomed_set : (d u : ℕ) → ((x : ℕ) → (marked d x ≡ true) ↔ Below t x s)
      → ((x : ℕ) → (marked u x ≡ true) ↔ ((marked 0 x ≡ true) ⊎ Run n t (t.parent s) x))
      → (x : ℕ) → (marked (doomed_word d s u) x ≡ true) ↔ Doomed n t s x
  doomed_set d u hd hu x = (
    λ h. elim (join_cases (with d s) u x h) [
      | inl a ↦ elim (put_cases d s x a) [ inl b ↦ under ((hd x).0 b) | inr b ↦ rw b self ]
      | inr a ↦ elim ((hu x).0 a) [ inl b ↦ clash b (marked_none x) | inr b ↦ above b ]
    ],
    put_in x,
  )
    where
      put_in : (x : ℕ) → Doomed n t s x → marked (doomed_word d s u) x ≡ true
      put_in x self = join_l (with d s) u s (marked-with_own d s)
      put_in x (under b) = join_l (with d s) u x (put_keep d s x ((hd x).1 b))
      put_in x (above b) = join_r (with d s) u x ((hu x).1 (inr b))

  pub destruction : (live retired : ℕ → Bool) (parent kids : ℕ → ℕ) → Reads n t live retired parent kids → Destruction n t live retired parent kids s
  destruction live retired parent kids R =
      let d = descends n t L live retired parent kids R r s l in
      let u = ascends n t L live retired parent kids R r s l 0 in
      let e = doomed_set d.0 u.0 d.2 u.2 in
      record {
        down = d.0;
        down_is = d.1;
        run_set = u.0;
        run_is = u.1;
        exact = e;
        after = destroyed n t L r s l (marked (doomed_word d.0 s u.0)) e;
      }
