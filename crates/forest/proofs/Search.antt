-- The validator's search from the roots says `mixed` where a slot has another type than its root, and else has seen just the slots below roots.
-- Assumes nothing.
use mathlib.Core.Path.{◌≡◌, refl, sym, ap, ◌∙◌}
use mathlib.Core.Logic.{◌⊎◌, inl, inr, ◌≢◌, ◌↔◌}
use mathlib.Core.Bool.{Bool, true, false, cond}
use Prim.Native.Nat.{ℕ, zero, suc, ◌<◌}
use native.Mathlib.Decide.{ℕ_discrete}
use native.Mathlib.Omega.{arith}
use lib.Dec.{eqb}
use Rattle.children.specs.Marks.{marked, with}
use Rattle.children.proofs.Cases.{two, clash, order, and-true, eqb-true, true-eqb}
use Rattle.children.proofs.Marks.{marked_none, marked-with_own}
use Rattle.context.specs.Context.{no_parent}
use Rattle.forest.specs.Links.{Table, Linked, up, Rooted}
use Rattle.forest.specs.Search.{Verdict, cycles, mixed, fine, and_then, each, visit, is_root, search_roots, In}
use Rattle.forest.proofs.Words.{put_keep, put_cases}
use Rattle.forest.proofs.Links.{no_slot, up_in, once, reach, stay, child-marked, live_below, ring_stays, near_iff}

-- what a visit comes to: the slots of R are new in what was seen, and P holds; or Q, and the types are mixed; or X, and the depth was too small
data Done (z : ℕ) (v : Verdict) (R : ℕ → Type 0) (P Q X : Type 0) : Type 0 where
  good : (z' : ℕ) → v ≡ fine z' → ((x : ℕ) → (marked z' x ≡ true) ↔ ((marked z x ≡ true) ⊎ R x)) → P → Done z v R P Q X
  odd : v ≡ mixed → Q → Done z v R P Q X
  deep : X → Done z v R P Q X

-- some member of m below c has x in its part
abbrev Some : (ℕ → Bool) → (ℕ → ℕ → Type 0) → ℕ → ℕ → Type 0
Some m In c x = (i : ℕ) × (i < c) × (m i ≡ true) × In x i

abbrev Every : (ℕ → Bool) → (ℕ → Type 0) → ℕ → Type 0
Every m P c = (i : ℕ) → i < c → m i ≡ true → P i

abbrev One : (ℕ → Bool) → (ℕ → Type 0) → Type 0
One m Q = (i : ℕ) × (m i ≡ true) × Q i

module _ (rec : ℕ → ℕ → Verdict) (m : ℕ → Bool) (In : ℕ → ℕ → Type 0) (P Q X : ℕ → Type 0)
    (apart : (i j x : ℕ) → i < j → m i ≡ true → m j ≡ true → In x i → In x j → ⊥)
    (each-one : (z i : ℕ) → m i ≡ true → ((x : ℕ) → In x i → marked z x ≡ false) → Done z (rec z i) (λ x. In x i) (P i) (Q i) (X i))
    (z : ℕ) (fresh : (i x : ℕ) → m i ≡ true → In x i → marked z x ≡ false) where
  -- one member more
  last : (c z' : ℕ) → each rec m z c ≡ fine z' → ((x : ℕ) → (marked z' x ≡ true) ↔ ((marked z x ≡ true) ⊎ Some m In c x)) → Every m P c
      → m c ≡ true → Done z' (rec z' c) (λ x. In x c) (P c) (Q c) (X c)
      → Done z (each rec m z (suc c)) (Some m In (suc c)) (Every m P (suc c)) (One m Q) (One m X)
  unfolding each
  last c z' e w p h (good z'' f v q) = good z'' (rw e (rw h f))
      (λ x. (
        λ k. elim ((v x).0 k) [
          | inl a ↦ elim ((w x).0 a) [ inl b ↦ inl b | inr b ↦ inr (b.0, omega arith, b.2, b.3) ]
          | inr a ↦ inr (c, omega arith, h, a)
        ],
        λ d. elim d [
          | inl a ↦ (v x).1 (inl ((w x).1 (inl a)))
          | inr b ↦ elim (ℕ_discrete b.0 c) [
            | yes o ↦ (v x).1 (inr (rw o at b.3))
            | no no' ↦ (v x).1 (inl ((w x).1 (inr (b.0, omega arith, b.2, b.3))))
          ]
        ],
      ))
      (λ i l k. elim (ℕ_discrete i c) [ yes o ↦ rw o q | no no' ↦ p i (omega arith) k ])
  last c z' e w p h (odd f q) = odd (rw e (rw h f)) (c, h, q)
  last c z' e w p h (deep x) = deep (c, h, x)

  all_done : (c : ℕ) → Done z (each rec m z c) (Some m In c) (Every m P c) (One m Q) (One m X)
  unfolding each
  all_done zero = good z refl (λ x. (λ h. inl h, λ d. elim d [ inl h ↦ h | inr r ↦ absurd (let k = r.1 in omega arith) ])) (λ i h e. absurd (omega arith))
  all_done (suc c) = go (all_done c)
    where
      go : Done z (each rec m z c) (Some m In c) (Every m P c) (One m Q) (One m X)
          → Done z (each rec m z (suc c)) (Some m In (suc c)) (Every m P (suc c)) (One m Q) (One m X)
      go (odd e q) = odd (rw e) q
      go (deep x) = deep x
      go (good z' e w p) = elim (two (m c)) [
        | inl h ↦ last c z' e w p h (each-one z' c h (λ x k. elim (two (marked z' x)) [
          | inr a ↦ a
          | inl a ↦ elim ((w x).0 a) [ inl b ↦ clash b (fresh c x h k) | inr b ↦ absurd (apart b.0 c x b.1 b.2 h b.3 k) ]
        ]))
        | inr h ↦ good z' (rw e (rw h))
            (λ x. (
              λ k. elim ((w x).0 k) [ inl b ↦ inl b | inr b ↦ inr (b.0, omega arith, b.2, b.3) ],
              λ d. elim d [
                | inl a ↦ (w x).1 (inl a)
                | inr b ↦ elim (ℕ_discrete b.0 c) [ yes o ↦ clash (rw o at b.2) h | no no' ↦ (w x).1 (inr (b.0, omega arith, b.2, b.3)) ]
              ],
            ))
            (λ i l k. elim (ℕ_discrete i c) [ yes o ↦ clash (rw o at k) h | no no' ↦ p i (omega arith) k ])
      ]

abbrev Alike : Table → (ℕ → ℕ) → ℕ → ℕ → Type 0
Alike t kind k s = (x : ℕ) → In t x s → kind x ≡ k

abbrev Unlike : Table → (ℕ → ℕ) → ℕ → ℕ → Type 0
Unlike t kind k s = (x : ℕ) × (kind x ≢ k) × In t x s

abbrev TooDeep : Table → ℕ → ℕ → Type 0
TooDeep t f s = (x : ℕ) × (t.live x ≡ true) × (up t f x ≡ s)

-- the types of the slots below a root are the root's; the types along a link are equal
abbrev pub RootAlike : Table → (ℕ → ℕ) → Type 0
RootAlike t kind = (i x : ℕ) → is_root t i ≡ true → In t x i → kind x ≡ kind i

abbrev pub LinkAlike : Table → (ℕ → ℕ) → Type 0
LinkAlike t kind = (p c : ℕ) → t.mark p c ≡ true → kind c ≡ kind p

-- what the search comes to: it has seen just the slots below roots, or a slot differs in type from its root
pub data Searched (n : ℕ) (t : Table) (kind : ℕ → ℕ) : Type 0 where
  whole : (z : ℕ) → search_roots n t kind ≡ fine z → ((x : ℕ) → t.live x ≡ true → (marked z x ≡ true) ↔ (up t n x ≡ no_parent))
      → RootAlike t kind → Searched n t kind
  differs : search_roots n t kind ≡ mixed → (i x : ℕ) → is_root t i ≡ true → In t x i → kind x ≢ kind i → Searched n t kind

pub root_is : (t : Table) (i : ℕ) → is_root t i ≡ true → (t.live i ≡ true) × (t.parent i ≡ no_parent)
root_is t i e = let a = and-true (t.live i) _ e in (a.0, eqb-true (t.parent i) no_parent a.1)

module _ (n : ℕ) (t : Table) (L : Linked n t) (kind : ℕ → ℕ) where
  -- the subtrees of two children of a slot that is in no ring have no slot in common
  kids-apart : (s : ℕ) → t.live s ≡ true → up t n s ≡ no_parent → (i j x : ℕ) → i < j → t.mark s i ≡ true → t.mark s j ≡ true → In t x i → In t x j → ⊥
  unfolding up
  kids-apart s l r i j x h mi mj a b =
      let e : up t (suc a.0) x ≡ s = ap t.parent a.1 ∙ (L.low s i mi).2 in
      let f : up t (suc b.0) x ≡ s = ap t.parent b.1 ∙ (L.low s j mj).2 in
      elim (order a.0 b.0) [
        | inl o ↦ once n t L n (suc a.0) (suc b.0) x s (omega arith) l e f r
        | inr o ↦ elim o [
          | inl q ↦ let z : i ≡ j = sym a.1 ∙ ap (λ k. up t k x) q ∙ b.1 in omega arith
          | inr g ↦ once n t L n (suc b.0) (suc a.0) x s (omega arith) l f e r
        ]
      ]

  abbrev Visited : ℕ → ℕ → ℕ → ℕ → Type 0
  Visited k f z s = Done z (visit n t kind k f z s) (λ x. In t x s) (Alike t kind k s) (Unlike t kind k s) (TooDeep t f s)

  -- from the children of s to s
  gather : (k f z s : ℕ) → t.live s ≡ true → kind s ≡ k
      → Done (with z s) (each (visit n t kind k f) (t.mark s) (with z s) n) (Some (t.mark s) (In t) n) (Every (t.mark s) (Alike t kind k) n)
      (One (t.mark s) (Unlike t kind k)) (One (t.mark s) (TooDeep t f))
      → Done z (each (visit n t kind k f) (t.mark s) (with z s) n) (λ x. In t x s) (Alike t kind k s) (Unlike t kind k s) (TooDeep t (suc f) s)
  unfolding up
  gather k f z s l e (good z' q w p) = good z' q
      (λ x. (λ h. new x ((w x).0 h), λ d. elim d [ inl h ↦ (w x).1 (inl (put_keep z s x h)) | inr d ↦ (w x).1 (old x d.0 d.1) ]))
      (λ x d. alike x d.0 d.1)
    where
      new : (x : ℕ) → (marked (with z s) x ≡ true) ⊎ Some (t.mark s) (In t) n x → (marked z x ≡ true) ⊎ In t x s
      new x (inl h) = elim (put_cases z s x h) [ inl a ↦ inl a | inr a ↦ inr (zero, a) ]
      new x (inr b) = inr (suc b.3.0, ap t.parent b.3.1 ∙ (L.low s b.0 b.2).2)

      old : (x a : ℕ) → up t a x ≡ s → (marked (with z s) x ≡ true) ⊎ Some (t.mark s) (In t) n x
      old x zero h = inl (rw h (marked-with_own z s))
      old x (suc a) h =
          let m : t.mark s (up t a x) ≡ true = rw h at (child-marked n t L (up t a x) (rw h l)) in
          inr (up t a x, L.small (up t a x) (L.low s (up t a x) m).1, m, (a, refl))

      alike : (x a : ℕ) → up t a x ≡ s → kind x ≡ k
      alike x zero h = rw h e
      alike x (suc a) h =
          let m : t.mark s (up t a x) ≡ true = rw h at (child-marked n t L (up t a x) (rw h l)) in
          p (up t a x) (L.small (up t a x) (L.low s (up t a x) m).1) m x (a, refl)
  gather k f z s l e (odd q u) = odd q (u.2.0, u.2.1, (suc u.2.2.0, ap t.parent u.2.2.1 ∙ (L.low s u.0 u.1).2))
  gather k f z s l e (deep u) = deep (u.2.0, u.2.1, ap t.parent u.2.2 ∙ (L.low s u.0 u.1).2)

  kid-top : (s i : ℕ) → up t n s ≡ no_parent → t.mark s i ≡ true → up t n i ≡ no_parent
  kid-top s i r m = reach n t L (suc n) i (L.low s i m).1 (sym (up_in t n i) ∙ rw (L.low s i m).2 r)

  kid_new : (z s : ℕ) → t.live s ≡ true → up t n s ≡ no_parent → ((x : ℕ) → In t x s → marked z x ≡ false)
      → (i x : ℕ) → t.mark s i ≡ true → In t x i → marked (with z s) x ≡ false
  unfolding up
  kid_new z s l r new i x m d =
      let e : up t (suc d.0) x ≡ s = ap t.parent d.1 ∙ (L.low s i m).2 in
      elim (two (marked (with z s) x)) [
        | inr a ↦ a
        | inl a ↦ elim (put_cases z s x a) [
          | inl b ↦ clash b (new x (suc d.0, e))
          | inr q ↦ absurd (ring_stays n t L n d.0 s l (rw q at e) r)
        ]
      ]

  visited : (k f z s : ℕ) → t.live s ≡ true → up t n s ≡ no_parent → ((x : ℕ) → In t x s → marked z x ≡ false) → Visited k f z s
  unfolding visit up
  visited k zero z s l r new = deep (s, l, refl)
  visited k (suc f) z s l r new = elim (two (eqb (kind s) k)) [
    | inr e ↦ odd (rw (new s (zero, refl), l, e)) (s, (λ q. clash (true-eqb (kind s) k q) e), (zero, refl))
    | inl e ↦ rw (new s (zero, refl), l, e) (gather k f z s l (eqb-true (kind s) k e)
        (all_done (visit n t kind k f) (t.mark s) (In t) (Alike t kind k) (Unlike t kind k) (TooDeep t f) (kids-apart s l r)
        (λ z' i m new'. visited k f z' i (L.low s i m).1 (kid-top s i r m) new') (with z s) (kid_new z s l r new) n))
  ]

  -- ---- from every root

  root-top : (i : ℕ) → is_root t i ≡ true → up t n i ≡ no_parent
  unfolding up
  root-top i e = reach n t L 1 i (root_is t i e).0 (root_is t i e).1

  -- one slot lies below one root
  above_root : (i j x a b : ℕ) → is_root t i ≡ true → is_root t j ≡ true → up t a x ≡ i → up t b x ≡ j → a < b → ⊥
  unfolding up
  above_root i j x a b ri rj e f h =
      let q = stay n t L (suc a) b x h (ap t.parent e ∙ (root_is t i ri).1) in
      clash (root_is t j rj).0 (rw (sym f ∙ q) (no_slot n t L))

  roots-apart : (i j x : ℕ) → i < j → is_root t i ≡ true → is_root t j ≡ true → In t x i → In t x j → ⊥
  roots-apart i j x h ri rj a b = elim (order a.0 b.0) [
    | inl o ↦ above_root i j x a.0 b.0 ri rj a.1 b.1 o
    | inr o ↦ elim o [
      | inl q ↦ let z : i ≡ j = sym a.1 ∙ ap (λ k. up t k x) q ∙ b.1 in omega arith
      | inr g ↦ above_root j i x b.0 a.0 rj ri b.1 a.1 g
    ]
  ]

  pub searched : Searched n t kind
  unfolding search_roots up
  searched = go (all_done (λ z i. visit n t kind (kind i) n z i) (is_root t) (In t) (λ i. Alike t kind (kind i) i) (λ i. Unlike t kind (kind i) i) (TooDeep t n)
      roots-apart (λ z i m new. visited (kind i) n z i (root_is t i m).0 (root-top i m) new) 0 (λ i x m d. marked_none x) n)
    where
      seen : (z : ℕ) → ((x : ℕ) → (marked z x ≡ true) ↔ ((marked 0 x ≡ true) ⊎ Some (is_root t) (In t) n x))
          → (x : ℕ) → t.live x ≡ true → (marked z x ≡ true) ↔ (up t n x ≡ no_parent)
      seen z w x l = (
        λ h. elim ((w x).0 h) [
          | inl a ↦ clash a (marked_none x)
          | inr b ↦ reach n t L (suc b.3.0) x l (ap t.parent b.3.1 ∙ (root_is t b.0 b.2).1)
        ],
        λ e. let a = (near_iff n t L x l).1 e in
            let r = up t a.steps x in
            (w x).1 (inr (r, L.small r a.alive, rw a.alive (true-eqb (t.parent r) no_parent a.root), (a.steps, refl))),
      )

      go : Done 0 (search_roots n t kind) (Some (is_root t) (In t) n) (Every (is_root t) (λ i. Alike t kind (kind i) i) n)
          (One (is_root t) (λ i. Unlike t kind (kind i) i)) (One (is_root t) (TooDeep t n)) → Searched n t kind
      go (good z e w p) = whole z e (seen z w) (λ i x m d. p i (L.small i (root_is t i m).0) m x d)
      go (odd e u) = differs e u.0 u.2.0 u.1 u.2.2 u.2.1
      go (deep u) =
          let r = root_is t u.0 u.1 in
          clash r.0 (rw (sym u.2.2 ∙ reach n t L (suc n) u.2.0 u.2.1 (ap t.parent u.2.2 ∙ r.1)) (no_slot n t L))

  pub link-of-root : Rooted n t → RootAlike t kind → LinkAlike t kind
  link-of-root r f p c m =
      let k = L.low p c m in
      let a = (near_iff n t L p k.0).1 (r p k.0) in
      let i : is_root t (up t a.steps p) ≡ true = rw a.alive (true-eqb (t.parent (up t a.steps p)) no_parent a.root) in
      f (up t a.steps p) c i (suc a.steps, sym (up_in t a.steps c) ∙ ap (up t a.steps) k.2) ∙ sym (f (up t a.steps p) p i (a.steps, refl))

  pub root-of-link : LinkAlike t kind → (a i x : ℕ) → t.live i ≡ true → up t a x ≡ i → kind x ≡ kind i
  unfolding up
  root-of-link f zero i x l e = ap kind e
  root-of-link f (suc a) i x l e =
      let q = up_in t a x ∙ e in
      f (t.parent x) x (child-marked n t L x (live_below n t L a (t.parent x) (rw q l))) ∙ root-of-link f a i (t.parent x) l q

-- ---- searches that are told the same of every slot below n answer the same

each_same : (rec rec' : ℕ → ℕ → Verdict) (m m' : ℕ → Bool) (z c : ℕ) → ((i : ℕ) → i < c → m i ≡ m' i)
    → ((z i : ℕ) → i < c → m i ≡ true → rec z i ≡ rec' z i) → each rec m z c ≡ each rec' m' z c
unfolding each
each_same rec rec' m m' z zero p q = refl
each_same rec rec' m m' z (suc c) p q =
    rw (each_same rec rec' m m' z c (λ i h. p i (omega arith)) (λ z i h. q z i (omega arith))) (onward (each rec' m' z c))
  where
    onward : (v : Verdict) → and_then v (λ z'. cond (m c) (rec z' c) (fine z')) ≡ and_then v (λ z'. cond (m' c) (rec' z' c) (fine z'))
    onward cycles = refl
    onward mixed = refl
    onward (fine z') = elim (two (m c)) [
      | inl e ↦ rw (e, sym (p c (omega arith)) ∙ e) (q z' c (omega arith) e)
      | inr e ↦ rw (e, sym (p c (omega arith)) ∙ e)
    ]

-- tables and types that agree on the slots below n; the parent is asked of a live slot only
pub record Agree (n : ℕ) (t t' : Table) (kind kind' : ℕ → ℕ) : Type 0 where
  pub live_is : (i : ℕ) → i < n → t.live i ≡ t'.live i
  pub parent_is : (i : ℕ) → i < n → t.live i ≡ true → t.parent i ≡ t'.parent i
  pub mark_is : (p c : ℕ) → p < n → c < n → t.mark p c ≡ t'.mark p c
  pub kind_is : (i : ℕ) → i < n → kind i ≡ kind' i

module _ (n : ℕ) (t t' : Table) (kind kind' : ℕ → ℕ) (A : Agree n t t' kind kind') where
  pub visit_same : (k f z s : ℕ) → s < n → visit n t kind k f z s ≡ visit n t' kind' k f z s
  unfolding visit
  visit_same k zero z s h = refl
  visit_same k (suc f) z s h =
      let e = each_same (visit n t kind k f) (visit n t' kind' k f) (t.mark s) (t'.mark s) (with z s) n (λ i l. A.mark_is s i h l)
      (λ z' i l m. visit_same k f z' i l) in
      rw (e, A.live_is s h, A.kind_is s h)

  pub root_same : (i : ℕ) → i < n → is_root t i ≡ is_root t' i
  root_same i h = elim (two (t.live i)) [
    | inl e ↦ rw (e, sym (A.live_is i h) ∙ e, A.parent_is i h e)
    | inr e ↦ rw (e, sym (A.live_is i h) ∙ e)
  ]

  pub search_same : search_roots n t kind ≡ search_roots n t' kind'
  unfolding search_roots
  search_same = each_same _ _ (is_root t) (is_root t') 0 n root_same (λ z i h m. rw (A.kind_is i h) (visit_same (kind' i) n z i h))
