-- What the code keeps, and the links that it stands for: the tests of each slot are `Linked`, functions of the slot have guarded links, and what a
-- destroy leaves of them is the cleared table. Assumes nothing.
use mathlib.Core.Path.{◌≡◌, refl, sym, ◌∙◌}
use mathlib.Core.Logic.{◌⊎◌, inl, inr, ◌↔◌}
use mathlib.Core.Bool.{Bool, true, false, cond, not, ◌&&◌}
use Prim.Native.Nat.{ℕ, ◌^◌, ◌≤◌, ◌<◌}
use native.Mathlib.Decide.{ℕ_discrete, dec_lt}
use native.Mathlib.Omega.{arith}
use lib.Dec.{ltb}
use borrow.Author.Tests.{lt-ltb, le-ltb}
use Rattle.children.specs.Below.{count}
use Rattle.children.specs.Marks.{mark_count, marked}
use Rattle.children.proofs.Cases.{two, clash, and-true, ltb-true, ltb-false}
use Rattle.children.proofs.Marks.{marked-high}
use Rattle.context.specs.Context.{no_parent}
use Rattle.forest.specs.Links.{Table, links_in, Linked, Reads, Rooted}
use Rattle.forest.specs.Destroy.{clear, Doomed}
use Rattle.forest.proofs.Destroy.{destroyed}

-- ---- the validator's tests, each for slots and marks in range, are Linked

-- what holds of every table that the code can keep
pub record Frame (n : ℕ) (t : Table) : Type 0 where
  pub few : n ≤ mark_count
  pub old : (i : ℕ) → t.retired i ≡ true → t.live i ≡ true
  pub out_live : (i : ℕ) → n ≤ i → t.live i ≡ false
  pub out_parent : (i : ℕ) → n ≤ i → t.parent i ≡ no_parent
  pub out_mark : (p c : ℕ) → n ≤ p → t.mark p c ≡ false
  pub wide : (p c : ℕ) → mark_count ≤ c → t.mark p c ≡ false

-- the tests of the slot i
pub record Tests (n : ℕ) (t : Table) (i : ℕ) : Type 0 where
  pub inactive : t.live i ≡ false → (t.parent i ≡ no_parent) × ((c : ℕ) → c < mark_count → t.mark i c ≡ false)
  pub linked_up : t.live i ≡ true → (t.parent i ≡ no_parent) ⊎ ((t.parent i < n) × (t.live (t.parent i) ≡ true) × (t.mark (t.parent i) i ≡ true))
  pub linked_down : t.live i ≡ true → (c : ℕ) → c < mark_count → t.mark i c ≡ true → (c < n) × (t.live c ≡ true) × (t.parent c ≡ i)

module _ (n : ℕ) (t : Table) (F : Frame n t) where
  inside : (i : ℕ) → t.live i ≡ true → i < n
  inside i l = elim (dec_lt i n) [ yes h ↦ h | no nh ↦ clash l (F.out_live i (omega arith)) ]

  mark_inside : (p c : ℕ) → t.mark p c ≡ true → (p < n) × (c < mark_count)
  mark_inside p c m = (
    elim (dec_lt p n) [ yes h ↦ h | no nh ↦ clash m (F.out_mark p c (omega arith)) ],
    elim (dec_lt c mark_count) [ yes h ↦ h | no nh ↦ clash m (F.wide p c (omega arith)) ],
  )

  pub linked_iff_tests : ((i : ℕ) → i < n → Tests n t i) ↔ Linked n t
  linked_iff_tests = (
    λ T. record {
      few = F.few;
      small = inside;
      old = F.old;
      idle = λ i d. elim (dec_lt i n) [ yes h ↦ ((T i h).inactive d).0 | no nh ↦ F.out_parent i (omega arith) ];
      high = λ i l ne. elim ((T i (inside i l)).linked_up l) [ inl e ↦ absurd (ne e) | inr h ↦ (h.1, h.2) ];
      low = λ p c m.
          let h = mark_inside p c m in
          elim (two (t.live p)) [
            | inr d ↦ clash m (((T p h.0).inactive d).1 c h.1)
            | inl a ↦ let k = (T p h.0).linked_down a c h.1 m in (a, k.1, k.2)
          ];
    },
    λ L i h. record {
      inactive = λ d. (L.idle i d, λ c k. elim (two (t.mark i c)) [ inl m ↦ clash (L.low i c m).0 d | inr e ↦ e ]);
      linked_up = λ l. elim (ℕ_discrete (t.parent i) no_parent) [
        | yes e ↦ inl e
        | no ne ↦ let k = L.high i l ne in inr (L.small (t.parent i) k.0, k.0, k.1)
      ];
      linked_down = λ l c k m. let r = L.low i c m in (L.small c r.1, r.1, r.2);
    },
  )

-- two tables that say the same are equal
pub table_ext : {a b : Table} → ((x : ℕ) → a.live x ≡ b.live x) → ((x : ℕ) → a.retired x ≡ b.retired x)
    → ((x : ℕ) → a.parent x ≡ b.parent x) → ((p c : ℕ) → a.mark p c ≡ b.mark p c) → a ≡ b
table_ext f g h k = λ i. record { live = λ x. f x i; retired = λ x. g x i; parent = λ x. h x i; mark = λ p c. k p c i }

-- ---- functions of the slot, and their links

module _ (n : ℕ) (live retired : ℕ → Bool) (parent kids : ℕ → ℕ) where
  pub frame_in : n ≤ mark_count → ((i : ℕ) → i < n → retired i ≡ true → live i ≡ true) → Frame n (links_in n live retired parent kids)
  frame_in few old = record {
    few = few;
    old = λ i e. let a = and-true (ltb i n) (retired i) e in rw a.0 (old i (ltb-true i n a.0) a.1);
    out_live = λ i h. rw (le-ltb i n h);
    out_parent = λ i h. rw (le-ltb i n h);
    out_mark = λ p c h. rw (le-ltb p n h);
    wide = λ p c h. rw (le-ltb c mark_count h) (never (ltb p n));
  }
    where
      never : (b : Bool) → (b && false) ≡ false
      never true = refl
      never false = refl

  -- the marks of a slot in range are those that it keeps
  pub fits_in : (p c : ℕ) → p < n → c < mark_count → marked (kids p) c ≡ (links_in n live retired parent kids).mark p c
  fits_in p c h k = rw (lt-ltb p n h, lt-ltb c mark_count k)

  -- so the functions say what their links say, where the children are words
  pub reads_in : ((i : ℕ) → i < n → kids i < 2 ^ mark_count) → Reads n (links_in n live retired parent kids) live retired parent kids
  reads_in word = record {
    live_is = λ i h. rw (lt-ltb i n h);
    retired_is = λ i h. rw (lt-ltb i n h);
    parent_is = λ i h l. rw l;
    kids_is = λ p c h. elim (two (ltb c mark_count)) [
      | inl b ↦ fits_in p c h (ltb-true c mark_count b)
      | inr b ↦ rw (lt-ltb p n h, b) (marked-high mark_count (kids p) c (word p h) (ltb-false c mark_count b))
    ];
  }

module _ (n : ℕ) (live live' retired retired' : ℕ → Bool) (parent parent' kids kids' : ℕ → ℕ) where
  -- functions that agree on the slots below n have the same links; the parent is asked of a live slot only
  pub links_same : ((i : ℕ) → i < n → live i ≡ live' i) → ((i : ℕ) → i < n → retired i ≡ retired' i)
      → ((i : ℕ) → i < n → live i ≡ true → parent i ≡ parent' i) → ((p c : ℕ) → p < n → c < mark_count → marked (kids p) c ≡ marked (kids' p) c)
      → links_in n live retired parent kids ≡ links_in n live' retired' parent' kids'
  links_same a b p k = table_ext
      (λ x. elim (two (ltb x n)) [ inl e ↦ rw e (a x (ltb-true x n e)) | inr e ↦ rw e ])
      (λ x. elim (two (ltb x n)) [ inl e ↦ rw e (b x (ltb-true x n e)) | inr e ↦ rw e ])
      (λ x. elim (two (ltb x n)) [
        | inr e ↦ rw e
        | inl e ↦
            let h = ltb-true x n e in
            elim (two (live x)) [ inl l ↦ rw (e, l, sym (a x h) ∙ l) (p x h l) | inr l ↦ rw (e, l, sym (a x h) ∙ l) ]
      ])
      (λ x c. elim (two (ltb x n)) [
        | inr e ↦ rw e
        | inl e ↦ elim (two (ltb c mark_count)) [ inr f ↦ rw (e, f) | inl f ↦ rw (e, f) (k x c (ltb-true x n e) (ltb-true c mark_count f)) ]
      ])

  -- functions in which the slots of d are cleared, and their marks taken from every slot, have the cleared links
  module _ (d : ℕ)
      (stay : (i : ℕ) → i < n → marked d i ≡ false → (live' i ≡ live i) × (retired' i ≡ retired i) × (parent' i ≡ parent i)
      × ((c : ℕ) → c < mark_count → marked (kids' i) c ≡ (marked (kids i) c && not (marked d c))))
      (gone : (i : ℕ) → i < n → marked d i ≡ true → (live' i ≡ false) × (retired' i ≡ false) × ((c : ℕ) → c < mark_count → marked (kids' i) c ≡ false)) where
    -- a slot past the end, one that is cleared, and one that stays
    data At (i : ℕ) : Type 0 where
      past : ltb i n ≡ false → At i
      cleared : ltb i n ≡ true → marked d i ≡ true → i < n → At i
      kept : ltb i n ≡ true → marked d i ≡ false → i < n → At i

    at : (i : ℕ) → At i
    at i = elim (two (ltb i n)) [
      | inr e ↦ past e
      | inl e ↦ elim (two (marked d i)) [ inl b ↦ cleared e b (ltb-true i n e) | inr b ↦ kept e b (ltb-true i n e) ]
    ]

    none : {A : Type 0} (b : Bool) (x : A) → cond b x x ≡ x
    none true x = refl
    none false x = refl

    less : (a b : Bool) → (a && not b) ≡ cond b false a
    less true true = refl
    less true false = refl
    less false true = refl
    less false false = refl

    pub clear_in : links_in n live' retired' parent' kids' ≡ clear (marked d) (links_in n live retired parent kids)
    clear_in = table_ext
        (λ x. elim (at x) [
          | past e ↦ rw e (sym (none (marked d x) false))
          | cleared e b h ↦ rw (e, b) (gone x h b).0
          | kept e b h ↦ rw (e, b) (stay x h b).0
        ])
        (λ x. elim (at x) [
          | past e ↦ rw e (sym (none (marked d x) false))
          | cleared e b h ↦ rw (e, b) (gone x h b).1
          | kept e b h ↦ rw (e, b) (stay x h b).1
        ])
        (λ x. elim (at x) [
          | past e ↦ rw e (sym (none (marked d x) no_parent))
          | cleared e b h ↦ rw (e, b, (gone x h b).0)
          | kept e b h ↦ rw (e, b, (stay x h b).0, (stay x h b).2)
        ])
        (λ p c. elim (at p) [
          | past e ↦ rw (e, none (marked d c) false) (sym (none (marked d p) false))
          | cleared e b h ↦ rw (e, b) (elim (two (ltb c mark_count)) [ inr f ↦ rw f | inl f ↦ rw f ((gone p h b).2 c (ltb-true c mark_count f)) ])
          | kept e b h ↦ rw (e, b) (elim (two (ltb c mark_count)) [
            | inr f ↦ rw f (sym (none (marked d c) false))
            | inl f ↦ rw f ((stay p h b).3 c (ltb-true c mark_count f) ∙ less (marked (kids p) c) (marked d c))
          ])
        ])

-- what is left of a table after a destroy of s, for any table that is the cleared one
module _ (n : ℕ) (t : Table) (L : Linked n t) (R : Rooted n t) (s : ℕ) (a : t.live s ≡ true) (dead : ℕ → Bool)
    (exact : (x : ℕ) → (dead x ≡ true) ↔ Doomed n t s x) (old : (p : ℕ) → t.retired p ≡ true → 0 < count (t.mark p) n) where
  pub again : (t' : Table) → t' ≡ clear dead t → Linked n t' × Rooted n t' × ((p : ℕ) → t'.retired p ≡ true → 0 < count (t'.mark p) n)
  again t' q =
      let d = destroyed n t L R s a dead exact in
      rw q (
        d.linked,
        d.rooted,
        λ p h. elim (two (dead p)) [
          | inl e ↦ clash h (rw e)
          | inr e ↦ let o = rw e at h in d.dangling p o e (old p o)
        ],
      )
