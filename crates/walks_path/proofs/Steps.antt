-- How a path is found and laid out. Assumes nothing.
use Rattle.std.specs.Prelude.{Result, Ok, Err, reverse}
use Rattle.std.proofs.lemmas.List.{get_or_append_left, get_or-reverse}
use mathlib.Core.Bool.{Bool, true, false, cond, ◌&&◌, ◌||◌}
use mathlib.Core.List.{List, ◌++◌}
use mathlib.Core.Logic.{inl, inr}
use mathlib.Core.Path.{◌≡◌, refl, sym, ap, ◌∙◌}
use Prim.Native.Nat.{ℕ, zero, suc, ◌+◌, ◌-◌, ◌≤◌, ◌<◌}
use native.Mathlib.Decide.{ℕ_discrete, dec_lt}
use native.Mathlib.Numerals.{add-one}
use native.Mathlib.Omega.{arith}
use lib.Dec.{eqb, ltb}
use lib.ListN.{length, get_or, set, take, drop, length-set, length-append, length-reverse, length-drop}
use lib.Seq.{get_or-set_same, get_or-set_other, ext_get_or, get_or-take, get_or-drop, get_or-append_right, length-take-le}
use borrow.Author.Tests.{lt-ltb, le-ltb, eq-eqb, ne_eqb}
use Rattle.error.specs.declared.DpeErrorCode.{DpeErrorCode}
use Rattle.error.specs.declared.DpeErrorCode.TheVariants.{InternalError, InvalidHandle}
use Rattle.error.specs.declared.InternalErrorCode.TheVariants.{ContextIndexOob, TciNodeCountExceeded}
use Rattle.children.specs.Below.{list_of}
use Rattle.children.proofs.Below.{length-list_of, list_of-at, list_of_same}
use Rattle.children.proofs.Cases.{two, ltb-true}
use Rattle.context.specs.Context.{no_parent}
use Rattle.links.specs.Summary.{steps_up}
use Rattle.walks_path.specs.declared.Path.{Path}
use Rattle.walks_path.specs.Path.{parent_of, onward, length_from, slots_of, laid_of, path_of, Climbs}

module _ (n : ℕ) (live : ℕ → Bool) (parent : ℕ → ℕ) (x : ℕ) where
  -- ---- the parent of a slot

  pub parent_oob : n ≤ x → parent_of n live parent x ≡ Err (InternalError ContextIndexOob)
  unfolding parent_of
  parent_oob h = rw (le-ltb x n h)

  pub parent-idle : x < n → live x ≡ false → parent_of n live parent x ≡ Err InvalidHandle
  unfolding parent_of
  parent-idle h l = rw (lt-ltb x n h, l)

  pub parent_stray : x < n → live x ≡ true → (parent x ≡ no_parent → ⊥) → n ≤ parent x → parent_of n live parent x ≡ Err InvalidHandle
  unfolding parent_of
  parent_stray h l ne o = rw (lt-ltb x n h, l, le-ltb (parent x) n o, ne_eqb (parent x) no_parent ne)

  pub parent-slot : x < n → live x ≡ true → parent x < n → parent_of n live parent x ≡ Ok (parent x)
  unfolding parent_of
  parent-slot h l o = rw (lt-ltb x n h, l, lt-ltb (parent x) n o)

  pub parent_none : x < n → live x ≡ true → parent x ≡ no_parent → parent_of n live parent x ≡ Ok (parent x)
  unfolding parent_of
  parent_none h l e = rw (lt-ltb x n h, l, eq-eqb (parent x) no_parent e) (elim (two (ltb (parent x) n)) [ inl b ↦ rw b | inr b ↦ rw b ])

  -- ---- the length, turn by turn

  pub length_refused : (g j : ℕ) (e : DpeErrorCode) → parent_of n live parent x ≡ Err e → length_from n live parent g j x ≡ Err e
  unfolding length_from onward
  length_refused zero j e q = rw q
  length_refused (suc g) j e q = rw q

  pub length-root : (g j p : ℕ) → g ≡ suc (g - 1) → parent_of n live parent x ≡ Ok p → p ≡ no_parent → length_from n live parent g j x ≡ Ok (j + 1)
  unfolding length_from onward
  length-root g j p e q o = ap (λ (y : ℕ). length_from n live parent y j x) e ∙ rw (q, eq-eqb p no_parent o, add-one j)

  pub length_on : (g j p : ℕ) → g ≡ suc (g - 1) → parent_of n live parent x ≡ Ok p → (p ≡ no_parent → ⊥)
      → length_from n live parent g j x ≡ length_from n live parent (g - 1) (j + 1) p
  unfolding length_from onward
  length_on g j p e q o = ap (λ (y : ℕ). length_from n live parent y j x) e ∙ rw (q, ne_eqb p no_parent o, add-one j)

  pub length_full : (g j p : ℕ) → g ≡ 0 → parent_of n live parent x ≡ Ok p → length_from n live parent g j x ≡ Err (InternalError TciNodeCountExceeded)
  unfolding length_from onward
  length_full g j p e q = ap (λ (y : ℕ). length_from n live parent y j x) e ∙ rw q

  -- a slot with such a parent is a slot
  pub parent_from : (p : ℕ) → parent_of n live parent x ≡ Ok p → (x < n) × (parent x ≡ p)
  unfolding parent_of
  parent_from p q = elim (two (ltb x n)) [
    | inr b ↦ let z = rw b at q in absurd (let z : ◌≡◌ {A = ℕ} 0 1 = cc in omega arith)
    | inl b ↦ elim (two (live x && (ltb (parent x) n || eqb (parent x) no_parent))) [
      | inr d ↦ let z = rw (b, d) at q in absurd (let z : ◌≡◌ {A = ℕ} 0 1 = cc in omega arith)
      | inl d ↦ let z : Ok (parent x) ≡ Ok p = rw (b, d) at q in let y : parent x ≡ p = cc in (ltb-true x n b, y)
    ]
  ]

-- ---- steps

pub steps_in : (parent : ℕ → ℕ) (j x : ℕ) → steps_up parent j (parent x) ≡ steps_up parent (suc j) x
unfolding steps_up
steps_in parent zero x = refl
steps_in parent (suc j) x = ap parent (steps_in parent j x)

module _ (n : ℕ) (live : ℕ → Bool) (parent : ℕ → ℕ) where
  record Risen (g j x k : ℕ) : Type 0 where
    more : j < k
    few : k ≤ j + g
    slots : (i : ℕ) → i < k - j → steps_up parent i x < n

  -- the steps before a slot of the path are slots, and so is the slot
  risen : (g j x k : ℕ) → length_from n live parent g j x ≡ Ok k → Risen g j x k
  unfolding length_from onward steps_up
  risen zero j x k e = go (parent_of n live parent x) e
    where
      go : (f : Result ℕ DpeErrorCode) → onward f (λ p. Err (InternalError TciNodeCountExceeded)) ≡ Ok k → Risen zero j x k
      go (Ok p) q = absurd (let z : ◌≡◌ {A = ℕ} 0 1 = cc in omega arith)
      go (Err r) q = absurd (let z : ◌≡◌ {A = ℕ} 0 1 = cc in omega arith)
  risen (suc g) j x k e = go (parent_of n live parent x) refl e (λ p q. risen g (suc j) p k q)
    where
      next : (p : ℕ) → parent_of n live parent x ≡ Ok p → Risen g (suc j) p k → Risen (suc g) j x k
      next p o r =
          let f = parent_from n live parent x p o in
          record {
            more = let m = r.more in omega arith;
            few = let m = r.few in omega arith;
            slots = λ i h. elim (ℕ_discrete i 0) [
              | yes z ↦ rw z f.0
              | no nz ↦
                  let s : i ≡ suc (i - 1) = omega arith in
                  rw s (rw (sym f.1, steps_in parent (i - 1) x) at (r.slots (i - 1) (omega arith)))
            ];
          }

      last : (p : ℕ) → parent_of n live parent x ≡ Ok p → k ≡ suc j → Risen (suc g) j x k
      last p o q =
          let f = parent_from n live parent x p o in
          record { more = omega arith; few = omega arith; slots = λ i h. let z : i ≡ 0 = omega arith in rw z f.0 }

      go : (f : Result ℕ DpeErrorCode) → parent_of n live parent x ≡ f
          → onward f (λ p. cond (eqb p no_parent) (Ok (suc j)) (length_from n live parent g (suc j) p)) ≡ Ok k
          → ((p : ℕ) → length_from n live parent g (suc j) p ≡ Ok k → Risen g (suc j) p k) → Risen (suc g) j x k
      go (Err r) o q ih = absurd (let z : ◌≡◌ {A = ℕ} 0 1 = cc in omega arith)
      go (Ok p) o q ih = elim (two (eqb p no_parent)) [
        | inl b ↦ let z : ◌≡◌ {A = Result ℕ DpeErrorCode} (Ok (suc j)) (Ok k) = rw b at q in let y : suc j ≡ k = cc in last p o (sym y)
        | inr b ↦ next p o (ih p (rw b at q))
      ]

  -- of every table: a path that is answered has at most n slots, and each is a slot
  pub climbs : (x k : ℕ) → length_from n live parent n 0 x ≡ Ok k → Climbs n parent x k
  climbs x k e = let r = risen n 0 x k e in record { few = let f = r.few in omega arith; slots = λ j h. r.slots j (omega arith) }

-- ---- the slots are met from the last to the first, and turned round

set-list_of : (f : ℕ → ℕ) (n i v : ℕ) → i < n → set (list_of f n) i v ≡ list_of (λ j. cond (eqb j i) v (f j)) n
set-list_of f n i v h =
    ext_get_or 0 (set (list_of f n) i v) (list_of g n) (length-set (list_of f n) i v ∙ length-list_of f n ∙ sym (length-list_of g n)) (λ j l.
    let w : j < n = let a = length-set (list_of f n) i v in let b = length-list_of f n in omega arith in
    elim (ℕ_discrete j i) [
      | yes e ↦
          ap (λ (x : ℕ). get_or (set (list_of f n) i v) x 0) e ∙ get_or-set_same (list_of f n) i v 0 (let b = length-list_of f n in omega arith)
          ∙ sym (list_of-at g n j 0 w ∙ rw (eq-eqb j i e))
      | no ne ↦ get_or-set_other (list_of f n) i j v 0 ne ∙ list_of-at f n j 0 w ∙ sym (list_of-at g n j 0 w ∙ rw (ne_eqb j i ne))
    ])
  where
    g : ℕ → ℕ
    g j = cond (eqb j i) v (f j)

-- the slots met on the way up are the first j, and 0 comes after them
abbrev pub met : (ℕ → ℕ) → ℕ → ℕ → ℕ
met up j i = cond (ltb i j) (up i) 0

-- one slot more is met
pub met_more : (up : ℕ → ℕ) (n j v : ℕ) (l : List ℕ) → j < n → v ≡ up j → l ≡ list_of (met up j) n → set l j v ≡ list_of (met up (j + 1)) n
met_more up n j v l h e q =
    ap (λ (x : List ℕ). set x j v) q ∙ set-list_of (met up j) n j v h
    ∙ list_of_same _ _ n (λ i w. elim (ℕ_discrete i j) [
      | yes p ↦ rw (eq-eqb i j p, lt-ltb i (j + 1) (omega arith), p) e
      | no np ↦ rw (ne_eqb i j np) (ap (λ (b : Bool). cond b (up i) 0) (elim (dec_lt i j) [
        | yes l ↦ lt-ltb i j l ∙ sym (lt-ltb i (j + 1) (omega arith))
        | no nl ↦ le-ltb i j (omega arith) ∙ sym (le-ltb i (j + 1) (omega arith))
      ]))
    ])

-- turned round, the slots met are those of the path
pub turned : (up : ℕ → ℕ) (n k : ℕ) (l m : List ℕ) → k ≤ n → l ≡ list_of (met up k) n → m ≡ reverse (take k l) → m ++ drop k l ≡ slots_of n up k
unfolding slots_of
turned up n k l m h q r =
    ext_get_or 0 _ _ (all ∙ sym (length-list_of f n)) (λ i w.
    let o : i < n = let a = all in omega arith in
    elim (dec_lt i k) [
      | yes b ↦
          get_or_append_left m (drop k l) 0 i (let a = front in omega arith)
          ∙ ap (λ (x : List ℕ). get_or x i 0) r
          ∙ get_or-reverse (take k l) i 0 (let a = taken in omega arith)
          ∙ ap (λ (x : ℕ). get_or (take k l) x 0) (let a = taken in let z : length (take k l) - 1 - i ≡ k - suc i = omega arith in z)
          ∙ get_or-take k l (k - suc i) 0 (omega arith)
          ∙ ap (λ (x : List ℕ). get_or x (k - suc i) 0) q
          ∙ list_of-at (met up k) n (k - suc i) 0 (omega arith)
          ∙ rw (lt-ltb (k - suc i) k (omega arith)) (sym (list_of-at f n i 0 o ∙ rw (lt-ltb i k b)))
      | no nb ↦
          get_or-append_right m (drop k l) i 0 (let a = front in omega arith)
          ∙ ap (λ (x : ℕ). get_or (drop k l) (i - x) 0) front
          ∙ get_or-drop k l (i - k) 0
          ∙ ap (λ (x : ℕ). get_or l x 0) (let z : k + (i - k) ≡ i = omega arith in z)
          ∙ ap (λ (x : List ℕ). get_or x i 0) q
          ∙ list_of-at (met up k) n i 0 o
          ∙ rw (le-ltb i k (omega arith)) (sym (list_of-at f n i 0 o ∙ rw (le-ltb i k (omega arith))))
    ])
  where
    f : ℕ → ℕ
    f i = cond (ltb i k) (up (k - suc i)) 0

    size : length l ≡ n
    size = ap length q ∙ length-list_of (met up k) n

    taken : length (take k l) ≡ k
    taken = length-take-le k l (let a = size in omega arith)

    front : length m ≡ k
    front = ap length r ∙ length-reverse (take k l) ∙ taken

    all : length (m ++ drop k l) ≡ n
    all = length-append m (drop k l) ∙ (let a = front in let b = length-drop k l in let c = size in omega arith)

-- ---- the path is a refusal, or as many slots as were found

-- x is met after j other slots, and there is room for g more
module _ (n : ℕ) (live : ℕ → Bool) (parent : ℕ → ℕ) (slot g j x : ℕ) (way : length_from n live parent g j x ≡ length_from n live parent n 0 slot) where
  pub path_refused : (e : DpeErrorCode) → parent_of n live parent x ≡ Err e → path_of n live parent slot ≡ Err e
  unfolding path_of laid_of
  path_refused e q = rw (sym way ∙ length_refused n live parent x g j e q)

  pub path_full : (p : ℕ) → g ≡ 0 → parent_of n live parent x ≡ Ok p → path_of n live parent slot ≡ Err (InternalError TciNodeCountExceeded)
  unfolding path_of laid_of
  path_full p e q = rw (sym way ∙ length_full n live parent x g j p e q)

  pub path-laid : (p : ℕ) (l : List ℕ) → g ≡ suc (g - 1) → parent_of n live parent x ≡ Ok p → p ≡ no_parent → l ≡ slots_of n (λ i. steps_up parent i slot) (j + 1)
      → Ok (record { length = j + 1; slots = l }) ≡ path_of n live parent slot
  unfolding path_of laid_of
  path-laid p l e q o r = rw (sym way ∙ length-root n live parent x g j p e q o, r)

-- of every table: a path that is answered has at most n slots, and each step of it is a slot
pub path_climbs : (n : ℕ) (live : ℕ → Bool) (parent : ℕ → ℕ) (slot : ℕ) (p : Path) → path_of n live parent slot ≡ Ok p → Climbs n parent slot p.length
unfolding path_of laid_of
path_climbs n live parent slot p e = go (length_from n live parent n 0 slot) refl e
  where
    go : (f : Result ℕ DpeErrorCode) → length_from n live parent n 0 slot ≡ f → laid_of n (λ j. steps_up parent j slot) f ≡ Ok p → Climbs n parent slot p.length
    go (Err r) q o = absurd (let z : ◌≡◌ {A = ℕ} 0 1 = cc in omega arith)
    go (Ok k) q o =
        let y : record { length = k; slots = slots_of n (λ j. steps_up parent j slot) k } ≡ p = cc in
        let z : k ≡ p.length = ap (λ (x : Path). x.length) y in
        rw z at (climbs n live parent slot k q)

-- ---- a path is what two functions say below n

onward_same : (f : Result ℕ DpeErrorCode) (g h : ℕ → Result ℕ DpeErrorCode) → ((p : ℕ) → f ≡ Ok p → g p ≡ h p) → onward f g ≡ onward f h
unfolding onward
onward_same (Ok p) g h s = s p refl
onward_same (Err e) g h s = refl

module _ (n : ℕ) (live live' : ℕ → Bool) (parent parent' : ℕ → ℕ)
    (same_live : (i : ℕ) → i < n → live i ≡ live' i) (same-parent : (i : ℕ) → i < n → parent i ≡ parent' i) where
  parent_same : (x : ℕ) → parent_of n live parent x ≡ parent_of n live' parent' x
  unfolding parent_of
  parent_same x = elim (two (ltb x n)) [
    | inl b ↦ let h = ltb-true x n b in rw (b, same_live x h, same-parent x h)
    | inr b ↦ rw b
  ]

  length_same : (g j x : ℕ) → length_from n live parent g j x ≡ length_from n live' parent' g j x
  unfolding length_from
  length_same zero j x = ap (λ (f : Result ℕ DpeErrorCode). onward f (λ p. Err (InternalError TciNodeCountExceeded))) (parent_same x)
  length_same (suc g) j x =
      ap (λ (f : Result ℕ DpeErrorCode). onward f (λ p. cond (eqb p no_parent) (Ok (suc j)) (length_from n live parent g (suc j) p))) (parent_same x)
      ∙ onward_same (parent_of n live' parent' x) _ _ (λ p e. ap (cond (eqb p no_parent) (Ok (suc j))) (length_same g (suc j) p))

  steps_same : (slot k : ℕ) → Climbs n parent slot k → (j : ℕ) → j < k → steps_up parent j slot ≡ steps_up parent' j slot
  unfolding steps_up
  steps_same slot k c zero h = refl
  steps_same slot k c (suc j) h =
      same-parent (steps_up parent j slot) (c.slots j (omega arith)) ∙ ap parent' (steps_same slot k c j (omega arith))

  slots_same : (slot k : ℕ) → Climbs n parent slot k → slots_of n (λ j. steps_up parent j slot) k ≡ slots_of n (λ j. steps_up parent' j slot) k
  unfolding slots_of
  slots_same slot k c = list_of_same _ _ n (λ i w. elim (two (ltb i k)) [
    | inl b ↦ let h = ltb-true i k b in rw b (steps_same slot k c (k - suc i) (omega arith))
    | inr b ↦ rw b
  ])

  laid_same : (slot : ℕ) (f : Result ℕ DpeErrorCode) → length_from n live parent n 0 slot ≡ f
      → laid_of n (λ j. steps_up parent j slot) f ≡ laid_of n (λ j. steps_up parent' j slot) f
  unfolding laid_of
  laid_same slot (Err e) q = refl
  laid_same slot (Ok k) q = rw (slots_same slot k (climbs n live parent slot k q))

  pub path_same : (slot : ℕ) → path_of n live parent slot ≡ path_of n live' parent' slot
  unfolding path_of
  path_same slot = laid_same slot (length_from n live parent n 0 slot) refl ∙ ap (laid_of n (λ j. steps_up parent' j slot)) (length_same n 0 slot)
