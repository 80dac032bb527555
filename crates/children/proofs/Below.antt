-- Laws of the numbers below n. Assumes nothing.
use mathlib.Core.Path.{◌≡◌, refl, sym, ap, ap₂, ◌∙◌}
use mathlib.Core.Logic.{inl, inr}
use mathlib.Core.Bool.{Bool, true, false, cond, ◌||◌}
use mathlib.Core.List.{List, [], ◌∷◌, ◌++◌}
use Prim.Native.Nat.{ℕ, zero, suc, ◌+◌, ◌-◌, ◌≤◌, ◌<◌}
use native.Mathlib.Decide.{ℕ_discrete, dec_lt}
use native.Mathlib.Numerals.{add-one}
use native.Mathlib.Omega.{arith}
use lib.ListN.{length, get_or, take, set, length-append}
use lib.Seq.{take-suc-set}
use Rattle.children.specs.Below.{count, some, every, lowest_from, list_of}
use Rattle.children.proofs.Cases.{two, clash, and-true, or_cases, or_right, or_left}

-- ---- how many

module _ (p : ℕ → Bool) where
  pub count_hit : (n : ℕ) → p n ≡ true → count p (n + 1) ≡ count p n + 1
  unfolding count
  count_hit n e = rw (add-one n, count, e) (sym (add-one (count p n)))

  pub count_miss : (n : ℕ) → p n ≡ false → count p (n + 1) ≡ count p n
  unfolding count
  count_miss n e = rw (add-one n, count, e)

  pub count-le : (n : ℕ) → count p n ≤ n
  unfolding count
  count-le zero = omega arith
  count-le (suc n) = let ih = count-le n in elim (two (p n)) [ inl e ↦ rw e (omega arith) | inr e ↦ rw e (omega arith) ]

  pub count_none : (n i : ℕ) → count p n ≡ 0 → i < n → p i ≡ false
  unfolding count
  count_none zero i e h = absurd (omega arith)
  count_none (suc n) i e h = elim (two (p n)) [
    | inl q ↦ let k = rw q at e in absurd (omega arith)
    | inr q ↦ elim (ℕ_discrete i n) [ yes r ↦ rw r q | no nr ↦ count_none n i (rw q at e) (omega arith) ]
  ]

  pub count-some : (n : ℕ) → 0 < count p n → (i : ℕ) × (i < n) × (p i ≡ true)
  unfolding count
  count-some zero h = absurd (omega arith)
  count-some (suc n) h = elim (two (p n)) [
    | inl q ↦ (n, omega arith, q)
    | inr q ↦ let r = count-some n (rw q at h) in (r.0, omega arith, r.2)
  ]

  pub count_pos : (n i : ℕ) → i < n → p i ≡ true → 0 < count p n
  count_pos n i h e = elim (ℕ_discrete (count p n) 0) [ yes z ↦ clash e (count_none n i z h) | no nz ↦ omega arith ]

  pub count-one : (n i j : ℕ) → count p n ≡ 1 → i < n → j < n → p i ≡ true → p j ≡ true → i ≡ j
  unfolding count
  count-one zero i j e hi hj a b = absurd (omega arith)
  count-one (suc n) i j e hi hj a b = elim (two (p n)) [
    | inl r ↦
        let k : count p n ≡ 0 = let k' = rw r at e in omega arith in
        let last : (i : ℕ) → i < suc n → p i ≡ true → i ≡ n =
        λ i h s. elim (ℕ_discrete i n) [ yes t ↦ t | no nt ↦ clash s (count_none n i k (omega arith)) ] in
        last i hi a ∙ sym (last j hj b)
    | inr r ↦
        let below : (i : ℕ) → i < suc n → p i ≡ true → i < n =
        λ i h s. elim (ℕ_discrete i n) [ yes t ↦ clash (rw t at s) r | no nt ↦ omega arith ] in
        count-one n i j (rw r at e) (below i hi a) (below j hj b) a b
  ]

  pub count-more : (n : ℕ) → 1 < count p n → (i : ℕ) × (j : ℕ) × (i < j) × (j < n) × (p i ≡ true) × (p j ≡ true)
  unfolding count
  count-more zero h = absurd (omega arith)
  count-more (suc n) h = elim (two (p n)) [
    | inl r ↦
        let k : 0 < count p n = let k' = rw r at h in omega arith in
        let s = count-some n k in
        (s.0, n, s.1, omega arith, s.2, r)
    | inr r ↦
        let s = count-more n (rw r at h) in
        (s.0, s.1, s.2, omega arith, s.4, s.5)
  ]

  pub count-le-one : (n : ℕ) → ((i j : ℕ) → p i ≡ true → p j ≡ true → i ≡ j) → count p n ≤ 1
  count-le-one n h = elim (dec_lt 1 (count p n)) [
    | yes l ↦ let r = count-more n l in absurd (omega (arith, h r.0 r.1 r.4 r.5))
    | no nl ↦ omega arith
  ]

module _ (p q : ℕ → Bool) where
  pub count_same : (n : ℕ) → ((i : ℕ) → i < n → p i ≡ q i) → count p n ≡ count q n
  unfolding count
  count_same zero f = refl
  count_same (suc n) f = ap₂ (λ (b : Bool) (x : ℕ). cond b (suc x) x) (f n (omega arith)) (count_same n (λ i h. f i (omega arith)))

  pub count_mono : ((i : ℕ) → p i ≡ true → q i ≡ true) → (n : ℕ) → count p n ≤ count q n
  unfolding count
  count_mono f zero = omega arith
  count_mono f (suc n) =
      let ih = count_mono f n in
      elim (two (p n)) [
        | inl e ↦ rw (e, f n e) (omega arith)
        | inr e ↦ elim (two (q n)) [ inl g ↦ rw (e, g) (omega arith) | inr g ↦ rw (e, g) (omega arith) ]
      ]

  -- one number more passes
  pub count-put : (k : ℕ) → p k ≡ false → q k ≡ true → ((i : ℕ) → (i ≡ k → ⊥) → p i ≡ q i) → (n : ℕ) → k < n → count q n ≡ suc (count p n)
  unfolding count
  count-put k a b f zero h = absurd (omega arith)
  count-put k a b f (suc n) h = elim (ℕ_discrete n k) [
    | yes e ↦ rw (e, a, b) (ap suc (sym (count_same k (λ i l. f i (λ z. omega arith)))))
    | no ne ↦
        let ih = count-put k a b f n (omega arith) in
        let s = f n ne in
        elim (two (q n)) [ inl g ↦ rw (g, s ∙ g) (ap suc ih) | inr g ↦ rw (g, s ∙ g) ih ]
  ]

-- ---- whether some do

module _ (p : ℕ → Bool) where
  pub some_next : (n : ℕ) → some p (n + 1) ≡ (some p n || p n)
  unfolding some
  some_next n = rw (add-one n, some)

  pub of_some : (n : ℕ) → some p n ≡ true → (i : ℕ) × (i < n) × (p i ≡ true)
  unfolding some
  of_some zero e = clash e refl
  of_some (suc n) e = elim (or_cases (some p n) (p n) e) [
    | inl a ↦ let r = of_some n a in (r.0, omega arith, r.2)
    | inr a ↦ (n, omega arith, a)
  ]

  pub some_of : (n i : ℕ) → i < n → p i ≡ true → some p n ≡ true
  unfolding some
  some_of zero i h e = absurd (omega arith)
  some_of (suc n) i h e = elim (ℕ_discrete i n) [
    | yes q ↦ or_right (some p n) (p n) (rw q at e)
    | no nq ↦ or_left (p n) (some_of n i (omega arith) e)
  ]

  pub none-at : (n i : ℕ) → some p n ≡ false → i < n → p i ≡ false
  none-at n i e h = elim (two (p i)) [ inl t ↦ clash (some_of n i h t) e | inr f ↦ f ]

  pub none_of : (n : ℕ) → ((i : ℕ) → i < n → p i ≡ false) → some p n ≡ false
  none_of n f = elim (two (some p n)) [ inr e ↦ e | inl e ↦ let r = of_some n e in clash r.2 (f r.0 r.1) ]

pub some_same : (p q : ℕ → Bool) (n : ℕ) → ((i : ℕ) → i < n → p i ≡ q i) → some p n ≡ some q n
unfolding some
some_same p q zero f = refl
some_same p q (suc n) f = ap₂ ◌||◌ (some_same p q n (λ i h. f i (omega arith))) (f n (omega arith))

-- ---- whether all do

pub every-at : (p : ℕ → Bool) (n : ℕ) → every p n ≡ true → (i : ℕ) → i < n → p i ≡ true
unfolding every
every-at p zero e i h = absurd (omega arith)
every-at p (suc n) e i h =
    let a = and-true (every p n) (p n) e in
    elim (ℕ_discrete i n) [ yes q ↦ rw q a.1 | no nq ↦ every-at p n a.0 i (omega arith) ]

pub at_every : (p : ℕ → Bool) (n : ℕ) → ((i : ℕ) → i < n → p i ≡ true) → every p n ≡ true
unfolding every
at_every p zero f = refl
at_every p (suc n) f = rw (at_every p n (λ i h. f i (omega arith)), f n (omega arith))

-- ---- the lowest

module _ (p : ℕ → Bool) where
  low_hit : (g k : ℕ) → p k ≡ true → lowest_from p (suc g) k ≡ k
  unfolding lowest_from
  low_hit g k e = rw e

  low_miss : (g k : ℕ) → p k ≡ false → lowest_from p (suc g) k ≡ lowest_from p g (suc k)
  unfolding lowest_from
  low_miss g k e = rw e

  pub low_ge : (g k : ℕ) → k ≤ lowest_from p g k
  unfolding lowest_from
  low_ge zero k = omega arith
  low_ge (suc g) k = elim (two (p k)) [
    | inl e ↦ let q = low_hit g k e in omega arith
    | inr e ↦ let q = low_miss g k e in let h = low_ge g (suc k) in omega arith
  ]

  pub low-le : (g k : ℕ) → lowest_from p g k ≤ k + g
  unfolding lowest_from
  low-le zero k = omega arith
  low-le (suc g) k = elim (two (p k)) [
    | inl e ↦ let q = low_hit g k e in omega arith
    | inr e ↦ let q = low_miss g k e in let h = low-le g (suc k) in omega arith
  ]

  -- nothing before it passes
  pub low_bare : (g k j : ℕ) → k ≤ j → j < lowest_from p g k → p j ≡ false
  unfolding lowest_from
  low_bare zero k j h l = absurd (omega arith)
  low_bare (suc g) k j h l = elim (two (p k)) [
    | inl e ↦ let q = low_hit g k e in absurd (omega arith)
    | inr e ↦
        let q = low_miss g k e in
        elim (ℕ_discrete j k) [ yes r ↦ rw r e | no ne ↦ low_bare g (suc k) j (omega arith) (omega arith) ]
  ]

  -- it passes, unless the end was reached
  pub low_passes : (g k : ℕ) → lowest_from p g k < k + g → p (lowest_from p g k) ≡ true
  unfolding lowest_from
  low_passes zero k l = absurd (omega arith)
  low_passes (suc g) k l = elim (two (p k)) [
    | inl e ↦ ap p (low_hit g k e) ∙ e
    | inr e ↦ let q = low_miss g k e in ap p q ∙ low_passes g (suc k) (omega arith)
  ]

  -- a loop that looks at i = 0, 1, .. below n: a hit, a miss, the end
  pub low-here : (n i : ℕ) → i < n → p i ≡ true → lowest_from p (n - i) i ≡ i
  low-here n i h e =
      let q : n - i ≡ suc (n - suc i) = omega arith in
      ap (λ (g : ℕ). lowest_from p g i) q ∙ low_hit (n - suc i) i e

  pub low_on : (n i : ℕ) → i < n → p i ≡ false → lowest_from p (n - i) i ≡ lowest_from p (n - (i + 1)) (i + 1)
  low_on n i h e =
      let q : n - i ≡ suc (n - suc i) = omega arith in
      ap (λ (g : ℕ). lowest_from p g i) q ∙ low_miss (n - suc i) i e ∙ ap (λ (j : ℕ). lowest_from p (n - j) j) (sym (add-one i))

  pub low_end : (n i : ℕ) → n ≤ i → lowest_from p (n - i) i ≡ i
  unfolding lowest_from
  low_end n i h = let q : n - i ≡ 0 = omega arith in ap (λ (g : ℕ). lowest_from p g i) q

pub low_same : (p q : ℕ → Bool) (g k : ℕ) → ((i : ℕ) → k ≤ i → i < k + g → p i ≡ q i) → lowest_from p g k ≡ lowest_from q g k
unfolding lowest_from
low_same p q zero k f = refl
low_same p q (suc g) k f =
    ap₂ (λ (b : Bool) (x : ℕ). cond b k x) (f k (omega arith) (omega arith)) (low_same p q g (suc k) (λ i a b. f i (omega arith) (omega arith)))

-- ---- the list

module _ {A : Type 0} where
  pub length-list_of : (f : ℕ → A) (n : ℕ) → length (list_of f n) ≡ n
  unfolding list_of
  length-list_of f zero = refl
  length-list_of f (suc n) = length-append (list_of f n) (f n ∷ []) ∙ (rw (length-list_of f n) (add-one n))

  get_or-left : (a b : List A) (i : ℕ) (d : A) → i < length a → get_or (a ++ b) i d ≡ get_or a i d
  get_or-left [] b i d h = absurd (omega arith)
  get_or-left (y ∷ a) b zero d h = refl
  get_or-left (y ∷ a) b (suc i) d h = get_or-left a b i d (omega arith)

  get_or_last : (a : List A) (x d : A) → get_or (a ++ (x ∷ [])) (length a) d ≡ x
  get_or_last [] x d = refl
  get_or_last (y ∷ a) x d = get_or_last a x d

  pub list_of-at : (f : ℕ → A) (n i : ℕ) (d : A) → i < n → get_or (list_of f n) i d ≡ f i
  unfolding list_of
  list_of-at f zero i d h = absurd (omega arith)
  list_of-at f (suc n) i d h =
      let e : length (list_of f n) ≡ n = length-list_of f n in
      elim (ℕ_discrete i n) [
        | yes q ↦ rw q (ap (λ (k : ℕ). get_or (list_of f n ++ (f n ∷ [])) k d) (sym e) ∙ get_or_last (list_of f n) (f n) d)
        | no ne ↦ get_or-left (list_of f n) (f n ∷ []) i d (omega arith) ∙ list_of-at f n i d (omega arith)
      ]

  pub list_of_same : (f g : ℕ → A) (n : ℕ) → ((i : ℕ) → i < n → f i ≡ g i) → list_of f n ≡ list_of g n
  unfolding list_of
  list_of_same f g zero e = refl
  list_of_same f g (suc n) e = ap₂ (λ (l : List A) (x : A). l ++ (x ∷ [])) (list_of_same f g n (λ i h. e i (omega arith))) (e n (omega arith))

  -- a loop that fills an array from the front
  pub list_of_fill : (f : ℕ → A) (a : List A) (i : ℕ) (x : A) → i < length a → take i a ≡ list_of f i → x ≡ f i → take (i + 1) (set a i x) ≡ list_of f (i + 1)
  unfolding list_of
  list_of_fill f a i x h e q =
      ap (λ (k : ℕ). take k (set a i x)) (add-one i) ∙ take-suc-set a i x h ∙ ap₂ (λ (l : List A) (y : A). l ++ (y ∷ [])) e q
      ∙ ap (list_of f) (sym (add-one i))
