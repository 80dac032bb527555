-- The last tests of the validator, in their order, come to the rule; and the rule holds again after a destroy. Assumes nothing.
use mathlib.Core.Path.{◌≡◌, refl, sym, ◌∙◌}
use mathlib.Core.Logic.{inl, inr, ◌↔◌}
use mathlib.Core.Bool.{Bool, true, false, not, ◌||◌}
use Prim.Native.Nat.{ℕ, zero, suc, ◌≤◌, ◌<◌}
use native.Mathlib.Omega.{arith}
use lib.Dec.{ltb}
use Rattle.children.specs.Below.{count, every}
use Rattle.children.specs.Marks.{marked}
use Rattle.children.proofs.Cases.{two, clash, ltb-true, ltb-false}
use Rattle.children.proofs.Below.{count_mono, count_same, every-at, at_every}
use Rattle.context.specs.Context.{no_parent}
use Rattle.forest.specs.Links.{Table, Linked, up, Rooted}
use Rattle.forest.specs.Destroy.{clear, Doomed}
use Rattle.forest.specs.Search.{Verdict, cycles, mixed, fine, search_roots, Found, forest, normal_root, last_tests, judge, find_fault, Rule, Differ, Judged, is-mixed, is_many, is-cyclic, is-forest}
use Rattle.forest.proofs.Destroy.{destroyed}
use Rattle.forest.proofs.Search.{Searched, whole, differs, searched, RootAlike, link-of-root, root-of-link, root_is, Agree, root_same, search_same}

implies : (a b : Bool) → (not a || b) ≡ true → a ≡ true → b ≡ true
implies true b e h = e
implies false b e h = clash h refl

implied : (a b : Bool) → (a ≡ true → b ≡ true) → (not a || b) ≡ true
implied true b f = f refl
implied false b f = refl

module _ (n : ℕ) (t : Table) (L : Linked n t) (kind : ℕ → ℕ) where
  pub judged : Judged n t kind (find_fault n t kind)
  unfolding find_fault judge last_tests
  judged = go (searched n t L kind)
    where
      last : (z : ℕ) → ((x : ℕ) → t.live x ≡ true → (marked z x ≡ true) ↔ (up t n x ≡ no_parent)) → RootAlike t kind
          → Judged n t kind (last_tests n t z (count (normal_root t kind) n))
      last z w p =
          let none : ¬ Differ t kind = λ d. d.unlike (p d.root d.other d.root_is_one d.below) in
          elim (two (ltb 1 (count (normal_root t kind) n))) [
            | inl b ↦ rw b (is_many none (ltb-true 1 (count (normal_root t kind) n) b))
            | inr b ↦ elim (two (every (λ i. not (t.live i) || marked z i) n)) [
              | inl c ↦
                  let all = every-at (λ i. not (t.live i) || marked z i) n c in
                  let r : Rooted n t = λ x l. (w x l).0 (implies (t.live x) (marked z x) (all x (L.small x l)) l) in
                  rw (b, c) (is-forest (record { rooted = r; alike = link-of-root n t L kind r p; one_normal = ltb-false 1 (count (normal_root t kind) n) b }))
              | inr c ↦ rw (b, c) (is-cyclic none (ltb-false 1 (count (normal_root t kind) n) b) (λ r.
                  clash (at_every (λ i. not (t.live i) || marked z i) n (λ i h. implied (t.live i) (marked z i) (λ l. (w i l).1 (r i l)))) c))
            ]
          ]

      go : Searched n t kind → Judged n t kind (find_fault n t kind)
      go (whole z e w p) = rw e (last z w p)
      go (differs e i x m d ne) = rw e (is-mixed (record { root = i; other = x; root_is_one = m; below = d; unlike = ne }))

  -- the tests find no fault just where the rule holds
  pub forest_iff : (find_fault n t kind ≡ forest) ↔ Rule n t kind
  forest_iff = (λ e. of-forest e judged, λ r. to-forest r judged)
    where
      of-forest : {f : Found} → f ≡ forest → Judged n t kind f → Rule n t kind
      of-forest e (is-forest r) = r
      of-forest e (is-mixed d) = absurd (let z : ◌≡◌ {A = ℕ} 0 1 = cc in omega arith)
      of-forest e (is_many d l) = absurd (let z : ◌≡◌ {A = ℕ} 0 1 = cc in omega arith)
      of-forest e (is-cyclic d l q) = absurd (let z : ◌≡◌ {A = ℕ} 0 1 = cc in omega arith)

      to-forest : {f : Found} → Rule n t kind → Judged n t kind f → f ≡ forest
      to-forest r (is-forest q) = refl
      to-forest r (is-mixed d) =
          absurd (d.unlike (root-of-link n t L kind r.alike d.below.0 d.root d.other (root_is t d.root d.root_is_one).0 d.below.1))
      to-forest r (is_many d l) = absurd (let k = r.one_normal in omega arith)
      to-forest r (is-cyclic d l q) = absurd (q r.rooted)

-- ---- tests that are told the same of every slot below n find the same

every_same : (p q : ℕ → Bool) (n : ℕ) → ((i : ℕ) → i < n → p i ≡ q i) → every p n ≡ every q n
unfolding every
every_same p q zero f = refl
every_same p q (suc n) f = rw (every_same p q n (λ i h. f i (omega arith)), f n (omega arith))

judge_same : (n : ℕ) (t t' : Table) → ((i : ℕ) → i < n → t.live i ≡ t'.live i) → (v : Verdict) (k : ℕ) → judge n t v k ≡ judge n t' v k
unfolding judge last_tests
judge_same n t t' f cycles k = refl
judge_same n t t' f mixed k = refl
judge_same n t t' f (fine z) k =
    rw (every_same (λ i. not (t.live i) || marked z i) (λ i. not (t'.live i) || marked z i) n (λ i h. rw (f i h)))

module _ (n : ℕ) (t t' : Table) (kind kind' : ℕ → ℕ) (A : Agree n t t' kind kind') where
  pub normals_same : count (normal_root t kind) n ≡ count (normal_root t' kind') n
  normals_same = count_same (normal_root t kind) (normal_root t' kind') n (λ i h. rw (root_same n t t' kind kind' A i h, A.kind_is i h))

  pub fault_same : find_fault n t kind ≡ find_fault n t' kind'
  unfolding find_fault
  fault_same =
      rw (search_same n t t' kind kind' A, normals_same) (judge_same n t t' A.live_is (search_roots n t' kind') (count (normal_root t' kind') n))

-- ---- after a destroy the rule holds again

module _ (t : Table) (kind kind' : ℕ → ℕ) (dead : ℕ → Bool) (same : (x : ℕ) → dead x ≡ false → kind' x ≡ kind x) where
  pub alike-clear : ((p c : ℕ) → t.mark p c ≡ true → kind c ≡ kind p) → (p c : ℕ) → (clear dead t).mark p c ≡ true → kind' c ≡ kind' p
  alike-clear h p c m = elim (two (dead p)) [
    | inl e ↦ clash m (rw e)
    | inr e ↦ elim (two (dead c)) [ inl f ↦ clash m (rw (e, f)) | inr f ↦ same c f ∙ h p c (rw (e, f) at m) ∙ sym (same p e) ]
  ]

  pub normal-clear : (n : ℕ) → count (normal_root t kind) n ≤ 1 → count (normal_root (clear dead t) kind') n ≤ 1
  normal-clear n h = omega (
    arith,
    count_mono (normal_root (clear dead t) kind') (normal_root t kind)
        (λ i e. elim (two (dead i)) [ inl d ↦ clash e (rw d) | inr d ↦ rw (same i d) at (rw d at e) ]) n,
  )

-- a yes before, a yes after: the links' part of the rule, for a destroy of s
pub rule_again : (n : ℕ) (t : Table) (L : Linked n t) (kind kind' : ℕ → ℕ) (s : ℕ) (l : t.live s ≡ true) (dead : ℕ → Bool)
    → ((x : ℕ) → (dead x ≡ true) ↔ Doomed n t s x) → ((x : ℕ) → dead x ≡ false → kind' x ≡ kind x)
    → Rule n t kind → Linked n (clear dead t) × (find_fault n (clear dead t) kind' ≡ forest)
rule_again n t L kind kind' s l dead exact same r =
    let d = destroyed n t L r.rooted s l dead exact in (
      d.linked,
      (forest_iff n (clear dead t) d.linked kind').1 (record {
        rooted = d.rooted;
        alike = alike-clear t kind kind' dead same r.alike;
        one_normal = normal-clear t kind kind' dead same n r.one_normal;
      }),
    )
