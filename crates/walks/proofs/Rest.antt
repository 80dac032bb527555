-- The rest of a walk down: the answers for the children from one on, and what they are worth beside the marks found before. Assumes nothing.
use Rattle.std.specs.Prelude.{Option, Some, None, Err}
use mathlib.Core.Bool.{Bool, true, false, cond}
use mathlib.Core.Logic.{inl, inr}
use mathlib.Core.Path.{◌≡◌, refl, sym, ap, ◌∙◌}
use Prim.Native.Nat.{ℕ, zero, suc, ◌+◌, ◌-◌, ◌≤◌, ◌<◌}
use native.Mathlib.Numerals.{add-one}
use native.Mathlib.Omega.{arith}
use lib.Bits.{or_zero_r}
use Rattle.error.specs.declared.DpeErrorCode.{DpeErrorCode}
use Rattle.children.specs.Below.{lowest_from}
use Rattle.children.specs.Marks.{marked, with, joined, next_below, next_of}
use Rattle.children.proofs.Below.{low_ge, low-le, low_bare}
use Rattle.children.proofs.Cases.{two}
use Rattle.children.proofs.Marks.{joined_assoc, next-some, next-none}
use Rattle.forest.specs.Walk.{Answer, loops, bad, ok, both, over, walk_down}
use Rattle.forest.specs.Told.{told_of}
use Rattle.walks.proofs.Down.{child, walk-over}

-- ---- answers joined

both_none_l : (a : Answer) → both (ok 0) a ≡ a
both_none_l loops = refl
both_none_l bad = refl
both_none_l (ok x) = refl

both_none_r : (a : Answer) → both a (ok 0) ≡ a
both_none_r loops = refl
both_none_r bad = refl
both_none_r (ok x) = ap ok (or_zero_r x)

both_assoc : (a b c : Answer) → both (both a b) c ≡ both a (both b c)
both_assoc loops b c = refl
both_assoc bad b c = refl
both_assoc (ok x) loops c = refl
both_assoc (ok x) bad c = refl
both_assoc (ok x) (ok y) loops = refl
both_assoc (ok x) (ok y) bad = refl
both_assoc (ok x) (ok y) (ok z) = ap ok (joined_assoc x y z)

-- nothing was found before the walk
pub begins : (f : ℕ) (a : Answer) → f ≡ 0 → both (ok f) a ≡ a
begins f a e = ap (λ (x : ℕ). both (ok x) a) e ∙ both_none_l a

-- a child that is refused ends the walk
pub refused_on : (e r : DpeErrorCode) (f : ℕ) (a b : Answer) → told_of e a ≡ Err r → told_of e (both (both (ok f) a) b) ≡ Err r
unfolding told_of
refused_on e r f loops b q = q
refused_on e r f bad b q = q
refused_on e r f (ok w) b q = absurd (let z : ◌≡◌ {A = ℕ} 0 1 = cc in omega arith)

-- ---- the rest

-- the answers for those of the g numbers from k on that are marked
unfoldable pub rest : (ℕ → Answer) → ℕ → ℕ → ℕ → Answer
rest rec m zero k = ok 0
rest rec m (suc g) k = cond (marked m k) (both (rec k) (rest rec m g (suc k))) (rest rec m g (suc k))

module _ (rec : ℕ → Answer) (m : ℕ) where
  -- the first k numbers, and the rest
  over_rest : (g k : ℕ) → over rec m (k + g) ≡ both (over rec m k) (rest rec m g k)
  unfolding over rest
  over_rest zero k = let e : k + zero ≡ k = omega arith in ap (over rec m) e ∙ sym (both_none_r (over rec m k))
  over_rest (suc g) k =
      let e : k + suc g ≡ suc k + g = omega arith in
      ap (over rec m) e ∙ over_rest g (suc k)
      ∙ elim (two (marked m k)) [ inl b ↦ rw b (both_assoc (over rec m k) (rec k) (rest rec m g (suc k))) | inr b ↦ rw b ]

  -- numbers that are not marked add nothing
  rest_skip : (h g k : ℕ) → ((j : ℕ) → k ≤ j → j < k + h → marked m j ≡ false) → rest rec m (h + g) k ≡ rest rec m g (k + h)
  unfolding rest
  rest_skip zero g k q = let e : zero + g ≡ g = omega arith in let f : k ≡ k + zero = omega arith in ap (λ (x : ℕ). rest rec m x k) e ∙ ap (rest rec m g) f
  rest_skip (suc h) g k q =
      let e : suc h + g ≡ suc (h + g) = omega arith in
      let f : suc k + h ≡ k + suc h = omega arith in
      ap (λ (x : ℕ). rest rec m x k) e ∙ rw (q k (omega arith) (omega arith)) (rest_skip h g (suc k) (λ j l u. q j (omega arith) (omega arith))) ∙ ap (rest rec m g) f

  -- the rest from k on is the rest from the next one marked on
  pub rest-next : (n k r : ℕ) → k ≤ n → r ≡ next_below n m k → rest rec m (n - k) k ≡ rest rec m (n - r) r
  rest-next n k r h q =
      let low = lowest_from (marked m) (n - k) k in
      let ge = low_ge (marked m) (n - k) k in
      let le = low-le (marked m) (n - k) k in
      let e : n - k ≡ (low - k) + (n - low) = omega arith in
      let f : k + (low - k) ≡ low = omega arith in
      ap (λ (x : ℕ). rest rec m x k) e
      ∙ rest_skip (low - k) (n - low) k (λ j l u. low_bare (marked m) (n - k) k j l (omega arith))
      ∙ ap (rest rec m (n - low)) f ∙ ap (λ (x : ℕ). rest rec m (n - x) x) (sym q)

  -- one child more, and the rest after it
  pub rest_on : (n k r f : ℕ) → k < n → marked m k ≡ true → r ≡ next_below n m (k + 1)
      → both (ok f) (rest rec m (n - k) k) ≡ both (both (ok f) (rec k)) (rest rec m (n - r) r)
  unfolding rest
  rest_on n k r f h b q =
      let e : n - k ≡ suc (n - (k + 1)) = omega arith in
      ap (λ (x : ℕ). both (ok f) (rest rec m x k)) e
      ∙ rw (b, ← add-one k) (ap (λ (x : Answer). both (ok f) (both (rec k) x)) (rest-next n (k + 1) r (omega arith) q))
      ∙ sym (both_assoc (ok f) (rec k) (rest rec m (n - r) r))

  -- after the end there is nothing
  rest_end : (n r : ℕ) → n ≤ r → rest rec m (n - r) r ≡ ok 0
  unfolding rest
  rest_end n r h = let e : n - r ≡ 0 = omega arith in ap (λ (x : ℕ). rest rec m x r) e

  pub rest_none : (n r f : ℕ) → n ≤ r → both (ok f) (rest rec m (n - r) r) ≡ ok f
  rest_none n r f h = ap (both (ok f)) (rest_end n r h) ∙ both_none_r (ok f)

  -- the last child
  pub rest_last : (n k r f : ℕ) → k < n → marked m k ≡ true → r ≡ next_below n m (k + 1) → n ≤ r
      → both (ok f) (rest rec m (n - k) k) ≡ both (ok f) (rec k)
  rest_last n k r f h b q l = rest_on n k r f h b q ∙ ap (both (both (ok f) (rec k))) (rest_end n r l) ∙ both_none_r (both (ok f) (rec k))

-- ---- a turn of the loop over the children

-- k is a child, and the marks found, with the rest from k on, are worth a
pub record Turn (rec : ℕ → Answer) (m n k f : ℕ) (a : Answer) : Type 0 where
  pub below : k < n
  pub marks : marked m k ≡ true
  pub worth : both (ok f) (rest rec m (n - k) k) ≡ a

-- a child that is refused ends the walk
pub turn_refused : (e : DpeErrorCode) {rec : ℕ → Answer} {m n k f : ℕ} {a : Answer} {x : DpeErrorCode} → Turn rec m n k f a → told_of e (rec k) ≡ Err x → told_of e a ≡ Err x
turn_refused e {rec} {m} {n} {k} {f} {a} {x} t q =
    ap (told_of e) (sym t.worth ∙ rest_on rec m n k (next_below n m (k + 1)) f t.below t.marks refl) ∙ refused_on e x f (rec k) _ q

-- the marks of a child are joined, and the rest goes on from the next one
pub turn_on : {rec : ℕ → Answer} {m n k r f v g : ℕ} {o : Option ℕ} {a : Answer} → Turn rec m n k f a → rec k ≡ ok v → g ≡ joined f v → o ≡ next_of n m (k + 1) → o ≡ Some r → Turn rec m n r g a
turn_on {rec} {m} {n} {k} {r} {f} {v} {g} t q j i s =
    let h = next-some n m (k + 1) r i s in record {
      below = h.2;
      marks = h.3;
      worth = ap (λ (x : ℕ). both (ok x) (rest rec m (n - r) r)) j ∙ sym (ap (λ (x : Answer). both (both (ok f) x) (rest rec m (n - r) r)) q)
          ∙ sym (rest_on rec m n k r f t.below t.marks h.0) ∙ t.worth;
    }

-- the last child's answer is all that is left
pub turn_last : {rec : ℕ → Answer} {m n k f : ℕ} {o : Option ℕ} {a : Answer} → Turn rec m n k f a → o ≡ next_of n m (k + 1) → o ≡ None → both (ok f) (rec k) ≡ a
turn_last {rec} {m} {n} {k} {f} t i s = sym (rest_last rec m n k _ f t.below t.marks refl (next-none n m (k + 1) i s)) ∙ t.worth

-- ---- at a slot

-- the walk at a slot that is live: its marks, and the rest from its first child on
pub rest_begins : (n d : ℕ) (live : ℕ → Bool) (kids : ℕ → ℕ) (path slot down m f g r : ℕ) → down ≡ with path slot → (d ≡ 0 → ⊥) → live slot ≡ true → m ≡ kids slot
    → g ≡ joined f m → r ≡ next_below n m 0
    → both (ok f) (walk_down n live kids d path slot) ≡ both (ok g) (rest (child n live kids (d - 1) down) m (n - r) r)
unfolding over
rest_begins n d live kids path slot down m f g r p h e q i j =
    let c = child n live kids (d - 1) down in
    let z : n ≡ 0 + n = omega arith in
    let y : n ≡ n - 0 = omega arith in
    ap (both (ok f)) (walk-over n d live kids path slot down p h e ∙ ap (λ (x : ℕ). over c x n) (sym q) ∙ ap (over c m) z ∙ over_rest c m n 0)
    ∙ sym (both_assoc (ok f) (ok m) (rest c m n 0))
    ∙ ap (λ (x : ℕ). both (ok x) (rest c m n 0)) (sym i)
    ∙ ap (both (ok g)) (ap (λ (x : ℕ). rest c m x 0) y ∙ rest-next c m n 0 r (omega arith) j)

-- a slot with no child ends the walk, and a first child begins the loop
module _ (n d : ℕ) (live : ℕ → Bool) (kids : ℕ → ℕ) (path slot down m f g : ℕ) {o : Option ℕ} {a : Answer} (w : both (ok f) (walk_down n live kids d path slot) ≡ a)
    (h : d ≡ 0 → ⊥) (e : live slot ≡ true) (p : down ≡ with path slot) (q : m ≡ kids slot) (i : g ≡ joined f m) (j : o ≡ next_of n m 0) where
  pub slot-alone : o ≡ None → a ≡ ok g
  slot-alone s = sym w ∙ rest_begins n d live kids path slot down m f g _ p h e q i refl ∙ rest_none (child n live kids (d - 1) down) m n _ g (next-none n m 0 j s)

  pub turn-first : (r : ℕ) → o ≡ Some r → Turn (child n live kids (d - 1) down) m n r g a
  turn-first r s =
      let b = next-some n m 0 r j s in record {
        below = b.2;
        marks = b.3;
        worth = sym (rest_begins n d live kids path slot down m f g r p h e q i b.0) ∙ w;
      }
