-- Laws of the parts of a list. Assumes nothing.
use mathlib.Core.Path.{◌≡◌, refl, sym, ap, ◌∙◌}
use mathlib.Core.List.{List, ◌∷◌, ◌++◌, append-nil}
use Prim.Native.Nat.{ℕ, zero, suc, ◌+◌, ◌-◌, ◌≤◌, ◌<◌}
use native.Mathlib.Nat.{add-zero, zero-add, suc-add}
use native.Mathlib.Numerals.{add-one}
use native.Mathlib.Omega.{arith}
use lib.ListN.{length, take, drop, get_or, replicate, length-drop}
use lib.Seq.{take-take, take-length, drop-length, drop-cons, take-add, drop-drop, length-take-le, take-append-le, drop-append-le, take_at, drop_at, get_or-drop, get_or-take}
use Rattle.std.proofs.lemmas.List.{drop-take}
use Rattle.wire.specs.Le.{part}

pub length_part : (at n : ℕ) (l : List ℕ) → at + n ≤ length l → length (part at n l) ≡ n
length_part at n l h = length-take-le n (drop at l) (simp length-drop (omega arith))

pub get_d_part : (at n j : ℕ) (l : List ℕ) → j < n → get_or (part at n l) j 0 ≡ get_or l (at + j) 0
get_d_part at n j l h = get_or-take n (drop at l) j 0 h ∙ get_or-drop at l j 0

-- a part by its first element, and by its front
pub part-cons : (at n : ℕ) (l : List ℕ) → at < length l → part at (suc n) l ≡ get_or l at 0 ∷ part (at + 1) n l
part-cons at n l h = rw (add-one, drop-cons l at 0 h)

pub part-add : (at n m : ℕ) (l : List ℕ) → part at (n + m) l ≡ part at n l ++ part (at + n) m l
part-add at n m l = take-add n m (drop at l) ∙ ap (λ (r : List ℕ). take n (drop at l) ++ take m r) (drop-drop n at l)

-- a part goes on
module _ (l : List ℕ) where
  pub part_on : (at n m : ℕ) {p v : List ℕ} → p ≡ part at n l → v ≡ part (at + n) m l → p ++ v ≡ part at (n + m) l
  part_on at n m {p} {v} e q = ap (λ (r : List ℕ). r ++ v) e ∙ ap (λ (r : List ℕ). part at n l ++ r) q ∙ sym (part-add at n m l)

  pub byte_on : (at n : ℕ) {v : List ℕ} → at < length l → v ≡ part (at + 1) n l → get_or l at 0 ∷ v ≡ part at (suc n) l
  byte_on at n h e = ap (λ (r : List ℕ). get_or l at 0 ∷ r) e ∙ sym (part-cons at n l h)

  -- what stands next in l, and what is left after it
  pub next_run : (at n : ℕ) (a r : List ℕ) → length a ≡ n → drop at l ≡ a ++ r → (part at n l ≡ a) × (drop (at + n) l ≡ r)
  next_run at n a r e h = (ap (take n) h ∙ take_at a r n e, sym (drop-drop n at l) ∙ ap (drop n) h ∙ drop_at a r n e)

  pub next_byte : (at : ℕ) {x : ℕ} {r : List ℕ} → drop at l ≡ x ∷ r → (get_or l at 0 ≡ x) × (drop (at + 1) l ≡ r)
  next_byte at h =
      (ap (λ (k : ℕ). get_or l k 0) (sym (add-zero at)) ∙ sym (get_or-drop at l 0 0) ∙ ap (λ (k : List ℕ). get_or k 0 0) h, sym (drop-drop 1 at l) ∙ ap (drop 1) h)

-- a part of a part is a part
pub part-part : (at n m k : ℕ) (l : List ℕ) → m + k ≤ n → part m k (part at n l) ≡ part (at + m) k l
part-part at n m k l h =
    let e : n ≡ m + (n - m) = omega arith in
    ap (λ (j : ℕ). take k (drop m (take j (drop at l)))) e ∙ ap (take k) (drop-take m (n - m) (drop at l))
    ∙ take-take k (n - m) (drop m (drop at l)) (omega arith) ∙ ap (take k) (drop-drop m at l)

-- a part that lies in the front of two lists
pub part_front : (at n : ℕ) (a b : List ℕ) → at + n ≤ length a → part at n (a ++ b) ≡ part at n a
part_front at n a b h =
    ap (take n) (drop-append-le at a b (omega arith)) ∙ take-append-le n (drop at a) b (simp length-drop (omega arith))

-- a copy over a list that is as long
pub copied : (d v l : List ℕ) → length d ≡ length v → l ≡ take (length v) v ++ drop (length v) d → l ≡ v
copied d v l e p =
    p ∙ ap (λ (r : List ℕ). r ++ drop (length v) d) (take-length v)
    ∙ ap (λ (r : List ℕ). v ++ r) (ap (λ (k : ℕ). drop k d) (sym e) ∙ drop-length d) ∙ append-nil v

-- a part of a list that is all one element
drop_same : (m n x : ℕ) → drop m (replicate (m + n) x) ≡ replicate n x
drop_same zero n x = ap (λ (k : ℕ). replicate k x) (zero-add n)
drop_same (suc m) n x = ap (λ (k : ℕ). drop (suc m) (replicate k x)) (suc-add m n) ∙ drop_same m n x

take_same : (m n x : ℕ) → take m (replicate (m + n) x) ≡ replicate m x
take_same zero n x = refl
take_same (suc m) n x = ap (λ (k : ℕ). take (suc m) (replicate k x)) (suc-add m n) ∙ ap (λ (r : List ℕ). x ∷ r) (take_same m n x)

pub part_same : (at n k x : ℕ) → at + n ≤ k → part at n (replicate k x) ≡ replicate n x
part_same at n k x h =
    let e : k ≡ at + (n + (k - at - n)) = omega arith in
    ap (λ (j : ℕ). part at n (replicate j x)) e ∙ ap (take n) (drop_same at (n + (k - at - n)) x) ∙ take_same n (k - at - n) x
