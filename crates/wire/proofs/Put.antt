-- Laws of bytes that are put into a list. Assumes nothing.
use mathlib.Core.Path.{◌≡◌, refl, sym, ap, ◌∙◌}
use mathlib.Core.Logic.{◌⊎◌, inl, inr}
use mathlib.Core.List.{List, [], ◌++◌, append_assoc, append-nil}
use Prim.Native.Nat.{ℕ, ◌+◌, ◌-◌, ◌≤◌, ◌<◌}
use native.Mathlib.Nat.{add_assoc, add-zero, zero-add}
use native.Mathlib.Omega.{arith}
use borrow.Rule.Slice.PartMut.{put_mid}
use lib.ListN.{length, take, drop, get_or, length-append, length-drop, take-append-drop}
use lib.Seq.{drop-length, take-take, drop-drop, length-take-le, take_at, drop_at, sets, sets-eq, take-append-add, drop-append-le}
use Rattle.std.proofs.lemmas.List.{drop-take}
use Rattle.wire.specs.Le.{part, put}
use Rattle.wire.proofs.Part.{get_d_part, part-part, part_front}

length_head : (at : ℕ) (v l : List ℕ) → at + length v ≤ length l → length (take at l ++ v) ≡ at + length v
length_head at v l h = length-append (take at l) v ∙ ap (λ (k : ℕ). k + length v) (length-take-le at l (omega arith))

pub length-put : (at : ℕ) (v l : List ℕ) → at + length v ≤ length l → length (put at v l) ≡ length l
unfolding put
length-put at v l h = simp (length-append, length-drop) (omega (arith, length-take-le at l (omega arith)))

pub put-nil : (at : ℕ) (l : List ℕ) → put at [] l ≡ l
unfolding put
put-nil at l = rw add-zero (ap (λ (r : List ℕ). r ++ drop at l) (append-nil (take at l)) ∙ take-append-drop at l)

pub put_all : (v l : List ℕ) → length v ≡ length l → put 0 v l ≡ v
unfolding put
put_all v l e = rw (zero-add, e, drop-length) (append-nil v)

-- what stores, and a part that was lent and is back, leave
pub put_sets : (at : ℕ) (v l : List ℕ) → at + length v ≤ length l → sets l at v ≡ put at v l
unfolding put
put_sets at v l h = sets-eq v l at h

pub put_mid_lem : (at k : ℕ) (v l : List ℕ) → length v ≡ k → put_mid at k l v ≡ put at v l
unfolding put
put_mid_lem at k v l e =
    ap (λ (r : List ℕ). take at l ++ (v ++ r)) (drop-drop k at l ∙ ap (λ (n : ℕ). drop (at + n) l) (sym e))
    ∙ sym (append_assoc (take at l) v (drop (at + length v) l))

-- ---- two puts, one right after the other

take_put : (at : ℕ) (v l : List ℕ) → at + length v ≤ length l → take (at + length v) (put at v l) ≡ take at l ++ v
unfolding put
take_put at v l h = take_at (take at l ++ v) (drop (at + length v) l) (at + length v) (length_head at v l h)

drop-put : (at : ℕ) (v l : List ℕ) → at + length v ≤ length l → drop (at + length v) (put at v l) ≡ drop (at + length v) l
unfolding put
drop-put at v l h = drop_at (take at l ++ v) (drop (at + length v) l) (at + length v) (length_head at v l h)

put-put : (at : ℕ) (v w l : List ℕ) → at + length v + length w ≤ length l → put (at + length v) w (put at v l) ≡ put at (v ++ w) l
unfolding put
put-put at v w l h =
    let n : ℕ = at + length v in
    let e : drop (n + length w) (put at v l) ≡ drop (n + length w) l
    = sym (drop-drop (length w) n (put at v l)) ∙ ap (drop (length w)) (drop-put at v l (omega arith)) ∙ drop-drop (length w) n l in
    ap (λ (r : List ℕ). r ++ w ++ drop (n + length w) (put at v l)) (take_put at v l (omega arith))
    ∙ ap (λ (r : List ℕ). take at l ++ v ++ w ++ r) e
    ∙ ap (λ (r : List ℕ). r ++ drop (n + length w) l) (append_assoc (take at l) v w)
    ∙ ap (λ (k : ℕ). take at l ++ (v ++ w) ++ drop k l) (add_assoc at (length v) (length w) ∙ ap (λ (k : ℕ). at + k) (sym (length-append v w)))

pub put_next : (at n : ℕ) (v w l : List ℕ) {l' l'' : List ℕ} → length v ≡ n → at + n + length w ≤ length l
    → l' ≡ put at v l → l'' ≡ put (at + n) w l' → l'' ≡ put at (v ++ w) l
put_next at n v w l e h p q =
    q ∙ ap (put (at + n) w) p ∙ ap (λ (k : ℕ). put (at + k) w (put at v l)) (sym e)
    ∙ put-put at v w l (omega arith)

-- runs written one after the other: l' is l with the n bytes v at `at`
pub record Wrote (at n : ℕ) (v l l' : List ℕ) : Type 0 where
  pub size : length v ≡ n
  pub bytes : l' ≡ put at v l

pub wrote-more : (at n m : ℕ) {v l l' l'' : List ℕ} (w : List ℕ) → at + n + m ≤ length l → Wrote at n v l l' → length w ≡ m → l'' ≡ put (at + n) w l'
    → Wrote at (n + m) (v ++ w) l l''
wrote-more at n m {v} {l} w h p k q = record {
  size = length-append v w ∙ omega (arith, p.size);
  bytes = put_next at n v w l p.size (omega arith) p.bytes q;
}

-- ---- the parts after a put

module _ (at : ℕ) (v l : List ℕ) (h : at + length v ≤ length l) where
  pub part-put_own : part at (length v) (put at v l) ≡ v
  unfolding put
  part-put_own =
      let n : length (take at l) ≡ at = length-take-le at l (omega arith) in
      ap (take (length v))
      (drop-append-le at (take at l ++ v) (drop (at + length v) l) (omega (arith, length_head at v l h))
      ∙ ap (λ (r : List ℕ). r ++ drop (at + length v) l) (drop_at (take at l) v at n))
      ∙ take_at v (drop (at + length v) l) (length v) refl

  pub get_or-put_own : (i : ℕ) → i < length v → get_or (put at v l) (at + i) 0 ≡ get_or v i 0
  get_or-put_own i u = sym (get_d_part at (length v) i (put at v l) u) ∙ ap (λ (x : List ℕ). get_or x i 0) part-put_own

  part-put-before : (a n : ℕ) → a + n ≤ at → part a n (put at v l) ≡ part a n l
  unfolding put
  part-put-before a n u =
      let k : length (take at l) ≡ at = length-take-le at l (omega arith) in
      part_front a n (take at l ++ v) (drop (at + length v) l) (omega (arith, length_head at v l h)) ∙ part_front a n (take at l) v (omega arith)
      ∙ part-part 0 at a n l u ∙ ap (λ (j : ℕ). part j n l) (zero-add a)

  part-put-after : (a n : ℕ) → at + length v ≤ a → part a n (put at v l) ≡ part a n l
  part-put-after a n u =
      let b : ℕ = at + length v in
      let e : b + (a - b) ≡ a = omega arith in
      ap (take n)
      (ap (λ (j : ℕ). drop j (put at v l)) (sym e) ∙ sym (drop-drop (a - b) b (put at v l)) ∙ ap (drop (a - b)) (drop-put at v l h)
      ∙ drop-drop (a - b) b l ∙ ap (λ (j : ℕ). drop j l) e)

  -- a part that does not overlap the bytes put is as it was
  pub part-put-other : (a n : ℕ) → (a + n ≤ at) ⊎ (at + length v ≤ a) → part a n (put at v l) ≡ part a n l
  part-put-other a n (inl u) = part-put-before a n u
  part-put-other a n (inr u) = part-put-after a n u

  pub get_or-put-other : (a : ℕ) → (a < at) ⊎ (at + length v ≤ a) → get_or (put at v l) a 0 ≡ get_or l a 0
  get_or-put-other a u =
      let one : (x : List ℕ) → get_or (part a 1 x) 0 0 ≡ get_or x a 0 = λ x. get_d_part a 1 0 x (omega arith) ∙ ap (λ (j : ℕ). get_or x j 0) (add-zero a) in
      sym (one (put at v l)) ∙ ap (λ (x : List ℕ). get_or x 0 0) (part-put-other a 1 (sides u)) ∙ one l
    where
      sides : (a < at) ⊎ (at + length v ≤ a) → (a + 1 ≤ at) ⊎ (at + length v ≤ a)
      sides (inl u) = inl (omega arith)
      sides (inr u) = inr u

-- a put inside a part is a put into that part
drop-put_in : (a j : ℕ) (v l : List ℕ) → a + j + length v ≤ length l → drop a (put (a + j) v l) ≡ put j v (drop a l)
unfolding put
drop-put_in a j v l h =
    let n : length (take (a + j) l) ≡ a + j = length-take-le (a + j) l (omega arith) in
    drop-append-le a (take (a + j) l ++ v) (drop (a + j + length v) l) (omega (arith, length_head (a + j) v l h))
    ∙ ap (λ (r : List ℕ). r ++ drop (a + j + length v) l)
    (drop-append-le a (take (a + j) l) v (omega arith) ∙ ap (λ (r : List ℕ). r ++ v) (drop-take a j l))
    ∙ ap (λ (r : List ℕ). take j (drop a l) ++ v ++ r) (ap (λ (k : ℕ). drop k l) (add_assoc a j (length v)) ∙ sym (drop-drop (j + length v) a l))

take-put_in : (n j : ℕ) (v l : List ℕ) → j + length v ≤ n → n ≤ length l → take n (put j v l) ≡ put j v (take n l)
unfolding put
take-put_in n j v l h u =
    let m : ℕ = j + length v in
    let k : ℕ = n - m in
    let e : n ≡ m + k = omega arith in
    let x : List ℕ = take j l ++ v in
    let w : length x ≡ m = length_head j v l (omega arith) in
    ap (λ (i : ℕ). take i (x ++ drop m l)) (e ∙ ap (λ (i : ℕ). i + k) (sym w)) ∙ take-append-add x (drop m l) k
    ∙ ap (λ (r : List ℕ). x ++ r) (sym (drop-take m k l) ∙ ap (λ (i : ℕ). drop m (take i l)) (sym e))
    ∙ ap (λ (r : List ℕ). r ++ v ++ drop m (take n l)) (sym (take-take j n l (omega arith)))

pub part-put_in : (a n j : ℕ) (v l : List ℕ) → j + length v ≤ n → a + n ≤ length l → part a n (put (a + j) v l) ≡ put j v (part a n l)
part-put_in a n j v l h u = ap (take n) (drop-put_in a j v l (omega arith)) ∙ take-put_in n j v (drop a l) h (simp length-drop (omega arith))
