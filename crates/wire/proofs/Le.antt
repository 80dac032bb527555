-- Laws of little-endian numbers. Assumes nothing.
use mathlib.Core.Path.{◌≡◌, refl, sym, ap, subst, ◌∙◌}
use mathlib.Core.List.{List, [], ◌∷◌, ◌++◌}
use Prim.Native.Nat.{ℕ, zero, suc, ◌+◌, ◌-◌, ◌*◌, ◌/◌, ◌%◌, ◌^◌, ◌≤◌, ◌<◌}
use native.Mathlib.Nat.{mul_assoc, mul_comm, not-suc-le-zero, pow-suc, pow-succ'}
use native.Mathlib.Omega.{arith}
use lib.Dec.{lit<}
use lib.ListN.{length, take, drop, get_or}
use lib.Seq.{get_or-drop, take-suc, take-length, length-take-le}
use mir.Val.{Fits}
use Rattle.std.specs.Int.{Width, w8, w16, w32, w64, w128, byte_len, byte_worth, sum_through, from_le_bytes}
use Rattle.std.specs.Prelude.{slice_index}
use Rattle.wire.specs.Le.{part, put, le, le_bytes, Bytes}
use Rattle.wire.proofs.Part.{length_part}

-- ---- runs of bytes

each_take : (n : ℕ) (l : List ℕ) → ((i : ℕ) → get_or l i 0 < 256) → (i : ℕ) → get_or (take n l) i 0 < 256
each_take zero l h i = omega arith
each_take (suc n) [] h i = omega arith
each_take (suc n) (x ∷ l) h zero = h zero
each_take (suc n) (x ∷ l) h (suc i) = each_take n l (λ j. h (suc j)) i

each_append : (a b : List ℕ) → ((i : ℕ) → get_or a i 0 < 256) → ((i : ℕ) → get_or b i 0 < 256) → (i : ℕ) → get_or (a ++ b) i 0 < 256
each_append [] b p q i = q i
each_append (x ∷ a) b p q zero = p zero
each_append (x ∷ a) b p q (suc i) = each_append a b (λ j. p (suc j)) q i

-- what a lent slice of bytes is known to hold
pub bytes_known : {l : List ℕ} → ((i : ℕ) → Fits w8 (get_or l i 0)) → Bytes l
bytes_known f = record { each = λ i. (f i).fits }

pub bytes_none : Bytes []
bytes_none = record { each = λ i. omega arith }

pub bytes-cons : {x : ℕ} {l : List ℕ} → x < 256 → Bytes l → Bytes (x ∷ l)
bytes-cons {x} {l} h b = record { each = all }
  where
    all : (i : ℕ) → get_or (x ∷ l) i 0 < 256
    all zero = h
    all (suc i) = b.each i

pub bytes_take : (n : ℕ) {l : List ℕ} → Bytes l → Bytes (take n l)
bytes_take n {l} b = record { each = each_take n l b.each }

pub bytes_drop : (n : ℕ) {l : List ℕ} → Bytes l → Bytes (drop n l)
bytes_drop n {l} b = record { each = λ i. subst (λ (k : ℕ). k < 256) (sym (get_or-drop n l i 0)) (b.each (n + i)) }

pub bytes-part : (at n : ℕ) {l : List ℕ} → Bytes l → Bytes (part at n l)
bytes-part at n b = bytes_take n (bytes_drop at b)

pub bytes-append : {a b : List ℕ} → Bytes a → Bytes b → Bytes (a ++ b)
bytes-append {a} {b} p q = record { each = each_append a b p.each q.each }

pub bytes-put : (at : ℕ) {v l : List ℕ} → Bytes v → Bytes l → Bytes (put at v l)
unfolding put
bytes-put at {v} p q = bytes-append (bytes-append (bytes_take at q) p) (bytes_drop (at + length v) q)

pub bytes-le_bytes : (n x : ℕ) → Bytes (le_bytes n x)
unfolding le_bytes
bytes-le_bytes zero x = bytes_none
bytes-le_bytes (suc n) x = bytes-cons (omega arith) (bytes-le_bytes n (x / 256))

-- ---- the number of a list

le-append : (a b : List ℕ) → le (a ++ b) ≡ le a + 256 ^ length a * le b
unfolding le
le-append [] b = omega arith
le-append (x ∷ a) b =
    let ih : le (a ++ b) ≡ le a + 256 ^ length a * le b = le-append a b in
    let e : 256 ^ suc (length a) * le b ≡ 256 * (256 ^ length a * le b) = rw (pow-succ' 256 (length a), mul_assoc) in
    omega arith

bytes_tail : {x : ℕ} {l : List ℕ} → Bytes (x ∷ l) → (x < 256) × Bytes l
bytes_tail b = (b.each 0, record { each = λ i. b.each (suc i) })

pub le-small : (l : List ℕ) → Bytes l → le l < 256 ^ length l
unfolding le
le-small [] h = lit< tt
le-small (x ∷ l) h =
    let b : x < 256 = (bytes_tail h).0 in
    let ih : le l < 256 ^ length l = le-small l (bytes_tail h).1 in
    rw (pow-suc 256 (length l)) (omega arith)

-- ---- the bytes of a number

pub length-le_bytes : (n x : ℕ) → length (le_bytes n x) ≡ n
unfolding le_bytes
length-le_bytes zero x = refl
length-le_bytes (suc n) x = ap suc (length-le_bytes n (x / 256))

pub le-le_bytes : (n x : ℕ) → x < 256 ^ n → le (le_bytes n x) ≡ x
unfolding le le_bytes
le-le_bytes zero x h = let z : x < 1 = h in omega arith
le-le_bytes (suc n) x h =
    let u : x < 256 ^ n * 256 = rw (pow-suc 256 n) at h in
    let e : le (le_bytes n (x / 256)) ≡ x / 256 = le-le_bytes n (x / 256) (omega arith) in
    rw e (omega arith)

pub le_bytes-le : (l : List ℕ) → Bytes l → le_bytes (length l) (le l) ≡ l
unfolding le le_bytes
le_bytes-le [] h = refl
le_bytes-le (x ∷ l) h =
    let b : x < 256 = (bytes_tail h).0 in
    let d : (x + 256 * le l) / 256 ≡ le l = omega arith in
    let m : (x + 256 * le l) % 256 ≡ x = omega arith in
    rw (d, m) (ap (λ (r : List ℕ). x ∷ r) (le_bytes-le l (bytes_tail h).1))

pub number_back : (l : List ℕ) (at n : ℕ) → Bytes l → at + n ≤ length l → le_bytes n (le (part at n l)) ≡ part at n l
number_back l at n h f = ap (λ (k : ℕ). le_bytes k (le (part at n l))) (sym (length_part at n l f)) ∙ le_bytes-le (part at n l) (bytes-part at n h)

-- ---- std's numbers of bytes

sum_front : (l : List ℕ) (n : ℕ) → n < length l → sum_through (λ i. byte_worth i (slice_index l i)) n ≡ le (take (suc n) l)
unfolding le
sum_front [] zero h = absurd (not-suc-le-zero h)
sum_front (x ∷ l) zero h = omega arith
sum_front l (suc n) h =
    let b : ℕ = get_or l (suc n) 0 in
    let e : le (take (suc (suc n)) l) ≡ le (take (suc n) l) + 256 ^ suc n * le (b ∷ [])
    = ap le (take-suc l (suc n) 0 h) ∙ le-append (take (suc n) l) (b ∷ [])
    ∙ ap (λ (k : ℕ). le (take (suc n) l) + 256 ^ k * le (b ∷ [])) (length-take-le (suc n) l (omega arith)) in
    let one : le (b ∷ []) ≡ b = omega arith in
    let m : 256 ^ suc n * le (b ∷ []) ≡ b * 256 ^ suc n = ap (λ (k : ℕ). 256 ^ suc n * k) one ∙ mul_comm (256 ^ suc n) b in
    ap (λ (k : ℕ). k + b * 256 ^ suc n) (sum_front l n (omega arith)) ∙ ap (λ (k : ℕ). le (take (suc n) l) + k) (sym m) ∙ sym e

byte_len_pos : (w : Width) → 0 < byte_len w
byte_len_pos w8 = lit< tt
byte_len_pos w16 = lit< tt
byte_len_pos w32 = lit< tt
byte_len_pos w64 = lit< tt
byte_len_pos w128 = lit< tt

-- the number of some bytes, as std reads them
pub le_std : (w : Width) (l : List ℕ) → length l ≡ byte_len w → from_le_bytes w l ≡ le l
le_std w l h =
    let pos : 0 < byte_len w = byte_len_pos w in
    let n : suc (byte_len w - 1) ≡ length l = omega arith in
    sum_front l (byte_len w - 1) (omega arith) ∙ ap (λ (k : ℕ). le (take k l)) n ∙ ap le (take-length l)
