-- Laws of the two bytes: what reading them answers, and the words of contexts, joined. Assumes nothing.
use Rattle.std.specs.Result.{result_and}
use Rattle.std.specs.Prelude.{Result, Ok, Err}
use mathlib.Core.Path.{◌≡◌, refl, sym, ap, ap₂, ◌∙◌}
use mathlib.Core.Bool.{Bool, true, false, cond, ◌&&◌}
use mathlib.Core.List.{List}
use Prim.Native.Nat.{ℕ, ◌+◌, ◌*◌, ◌%◌, ◌^◌, ◌<◌}
use native.Mathlib.Decide.{dec_lt}
use native.Mathlib.Omega.{arith}
use borrow.Author.Tests.{ltb-true, lt-ltb, le-ltb}
use lib.Dec.{ltb}
use lib.Bits.{bit_or, or_lt, or_mod, or_add_and, and_le_l, and_le_r}
use lib.ListN.{get_or}
use Rattle.error.specs.Numbers.{done}
use Rattle.error.specs.declared.DpeErrorCode.{DpeErrorCode}
use Rattle.children.proofs.Cases.{and-true, and_both, and_right}
use Rattle.wire.specs.Le.{part}
use Rattle.wire.proofs.Part.{get_d_part}
use Rattle.image_kinds.specs.Kinds.{context_size, state_byte_in, type_byte_in, state_answer, type_answer, context_answer, is_good, kind_word, good_word}

-- ---- what reading a context answers

pub first_done : (a b : Result Unit DpeErrorCode) → result_and a b ≡ done → (a ≡ done) × (b ≡ done)
first_done (Ok tt) b h = (refl, h)
first_done (Err e) b h = absurd (let z : ◌≡◌ {A = ℕ} 0 1 = cc in omega arith)

module _ (e : DpeErrorCode) where
  fine : (t : Bool) → cond t done (Err e) ≡ done → t ≡ true
  fine true h = refl
  fine false h = absurd (let z : ◌≡◌ {A = ℕ} 0 1 = cc in omega arith)

module _ (l : List ℕ) where
  pub done-bytes : context_answer l ≡ done → (state_byte_in l < 3) × (type_byte_in l < 2)
  unfolding context_answer
  done-bytes h =
      let w = first_done (state_answer (state_byte_in l)) (type_answer (type_byte_in l)) h in
      (ltb-true _ _ (fine _ _ w.0), ltb-true _ _ (fine _ _ w.1))

  pub bytes_done : state_byte_in l < 3 → type_byte_in l < 2 → context_answer l ≡ done
  unfolding context_answer
  bytes_done s t = rw (lt-ltb _ _ s, lt-ltb _ _ t)

  pub done_good : context_answer l ≡ done → is_good l ≡ true
  unfolding is_good
  done_good h = let w = done-bytes h in and_both (lt-ltb _ _ w.0) (lt-ltb _ _ w.1)

  -- a good context is read
  pub good_done : is_good l ≡ true → context_answer l ≡ done
  unfolding is_good
  good_done h = let w = and-true _ _ h in bytes_done (ltb-true _ _ w.0) (ltb-true _ _ w.1)

-- the same, by the bytes of a longer list
pub answer-is : (l : List ℕ) (at : ℕ) {a b r : Result Unit DpeErrorCode} → a ≡ state_answer (get_or l (at + 138) 0) → b ≡ type_answer (get_or l (at + 137) 0) → r ≡ result_and a b
    → r ≡ context_answer (part at context_size l)
unfolding context_answer
answer-is l at p q e =
    e ∙ ap₂ result_and (p ∙ ap state_answer (sym (get_d_part at context_size 138 l (omega arith)))) (q ∙ ap type_answer (sym (get_d_part at context_size 137 l (omega arith))))

-- ---- the words of contexts, joined

-- a word of bits is below a power of two just where both of its parts are
or-below : (k a b : ℕ) → ltb (bit_or a b) (2 ^ k) ≡ (ltb a (2 ^ k) && ltb b (2 ^ k))
or-below k a b = elim (dec_lt a (2 ^ k)) [
  | yes h ↦ elim (dec_lt b (2 ^ k)) [
    | yes g ↦ rw (lt-ltb _ _ h, lt-ltb _ _ g, lt-ltb _ _ (or_lt k a b h g))
    | no ng ↦ rw (lt-ltb _ _ h, le-ltb b (2 ^ k) (omega arith), le-ltb (bit_or a b) (2 ^ k) (omega (arith, or_add_and a b, and_le_l a b)))
  ]
  | no nh ↦ rw (le-ltb a (2 ^ k) (omega arith), le-ltb (bit_or a b) (2 ^ k) (omega (arith, or_add_and a b, and_le_r a b)))
]

turned : (a b c d : Bool) → ((a && b) && (c && d)) ≡ ((a && c) && (b && d))
turned true true c d = refl
turned true false true d = refl
turned true false false d = refl
turned false b c d = refl

-- joined words are good just where both are
pub good-joined : (a b : ℕ) → good_word (bit_or a b) ≡ (good_word a && good_word b)
unfolding good_word
good-joined a b =
    ap₂ ◌&&◌ (ap (λ (x : ℕ). ltb x 2) (or_mod a b 8) ∙ or-below 1 (a % 256) (b % 256)) (or-below 10 a b)
    ∙ turned (ltb (a % 256) 2) (ltb (b % 256) 2) (ltb a 1024) (ltb b 1024)

-- and the word of a context just where the context is
pub good-kind : (l : List ℕ) → type_byte_in l < 256 → good_word (kind_word l) ≡ is_good l
unfolding good_word is_good
good-kind l h =
    let t : ℕ = type_byte_in l in
    let s : ℕ = state_byte_in l in
    let e : (t + 256 * s + 256) % 256 ≡ t = omega arith in
    ap (λ (x : ℕ). ltb x 2 && ltb (t + 256 * s + 256) 1024) e ∙ elim (dec_lt t 2) [
      | yes k ↦ elim (dec_lt s 3) [
        | yes g ↦ rw (lt-ltb t 2 k, lt-ltb s 3 g, lt-ltb (t + 256 * s + 256) 1024 (omega arith))
        | no ng ↦ rw (lt-ltb t 2 k, le-ltb s 3 (omega arith), le-ltb (t + 256 * s + 256) 1024 (omega arith))
      ]
      | no nk ↦ rw (le-ltb t 2 (omega arith)) (sym (and_right (ltb s 3) refl))
    ]
