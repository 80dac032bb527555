-- Laws of the lines' text: one text put behind another, number by number. Assumes nothing.
use Prim.Native.Nat.{ℕ, ◌+◌, ◌≤◌, ◌<◌}
use mathlib.Core.Path.{◌≡◌, refl, ap, ◌∙◌}
use mathlib.Core.List.{List, [], ◌∷◌, ◌++◌}
use native.Mathlib.Omega.{arith}
use lib.ListN.{length, length-append, set}
use Rattle.children.specs.Marks.{slot_count, count_below}
use Rattle.wire.specs.Le.{put}
use Rattle.wire.proofs.Put.{length-put, put_next, put_sets}
use Rattle.image_context.specs.Context.{state_byte, type_byte}
use Rattle.view.specs.declared.SlotFields.{SlotFields}
use Rattle.text_row.specs.Row.{digits_most, decimal_of, space, newline, number_then, verdict_word, verdict_line, row_of, number_most, PutAt}

-- ---- one text behind another

pub put-more : {at r r' : ℕ} {v w l l' l'' : List ℕ} → PutAt at v l l' r → PutAt r w l' l'' r' → r' ≤ length l → PutAt at (v ++ w) l l'' r'
put-more {at} {r} {r'} {v} {w} {l} {l'} {l''} a b h =
    let q : l'' ≡ put (at + length v) w l' = b.bytes ∙ ap (λ (k : ℕ). put k w l') a.place in
    record {
      bytes = put_next at (length v) v w l refl (omega (arith, a.place, b.place)) a.bytes q;
      place = omega (arith, a.place, b.place, length-append v w);
    }

put_start : {at r n : ℕ} {v l l' : List ℕ} → PutAt at v l l' r → r ≤ n → at ≤ n
put_start a h = omega (arith, a.place)

pub put-size : {at r : ℕ} {v l l' : List ℕ} → PutAt at v l l' r → r ≤ length l → length l' ≡ length l
put-size {at} {r} {v} {l} {l'} a h = ap length a.bytes ∙ length-put at v l (omega (arith, a.place))

put_byte : (at m : ℕ) (l : List ℕ) → at < length l → PutAt at (m ∷ []) l (set l at m) (at + 1)
put_byte at m l h = record { bytes = put_sets at (m ∷ []) l (omega arith); place = refl }

-- ---- lines

-- digits, and the byte behind them
pub number_put : (at n mark k : ℕ) (l l' v : List ℕ) → at + number_most ≤ length l → k ≤ digits_most → v ≡ decimal_of n → k ≡ length v → l' ≡ put at v l
    → PutAt at (number_then n mark) l (set l' (at + k) mark) (at + k + 1)
unfolding number_then
number_put at n mark k l l' v h u e m p =
    let a : PutAt at v l l' (at + k) = record { bytes = p; place = ap (λ (j : ℕ). at + j) m } in
    let g : at + k < length l' = omega (arith, put-size a (omega arith)) in
    let z : PutAt at (v ++ (mark ∷ [])) l (set l' (at + k) mark) (at + k + 1) = put-more a (put_byte (at + k) mark l' g) (omega arith) in
    rw e at z

-- the first line, number by number
pub verdict-put : (outer inner : ℕ) {a r : ℕ} {l l₁ l₂ l₃ : List ℕ} → r ≤ length l → l₁ ≡ put 0 verdict_word l
    → PutAt 8 (number_then outer space) l₁ l₂ a → PutAt a (number_then inner newline) l₂ l₃ r → PutAt 0 (verdict_line outer inner) l l₃ r
unfolding verdict_line
verdict-put outer inner h p a b = put-more (put-more (record { bytes = p; place = refl }) a (put_start b h)) b h

module _ (i : ℕ) (f : SlotFields) where
  -- a slot's line, number by number
  pub row_put : {at a b c d e r : ℕ} {l l₁ l₂ l₃ l₄ l₅ l₆ : List ℕ} → r ≤ length l
      → PutAt at (number_then i space) l l₁ a → PutAt a (number_then (state_byte f.state) space) l₁ l₂ b
      → PutAt b (number_then (type_byte f.context_type) space) l₂ l₃ c → PutAt c (number_then f.locality space) l₃ l₄ d
      → PutAt d (number_then f.parent_idx space) l₄ l₅ e → PutAt e (number_then (count_below slot_count f.children) newline) l₅ l₆ r
      → PutAt at (row_of i f) l l₆ r
  unfolding row_of
  row_put h w₁ w₂ w₃ w₄ w₅ w₆ =
      let h₅ = put_start w₆ h in
      let h₄ = put_start w₅ h₅ in
      let h₃ = put_start w₄ h₄ in
      let h₂ = put_start w₃ h₃ in
      put-more (put-more (put-more (put-more (put-more w₁ w₂ h₂) w₃ h₃) w₄ h₄) w₅ h₅) w₆ h
