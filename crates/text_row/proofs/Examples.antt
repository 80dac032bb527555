-- Numbers written out, those at the edges. Assumes nothing.
use mathlib.Core.Path.{◌≡◌, refl}
use mathlib.Core.List.{[], ◌∷◌}
use Rattle.text_row.specs.Row.{decimal_from, decimal_of}

-- `0`, `10` and the largest number of 32 bits
zero_text : decimal_of 0 ≡ 48 ∷ []
unfolding decimal_of decimal_from
zero_text = refl

ten_text : decimal_of 10 ≡ 49 ∷ 48 ∷ []
unfolding decimal_of decimal_from
ten_text = refl

largest_text : decimal_of 0xffffffff ≡ 52 ∷ 50 ∷ 57 ∷ 52 ∷ 57 ∷ 54 ∷ 55 ∷ 50 ∷ 57 ∷ 53 ∷ []
unfolding decimal_of decimal_from
largest_text = refl
