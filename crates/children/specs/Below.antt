-- The numbers below n: how many pass a test, whether some or all do, the lowest that does, and the list of what a function says of them.
-- Assumes nothing: these are definitions.
use Rattle.std.specs.Prelude.{Bool, true, false, cond, ◌&&◌, ◌||◌, List, [], ◌∷◌, ◌++◌, ℕ, zero, suc}

-- how many i below n pass
unfoldable pub count : (ℕ → Bool) → ℕ → ℕ
count p zero = 0
count p (suc n) = cond (p n) (suc (count p n)) (count p n)

-- whether some i below n passes
unfoldable pub some : (ℕ → Bool) → ℕ → Bool
some p zero = false
some p (suc n) = some p n || p n

-- whether every i below n passes
unfoldable pub every : (ℕ → Bool) → ℕ → Bool
every p zero = true
every p (suc n) = every p n && p n

-- the lowest number from k on that passes, where g numbers are looked at; k + g where none does
unfoldable pub lowest_from : (ℕ → Bool) → ℕ → ℕ → ℕ
lowest_from p zero k = k
lowest_from p (suc g) k = cond (p k) k (lowest_from p g (suc k))

-- the lowest i below n that passes; n where none does
abbrev pub lowest : (ℕ → Bool) → ℕ → ℕ
lowest p n = lowest_from p n 0

-- f 0, f 1, .. of the numbers below n
unfoldable pub list_of : {A : Type 0} → (ℕ → A) → ℕ → List A
list_of f zero = []
list_of f (suc n) = list_of f n ++ (f n ∷ [])
