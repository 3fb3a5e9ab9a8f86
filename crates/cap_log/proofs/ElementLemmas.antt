-- What holds of each element of a list, and the length of a number in decimal.
use Rattle.std.specs.List.{AllByRecursion}
use Rattle.std.proofs.Common.{ℕ, ◌^◌, ◌<◌, ◌≤◌, List, [], ◌∷◌, ◌++◌, length, decimal, arith, rules, lit<}
use Rattle.std.proofs.lemmas.Fmt.{length-decimal-le}

-- what holds of each element of two lists holds of each element of both together
pub AllByRecursion-append : {X : Type 0} (P : X → Type 0) (xs ys : List X) → AllByRecursion P xs → AllByRecursion P ys
    → AllByRecursion P (xs ++ ys)
AllByRecursion-append P [] ys h k = k
AllByRecursion-append P (x ∷ xs) ys h k = (h.0, AllByRecursion-append P xs ys h.1 k)

-- a number of 64 bits has twenty digits at most
pub short_decimal : (n : ℕ) → n < 2 ^ 64 → length (decimal n) ≤ 20
short_decimal n small = length-decimal-le 20 n (lit< tt) (omega arith) small

-- one below 1000 has three
pub few_digits : (n : ℕ) → n < 1000 → length (decimal n) ≤ 3
few_digits n small = length-decimal-le 3 n (lit< tt) small (search rules)
