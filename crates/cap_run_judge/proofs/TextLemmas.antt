-- How long the texts of verdicts are, and what a text at the front of a buffer says.
use Rattle.std.proofs.Common.{◌≡◌, ℕ, ◌<◌, ◌≤◌, ◌^◌, List, length, decimal, drop, arith, lit<}
use Rattle.std.proofs.lemmas.Fmt.{length-decimal-le}
use Rattle.cap_streams.specs.Written.{Writes}

-- a number of 32 bits has ten digits at most
pub count_digits : (n : ℕ) → n < 2 ^ 32 → length (decimal n) ≤ 10
count_digits n small = length-decimal-le 10 n (lit< tt) (omega arith) (omega arith)

-- the number of a hart has five
pub hart_digits : (n : ℕ) → n < 2 ^ 16 → length (decimal n) ≤ 5
hart_digits n small = length-decimal-le 5 n (lit< tt) (omega arith) (omega arith)

-- a text at the front ends where it is long
pub front_ends : (end : ℕ) (text old new : List ℕ) → Writes 0 text old new end → end ≡ length text
front_ends end text old new writes = omega (arith, writes.ends)

-- and the rest stays
pub front_rest : (end : ℕ) (text old new : List ℕ) → Writes 0 text old new end → drop end new ≡ drop end old
front_rest end text old new writes = writes.rest end (omega arith)
