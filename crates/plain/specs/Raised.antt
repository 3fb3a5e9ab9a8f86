-- Windows may begin below 0, and so may what lies in them: plain programs use signed numbers. The definitions of
-- bounds are given all such numbers 2 ^ 66 higher, where they are natural.
use Rattle.std.specs.Prelude.{ℕ, suc, ◌+◌, ◌-◌, ◌^◌, ◌<◌, ℤ, pos, negsuc}

-- a number 2 ^ 66 higher
abbrev pub raised : ℤ → ℕ
raised (pos n) = n + 2 ^ 66
raised (negsuc n) = 2 ^ 66 - suc n

-- a number from -2 ^ 66 on and below a limit
abbrev pub IsNear : ℕ → ℤ → Type 0
IsNear limit (pos n) = n < limit
IsNear limit (negsuc n) = n < 2 ^ 66
