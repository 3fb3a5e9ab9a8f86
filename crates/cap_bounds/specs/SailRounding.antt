-- How the Sail model of CHERI-RISC-V rounds a request, a base and a length below 2 ^ 64, step by step
-- (Sail CHERI-RISC-V: `setCapBounds`; the names of the steps are the model's). Each value is its bits as a
-- number. A difference that may be below 0 is given the modulus first. That these steps find the rounding
-- of the least exponent is a law, proved on `round`. Steps so marked are this project's reading of the
-- model: of the test of IE, of the widths, and of how lost bits are found.
use Rattle.std.specs.Prelude.{ℕ, ◌+◌, ◌-◌, ◌*◌, ◌/◌, ◌%◌, ◌^◌, Bool, nat_lt, ◌==◌, ◌&&◌, ◌||◌, not, if◌then◌else◌}
use lib.Count.{count_leading_zeros}
use Rattle.cap_word.specs.Fields.{bit_of}

-- e at first: 52 less the leading zeros of the 52 bits 64..13 of the length
unfoldable pub sail_first_e : ℕ → ℕ
sail_first_e length = 52 - count_leading_zeros 52 (length / 2 ^ 13)

-- ie: e is not 0, or bit 12 of the length is set (a reading)
unfoldable pub sail_ie : ℕ → Bool
sail_ie length = nat_lt 0 (sail_first_e length) || length / 2 ^ 12 % 2 == 1

-- whether bits are lost at e: one of the e + 3 low bits of a number is set (a reading)
unfoldable pub sail_lost : ℕ → ℕ → Bool
sail_lost e n = nat_lt 0 (n % 2 ^ (e + 3))

-- B_ie: eleven bits of the base, from bit e + 3 on
abbrev pub sail_b_ie : ℕ → ℕ → ℕ
sail_b_ie e base = base / 2 ^ (e + 3) % 2 ^ 11

-- T_ie: eleven bits of the top, from bit e + 3 on, and one more where bits are lost
abbrev pub sail_t_ie : ℕ → ℕ → Bool → ℕ
sail_t_ie e top lost = (top / 2 ^ (e + 3) % 2 ^ 11 + bit_of lost) % 2 ^ 11

-- incE: e grows, since bit 10 of the difference of T_ie and B_ie, in eleven bits, is set
unfoldable pub sail_inc_e : ℕ → ℕ → ℕ → Bool
sail_inc_e e base top = (sail_t_ie e top (sail_lost e top) + 2 ^ 11 - sail_b_ie e base) % 2 ^ 11 / 2 ^ 10 == 1

-- lostSignificantBase: where e grows, the lowest bit of B_ie is lost too (a reading)
abbrev pub sail_lost_base : ℕ → ℕ → ℕ → Bool
sail_lost_base e base top = sail_lost e base || (sail_inc_e e base top && sail_b_ie e base % 2 == 1)

-- lostSignificantTop: where e grows, the lowest bit of T_ie, one more or not, is lost too (a reading)
abbrev pub sail_lost_top : ℕ → ℕ → ℕ → Bool
sail_lost_top e base top = sail_lost e top || (sail_inc_e e base top && sail_t_ie e top (sail_lost e top) % 2 == 1)

-- e at last, of a request with ie
abbrev pub sail_last_e : ℕ → ℕ → ℕ → ℕ
sail_last_e e base top = e + bit_of (sail_inc_e e base top)

-- the exponent that the model gives a request
unfoldable pub sail_exponent : ℕ → ℕ → ℕ
sail_exponent base length = if sail_ie length then sail_last_e (sail_first_e length) base (base + length) else 0

-- B: B_ie at the last e and three zeros, or fourteen bits of the base
unfoldable pub sail_b : ℕ → ℕ → ℕ
sail_b base length = if sail_ie length then sail_b_ie
    (sail_last_e (sail_first_e length) base (base + length)) base * 2 ^ 3 else base % 2 ^ 14

-- T: T_ie at the last e and three zeros, or fourteen bits of the top
unfoldable pub sail_t : ℕ → ℕ → ℕ
sail_t base length =
    let e = sail_first_e length in
    let top = base + length in
    if sail_ie length then sail_t_ie (sail_last_e e base top) top (sail_lost_top e base top) * 2 ^ 3 else top % 2 ^ 14

-- exact: no bits are lost
unfoldable pub sail_exact : ℕ → ℕ → Bool
sail_exact base length =
    let e = sail_first_e length in
    let top = base + length in
    not (sail_ie length && (sail_lost_base e base top || sail_lost_top e base top))
