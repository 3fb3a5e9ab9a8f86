-- Up to four digits at the front of four bytes that are taken as one number.
use Rattle.std.specs.{Char.digit_value, Int.{from_le_bytes}, Str.Parse.{AllDigits, digits_value}}
use Rattle.std.proofs.Common.{◌≡◌, ℕ, zero, suc, ◌+◌, ◌*◌, ◌/◌, ◌%◌, ◌^◌, ◌<◌, ◌≤◌, true, cond, List, [], ◌∷◌, length, take, get_or}
use Rattle.std.proofs.Common.{refl, ap, ◌∙◌, arith, inl, inr, subst, w32}
use Rattle.std.proofs.lemmas.Bool.{agree_below_at, cases_lt, eqb-true, le-ltb, lt-ltb}
use Rattle.std.proofs.lemmas.Nat.{and_block, and_le_r, le_bytes_4, or_block, or_comm, or_lt, or_shifted, xor_block, xor_lt}
use Rattle.std.proofs.Math.Nat.{add-zero, pow-suc}
use lib.Bits.{bit_and, bit_or, bit_xor}
use lib.Count.{count_trailing_zeros}
use lib.Dec.{ltb, eqb}
use Rattle.cap_log.specs.Parts.{IsFrontNumber}
use Rattle.cap_log.proofs.Decimals.{digit_value-is}

-- what a byte is in the number: its value, where it is a digit
abbrev value : ℕ → ℕ
value b = bit_xor b 48

-- bytes as one number, and so their values, what is added to them and where the flags are
abbrev number : (ℕ → ℕ) → List ℕ → ℕ
number f [] = 0
number f (b ∷ bs) = number f bs * 256 + f b

-- the highest bits of the bytes that are no digits, where all before them are
abbrev flags : ℕ → ℕ → ℕ → ℕ
flags add mask x = bit_and (bit_or (x + add) x) mask

-- each byte by itself
values-are : (bs : List ℕ) → ((i : ℕ) → get_or bs i 0 < 256) → bit_xor (number (λ b. b) bs) (number (λ _. 48) bs) ≡ number value bs
values-are [] small = refl
values-are (b ∷ bs) small =
    xor_block 8 (number (λ b. b) bs) (number (λ _. 48) bs) b 48 (small 0) (omega arith)
    ∙ ap (λ (n : ℕ). n * 256 + value b) (values-are bs (λ i. small (suc i)))

-- the flag of a byte, and its value, tell digits
flag : (b : ℕ) → b < 256 → bit_and (bit_or ((value b + 118) % 256) (value b)) 128 ≡ cond (ltb (digit_value b) 10) 0 128
flag b lt = eqb-true _ _ (agree_below_at
    (λ n. eqb (bit_and (bit_or ((value n + 118) % 256) (value n)) 128) (cond (ltb (digit_value n) 10) 0 128)) (λ _. true) 256 b refl lt)

digit : (b : ℕ) → b < 256 → digit_value b < 10 → value b ≡ digit_value b
digit b lt small =
    let is = eqb-true _ _ (agree_below_at
    (λ n. eqb (cond (ltb (digit_value n) 10) (value n) (digit_value n)) (digit_value n)) (λ _. true) 256 b refl lt) in
    rw (lt-ltb _ _ small) at is

-- flags by the lowest byte and those above
flags-step : (x more add mask : ℕ) → x < 256 → flags (add * 256 + 118) (mask * 256 + 128) (more * 256 + x)
    ≡ bit_and (bit_or (more + add + (x + 118) / 256) more) mask * 256 + bit_and (bit_or ((x + 118) % 256) x) 128
flags-step x more add mask lt =
    let sum : more * 256 + x + (add * 256 + 118) ≡ (more + add + (x + 118) / 256) * 256 + (x + 118) % 256 = omega arith in
    ap (λ (s : ℕ). bit_and (bit_or s (more * 256 + x)) (mask * 256 + 128)) sum
    ∙ ap (λ (s : ℕ). bit_and s (mask * 256 + 128)) (or_block 8 (more + add + (x + 118) / 256) more ((x + 118) % 256) x (omega arith) lt)
    ∙ and_block 8 (bit_or (more + add + (x + 118) / 256) more) mask (bit_or ((x + 118) % 256) x) 128 (or_lt 8 _ _ (omega arith) lt) (omega arith)

-- an odd number, doubled so many times
abbrev doubled : ℕ → ℕ → ℕ
doubled zero z = 2 * z + 1
doubled (suc j) z = 2 * doubled j z

trailing-at : (j w z : ℕ) → j < w → count_trailing_zeros w (doubled j z) ≡ j
unfolding count_trailing_zeros
trailing-at j zero z few = absurd (omega arith)
trailing-at zero (suc w) z few = let odd : (2 * z + 1) % 2 ≡ 1 = omega arith in rw odd refl
trailing-at (suc j) (suc w) z few =
    let even : 2 * doubled j z % 2 ≡ 0 = omega arith in
    let half : 2 * doubled j z / 2 ≡ doubled j z = omega arith in
    rw (even, half) (ap suc (trailing-at j w z (omega arith)))

-- how many times where so many bytes are digits
abbrev places : ℕ → ℕ
places zero = 7
places (suc i) = suc (suc (suc (suc (suc (suc (suc (suc (places i))))))))

places-are : (i : ℕ) → places i ≡ 8 * i + 7
places-are zero = refl
places-are (suc i) = omega (arith, places-are i)

-- so many bytes are digits, and the lowest flag is that of the byte behind them, or stands behind all
record Leads (bs : List ℕ) (i z : ℕ) : Type 0 where
  few : i ≤ length bs
  digits : AllDigits 10 (take i bs)
  stops : i < length bs → 10 ≤ digit_value (get_or bs i 0)
  lowest : flags (number (λ _. 118) bs) (number (λ _. 128) bs) (number value bs) + 256 ^ length bs * 128 ≡ doubled (places i) z

leads : (bs : List ℕ) → ((i : ℕ) → get_or bs i 0 < 256) → (i : ℕ) × (z : ℕ) × Leads bs i z
leads [] small = (0, 0, record { few = omega arith; digits = tt; stops = λ less. absurd (omega arith); lowest = refl })
leads (b ∷ bs) small =
    let lt = xor_lt 8 b 48 (small 0) (omega arith) in
    let step = flags-step (value b) (number value bs) (number (λ _. 118) bs) (number (λ _. 128) bs) lt in
    let own = flag b (small 0) in
    elim (cases_lt (digit_value b) 10) [
      | inl small' ↦
          let rest = leads bs (λ i. small (suc i)) in
          let is = digit b (small 0) small' in
          let none : (value b + 118) / 256 ≡ 0 = omega arith in
          let zero' = rw (lt-ltb _ _ small') at own in
          let step' = rw (none, add-zero) at step in
          let low = rest.2.lowest in (
            suc rest.0,
            rest.1,
            record {
              few = omega (arith, rest.2.few);
              digits = (small', rest.2.digits);
              stops = λ less. rest.2.stops (omega arith);
              lowest = omega (arith, step', zero', low, pow-suc 256 (length bs));
            },
          )
      | inr other ↦
          let one = rw (le-ltb _ _ other) at own in
          let above = bit_and (bit_or (number value bs + number (λ _. 118) bs + (value b + 118) / 256) (number value bs)) (number (λ _. 128) bs) in (
            0,
            above + 256 ^ length bs * 128,
            record {
              few = omega arith;
              digits = tt;
              stops = λ _. other;
              lowest = omega (arith, step, one, pow-suc 256 (length bs));
            },
          )
    ]

-- pairs of digits, where they are the last of four bytes
abbrev spelled : ℕ → ℕ
spelled digits = 100 * (digits * 2561 / 256 % 256) + digits * 2561 / 256 / 65536 % 256

-- what brings so many digits to the end
abbrev shift : ℕ → ℕ
shift count = get_or (0 ∷ 16777216 ∷ 65536 ∷ 256 ∷ 1 ∷ []) count 0

-- so many digits, brought to the end
spelled-is : (i a b c d : ℕ) → i ≤ 4 → ((k : ℕ) → get_or (a ∷ b ∷ c ∷ d ∷ []) k 0 < 256) → AllDigits 10 (take i (a ∷ b ∷ c ∷ d ∷ []))
    → spelled (number value (a ∷ b ∷ c ∷ d ∷ []) * shift i % 4294967296) ≡ digits_value 10 (take i (a ∷ b ∷ c ∷ d ∷ []))
spelled-is zero a b c d few small all = omega arith
spelled-is (suc zero) a b c d few small all = omega (arith, digit a (small 0) all.0)
spelled-is (suc (suc zero)) a b c d few small all = omega (arith, digit a (small 0) all.0, digit b (small 1) all.1.0)
spelled-is (suc (suc (suc zero))) a b c d few small all =
    omega (arith, digit a (small 0) all.0, digit b (small 1) all.1.0, digit c (small 2) all.1.1.0)
spelled-is (suc (suc (suc (suc zero)))) a b c d few small all =
    omega (arith, digit a (small 0) all.0, digit b (small 1) all.1.0, digit c (small 2) all.1.1.0, digit d (small 3) all.1.1.1.0)
spelled-is (suc (suc (suc (suc (suc i))))) a b c d few small all = absurd (omega arith)

-- four bytes as one number, by which their digits are counted and read
abbrev pub Reads : ℕ → ℕ → ℕ → ℕ → List ℕ → Type 0
Reads bytes x count digits front = ((i : ℕ) → get_or front i 0 < 256) → bytes ≡ from_le_bytes w32 front → x ≡ bit_xor bytes 808464432
    → count ≡ count_trailing_zeros 64 (bit_or (flags 1987475062 2155905152 x) 549755813888) / 8
    → digits ≡ bit_xor bytes 808464432 * shift count % 4294967296 → IsFrontNumber 4 front (spelled digits) count

of_four : (a b c d bytes x count digits : ℕ) → Reads bytes x count digits (a ∷ b ∷ c ∷ d ∷ [])
of_four a b c d bytes x count digits small e own counts is =
    let front = a ∷ b ∷ c ∷ d ∷ [] in
    let found = leads front small in
    let i = found.0 in
    let lead = found.2 in
    let few = lead.few in
    let at = places-are i in
    let nested : bytes ≡ number (λ b. b) front = omega arith in
    let values : bit_xor bytes 808464432 ≡ number value front = ap (λ (n : ℕ). bit_xor n 808464432) nested ∙ values-are front small in
    let f = flags 1987475062 2155905152 x in
    let below = and_le_r (bit_or (x + 1987475062) x) 2155905152 in
    let lowest : f + 549755813888 ≡ doubled (places i) found.1 =
    ap (λ (n : ℕ). flags 1987475062 2155905152 n + 549755813888) (own ∙ values) ∙ lead.lowest in
    let marked : bit_or f 549755813888 ≡ doubled (places i) found.1 = or_comm f 549755813888 ∙ or_shifted 1 39 f (omega arith) ∙ omega arith in
    let trailing = ap (count_trailing_zeros 64) marked ∙ trailing-at (places i) 64 found.1 (omega arith) in
    let same : i ≡ count = omega (arith, counts, trailing) in
    subst (λ (k : ℕ). digits ≡ bit_xor bytes 808464432 * shift k % 4294967296 → IsFrontNumber 4 front (spelled digits) k) same (λ is. record {
      few = few;
      inside = few;
      digits = lead.digits;
      value_is = ap spelled (is ∙ ap (λ (n : ℕ). n * shift i % 4294967296) values) ∙ spelled-is i a b c d few small lead.digits;
      stops = λ _ inside low high. omega (arith, lead.stops inside, digit_value-is (get_or front i 0) low high);
    }) is

-- the number that four bytes begin with
pub four : (front : List ℕ) → length front ≡ 4 → (bytes x count digits : ℕ) → Reads bytes x count digits front
four front long bytes x count digits small e =
    subst (Reads bytes x count digits) (le_bytes_4 front bytes long small e) (of_four _ _ _ _ bytes x count digits) small e
