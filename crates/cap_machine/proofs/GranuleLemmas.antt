-- Granules as capabilities and as numbers.
use Rattle.std.specs.Int.{bytes_low_first, to_le_bytes}
use Rattle.std.specs.FinMap as map
use Rattle.std.proofs.Common.{◌≡◌, ℕ, zero, suc, ◌+◌, ◌*◌, ◌/◌, ◌%◌, ◌^◌, ◌<◌, ◌≤◌, false, List, [], ◌∷◌, drop, take}
use Rattle.std.proofs.Common.{get_or, refl, sym, ap, subst, ◌∙◌, arith, lit<, Option, Some, None, IfSome, get_or-drop}
use Rattle.std.proofs.{Common.{pow-suc, div-one, pow-add, unwrap_or, replicate, w64}, Math.Arith.mod-mul}
use Rattle.std.proofs.Math.Nat.{div-div-eq-div-mul, mod-one, pow-zero, zero-div, zero-mod}
use Rattle.cap_word.specs.{declared.word.Cap.Cap, Memory.{number_of, stored_word, low_bytes}, Word.null_word}
use Rattle.cap_word.proofs.Bytes.{byte_at_is}
use Rattle.tagmem.specs.Granules.{Granules, AreStored, Entry, IsNextPut, blank}
use Rattle.cap_machine.specs.{Changes.number_at, Helds.granule_cap, States.untagged_null}

zero_word : stored_word (replicate 16 0) ≡ null_word
unfolding number_of
zero_word = refl

-- the capability of a granule's entry
abbrev pub cap_of : Entry → Cap
cap_of entry = record { tag = entry.0; word = record { 0 = stored_word entry.1 } }

-- a granule that was never put holds NULL without a tag
pub granule_cap-absent : (memory : Granules) (granule : ℕ) → map.get memory granule ≡ None → granule_cap memory granule ≡ untagged_null
granule_cap-absent memory granule absent =
    ap (λ (o : Option Entry). cap_of (unwrap_or o blank)) absent ∙ ap (λ (n : ℕ). let cap :
    Cap = record { tag = false; word = record { 0 = n } } in cap) zero_word

-- the number of the bytes from an index on
number_of-drop : (bytes : List ℕ) (byte_index : ℕ) → ((i : ℕ) → get_or bytes i 0 < 256)
    → number_of bytes / 2 ^ (8 * byte_index) ≡ number_of (drop byte_index bytes)
unfolding number_of
number_of-drop bytes zero small = div-one (number_of bytes)
number_of-drop [] (suc byte_index) small = zero-div (2 ^ (8 * suc byte_index))
number_of-drop (x ∷ xs) (suc byte_index) small =
    let first : x < 256 = small 0 in
    let power : 2 ^ (8 * suc byte_index) ≡ 256 * 2 ^ (8 * byte_index) = ap (λ (n : ℕ). 2 ^ n)
    (let f : 8 * suc byte_index ≡ 8 + 8 * byte_index = omega arith in f) ∙ pow-add 2 8 (8 * byte_index) in
    let rest : (x + 256 * number_of xs) / 256 ≡ number_of xs = omega arith in
    ap (λ (n : ℕ). (x + 256 * number_of xs) / n) power
    ∙ sym (div-div-eq-div-mul (x + 256 * number_of xs) 256 (2 ^ (8 * byte_index)))
    ∙ ap (λ (n : ℕ). n / 2 ^ (8 * byte_index)) rest
    ∙ number_of-drop xs byte_index (λ i. small (suc i))

power_pos : (n : ℕ) → 0 < 256 ^ n
power_pos zero = omega (arith, pow-zero 256)
power_pos (suc n) = omega (arith, pow-suc 256 n, power_pos n)

-- the number of the first bytes
number_of-take : (n : ℕ) (bytes : List ℕ) → ((i : ℕ) → get_or bytes i 0 < 256) → number_of (take n bytes) ≡ number_of bytes % 256 ^ n
unfolding number_of
number_of-take zero bytes small = sym (ap (λ (k : ℕ). number_of bytes % k) (pow-zero 256) ∙ mod-one (number_of bytes))
number_of-take (suc n) [] small = sym (zero-mod (256 ^ suc n))
number_of-take (suc n) (x ∷ xs) small =
    let first : x < 256 = small 0 in
    let low : (x + 256 * number_of xs) % 256 ≡ x = omega arith in
    let high : (x + 256 * number_of xs) / 256 ≡ number_of xs = omega arith in
    let split = ap (λ (k : ℕ). (x + 256 * number_of xs) % k) (pow-suc 256 n)
    ∙ mod-mul (x + 256 * number_of xs) (power_pos n) (lit< tt) in
    omega (arith, split, ap (λ (k : ℕ). k % 256 ^ n) high, number_of-take n xs (λ i. small (suc i)))

-- the number of so many bytes, shifted and cut out of the number of all
pub number_at-cut : (bytes : List ℕ) (byte_index count size whole shift : ℕ) → ((i : ℕ) → get_or bytes i 0 < 256) → whole ≡ number_of bytes
    → shift ≡ byte_index → count ≡ size → whole / 2 ^ (8 * shift) % 256 ^ count ≡ number_at bytes byte_index size
number_at-cut bytes byte_index count size whole shift small whole_is shift_is same =
    rw (shift_is, whole_is, same, number_of-drop bytes byte_index small)
    (sym (number_of-take size (drop byte_index bytes) (λ i. subst (λ (b : ℕ). b < 256) (sym (get_or-drop byte_index bytes i 0)) (small _))))

-- the bytes that std's conversion gives, as many as are taken
pub taken_bytes : (k n i v : ℕ) → k ≤ n → take k (bytes_low_first i n v) ≡ low_bytes k (v / 256 ^ i)
unfolding low_bytes
taken_bytes zero n i v below = refl
taken_bytes (suc k) zero i v below = absurd (omega arith)
taken_bytes (suc k) (suc n) i v below =
    let next : v / 256 ^ i / 256 ≡ v / 256 ^ suc i = div-div-eq-div-mul v (256 ^ i) 256 ∙ ap (λ (x : ℕ). v / x) (sym (pow-suc 256 i)) in
    ap (λ x. x ∷ take k (bytes_low_first (suc i) n v)) (byte_at_is i v)
    ∙ ap (λ x. v / 256 ^ i % 256 ∷ x) (taken_bytes k n (suc i) v (omega arith) ∙ ap (low_bytes k) (sym next))

pub low_taken : (k v : ℕ) → k ≤ 8 → take k (to_le_bytes w64 v) ≡ low_bytes k v
low_taken k v below = taken_bytes k 8 0 v below ∙ ap (low_bytes k) (ap (λ (x : ℕ). v / x) (pow-zero 256) ∙ div-one v)

-- a granule that was put is one of memory
pub next_in_memory : (memory : Granules) (from : ℕ) (found : Option ℕ) → AreStored memory → IsNextPut memory from found
    → IfSome found (λ next. next < 2 ^ 60)
next_in_memory memory from None stored next = tt
next_in_memory memory from (Some granule) stored next =
    elim (map.get memory granule) as (λ o. map.get memory granule ≡ o → granule < 2 ^ 60) [
      | None ↦ λ absent. absurd (next.1 absent)
      | Some entry ↦ λ is. let here = stored granule entry is in here.in_memory
    ] refl
