-- Which addresses keep a word's bounds (UCAM-CL-TR-987, the representable region; CSetAddr).
use Rattle.std.specs.Prelude.{◌≡◌, ℕ, ◌+◌, ◌-◌, ◌*◌, ◌/◌, ◌%◌, ◌^◌, ◌<◌}
use Rattle.cap_word.specs.Fields.{address_of, b_of}
use Rattle.cap_bounds.specs.Bounds.{base_of, top_of, cut_exponent_of, window_size, window_start_at}

-- a word with another address
abbrev pub with_address : ℕ → ℕ → ℕ
with_address w address = w / 2 ^ 64 * 2 ^ 64 + address

-- an address keeps a word's bounds: the word with that address has the same base and top
abbrev pub KeepsBounds : ℕ → ℕ → Type 0
KeepsBounds w address = (base_of (with_address w address) ≡ base_of w) × (top_of (with_address w address) ≡ top_of w)

-- where a word's window starts, 2 ^ 66 higher: the closed form, which `reach` ties to `IsWindow`
unfoldable pub window_start : ℕ → ℕ
window_start w = window_start_at (cut_exponent_of w) (b_of w) (address_of w)

-- an address lies in a word's representable range: less than a window's size above the window's start,
-- modulo 2 ^ 64; from the cut exponent 50 on, each address does
abbrev pub IsRepresentable : ℕ → ℕ → Type 0
IsRepresentable w address = cut_exponent_of w < 50 → (address + 2 ^ 64 - window_start w % 2 ^ 64) % 2 ^ 64 < window_size w
