-- The layout of a word in memory: sixteen bytes, lowest first, of the word XOR the word of NULL, so
-- that zero bytes are NULL (UCAM-CL-TR-987, the section on the compressed capability format).
use Rattle.std.specs.Prelude.{ℕ, zero, suc, ◌+◌, ◌*◌, ◌/◌, ◌%◌, ◌^◌, List, [], ◌∷◌, bit_xor}
use Rattle.cap_word.specs.Word.{null_word}

-- the k lowest bytes of n, the lowest first
unfoldable pub low_bytes : ℕ → ℕ → List ℕ
low_bytes zero n = []
low_bytes (suc k) n = n % 256 ∷ low_bytes k (n / 256)

-- the number with these bytes, the lowest first
unfoldable pub number_of : List ℕ → ℕ
number_of [] = 0
number_of (x ∷ xs) = x + 256 * number_of xs

-- byte i of a word's layout in memory
abbrev pub memory_byte : ℕ → ℕ → ℕ
memory_byte w i = bit_xor w null_word / 2 ^ (8 * i) % 256

-- the sixteen bytes of a word in memory
abbrev pub memory_of : ℕ → List ℕ
memory_of w = low_bytes 16 (bit_xor w null_word)

-- the word that sixteen bytes in memory are
abbrev pub stored_word : List ℕ → ℕ
stored_word bytes = bit_xor (number_of bytes) null_word
