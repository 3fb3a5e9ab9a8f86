-- The text that explains a word.
use Rattle.std.specs.Prelude.{ℕ, Bool, ◌==◌, nat_lt, if◌then◌else◌, List, ◌++◌, codes, decimal}
use Rattle.cap_word.specs.{Digits.hex_digits, Fields.{bit_of, reserved_of, flag_of, otype_of, ie_of, e_of, b_of, t_of}}
use Rattle.cap_word.specs.{Fields.address_of, Memory.memory_of}
use Rattle.cap_bounds.specs.Bounds.{mantissa_of, base_of, top_of, is_sound}
use Rattle.cap_ops.specs.Permissions.{perm_view_of, unsealed_type, greatest_type}
use Rattle.cap_texts.specs.TextLines.{text_line, yes_or_no, bytes_text}

-- what an object type stands for (this profile's own)
abbrev pub type_name : ℕ → List ℕ
type_name otype =
    if otype == unsealed_type then codes "unsealed"
    else if nat_lt greatest_type otype then codes "reserved"
    else codes "sealed"

-- the lines of the whole capability: the word, its bytes in memory in order of address, and the tag
unfoldable pub word_lines : ℕ → Bool → List ℕ
word_lines w tag =
    text_line (codes "word") (hex_digits 32 w)
    ++ text_line (codes "memory") (bytes_text (memory_of w))
    ++ text_line (codes "tag") (decimal (bit_of tag))

-- the lines of the fields above the bounds
unfoldable pub permission_lines : ℕ → List ℕ
permission_lines w =
    text_line (codes "perms") (hex_digits 8 (perm_view_of w))
    ++ text_line (codes "otype") (hex_digits 5 (otype_of w) ++ codes " " ++ type_name (otype_of w))
    ++ text_line (codes "flag") (decimal (bit_of (flag_of w)))
    ++ text_line (codes "reserved") (decimal (reserved_of w))

-- the lines of what the bounds are decoded from: IE, E as it stands in the word, B and T
unfoldable pub mantissa_lines : ℕ → List ℕ
mantissa_lines w =
    text_line (codes "ie") (decimal (bit_of (ie_of w)))
    ++ text_line (codes "e") (decimal (e_of w))
    ++ text_line (codes "b") (hex_digits 4 (b_of w))
    ++ text_line (codes "t") (hex_digits 4 (mantissa_of (b_of w) (t_of w) (ie_of w)))

-- the lines of the address and the bounds
unfoldable pub bounds_lines : ℕ → List ℕ
bounds_lines w =
    text_line (codes "address") (hex_digits 16 (address_of w))
    ++ text_line (codes "base") (hex_digits 16 (base_of w))
    ++ text_line (codes "top") (hex_digits 17 (top_of w))
    ++ text_line (codes "sound") (yes_or_no (is_sound w))

-- the fifteen lines (this profile's own)
abbrev pub explain_lines : ℕ → Bool → List ℕ
explain_lines w tag = word_lines w tag ++ permission_lines w ++ mantissa_lines w ++ bounds_lines w
