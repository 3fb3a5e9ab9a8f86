-- The permissions and the object type of a word (UCAM-CL-TR-987, the sections on permissions and on
-- object types). Words are numbers below 2 ^ 128, and so are defined here by number.
use Rattle.std.specs.{Prelude.{ℕ, ◌+◌, ◌*◌, ◌/◌, ◌%◌, ◌^◌, Bool, not, ◌==◌}, Int.bit_at}
use Rattle.cap_word.specs.Fields.{perms_of, otype_of}

-- the architectural view of the permissions: bits 0..11 are those of the field, and bits 15..18, for
-- users, are the field's 12..15 (Sail CHERI-RISC-V: `getCapPerms`)
unfoldable pub perm_view_of : ℕ → ℕ
perm_view_of w = perms_of w % 2 ^ 12 + perms_of w / 2 ^ 12 * 2 ^ 15

-- the field with the permissions of a view: bits 12 to 14, and from 19 on, stand for none
unfoldable pub perms_from_view : ℕ → ℕ
perms_from_view view = view % 2 ^ 12 + view / 2 ^ 15 % 2 ^ 4 * 2 ^ 12

-- a word has the permission with this number in the view
unfoldable pub has_permission : ℕ → ℕ → Bool
has_permission w permission = bit_at (perm_view_of w) permission == 1

-- Global: the capability may be stored anywhere
abbrev pub permit_global : ℕ
permit_global = 0

-- Load: data may be read
abbrev pub permit_load : ℕ
permit_load = 2

-- Store: data may be written
abbrev pub permit_store : ℕ
permit_store = 3

-- Load Capability: what is read keeps its tag
abbrev pub permit_load_capability : ℕ
permit_load_capability = 4

-- Store Capability: tagged capabilities may be written
abbrev pub permit_store_capability : ℕ
permit_store_capability = 5

-- Store Local Capability: among them those that are not global
abbrev pub permit_store_local_capability : ℕ
permit_store_local_capability = 6

-- Seal: the addresses within the bounds may be given as object types
abbrev pub permit_seal : ℕ
permit_seal = 7

-- Unseal: object types that are addresses within the bounds may be taken off
abbrev pub permit_unseal : ℕ
permit_unseal = 9

-- the object type of a word that is not sealed (Sail CHERI-RISC-V: `otype_unsealed`)
abbrev pub unsealed_type : ℕ
unsealed_type = 0x3ffff

-- the greatest object type that `seal` gives; those above it are reserved (Sail CHERI-RISC-V: `cap_max_otype`)
abbrev pub greatest_type : ℕ
greatest_type = 0x3fffb

-- a word is sealed: it has an object type other than the unsealed one
unfoldable pub is_sealed : ℕ → Bool
is_sealed w = not (otype_of w == unsealed_type)

-- a word with other permissions, as a field of 16 bits
abbrev pub with_perms : ℕ → ℕ → ℕ
with_perms w perms = perms * 2 ^ 112 + w % 2 ^ 112

-- a word with another object type, of 18 bits
abbrev pub with_type : ℕ → ℕ → ℕ
with_type w otype = w / 2 ^ 109 * 2 ^ 109 + otype * 2 ^ 91 + w % 2 ^ 91
