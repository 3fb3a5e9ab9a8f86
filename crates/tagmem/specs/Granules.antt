-- Tagged memory as a finite map. Granule g is the sixteen bytes from address 16 * g on, with one tag (UCAM-CL-TR-987,
-- tagged memory).
use Rattle.std.specs.Prelude.{◌≡◌, ◌≢◌, ℕ, ◌+◌, ◌^◌, ◌<◌, ◌≤◌, ◌↔◌, Bool, false, List, [], ◌++◌, length, take, drop}
use Rattle.std.specs.Prelude.{replicate, All, Option, Some, None, unwrap_or, slice_index, slice_index_or}
use Rattle.std.specs.{FinMap.{FinMap, get, insert, len}, Ordering.nat_cmp}

-- a granule's tag, its bytes, lowest address first (UCAM-CL-TR-987, tagged memory), and its origin's code (this
-- profile's own)
abbrev pub Entry : Type 0
Entry = Bool × List ℕ × ℕ

-- the tag and the bytes of a granule that was put (this profile's own)
abbrev pub shown : Option Entry → Option (Bool × List ℕ)
shown None = None
shown (Some entry) = Some (entry.0, entry.1)

-- the entries of the granules that were put (this profile's own)
abbrev pub Granules : Type 0
Granules = FinMap nat_cmp Entry

-- what stands in a granule that was never put: no tag, zero bytes, and no origin (this profile's own)
abbrev pub blank : Entry
blank = (false, replicate 16 0, 0)

-- of tags, bytes and codes side by side: what was never put has zero bytes and the code 0 (this profile's own)
abbrev pub IsBlankWhereUnput : List (Option Bool) → List (List ℕ) → List ℕ → Type 0
IsBlankWhereUnput tags rows codes = (slot : ℕ) → slot < length tags → slice_index_or tags slot None ≡ None
    → (slice_index_or rows slot [] ≡ blank.1) × (slice_index codes slot ≡ 0)

-- what stands in a granule, put or not (this profile's own)
abbrev pub entry_at : Granules → ℕ → Entry
entry_at m granule = unwrap_or (get m granule) blank

-- the tag of a granule, put or not (this profile's own)
abbrev pub tag_at : Granules → ℕ → Bool
tag_at m granule = let entry = entry_at m granule in entry.0

-- the bytes of a granule, put or not (this profile's own)
abbrev pub bytes_at : Granules → ℕ → List ℕ
bytes_at m granule = let entry = entry_at m granule in entry.1

-- the code of the origin of a granule's capability, put or not: 0 for none (this profile's own)
abbrev pub code_at : Granules → ℕ → ℕ
code_at m granule = let entry = entry_at m granule in entry.2

-- an origin has a code other than 0, and just what has a tag has an origin (this profile's own)
abbrev pub IsCodeFor : Bool → ℕ → Type 0
IsCodeFor tag code = (code ≡ 0) ↔ (tag ≡ false)

-- bytes with new ones from a byte index on (this profile's own)
abbrev pub overwritten : List ℕ → ℕ → List ℕ → List ℕ
overwritten bytes byte_index new = take byte_index bytes ++ new ++ drop (byte_index + length new) bytes

-- the map after a granule's tag, bytes and code are set: every other granule stays (this profile's own)
abbrev pub with_cap : Granules → ℕ → Bool → List ℕ → ℕ → Granules
with_cap m granule tag bytes code = insert m granule (tag, bytes, code)

-- the map after a write of bytes inside a granule, which clears its tag and its code (UCAM-CL-TR-987, stores of data
-- clear tags)
abbrev pub with_bytes : Granules → ℕ → ℕ → List ℕ → Granules
with_bytes m granule byte_index new = insert m granule (false, overwritten (bytes_at m granule) byte_index new, 0)

-- the map after a write of bytes inside a granule, which sets its tag and its code: its other bytes stay (this
-- profile's own)
abbrev pub with_write : Granules → ℕ → Bool → ℕ → List ℕ → ℕ → Granules
with_write m granule tag byte_index new code = insert m granule (tag, overwritten (bytes_at m granule) byte_index new, code)

-- no granule from one number to below another was put (this profile's own)
abbrev pub NonePut : Granules → ℕ → ℕ → Type 0
NonePut m from to = (granule : ℕ) → from ≤ granule → granule < to → get m granule ≡ None

-- the least granule at or above a number that was put, where there is one (this profile's own)
abbrev pub IsNextPut : Granules → ℕ → Option ℕ → Type 0
IsNextPut m from None = (granule : ℕ) → from ≤ granule → get m granule ≡ None
IsNextPut m from (Some next) = (from ≤ next) × (get m next ≢ None) × NonePut m from next

-- the granule was put, or one more can be counted in 32 bits (this profile's own)
abbrev pub HasRoom : Granules → ℕ → Type 0
HasRoom m granule = get m granule ≡ None → len m < 4294967295

-- a granule's number is below 2^60, since addresses have 64 bits; it has sixteen bytes, and a tag and a code together
-- (this profile's own)
pub record IsStored (granule : ℕ) (entry : Entry) : Type 0 where
  pub in_memory : granule < 2 ^ 60
  pub sixteen : length entry.1 ≡ 16
  pub bytes : All (λ byte. byte < 256) entry.1
  pub code : entry.2 < 2 ^ 64
  pub coded : IsCodeFor entry.0 entry.2

-- each entry of the map is a granule's (this profile's own)
abbrev pub AreStored : Granules → Type 0
AreStored m = (granule : ℕ) (entry : Entry) → get m granule ≡ Some entry → IsStored granule entry
