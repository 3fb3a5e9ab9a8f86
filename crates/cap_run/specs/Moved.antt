-- Words with the bounds and the permissions of another (this profile's own).
use Rattle.std.specs.Prelude.{◌≡◌, ◌⊎◌, ℕ, ◌+◌, ◌/◌, ◌^◌}
use Rattle.cap_word.specs.Fields.{address_of, otype_of}
use Rattle.cap_bounds.specs.Range.{KeepsBounds}
use Rattle.cap_ops.specs.{DerivedWords.sentry_type, Permissions.unsealed_type}

-- an unsealed word at an address that keeps its bounds, as it is or as a sentry
pub record IsMoved (source word : ℕ) : Type 0 where
  pub unsealed : otype_of source ≡ unsealed_type
  pub keeps : KeepsBounds source (address_of word)
  pub same : (word / 2 ^ 64 ≡ source / 2 ^ 64) ⊎ (word / 2 ^ 64 + 2 ^ 27 ≡ source / 2 ^ 64)

-- a sentry without its seal
pub record IsOpenSentry (source word : ℕ) : Type 0 where
  pub sentry : otype_of source ≡ sentry_type
  pub word_is : word ≡ source + 2 ^ 91
