-- Deriving a word from a capability, whatever the instruction, and invoking a pair of sealed capabilities
-- (UCAM-CL-TR-987, the descriptions of CBuildCap, CSealEntry, CJALR and CInvoke for CHERI-RISC-V; that a derived word is
-- only judged by what it reaches is this profile's own).
use Rattle.std.specs.Prelude.{ℕ, ◌-◌, ◌%◌, Bool, not, ◌==◌, ◌&&◌, ◌||◌, nat_le, bit_and, List, [], ◌∷◌}
use Rattle.cap_word.specs.{declared.word.Cap.Cap, Fields.otype_of}
use Rattle.cap_bounds.specs.Bounds.{base_of, top_of, is_sound}
use Rattle.cap_ops.specs.{Operations.covers, Permissions.{greatest_type, has_permission, is_sealed, perm_view_of, unsealed_type, with_type}}
use Rattle.cap_ops.specs.declared.derived_words.DeriveFault.{DeriveFault, TheVariants.{SourceUntagged, UnsoundResult, BeyondSource, SealChanged}}
use Rattle.cap_ops.specs.declared.derived_words.InvokeFault.{InvokeFault, TheVariants.{AuthorityUntagged, NotInvokable, WrongResult}}

-- the object type of a sentry (Sail CHERI-RISC-V: `otype_sentry`)
abbrev pub sentry_type : ℕ
sentry_type = 0x3fffe

-- Execute: instructions may be fetched
abbrev pub permit_execute : ℕ
permit_execute = 1

-- CInvoke: the capability may be one of an invoked pair
abbrev pub permit_invoke : ℕ
permit_invoke = 8

-- the bounds of a word lie inside those of another, and its permissions are among those of that
abbrev pub reaches_no_more : ℕ → ℕ → Bool
reaches_no_more word source =
    covers source (base_of word) (top_of word) && (bit_and (perm_view_of source) (perm_view_of word) == perm_view_of word)

-- a word is another without its seal, at its address or that with bit 0 cleared
abbrev pub is_opened : ℕ → ℕ → Bool
is_opened source word =
    let open_word = with_type source unsealed_type in (word == open_word) || (word == open_word - open_word % 2)

-- the seal is kept: an unsealed source gives an unsealed word or a sentry, a sealed one itself; and a sentry opens, if
-- `opens` says so
abbrev pub keeps_seal : ℕ → ℕ → Bool → Bool
keeps_seal source word opens =
    (not (is_sealed source) && ((otype_of word == unsealed_type) || (otype_of word == sentry_type)))
    || (is_sealed source && (word == source))
    || ((otype_of source == sentry_type) && (opens && is_opened source word))

-- the checks of deriving a tagged word, in their order
abbrev pub derive_checks : Cap → ℕ → Bool → List (Bool × DeriveFault)
derive_checks source word opens =
    (not source.tag, SourceUntagged) ∷ (not (is_sound word), UnsoundResult) ∷ (not (reaches_no_more word source.word.0), BeyondSource)
    ∷ (not (keeps_seal source.word.0 word opens), SealChanged) ∷ []

-- two words are a pair: sealed with one object type that isn't reserved, both with CInvoke, the first alone with Execute
abbrev pub is_pair : ℕ → ℕ → Bool
is_pair code data_word =
    nat_le (otype_of code) greatest_type && (otype_of code == otype_of data_word)
    && has_permission code permit_invoke && has_permission data_word permit_invoke
    && has_permission code permit_execute && not (has_permission data_word permit_execute)

-- two words are a pair without its seals, the first at its address or that with bit 0 cleared
abbrev pub is_invoked : ℕ → ℕ → ℕ → ℕ → Bool
is_invoked code data_word code_after data_after = is_opened code code_after && (data_after == with_type data_word unsealed_type)

-- the checks of invoking a pair, in their order
abbrev pub invoke_checks : Cap → Cap → ℕ → ℕ → List (Bool × InvokeFault)
invoke_checks code data_cap code_after data_after =
    (not (code.tag && data_cap.tag), AuthorityUntagged)
    ∷ (not (is_pair code.word.0 data_cap.word.0), NotInvokable)
    ∷ (not (is_invoked code.word.0 data_cap.word.0 code_after data_after), WrongResult) ∷ []
