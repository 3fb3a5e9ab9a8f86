-- Why a capability can't be derived, in a sentence (this profile's own).
use Rattle.std.specs.Prelude.{ℕ, Bool, ◌==◌, ◌&&◌, nat_le, if◌then◌else◌, List, [], ◌++◌, codes}
use Rattle.cap_word.specs.{Digits.hex_digits, Fields.{address_of, otype_of}}
use Rattle.cap_bounds.specs.Bounds.{base_of, top_of}
use Rattle.cap_ops.specs.declared.refusal.Refusal.{TheVariants.SourceUntagged}
use Rattle.cap_ops.specs.DerivedWords.{is_opened, sentry_type}
use Rattle.cap_ops.specs.Permissions.{is_sealed, perm_view_of}
use Rattle.cap_run_log.specs.declared.lines.RunPlace.{RunPlace}
use Rattle.cap_run_log.specs.RunLines.{run_place_spelling}
use Rattle.cap_run.specs.declared.ends.RunRefusal.{RunRefusal, TheVariants.{BeyondSource, SealChanged, UnsoundResult, Usual}}
use Rattle.cap_report.specs.{Says.unsound_reason, Sentences.{beyond_text, number_text}}
use Rattle.cap_run_report.specs.declared.cap_parts.Placed.{Placed}

-- the word that a line records for a place
abbrev pub word_for : RunPlace → List ℕ
word_for place = codes "the word for " ++ run_place_spelling place

-- the bounds of a word go beyond those of the source
abbrev pub beyond_bounds_text : Placed → Placed → List ℕ
beyond_bounds_text target source =
    let w = target.cap.word.0 in
    let from = source.cap.word.0 in
    word_for target.place ++ codes " " ++ beyond_text (base_of w) (top_of w) (base_of from) (top_of from) ++ run_place_spelling source.place
    ++ codes "'s bounds"

-- or its permissions do
abbrev pub beyond_permissions_text : Placed → Placed → List ℕ
beyond_permissions_text target source =
    word_for target.place ++ codes " has permissions 0x" ++ hex_digits 8 (perm_view_of target.cap.word.0) ++ codes "; "
    ++ run_place_spelling source.place ++ codes " has 0x" ++ hex_digits 8 (perm_view_of source.cap.word.0)

abbrev pub is_covered : ℕ → ℕ → Bool
is_covered from w = nat_le (base_of from) (base_of w) && nat_le (top_of w) (top_of from)

abbrev pub beyond_source_text : Placed → Placed → List ℕ
beyond_source_text target source =
    if is_covered source.cap.word.0 target.cap.word.0
    then beyond_permissions_text target source
    else beyond_bounds_text target source

-- a word that is sealed
abbrev pub sealed_type_text : ℕ → List ℕ
sealed_type_text w = codes " is sealed with type " ++ number_text (otype_of w)

abbrev pub sealed_word_text : ℕ → List ℕ
sealed_word_text w =
    if otype_of w == sentry_type then codes " is a sentry for " ++ number_text (address_of w) else sealed_type_text w

-- a word that isn't that of its sealed source: a sentry that is opened elsewhere than in PCC, or another word
abbrev pub other_word_text : ℕ → ℕ → List ℕ
other_word_text from w =
    if (otype_of from == sentry_type) && is_opened from w then codes " opens it: a sentry opens only into scr0"
    else if address_of w == address_of from then codes " differs from it"
    else codes " has the address " ++ number_text (address_of w)

-- the seal of the source isn't kept
abbrev pub seal_text : Placed → Placed → List ℕ
seal_text target source =
    if is_sealed source.cap.word.0
    then run_place_spelling source.place ++ sealed_word_text source.cap.word.0 ++ codes "; " ++ word_for target.place
    ++ other_word_text source.cap.word.0 target.cap.word.0
    else word_for target.place ++ sealed_type_text target.cap.word.0 ++ codes "; " ++ run_place_spelling source.place ++ codes " is unsealed"

-- why a place can't get a word from a source
abbrev pub derive_text : Placed → Placed → RunRefusal → List ℕ
derive_text target source (Usual SourceUntagged) = run_place_spelling source.place ++ codes " has no tag"
derive_text target source UnsoundResult = word_for target.place ++ codes " isn't sound: " ++ unsound_reason target.cap.word.0
derive_text target source BeyondSource = beyond_source_text target source
derive_text target source SealChanged = seal_text target source
derive_text target source refusal = []
