-- What a report says of a refused step or root, in a sentence (this profile's own).
use Rattle.std.specs.Prelude.{ℕ, Bool, is_some, ◌+◌, ◌*◌, ◌%◌, ◌^◌, ◌==◌, ◌&&◌, ◌||◌, not, nat_le, nat_lt, if◌then◌else◌, List, [], ◌++◌, Option, Some, None}
use Rattle.std.specs.{Prelude.{codes, decimal}, Bool.beq}
use Rattle.cap_word.specs.{declared.word.Cap.Cap, Digits.hex_digits, Fields.{address_of, otype_of}}
use Rattle.cap_bounds.specs.{Bounds.{base_of, top_of, cut_exponent_of, window_size}, Range.window_start, Rounding.{rounded_base, rounded_top}}
use Rattle.cap_ops.specs.declared.refusal.Refusal.{Refusal, TheVariants.{SourceUntagged, SourceSealed, BoundsEscape, NotExact}}
use Rattle.cap_ops.specs.declared.refusal.Refusal.TheVariants.{NotRepresentable, AuthorityUntagged, AuthoritySealed, AuthorityPermission}
use Rattle.cap_ops.specs.declared.refusal.Refusal.TheVariants.{AuthorityBounds, TypeOutOfRange, TypeMismatch, Misaligned}
use Rattle.cap_ops.specs.declared.refusal.Refusal.TheVariants.{StoreCapPermission, StoreLocalPermission, WrongResult}
use Rattle.cap_ops.specs.Permissions.{perm_view_of, permit_load, permit_seal, permit_unseal}
use Rattle.cap_log.specs.{declared.lines.Place.{Place, TheVariants.Register}, Lines.{place_spelling, tag_spelling}}
use Rattle.cap_machine.specs.declared.shown.{Given.{Given, TheVariants.{Capability, Number, Nothing}}, Reached.Reached}
use Rattle.cap_machine.specs.declared.shown.{Request.{Request, TheVariants.{Address, Authority, Length}}, Shown.Shown}
use Rattle.cap_machine.specs.States.{State, key_of}
use Rattle.cap_report.specs.declared.says.Seen.{Seen}
use Rattle.cap_report.specs.Sentences.{beyond_text, number_text, range_text}

-- a source's place: c0 if a step has no source
abbrev pub source_place : Option Place → Place
source_place (Some place) = place
source_place None = Register 0

-- the authority of an access, and c0 if there is no access
abbrev pub access_authority : Option Reached → ℕ
access_authority (Some access) = access.authority
access_authority None = 0

-- the register of an authority: c0 if a step has none
abbrev pub authority_register : Request → Option Reached → ℕ
authority_register (Authority register needs) access = register
authority_register request access = access_authority access

-- what a step read and asked for
abbrev pub seen_by : State → Shown → Seen
seen_by state shown =
    let place = source_place shown.source in
    let register = authority_register shown.request shown.access in
    record {
      place = place;
      source = state (key_of place);
      authority = Register register;
      held = state register;
      request = shown.request;
      access = shown.access;
    }

-- a place's capability is sealed with a type
abbrev pub sealed_text : Place → Cap → List ℕ
sealed_text place cap = place_spelling place ++ codes " is sealed with type " ++ number_text (otype_of cap.word.0)

-- a range goes beyond the bounds of a place's capability
abbrev pub escape_text : List ℕ → ℕ → ℕ → Place → Cap → List ℕ
escape_text name base top place cap =
    name ++ beyond_text base top (base_of cap.word.0) (top_of cap.word.0) ++ place_spelling place ++ codes "'s bounds"

-- a range lies in the bounds of a capability
abbrev pub lies_inside : ℕ → ℕ → Cap → Bool
lies_inside base top cap = nat_le (base_of cap.word.0) base && nat_le top (top_of cap.word.0)

-- the bounds asked for go beyond the source's
abbrev pub asked_escape : Seen → ℕ → ℕ → List ℕ
asked_escape seen base length = escape_text (codes "the request ") base (base + length) seen.place seen.source

-- those to which they are rounded do
abbrev pub rounded_escape : Seen → ℕ → ℕ → List ℕ
rounded_escape seen base length =
    escape_text (codes "rounded, the request ") (rounded_base base length) (rounded_top base length) seen.place seen.source

-- the bounds asked for, or only those to which they are rounded, go beyond the source's
abbrev pub request_text : Seen → ℕ → List ℕ
request_text seen length =
    let base = address_of seen.source.word.0 in
    if lies_inside base (base + length) seen.source then rounded_escape seen base length else asked_escape seen base length

-- the bounds asked for are rounded
abbrev pub rounding_text : Seen → ℕ → List ℕ
rounding_text seen length =
    let base = address_of seen.source.word.0 in
    codes "rounded, the request "
    ++ beyond_text (rounded_base base length) (rounded_top base length) base (base + length)
    ++ codes "what it asks for"

-- the first address of a word's representable range: that of its window; and from the cut exponent 50 on, where each
-- address keeps the bounds, 0
abbrev pub range_start : ℕ → ℕ
range_start w = if nat_le 50 (cut_exponent_of w) then 0 else window_start w % 2 ^ 64

-- the address after the last one of that range, not reduced modulo 2 ^ 64
abbrev pub range_end : ℕ → ℕ
range_end w = if nat_le 50 (cut_exponent_of w) then 2 ^ 64 else window_start w % 2 ^ 64 + window_size w

-- an address that changes the bounds
abbrev pub moved_text : Seen → ℕ → List ℕ
moved_text seen address =
    number_text address ++ codes " isn't an address that keeps " ++ place_spelling seen.place ++ codes "'s bounds: these are "
    ++ range_text (range_start seen.source.word.0) (range_end seen.source.word.0)

-- what a request asks for is refused
abbrev pub asked_text : Seen → Request → Refusal → List ℕ
asked_text seen (Length length) NotExact = rounding_text seen length
asked_text seen (Length length) refusal = request_text seen length
asked_text seen (Address address) refusal = moved_text seen address
asked_text seen request refusal = []

-- the permission that an authority needs
abbrev pub needed_name : ℕ → List ℕ
needed_name needs =
    if needs == 2 ^ permit_seal then codes "Seal"
    else if needs == 2 ^ permit_unseal then codes "Unseal"
    else if needs == 2 ^ permit_load then codes "Load"
    else codes "Store"

-- the permissions that a request or an access needs
abbrev pub needs_of : Request → Option Reached → ℕ
needs_of (Authority register needs) access = needs
needs_of request (Some access) = access.needs
needs_of request None = 0

-- the permission that the authority lacks
abbrev pub lacking_text : Seen → List ℕ
lacking_text seen = place_spelling seen.authority ++ codes " lacks " ++ needed_name (needs_of seen.request seen.access)

-- the authority's address
abbrev pub address_text : Seen → List ℕ
address_text seen = place_spelling seen.authority ++ codes "'s address, " ++ number_text (address_of seen.held.word.0)

-- the bytes of an access go beyond the authority's bounds, or its address lies outside them
abbrev pub outside_text : Seen → Option Reached → List ℕ
outside_text seen (Some access) = escape_text (codes "the access ") access.address (access.address + access.size) seen.authority seen.held
outside_text seen None = address_text seen ++ codes ", is outside its bounds"

-- the authority's address is no object type
abbrev pub above_types_text : Seen → List ℕ
above_types_text seen = address_text seen ++ codes ", is above the greatest object type"

-- an object type and the address that should be it
abbrev pub types_text : Seen → List ℕ
types_text seen =
    place_spelling seen.place ++ codes "'s object type is " ++ number_text (otype_of seen.source.word.0)
    ++ codes ", and " ++ place_spelling seen.authority ++ codes "'s address " ++ number_text (address_of seen.held.word.0)

-- an address and the size that it should be a multiple of
abbrev pub misaligned_access : Reached → List ℕ
misaligned_access access = codes "the address " ++ number_text access.address ++ codes " isn't a multiple of " ++ decimal access.size

abbrev pub misaligned_text : Option Reached → List ℕ
misaligned_text (Some access) = misaligned_access access
misaligned_text None = []

-- a capability that may not be stored through an authority
abbrev pub unstored_text : Seen → List ℕ → List ℕ → List ℕ
unstored_text seen has lacks =
    place_spelling seen.place ++ has ++ codes ", and " ++ place_spelling seen.authority ++ codes " lacks " ++ lacks

-- why a check of a step fails
abbrev pub failed_text : Seen → Refusal → List ℕ
failed_text seen SourceUntagged = place_spelling seen.place ++ codes " has no tag"
failed_text seen SourceSealed = sealed_text seen.place seen.source
failed_text seen BoundsEscape = asked_text seen seen.request BoundsEscape
failed_text seen NotExact = asked_text seen seen.request NotExact
failed_text seen NotRepresentable = asked_text seen seen.request NotRepresentable
failed_text seen AuthorityUntagged = place_spelling seen.authority ++ codes " has no tag"
failed_text seen AuthoritySealed = sealed_text seen.authority seen.held
failed_text seen AuthorityPermission = lacking_text seen
failed_text seen AuthorityBounds = outside_text seen seen.access
failed_text seen TypeOutOfRange = above_types_text seen
failed_text seen TypeMismatch = types_text seen
failed_text seen Misaligned = misaligned_text seen.access
failed_text seen StoreCapPermission = unstored_text seen (codes " has a tag") (codes "Store Capability")
failed_text seen StoreLocalPermission = unstored_text seen (codes " has a tag and lacks Global") (codes "Store Local Capability")
failed_text seen refusal = []

-- where a result comes from that isn't recorded: from memory, or from the rules for registers
abbrev pub giver : Option Reached → List ℕ
giver (Some access) = codes "; memory holds "
giver None = codes "; the rules give "

-- what a line records of a result, and what it should be
abbrev pub other_text : List ℕ → List ℕ → List ℕ → List ℕ → List ℕ
other_text by name recorded given = codes "it records " ++ name ++ recorded ++ by ++ name ++ given

-- a recorded tag that the rules clear: why
abbrev pub cleared_text : Seen → Option Refusal → List ℕ
cleared_text seen (Some fault) = failed_text seen fault
cleared_text seen None = place_spelling seen.authority ++ codes " lacks Load Capability"

-- the rules clear a recorded tag: that of the source in memory, or that of a result
abbrev pub is_cleared : Seen → Bool → Option Refusal → Bool
is_cleared seen recorded fault = recorded && (is_some fault || (seen.source.tag && is_some seen.access))

-- two tags that differ
abbrev pub tags_text : Seen → Bool → Option Refusal → List ℕ
tags_text seen recorded fault =
    if is_cleared seen recorded fault
    then codes "it records tag 1; the rules clear it: " ++ cleared_text seen fault
    else other_text (giver seen.access) (codes "tag ") (tag_spelling recorded) (tag_spelling (not recorded))

-- two words that differ: in bounds, or address, or permissions, or object type, or in other bits
abbrev pub types_differ : List ℕ → ℕ → ℕ → List ℕ
types_differ by given recorded =
    if otype_of given == otype_of recorded then codes "it records a word of the same meaning, but with other bits"
    else other_text by (codes "object type ") (number_text (otype_of recorded)) (number_text (otype_of given))

abbrev pub permissions_differ : List ℕ → ℕ → ℕ → List ℕ
permissions_differ by given recorded =
    if perm_view_of given == perm_view_of recorded then types_differ by given recorded
    else other_text by (codes "permissions 0x") (hex_digits 8 (perm_view_of recorded)) (hex_digits 8 (perm_view_of given))

abbrev pub addresses_differ : List ℕ → ℕ → ℕ → List ℕ
addresses_differ by given recorded =
    if address_of given == address_of recorded then permissions_differ by given recorded
    else other_text by (codes "address ") (number_text (address_of recorded)) (number_text (address_of given))

abbrev pub has_bounds_of : ℕ → ℕ → Bool
has_bounds_of given recorded = base_of given == base_of recorded && top_of given == top_of recorded

abbrev pub words_text : List ℕ → ℕ → ℕ → List ℕ
words_text by given recorded =
    if has_bounds_of given recorded then addresses_differ by given recorded
    else other_text by (codes "bounds ") (range_text (base_of recorded) (top_of recorded)) (range_text (base_of given) (top_of given))

-- two numbers that differ
abbrev pub numbers_text : ℕ → ℕ → ℕ → List ℕ
numbers_text given size recorded =
    codes "it records 0x" ++ hex_digits (2 * size) recorded ++ codes "; memory holds 0x" ++ hex_digits (2 * size) given

-- a result that isn't the one the rules give
abbrev pub given_text : Seen → Given → List ℕ
given_text seen (Capability place given fault recorded) =
    if beq given.tag recorded.tag then words_text (giver seen.access) given.word.0 recorded.word.0
    else tags_text seen recorded.tag fault
given_text seen (Number given size recorded) = numbers_text given size recorded
given_text seen Nothing = []

-- a step that is refused, in a sentence
abbrev pub seen_sentence : Seen → Given → Refusal → List ℕ
seen_sentence seen given WrongResult = given_text seen given
seen_sentence seen given refusal = failed_text seen refusal

abbrev pub step_sentence : State → Shown → Refusal → List ℕ
step_sentence state shown refusal = seen_sentence (seen_by state shown) shown.given refusal

-- a top lies above the address space
abbrev pub high_top_text : ℕ → List ℕ
high_top_text top = codes "the top, " ++ number_text top ++ codes ", lies above 2^64, where addresses end"

-- why a word isn't sound
abbrev pub unsound_reason : ℕ → List ℕ
unsound_reason w =
    if nat_lt (2 ^ 64) (top_of w) then high_top_text (top_of w)
    else if nat_lt (top_of w) (base_of w) then codes "the top lies below the base"
    else codes "from base to top isn't as far as from B to T"

abbrev pub unsound_text : ℕ → List ℕ
unsound_text w = codes "its word isn't sound: " ++ unsound_reason w

-- a root's place has one already
abbrev pub taken_text : List ℕ
taken_text = codes " has a root already"
