-- The refusals: their numbers, their names and a sentence for each.
use Rattle.std.specs.Prelude.{ℕ, List, [], ◌∷◌, codes, get_or}
use Rattle.cap_ops.specs.declared.{faults.OpFault.OpFault, refusal.Refusal.Refusal}
use Rattle.cap_ops.specs.declared.refusal.Refusal.TheVariants.{BadHeader, LineTooLong, BadLine, Misplaced, Truncated}
use Rattle.cap_ops.specs.declared.refusal.Refusal.TheVariants.{WrongCount, PlaceTaken, UnsoundRoot, SourceUntagged}
use Rattle.cap_ops.specs.declared.refusal.Refusal.TheVariants.{SourceSealed, BoundsEscape, NotExact, NotRepresentable}
use Rattle.cap_ops.specs.declared.refusal.Refusal.TheVariants.{AuthorityUntagged, AuthoritySealed, AuthorityPermission}
use Rattle.cap_ops.specs.declared.refusal.Refusal.TheVariants.{AuthorityBounds, TypeOutOfRange, TypeMismatch}
use Rattle.cap_ops.specs.declared.refusal.Refusal.TheVariants.{Misaligned, StoreCapPermission, StoreLocalPermission}
use Rattle.cap_ops.specs.declared.refusal.Refusal.TheVariants.{WrongResult, LimitPassed, BadMode}
use Rattle.cap_ops.specs.declared.faults.OpFault.TheVariants as faults

-- a refusal's number (this profile's own)
abbrev pub refusal_number : Refusal → ℕ
refusal_number BadHeader = 1
refusal_number LineTooLong = 2
refusal_number BadLine = 3
refusal_number Misplaced = 4
refusal_number Truncated = 5
refusal_number WrongCount = 6
refusal_number PlaceTaken = 7
refusal_number UnsoundRoot = 8
refusal_number SourceUntagged = 9
refusal_number SourceSealed = 10
refusal_number BoundsEscape = 11
refusal_number NotExact = 12
refusal_number NotRepresentable = 13
refusal_number AuthorityUntagged = 14
refusal_number AuthoritySealed = 15
refusal_number AuthorityPermission = 16
refusal_number AuthorityBounds = 17
refusal_number TypeOutOfRange = 18
refusal_number TypeMismatch = 19
refusal_number Misaligned = 20
refusal_number StoreCapPermission = 21
refusal_number StoreLocalPermission = 22
refusal_number WrongResult = 23
refusal_number LimitPassed = 24
refusal_number BadMode = 25

-- the names of all refusals by their numbers, from 0, which is none: from 26 on those that only logs of allocators and run
-- logs have (this profile's own)
abbrev pub refusal_names : List (List ℕ)
refusal_names =
    [] ∷ codes "BadHeader" ∷ codes "LineTooLong" ∷ codes "BadLine" ∷ codes "Misplaced" ∷ codes "Truncated"
    ∷ codes "WrongCount" ∷ codes "PlaceTaken" ∷ codes "UnsoundRoot" ∷ codes "SourceUntagged"
    ∷ codes "SourceSealed" ∷ codes "BoundsEscape" ∷ codes "NotExact" ∷ codes "NotRepresentable"
    ∷ codes "AuthorityUntagged" ∷ codes "AuthoritySealed" ∷ codes "AuthorityPermission"
    ∷ codes "AuthorityBounds" ∷ codes "TypeOutOfRange" ∷ codes "TypeMismatch" ∷ codes "Misaligned"
    ∷ codes "StoreCapPermission" ∷ codes "StoreLocalPermission" ∷ codes "WrongResult" ∷ codes "LimitPassed"
    ∷ codes "BadMode" ∷ codes "AddressTaken" ∷ codes "OutsideHeap" ∷ codes "Overlaps" ∷ codes "NotLive"
    ∷ codes "UnsoundResult" ∷ codes "BeyondSource" ∷ codes "SealChanged" ∷ codes "NotInvokable"
    ∷ codes "NoCapability" ∷ codes "HasOwner" ∷ codes "StillHeld" ∷ codes "NoOwner" ∷ codes "AlreadyFreed"
    ∷ codes "OwnerFreed" ∷ codes "NoObject" ∷ codes "NotOwned" ∷ []

-- the name of the refusal with a number, and none of a number that no refusal has
abbrev pub refusal_name_at : ℕ → List ℕ
refusal_name_at number = get_or refusal_names number []

-- why a line is refused, by the same numbers (this profile's own)
abbrev pub refusal_sentences : List (List ℕ)
refusal_sentences =
    []
    ∷ codes "The first line is neither `capcheck 1` nor `capcheck 2`."
    ∷ codes "The line has more than 95 bytes."
    ∷ codes "The line has none of the forms of the log's version."
    ∷ codes "The line may not stand here."
    ∷ codes "The bytes end before a line feed, or before the end line."
    ∷ codes "The end line's number isn't the number of steps."
    ∷ codes "The root's place has a root already."
    ∷ codes "The root's word isn't sound."
    ∷ codes "The source is untagged, and the step needs a tagged one."
    ∷ codes "The source is sealed, and the step needs an unsealed one."
    ∷ codes "The rounded bounds don't lie inside the source's bounds."
    ∷ codes "Rounding changes the requested bounds."
    ∷ codes "The new address doesn't keep the source's bounds."
    ∷ codes "The authority is untagged."
    ∷ codes "The authority is sealed."
    ∷ codes "The authority lacks the permission that the step needs."
    ∷ codes "The authority's address, or a byte of the access, lies outside the authority's bounds."
    ∷ codes "The authority's address is above the greatest ordinary object type."
    ∷ codes "The source's object type isn't the authority's address, or is reserved."
    ∷ codes "The address of the access is no multiple of its size."
    ∷ codes "A tagged capability is stored without Store Capability."
    ∷ codes "A tagged capability that isn't Global is stored without Store Local Capability."
    ∷ codes "The recorded result or value isn't the machine's."
    ∷ codes "A limit on roots, granules or steps is passed."
    ∷ codes "The line after the version line of version 2 is no mode line."
    ∷ codes "An object lives at this very address."
    ∷ codes "The rounded bounds don't lie inside the root's."
    ∷ codes "The extent shares an address with that of a live object."
    ∷ codes "No object lives at the address that is freed."
    ∷ codes "The recorded word isn't sound."
    ∷ codes "The word has bounds or permissions beyond its source's."
    ∷ codes "The seal isn't kept."
    ∷ codes "The two registers hold no pair for CInvoke."
    ∷ codes "The register has no tag, or is sealed where it has to be unsealed."
    ∷ codes "The register has an owner already."
    ∷ codes "A capability of a freed object still reaches the memory that is handed out."
    ∷ codes "No object owns what is freed."
    ∷ codes "The object was freed before."
    ∷ codes "The object that owns the authority of the access was freed."
    ∷ codes "No object with this number was handed out."
    ∷ codes "The authority of the access has no owner, and a byte of a live object is touched."
    ∷ []

abbrev pub refusal_sentence_at : ℕ → List ℕ
refusal_sentence_at number = get_or refusal_sentences number []

-- a refusal's name
abbrev pub refusal_name : Refusal → List ℕ
refusal_name refusal = refusal_name_at (refusal_number refusal)

-- the refusal that a fault of an operation or an access is, of the same name
abbrev pub refusal_of : OpFault → Refusal
refusal_of faults.SourceUntagged = SourceUntagged
refusal_of faults.SourceSealed = SourceSealed
refusal_of faults.BoundsEscape = BoundsEscape
refusal_of faults.NotExact = NotExact
refusal_of faults.NotRepresentable = NotRepresentable
refusal_of faults.AuthorityUntagged = AuthorityUntagged
refusal_of faults.AuthoritySealed = AuthoritySealed
refusal_of faults.AuthorityPermission = AuthorityPermission
refusal_of faults.AuthorityBounds = AuthorityBounds
refusal_of faults.TypeOutOfRange = TypeOutOfRange
refusal_of faults.TypeMismatch = TypeMismatch
refusal_of faults.Misaligned = Misaligned
refusal_of faults.StoreCapPermission = StoreCapPermission
refusal_of faults.StoreLocalPermission = StoreLocalPermission

-- the number of a fault, which is its refusal's (this profile's own)
abbrev pub fault_number : OpFault → ℕ
fault_number fault = refusal_number (refusal_of fault)
