use Rattle.std.proofs.Common.{◌≡◌, ℕ, Option, None, option_map, ◌∙◌, ap, sym, subst}
use Rattle.cap_word.specs.declared.word.Cap.{Cap}
use Rattle.cap_ops.specs.{declared.{access.Access.Access, faults.OpFault.OpFault}, Accesses.{IsAllowed, access_address}}
use Rattle.cap_ops.specs.{Accesses.{access_checks, permission_for}, Checks.first_of, Refusals.refusal_of}
use Rattle.cap_ops.proofs.AccessLemmas.{IsAllowed-access, in_granule}
use Rattle.cap_ops.proofs.accesses.answer.Goals as goal

-- what the tests that all failed leave
allowed : (authority : Cap) (access : Access) (address : ℕ) (fault : Option OpFault)
    → address ≡ access_address authority.word.0 access.offset
    → option_map refusal_of fault ≡ first_of (access_checks authority access.kind access.offset access.size) → fault ≡ None
    → IsAllowed authority.word.0 address access.size (permission_for access.kind)
allowed authority access address fault at first none =
    subst (λ (address : ℕ). IsAllowed authority.word.0 address access.size (permission_for access.kind)) (sym at)
    (IsAllowed-access authority access.kind access.offset access.size (sym first ∙ ap (option_map refusal_of) none))

pub returns-in-None-clause-allowed : goal.returns-in-None-clause-allowed
returns-in-None-clause-allowed c = allowed c.args.authority c.args.access _ _ c.requires.address c.requires.fault c.in-None.is

pub returns-in-None-clause-in_one_granule : goal.returns-in-None-clause-in_one_granule
returns-in-None-clause-in_one_granule c =
    let access = c.args.access in
    let met = allowed c.args.authority access _ _ c.requires.address c.requires.fault c.in-None.is in
    in_granule access.kind _ access.size access.size_fits_kind met.aligned
