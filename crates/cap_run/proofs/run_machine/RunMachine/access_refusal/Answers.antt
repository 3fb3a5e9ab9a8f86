use Rattle.std.proofs.Common.{◌≡◌, ◌+◌, ◌&&◌, Bool, ℕ, None, ap, subst, sym, ◌∙◌}
use Rattle.cap_word.specs.declared.word.Cap.{Cap}
use Rattle.cap_ops.specs.{Accesses.{access_address, access_checks, permission_for}, Checks.first_of}
use Rattle.cap_machine.specs.Steps.{Access, address_through}
use Rattle.cap_machine.specs.Helds.{state_of}
use Rattle.cap_objects.specs.HandoutsIn.{objects_of}
use Rattle.cap_run.specs.{Numbers.numbered_run, RunChecks.{is_live, meets}}
use Rattle.cap_run.proofs.AskedLemmas.{and_none, asked-allowed, asked-freed, asked-none, asked-unowned}
use Rattle.cap_run.proofs.{ObjectLemmas.{owner-there, to_is_some}}
use Rattle.cap_run.proofs.run_machine.RunMachine.access_refusal.Goals as goal

pub is_forbidden-requires : goal.is_forbidden-requires
is_forbidden-requires g c =
    let s = c.args.self.now in
    let o = owner-there s.machine s.specials (objects_of s.objects) s.specials.registers.sized.1 s.counted c.args.authority c.in-Some.slot
    (sym c.owner.ensures.owner ∙ c.in-Some.is) in
    to_is_some (objects_of s.objects c.in-Some.slot) o.0 o.1

pub returns-then-not-is_forbidden-clause-none : goal.returns-then-not-is_forbidden-clause-none
returns-then-not-is_forbidden-clause-none g c none =
    let s = c.args.self.now in
    let owner = sym c.owner.ensures.owner ∙ c.in-Some.is in
    let o = owner-there s.machine s.specials (objects_of s.objects) s.specials.registers.sized.1 s.counted c.args.authority c.in-Some.slot owner in
    let access : Access = record {
      authority = c.args.authority;
      address = address_through (state_of s.machine) c.args.authority c.args.access.offset;
      size = c.args.access.size;
      permission = permission_for c.args.access.kind;
    } in
    asked-allowed s.machine s.specials s.objects s.objects.kept.numbered s.asks access c.in-Some.slot o.0 owner o.1
    (sym (c.is_forbidden.ensures o.0 o.1) ∙ c.if-not-is_forbidden.true)

pub returns-in-Ok-clause-some : goal.returns-in-Ok-clause-some
returns-in-Ok-clause-some g c =
    let s = c.args.self.now in
    let owner = sym c.owner.ensures.owner ∙ c.in-Some.is in
    let o = owner-there s.machine s.specials (objects_of s.objects) s.specials.registers.sized.1 s.counted c.args.authority c.in-Some.slot owner in
    let access : Access = record {
      authority = c.args.authority;
      address = address_through (state_of s.machine) c.args.authority c.args.access.offset;
      size = c.args.access.size;
      permission = permission_for c.args.access.kind;
    } in (
      subst (λ (k : Cap). first_of (access_checks k c.args.access.kind c.args.access.offset c.args.access.size) ≡ None) c.register-cap.ensures.holds c.in-Ok.ensures.outcome.0,
      asked-freed s.machine s.specials s.objects s.objects.kept.numbered s.asks access c.in-Some.slot o.0 owner o.1 (sym (c.is_forbidden.ensures o.0 o.1) ∙ c.if-not-is_forbidden.false),
    )

pub returns-then-meets_live-clause-some : goal.returns-then-meets_live-clause-some
returns-then-meets_live-clause-some g c =
    let s = c.args.self.now in
    let run = numbered_run s.machine s.specials s.objects in
    let access : Access = record {
      authority = c.args.authority;
      address = address_through (state_of s.machine) c.args.authority c.args.access.offset;
      size = c.args.access.size;
      permission = permission_for c.args.access.kind;
    } in
    let address : c.in-Ok-may_access.address ≡ access.address =
    c.in-Ok-may_access.ensures.outcome.1 ∙ ap (λ (k : Cap). access_address k.word.0 c.args.access.offset) c.register-cap.ensures.holds in (
      subst (λ (k : Cap). first_of (access_checks k c.args.access.kind c.args.access.offset c.args.access.size) ≡ None) c.register-cap.ensures.holds
          c.in-Ok-may_access.ensures.outcome.0,
      asked-unowned s.machine s.specials s.objects s.objects.kept.numbered s.asks access (sym c.owner.ensures.owner ∙ c.in-None.is) c.if-not-self.false
          (ap (λ (a : ℕ). meets run None is_live a (a + access.size)) (sym address) ∙ ap (meets run None is_live c.in-Ok-may_access.address)
          (ap (λ (a : ℕ). a + access.size) (sym c.from.ensures) ∙ ap (λ (n : ℕ). c.from.result + n) (sym c.from-in-None.ensures)) ∙ sym c.meets_live.ensures ∙ c.if-meets_live.true),
    )

pub returns-else-meets_live-clause-none : goal.returns-else-meets_live-clause-none
returns-else-meets_live-clause-none g c none =
    let s = c.args.self.now in
    let run = numbered_run s.machine s.specials s.objects in
    let access : Access = record {
      authority = c.args.authority;
      address = address_through (state_of s.machine) c.args.authority c.args.access.offset;
      size = c.args.access.size;
      permission = permission_for c.args.access.kind;
    } in
    let address : c.in-Ok-may_access.address ≡ access.address =
    c.in-Ok-may_access.ensures.outcome.1 ∙ ap (λ (k : Cap). access_address k.word.0 c.args.access.offset) c.register-cap.ensures.holds in
    asked-none s.machine s.specials s.objects s.objects.kept.numbered s.asks access (sym c.owner.ensures.owner ∙ c.in-None.is)
    (ap (λ (b : Bool). s.asks.owned && b)
    (ap (λ (a : ℕ). meets run None is_live a (a + access.size)) (sym address) ∙ ap (meets run None is_live c.in-Ok-may_access.address)
    (ap (λ (a : ℕ). a + access.size) (sym c.from.ensures) ∙ ap (λ (n : ℕ). c.from.result + n) (sym c.from-in-None.ensures)) ∙ sym c.meets_live.ensures ∙ c.if-meets_live.false) ∙ and_none s.asks.owned)

-- nothing refuses what its own checks refuse
pub returns-in-Err-clause-some : goal.returns-in-Err-clause-some
returns-in-Err-clause-some g c = tt
