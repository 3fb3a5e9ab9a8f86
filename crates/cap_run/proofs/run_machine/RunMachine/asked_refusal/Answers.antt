use Rattle.std.proofs.Common.{◌≡◌, Some, ap, sym, ◌∙◌}
use Rattle.cap_ops.specs.{Accesses.permission_for, Checks.first_of}
use Rattle.cap_machine.specs.{Helds.state_of, Steps.{Access, address_through}}
use Rattle.cap_run.specs.declared.ends.RunRefusal.{RunRefusal}
use Rattle.cap_run.specs.{Numbers.numbered_run, RunChecks.usual_end}
use Rattle.cap_run.proofs.AskedLemmas.{asked-permits, asked-refuses, if-none, if-some}
use Rattle.cap_run.proofs.run_machine.RunMachine.asked_refusal.Goals as goal

pub returns-in-Some-clause-some : goal.returns-in-Some-clause-some
returns-in-Some-clause-some g c =
    let s = c.args.self.now in
    let row = c.in-Some.ensures.some in
    let access : Access = record {
      authority = c.in-Some.authority;
      address = address_through (state_of s.machine) c.in-Some.authority c.in-Some.access.offset;
      size = c.in-Some.access.size;
      permission = permission_for c.in-Some.access.kind;
    } in
    if-some c.access_refusal.result _ (λ (refusal : RunRefusal). usual_end s.asks (numbered_run s.machine s.specials s.objects) c.args.step.now ≡ Some refusal)
    (λ refusal is. asked-refuses s.machine s.specials s.objects c.args.step.now s.asks c.kept.ensures.stored access row.1 refusal (ap first_of row.0 ∙ is.0) is.1)
    c.access_refusal.ensures.some

pub returns-in-Some-clause-none : goal.returns-in-Some-clause-none
returns-in-Some-clause-none g c =
    let s = c.args.self.now in
    let row = c.in-Some.ensures.some in
    let access : Access = record {
      authority = c.in-Some.authority;
      address = address_through (state_of s.machine) c.in-Some.authority c.in-Some.access.offset;
      size = c.in-Some.access.size;
      permission = permission_for c.in-Some.access.kind;
    } in
    if-none c.access_refusal.result _ _
    (λ given. asked-permits s.machine s.specials s.objects c.args.step.now s.asks c.kept.ensures.stored access row.1 (λ none. given (ap first_of (sym row.0) ∙ none)))
    c.access_refusal.ensures.none
