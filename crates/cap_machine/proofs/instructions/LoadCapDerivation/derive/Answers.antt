use Rattle.std.proofs.Common.{◌≡◌, ◌/◌, Some, ap, sym, ◌∙◌}
use Rattle.cap_word.specs.declared.word.Cap.{Cap}
use Rattle.cap_ops.specs.Accesses.{loaded_result}
use Rattle.cap_machine.specs.{Helds.{Held, code_in, state_of}, States.granule_key, Steps.granule_through}
use Rattle.cap_machine.proofs.instructions.LoadCapDerivation.derive.Goals as goal

pub returns-clause-gives : goal.returns-clause-gives
returns-clause-gives g c =
    let old = c.args.machine.now in
    let out = c.in_ok-address.ensures.outcome in
    let found = c.granule_with_code-code in
    let key = granule_key (granule_through (state_of old) c.args.self.now.authority c.args.self.now.offset) in
    let authority : c.register.result ≡ state_of old c.args.self.now.authority =
    c.register.ensures.holds ∙ ap (λ (h : Held). state_of h c.number.result) c.reach.ensures.same ∙ ap (state_of old) c.number.ensures.number in
    let held : found.result.0 ≡ state_of old key = found.ensures.holds ∙ ap (λ (h : Held). state_of h (granule_key (c.in_ok-address.address / 16))) c.reach.ensures.same
    ∙ ap (λ a. state_of old (granule_key (a / 16))) out.1 in
    let code : found.result.1 ≡ code_in old key = found.ensures.code ∙ ap (λ (h : Held). code_in h (granule_key (c.in_ok-address.address / 16))) c.reach.ensures.same
    ∙ ap (λ a. code_in old (granule_key (a / 16))) out.1 in (
      (
        out.0,
        c.loaded-given.ensures.result_is ∙ ap (λ (cap : Cap). loaded_result cap found.result.0) authority
            ∙ ap (loaded_result (state_of old c.args.self.now.authority)) held,
      ),
      λ granule is. (found.result.1, (λ tagged. ap Some (sym code)), c.code_of.ensures.code),
    )
