use Rattle.std.proofs.Common.{◌≡◌, ℕ, ap, sym, ◌∙◌}
use Rattle.cap_machine.specs.{Helds.{code_in, state_of}, Places.{place_at}}
use Rattle.cap_run.specs.{Owned.object_by, Run.register_key, RunOf.{run_owners, run_state}}
use Rattle.cap_run_log.specs.declared.lines.RunRegister.{RunRegister, TheVariants.General}
use Rattle.cap_run.proofs.PlaceLemmas.{coded_null, label_null}
use Rattle.cap_run.proofs.run_machine.RunMachine.label.Goals as goal

pub returns-in-General-eq0-clause-owner : goal.returns-in-General-eq0-clause-owner
returns-in-General-eq0-clause-owner g c =
    let m = c.args.self.now.machine in
    let zero_label = label_null (state_of m 0) (code_in m 0) c.kept.ensures.kept.zero (c.kept.ensures.kept.coded 0) in
    let is : c.args.register ≡ General 0 = c.in-General-eq0.is ∙ ap General (sym c.in-General-eq0.field-0-is ∙ c.in-General-eq0.field-0-test) in
    ap (λ (n : ℕ). object_by (place_at n)) (sym zero_label)
    ∙ ap (λ (r : RunRegister). run_owners m c.args.self.now.specials (register_key r)) (sym is)

pub returns-in-General-eq0-clause-coded : goal.returns-in-General-eq0-clause-coded
returns-in-General-eq0-clause-coded g c =
    let s = c.args.self.now in
    let is : c.args.register ≡ General 0 = c.in-General-eq0.is ∙ ap General (sym c.in-General-eq0.field-0-is ∙ c.in-General-eq0.field-0-test) in
    coded_null (run_state s.machine s.specials (register_key c.args.register)) 0
    (ap (λ (r : RunRegister). run_state s.machine s.specials (register_key r)) is ∙ c.kept.ensures.kept.zero) (λ _. 0)
