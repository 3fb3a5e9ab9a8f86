use Rattle.std.proofs.Common.{IsTrue, false, ◌≡◌, subst, sym, ◌∙◌}
use Rattle.cap_word.specs.declared.word.Cap.{Cap}
use Rattle.cap_run.proofs.GranuleLemmas.{granule-named, granule-unowned, run-granule}
use Rattle.cap_run.proofs.run_machine.RunMachine.granule_cap.Goals as goal

pub returns-clause-value : goal.returns-clause-value
returns-clause-value g c = let s = c.args.self.now in c.granule.ensures.holds ∙ sym (run-granule s.machine s.specials c.args.granule c.requires)

pub returns-clause-named : goal.returns-clause-named
returns-clause-named g c tag =
    let s = c.args.self.now in
    granule-named s.machine s.specials c.args.granule c.requires
    (subst (λ (k : Cap). IsTrue k.tag) (c.granule.ensures.holds ∙ sym (run-granule s.machine s.specials c.args.granule c.requires)) tag)

pub returns-clause-unowned : goal.returns-clause-unowned
returns-clause-unowned g c none =
    let s = c.args.self.now in
    granule-unowned s.machine s.specials c.args.granule c.requires c.kept.ensures.kept
    (subst (λ (k : Cap). k.tag ≡ false) (c.granule.ensures.holds ∙ sym (run-granule s.machine s.specials c.args.granule c.requires)) none)
