use Rattle.std.proofs.Common.{option_map, ◌≡◌, ◌+◌, false, ap, arith, subst, sym, ◌∙◌}
use Rattle.cap_word.specs.declared.word.Cap.{Cap}
use Rattle.cap_machine.specs.{Accounts.Account}
use Rattle.std.specs.Prelude.{Err}
use Rattle.cap_run_log.specs.declared.lines.RunPlace.TheVariants.{Special}
use Rattle.cap_run.specs.declared.ends.RunEnd.{RunEnd}
use Rattle.cap_run.specs.{Numbers.numbered_run, RunChanges.root_after, RunChecks.{Answers, root_end, root_wants}}
use Rattle.cap_run.specs.{Run.first_special, Specials.cap_in}
use Rattle.cap_run.specs.declared.ends.RunRefusal.TheVariants.{Usual}
use Rattle.cap_run.proofs.RootLemmas.{ended-account, same-counted, same-within, root-counted, root-within, special-after, special-end, special-owners, special-refused, special-state, special-unowned}
use Rattle.cap_run.proofs.SwitchLemmas.{coded-near}
use Rattle.cap_run.proofs.run_machine.RunMachine.declare_special.Goals as goal

pub invariant_of-self : goal.invariant_of-self
invariant_of-self g c =
    let s = c.args.self.now in
    let mid = c.count_root.new.machine in
    let key = first_special + c.args.number in
    let counts = c.in-Ok.ensures.outcome in
    let none : (cap_in s.specials c.args.number).tag ≡ false = ap (λ (k : Cap). k.tag) (sym c.cap.ensures.value) ∙ c.if-cap.false in
    let unowned = special-unowned s.machine s.specials c.args.number (let low = c.requires.number in coded-near s.specials c.args.number (omega (arith, low))) none in
    let state = special-state s.machine mid s.specials c.put.new.self s.objects c.args.number c.args.word c.put.ensures.caps c.put.ensures.labels c.put.ensures.harts counts in
    let owners = special-owners s.machine mid s.specials c.put.new.self s.objects c.args.number c.args.word c.put.ensures.caps c.put.ensures.labels c.put.ensures.harts counts in
    record {
      counted = root-counted s.machine mid s.specials c.put.new.self s.objects key c.args.word state unowned owners s.counted;
      within = root-within s.machine mid s.specials c.put.new.self s.objects key c.args.word state unowned owners s.within;
      few = let steps = ap (λ (a : Account). a.steps) counts.account in omega (arith, s.few, steps);
      asked = s.asked;
    }

pub invariant_of-self-in-Err-1 : goal.invariant_of-self-in-Err-1
invariant_of-self-in-Err-1 g c =
    let s = c.args.self.now in
    let same = ended-account s.machine c.args.word c.in-Err.end c.count_root.new.machine c.in-Err.ensures.outcome in
    record {
      counted = same-counted s.machine c.count_root.new.machine s.specials s.objects same s.counted;
      within = same-within s.machine c.count_root.new.machine s.specials s.objects same s.within;
      few = let steps = ap (λ (a : Account). a.steps) same in omega (arith, s.few, steps);
      asked = s.asked;
    }

pub returns-in-Ok-clause-outcome : goal.returns-in-Ok-clause-outcome
returns-in-Ok-clause-outcome g c =
    let s = c.args.self.now in
    let counts = c.in-Ok.ensures.outcome in
    let none : (cap_in s.specials c.args.number).tag ≡ false = ap (λ (k : Cap). k.tag) (sym c.cap.ensures.value) ∙ c.if-cap.false in (
      special-end s.machine s.specials s.objects c.args.number c.args.word c.requires.first none ∙ ap (option_map Usual) counts.checks,
      special-after s.machine c.count_root.new.machine s.specials c.put.new.self s.objects c.args.number c.args.word c.put.ensures.caps c.put.ensures.labels c.put.ensures.harts counts
          (special-unowned s.machine s.specials c.args.number (let low = c.requires.number in coded-near s.specials c.args.number (omega (arith, low))) none),
    )

pub returns-in-Err-clause-outcome : goal.returns-in-Err-clause-outcome
returns-in-Err-clause-outcome g c =
    let s = c.args.self.now in
    let none : (cap_in s.specials c.args.number).tag ≡ false = ap (λ (k : Cap). k.tag) (sym c.cap.ensures.value) ∙ c.if-cap.false in
    let run = numbered_run s.machine s.specials s.objects in
    subst (λ (e : RunEnd). Answers (root_end run (Special c.args.number) c.args.word) (root_after run (Special c.args.number) c.args.word)
    (root_wants run (Special c.args.number)) run (Err e) (numbered_run c.count_root.new.machine s.specials s.objects)) (sym c.usual_ended.ensures)
    (special-refused s.machine c.count_root.new.machine s.specials s.objects c.args.number c.args.word c.requires.first none c.in-Err.end c.in-Err.ensures.outcome)
