use Rattle.std.proofs.Common.{ℕ, Result, rules, subst, sym}
use Rattle.cap_program.specs.{declared.faults.Fault.Fault, Doings.{IsPushed, TellsFaultLine}, Faults.fault_line}
use Rattle.cap_program.proofs.Doing.{begun}
use Rattle.cap_program.proofs.answers.tell.Goals as goal

pub returns-in-Err : goal.returns-in-Err
returns-in-Err g c =
    let text = fault_line c.args.front.now c.in-Err.fault in
    let pushed : IsPushed g.F.Sink.took g.F.Sink.faults c.args.faults.now c.push_all-pushed.new.sink text = search rules in record {
      told = subst (λ (d : Result ℕ Fault). TellsFaultLine (λ fault. c.args.front.now) g.F.Sink.took g.F.Sink.faults d c.args.faults.now c.push_all-pushed.new.sink)
          (sym c.in-Err.is) (record {
            silent = tt;
            told = begun g.F.Sink.took g.F.Sink.faults c.args.faults.now c.push_all-pushed.new.sink _ pushed;
            whole = pushed;
          });
    }
