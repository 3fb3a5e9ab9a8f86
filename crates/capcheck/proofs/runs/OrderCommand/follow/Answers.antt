use Rattle.std.proofs.Common.{[], sym, subst, Some}
use Rattle.cap_judge.proofs.ReportLemmas.{nothing_given}
use Rattle.cap_program.specs.{declared.faults.Fault.TheVariants.Read, Doings.{IsDone, ended_by}}
use Rattle.cap_program.proofs.Doing.{followed_missing, followed_unread}
use Rattle.capcheck.specs.{declared.words.Order.Order, Answers.ReadsInput, Doings.{Fails, Shows, order_meaning}}
use Rattle.capcheck.proofs.InputLemmas.{breaks_off_nothing}
use Rattle.capcheck.proofs.runs.OrderCommand.follow.Goals as goal

pub returns-in-Explain : goal.returns-in-Explain
returns-in-Explain g c =
    let e = c.show_explanation.ensures in
    let is = sym c.in-Explain.is in record {
      followed = followed_unread order_meaning (Some c.args.self) g.S.Source.gave g.S.Source.ended g.S.Source.faults g.K.Sink.took
          g.K.Sink.faults c.args.input.now c.args.out.now c.show_explanation.new.out c.show_explanation.result g.met.S.Source.nothing
          (subst (λ (o : Order). ReadsInput (Some o) → ⊥) is (λ reads. reads)) e.unread
          (subst (λ (o : Order). IsDone (Shows (Some o) [] (ended_by g.S.Source.ended c.args.input.now)) (Fails (Some o) [])
          (g.K.Sink.took c.args.out.now c.show_explanation.new.out) c.show_explanation.result) is e.done)
          e.written;
    }

pub returns-in-Round : goal.returns-in-Round
returns-in-Round g c =
    let e = c.show_rounding.ensures in
    let is = sym c.in-Round.is in record {
      followed = followed_unread order_meaning (Some c.args.self) g.S.Source.gave g.S.Source.ended g.S.Source.faults g.K.Sink.took
          g.K.Sink.faults c.args.input.now c.args.out.now c.show_rounding.new.out c.show_rounding.result g.met.S.Source.nothing
          (subst (λ (o : Order). ReadsInput (Some o) → ⊥) is (λ reads. reads)) e.unread
          (subst (λ (o : Order). IsDone (Shows (Some o) [] (ended_by g.S.Source.ended c.args.input.now)) (Fails (Some o) [])
          (g.K.Sink.took c.args.out.now c.show_rounding.new.out) c.show_rounding.result) is e.done)
          e.written;
    }

pub returns-in-None-input : goal.returns-in-None-input
returns-in-None-input g c = record {
  followed = followed_missing order_meaning (Some c.args.self) g.S.Source.gave g.S.Source.ended g.S.Source.faults g.K.Sink.took
      g.K.Sink.faults c.args.input.now c.args.out.now c.in-None-input.is (g.met.K.Sink.nothing c.args.out.now)
      (subst (λ (o : Order). Fails (Some o) [] Read) (sym c.in-Vectors.is) breaks_off_nothing);
}

pub returns-in-None : goal.returns-in-None
returns-in-None g c = record {
  followed = followed_missing order_meaning (Some c.args.self) g.S.Source.gave g.S.Source.ended g.S.Source.faults g.K.Sink.took
      g.K.Sink.faults c.args.input.now c.args.out.now c.in-None.is (g.met.K.Sink.nothing c.args.out.now)
      (subst (λ (o : Order). Fails (Some o) [] Read) (sym c.in-Judge.is) nothing_given);
}
