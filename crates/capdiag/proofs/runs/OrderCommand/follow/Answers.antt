use Rattle.std.proofs.Common.{[], sym, subst, Option, Some, option_map}
use Rattle.cap_program.specs.{declared.faults.Fault.TheVariants.Read, Doings.{IsDone, IsFollowed, ended_by}}
use Rattle.cap_program.proofs.Doing.{followed_missing, followed_unread}
use Rattle.capdiag.specs.declared.orders.Order.{Order}
use Rattle.capdiag.specs.{Answers.{Fails, ReadsInput, Shows, order_meaning}, Forms.is_kept, Renderings.name_of}
use Rattle.capdiag.proofs.RunLemmas.{unread_lacks}
use Rattle.capdiag.proofs.runs.OrderCommand.follow.Goals as goal

pub returns-in-Help : goal.returns-in-Help
returns-in-Help g c =
    let e = c.show_help.ensures in
    let is = sym c.in-Help.is in record {
      followed = followed_unread order_meaning (Some c.args.self) g.S.Source.gave g.S.Source.ended g.S.Source.faults g.K.Sink.took
          g.K.Sink.faults c.args.input.now c.args.out.now c.show_help.new.out c.show_help.result g.met.S.Source.nothing
          (subst (λ (o : Order). ReadsInput (Some o) → ⊥) is (λ reads. reads)) e.unread
          (subst (λ (o : Order). IsDone (Shows (Some o) [] (ended_by g.S.Source.ended c.args.input.now)) (Fails (Some o) [])
          (g.K.Sink.took c.args.out.now c.show_help.new.out) c.show_help.result) is e.done)
          e.written;
    }

pub returns-in-Version : goal.returns-in-Version
returns-in-Version g c =
    let e = c.show_version.ensures in
    let is = sym c.in-Version.is in record {
      followed = followed_unread order_meaning (Some c.args.self) g.S.Source.gave g.S.Source.ended g.S.Source.faults g.K.Sink.took
          g.K.Sink.faults c.args.input.now c.args.out.now c.show_version.new.out c.show_version.result g.met.S.Source.nothing
          (subst (λ (o : Order). ReadsInput (Some o) → ⊥) is (λ reads. reads)) e.unread
          (subst (λ (o : Order). IsDone (Shows (Some o) [] (ended_by g.S.Source.ended c.args.input.now)) (Fails (Some o) [])
          (g.K.Sink.took c.args.out.now c.show_version.new.out) c.show_version.result) is e.done)
          e.written;
    }

pub returns-in-None : goal.returns-in-None
returns-in-None g c = record {
  followed = followed_missing order_meaning (Some c.args.self) g.S.Source.gave g.S.Source.ended g.S.Source.faults g.K.Sink.took
      g.K.Sink.faults c.args.input.now c.args.out.now c.in-None.is (g.met.K.Sink.nothing c.args.out.now)
      (subst (λ (o : Order). Fails (Some o) [] Read) (sym c.in-Judge.is) (unread_lacks c.in-Judge.judging
      (is_kept c.in-Judge.form (name_of c.in-Judge.form.look c.in-Judge.files (option_map (λ it. it.now) c.in-Judge.file)))));
}

pub returns-in-Some : goal.returns-in-Some
returns-in-Some g c =
    let e = c.judge_as.ensures in
    let is = sym c.in-Judge.is in record {
      followed = subst (λ (before : Option _). IsFollowed order_meaning (Some c.args.self) g.S.Source.gave g.S.Source.ended g.S.Source.faults
          g.K.Sink.took g.K.Sink.faults before (Some c.judge_as.new.source) c.args.out.now c.judge_as.new.sink c.judge_as.result) (sym c.in-Some.is) (record {
            done = (
              e.done.0,
              e.done.1,
              subst (λ (o : Order). IsDone (Shows (Some o) e.done.0 (g.S.Source.ended c.judge_as.new.source)) (Fails (Some o) e.done.0)
                  (g.K.Sink.took c.args.out.now c.judge_as.new.sink) c.judge_as.result) is e.done.2,
            );
            read = e.read;
            missing = λ reads none. absurd (cc);
            written = e.written;
          });
    }
