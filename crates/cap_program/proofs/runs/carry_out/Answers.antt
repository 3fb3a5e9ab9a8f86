use Rattle.std.proofs.Common.{List, ℕ}
use Rattle.cap_program.specs.Doings.{ended_by}
use Rattle.cap_program.proofs.Doing.{done_handed_on, done_map, input_handed_on, read_handed_on, then_nothing, written_handed_on}
use Rattle.cap_program.proofs.runs.carry_out.Goals as goal

pub returns-clause-followed : goal.returns-clause-followed
returns-clause-followed g c =
    let f = c.follow-done.ensures.followed in
    let handed = c.hand_on-done.ensures.handed_on in
    let d = f.done in
    let shows = g.C.Command.meaning.shows c.args.order d.0 (ended_by g.S.Source.ended c.follow-done.new.input) in
    let fails = g.C.Command.meaning.fails c.args.order d.0 in
    let took = λ (xs : List ℕ). g.K.Sink.took c.args.out.now c.hand_on-done.new.out xs in record {
      done = (
        d.0,
        d.1,
        done_handed_on shows fails took _ _ _ _ (done_map shows fails (g.K.Sink.took c.args.out.now c.follow-done.new.out) took _
            (then_nothing g.K.Sink.took g.met.K.Sink.joined _ _ _ c.hand_on-done.ensures.nothing_taken) d.2) handed,
      );
      read = input_handed_on g.S.Source.faults _ _ _ _ _ _ f.read handed;
      missing = λ reads none. read_handed_on _ _ _ _ handed (f.missing reads none);
      written = written_handed_on _ _ _ _ _ f.written handed;
    }
