use Rattle.std.proofs.Common.{Some, ap, inr, sym, ◌∙◌}
use Rattle.cap_run_judge.specs.{Readings.stage_of, Turns.run_turns}
use Rattle.cap_run_judge.proofs.judges.RunJudge.stop_at_other.Goals as goal
use Rattle.cap_run_judge.proofs.judges.RunJudge.stop_at_other.Goals.{in-Line, in-TooLong}
use Rattle.cap_turns.proofs.TurnLemmas.{formless, goes_none}

pub returns-in-Cut : goal.returns-in-Cut
returns-in-Cut g c = record { stops = (goes_none run_turns (stage_of c.args.self.now), c.in-Cut.ensures.found, c.requires.clear) }

pub stop-requires-clause-ends : goal.stop-requires-clause-ends
stop-requires-clause-ends g c = elim c.match-found.branch [
  | in-TooLong w ↦ inr (w.in-TooLong.ensures.found, w.refusal-is ∙ w.refusal_of_long-refusal.ensures)
  | in-Line w ↦
      formless run_turns (stage_of c.args.self.now) c.args.bytes.now w.in-Line.field-0 c.match-found.refusal w.in-Line.ensures.found.1 c.requires.none
      (w.refusal_of_formless-refusal.ensures ∙ ap Some (sym w.refusal-is))
]
