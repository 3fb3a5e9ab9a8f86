use Rattle.cap_judge.specs.Turns.{unread, log_turns}
use Rattle.cap_judge.proofs.ExpectedLemmas.{expects}
use Rattle.cap_judge.proofs.TurnLaws.{fault_ends, fault_reached, lacks_memory, none_so_far, reached, stands_so_far, told}
use Rattle.cap_judge.proofs.laws.stages_are_of_logs.Goals as goal
use Rattle.cap_turns.proofs.FollowLemmas.{clear_goes, follows_on}

pub returns : goal.returns
returns c = record {
  reached = reached;
  after = λ front rest middle new follows clear.
      fault_reached front rest middle new (clear_goes log_turns unread front middle follows clear);
  stands = λ bytes stage follows. stands_so_far bytes stage.state stage.due (reached bytes stage follows);
  none = λ bytes stage follows. none_so_far bytes stage.state stage.due (reached bytes stage follows);
  fault = λ bytes stage held line refusal text ended follows same due.
      fault_ends bytes stage line refusal text follows due held same ended;
  memory = lacks_memory;
  ends = told;
  expects = λ bytes stage result follows. expects bytes stage.state stage.due result (reached bytes stage follows);
  goes_on = follows_on log_turns;
}
