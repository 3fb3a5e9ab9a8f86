use Rattle.std.proofs.Common.{[], refl, ◌≡◌, ◌≢◌, ◌∙◌, ℕ, List, ap, append-nil, arith, subst, sym, Some}
use Rattle.std.proofs.lemmas.List.Elements.{All-nil}
use Rattle.cap_judge.specs.{Readings.stage_of, Verdicts.IsVerdict}
use Rattle.cap_judge.proofs.{EscapeLaws.named, JudgeLemmas.guarded, TurnLaws.told}
use Rattle.capcheck_judge.proofs.HandleLemmas.{held_taken}
use Rattle.capcheck_judge.proofs.lines.capcheck_judge_end.Goals as goal

pub returns-in-Some-clause-verdict : goal.returns-in-Some-clause-verdict
returns-in-Some-clause-verdict c = λ bytes holds.
    let is : c.args.judge.now.judge ≡ Some c.deref.result.now = c.in-Some.ensures.taken ∙ ap Some (sym c.deref.ensures) in
    let taken = held_taken c.args.judge.now.judge bytes holds c.deref.result.now is in
    let judge = c.deref.result.now in
    let end = c.end-verdict.ensures.verdict (omega arith, All-nil (λ b. b ≢ 10)) in
    let tells = told bytes [] (stage_of judge) judge.machine c.end-verdict.result end.0 taken refl
    (omega arith, All-nil (λ b. b ≢ 10)) end.1 in
    record {
      verdict = c.end-verdict.result;
      numbers = c.numbers_of.ensures.value;
      is_verdict = subst (λ (b : List ℕ). IsVerdict b c.end-verdict.result) (append-nil bytes) tells.0;
      authority = guarded bytes;
    }

pub returns-in-Some-clause-escape : goal.returns-in-Some-clause-escape
returns-in-Some-clause-escape c = λ verdict is. named verdict
