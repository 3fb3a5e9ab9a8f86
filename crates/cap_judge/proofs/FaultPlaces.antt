-- Where a judge stopped is at the first fault: its machine holds what the lines before that lead to, and it holds the text of that line.
use Rattle.std.specs.List.{AllByRecursion}
use Rattle.std.proofs.Common.{◌≡◌, ℕ, ◌+◌, inl, inr, Bool, true, List, [], ◌∷◌, ◌++◌, length, refl, sym, ap, subst, ◌∙◌}
use Rattle.std.proofs.{Common.{append-nil, arith}, lemmas.List.take-append-le}
use Rattle.cap_ops.specs.declared.refusal.Refusal.{Refusal}
use Rattle.cap_log.specs.{declared.lines.Line.Line, Lines.IsInRange}
use Rattle.cap_streams.specs.Front.{IsFrontText}
use Rattle.cap_streams.proofs.FrontLemmas.{IsLine-more, IsTooLong-more}
use Rattle.cap_machine.specs.{Accounts.Account, Helds.{Held, account_of}}
use Rattle.cap_judge.specs.{declared.verdict.Verdict.TheVariants.No, Judgings.{IsBehind, IsVerdictOf, account_before, StopsBefore}}
use Rattle.cap_judge.specs.{Logs.{Beginning, lines_of, text_of, IsFirstFault}, Turns.log_turns}
use Rattle.cap_judge.proofs.{InTurn.same_beginning, JudgeLemmas.behind_more, LogLemmas.accepted_in_range, SourceLemmas.whole_verdict}
use Rattle.cap_judge.proofs.TurnLemmas.{log_spelled}
use Rattle.cap_turns.proofs.OneEnd.{text_cons, same_front}
use Rattle.cap_turns.specs.Verdicts.{IsLastFront}

-- as many lines at the front of the same bytes are the same
same_lines : (lines lines' : List Line) (rest rest' : List ℕ) → AllByRecursion IsInRange lines → AllByRecursion IsInRange lines'
    → length lines ≡ length lines' → text_of lines ++ rest ≡ text_of lines' ++ rest' → (lines ≡ lines') × (rest ≡ rest')
same_lines [] [] rest rest' range range' long same = (refl, same)
same_lines [] (line ∷ lines) rest rest' range range' long same = absurd (omega (arith, long))
same_lines (line ∷ lines) [] rest rest' range range' long same = absurd (omega (arith, long))
same_lines (line ∷ lines) (other ∷ lines') rest rest' range range' long same =
    let first = same_front log_turns log_spelled line other _ _ range.0 range'.0
    (sym (text_cons log_turns line lines rest) ∙ same ∙ text_cons log_turns other lines' rest') in
    let all = same_lines lines lines' rest rest' range.1 range'.1 (omega (arith, long)) first.1 in
    (ap (λ (l : Line). l ∷ lines) first.0 ∙ ap (λ (ls : List Line). other ∷ ls) all.0, all.1)

-- two beginnings of the same bytes with as many lines are one, and leave the same rest
same_place : (bytes : List ℕ) (a b : Beginning) (rest rest' : List ℕ) → IsBehind bytes a rest → IsBehind bytes b rest'
    → length (lines_of a) ≡ length (lines_of b) → (a ≡ b) × (rest ≡ rest')
same_place bytes a b rest rest' here there long =
    let same = same_lines (lines_of a) (lines_of b) rest rest' (accepted_in_range a here.accepted) (accepted_in_range b there.accepted) long
    (sym here.bytes_are ∙ there.bytes_are) in
    (same_beginning a b same.0, same.1)

-- the text of a front, whatever bytes follow where the source has not ended
front_more : (rest : List ℕ) (ended : Bool) (text more : List ℕ) → (ended ≡ true → more ≡ []) → IsLastFront rest ended text
    → IsFrontText (rest ++ more) text
front_more rest ended text more end (inl long) =
    inl (IsTooLong-more rest more long.0, long.1 ∙ sym (take-append-le 96 rest more long.0.0))
front_more rest ended text more end (inr (inl cut)) =
    subst (λ (b : List ℕ). IsFrontText b text) (sym (ap (λ (m : List ℕ). rest ++ m) (end cut.1.1) ∙ append-nil rest))
    (inr (inl (cut.0, cut.1.0)))
front_more rest ended text more end (inr (inr line)) =
    inr (inr (line.0, line.1 ++ more, IsLine-more rest line.0 line.1 more line.2, line.3))

-- the bytes are at fault at this line, before which the account is this one, and this is the line's text
pub record IsAtFault (bytes : List ℕ) (line : ℕ) (refusal : Refusal) (account : Account) (text : List ℕ) : Type 0 where
  pub fault : IsFirstFault bytes line refusal
  pub front : IsFrontText fault.rest text
  pub account_is : account ≡ account_before fault.beginning

fault_at : (bytes : List ℕ) (line : ℕ) (refusal : Refusal) (beginning : Beginning) (rest text : List ℕ) (account : Account)
    → (fault : IsFirstFault bytes line refusal) → IsBehind bytes beginning rest → line ≡ length (lines_of beginning) + 1
    → account ≡ account_before beginning → IsFrontText rest text → IsAtFault bytes line refusal account text
fault_at bytes line refusal beginning rest text account fault here number is front =
    let there : IsBehind bytes fault.beginning fault.rest = record { bytes_are = fault.bytes_are; accepted = fault.accepted } in
    let counted = fault.number_is in
    let same = same_place bytes beginning fault.beginning rest fault.rest here there (omega (arith, number, counted)) in
    record {
      fault = fault;
      front = subst (λ (r : List ℕ). IsFrontText r text) same.1 front;
      account_is = is ∙ ap account_before same.0;
    }

-- where a judge stopped is at the first fault, whatever bytes follow where the source has not ended
pub at_fault : (given : List ℕ) (ended : Bool) (held : Held) (line : ℕ) (refusal : Refusal) (text : List ℕ)
    → IsVerdictOf given ended (No line refusal) → StopsBefore given ended held line text
    → (more : List ℕ) → (ended ≡ true → more ≡ []) → IsAtFault (given ++ more) line refusal (account_of held) text
at_fault given ended held line refusal text verdict stops more end =
    fault_at (given ++ more) line refusal stops.beginning (stops.rest ++ more) text (account_of held)
    (whole_verdict given more ended (No line refusal) end verdict) (behind_more given stops.rest more stops.beginning stops.behind)
    stops.line_is stops.account (front_more stops.rest ended text more end stops.front)
