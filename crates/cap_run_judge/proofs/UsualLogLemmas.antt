-- A log of version 2 has the verdict that it has as a run log: both are read a line at a time, to the same places.
use Rattle.std.proofs.Common.{◌≡◌, ◌≢◌, ℕ, zero, suc, ◌+◌, ◌<◌, inl, inr, ◌⊎◌, Bool, true, not, List, [], ◌∷◌, ◌++◌, length, codes}
use Rattle.std.proofs.Common.{Option, Some, None, option_map, refl, sym, ap, subst, ◌∙◌, append-nil, append_assoc, arith, length-append}
use Rattle.std.proofs.lemmas.{Fmt.decimal_digit, Grind.flat_map-append, Option.{none-some, same_Some}}
use Rattle.cap_ops.specs.{Checks.first_of, declared.refusal.Refusal.{Refusal, TheVariants.{BadLine, BadMode, LimitPassed, LineTooLong, Misplaced, Truncated}}}
use Rattle.cap_streams.specs.Front.{IsLine}
use Rattle.cap_log.specs.{declared.{kinds.Step.Step, lines.{Line.Line, Mode.Mode}}, Lines.{IsInRange, Spells, spelling}, Parts.ReadsAs}
use Rattle.cap_log.proofs.{DecidedLines.{front_decided, line_decided}, ElementLemmas.AllByRecursion-append}
use Rattle.cap_machine.specs.{Accounts.Account, declared.rules.Rules.{Rules, TheVariants.{TwoClear, TwoStrict}}, States.DeclaredRoot}
use Rattle.cap_machine.proofs.AccountLemmas.{account_after-grows}
use Rattle.cap_judge.specs.{declared.verdict.Verdict.{Verdict, TheVariants.{No, Yes}}, Judgings.{IsBehind, account_before}}
use Rattle.cap_judge.specs.Verdicts.{IsVerdict}
use Rattle.cap_judge.specs.Logs.{Beginning, Body, Empty, IsAccepted, NoMode, Whole, account_after, has_form, line_checks, lines_of}
use Rattle.cap_judge.specs.Logs.{Refuses as LogRefuses, text_of as log_text}
use Rattle.cap_judge.specs.Turns.{LogStage, log_turns}
use Rattle.cap_judge.proofs.InTurn.{longer, stage_after as log_stage, with_line}
use Rattle.cap_judge.proofs.{JudgeLemmas.{fault_behind, front_refused, text_push, yes_of}, OneVerdict.one_verdict as one_log_verdict}
use Rattle.cap_judge.proofs.TurnLaws.{refuses_text}
use Rattle.cap_run_log.specs.{declared.lines.RunLine.RunLine, RunLines.{IsRunLineInRange, SpellsRun, run_spelling}, UsualLines.{IsUsualLine, as_run}}
use Rattle.cap_run_log.proofs.UsualLineLemmas.{in_range_alike, reads_alike, spelled_alike}
use Rattle.cap_run.specs.{declared.{asks.Asks.Asks, ends.RunRefusal.{TheVariants.Usual}}, Run.Run}
use Rattle.cap_run.specs.{RunChanges.{line_after, no_run}, UsualRuns.{IsOfLog, log_refusal, run_by}}
use Rattle.cap_run.proofs.UsualRunLemmas.{means_the_same}
use Rattle.cap_run_judge.specs.{declared.verdict.RunVerdict.RunVerdict, Turns.{RunStage, unread, run_turns}}
use Rattle.cap_run_judge.specs.{UsualLogs.{AreUsual, NamesNoLimit, as_run_verdict}, Verdicts.IsRunVerdict}
use Rattle.cap_run_judge.proofs.{FollowLemmas.staged, OneVerdict.one_verdict, TurnLemmas.asked}
use Rattle.cap_turns.specs.{Turns.{Allows, Due, Goes, next_stage, refusal_by, text_of}, Verdicts.Refuses}
use Rattle.cap_turns.proofs.TurnLemmas.{Reads-append}

-- Bytes whose lines logs have, too

-- those after a line
usual_on : (bytes more : List ℕ) (line : Line) → AreUsual bytes → IsInRange line → bytes ≡ spelling line ++ 10 ∷ more → AreUsual more
usual_on bytes more line usual range is lines text behind other in_range more_is =
    usual (line ∷ lines) text behind other (range, in_range)
    (is ∙ ap (λ (m : List ℕ). spelling line ++ 10 ∷ m) more_is ∙ simp (append_assoc))

usual_front : (bytes text more : List ℕ) → AreUsual bytes → IsLine bytes text more → (line : RunLine) → SpellsRun text line → IsUsualLine line
usual_front bytes text more usual whole line = usual [] text more line tt whole.whole

-- Where the beginning of a log leads to, in a run

abbrev run_stage : Asks → Beginning → RunStage
run_stage asks_are Empty = unread asks_are
run_stage asks_are NoMode = staged asks_are no_run Due.Second
run_stage asks_are (Body rules_are roots steps) = staged asks_are (run_by (account_after rules_are roots steps)) Due.Body
run_stage asks_are (Whole rules_are roots steps) = staged asks_are (run_by (account_after rules_are roots steps)) Due.Ended

abbrev new_account : (rules_are : Rules) → IsOfLog (account_after rules_are [] [])
new_account rules_are = record { limits_are = refl; holds_none = λ key far. refl }

-- it is of version 2
abbrev IsTwo : Beginning → Type 0
IsTwo Empty = ⊥
IsTwo NoMode = Unit {0}
IsTwo (Body rules_are roots steps) = (line : Line) → has_form rules_are line ≡ true
IsTwo (Whole rules_are roots steps) = Unit {0}

abbrev Form : Rules → Type 0
Form rules_are = (line : Line) → has_form rules_are line ≡ true

-- in a body each line has a form, and is refused by its checks alone
by_checks : (rules_are : Rules) (roots : List DeclaredRoot) (steps : List Step) (line : Line) → Form rules_are
    → (let account = account_after rules_are roots steps in refusal_by log_turns account Due.Body (Some line) ≡ log_refusal account line)
by_checks rules_are roots steps line form =
    let account = account_after rules_are roots steps in
    let is = ap (λ (r : Rules). has_form r line) (account_after-grows rules_are roots steps).rules_stay ∙ form line in
    ap (λ (b : Bool). first_of ((not b, BadLine) ∷ line_checks account line)) is

two_on : (rules_are : Rules) (roots : List DeclaredRoot) (steps : List Step) (line : Line) → Form rules_are
    → IsTwo (with_line (Body rules_are roots steps) line)
two_on rules_are roots steps (Line.End count) form = tt
two_on rules_are roots steps line form = form

-- the text of lines with one more
text_last : (lines : List RunLine) (line : RunLine) → text_of run_turns (lines ++ line ∷ []) ≡ text_of run_turns lines ++ (run_spelling line ++ 10 ∷ [])
text_last lines line =
    flat_map-append (λ (l : RunLine). run_spelling l ++ 10 ∷ []) lines (line ∷ [])
    ∙ ap (λ (t : List ℕ). text_of run_turns lines ++ t) (append-nil (run_spelling line ++ 10 ∷ []))

-- both logs are read to the same place, and go on with the same bytes
record Here (asks_are : Asks) (bytes run_bytes : List ℕ) (beginning : Beginning) (rest : List ℕ) : Type 0 where
  two : IsTwo beginning
  of_log : IsOfLog (account_before beginning)
  behind : IsBehind bytes beginning rest
  front : List ℕ
  run_bytes_are : run_bytes ≡ front ++ rest
  goes : Goes run_turns (unread asks_are) front (run_stage asks_are beginning)
  as_many : length goes.lines ≡ length (lines_of beginning)
  usual : AreUsual rest

-- a verdict of both
abbrev HasBoth : Asks → List ℕ → List ℕ → Type 0
HasBoth asks_are bytes run_bytes =
    (verdict : Verdict) × IsVerdict bytes verdict × (NamesNoLimit verdict → IsRunVerdict asks_are run_bytes (as_run_verdict verdict))

module _ (asks_are : Asks) (bytes run_bytes : List ℕ) where
  abbrev At : Beginning → List ℕ → Type 0
  At beginning rest = Here asks_are bytes run_bytes beginning rest

  -- there is a verdict of both, or less follows a longer beginning
  abbrev Follows : List ℕ → Type 0
  Follows rest =
      HasBoth asks_are bytes run_bytes ⊎ ((next : Beginning) × (more : List ℕ) × At next more × (length more < length rest))

  both_refuse : (beginning : Beginning) (rest : List ℕ) (refusal : Refusal) → At beginning rest → LogRefuses beginning rest refusal
      → (refusal ≢ LimitPassed → Refuses run_turns (run_stage asks_are beginning) rest (Usual refusal)) → HasBoth asks_are bytes run_bytes
  both_refuse beginning rest refusal here refused run_refused = (
    No (length (lines_of beginning) + 1) refusal,
    fault_behind bytes rest beginning refusal here.behind refused,
    λ free. record {
      stage = run_stage asks_are beginning;
      rest = rest;
      behind = record { front = here.front; bytes_are = here.run_bytes_are; goes = here.goes };
      number_is = ap (λ (n : ℕ). n + 1) (sym here.as_many);
      refused = run_refused free;
    },
  )

  -- one line more
  go_on : (beginning : Beginning) (rest text more : List ℕ) (line : Line) → At beginning rest → IsLine rest text more → Spells text line
      → Allows log_turns (log_stage beginning) line → Allows run_turns (run_stage asks_are beginning) (as_run line)
      → next_stage run_turns (run_stage asks_are beginning) (as_run line) ≡ run_stage asks_are (with_line beginning line)
      → IsTwo (with_line beginning line) → IsOfLog (account_before (with_line beginning line)) → Follows rest
  go_on beginning rest text more line here whole spells allowed run_allowed stage_is two_is of_log_is =
      let next = longer beginning line here.behind.accepted spells.0 allowed in
      let rest_is : rest ≡ spelling line ++ 10 ∷ more = whole.whole ∙ ap (λ (t : List ℕ). t ++ 10 ∷ more) spells.1 in
      let lines_are = here.goes.lines in
      let on : At (with_line beginning line) more = record {
        two = two_is;
        of_log = of_log_is;
        behind = record {
          bytes_are = here.behind.bytes_are ∙ ap (λ (r : List ℕ). log_text (lines_of beginning) ++ r) rest_is
              ∙ sym (text_push (lines_of beginning) line more) ∙ sym (ap (λ (ls : List Line). log_text ls ++ more) next.lines_are);
          accepted = next.accepted;
        };
        front = here.front ++ (spelling line ++ 10 ∷ []);
        run_bytes_are = here.run_bytes_are ∙ ap (λ (r : List ℕ). here.front ++ r) rest_is ∙ simp (append_assoc);
        goes = record {
          lines = lines_are ++ as_run line ∷ [];
          in_range = AllByRecursion-append IsRunLineInRange lines_are (as_run line ∷ []) here.goes.in_range ((in_range_alike line).0 spells.0, tt);
          bytes_are = ap (λ (t : List ℕ). t ++ (spelling line ++ 10 ∷ [])) here.goes.bytes_are
              ∙ ap (λ (s : List ℕ). text_of run_turns lines_are ++ (s ++ 10 ∷ [])) (sym (spelled_alike line)) ∙ sym (text_last lines_are (as_run line));
          reads = Reads-append run_turns (unread asks_are) (run_stage asks_are beginning) (run_stage asks_are (with_line beginning line)) lines_are
              (as_run line ∷ []) here.goes.reads (run_allowed, stage_is);
        };
        as_many = length-append lines_are (as_run line ∷ []) ∙ ap (λ (n : ℕ). n + 1) here.as_many
            ∙ sym (ap length next.lines_are ∙ length-append (lines_of beginning) (line ∷ []));
        usual = usual_on rest more line here.usual spells.0 rest_is;
      } in
      inr (with_line beginning line, more, on, omega (arith, ap length whole.whole, length-append text (10 ∷ more)))

  module _ (rules_are : Rules) (roots : List DeclaredRoot) (steps : List Step) where
    abbrev body : Beginning
    body = Body rules_are roots steps

    abbrev account_is : Account
    account_is = account_after rules_are roots steps

    -- a line in a body is refused for the same reason
    same_refusal : (line : Line) → Form rules_are → IsOfLog account_is → IsInRange line
        → refusal_by log_turns account_is Due.Body (Some line) ≢ Some LimitPassed
        → refusal_by run_turns (asked asks_are (run_by account_is)) Due.Body (Some (as_run line)) ≡ option_map Usual (refusal_by log_turns account_is Due.Body (Some line))
    same_refusal line form of_log_is range free =
        let same = by_checks rules_are roots steps line form in
        (means_the_same asks_are account_is line range of_log_is).ends (λ limit. free (same ∙ limit)) ∙ ap (option_map Usual) (sym same)

    -- and leads to the same
    led : (line : Line) → IsAccepted body → IsOfLog account_is → IsInRange line → Allows log_turns (log_stage body) line
        → line_after (run_by account_is) (as_run line) ≡ run_by (account_before (with_line body line))
    led line accepted of_log_is range allowed =
        (means_the_same asks_are account_is line range of_log_is).leads
        ∙ ap run_by (sym (ap (λ (s : LogStage). s.state) (longer body line accepted range allowed).stage_is))

    turned : (line : Line) → IsAccepted body → Form rules_are → IsOfLog account_is → IsInRange line → Allows log_turns (log_stage body) line
        → next_stage run_turns (run_stage asks_are body) (as_run line) ≡ run_stage asks_are (with_line body line)
    turned (Line.Root place word) accepted form of_log_is range allowed =
        ap (λ (r : Run). staged asks_are r Due.Body) (led (Line.Root place word) accepted of_log_is range allowed)
    turned (Line.Step step) accepted form of_log_is range allowed =
        ap (λ (r : Run). staged asks_are r Due.Body) (led (Line.Step step) accepted of_log_is range allowed)
    turned (Line.End count) accepted form of_log_is range allowed =
        ap (λ (r : Run). staged asks_are r Due.Ended) (led (Line.End count) accepted of_log_is range allowed)
    turned line accepted form of_log_is range allowed =
        absurd (none-some Misplaced (sym allowed ∙ by_checks rules_are roots steps line form))

    text_refused : (text : List ℕ) (line : Option Line) (refusal : Refusal) → Form rules_are → IsOfLog account_is
        → ReadsAs IsInRange spelling text line → refusal_by log_turns account_is Due.Body line ≡ Some refusal → refusal ≢ LimitPassed
        → refusal_by run_turns (asked asks_are (run_by account_is)) Due.Body (option_map as_run line) ≡ Some (Usual refusal)
    text_refused text None refusal form of_log_is reads is free = ap (option_map Usual) is
    text_refused text (Some line) refusal form of_log_is reads is free =
        same_refusal line form of_log_is reads.0 (λ limit. free (same_Some refusal LimitPassed (sym is ∙ limit))) ∙ ap (option_map Usual) is

    body_turn : (rest text more : List ℕ) (line : Option Line) (refusal : Option Refusal) → At body rest → IsLine rest text more
        → ReadsAs IsInRange spelling text line → refusal_by log_turns account_is Due.Body line ≡ refusal → Follows rest
    body_turn rest text more line (Some refusal) here whole reads is =
        inl (both_refuse body rest refusal here
        (front_refused body rest refusal tt (inr (inr (text, more, whole, refuses_text body text line refusal tt reads is))))
        (λ free. inr (inr (
          text,
          more,
          whole,
          (
            option_map as_run line,
            reads_alike text (usual_front rest text more here.usual whole) line reads,
            text_refused text line refusal here.two here.of_log reads is free,
          ),
        ))))
    body_turn rest text more (Some line) None here whole reads is =
        let run_allowed = same_refusal line here.two here.of_log reads.0 (λ limit. none-some LimitPassed (sym is ∙ limit)) ∙ ap (option_map Usual) is in
        let next = longer body line here.behind.accepted reads.0 is in
        go_on body rest text more line here whole reads is run_allowed
        (turned line here.behind.accepted here.two here.of_log reads.0 is) (two_on rules_are roots steps line here.two)
        (subst (λ (s : LogStage). IsOfLog s.state) (sym next.stage_is) (means_the_same asks_are account_is line reads.0 here.of_log).stays)
    body_turn rest text more None None here whole reads is = absurd (none-some BadLine (sym is))

    body_follows : (rest : List ℕ) → At body rest → Follows rest
    body_follows rest here =
        elim (front_decided rest) [
          | inl long ↦ inl (both_refuse body rest LineTooLong here (front_refused body rest LineTooLong tt (inl (long, refl))) (λ free. inl (long, refl)))
          | inr shorter ↦
              elim shorter [
                | inl cut ↦
                    inl (both_refuse body rest Truncated here (front_refused body rest Truncated tt (inr (inl (cut, refl)))) (λ free. inr (inl (cut, refl))))
                | inr whole ↦
                    elim (line_decided whole.0) [
                      | inl found ↦ body_turn rest whole.0 whole.1 (Some found.0) _ here whole.2 found.1 refl
                      | inr none ↦ body_turn rest whole.0 whole.1 None _ here whole.2 (λ line range is. none line (range, is)) refl
                    ]
              ]
        ]

    both_yes : At (Whole rules_are roots steps) [] → HasBoth asks_are bytes run_bytes
    both_yes here =
        let stage_is = run_stage asks_are (Whole rules_are roots steps) in
        let counts = account_after-grows rules_are roots steps in
        let all = subst (λ (b : List ℕ). Goes run_turns (unread asks_are) b stage_is) (sym (here.run_bytes_are ∙ append-nil here.front)) here.goes in (
          Yes (length steps) (length roots),
          yes_of bytes rules_are roots steps (here.behind.bytes_are ∙ append-nil _) here.behind.accepted,
          λ free. record {
            stage = stage_is;
            whole = record { goes = all; ended = refl };
            step_count_is = omega (arith, counts.steps_are);
            root_count_is = omega (arith, counts.roots_are);
            object_count_is = refl;
          },
        )

    -- whatever follows the end line is refused
    ended_refuses : (byte : ℕ) (rest : List ℕ) → At (Whole rules_are roots steps) (byte ∷ rest)
        → Refuses run_turns (run_stage asks_are (Whole rules_are roots steps)) (byte ∷ rest) (Usual Misplaced)
    ended_refuses byte rest here =
        elim (front_decided (byte ∷ rest)) [
          | inl long ↦ inl (long, refl)
          | inr shorter ↦
              elim shorter [
                | inl cut ↦ inr (inl (cut, (λ e. cc, refl)))
                | inr whole ↦
                    let usual_is = usual_front (byte ∷ rest) whole.0 whole.1 here.usual whole.2 in
                    elim (line_decided whole.0) [
                      | inl found ↦ inr (inr (whole.0, whole.1, whole.2, (Some (as_run found.0), reads_alike whole.0 usual_is (Some found.0) found.1, refl)))
                      | inr none ↦
                          inr (inr (whole.0, whole.1, whole.2, (None, reads_alike whole.0 usual_is None (λ line range is. none line (range, is)), refl)))
                    ]
              ]
        ]

  -- after the version line
  mode_turn : (rest text more : List ℕ) (line : Option Line) → At NoMode rest → IsLine rest text more → ReadsAs IsInRange spelling text line
      → Follows rest
  mode_turn rest text more (Some (Line.Mode Mode.Strict)) here whole reads =
      go_on NoMode rest text more (Line.Mode Mode.Strict) here whole reads refl refl refl (λ line. refl) (new_account TwoStrict)
  mode_turn rest text more (Some (Line.Mode Mode.Clear)) here whole reads =
      go_on NoMode rest text more (Line.Mode Mode.Clear) here whole reads refl refl refl (λ line. refl) (new_account TwoClear)
  mode_turn rest text more line here whole reads =
      inl (both_refuse NoMode rest BadMode here
      (front_refused NoMode rest BadMode tt (inr (inr (text, more, whole, refuses_text NoMode text line BadMode tt reads refl))))
      (λ free. inr (inr (text, more, whole, (option_map as_run line, reads_alike text (usual_front rest text more here.usual whole) line reads, refl)))))

  mode_follows : (rest : List ℕ) → At NoMode rest → Follows rest
  mode_follows rest here =
      elim (front_decided rest) [
        | inl long ↦ inl (both_refuse NoMode rest LineTooLong here (front_refused NoMode rest LineTooLong tt (inl (long, refl))) (λ free. inl (long, refl)))
        | inr shorter ↦
            elim shorter [
              | inl cut ↦
                  inl (both_refuse NoMode rest Truncated here (front_refused NoMode rest Truncated tt (inr (inl (cut, refl)))) (λ free. inr (inl (cut, refl))))
              | inr whole ↦
                  elim (line_decided whole.0) [
                    | inl found ↦ mode_turn rest whole.0 whole.1 (Some found.0) here whole.2 found.1
                    | inr none ↦ mode_turn rest whole.0 whole.1 None here whole.2 (λ line range is. none line (range, is))
                  ]
            ]
      ]

  -- the verdict by what follows, where each shorter rest leads to one
  from_here : (fuel : ℕ) → ((beginning : Beginning) (rest : List ℕ) → length rest < fuel → At beginning rest → HasBoth asks_are bytes run_bytes)
      → (rest : List ℕ) → length rest < suc fuel → Follows rest → HasBoth asks_are bytes run_bytes
  from_here fuel shorter rest few (inl both) = both
  from_here fuel shorter rest few (inr (next, more, on, fewer)) = shorter next more (omega arith) on

  verdict_from : (fuel : ℕ) (beginning : Beginning) (rest : List ℕ) → length rest < fuel → At beginning rest → HasBoth asks_are bytes run_bytes
  verdict_from zero beginning rest few here = absurd (omega arith)
  verdict_from (suc fuel) Empty rest few here = absurd here.two
  verdict_from (suc fuel) NoMode rest few here = from_here fuel (verdict_from fuel) rest few (mode_follows rest here)
  verdict_from (suc fuel) (Body rules_are roots steps) rest few here =
      from_here fuel (verdict_from fuel) rest few (body_follows rules_are roots steps rest here)
  verdict_from (suc fuel) (Whole rules_are roots steps) [] few here = both_yes rules_are roots steps here
  verdict_from (suc fuel) (Whole rules_are roots steps) (byte ∷ rest) few here =
      both_refuse (Whole rules_are roots steps) (byte ∷ rest) Misplaced here (λ e. cc, refl)
      (λ free. ended_refuses rules_are roots steps byte rest here)

-- Logs of version 2

header_read : (asks_are : Asks) (rest : List ℕ) → AreUsual rest
    → Here asks_are (codes "capcheck 2\n" ++ rest) (codes "run 1\n" ++ rest) NoMode rest
unfolding spelling run_spelling
header_read asks_are rest usual_is = record {
  two = tt;
  of_log = record { limits_are = refl; holds_none = λ key far. refl };
  behind = record {
    bytes_are = sym (ap (λ (digits : List ℕ). (((codes "capcheck " ++ digits) ++ 10 ∷ []) ++ log_text []) ++ rest) (decimal_digit 2 (omega arith)));
    accepted = tt;
  };
  front = codes "run 1\n";
  run_bytes_are = refl;
  goes = record { lines = RunLine.Version ∷ []; in_range = (tt, tt); bytes_are = refl; reads = (refl, refl) };
  as_many = refl;
  usual = usual_is;
}

pub verdict_of_both : (asks : Asks) (rest : List ℕ) → AreUsual rest → HasBoth asks (codes "capcheck 2\n" ++ rest) (codes "run 1\n" ++ rest)
verdict_of_both asks rest usual =
    verdict_from asks (codes "capcheck 2\n" ++ rest) (codes "run 1\n" ++ rest) (length rest + 1) NoMode rest (omega arith) (header_read asks rest usual)

-- the verdict of a log is that of a run log
pub same_verdict : (asks : Asks) (rest : List ℕ) (verdict : Verdict) → AreUsual rest → IsVerdict (codes "capcheck 2\n" ++ rest) verdict → NamesNoLimit verdict
    → IsRunVerdict asks (codes "run 1\n" ++ rest) (as_run_verdict verdict)
same_verdict asks rest verdict usual is free =
    let both = verdict_of_both asks rest usual in
    let same = one_log_verdict (codes "capcheck 2\n" ++ rest) both.0 verdict both.1 is in
    subst (λ (v : Verdict). IsRunVerdict asks (codes "run 1\n" ++ rest) (as_run_verdict v)) same (both.2 (subst NamesNoLimit (sym same) free))

-- and no other
pub same_verdict_back : (asks : Asks) (rest : List ℕ) (verdict : RunVerdict) → AreUsual rest
    → ((other : Verdict) → IsVerdict (codes "capcheck 2\n" ++ rest) other → NamesNoLimit other)
    → IsRunVerdict asks (codes "run 1\n" ++ rest) verdict
    → (other : Verdict) × IsVerdict (codes "capcheck 2\n" ++ rest) other × (verdict ≡ as_run_verdict other)
same_verdict_back asks rest verdict usual free is =
    let both = verdict_of_both asks rest usual in
    (both.0, both.1, one_verdict asks (codes "run 1\n" ++ rest) verdict (as_run_verdict both.0) is (both.2 (free both.0 both.1)))
