-- Lines that are allowed in turn are those of a beginning that is accepted.
use Rattle.std.specs.List.{AllByRecursion, IsDistinct}
use Rattle.std.proofs.Common.{◌≡◌, ◌↔◌, List, [], ◌∷◌, ◌++◌, length, map, refl, sym, subst, append_assoc, append-nil, ℕ}
use Rattle.std.proofs.Common.{◌+◌, ◌≤◌, inl, inr, true, not, nat_eq, ap, ◌∙◌, arith, eq-eqb, IsTrue, None, ◌==◌, le-ltb}
use Rattle.std.proofs.{Common.{lt-ltb, eqb-true, if◌then◌else◌}, lemmas.Bool.{false≢true, cond-false, eqb-false}}
use Rattle.std.proofs.lemmas.{Bool.{false_from_ne_true, not-false, Decides.eqb_tells}, Option.none-some}
use Rattle.cap_word.specs.declared.word.{Cap.Cap, Word.Word}
use Rattle.cap_bounds.specs.Bounds.{is_sound}
use Rattle.cap_ops.specs.{declared.refusal.Refusal.{Refusal, TheVariants.{BadLine, Misplaced}}, Checks.first_of}
use Rattle.cap_ops.proofs.TestLemmas.{none_hold}
use Rattle.cap_log.specs.declared.lines.Line.{Line, TheVariants.{Root, Step, End, Version, Mode}}
use Rattle.cap_log.specs.{declared.lines.{Mode.TheVariants.{Strict, Clear}, Place.Place}, Lines.IsInRange}
use Rattle.cap_log.specs.declared.kinds.Step as steps_module
use Rattle.cap_machine.specs.declared.{limits.Limits.Limits, rules.Rules.{Rules, TheVariants.{One, TwoStrict, TwoClear}}}
use Rattle.cap_machine.specs.Accounts.{Account, limits_of, no_account, with_step, root_checks, most_roots, most_granules}
use Rattle.cap_machine.specs.{Accounts.{most_steps, with_root}, Runs.IsRun}
use Rattle.cap_machine.specs.{States.{DeclaredRoot, State, start, key_of, tagged}, Steps.Leads}
use Rattle.cap_machine.proofs.AccountLemmas.{account_after-grows, first_of-none, after_roots, with_root-grows}
use Rattle.cap_machine.proofs.AccountLemmas.{with_step-grows, after_roots-grows, after_steps-grows, root_free}
use Rattle.cap_machine.proofs.{AccountLemmas.{step_free, after_steps}, OriginLemmas.{keys, IsFree, roots_start}}
use Rattle.cap_judge.specs.Judgings.{account_before}
use Rattle.cap_judge.specs.Logs.{Beginning, Empty, NoMode, Body, Whole, header_lines, body_lines, lines_of, account_after, RunsBy}
use Rattle.cap_judge.specs.Logs.{IsAccepted, has_form, line_checks}
use Rattle.cap_judge.specs.Turns.{LogStage, rules_of, unread, log_turns}
use Rattle.cap_judge.proofs.LogLemmas.{after_roots-push, after_steps-push, steps_push, roots_push, accepted_in_range, step_runs}
use Rattle.cap_judge.proofs.LogLemmas.{root_runs, no_roots}
use Rattle.cap_judge.proofs.TurnLemmas.{body, by_checks}
use Rattle.cap_turns.specs.Turns.{Allows, Body as BodyDue, Due, Ended, First, Reads, Second, next_stage}
use Rattle.cap_turns.proofs.TurnLemmas.{Reads-append}

-- Distinct roots

-- no root has a place that has a tag
abbrev AreFree : State → List DeclaredRoot → Type 0
AreFree state roots = (key : ℕ) → IsTrue (state key).tag → IsFree key roots

-- one root more has a tag at its place alone
still_free : (account : Account) (root : DeclaredRoot) (roots : List DeclaredRoot) → IsFree (key_of root.place) roots
    → AreFree account.state (root ∷ roots) → AreFree (with_root account root.place root.word).state roots
still_free account root roots own free key held =
    elim (eqb_tells (key_of root.place) key) [
      | inl same ↦ subst (λ (k : ℕ). IsFree k roots) same.1 own
      | inr unlike ↦
          let kept = cond-false _ (tagged root.word) (account.state key) unlike.0 in
          (free key (ap (λ (cap : Cap). cap.tag) (sym kept) ∙ held)).1
    ]

-- What is accepted is read

-- sound roots at distinct places are read, where their account keeps to the limits
roots_read : (rules_are : Rules) (account : Account) (roots : List DeclaredRoot) → account.limits ≡ limits_of rules_are → account.steps ≡ 0
    → IsDistinct nat_eq (keys roots) → AreFree account.state roots → AllByRecursion
    (λ (root : DeclaredRoot). IsTrue (is_sound root.word.0)) roots
    → account.roots + length roots ≤ most_roots → (after_roots account roots).granules ≤ most_granules rules_are
    → Reads log_turns (body account) (map (λ (root : DeclaredRoot). Root root.place root.word) roots) (body (after_roots account roots))
unfolding IsDistinct
roots_read rules_are account [] same none distinct free sound few_roots few_granules = refl
roots_read rules_are account (root ∷ roots) same none distinct free sound few_roots few_granules =
    let line = Root root.place root.word in
    let after = with_root account root.place root.word in
    let one = with_root-grows account root.place root.word in
    let rest = after_roots-grows after roots in
    let most = ap (λ (l : Limits). l.granules) same in
    let roots_limit = ap (λ (l : Limits). l.roots) same in
    let untagged = false_from_ne_true _ (λ held. eqb-false (key_of root.place) _ (free (key_of root.place) held).0 refl) in
    let unrefused = root_free account root.place root.word untagged sound.0 (omega arith) (omega arith) in (
      by_checks account line refl ∙ first_of-none (line_checks account line) (le-ltb 0 account.steps (omega arith), unrefused),
      roots_read rules_are after roots (one.limits_stay ∙ same) (omega arith) distinct.1 (still_free account root roots distinct.0 free)
          sound.1 (omega arith) few_granules,
    )

-- and so are steps that have a run from its state
steps_read : (rules_are : Rules) (account : Account) (steps : List steps_module.Step) (states : List State) → account.rules ≡ rules_are → account.limits ≡ limits_of rules_are
    → IsRun rules_are account.state steps states → account.steps + length steps ≤ most_steps
    → (after_steps account steps).granules ≤ most_granules rules_are
    → Reads log_turns (body account) (map Step steps) (body (after_steps account steps))
steps_read rules_are account [] states same within run few_steps few_granules = refl
steps_read rules_are account (step ∷ steps) [] same within run few_steps few_granules = absurd run
steps_read rules_are account (step ∷ steps) (next ∷ states) same within run few_steps few_granules =
    let after = with_step account step in
    let one = with_step-grows account step in
    let rest = after_steps-grows after steps in
    let most = ap (λ (l : Limits). l.granules) within in
    let leads = subst (λ (r : Rules). Leads r account.state step next) (sym same) run.0 in
    let later = subst (λ (state : State). IsRun rules_are state steps states) leads.after run.1 in (
      by_checks account (Step step) refl ∙ step_free account step next leads (omega arith) (omega arith),
      steps_read rules_are after steps states (one.rules_stay ∙ same) (one.limits_stay ∙ within) later (omega arith) few_granules,
    )

header_read : (rules_are : Rules) → Reads log_turns unread (header_lines rules_are) (body (no_account rules_are (limits_of rules_are)))
header_read One = (refl, refl)
header_read TwoStrict = (refl, (refl, refl))
header_read TwoClear = (refl, (refl, refl))

body_read : (rules_are : Rules) (roots : List DeclaredRoot) (steps : List steps_module.Step) → RunsBy rules_are roots steps
    → Reads log_turns unread (body_lines rules_are roots steps) (body (account_after rules_are roots steps))
body_read rules_are roots steps runs =
    let first = no_account rules_are (limits_of rules_are) in
    let rooted = after_roots first roots in
    let last = account_after rules_are roots steps in
    let started = sym (roots_start rules_are roots runs.distinct) in
    let run = subst (λ (state : State). IsRun rules_are state steps runs.run.0) started runs.run.1 in
    let by_roots = after_roots-grows first roots in
    let by_steps = after_steps-grows rooted steps in
    let few_roots = runs.few_roots in
    let few_steps = runs.few_steps in
    let few_granules = runs.few_granules in
    let free = λ (key : ℕ) (held : IsTrue (start [] key).tag). absurd (false≢true held) in
    let roots_are = roots_read rules_are first roots refl refl runs.distinct free runs.sound (omega arith) (omega arith) in
    let steps_are = steps_read rules_are rooted steps runs.run.0 by_roots.rules_stay by_roots.limits_stay run (omega arith) few_granules in
    Reads-append log_turns unread (body first) (body last) (header_lines rules_are) _ (header_read rules_are)
    (Reads-append log_turns (body first) (body rooted) (body last) _ (map Step steps) roots_are steps_are)

-- the stage after a beginning
abbrev pub due_after : Beginning → Due Refusal
due_after Empty = First
due_after NoMode = Second
due_after (Body rules_are roots steps) = BodyDue
due_after (Whole rules_are roots steps) = Ended

abbrev pub stage_after : Beginning → LogStage
stage_after beginning = record { state = account_before beginning; due = due_after beginning }

pub accepted_read : (beginning : Beginning) → IsAccepted beginning → Reads log_turns unread (lines_of beginning) (stage_after beginning)
accepted_read Empty accepted = refl
accepted_read NoMode accepted = (refl, refl)
accepted_read (Body rules_are roots steps) runs = body_read rules_are roots steps runs
accepted_read (Whole rules_are roots steps) runs =
    let last = account_after rules_are roots steps in
    let end = End (length steps) in
    let counts = account_after-grows rules_are roots steps in
    let free = first_of-none (line_checks last end) (ap not (eq-eqb (length steps) last.steps (omega arith)), tt) in
    Reads-append log_turns unread (body last) (stage_after (Whole rules_are roots steps)) (body_lines rules_are roots steps) (end ∷ [])
    (body_read rules_are roots steps runs) (by_checks last end refl ∙ free, refl)

-- A line that is allowed makes the beginning longer

-- the beginning with one line more
abbrev pub with_line : Beginning → Line → Beginning
with_line Empty (Version version) = if version == 1 then Body One [] [] else NoMode
with_line NoMode (Mode mode) = Body (rules_of mode) [] []
with_line (Body rules_are roots steps) (Root place word) = Body rules_are (roots ++ record { place = place; word = word } ∷ []) steps
with_line (Body rules_are roots steps) (Step step) = Body rules_are roots (steps ++ step ∷ [])
with_line (Body rules_are roots steps) (End count) = Whole rules_are roots steps
with_line beginning line = beginning

-- it is accepted, has this line more, and stands at the stage after it
pub record Longer (beginning : Beginning) (line : Line) : Type 0 where
  pub accepted : IsAccepted (with_line beginning line)
  pub lines_are : lines_of (with_line beginning line) ≡ lines_of beginning ++ line ∷ []
  pub stage_is : stage_after (with_line beginning line) ≡ next_stage log_turns (stage_after beginning) line

-- a root is declared before the first step
no_root : (rules_are : Rules) (roots : List DeclaredRoot) (step : steps_module.Step) (steps : List steps_module.Step) (place : Place)
    (word : Word) → first_of (line_checks (account_after rules_are roots (step ∷ steps)) (Root place word)) ≡ None → ⊥
no_root rules_are roots step steps place word free =
    let account = account_after rules_are roots (step ∷ steps) in
    let counted = (account_after-grows rules_are roots (step ∷ steps)).steps_are in
    false≢true (sym (none_hold (line_checks account (Root place word)) free).0 ∙ lt-ltb 0 account.steps (omega arith))

-- the end line counts the steps
end_counts : (rules_are : Rules) (roots : List DeclaredRoot) (steps : List steps_module.Step) (count : ℕ)
    → first_of (line_checks (account_after rules_are roots steps) (End count)) ≡ None → length steps ≡ count
end_counts rules_are roots steps count free =
    let account = account_after rules_are roots steps in
    let counted = (account_after-grows rules_are roots steps).steps_are in
    let is = eqb-true count account.steps (not-false _ (none_hold (line_checks account (End count)) free).0) in
    omega (arith, is)

pub longer : (beginning : Beginning) (line : Line) → IsAccepted beginning → IsInRange line → Allows log_turns (stage_after beginning) line
    → Longer beginning line
longer Empty (Version version) accepted (inl is) allowed =
    subst (λ (v : ℕ). Longer Empty (Version v)) (sym is) (record { accepted = no_roots One; lines_are = refl; stage_is = refl })
longer Empty (Version version) accepted (inr is) allowed =
    subst (λ (v : ℕ). Longer Empty (Version v)) (sym is) (record { accepted = tt; lines_are = refl; stage_is = refl })
longer NoMode (Mode Strict) accepted range allowed = record { accepted = no_roots TwoStrict; lines_are = refl; stage_is = refl }
longer NoMode (Mode Clear) accepted range allowed = record { accepted = no_roots TwoClear; lines_are = refl; stage_is = refl }
longer (Body rules_are roots []) (Root place word) runs range allowed =
    let account = account_after rules_are roots [] in
    let root : DeclaredRoot = record { place = place; word = word } in
    let checks = none_hold (line_checks account (Root place word)) (sym (by_checks account (Root place word) refl) ∙ allowed) in
    record {
      accepted = root_runs rules_are roots root runs range.0 range.1 (first_of-none (root_checks account place word) checks.1);
      lines_are = roots_push rules_are roots root;
      stage_is = ap body (after_roots-push (no_account rules_are (limits_of rules_are)) roots root);
    }
longer (Body rules_are roots (step ∷ steps)) (Root place word) runs range allowed =
    let account = account_after rules_are roots (step ∷ steps) in
    absurd (no_root rules_are roots step steps place word (sym (by_checks account (Root place word) refl) ∙ allowed))
longer (Body rules_are roots steps) (Step step) runs range allowed = record {
  accepted = step_runs rules_are roots steps step runs range
      (sym (by_checks (account_after rules_are roots steps) (Step step) refl) ∙ allowed);
  lines_are = steps_push rules_are roots steps step;
  stage_is = ap body (after_steps-push (after_roots (no_account rules_are (limits_of rules_are)) roots) steps step);
}
longer (Body rules_are roots steps) (End count) runs range allowed =
    let all = end_counts rules_are roots steps count (sym (by_checks (account_after rules_are roots steps) (End count) refl) ∙ allowed) in
    record { accepted = runs; lines_are = ap (λ n. body_lines rules_are roots steps ++ End n ∷ []) all; stage_is = refl }
longer (Body rules_are roots steps) line runs range allowed =
    let form = has_form (account_after rules_are roots steps).rules line in
    absurd (false≢true (sym (none_hold ((not form, BadLine) ∷ (true, Misplaced) ∷ []) allowed).1.0))
longer beginning line accepted range allowed = absurd (none-some _ (sym allowed))

-- So do lines that are allowed in turn, and the lines of a beginning lead to it

abbrev root_line : DeclaredRoot → Line
root_line root = Root root.place root.word

abbrev pub with_lines : Beginning → List Line → Beginning
with_lines beginning [] = beginning
with_lines beginning (line ∷ lines) = with_lines (with_line beginning line) lines

pub all_longer : (beginning : Beginning) (lines : List Line) (to : LogStage) → IsAccepted beginning → AllByRecursion IsInRange lines
    → Reads log_turns (stage_after beginning) lines to
    → (let last = with_lines beginning lines in IsAccepted last × (lines_of last ≡ lines_of beginning ++ lines) × (stage_after last ≡ to))
all_longer beginning [] to accepted range reads = (accepted, sym (append-nil (lines_of beginning)), reads)
all_longer beginning (line ∷ lines) to accepted range reads =
    let one = longer beginning line accepted range.0 reads.0 in
    let all = all_longer (with_line beginning line) lines to one.accepted range.1
    (subst (λ (s : LogStage). Reads log_turns s lines to) (sym one.stage_is) reads.1) in
    (all.0, all.1 ∙ ap (λ ls. ls ++ lines) one.lines_are ∙ append_assoc (lines_of beginning) (line ∷ []) lines, all.2)

roots_back : (rules_are : Rules) (before roots : List DeclaredRoot) (lines : List Line)
    → with_lines (Body rules_are before []) (map root_line roots ++ lines) ≡ with_lines (Body rules_are (before ++ roots) []) lines
roots_back rules_are before [] lines = ap (λ rs. with_lines (Body rules_are rs []) lines) (sym (append-nil before))
roots_back rules_are before (root ∷ roots) lines =
    roots_back rules_are (before ++ root ∷ []) roots lines
    ∙ ap (λ rs. with_lines (Body rules_are rs []) lines) (append_assoc before (root ∷ []) roots)

steps_back : (rules_are : Rules) (roots : List DeclaredRoot) (before steps : List steps_module.Step) (lines : List Line)
    → with_lines (Body rules_are roots before) (map Step steps ++ lines) ≡ with_lines (Body rules_are roots (before ++ steps)) lines
steps_back rules_are roots before [] lines = ap (λ ss. with_lines (Body rules_are roots ss) lines) (sym (append-nil before))
steps_back rules_are roots before (step ∷ steps) lines =
    steps_back rules_are roots (before ++ step ∷ []) steps lines
    ∙ ap (λ ss. with_lines (Body rules_are roots ss) lines) (append_assoc before (step ∷ []) steps)

behind_header : (rules_are : Rules) (roots : List DeclaredRoot) (steps : List steps_module.Step) (lines : List Line)
    → with_lines (Body rules_are [] []) ((map root_line roots ++ map Step steps) ++ lines) ≡ with_lines (Body rules_are roots steps) lines
behind_header rules_are roots steps lines =
    ap (with_lines (Body rules_are [] [])) (append_assoc (map root_line roots) (map Step steps) lines)
    ∙ roots_back rules_are [] roots (map Step steps ++ lines) ∙ steps_back rules_are roots [] steps lines

body_back : (rules_are : Rules) (roots : List DeclaredRoot) (steps : List steps_module.Step) (lines : List Line)
    → with_lines Empty (body_lines rules_are roots steps ++ lines) ≡ with_lines (Body rules_are roots steps) lines
body_back One roots steps lines = behind_header One roots steps lines
body_back TwoStrict roots steps lines = behind_header TwoStrict roots steps lines
body_back TwoClear roots steps lines = behind_header TwoClear roots steps lines

lines_back : (beginning : Beginning) → with_lines Empty (lines_of beginning) ≡ beginning
lines_back Empty = refl
lines_back NoMode = refl
lines_back (Body rules_are roots steps) =
    ap (with_lines Empty) (sym (append-nil (body_lines rules_are roots steps))) ∙ body_back rules_are roots steps []
lines_back (Whole rules_are roots steps) = body_back rules_are roots steps (End (length steps) ∷ [])

pub accepted_in_turn : (beginning : Beginning)
    → IsAccepted beginning ↔ (AllByRecursion IsInRange (lines_of beginning) × ((stage : LogStage) × Reads log_turns unread (lines_of beginning) stage))
accepted_in_turn beginning = (
  λ accepted. (accepted_in_range beginning accepted, (stage_after beginning, accepted_read beginning accepted)),
  λ h. subst IsAccepted (lines_back beginning) (all_longer Empty (lines_of beginning) h.1.0 tt h.0 h.1.1).0,
)

-- one beginning has these lines
pub same_beginning : (a b : Beginning) → lines_of a ≡ lines_of b → a ≡ b
same_beginning a b same = sym (lines_back a) ∙ ap (with_lines Empty) same ∙ lines_back b
