-- Lines that logs have, too, mean in a run what they mean in a log.
use Rattle.std.specs.Option.{option_map_or}
use Rattle.std.proofs.Common.{◌≡◌, ◌≢◌, ◌==◌, ◌&&◌, ◌||◌, ◌≤◌, ◌++◌, ◌∷◌, [], ℕ, Bool, true, false, not, nat_lt, nat_le, if◌then◌else◌, List, map}
use Rattle.std.proofs.Common.{Option, Some, None, option_map, IfSome, refl, sym, ap, ◌∙◌, arith, inl, inr, le-ltb, le-leb, leb-true, lt-ltb, ne_eqb}
use Rattle.std.proofs.Math.Path.{fun_ext}
use Rattle.std.proofs.lemmas.{Bool.{cases_Bool, cases_lt, cond-true, cond-false, false≢true}, List.{append_assoc, map-append}}
use Rattle.cap_word.specs.declared.word.{Cap.Cap, Word.Word}
use Rattle.cap_bounds.specs.Bounds.{is_sound}
use Rattle.cap_ops.specs.{Checks.first_of, declared.refusal.Refusal.{Refusal, TheVariants.{LimitPassed, Misplaced, PlaceTaken, UnsoundRoot, WrongCount, WrongResult}}}
use Rattle.cap_log.specs.{declared.{kinds.Step.Step, lines.{Line.Line, Mode.Mode, Place.{Place, TheVariants.{Granule, Register}}}}, Lines.{IsInRange, IsPlace, IsStepInRange}}
use Rattle.cap_machine.specs.declared.{limits.Limits.Limits, rules.Rules.{Rules, TheVariants.One}}
use Rattle.cap_machine.specs.Accounts.{Account, granule_of, limits_of, most_granules, most_steps, named_by, naming, passes_granule_limit, row_in, step_checks, with_step}
use Rattle.cap_machine.specs.{States.{State, key_of, tagged, untagged_null}}
use Rattle.cap_machine.specs.Steps.{Access, agrees, state_with}
use Rattle.cap_judge.specs.{Turns.account_with}
use Rattle.cap_objects.specs.{Counts.{count_below}}
use Rattle.cap_run_log.specs.UsualLines.{as_run, in_run}
use Rattle.cap_run.specs.declared.{asks.Asks.Asks, ends.RunRefusal.{RunRefusal, TheVariants.{NotOwned, OwnerFreed, Usual}}}
use Rattle.cap_run.specs.{Run.{first_special}, RunChanges.{account_in, line_after, main_of, run_limits, usual_after}}
use Rattle.cap_run.specs.RunChecks.{asked_checks, is_unowned, line_end, root_end, usual_end, uses_freed}
use Rattle.cap_run.specs.{UsualRuns.{IsOfLog, MeansTheSame, log_refusal, run_by}}
use Rattle.cap_run.proofs.{ErasureLemmas.{and_none, disowned_none, then_none}, RootLemmas.first-usual, RunNumberLemmas.run-is}
use Rattle.cap_run.proofs.{UsualLemmas.place-low, UsualNumberLemmas.{naming-rest, usual_check, ruled-low, usual_with}}

-- The account of such a run

abbrev wide : Account → Account
wide account = record account { origin = λ key. None; limits = run_limits }

main_is : (account : Account) → IsOfLog account → main_of account.state ≡ account.state
main_is account of_log = fun_ext (λ key. elim (cases_lt key first_special) [
  | inl near ↦ cond-true (nat_lt key first_special) (account.state key) untagged_null (lt-ltb key first_special near)
  | inr far ↦
      cond-false (nat_lt key first_special) (account.state key) untagged_null (le-ltb key first_special far) ∙ sym (of_log.holds_none key far)
])

account_is : (account : Account) → IsOfLog account → account_in (run_by account) ≡ wide account
account_is account of_log = ap (λ (s : State). record (wide account) { state = s }) (main_is account of_log)

-- Limits of runs are passed only where those of logs are

less_passed : (few many n : ℕ) → few ≤ many → nat_le few n ≡ false → nat_le many n ≡ false
less_passed few many n less free = elim (cases_Bool (nat_le many n)) [
  | inl full ↦ absurd (false≢true (sym free ∙ le-leb few n (let past = leb-true many n full in omega (arith, past, less))))
  | inr few_still ↦ few_still
]

few_granules : (rules : Rules) → most_granules rules ≤ 4294967295
few_granules One = omega arith
few_granules rules = omega arith

both_less : (a b c : Bool) → (b ≡ false → c ≡ false) → (a && b) ≡ false → (a && c) ≡ false
both_less true b c less free = less free
both_less false b c less free = refl

either_less : (a b c d : Bool) → (a ≡ false → c ≡ false) → (b ≡ false → d ≡ false) → (a || b) ≡ false → (c || d) ≡ false
either_less true b c d less less' free = absurd (false≢true (sym free))
either_less false b c d less less' free = ap (λ (x : Bool). x || d) (less refl) ∙ less' free

granules_less : (account : Account) → IsOfLog account → (granule : Option ℕ) → passes_granule_limit account granule ≡ false
    → passes_granule_limit (wide account) granule ≡ false
granules_less account of_log granule =
    let most = ap (λ (l : Limits). l.granules) of_log.limits_are in
    let few = few_granules account.rules in
    let less : account.limits.granules ≤ 4294967295 = omega (arith, most, few) in
    both_less _ _ _ (less_passed account.limits.granules 4294967295 account.granules less)

roots_less : (account : Account) → IsOfLog account → nat_le account.limits.roots account.roots ≡ false
    → nat_le run_limits.roots account.roots ≡ false
roots_less account of_log =
    let most = ap (λ (l : Limits). l.roots) of_log.limits_are in
    less_passed account.limits.roots 4294967295 account.roots (omega (arith, most))

-- a last check of a limit, or of a greater one
last_less : (checks : List (Bool × Refusal)) (one : Bool × Refusal) (limit greater : Bool) → (limit ≡ false → greater ≡ false)
    → first_of (checks ++ one ∷ (limit, LimitPassed) ∷ []) ≢ Some LimitPassed
    → first_of (checks ++ one ∷ (greater, LimitPassed) ∷ []) ≡ first_of (checks ++ one ∷ (limit, LimitPassed) ∷ [])
last_less [] (true, refusal) limit greater less free = refl
last_less [] (false, refusal) true greater less free = absurd (free refl)
last_less [] (false, refusal) false greater less free = ap (λ (b : Bool). if b then Some LimitPassed else None) (less refl)
last_less ((true, refusal) ∷ checks) one limit greater less free = refl
last_less ((false, refusal) ∷ checks) one limit greater less free = last_less checks one limit greater less free

-- How lines end

-- two checks that pass are passed over
passed_over : (checks : List (Bool × RunRefusal)) (x y : RunRefusal) (one two : Bool) (rest : List (Bool × RunRefusal)) → one ≡ false
    → two ≡ false → first_of (checks ++ (one, x) ∷ (two, y) ∷ rest) ≡ first_of (checks ++ rest)
passed_over [] x y one two rest first second =
    ap (λ (b : Bool). if b then Some x else (if two then Some y else first_of rest)) first
    ∙ ap (λ (b : Bool). if b then Some y else first_of rest) second
passed_over (check ∷ checks) x y one two rest first second =
    ap (λ (o : Option RunRefusal). if check.0 then Some check.1 else o) (passed_over checks x y one two rest first second)

-- no object owns or is touched
none_used : (account : Account) (access : Option Access) → option_map_or (uses_freed (run_by account)) access false ≡ false
none_used account None = refl
none_used account (Some access) = refl

none_touched : (account : Account) (access : Option Access) → option_map_or (is_unowned (run_by account)) access false ≡ false
unfolding count_below
none_touched account None = refl
none_touched account (Some access) = refl

step_ends : (asks : Asks) (account : Account) (step : Step) → IsOfLog account → first_of (step_checks account step) ≢ Some LimitPassed
    → usual_end asks (run_by account) step ≡ option_map Usual (first_of (step_checks account step))
step_ends asks account step of_log free =
    let run = run_by account in
    let row = row_in account step in
    let wrong = not (agrees row.writes row.records) in
    let full = nat_le most_steps account.steps in
    let limit = full || passes_granule_limit account (named_by row) in
    let greater = full || passes_granule_limit (wide account) (named_by row) in
    let last : List (Bool × Refusal) = (wrong, WrongResult) ∷ (greater, LimitPassed) ∷ [] in
    let own = map usual_check row.checks in
    let by : Account → Option RunRefusal = λ a. let there = row_in a step in
    first_of (map usual_check there.checks ++ asked_checks asks run there.access
    ++ (not (agrees there.writes there.records), Usual WrongResult)
    ∷ (full || passes_granule_limit a (named_by there), Usual LimitPassed) ∷ []) in
    ap by (account_is account of_log)
    ∙ ap first_of (append_assoc own (asked_checks asks run row.access) (map usual_check last))
    ∙ passed_over own OwnerFreed NotOwned (asks.used && option_map_or (uses_freed run) row.access false)
    (asks.owned && option_map_or (is_unowned run) row.access false) (map usual_check last)
    (and_none asks.used _ (none_used account row.access)) (and_none asks.owned _ (none_touched account row.access))
    ∙ ap first_of (sym (map-append usual_check row.checks last))
    ∙ first-usual (row.checks ++ last)
    ∙ ap (option_map Usual) (last_less row.checks (wrong, WrongResult) limit greater
    (either_less full _ full _ (λ e. e) (granules_less account of_log (named_by row))) free)

-- the checks of a root
abbrev checks_of : Account → Bool → Bool → Bool → List (Bool × Refusal)
checks_of account tag sound limit =
    (nat_lt 0 account.steps, Misplaced) ∷ (tag, PlaceTaken) ∷ (not sound, UnsoundRoot) ∷ (limit, LimitPassed) ∷ []

root_by : (account : Account) (tag sound : Bool) (granule : Option ℕ) → IsOfLog account
    → (let limit = nat_le account.limits.roots account.roots || passes_granule_limit account granule in
    first_of (checks_of account tag sound limit) ≢ Some LimitPassed
    → first_of (map usual_check (checks_of account tag sound (nat_le run_limits.roots account.roots || passes_granule_limit (account_in (run_by account)) granule)))
    ≡ option_map Usual (first_of (checks_of account tag sound limit)))
root_by account tag sound granule of_log free =
    let greater = nat_le run_limits.roots account.roots || passes_granule_limit (wide account) granule in
    let limit = nat_le account.limits.roots account.roots || passes_granule_limit account granule in
    ap (λ (a : Account). first_of (map usual_check (checks_of account tag sound (nat_le run_limits.roots account.roots || passes_granule_limit a granule))))
    (account_is account of_log)
    ∙ first-usual (checks_of account tag sound greater)
    ∙ ap (option_map Usual) (last_less ((nat_lt 0 account.steps, Misplaced) ∷ (tag, PlaceTaken) ∷ []) (not sound, UnsoundRoot) limit greater
    (either_less _ _ _ _ (roots_less account of_log) (granules_less account of_log granule)) free)

root_ends : (account : Account) (place : Place) (word : Word) → IsOfLog account → log_refusal account (Line.Root place word) ≢ Some LimitPassed
    → root_end (run_by account) (in_run place) word ≡ option_map Usual (log_refusal account (Line.Root place word))
root_ends account (Register n) word = root_by account (account.state n).tag (is_sound word.0) None
root_ends account (Granule g) word = root_by account (account.state (key_of (Granule g))).tag (is_sound word.0) (Some g)

count_ends : (same : Bool) → (if same then None else Some (Usual WrongCount)) ≡ option_map Usual (first_of ((not same, WrongCount) ∷ []))
count_ends true = refl
count_ends false = refl

line_ends : (asks : Asks) (account : Account) (line : Line) → IsOfLog account → log_refusal account line ≢ Some LimitPassed
    → line_end asks (run_by account) (as_run line) ≡ option_map Usual (log_refusal account line)
line_ends asks account (Line.Version version) of_log free = refl
line_ends asks account (Line.Mode mode) of_log free = refl
line_ends asks account (Line.Root place word) of_log free = root_ends account place word of_log free
line_ends asks account (Line.Step step) of_log free = step_ends asks account step of_log free
line_ends asks account (Line.End count) of_log free = count_ends (count == account.steps)

-- What lines lead to

-- a write leaves what lies past registers and granules
far_kept : (writes : Option (Place × Cap)) (state : State) (key : ℕ) → IfSome (option_map (λ (write : Place × Cap). write.0) writes) IsPlace
    → first_special ≤ key → state_with state writes key ≡ state key
far_kept None state key low far = refl
far_kept (Some (place, cap)) state key low far =
    let near = place-low place low in
    cond-false (key_of place == key) cap (state key) (ne_eqb (key_of place) key (λ same. omega (arith, near, far, same)))

step_kept : (account : Account) (step : Step) → IsStepInRange step → (key : ℕ) → first_special ≤ key
    → (with_step account step).state key ≡ account.state key
step_kept account step range key far =
    far_kept (row_in account step).writes account.state key (ruled-low account step range) far

naming_wide : (account : Account) (granule : Option ℕ) → naming (wide account) granule ≡ wide (naming account granule)
naming_wide account None = refl
naming_wide account (Some granule) = refl

step_leads : (account : Account) (step : Step) → IsOfLog account → IsStepInRange step
    → usual_after (run_by account) step ≡ run_by (with_step account step)
step_leads account step of_log range =
    let run = run_by account in
    let after = usual_with (wide account) run step in
    let goal = run_by (with_step account step) in
    let granule = named_by (row_in account step) in
    let named = naming_wide account granule in
    let rest = naming-rest account granule in
    let state : after.state ≡ goal.state = fun_ext (λ key. elim (cases_lt key first_special) [
      | inl near ↦ cond-true (nat_lt key first_special) ((with_step account step).state key) (account.state key) (lt-ltb key first_special near)
      | inr far ↦
          cond-false (nat_lt key first_special) ((with_step account step).state key) (account.state key) (le-ltb key first_special far)
          ∙ sym (step_kept account step range key far)
    ]) in
    let owners : after.owners ≡ goal.owners = fun_ext (disowned_none _ _ _ (λ key. then_none run.owners _ (λ k. refl))) in
    ap (λ (a : Account). usual_with a run step) (account_is account of_log)
    ∙ run-is after goal state owners refl refl (sym rest.0) refl (sym rest.1) refl (ap (λ (a : Account). a.is_named) named)
    (ap (λ (a : Account). a.granules) named) refl

line_leads : (account : Account) (line : Line) → IsOfLog account → IsInRange line
    → line_after (run_by account) (as_run line) ≡ run_by (account_with account line)
line_leads account (Line.Version version) of_log range = refl
line_leads account (Line.Mode Mode.Strict) of_log range = refl
line_leads account (Line.Mode Mode.Clear) of_log range = refl
line_leads account (Line.Root (Register n) word) of_log range = refl
line_leads account (Line.Root (Granule g) word) of_log range = refl
line_leads account (Line.Step step) of_log range = step_leads account step of_log range
line_leads account (Line.End count) of_log range = refl

-- and the account stays one of a log
limits_named : (account : Account) (granule : Option ℕ) → IsOfLog account
    → (naming account granule).limits ≡ limits_of (naming account granule).rules
limits_named account granule of_log =
    let rest = naming-rest account granule in
    rest.2 ∙ of_log.limits_are ∙ sym (ap limits_of rest.0)

line_stays : (account : Account) (line : Line) → IsOfLog account → IsInRange line → IsOfLog (account_with account line)
line_stays account (Line.Version version) of_log range = of_log
line_stays account (Line.Mode mode) of_log range = record { limits_are = refl; holds_none = of_log.holds_none }
line_stays account (Line.Root place word) of_log range = record {
  limits_are = limits_named account (granule_of place) of_log;
  holds_none = λ key far. far_kept (Some (place, tagged word)) account.state key range.0 far ∙ of_log.holds_none key far;
}
line_stays account (Line.Step step) of_log range = record {
  limits_are = limits_named account (named_by (row_in account step)) of_log;
  holds_none = λ key far. step_kept account step range key far ∙ of_log.holds_none key far;
}
line_stays account (Line.End count) of_log range = of_log

pub means_the_same : (asks : Asks) (account : Account) (line : Line) → IsInRange line → IsOfLog account → MeansTheSame asks account line
means_the_same asks account line range of_log = record {
  ends = line_ends asks account line of_log;
  leads = line_leads account line of_log range;
  stays = line_stays account line of_log range;
}
