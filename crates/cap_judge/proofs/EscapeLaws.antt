-- Which first faults are refused by BoundsEscape.
use Rattle.std.proofs.Common.{◌≡◌, ◌↔◌, ℕ, inl, inr, Bool, true, false, List, [], ◌∷◌, refl, sym, ap, subst, ◌∙◌, Some}
use Rattle.std.proofs.{Common.{Result, Ok, Err, IfOk}, lemmas.{Bool.{false≢true}, Option.same_Some}}
use Rattle.cap_ops.specs.declared.refusal.Refusal.{Refusal, TheVariants.{BoundsEscape, LimitPassed, LineTooLong}}
use Rattle.cap_ops.specs.declared.refusal.Refusal.TheVariants.{Misplaced, PlaceTaken, Truncated, UnsoundRoot}
use Rattle.cap_ops.specs.{declared.refusal.Refusal.TheVariants.{WrongCount, WrongResult}, Checks.first_of}
use Rattle.cap_log.specs.declared.{kinds.Step.Step, lines.Line.Line}
use Rattle.cap_streams.specs.Front.{FrontIs, IsLine}
use Rattle.cap_streams.proofs.FrontLemmas.{IsLine-same, IsLine-not_too_long, IsLine-not_cut}
use Rattle.cap_log.proofs.SpellingLemmas.{one_spelling}
use Rattle.cap_machine.specs.{declared.rules.Rules.Rules, Accounts.{Account, step_checks}, Escapes.Escapes}
use Rattle.cap_machine.specs.{Parents.IsSoundState, States.{DeclaredRoot, start}}
use Rattle.cap_machine.proofs.{AuthorityLemmas.{sound_along, start_sound}, EscapeLemmas.escapes_first}
use Rattle.cap_judge.specs.{declared.verdict.Verdict.{Verdict, TheVariants.{Yes, No}}, Logs.{Beginning, Empty, NoMode}}
use Rattle.cap_judge.specs.Logs.{Body, Whole, SpellsBy, account_after, line_checks, IsAccepted, RunsBy, RefusesLine}
use Rattle.cap_judge.specs.{Logs.Refuses, Verdicts.{EscapesExactly, FaultEscapes, NamesEscapes}}
use Rattle.cap_judge.proofs.{JudgeLemmas.{are_sound, behind_header, steps_in_range}, LogLemmas.last_state}

-- every tagged word of what accepted roots and steps lead to is sound
account_sound : (rules_are : Rules) (roots : List DeclaredRoot) (steps : List Step) → RunsBy rules_are roots steps
    → IsSoundState (account_after rules_are roots steps).state
account_sound rules_are roots steps runs =
    let run = runs.run in
    subst IsSoundState (last_state rules_are roots steps runs)
    (sound_along rules_are (start roots) steps run.0 (steps_in_range roots steps (behind_header rules_are _ runs.grammar))
    (start_sound roots (are_sound roots runs.sound)) run.1)

-- the refusals of a step for what it asks for, and for its result
abbrev pub is_of_step : Refusal → Bool
is_of_step BoundsEscape = true
is_of_step WrongResult = true
is_of_step refusal = false

-- no other line is refused so
root_test : (a b c d : Bool) (refusal : Refusal)
    → first_of ((a, Misplaced) ∷ (b, PlaceTaken) ∷ (c, UnsoundRoot) ∷ (d, LimitPassed) ∷ []) ≡ Some refusal → is_of_step refusal ≡ false
root_test true b c d refusal h = ap is_of_step (sym (same_Some Misplaced refusal h))
root_test false true c d refusal h = ap is_of_step (sym (same_Some PlaceTaken refusal h))
root_test false false true d refusal h = ap is_of_step (sym (same_Some UnsoundRoot refusal h))
root_test false false false true refusal h = ap is_of_step (sym (same_Some LimitPassed refusal h))
root_test false false false false refusal h = cc

end_test : (a : Bool) (refusal : Refusal) → first_of ((a, WrongCount) ∷ []) ≡ Some refusal → is_of_step refusal ≡ false
end_test true refusal h = ap is_of_step (sym (same_Some WrongCount refusal h))
end_test false refusal h = cc

pub is_step : (account : Account) (line : Line) (refusal : Refusal) → is_of_step refusal ≡ true
    → first_of (line_checks account line) ≡ Some refusal
    → (step : Step) × (line ≡ Line.Step step) × (first_of (step_checks account step) ≡ Some refusal)
is_step account (Line.Step step) refusal own h = (step, refl, h)
is_step account (Line.Root place word) refusal own h = absurd (false≢true (sym (root_test _ _ _ _ refusal h) ∙ own))
is_step account (Line.End count) refusal own h = absurd (false≢true (sym (end_test _ refusal h) ∙ own))
is_step account line refusal own h = absurd (false≢true (ap is_of_step (same_Some Misplaced refusal h) ∙ own))

-- and before the body nothing is
pub never_front : (rest : List ℕ) (refusal : Refusal) (P : List ℕ → Type 0) → is_of_step refusal ≡ true
    → ((text : List ℕ) → P text → is_of_step refusal ≡ false) → FrontIs rest (refusal ≡ LineTooLong) (refusal ≡ Truncated) P → ⊥
never_front rest refusal P own whole (inl long) = false≢true (sym (ap is_of_step long.1) ∙ own)
never_front rest refusal P own whole (inr (inl cut)) = false≢true (sym (ap is_of_step cut.1) ∙ own)
never_front rest refusal P own whole (inr (inr line)) = false≢true (sym (whole line.0 line.3) ∙ own)

-- what a whole line is refused for
refused_escapes : (account : Account) (rest text more : List ℕ) (refusal : Refusal) → IsSoundState account.state → IsLine rest text more
    → RefusesLine account text refusal → refusal ≡ BoundsEscape
    → (bytes : List ℕ) × (after : List ℕ) × (step : Step) × IsLine rest bytes after × SpellsBy account.rules bytes (Line.Step step)
    × Escapes account.rules account.state step
refused_escapes account rest text more refusal sound whole (inl none) h = absurd (let bad = none.1 in cc)
refused_escapes account rest text more refusal sound whole (inr found) h =
    let is = is_step account found.0 BoundsEscape refl (found.2 ∙ ap (λ (r : Refusal). Some r) h) in
    let spelled = subst (SpellsBy account.rules text) is.1 found.1 in
    (text, more, is.0, whole, spelled, (escapes_first account is.0 spelled.0.0 sound).0 is.2)

-- and what a step that asks for too much is refused for
escape_refused : (account : Account) (text : List ℕ) (step : Step) (refusal : Refusal) → IsSoundState account.state
    → SpellsBy account.rules text (Line.Step step)
    → Escapes account.rules account.state step → RefusesLine account text refusal → refusal ≡ BoundsEscape
escape_refused account text step refusal sound spelled escapes (inl none) = absurd (none.0 (Line.Step step) spelled)
escape_refused account text step refusal sound spelled escapes (inr found) =
    let same = one_spelling text found.0 (Line.Step step) found.1.0 spelled.0 in
    let first = (escapes_first account step spelled.0.0 sound).1 escapes in
    same_Some _ _ (sym found.2 ∙ ap (λ (line : Line). first_of (line_checks account line)) same ∙ first)

body_escapes : (rules_are : Rules) (roots : List DeclaredRoot) (steps : List Step) (rest : List ℕ) (refusal : Refusal)
    → RunsBy rules_are roots steps
    → Refuses (Body rules_are roots steps) rest refusal → (refusal ≡ BoundsEscape) ↔ FaultEscapes (Body rules_are roots steps) rest
body_escapes rules_are roots steps rest refusal runs (inl long) =
    (λ h. absurd (let is = long.1 in cc), λ escapes. absurd (IsLine-not_too_long rest escapes.0 escapes.1 escapes.3 long.0))
body_escapes rules_are roots steps rest refusal runs (inr (inl cut)) =
    (λ h. absurd (let is = cut.1 in cc), λ escapes. absurd (IsLine-not_cut rest escapes.0 escapes.1 escapes.3 cut.0))
body_escapes rules_are roots steps rest refusal runs (inr (inr line)) =
    let account = account_after rules_are roots steps in
    let sound = account_sound rules_are roots steps runs in (
      λ h. refused_escapes account rest line.0 line.1 refusal sound line.2 line.3 h,
      λ escapes.
          let same = IsLine-same rest escapes.0 escapes.1 line.0 line.1 escapes.3 line.2 in
          escape_refused account line.0 escapes.2 refusal sound (subst (λ (t : List ℕ). SpellsBy account.rules t (Line.Step escapes.2))
          same.0 escapes.4) escapes.5 line.3,
    )

fault_escapes : (beginning : Beginning) (rest : List ℕ) (refusal : Refusal) → IsAccepted beginning → Refuses beginning rest refusal
    → (refusal ≡ BoundsEscape) ↔ FaultEscapes beginning rest
fault_escapes Empty rest refusal accepted refused =
    (λ h. never_front rest refusal _ (ap is_of_step h) (λ text whole. ap is_of_step whole.1) refused, λ none. absurd none)
fault_escapes NoMode rest refusal accepted refused =
    (λ h. never_front rest refusal _ (ap is_of_step h) (λ text whole. ap is_of_step whole.1) refused, λ none. absurd none)
fault_escapes (Body rules_are roots steps) rest refusal accepted refused = body_escapes rules_are roots steps rest refusal accepted refused
fault_escapes (Whole rules_are roots steps) rest refusal accepted refused = (λ h. let is = refused.1 in cc, λ none. absurd none)

-- every first fault is refused so exactly for such a step
pub escapes_exactly : (bytes : List ℕ) (verdict : Verdict) → EscapesExactly bytes verdict
escapes_exactly bytes (Yes steps roots) = tt
escapes_exactly bytes (No line refusal) = λ fault. fault_escapes fault.beginning fault.rest refusal fault.accepted fault.refused

-- so the verdict of each judge names it
pub named : (verdict : Verdict) → NamesEscapes verdict
named verdict bytes = escapes_exactly bytes verdict

pub names_escapes : {E : Type 0} (result : Result Verdict E) → IfOk result NamesEscapes
names_escapes (Ok verdict) = named verdict
names_escapes (Err fault) = tt

pub escapes_of : {E : Type 0} (bytes : List ℕ) (result : Result Verdict E) → IfOk result (EscapesExactly bytes)
escapes_of bytes (Ok verdict) = escapes_exactly bytes verdict
escapes_of bytes (Err fault) = tt
