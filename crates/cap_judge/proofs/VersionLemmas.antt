-- Bytes that do not begin with the line `capcheck 2` have a verdict by the rules of version 1.
use Rattle.std.proofs.Common.{◌≡◌, ◌↔◌, ℕ, inl, inr, List, [], ◌∷◌, ◌++◌, length, map, refl, sym, ap, subst, ◌∙◌}
use Rattle.std.proofs.{Common.{append-nil, arith, codes}, lemmas.Fmt.decimal_digit}
use Rattle.cap_ops.specs.declared.refusal.Refusal.{Refusal}
use Rattle.cap_log.specs.declared.lines.Line.{Line, TheVariants.{Version, Mode, Root, Step, End}}
use Rattle.cap_log.specs.{declared.lines.Mode.TheVariants.{Strict, Clear}, Lines.{Spells, spelling}}
use Rattle.cap_streams.specs.Front.{IsLine}
use Rattle.cap_log.specs.declared.kinds.Step as steps_module
use Rattle.cap_machine.specs.{declared.rules.Rules.TheVariants.{One, TwoStrict, TwoClear}, States.DeclaredRoot}
use Rattle.cap_judge.specs.declared.verdict.Verdict.{Verdict, TheVariants.{Yes, No}}
use Rattle.cap_judge.specs.Logs.{Beginning, Empty, NoMode, Body, Whole, Refuses, lines_of, text_of}
use Rattle.cap_judge.specs.Verdicts.{IsVerdict, IsOfVersionOne, BeginsOne, IsByVersionOne, RefusesOne, IsVerdictOne}
use Rattle.cap_judge.proofs.JudgeLemmas.{text_push}

-- a text that begins with the line of version 2
not_two : (bytes rest : List ℕ) (lines : List Line) → IsOfVersionOne bytes → bytes ≡ text_of (Version 2 ∷ lines) ++ rest → ⊥
unfolding spelling
not_two bytes rest lines one are =
    one (text_of lines ++ rest)
    (are ∙ ap (λ (digits : List ℕ). (((codes "capcheck " ++ digits) ++ 10 ∷ []) ++ text_of lines) ++ rest) (decimal_digit 2 (omega arith)))

behind : List DeclaredRoot → List steps_module.Step → List Line
behind roots steps = map (λ (root : DeclaredRoot). Root root.place root.word) roots ++ map Step steps

begins_one : (bytes rest : List ℕ) (beginning : Beginning) → IsOfVersionOne bytes → bytes ≡ text_of (lines_of beginning) ++ rest
    → BeginsOne beginning
unfolding behind
begins_one bytes rest Empty one are = tt
begins_one bytes rest NoMode one are = absurd (not_two bytes rest [] one are)
begins_one bytes rest (Body One roots steps) one are = refl
begins_one bytes rest (Body TwoStrict roots steps) one are = absurd (not_two bytes rest (Mode Strict ∷ behind roots steps) one are)
begins_one bytes rest (Body TwoClear roots steps) one are = absurd (not_two bytes rest (Mode Clear ∷ behind roots steps) one are)
begins_one bytes rest (Whole One roots steps) one are = refl
begins_one bytes rest (Whole TwoStrict roots steps) one are =
    absurd (not_two bytes rest (Mode Strict ∷ (behind roots steps ++ End (length steps) ∷ [])) one are)
begins_one bytes rest (Whole TwoClear roots steps) one are =
    absurd (not_two bytes rest (Mode Clear ∷ (behind roots steps ++ End (length steps) ∷ [])) one are)

pub by_version_one : (bytes : List ℕ) (verdict : Verdict) → IsOfVersionOne bytes → (is : IsVerdict bytes verdict)
    → IsByVersionOne bytes verdict is
by_version_one bytes (Yes steps roots) one is =
    begins_one bytes [] (Whole is.rules is.roots is.steps) one (is.log.bytes_are ∙ sym (append-nil _))
by_version_one bytes (No line refusal) one is = begins_one bytes is.rest is.beginning one is.bytes_are

-- what is refused by all rules at the start of these bytes, and by version 1
to_one : (rest : List ℕ) (beginning : Beginning) (refusal : Refusal) → Refuses beginning rest refusal → RefusesOne beginning rest refusal
to_one rest Empty refusal (inl long) = inl long
to_one rest Empty refusal (inr (inl cut)) = inr (inl cut)
to_one rest Empty refusal (inr (inr line)) = inr (inr (line.0, line.1, line.2, (line.3.0 1, line.3.1)))
to_one rest beginning refusal refused = refused

-- no version line of these bytes is another than that of version 1
no_other : (bytes line more : List ℕ) → IsOfVersionOne bytes → IsLine bytes line more → (Spells line (Version 1) → ⊥)
    → (version : ℕ) → Spells line (Version version) → ⊥
no_other bytes line more one whole none version spells = elim (spells.0) [
  | inl first ↦ none (subst (λ (v : ℕ). Spells line (Version v)) first spells)
  | inr second ↦
      not_two bytes more [] one
      (whole.whole
      ∙ ap (λ (t : List ℕ). t ++ 10 ∷ more) (subst (λ (v : ℕ). line ≡ spelling (Version v)) second spells.1)
      ∙ sym (text_push [] (Version 2) more))
]

from_one : (bytes rest : List ℕ) (beginning : Beginning) (refusal : Refusal) → IsOfVersionOne bytes
    → bytes ≡ text_of (lines_of beginning) ++ rest → RefusesOne beginning rest refusal → Refuses beginning rest refusal
from_one bytes rest Empty refusal one are (inl long) = inl long
from_one bytes rest Empty refusal one are (inr (inl cut)) = inr (inl cut)
from_one bytes rest Empty refusal one are (inr (inr line)) =
    let whole = subst (λ (b : List ℕ). IsLine b line.0 line.1) (sym are) line.2 in
    inr (inr (line.0, line.1, line.2, (no_other bytes line.0 line.1 one whole line.3.0, line.3.1)))
from_one bytes rest beginning refusal one are refused = refused

-- they have one verdict by both
to_version : (bytes : List ℕ) (verdict : Verdict) → IsOfVersionOne bytes → IsVerdict bytes verdict → IsVerdictOne bytes verdict
to_version bytes (Yes steps roots) one is = (is, by_version_one bytes (Yes steps roots) one is)
to_version bytes (No line refusal) one is = record {
  beginning = is.beginning;
  rest = is.rest;
  of_one = by_version_one bytes (No line refusal) one is;
  bytes_are = is.bytes_are;
  accepted = is.accepted;
  number_is = is.number_is;
  refused = to_one is.rest is.beginning refusal is.refused;
}

from_version : (bytes : List ℕ) (verdict : Verdict) → IsOfVersionOne bytes → IsVerdictOne bytes verdict → IsVerdict bytes verdict
from_version bytes (Yes steps roots) one is = is.0
from_version bytes (No line refusal) one is = record {
  beginning = is.beginning;
  rest = is.rest;
  bytes_are = is.bytes_are;
  accepted = is.accepted;
  number_is = is.number_is;
  refused = from_one bytes is.rest is.beginning refusal one is.bytes_are is.refused;
}

pub same_by_one : (bytes : List ℕ) (verdict : Verdict) → IsOfVersionOne bytes → IsVerdict bytes verdict ↔ IsVerdictOne bytes verdict
same_by_one bytes verdict one = (to_version bytes verdict one, from_version bytes verdict one)
