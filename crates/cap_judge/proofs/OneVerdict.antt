-- Bytes have one reading, a line at a time, that stops, and no two verdicts: each comes from such a reading.
use Rattle.std.proofs.Common.{◌≡◌, ℕ, inl, inr, List, [], ◌∷◌, ◌++◌, refl, sym, ap, subst, ◌∙◌, append_assoc, ◌+◌}
use Rattle.std.proofs.{Common.{length, append-nil}, lemmas.Option.{none-some, same_Some}}
use Rattle.cap_ops.specs.{declared.refusal.Refusal.Refusal, Checks.first_of}
use Rattle.cap_log.specs.{declared.lines.Line.{Line, TheVariants.{Version, Mode}}, Lines.{spelling, IsInRange}}
use Rattle.cap_streams.specs.Front.{IsLine}
use Rattle.cap_streams.proofs.FrontLemmas.{IsLine-same, IsLine-not_too_long, IsLine-not_cut, IsTooLong-not_cut}
use Rattle.cap_log.proofs.SpellingLemmas.{one_spelling, IsLine-spelling}
use Rattle.cap_judge.specs.{declared.verdict.Verdict.{Verdict, TheVariants.{Yes, No}}, Judgings.IsBehind}
use Rattle.cap_judge.specs.Logs.{Beginning, Empty, NoMode, Body, Whole, account_after, lines_of, line_checks, Refuses, RefusesWhole}
use Rattle.cap_judge.specs.{Turns.{log_turns, unread}, Verdicts.IsVerdict}
use Rattle.cap_judge.proofs.{InTurn.{accepted_read, same_beginning, stage_after}, JudgeLemmas.RefusesFront, LogLemmas.accepted_in_range}
use Rattle.cap_judge.proofs.TurnLemmas.{allowed_form, log_spelled}
use Rattle.cap_turns.{specs.Turns.Allows, proofs.OneEnd.{Stops, one_reading}}

-- the verdict on what follows a beginning
abbrev pub IsAnswerFor : Beginning → List ℕ → Verdict → Type 0
IsAnswerFor (Whole rules roots steps) rest (Yes step_count root_count) =
    (rest ≡ []) × (step_count ≡ length steps) × (root_count ≡ length roots)
IsAnswerFor beginning rest (Yes steps roots) = ⊥
IsAnswerFor beginning rest (No line refusal) = (line ≡ length (lines_of beginning) + 1) × Refuses beginning rest refusal

-- what refuses bytes that begin with a whole line refuses this line
front_refused : (beginning : Beginning) (rest text more : List ℕ) (refusal : Refusal) → IsLine rest text more
    → RefusesFront beginning rest refusal → RefusesWhole beginning text refusal
front_refused beginning rest text more refusal whole (inl long) = absurd (IsLine-not_too_long rest text more whole long.0)
front_refused beginning rest text more refusal whole (inr (inl cut)) = absurd (IsLine-not_cut rest text more whole cut.0)
front_refused beginning rest text more refusal whole (inr (inr h)) =
    subst (λ (t : List ℕ). RefusesWhole beginning t refusal) (IsLine-same rest h.0 h.1 text more h.2 whole).0 h.3

-- a line that is allowed is not refused
not_refused : (beginning : Beginning) (line : Line) (refusal : Refusal) → IsInRange line → Allows log_turns (stage_after beginning) line
    → RefusesWhole beginning (spelling line) refusal → ⊥
not_refused Empty (Version version) refusal range allowed refused = refused.0 version (range, refl)
not_refused NoMode (Mode mode) refusal range allowed refused = refused.0 mode (range, refl)
not_refused (Body rules_are roots steps) line refusal range allowed (inl none) =
    none.0 line ((range, refl), (allowed_form (account_after rules_are roots steps) line allowed).0)
not_refused (Body rules_are roots steps) line refusal range allowed (inr found) =
    let account = account_after rules_are roots steps in
    let same = one_spelling (spelling line) found.0 line found.1.0 (range, refl) in
    let free = (allowed_form account line allowed).1 in
    none-some refusal (sym free ∙ ap (λ (l : Line). first_of (line_checks account l)) (sym same) ∙ found.2)
not_refused (Whole rules_are roots steps) line refusal range allowed refused = refused
not_refused beginning line refusal range allowed refused = none-some _ (sym allowed)

-- so where there is a verdict, the reading stops
refused_stops : (beginning : Beginning) (rest : List ℕ) (refusal : Refusal) → RefusesFront beginning rest refusal
    → Stops log_turns (stage_after beginning) rest
refused_stops beginning rest refusal refused line more range allowed is =
    let whole = subst (λ (bytes : List ℕ). IsLine bytes (spelling line) more) (sym is) (IsLine-spelling line range more) in
    not_refused beginning line refusal range allowed (front_refused beginning rest (spelling line) more refusal whole refused)

pub answer_stops : (beginning : Beginning) (rest : List ℕ) (verdict : Verdict) → IsAnswerFor beginning rest verdict
    → Stops log_turns (stage_after beginning) rest
answer_stops (Whole rules_are roots steps) rest verdict answers = λ line more range allowed is. none-some _ (sym allowed)
answer_stops beginning rest (Yes steps roots) answers = absurd answers
answer_stops beginning rest (No line refusal) answers = refused_stops beginning rest refusal answers.1

-- a whole line is refused with one refusal
one_text : (beginning : Beginning) (text : List ℕ) (a b : Refusal) → RefusesWhole beginning text a → RefusesWhole beginning text b → a ≡ b
one_text Empty text a b h k = h.1 ∙ sym k.1
one_text NoMode text a b h k = h.1 ∙ sym k.1
one_text (Body rules_are roots steps) text a b (inl h) (inl k) = h.1 ∙ sym k.1
one_text (Body rules_are roots steps) text a b (inl h) (inr k) = absurd (h.0 k.0 k.1)
one_text (Body rules_are roots steps) text a b (inr h) (inl k) = absurd (k.0 h.0 h.1)
one_text (Body rules_are roots steps) text a b (inr h) (inr k) =
    let checks = λ (line : Line). first_of (line_checks (account_after rules_are roots steps) line) in
    same_Some a b (sym h.2 ∙ ap checks (one_spelling text h.0 k.0 h.1.0 k.1.0) ∙ k.2)
one_text (Whole rules_are roots steps) text a b h k = absurd h

-- and so is what follows: too long, cut and a whole line exclude one another
one_front : (beginning : Beginning) (rest : List ℕ) (a b : Refusal) → RefusesFront beginning rest a → RefusesFront beginning rest b → a ≡ b
one_front beginning rest a b (inr (inr h)) k = one_text beginning h.0 a b h.3 (front_refused beginning rest h.0 h.1 b h.2 k)
one_front beginning rest a b h (inr (inr k)) = one_text beginning k.0 a b (front_refused beginning rest k.0 k.1 a k.2 h) k.3
one_front beginning rest a b (inl h) (inl k) = h.1 ∙ sym k.1
one_front beginning rest a b (inr (inl h)) (inr (inl k)) = h.1 ∙ sym k.1
one_front beginning rest a b (inl h) (inr (inl k)) = absurd (IsTooLong-not_cut rest h.0 k.0)
one_front beginning rest a b (inr (inl h)) (inl k) = absurd (IsTooLong-not_cut rest k.0 h.0)

one_refusal : (beginning : Beginning) (rest : List ℕ) (a b : Refusal) → Refuses beginning rest a → Refuses beginning rest b → a ≡ b
one_refusal (Whole rules_are roots steps) rest a b h k = h.1 ∙ sym k.1
one_refusal beginning rest a b h k = one_front beginning rest a b h k

-- where a reading stops there is one verdict
one_answer : (beginning : Beginning) (rest : List ℕ) (a b : Verdict) → IsAnswerFor beginning rest a → IsAnswerFor beginning rest b → a ≡ b
one_answer (Whole rules_are roots steps) rest (Yes step_count root_count) (Yes step_count' root_count') h k = cc
one_answer (Whole rules_are roots steps) rest (Yes step_count root_count) (No line refusal) h k = absurd (k.1.0 h.0)
one_answer (Whole rules_are roots steps) rest (No line refusal) (Yes step_count root_count) h k = absurd (h.1.0 k.0)
one_answer beginning rest (No line refusal) (No line' refusal') h k =
    let same = one_refusal beginning rest refusal refusal' h.1 k.1 in cc
one_answer beginning rest (Yes steps roots) verdict h k = absurd h
one_answer beginning rest verdict (Yes steps roots) h k = absurd k

-- Verdicts

-- each comes from a reading: the bytes are a beginning that is accepted, and a rest that has this verdict
read : (bytes : List ℕ) (verdict : Verdict) → IsVerdict bytes verdict
    → (beginning : Beginning) × (rest : List ℕ) × IsBehind bytes beginning rest × IsAnswerFor beginning rest verdict
read bytes (Yes steps roots) is = (
  Whole is.rules is.roots is.steps,
  [],
  record { bytes_are = is.log.bytes_are ∙ sym (append-nil _); accepted = is.log.runs },
  (refl, is.step_count_is, is.root_count_is),
)
read bytes (No line refusal) is =
    (is.beginning, is.rest, record { bytes_are = is.bytes_are; accepted = is.accepted }, (is.number_is, is.refused))

pub one_verdict : (bytes : List ℕ) (a b : Verdict) → IsVerdict bytes a → IsVerdict bytes b → a ≡ b
one_verdict bytes a b is_a is_b =
    let (first, rest, here, answers) = read bytes a is_a in
    let (second, rest', there, answers') = read bytes b is_b in
    let same = one_reading log_turns log_spelled unread (stage_after first) (stage_after second) (lines_of first) (lines_of second) rest rest'
    (accepted_in_range first here.accepted) (accepted_in_range second there.accepted)
    (accepted_read first here.accepted) (accepted_read second there.accepted)
    (answer_stops first rest a answers) (answer_stops second rest' b answers') (sym here.bytes_are ∙ there.bytes_are) in
    one_answer first rest a b answers
    (subst (λ (r : List ℕ). IsAnswerFor first r b) (sym same.1)
    (subst (λ (beginning : Beginning). IsAnswerFor beginning rest' b) (sym (same_beginning first second same.0)) answers'))
