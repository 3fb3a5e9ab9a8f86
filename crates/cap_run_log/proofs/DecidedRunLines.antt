-- Whether bytes spell a line of a run log is decided.
use Rattle.std.proofs.Common.{◌≡◌, ℕ, zero, suc, ◌^◌, ◌⊎◌, inl, inr, arith, bytes_eq, List}
use Rattle.std.proofs.lemmas.{Slice.Eq.bytes_eq-Decides}
use Rattle.cap_word.specs.declared.word.{Cap.Cap, Word.Word}
use Rattle.cap_log.specs.{declared.lines.Line.Line, Lines.{IsRegister, IsTarget, IsWord, Spells}, Ranges.IsRegisterFrom}
use Rattle.cap_log.proofs.DecidedLines.{line_decided}
use Rattle.cap_log.proofs.Searches.{Decided, Searched, alike, below, both, by_test, caps, either, fits, narrowed, registers, targets, words}
use Rattle.cap_run_log.specs.declared.lines.{RunLine.RunLine, RunPlace.RunPlace, RunRegister.RunRegister, RunStep.RunStep}
use Rattle.cap_run_log.specs.RunLines.{IsGranule, IsHart, IsObjectNumber, IsRunPlace, IsRunRegister, IsRunStepInRange, SpellsRun, run_spelling}
use Rattle.cap_run_log.specs.UsualLines.{as_run}
use Rattle.cap_run_log.proofs.UsualLineLemmas.{read_alike, spells_alike}

-- Searches

registers_from : (least : ℕ) → Searched ℕ (IsRegisterFrom least)
registers_from zero = registers
registers_from (suc least) = narrowed (below 32) (λ n range. let few = range.1 in omega arith) (λ n. both (fits (suc least) n) (fits n 31))

abbrev ARegister : ℕ → (RunRegister → Type 0) → Type 0
ARegister least P =
    ((n : ℕ) × IsRegisterFrom least n × P (RunRegister.General n)) ⊎ ((n : ℕ) × IsRegister n × P (RunRegister.Special n))

a_register : (least : ℕ) (P : RunRegister → Type 0) → ARegister least P → (r : RunRegister) × IsRunRegister least r × P r
a_register least P (inl h) = (RunRegister.General h.0, h.1, h.2)
a_register least P (inr h) = (RunRegister.Special h.0, h.1, h.2)

by_register : (least : ℕ) (P : RunRegister → Type 0) (r : RunRegister) → IsRunRegister least r → P r → ARegister least P
by_register least P (RunRegister.General n) range p = inl (n, range, p)
by_register least P (RunRegister.Special n) range p = inr (n, range, p)

run_registers : (least : ℕ) → Searched RunRegister (IsRunRegister least)
run_registers least P decided =
    alike (a_register least P) (λ h. by_register least P h.0 h.1 h.2)
    (either (registers_from least _ (λ n. decided (RunRegister.General n))) (registers _ (λ n. decided (RunRegister.Special n))))

abbrev APlace : (RunPlace → Type 0) → Type 0
APlace P =
    ((n : ℕ) × IsTarget n × P (RunPlace.General n))
    ⊎ (((n : ℕ) × IsRegister n × P (RunPlace.Special n)) ⊎ ((n : ℕ) × IsGranule n × P (RunPlace.Granule n)))

a_place : (P : RunPlace → Type 0) → APlace P → (place : RunPlace) × IsRunPlace place × P place
a_place P (inl h) = (RunPlace.General h.0, h.1, h.2)
a_place P (inr (inl h)) = (RunPlace.Special h.0, h.1, h.2)
a_place P (inr (inr h)) = (RunPlace.Granule h.0, h.1, h.2)

by_place : (P : RunPlace → Type 0) (place : RunPlace) → IsRunPlace place → P place → APlace P
by_place P (RunPlace.General n) range p = inl (n, range, p)
by_place P (RunPlace.Special n) range p = inr (inl (n, range, p))
by_place P (RunPlace.Granule n) range p = inr (inr (n, range, p))

run_places : Searched RunPlace IsRunPlace
run_places P decided =
    alike (a_place P) (λ h. by_place P h.0 h.1 h.2)
    (either (targets _ (λ n. decided (RunPlace.General n)))
    (either (registers _ (λ n. decided (RunPlace.Special n))) (below (2 ^ 60) _ (λ n. decided (RunPlace.Granule n)))))

object_numbers : Searched ℕ IsObjectNumber
object_numbers = narrowed (below (2 ^ 32)) (λ n range. range.1) (λ n. both (fits 1 n) (fits (suc n) (2 ^ 32)))

-- a step of one of the nine kinds
abbrev ADerive : (RunStep → Type 0) → Type 0
ADerive P = (target : RunRegister) × IsRunRegister 1 target
    × ((source : RunRegister) × IsRunRegister 0 source × ((result : Cap) × IsWord result.word.0 × P (RunStep.Derive (record { target = target; source = source; result = result }))))

abbrev AnExchange : (RunStep → Type 0) → Type 0
AnExchange P = (target : ℕ) × IsTarget target
    × ((source : ℕ) × IsRegister source
    × ((special : ℕ) × IsRegister special
    × ((one : Cap) × IsWord one.word.0 × ((two : Cap) × IsWord two.word.0
    × P (RunStep.Exchange (record { target = target; source = source; special = special; result = one; special_result = two }))))))

abbrev AnInvoke : (RunStep → Type 0) → Type 0
AnInvoke P = (code : ℕ) × IsRegister code
    × ((datum : ℕ) × IsRegister datum × ((one : Word) × IsWord one.0 × ((two : Word) × IsWord two.0
    × P (RunStep.Invoke (record { code = code; datum = datum; code_word = one; datum_word = two })))))

abbrev AStep : (RunStep → Type 0) → Type 0
AStep P =
    ADerive P ⊎ (AnExchange P ⊎ (AnInvoke P
    ⊎ (((place : RunPlace) × IsRunPlace place × P (RunStep.Drop place))
    ⊎ (((granule : ℕ) × IsGranule granule × ((word : Word) × IsWord word.0 × P (RunStep.Fill granule word)))
    ⊎ (((n : ℕ) × IsTarget n × P (RunStep.Object n))
    ⊎ (((n : ℕ) × IsTarget n × ((k : ℕ) × IsObjectNumber k × P (RunStep.Widen n k)))
    ⊎ (((n : ℕ) × IsTarget n × P (RunStep.FreeOwner n)) ⊎ ((k : ℕ) × IsObjectNumber k × P (RunStep.FreeNumber k)))))))))

a_step : (P : RunStep → Type 0) → AStep P → (step : RunStep) × IsRunStepInRange step × P step
a_step P (inl h) = (RunStep.Derive (record { target = h.0; source = h.2.0; result = h.2.2.0 }), (h.1, h.2.1, h.2.2.1), h.2.2.2)
a_step P (inr (inl h)) = (
  RunStep.Exchange (record { target = h.0; source = h.2.0; special = h.2.2.0; result = h.2.2.2.0; special_result = h.2.2.2.2.0 }),
  (h.1, h.2.1, h.2.2.1, h.2.2.2.1, h.2.2.2.2.1),
  h.2.2.2.2.2,
)
a_step P (inr (inr (inl h))) = (
  RunStep.Invoke (record { code = h.0; datum = h.2.0; code_word = h.2.2.0; datum_word = h.2.2.2.0 }),
  (h.1, h.2.1, h.2.2.1, h.2.2.2.1),
  h.2.2.2.2,
)
a_step P (inr (inr (inr (inl h)))) = (RunStep.Drop h.0, h.1, h.2)
a_step P (inr (inr (inr (inr (inl h))))) = (RunStep.Fill h.0 h.2.0, (h.1, h.2.1), h.2.2)
a_step P (inr (inr (inr (inr (inr (inl h)))))) = (RunStep.Object h.0, h.1, h.2)
a_step P (inr (inr (inr (inr (inr (inr (inl h))))))) = (RunStep.Widen h.0 h.2.0, (h.1, h.2.1), h.2.2)
a_step P (inr (inr (inr (inr (inr (inr (inr (inl h)))))))) = (RunStep.FreeOwner h.0, h.1, h.2)
a_step P (inr (inr (inr (inr (inr (inr (inr (inr h)))))))) = (RunStep.FreeNumber h.0, h.1, h.2)

by_step : (P : RunStep → Type 0) (step : RunStep) → IsRunStepInRange step → P step → AStep P
by_step P (RunStep.Derive step) range p = inl (step.target, range.0, (step.source, range.1, (step.result, range.2, p)))
by_step P (RunStep.Exchange step) range p =
    inr (inl (step.target, range.0, (step.source, range.1, (step.special, range.2, (step.result, range.3, (step.special_result, range.4, p))))))
by_step P (RunStep.Invoke step) range p =
    inr (inr (inl (step.code, range.0, (step.datum, range.1, (step.code_word, range.2, (step.datum_word, range.3, p))))))
by_step P (RunStep.Drop place) range p = inr (inr (inr (inl (place, range, p))))
by_step P (RunStep.Fill granule word) range p = inr (inr (inr (inr (inl (granule, range.0, (word, range.1, p))))))
by_step P (RunStep.Object n) range p = inr (inr (inr (inr (inr (inl (n, range, p))))))
by_step P (RunStep.Widen n k) range p = inr (inr (inr (inr (inr (inr (inl (n, range.0, (k, range.1, p))))))))
by_step P (RunStep.FreeOwner n) range p = inr (inr (inr (inr (inr (inr (inr (inl (n, range, p))))))))
by_step P (RunStep.FreeNumber k) range p = inr (inr (inr (inr (inr (inr (inr (inr (k, range, p))))))))

run_steps : Searched RunStep IsRunStepInRange
run_steps P decided =
    alike (a_step P) (λ h. by_step P h.0 h.1 h.2)
    (either (run_registers 1 _ (λ t. run_registers 0 _ (λ s. caps _ (λ c. decided (RunStep.Derive (record { target = t; source = s; result = c }))))))
    (either (targets _ (λ t. registers _ (λ s. registers _ (λ n. caps _ (λ c. caps _ (λ d.
    decided (RunStep.Exchange (record { target = t; source = s; special = n; result = c; special_result = d }))))))))
    (either (registers _ (λ c. registers _ (λ d. words _ (λ w. words _ (λ v.
    decided (RunStep.Invoke (record { code = c; datum = d; code_word = w; datum_word = v })))))))
    (either (run_places _ (λ place. decided (RunStep.Drop place)))
    (either (below (2 ^ 60) _ (λ g. words _ (λ w. decided (RunStep.Fill g w))))
    (either (targets _ (λ n. decided (RunStep.Object n)))
    (either (targets _ (λ n. object_numbers _ (λ k. decided (RunStep.Widen n k))))
    (either (targets _ (λ n. decided (RunStep.FreeOwner n))) (object_numbers _ (λ k. decided (RunStep.FreeNumber k)))))))))))

-- Lines

module _ (bytes : List ℕ) where
  -- bytes are the text of a line, or not
  text_is : (line : RunLine) → Decided (bytes ≡ run_spelling line)
  text_is line = by_test (bytes_eq bytes (run_spelling line)) (bytes_eq-Decides bytes (run_spelling line))

  -- a line that only run logs have
  abbrev IsOwn : Type 0
  IsOwn =
      (bytes ≡ run_spelling RunLine.Version)
      ⊎ (((n : ℕ) × IsRegister n × ((word : Word) × IsWord word.0 × (bytes ≡ run_spelling (RunLine.Root (RunPlace.Special n) word))))
      ⊎ (((hart : ℕ) × IsHart hart × (bytes ≡ run_spelling (RunLine.Hart hart)))
      ⊎ ((step : RunStep) × IsRunStepInRange step × (bytes ≡ run_spelling (RunLine.Run step)))))

  own_decided : Decided IsOwn
  own_decided =
      either (text_is RunLine.Version)
      (either (registers _ (λ n. words _ (λ w. text_is (RunLine.Root (RunPlace.Special n) w))))
      (either (below (2 ^ 16) _ (λ hart. text_is (RunLine.Hart hart))) (run_steps _ (λ step. text_is (RunLine.Run step)))))

  own_line : IsOwn → (line : RunLine) × SpellsRun bytes line
  own_line (inl is) = (RunLine.Version, (tt, is))
  own_line (inr (inl h)) = (RunLine.Root (RunPlace.Special h.0) h.2.0, ((h.1, h.2.1), h.2.2))
  own_line (inr (inr (inl h))) = (RunLine.Hart h.0, (h.1, h.2))
  own_line (inr (inr (inr h))) = (RunLine.Run h.0, (h.1, h.2))

  -- it is neither of those nor one that logs have, too
  no_line : ((line : Line) → Spells bytes line → ⊥) → (IsOwn → ⊥) → (line : RunLine) → SpellsRun bytes line → ⊥
  no_line usual own RunLine.Version spells = own (inl spells.1)
  no_line usual own (RunLine.Root (RunPlace.Special n) word) spells = own (inr (inl (n, spells.0.0, (word, spells.0.1, spells.1))))
  no_line usual own (RunLine.Hart hart) spells = own (inr (inr (inl (hart, spells.0, spells.1))))
  no_line usual own (RunLine.Run step) spells = own (inr (inr (inr (step, spells.0, spells.1))))
  no_line usual own (RunLine.Plain version) spells = let l = read_alike bytes (RunLine.Plain version) spells tt in usual l.0 l.1
  no_line usual own (RunLine.Mode mode) spells = let l = read_alike bytes (RunLine.Mode mode) spells tt in usual l.0 l.1
  no_line usual own (RunLine.Root (RunPlace.General n) word) spells =
      let l = read_alike bytes (RunLine.Root (RunPlace.General n) word) spells tt in usual l.0 l.1
  no_line usual own (RunLine.Root (RunPlace.Granule n) word) spells =
      let l = read_alike bytes (RunLine.Root (RunPlace.Granule n) word) spells tt in usual l.0 l.1
  no_line usual own (RunLine.Step step) spells = let l = read_alike bytes (RunLine.Step step) spells tt in usual l.0 l.1
  no_line usual own (RunLine.End count) spells = let l = read_alike bytes (RunLine.End count) spells tt in usual l.0 l.1

  -- bytes spell a line of a run log, or none
  pub run_line_decided : ((line : RunLine) × SpellsRun bytes line) ⊎ ((line : RunLine) → SpellsRun bytes line → ⊥)
  run_line_decided = elim (line_decided bytes) [
    | inl found ↦ inl (as_run found.0, (spells_alike bytes found.0).0 found.1)
    | inr usual ↦ elim own_decided [
      | inl own ↦ inl (own_line own)
      | inr own ↦ inr (no_line usual own)
    ]
  ]
