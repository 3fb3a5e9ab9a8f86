-- What a judge asks decides which line is the first faulty one, and nothing else (this profile's own).
use Rattle.std.specs.Prelude.{◌≡◌, ◌⊎◌, ℕ, ◌<◌, true, false, List, Option, Some}
use Rattle.cap_run.specs.{Choices.{IsAfterHeld, IsAfterOwned, IsAfterUsed}, declared.{asks.Asks.Asks, ends.RunRefusal.RunRefusal}}
use Rattle.cap_run.specs.declared.ends.RunRefusal.TheVariants.{NotOwned, OwnerFreed, StillHeld}
use Rattle.cap_run_judge.specs.{declared.verdict.RunVerdict.{RunVerdict, TheVariants.{Yes, No}}, Verdicts.IsRunVerdict}

-- no line is faulty, or a later one, or this one for a later check
abbrev pub IsFaultyFrom : ℕ → (Option RunRefusal → Type 0) → RunVerdict → Type 0
IsFaultyFrom number IsAfter (Yes steps roots objects) = Unit {0}
IsFaultyFrom number IsAfter (No line refusal) = (number < line) ⊎ ((number ≡ line) × IsAfter (Some refusal))

-- the verdict is as without a check, or that check refuses a line from which on one would be faulty
abbrev pub IsFaultyEarlier : RunRefusal → (Option RunRefusal → Type 0) → RunVerdict → RunVerdict → Type 0
IsFaultyEarlier refusal IsAfter less more =
    (more ≡ less) ⊎ ((number : ℕ) × (more ≡ No number refusal) × IsFaultyFrom number IsAfter less)

-- the verdicts by two choices, of which the second asks for one check more
abbrev pub DiffersBy : RunRefusal → (Option RunRefusal → Type 0) → Asks → Asks → List ℕ → Type 0
DiffersBy refusal IsAfter less more bytes =
    (one two : RunVerdict) → IsRunVerdict less bytes one → IsRunVerdict more bytes two → IsFaultyEarlier refusal IsAfter one two

-- the verdicts with and without each check that is asked for
pub record VerdictsByChoice (asks : Asks) (bytes : List ℕ) : Type 0 where
  pub held : DiffersBy StillHeld IsAfterHeld (record asks { held = false }) (record asks { held = true }) bytes
  pub used : DiffersBy OwnerFreed (IsAfterUsed asks) (record asks { used = false }) (record asks { used = true }) bytes
  pub owned : DiffersBy NotOwned IsAfterOwned (record asks { owned = false }) (record asks { owned = true }) bytes
