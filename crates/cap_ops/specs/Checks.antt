-- Lists of checks: each a test and a refusal. A check fails if its test is true (this profile's own).
use Rattle.std.specs.Prelude.{◌≡◌, Bool, List, [], ◌∷◌, Option, Some, None, if◌then◌else◌, Result, MatchResult}
use Rattle.cap_ops.specs.{declared.{faults.OpFault.OpFault, refusal.Refusal.Refusal}, Refusals.refusal_of}

-- the refusal of the first check that fails
abbrev pub first_of : {F : Type 0} → List (Bool × F) → Option F
first_of [] = None
first_of (check ∷ checks) = if check.0 then Some check.1 else first_of checks

-- how a call ends that makes these checks: it gives such a value and none fails, or the fault of the first that fails
abbrev pub Ends : {A : Type 0} → Result A OpFault → List (Bool × Refusal) → (A → Type 0) → Type 0
Ends result checks IsGiven =
    MatchResult result (λ value. (first_of checks ≡ None) × IsGiven value) (λ fault. first_of checks ≡ Some (refusal_of fault))
