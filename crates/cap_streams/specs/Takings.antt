-- What the lines of a source are, call by call. All of it is this profile's own.
use Rattle.std.specs.Prelude.{◌≡◌, ◌≢◌, ℕ, Bool, true, false, List, [], ◌++◌, Option, None, Some, Result, Ok, Err}
use Rattle.cap_streams.specs.declared.{lines.{Front.Front, Lines.Lines, Next.Next}, sources.PullFault.PullFault}
use Rattle.cap_streams.specs.declared.lines.{Next.TheVariants.{Line, LineTooLong, Truncated, Finished}, Over.Over}
use Rattle.cap_streams.specs.{Front.{IsLine, IsTooLong, IsCut, IsFront}, ReadBuffers.items}
use Rattle.cap_streams.specs.declared.lines.Over.TheVariants as overs

-- the bytes that were pulled and not yet lent
abbrev pub kept : Lines → List ℕ
kept lines = items lines.pulled

-- why there are no more lines
abbrev pub over_of : Lines → Option Over
over_of lines = lines.over

-- the bytes kept grew by what the source gave, and begin with this front
pub record Found {S : Type 0} (gave : S → S → List ℕ → Type 0) (old new : S) (before after : List ℕ) (front : Front) : Type 0 where
  pub given : List ℕ
  pub gives : gave old new given
  pub all : after ≡ before ++ given
  pub front_is : IsFront after front

-- what comes next of these bytes, whether the source has ended, what stays kept, and why there are no more lines
abbrev pub IsNext : List ℕ → Bool → List ℕ → Option Over → Result Next PullFault → Type 0
IsNext bytes ended left over (Ok (Line text)) = IsLine bytes text.now left × (over ≡ None)
IsNext bytes ended left over (Ok LineTooLong) = IsTooLong bytes × (over ≡ Some overs.TooLong) × (left ≡ bytes)
IsNext bytes ended left over (Ok Truncated) =
    IsCut bytes × (bytes ≢ []) × (ended ≡ true) × (over ≡ Some overs.Truncated) × (left ≡ bytes)
IsNext bytes ended left over (Ok Finished) = (bytes ≡ []) × (ended ≡ true) × (over ≡ Some overs.Finished) × (left ≡ bytes)
IsNext bytes ended left over (Err fault) = IsCut bytes × (over ≡ Some overs.Failed) × (ended ≡ false) × (left ≡ bytes)

-- the answer of a call, of the bytes that were kept followed by those given in the call
pub record Answered {S : Type 0} (gave : S → S → List ℕ → Type 0) (ended : S → Bool) (old new : S) (before : List ℕ) (lines : Lines)
    (answer : Result Next PullFault) : Type 0 where
  pub given : List ℕ
  pub gives : gave old new given
  pub answers : IsNext (before ++ given) (ended new) (kept lines) (over_of lines) answer

-- the answer where there are no more lines
abbrev pub IsAgain : Over → Result Next PullFault → Type 0
IsAgain overs.Failed answer = (fault : PullFault) × (answer ≡ Err fault)
IsAgain overs.TooLong answer = answer ≡ Ok LineTooLong
IsAgain overs.Truncated answer = answer ≡ Ok Truncated
IsAgain overs.Finished answer = answer ≡ Ok Finished

-- once there are no more lines, nothing is pulled and the answer is the same
abbrev pub Again : {S : Type 0} → S → S → Lines → Lines → Result Next PullFault → Type 0
Again old new before after answer = (over : Over) → over_of before ≡ Some over → (new ≡ old) × (after ≡ before) × IsAgain over answer
