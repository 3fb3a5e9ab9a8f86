-- What is asked decides which lines are allowed, and nothing else.
use Rattle.std.proofs.Common.{◌≡◌, ◌&&◌, ◌+◌, ◌++◌, ◌∷◌, [], ℕ, Bool, true, false, not, if◌then◌else◌, List, map, Option, Some, None, option_map, fold, length, refl, sym, ap, ◌∙◌, arith, inl, inr}
use Rattle.std.proofs.lemmas.{Bool.{false≢true}, Option.none-some}
use Rattle.std.specs.Option.{option_map_or}
use Rattle.cap_ops.specs.{Checks.first_of, declared.refusal.Refusal.{Refusal, TheVariants.{LimitPassed, WrongResult}}}
use Rattle.cap_log.specs.declared.kinds.Step.{Step}
use Rattle.cap_machine.specs.Accounts.{named_by, row_in}
use Rattle.cap_machine.specs.Steps.{agrees}
use Rattle.cap_objects.specs.declared.objects.Object.{Object}
use Rattle.cap_run_log.specs.declared.lines.{RunLine.RunLine, RunStep.RunStep}
use Rattle.cap_run_log.specs.declared.lines.RunLine.TheVariants as lines
use Rattle.cap_run_log.specs.declared.lines.RunStep.TheVariants as steps
use Rattle.cap_run.specs.declared.{asks.Asks.Asks, ends.RunRefusal.RunRefusal}
use Rattle.cap_run.specs.declared.ends.RunRefusal.TheVariants.{NotOwned, Overlaps, OwnerFreed, StillHeld, Usual}
use Rattle.cap_run.specs.{Allowed.{AreAllowed, IsLineAllowed}, Choices.{AsksNoMore, EndsByChoice, EndsEarlier, IsAfterHeld, IsAfterOwned, IsAfterUsed}}
use Rattle.cap_run.specs.Choices.{IsFirstRefused, IsRefusedFrom, RefusedByChoice, RefusedEarlier, first_refused, line_refusal}
use Rattle.cap_run.specs.{ObjectSteps.object_refusal, Run.Run, RunChanges.{account_in, line_after}, RunSteps.{or_later, step_limit}}
use Rattle.cap_run.specs.RunChecks.{asked_checks, extent_end, growth_end, is_freed, is_live, is_unowned, line_end, meets, number_end, passes_limit, uses_freed}

same : (refusal : RunRefusal) (IsAfter : Option RunRefusal → Type 0) (end : Option RunRefusal) → EndsEarlier refusal IsAfter end end
same refusal IsAfter end = inl refl

-- checks before
after_checks : (refusal : RunRefusal) (IsAfter : Option RunRefusal → Type 0) (checks less more later : List (Bool × RunRefusal))
    → EndsEarlier refusal IsAfter (first_of (less ++ later)) (first_of (more ++ later))
    → EndsEarlier refusal IsAfter (first_of ((checks ++ less) ++ later)) (first_of ((checks ++ more) ++ later))
after_checks refusal IsAfter [] less more later ends = ends
after_checks refusal IsAfter ((true, other) ∷ checks) less more later ends = inl refl
after_checks refusal IsAfter ((false, other) ∷ checks) less more later ends = after_checks refusal IsAfter checks less more later ends

after_refusal : (refusal : RunRefusal) (IsAfter : Option RunRefusal → Type 0) (before less more : Option RunRefusal)
    → EndsEarlier refusal IsAfter less more → EndsEarlier refusal IsAfter (or_later before less) (or_later before more)
after_refusal refusal IsAfter None less more ends = ends
after_refusal refusal IsAfter (Some other) less more ends = inl refl

limit_last : (wrong limit : Bool) → IsAfterOwned (first_of ((wrong, Usual WrongResult) ∷ (limit, Usual LimitPassed) ∷ []))
limit_last true limit = tt
limit_last false true = tt
limit_last false false = tt

owned_last : (asks : Asks) (owned other wrong limit : Bool) → asks.owned ≡ owned
    → IsAfterUsed asks (first_of ((owned && other, NotOwned) ∷ (wrong, Usual WrongResult) ∷ (limit, Usual LimitPassed) ∷ []))
owned_last asks true true wrong limit is = is
owned_last asks true false true limit is = tt
owned_last asks true false false true is = tt
owned_last asks true false false false is = tt
owned_last asks false other true limit is = tt
owned_last asks false other false true is = tt
owned_last asks false other false false is = tt

used_choice : (asks : Asks) (uses other wrong limit : Bool) → EndsEarlier OwnerFreed (IsAfterUsed asks)
    (first_of ((false && uses, OwnerFreed) ∷ (asks.owned && other, NotOwned) ∷ (wrong, Usual WrongResult) ∷ (limit, Usual LimitPassed) ∷ []))
    (first_of ((true && uses, OwnerFreed) ∷ (asks.owned && other, NotOwned) ∷ (wrong, Usual WrongResult) ∷ (limit, Usual LimitPassed) ∷ []))
used_choice asks true other wrong limit = inr (refl, owned_last asks asks.owned other wrong limit refl)
used_choice asks false other wrong limit = inl refl

owned_choice : (used other wrong limit : Bool) → EndsEarlier NotOwned IsAfterOwned
    (first_of ((used, OwnerFreed) ∷ (false && other, NotOwned) ∷ (wrong, Usual WrongResult) ∷ (limit, Usual LimitPassed) ∷ []))
    (first_of ((used, OwnerFreed) ∷ (true && other, NotOwned) ∷ (wrong, Usual WrongResult) ∷ (limit, Usual LimitPassed) ∷ []))
owned_choice true other wrong limit = inl refl
owned_choice false true wrong limit = inr (refl, limit_last wrong limit)
owned_choice false false wrong limit = inl refl

step_last : (limit : Bool) → IsAfterHeld (if limit then Some (Usual LimitPassed) else None)
step_last true = tt
step_last false = tt

held_choice : (live freed limit : Bool) → (let later = if limit then Some (Usual LimitPassed) else None in EndsEarlier StillHeld IsAfterHeld
    (or_later (first_of ((live, Overlaps) ∷ (false && freed, StillHeld) ∷ [])) later)
    (or_later (first_of ((live, Overlaps) ∷ (true && freed, StillHeld) ∷ [])) later))
held_choice true freed limit = inl refl
held_choice false true limit = inr (refl, step_last limit)
held_choice false false limit = inl refl

object_choice : (asks : Asks) (run : Run) (left_out : Option ℕ) (base top : ℕ) → EndsEarlier StillHeld IsAfterHeld
    (or_later (extent_end (record asks { held = false }) run left_out base top) (step_limit run))
    (or_later (extent_end (record asks { held = true }) run left_out base top) (step_limit run))
object_choice asks run left_out base top = held_choice (meets run left_out is_live base top) (meets run left_out is_freed base top) _

widen_choice : (asks : Asks) (run : Run) (number w : ℕ) (found : Option Object) → EndsEarlier StillHeld IsAfterHeld
    (or_later (option_map_or (growth_end (record asks { held = false }) run number w) found None) (step_limit run))
    (or_later (option_map_or (growth_end (record asks { held = true }) run number w) found None) (step_limit run))
widen_choice asks run number w None = inl refl
widen_choice asks run number w (Some object) = object_choice asks run (Some number) _ _

held_by_choice : (asks : Asks) (run : Run) (line : RunLine)
    → EndsEarlier StillHeld IsAfterHeld (line_end (record asks { held = false }) run line) (line_end (record asks { held = true }) run line)
held_by_choice asks run (lines.Run (steps.Object register)) =
    after_refusal StillHeld IsAfterHeld (object_refusal run register) _ _ (object_choice asks run None _ _)
held_by_choice asks run (lines.Run (steps.Widen register number)) =
    after_refusal StillHeld IsAfterHeld (object_refusal run register) _ _
    (after_refusal StillHeld IsAfterHeld (number_end run number) _ _ (widen_choice asks run number _ (run.objects number)))
held_by_choice asks run line = inl refl

-- the ends of steps that only runs have don't depend on what is asked of accesses
run_choice : (refusal : RunRefusal) (IsAfter : Option RunRefusal → Type 0) (held used owned other_used other_owned : Bool) (run : Run) (step : RunStep)
    → EndsEarlier refusal IsAfter (line_end (record { held = held; used = used; owned = owned }) run (lines.Run step))
    (line_end (record { held = held; used = other_used; owned = other_owned }) run (lines.Run step))
run_choice refusal IsAfter held used owned other_used other_owned run (steps.Drop place) = inl refl
run_choice refusal IsAfter held used owned other_used other_owned run step = inl refl

-- the last checks of a step of version 2
abbrev pub last_checks : Run → Step → List (Bool × RunRefusal)
last_checks run step =
    let row = row_in (account_in run) step in
    (not (agrees row.writes row.records), Usual WrongResult) ∷ (passes_limit run (named_by row), Usual LimitPassed) ∷ []

used_by_choice : (asks : Asks) (run : Run) (line : RunLine)
    → EndsEarlier OwnerFreed (IsAfterUsed asks) (line_end (record asks { used = false }) run line) (line_end (record asks { used = true }) run line)
used_by_choice asks run lines.Version = inl refl
used_by_choice asks run (lines.Mode mode) = inl refl
used_by_choice asks run (lines.Plain version) = inl refl
used_by_choice asks run (lines.Root place word) = inl refl
used_by_choice asks run (lines.Hart hart) = inl refl
used_by_choice asks run (lines.Step step) =
    let row = row_in (account_in run) step in
    after_checks OwnerFreed (IsAfterUsed asks) (map (λ (check : Bool × Refusal). (check.0, Usual check.1)) row.checks)
    (asked_checks (record asks { used = false }) run row.access) (asked_checks (record asks { used = true }) run row.access) (last_checks run step)
    (used_choice asks (option_map_or (uses_freed run) row.access false) (option_map_or (is_unowned run) row.access false)
    (not (agrees row.writes row.records)) (passes_limit run (named_by row)))
used_by_choice asks run (lines.Run step) = run_choice OwnerFreed (IsAfterUsed asks) asks.held false asks.owned true asks.owned run step
used_by_choice asks run (lines.End count) = inl refl

owned_by_choice : (asks : Asks) (run : Run) (line : RunLine)
    → EndsEarlier NotOwned IsAfterOwned (line_end (record asks { owned = false }) run line) (line_end (record asks { owned = true }) run line)
owned_by_choice asks run lines.Version = inl refl
owned_by_choice asks run (lines.Mode mode) = inl refl
owned_by_choice asks run (lines.Plain version) = inl refl
owned_by_choice asks run (lines.Root place word) = inl refl
owned_by_choice asks run (lines.Hart hart) = inl refl
owned_by_choice asks run (lines.Step step) =
    let row = row_in (account_in run) step in
    after_checks NotOwned IsAfterOwned (map (λ (check : Bool × Refusal). (check.0, Usual check.1)) row.checks)
    (asked_checks (record asks { owned = false }) run row.access) (asked_checks (record asks { owned = true }) run row.access) (last_checks run step)
    (owned_choice (asks.used && option_map_or (uses_freed run) row.access false) (option_map_or (is_unowned run) row.access false)
    (not (agrees row.writes row.records)) (passes_limit run (named_by row)))
owned_by_choice asks run (lines.Run step) = run_choice NotOwned IsAfterOwned asks.held asks.used false asks.used true run step
owned_by_choice asks run (lines.End count) = inl refl

pub by_choice : (asks : Asks) (run : Run) (line : RunLine) → EndsByChoice asks run line
by_choice asks run line =
    record { held = held_by_choice asks run line; used = used_by_choice asks run line; owned = owned_by_choice asks run line }

-- the same of why a line isn't allowed
refused_earlier : (refusal : RunRefusal) (IsAfter : Option RunRefusal → Type 0) (less more : Asks)
    → ((run : Run) (line : RunLine) → EndsEarlier refusal IsAfter (line_end less run line) (line_end more run line))
    → (run : Run) (line : RunLine) → EndsEarlier refusal IsAfter (line_refusal less run line) (line_refusal more run line)
refused_earlier refusal IsAfter less more ends run lines.Version = inl refl
refused_earlier refusal IsAfter less more ends run (lines.Mode mode) = inl refl
refused_earlier refusal IsAfter less more ends run (lines.Plain version) = ends run (lines.Plain version)
refused_earlier refusal IsAfter less more ends run (lines.Root place word) = ends run (lines.Root place word)
refused_earlier refusal IsAfter less more ends run (lines.Hart hart) = ends run (lines.Hart hart)
refused_earlier refusal IsAfter less more ends run (lines.Step step) = ends run (lines.Step step)
refused_earlier refusal IsAfter less more ends run (lines.Run step) = ends run (lines.Run step)
refused_earlier refusal IsAfter less more ends run (lines.End count) = ends run (lines.End count)

-- the first of lines that isn't allowed, by why the first line isn't, and the first of the others
abbrev first_or : Option RunRefusal → Option (ℕ × RunRefusal) → Option (ℕ × RunRefusal)
first_or refusal others = option_map_or (λ (r : RunRefusal). Some (0, r)) refusal (option_map (λ (first : ℕ × RunRefusal). (first.0 + 1, first.1)) others)

from_here : (IsAfter : Option RunRefusal → Type 0) (first : Option RunRefusal) (others : Option (ℕ × RunRefusal)) → IsAfter first
    → IsRefusedFrom 0 IsAfter (first_or first others)
from_here IsAfter (Some refusal) others after = inr (refl, after)
from_here IsAfter None None after = tt
from_here IsAfter None (Some other) after = inl (omega arith)

from_next : (IsAfter : Option RunRefusal → Type 0) (number : ℕ) (others : Option (ℕ × RunRefusal)) → IsRefusedFrom number IsAfter others
    → IsRefusedFrom (number + 1) IsAfter (first_or None others)
from_next IsAfter number None from = tt
from_next IsAfter number (Some other) (inl later) = inl (omega (arith, later))
from_next IsAfter number (Some other) (inr (is, after)) = inr (ap (λ (n : ℕ). n + 1) is, after)

joined : (refusal : RunRefusal) (IsAfter : Option RunRefusal → Type 0) (first first_more : Option RunRefusal) (others more : Option (ℕ × RunRefusal))
    → EndsEarlier refusal IsAfter first first_more → RefusedEarlier refusal IsAfter others more
    → RefusedEarlier refusal IsAfter (first_or first others) (first_or first_more more)
joined refusal IsAfter first first_more others more (inr (is, after)) rest =
    inr (0, ap (λ (f : Option RunRefusal). first_or f more) is, from_here IsAfter first others after)
joined refusal IsAfter first first_more others more (inl is) (inl same_rest) =
    inl (ap (λ (f : Option RunRefusal). first_or f more) is ∙ ap (first_or first) same_rest)
joined refusal IsAfter None first_more others more (inl is) (inr (number, more_is, from)) =
    inr (number + 1, ap (λ (f : Option RunRefusal). first_or f more) is ∙ ap (first_or None) more_is, from_next IsAfter number others from)
joined refusal IsAfter (Some other) first_more others more (inl is) (inr rest) = inl (ap (λ (f : Option RunRefusal). first_or f more) is)

earlier : (refusal : RunRefusal) (IsAfter : Option RunRefusal → Type 0) (less more : Asks)
    → ((run : Run) (line : RunLine) → EndsEarlier refusal IsAfter (line_end less run line) (line_end more run line))
    → (run : Run) (read : List RunLine) → RefusedEarlier refusal IsAfter (first_refused less run read) (first_refused more run read)
earlier refusal IsAfter less more ends run [] = inl refl
earlier refusal IsAfter less more ends run (line ∷ rest) =
    joined refusal IsAfter (line_refusal less run line) (line_refusal more run line) (first_refused less (line_after run line) rest)
    (first_refused more (line_after run line) rest) (refused_earlier refusal IsAfter less more ends run line)
    (earlier refusal IsAfter less more ends (line_after run line) rest)

pub refused_by_choice : (asks : Asks) (run : Run) (read : List RunLine) → RefusedByChoice asks run read
refused_by_choice asks run read = record {
  held = earlier StillHeld IsAfterHeld (record asks { held = false }) (record asks { held = true }) (held_by_choice asks) run read;
  used = earlier OwnerFreed (IsAfterUsed asks) (record asks { used = false }) (record asks { used = true }) (used_by_choice asks) run read;
  owned = earlier NotOwned IsAfterOwned (record asks { owned = false }) (record asks { owned = true }) (owned_by_choice asks) run read;
}

-- a line that is allowed with a check is allowed without it
free_before : (refusal : RunRefusal) (IsAfter : Option RunRefusal → Type 0) (less more : Option RunRefusal) → EndsEarlier refusal IsAfter less more
    → more ≡ None → less ≡ None
free_before refusal IsAfter less more (inl is) free = sym is ∙ free
free_before refusal IsAfter less more (inr (is, after)) free = absurd (none-some refusal (sym free ∙ is))

without_held : (held more used owned : Bool) (run : Run) (line : RunLine) → (held ≡ true → more ≡ true)
    → line_end (record { held = more; used = used; owned = owned }) run line ≡ None
    → line_end (record { held = held; used = used; owned = owned }) run line ≡ None
without_held true true used owned run line asked free = free
without_held true false used owned run line asked free = absurd (false≢true (asked refl))
without_held false false used owned run line asked free = free
without_held false true used owned run line asked free =
    free_before StillHeld IsAfterHeld _ _ (held_by_choice (record { held = true; used = used; owned = owned }) run line) free

without_used : (held used more owned : Bool) (run : Run) (line : RunLine) → (used ≡ true → more ≡ true)
    → line_end (record { held = held; used = more; owned = owned }) run line ≡ None
    → line_end (record { held = held; used = used; owned = owned }) run line ≡ None
without_used held true true owned run line asked free = free
without_used held true false owned run line asked free = absurd (false≢true (asked refl))
without_used held false false owned run line asked free = free
without_used held false true owned run line asked free =
    let asks : Asks = record { held = held; used = true; owned = owned } in
    free_before OwnerFreed (IsAfterUsed asks) _ _ (used_by_choice asks run line) free

without_owned : (held used owned more : Bool) (run : Run) (line : RunLine) → (owned ≡ true → more ≡ true)
    → line_end (record { held = held; used = used; owned = more }) run line ≡ None
    → line_end (record { held = held; used = used; owned = owned }) run line ≡ None
without_owned held used true true run line asked free = free
without_owned held used true false run line asked free = absurd (false≢true (asked refl))
without_owned held used false false run line asked free = free
without_owned held used false true run line asked free =
    free_before NotOwned IsAfterOwned _ _ (owned_by_choice (record { held = held; used = used; owned = true }) run line) free

free_with_less : (less more : Asks) (run : Run) (line : RunLine) → AsksNoMore less more → line_end more run line ≡ None → line_end less run line ≡ None
free_with_less less more run line asked free =
    without_held less.held more.held less.used less.owned run line asked.held
    (without_used more.held less.used more.used less.owned run line asked.used
    (without_owned more.held more.used less.owned more.owned run line asked.owned free))

allowed_with_less : (less more : Asks) (run : Run) (line : RunLine) → AsksNoMore less more → IsLineAllowed more run line → IsLineAllowed less run line
allowed_with_less less more run lines.Version asked allowed = tt
allowed_with_less less more run (lines.Mode mode) asked allowed = tt
allowed_with_less less more run (lines.Plain version) asked allowed = allowed
allowed_with_less less more run (lines.Root place word) asked allowed = allowed
allowed_with_less less more run (lines.Hart hart) asked allowed = allowed
allowed_with_less less more run (lines.Step step) asked allowed = free_with_less less more run (lines.Step step) asked allowed
allowed_with_less less more run (lines.Run step) asked allowed = free_with_less less more run (lines.Run step) asked allowed
allowed_with_less less more run (lines.End count) asked allowed = allowed

pub all_allowed_with_less : (less more : Asks) (run : Run) (read : List RunLine) → AsksNoMore less more → AreAllowed more run read → AreAllowed less run read
all_allowed_with_less less more run [] asked allowed = tt
all_allowed_with_less less more run (line ∷ rest) asked allowed =
    (allowed.0, allowed_with_less less more run line asked allowed.1, all_allowed_with_less less more (line_after run line) rest asked allowed.2)

-- an allowed line isn't refused
not_refused : (asks : Asks) (run : Run) (line : RunLine) → IsLineAllowed asks run line → line_refusal asks run line ≡ None
not_refused asks run lines.Version allowed = refl
not_refused asks run (lines.Mode mode) allowed = refl
not_refused asks run (lines.Plain version) allowed = allowed
not_refused asks run (lines.Root place word) allowed = allowed
not_refused asks run (lines.Hart hart) allowed = allowed
not_refused asks run (lines.Step step) allowed = allowed
not_refused asks run (lines.Run step) allowed = allowed
not_refused asks run (lines.End count) allowed = allowed

none_refused : (asks : Asks) (run : Run) (read : List RunLine) → AreAllowed asks run read → first_refused asks run read ≡ None
none_refused asks run [] allowed = refl
none_refused asks run (line ∷ rest) allowed =
    ap (λ (first : Option RunRefusal). first_or first (first_refused asks (line_after run line) rest)) (not_refused asks run line allowed.1)
    ∙ ap (first_or None) (none_refused asks (line_after run line) rest allowed.2)

refused_after : (asks : Asks) (run : Run) (before after : List RunLine) (line : RunLine) (refusal : RunRefusal) → AreAllowed asks run before
    → line_refusal asks (fold line_after run before) line ≡ Some refusal
    → first_refused asks run (before ++ line ∷ after) ≡ Some (length before, refusal)
refused_after asks run [] after line refusal allowed is =
    ap (λ (first : Option RunRefusal). first_or first (first_refused asks (line_after run line) after)) is
refused_after asks run (one ∷ before) after line refusal allowed is =
    ap (λ (first : Option RunRefusal). first_or first (first_refused asks (line_after run one) (before ++ line ∷ after))) (not_refused asks run one allowed.1)
    ∙ ap (first_or None) (refused_after asks (line_after run one) before after line refusal allowed.2 is)
    ∙ ap (λ (n : ℕ). Some (n, refusal)) (let e : length before + 1 ≡ length (one ∷ before) = omega arith in e)

pub is_first_refused : (asks : Asks) (run : Run) (before after : List RunLine) (line : RunLine) → IsFirstRefused asks run before after line
is_first_refused asks run before after line = record {
  none = none_refused asks run before;
  some = λ refusal allowed is. refused_after asks run before after line refusal allowed is;
}
