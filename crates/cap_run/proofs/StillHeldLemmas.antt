-- An `object` line is refused as StillHeld just where it meets a freed object that a place holds.
use Rattle.std.proofs.Common.{inl, inr, ◌≡◌, ◌==◌, ◌&&◌, ◌∷◌, [], ℕ, Bool, true, false, IsTrue, not, nat_lt, nat_le, if◌then◌else◌, is_some, min, max, List, Option, Some, None, option_map, refl, sym, ap, subst, ◌∙◌, ne_eqb}
use Rattle.std.proofs.lemmas.{Bool.{false≢true}, Option.{none-some, same_Some}}
use Rattle.std.specs.Option.{option_map_or}
use Rattle.cap_bounds.specs.Bounds.{base_of, top_of}
use Rattle.cap_ops.specs.{Checks.first_of, declared.refusal.Refusal.TheVariants.{LimitPassed}}
use Rattle.cap_machine.specs.Accounts.{most_steps}
use Rattle.cap_objects.specs.{Counts.is_owner, declared.objects.Object.Object, Objects.{Share, top_of_extent}}
use Rattle.cap_run_log.specs.declared.lines.{RunLine.RunLine}
use Rattle.cap_run_log.specs.declared.lines.RunLine.TheVariants as lines
use Rattle.cap_run_log.specs.declared.lines.RunStep.TheVariants as steps
use Rattle.cap_run.specs.declared.{asks.Asks.Asks, ends.RunRefusal.RunRefusal}
use Rattle.cap_run.specs.declared.ends.RunRefusal.TheVariants.{AlreadyFreed, HasOwner, NoCapability, NoObject, Overlaps, StillHeld, Usual}
use Rattle.cap_run.specs.{Choices.IsAfterHeld, Descents.run_along, HeldExtents.{IsHeldExactly, MeetsHeld, extent_by}}
use Rattle.cap_run.specs.{ObjectSteps.{is_capability, object_refusal}, Run.Run}
use Rattle.cap_run.specs.RunChecks.{extent_end, growth_end, is_freed, is_live, line_end, meets, number_end}
use Rattle.cap_run.specs.RunSteps.{or_later, step_limit}
use Rattle.cap_run.proofs.ChoiceLemmas.{by_choice}
use Rattle.cap_run.proofs.MeetingLemmas.{meets-where, meets-which}
use Rattle.cap_run.proofs.NotHeldLemmas.{NotHeld, derive_end_not, end_not, exchange_end_not, fill_not, free_not, hart_not, invoke_end_not, limit_not, number_not, owner_end_not, refusal_not, root_not, usual_not}
use Rattle.cap_run.proofs.PresentLemmas.{AreCounted, all_counted, held_by}

never : (end : Option RunRefusal) → NotHeld end → end ≡ Some StillHeld → ⊥
never end not_held is = subst NotHeld is not_held

-- a refusal as StillHeld is of the check that may be so
later_is : (before after : Option RunRefusal) → NotHeld before → or_later before after ≡ Some StillHeld → after ≡ Some StillHeld
later_is None after not_held is = is
later_is (Some refusal) after not_held is = absurd (never (Some refusal) not_held is)

before_is : (before after : Option RunRefusal) → NotHeld after → or_later before after ≡ Some StillHeld → before ≡ Some StillHeld
before_is None after not_held is = absurd (never after not_held is)
before_is (Some refusal) after not_held is = is

extent_is : (live held freed : Bool) → first_of ((live, Overlaps) ∷ (held && freed, StillHeld) ∷ []) ≡ Some StillHeld → (held ≡ true) × (freed ≡ true)
extent_is true held freed is = absurd (never (Some Overlaps) tt is)
extent_is false true true is = (refl, refl)
extent_is false true false is = absurd (none-some StillHeld is)
extent_is false false freed is = absurd (none-some StillHeld is)

-- an end before StillHeld, after which the checks go on
abbrev Stops : Option RunRefusal → Type 0
Stops end = (refusal : RunRefusal) → end ≡ Some refusal → IsAfterHeld (Some refusal) → ⊥

goes_on : (before after : Option RunRefusal) → Stops before → IsAfterHeld (or_later before after) → (before ≡ None) × IsAfterHeld after
goes_on None after stops is = (refl, is)
goes_on (Some refusal) after stops is = absurd (stops refusal refl is)

refusal_if : (capability : Bool) (owner : Option ℕ) → Stops (if capability then (if is_some owner then Some HasOwner else None) else Some NoCapability)
refusal_if true None refusal is after = none-some refusal is
refusal_if true (Some number) refusal is after = subst IsAfterHeld (sym is) after
refusal_if false owner refusal is after = subst IsAfterHeld (sym is) after

number_if : (one two : Bool) → Stops (first_of ((one, NoObject) ∷ (two, AlreadyFreed) ∷ []))
number_if true two refusal is after = subst IsAfterHeld (sym is) after
number_if false true refusal is after = subst IsAfterHeld (sym is) after
number_if false false refusal is after = none-some refusal is

-- a line is refused as StillHeld where its interval meets a freed object that is held, and only there
record IsHeldHere (asks : Asks) (run : Run) (line : RunLine) : Type 0 where
  pub refused : (interval : ℕ × ℕ) → IsTrue asks.held → extent_by run line ≡ Some interval
      → IsAfterHeld (line_end (record asks { held = false }) run line) → MeetsHeld run interval → line_end asks run line ≡ Some StillHeld
  pub only : line_end asks run line ≡ Some StillHeld
      → IsTrue asks.held × ((interval : ℕ × ℕ) × (extent_by run line ≡ Some interval) × MeetsHeld run interval)

live_free : (freed : Bool) → (if not (not freed) then Some AlreadyFreed else None) ≡ None → freed ≡ false
live_free true free = absurd (none-some AlreadyFreed (sym free))
live_free false free = refl

number_live : (one : Bool) (found : Option Object) → first_of ((one, NoObject) ∷ (not (option_map_or is_live found false), AlreadyFreed) ∷ []) ≡ None
    → (object : Object) → found ≡ Some object → object.freed ≡ false
number_live true found free object is = absurd (none-some NoObject (sym free))
number_live false None free object is = absurd (none-some object is)
number_live false (Some other) free object is = subst (λ (o : Object). o.freed ≡ false) (same_Some other object is) (live_free other.freed free)

held_there : (live held freed limit : Bool)
    → IsAfterHeld (or_later (first_of ((live, Overlaps) ∷ (false && freed, StillHeld) ∷ [])) (if limit then Some (Usual LimitPassed) else None))
    → held ≡ true → freed ≡ true
    → or_later (first_of ((live, Overlaps) ∷ (held && freed, StillHeld) ∷ [])) (if limit then Some (Usual LimitPassed) else None) ≡ Some StillHeld
held_there false true true limit after held_is freed_is = refl
held_there true held freed limit after held_is freed_is = absurd after
held_there false false freed limit after held_is freed_is = absurd (false≢true held_is)
held_there false true false limit after held_is freed_is = absurd (false≢true freed_is)

-- an interval that meets a freed object meets one that is held
met_held : (run : Run) (left_out : Option ℕ) (base top : ℕ) → AreCounted run → meets run left_out is_freed base top ≡ true → MeetsHeld run (base, top)
met_held run left_out base top known is =
    let met = meets-which run left_out is_freed base top is in
    let here = met.2 in
    let holder_is = held_by run met.0 met.1 (known met.0 met.1 here.there) here.asked_is in
    record {
      number = met.0;
      object = met.1;
      there = here.there;
      freed = here.asked_is;
      holder = holder_is.0;
      holds = holder_is.1;
      share = here.share;
    }

held_met : (run : Run) (left_out : Option ℕ) (base top : ℕ) → AreCounted run → (it : MeetsHeld run (base, top)) → is_owner it.number left_out ≡ false
    → meets run left_out is_freed base top ≡ true
held_met run left_out base top known it apart =
    meets-where run left_out is_freed base top it.number it.object
    (record { there = it.there; few = (known it.number it.object it.there).few; other = apart; asked_is = it.freed; share = it.share })

module _ (asks : Asks) (run : Run) (known : AreCounted run) where
  extent_only : (left_out : Option ℕ) (base top : ℕ) → or_later (extent_end asks run left_out base top) (step_limit run) ≡ Some StillHeld
      → IsTrue asks.held × MeetsHeld run (base, top)
  extent_only left_out base top is =
      let both = extent_is (meets run left_out is_live base top) asks.held (meets run left_out is_freed base top)
      (before_is (extent_end asks run left_out base top) (step_limit run) (limit_not run) is) in
      (both.0, met_held run left_out base top known both.1)

  extent_refused : (left_out : Option ℕ) (base top : ℕ)
      → IsAfterHeld (or_later (extent_end (record asks { held = false }) run left_out base top) (step_limit run)) → IsTrue asks.held
      → (it : MeetsHeld run (base, top)) → is_owner it.number left_out ≡ false
      → or_later (extent_end asks run left_out base top) (step_limit run) ≡ Some StillHeld
  extent_refused left_out base top after asked it apart =
      held_there (meets run left_out is_live base top) asks.held (meets run left_out is_freed base top) (nat_le most_steps run.steps) after asked
      (held_met run left_out base top known it apart)

  object_held : (register : ℕ) → IsHeldHere asks run (lines.Run (steps.Object register))
  object_held register =
      let w = (run.state register).word.0 in
      let later_end : Asks → Option RunRefusal = λ (a : Asks). or_later (extent_end a run None (base_of w) (top_of w)) (step_limit run) in
      record {
        refused = λ interval asked there after it.
            let same = same_Some (base_of w, top_of w) interval there in
            let on = goes_on (object_refusal run register) (later_end (record asks { held = false }))
            (refusal_if (is_capability (run.state register)) (run.owners register)) after in
            ap (λ (before : Option RunRefusal). or_later before (later_end asks)) on.0
            ∙ extent_refused None (base_of w) (top_of w) on.1 asked (subst (MeetsHeld run) (sym same) it) refl;
        only = λ is.
            let held = extent_only None (base_of w) (top_of w) (later_is (object_refusal run register) (later_end asks) (refusal_not run register) is) in
            (held.0, ((base_of w, top_of w), refl, held.1));
      }

  -- the interval that an object's extent grows to
  abbrev grown : ℕ → Object → ℕ × ℕ
  grown w object = (min object.base (base_of w), max (top_of_extent object) (top_of w))

  abbrev growth_later : Asks → ℕ → ℕ → Option Object → Option RunRefusal
  growth_later a number w found = or_later (option_map_or (growth_end a run number w) found None) (step_limit run)

  growth_only : (number w : ℕ) (found : Option Object) → growth_later asks number w found ≡ Some StillHeld
      → IsTrue asks.held × ((interval : ℕ × ℕ) × (option_map (grown w) found ≡ Some interval) × MeetsHeld run interval)
  growth_only number w None is = absurd (never (step_limit run) (limit_not run) is)
  growth_only number w (Some object) is =
      let held = extent_only (Some number) (grown w object).0 (grown w object).1 is in
      (held.0, (grown w object, refl, held.1))

  growth_refused : (number w : ℕ) (found : Option Object) (interval : ℕ × ℕ) → option_map (grown w) found ≡ Some interval
      → IsAfterHeld (growth_later (record asks { held = false }) number w found) → IsTrue asks.held → (it : MeetsHeld run interval)
      → (it.number == number) ≡ false → growth_later asks number w found ≡ Some StillHeld
  growth_refused number w None interval there after asked it apart = absurd (none-some interval there)
  growth_refused number w (Some object) interval there after asked it apart =
      let same = same_Some (grown w object) interval there in
      extent_refused (Some number) (grown w object).0 (grown w object).1 after asked (record {
        number = it.number;
        object = it.object;
        there = it.there;
        freed = it.freed;
        holder = it.holder;
        holds = it.holds;
        share = subst (λ (i : ℕ × ℕ). Share i.0 i.1 it.object.base (top_of_extent it.object)) (sym same) it.share;
      }) apart

  widen_held : (register number : ℕ) → IsHeldHere asks run (lines.Run (steps.Widen register number))
  widen_held register number =
      let w = (run.state register).word.0 in
      let later_end : Asks → Option RunRefusal = λ (a : Asks). growth_later a number w (run.objects number) in
      record {
        refused = λ interval asked there after it.
            let on = goes_on (object_refusal run register) (or_later (number_end run number) (later_end (record asks { held = false })))
            (refusal_if (is_capability (run.state register)) (run.owners register)) after in
            let next = goes_on (number_end run number) (later_end (record asks { held = false }))
            (number_if (not (nat_lt 0 number && nat_le number run.count)) (not (option_map_or is_live (run.objects number) false))) on.1 in
            let apart = ne_eqb it.number number (λ same. false≢true (
            sym (number_live (not (nat_lt 0 number && nat_le number run.count)) (run.objects number) next.0 it.object (ap run.objects (sym same) ∙ it.there))
            ∙ it.freed)) in
            ap (λ (before : Option RunRefusal). or_later before (or_later (number_end run number) (later_end asks))) on.0
            ∙ ap (λ (before : Option RunRefusal). or_later before (later_end asks)) next.0
            ∙ growth_refused number w (run.objects number) interval there next.1 asked it apart;
        only = λ is.
            growth_only number w (run.objects number) (
            later_is (number_end run number) (later_end asks) (number_not run number)
            (later_is (object_refusal run register) (or_later (number_end run number) (later_end asks)) (refusal_not run register) is));
      }

  -- a line that makes no extent
  other_held : (line : RunLine) → extent_by run line ≡ None → NotHeld (line_end asks run line) → IsHeldHere asks run line
  other_held line none not_held = record {
    refused = λ interval asked there after it. absurd (none-some interval (sym none ∙ there));
    only = λ is. absurd (never (line_end asks run line) not_held is);
  }

  line_held : (line : RunLine) → IsHeldHere asks run line
  line_held lines.Version = other_held lines.Version refl tt
  line_held (lines.Mode mode) = other_held (lines.Mode mode) refl tt
  line_held (lines.Plain version) = other_held (lines.Plain version) refl tt
  line_held (lines.Root place word) = other_held (lines.Root place word) refl (root_not run place word)
  line_held (lines.Step step) = other_held (lines.Step step) refl (usual_not asks run step)
  line_held (lines.Hart hart) = other_held (lines.Hart hart) refl (hart_not run)
  line_held (lines.End count) = other_held (lines.End count) refl (end_not (count == run.steps))
  line_held (lines.Run (steps.Derive step)) = other_held (lines.Run (steps.Derive step)) refl (derive_end_not run step)
  line_held (lines.Run (steps.Exchange step)) = other_held (lines.Run (steps.Exchange step)) refl (exchange_end_not run step)
  line_held (lines.Run (steps.Invoke step)) = other_held (lines.Run (steps.Invoke step)) refl (invoke_end_not run step)
  line_held (lines.Run (steps.Drop place)) = other_held (lines.Run (steps.Drop place)) refl (limit_not run)
  line_held (lines.Run (steps.Fill granule word)) = other_held (lines.Run (steps.Fill granule word)) refl (fill_not _)
  line_held (lines.Run (steps.Object register)) = object_held register
  line_held (lines.Run (steps.Widen register number)) = widen_held register number
  line_held (lines.Run (steps.FreeOwner register)) = other_held (lines.Run (steps.FreeOwner register)) refl (owner_end_not run register)
  line_held (lines.Run (steps.FreeNumber number)) = other_held (lines.Run (steps.FreeNumber number)) refl (free_not run number)

-- where StillHeld isn't asked for, the checks after it are those that may refuse
after_held : (asks : Asks) (run : Run) (line : RunLine) → ((other : Asks) → IsHeldHere other run line) → IsTrue asks.held
    → line_end asks run line ≡ Some StillHeld → IsAfterHeld (line_end (record asks { held = false }) run line)
after_held asks run line exactly asked is =
    let with_it = ap (λ (h : Bool). line_end (record asks { held = h }) run line) (sym asked) ∙ is in
    elim (by_choice asks run line).held [
      | inl same ↦ absurd (false≢true ((exactly (record asks { held = false })).only (sym same ∙ with_it)).0)
      | inr later ↦ later.1
    ]

pub held_exactly : (asks : Asks) (before : List RunLine) (line : RunLine) → IsHeldExactly asks (run_along before) line
held_exactly asks before line =
    let run = run_along before in
    let exactly = λ (other : Asks). line_held other run (all_counted before) line in
    let here = exactly asks in
    record {
      refused = here.refused;
      only = λ is. let held = here.only is in (held.0, after_held asks run line exactly held.0 is, held.1);
    }
