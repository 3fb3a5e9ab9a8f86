-- Why steps that hand out objects, widen and free them are refused, where objects are told by their numbers.
use Rattle.std.proofs.Common.{◌≡◌, ◌⊎◌, ◌<◌, ◌&&◌, not, nat_le, nat_lt, ℕ, Bool, true, false, Some, None, Option, inl, inr, length}
use Rattle.std.proofs.Common.{if◌then◌else◌, option_and_then, is_some, IsTrue, Err}
use Rattle.std.proofs.Common.{lt-ltb, le-leb, refl, sym, ap, subst, ◌∙◌, arith}
use Rattle.std.specs.{Cmp.Derive.both_true, Option.option_map_or}
use Rattle.std.proofs.lemmas.{Bool.{cases_Bool, lt-leb}}
use Rattle.cap_machine.specs.{Helds.Held}
use Rattle.cap_objects.specs.{Counts.{CountsAre}, declared.{handouts.Handouts.Handouts, objects.Object.Object}, HandoutsIn.objects_of}
use Rattle.cap_objects.specs.{Handed.{HasNoLive, IsLive, held_of}}
use Rattle.cap_objects.specs.declared.handouts.NumberFault.TheVariants as numbers
use Rattle.cap_run.specs.declared.{asks.Asks.Asks, ends.{RunEnd.{RunEnd, TheVariants.{NoMemory, Refused}}, RunRefusal.RunRefusal}, specials.Specials.Specials}
use Rattle.cap_run.specs.declared.ends.RunRefusal.TheVariants.{AlreadyFreed, HasOwner, NoCapability, NoObject, Overlaps, StillHeld, Usual}
use Rattle.cap_run.specs.{Numbers.{by_number, number_at, numbered_run}, Run.Run, RunChecks.{Answers, extent_end, is_live, number_end}}
use Rattle.cap_run.specs.ObjectSteps.{ExtentEnds, is_capability, object_refusal}
use Rattle.cap_run.specs.{RunOf.{run_of, run_owners, run_state}, RunSteps.{or_later, step_limit}}
use Rattle.cap_run.proofs.{ChangeLemmas.number-of, MeetLemmas.{extent-held, extent-overlaps, extent-room, first_check, no_check, second_check}, NumberLemmas.{at-number, slot-of}}
use Rattle.cap_run.proofs.{RunNumberLemmas.index_in, ObjectLemmas.{owner-there}}
use Rattle.cap_run.proofs.ObjectEnds.{NumberEnds}

-- what an end says of the refusal that a step ends with
abbrev pub EndsAs : Option RunRefusal → RunEnd → Type 0
EndsAs end (Refused refusal) = end ≡ Some refusal
EndsAs end NoMemory = end ≡ None

-- an answer that is no success
pub answers-end : (end : Option RunRefusal) (after : Run) (wants : Bool) (old new : Run) (it : RunEnd) → EndsAs end it → IsTrue wants → new ≡ old
    → Answers end after wants old (Err it) new
answers-end end after wants old new (Refused refusal) is wanted same = (is, same)
answers-end end after wants old new NoMemory is wanted same = (is, wanted, same)

pub later : (one two : Option RunRefusal) (end : RunEnd) → one ≡ None → EndsAs two end → EndsAs (or_later one two) end
later one two end is ends = subst (λ (o : Option RunRefusal). EndsAs (or_later o two) end) (sym is) ends

pub first : (one two : Option RunRefusal) (refusal : RunRefusal) → one ≡ Some refusal → or_later one two ≡ Some refusal
first one two refusal is = ap (λ (o : Option RunRefusal). or_later o two) is

-- neither of two refusals comes
pub neither : (one two : Option RunRefusal) → one ≡ None → two ≡ None → or_later one two ≡ None
neither one two is is2 = ap (λ (o : Option RunRefusal). or_later o two) is ∙ is2

none_of : (b : Bool) → (b && false) ≡ false
none_of true = refl
none_of false = refl

none_live : (found : Option Object) → ((o : Object) → found ≡ Some o → o.freed ≡ false → ⊥) → option_map_or is_live found false ≡ false
none_live None none = refl
none_live (Some o) none = elim (cases_Bool o.freed) [
  | inl freed ↦ ap not freed
  | inr live ↦ absurd (none o refl live)
]

module _ (held : Held) (specials : Specials) (h : Handouts) (sized : length specials.registers.labels ≡ 32)
    (counts : CountsAre (run_owners held specials) (λ n. held_of (objects_of h n))) (asks : Asks) (keeps : h.keeps ≡ asks.held) where
  there : (key slot : ℕ) → run_owners held specials key ≡ Some slot → (o : Object) × (objects_of h slot ≡ Some o)
  there key slot is = let o = owner-there held specials (objects_of h) sized counts key slot is in (o.0, o.1)

  -- the number of an owner
  owner-number : (key : ℕ) (owner : Option ℕ) → run_owners held specials key ≡ owner
      → (owner ≡ None) ⊎ ((slot : ℕ) × (o : Object) × (owner ≡ Some slot) × (objects_of h slot ≡ Some o)
      × (option_and_then (number_at (objects_of h)) owner ≡ Some o.number))
  owner-number key None is = inl refl
  owner-number key (Some slot) is =
      let o = there key slot is in
      inr (slot, o.0, refl, o.1, number-of (objects_of h) slot o.0 o.1)

  -- a register has an owner by number where it has one by slot
  pub refusal-number : (register : ℕ) → object_refusal (numbered_run held specials h) register ≡ object_refusal (run_of held specials h) register
  refusal-number register =
      ap (λ (b : Bool). if is_capability (run_state held specials register) then (if b then Some HasOwner else None) else Some NoCapability)
      (elim (owner-number register (run_owners held specials register) refl) [
        | inl none ↦ ap (λ (o : Option ℕ). is_some (option_and_then (number_at (objects_of h)) o)) none ∙ sym (ap is_some none)
        | inr it ↦ ap is_some it.4 ∙ sym (ap is_some it.2)
      ])

  -- how an extent ends, where the left out object has this number
  pub extent-ends : (left_slot left_number : Option ℕ)
      → ((slot : ℕ) (o : Object) → objects_of h slot ≡ Some o → left_number ≡ Some o.number → left_slot ≡ Some slot)
      → ((slot : ℕ) (o : Object) → objects_of h slot ≡ Some o → left_slot ≡ Some slot → left_number ≡ Some o.number)
      → (base top : ℕ) (end : RunEnd) → ExtentEnds (run_of held specials h) asks.held left_slot base top end
      → EndsAs (or_later (extent_end asks (numbered_run held specials h) left_number base top) (step_limit (numbered_run held specials h))) end
  extent-ends left_slot left_number to_slot of_slot base top (Refused Overlaps) is =
      first _ (step_limit (numbered_run held specials h)) Overlaps
      (extent-overlaps (numbered_run held specials h) (objects_of h) (index_in h) h.kept.numbered refl h.kept.few h.kept.long asks left_slot left_number
      to_slot of_slot base top is.0 is.1)
  extent-ends left_slot left_number to_slot of_slot base top (Refused StillHeld) is =
      first _ (step_limit (numbered_run held specials h)) StillHeld
      (extent-held (numbered_run held specials h) (objects_of h) (index_in h) h.kept.numbered refl h.kept.few h.kept.long asks left_slot left_number
      to_slot of_slot base top is.0 is.1)
  extent-ends left_slot left_number to_slot of_slot base top (Refused (Usual refusal)) is =
      later _ (step_limit (numbered_run held specials h)) (Refused (Usual refusal))
      (extent-room (numbered_run held specials h) (objects_of h) (index_in h) h.kept.numbered refl h.kept.few h.kept.long asks left_slot left_number
      to_slot of_slot base top is.0) is.1
  extent-ends left_slot left_number to_slot of_slot base top NoMemory is =
      later _ (step_limit (numbered_run held specials h)) NoMemory
      (extent-room (numbered_run held specials h) (objects_of h) (index_in h) h.kept.numbered refl h.kept.few h.kept.long asks left_slot left_number
      to_slot of_slot base top is.0) is.1
  extent-ends left_slot left_number to_slot of_slot base top (Refused refusal) is = absurd is

  -- why a number is that of no live object
  number-known : (number slot : ℕ) (o : Object) → objects_of h slot ≡ Some o → o.number ≡ number
      → not (nat_lt 0 number && nat_le number h.count) ≡ false
  number-known number slot o is same =
      let some = h.kept.some slot o is in
      let few = h.kept.few slot o is in
      ap not (both_true (lt-ltb 0 number (omega (arith, some, same))) (le-leb number h.count (omega (arith, few, same))))

  at_number : (number slot : ℕ) (o : Object) → objects_of h slot ≡ Some o → o.number ≡ number
      → option_map_or is_live (by_number (index_in h) (objects_of h) number) false ≡ not o.freed
  at_number number slot o is same =
      ap (λ (p : Option Object). option_map_or is_live p false)
      (ap (by_number (index_in h) (objects_of h)) (sym same) ∙ at-number (objects_of h) (index_in h) h.kept.numbered slot o is)

  pub live-number : (number slot : ℕ) → IsLive (objects_of h) number slot → number_end (numbered_run held specials h) number ≡ None
  live-number number slot live =
      no_check (not (nat_lt 0 number && nat_le number h.count)) (not (option_map_or is_live (by_number (index_in h) (objects_of h) number) false))
      NoObject AlreadyFreed (number-known number slot live.object live.there live.number)
      (ap not (at_number number slot live.object live.there live.number ∙ ap not live.live))

  pub freed-number-end : (number slot : ℕ) (o : Object) → objects_of h slot ≡ Some o → o.number ≡ number → o.freed ≡ true
      → number_end (numbered_run held specials h) number ≡ Some AlreadyFreed
  freed-number-end number slot o is same freed =
      second_check (not (nat_lt 0 number && nat_le number h.count)) (not (option_map_or is_live (by_number (index_in h) (objects_of h) number) false))
      NoObject AlreadyFreed (number-known number slot o is same) (ap not (at_number number slot o is same ∙ ap not freed))

  pub no-live : (number : ℕ) → HasNoLive h.count (objects_of h) number numbers.AlreadyFreed
      → number_end (numbered_run held specials h) number ≡ Some AlreadyFreed
  no-live number none =
      second_check (not (nat_lt 0 number && nat_le number h.count)) (not (option_map_or is_live (by_number (index_in h) (objects_of h) number) false))
      NoObject AlreadyFreed (ap not (both_true (lt-ltb 0 number none.0) (le-leb number h.count none.1)))
      (ap not (none_live (by_number (index_in h) (objects_of h) number) (λ o is live.
      let at = slot-of (objects_of h) (index_in h) h.kept.numbered number o is in
      none.2 at.0 (record { object = o; there = at.1; number = at.2; live = live }))))

  pub no-object : (number : ℕ) → HasNoLive h.count (objects_of h) number numbers.NoObject
      → number_end (numbered_run held specials h) number ≡ Some NoObject
  no-object number none =
      first_check (not (nat_lt 0 number && nat_le number h.count)) (not (option_map_or is_live (by_number (index_in h) (objects_of h) number) false))
      NoObject AlreadyFreed (ap not (never number none))
    where
      never : (number : ℕ) → (number ≡ 0) ⊎ (h.count < number) → (nat_lt 0 number && nat_le number h.count) ≡ false
      never number (inl zero_is) = ap (λ (n : ℕ). nat_lt 0 n && nat_le n h.count) zero_is
      never number (inr past) = ap (λ (b : Bool). nat_lt 0 number && b) (lt-leb number h.count past) ∙ none_of (nat_lt 0 number)

  pub number-ends : (number : ℕ) (rest : Option RunRefusal) (end : RunEnd) → NumberEnds (run_of held specials h) number end
      → EndsAs (or_later (number_end (numbered_run held specials h) number) rest) end
  number-ends number rest (Refused NoObject) is = first _ rest NoObject (no-object number is)
  number-ends number rest (Refused AlreadyFreed) is = first _ rest AlreadyFreed (no-live number is)
  number-ends number rest (Refused refusal) is = absurd is
  number-ends number rest NoMemory is = absurd is
