-- The objects of a run are present, and their counts are those of the places that they own.
use Rattle.std.proofs.Common.{◌≡◌, ◌||◌, ◌+◌, ◌<◌, ◌≤◌, ◌∷◌, [], ℕ, Bool, true, not, nat_lt, List, Option, Some, None, option_map, option_and_then, refl, sym, ap, subst, ◌∙◌, arith, inl, inr, eqb-true}
use Rattle.std.proofs.lemmas.{Bool.{cases_Bool, cond-true, cond-false, false≢true, ltb-true}, Option.{none-some, same_Some}}
use Rattle.cap_objects.specs.{Counts.{is_owner, most_places, owned_by}, declared.objects.Object.Object, Extents.{is_present}}
use Rattle.cap_objects.specs.{Handed.{freed_in, with_held}, Indexes.kept}
use Rattle.cap_run_log.specs.declared.lines.{RunLine.RunLine, RunStep.RunStep}
use Rattle.cap_run_log.specs.declared.lines.RunLine.TheVariants as lines
use Rattle.cap_run_log.specs.declared.lines.RunStep.TheVariants as steps
use Rattle.cap_run.specs.{Descents.run_along, Run.{Run, moment}, RunChanges.{line_after, no_run, run_after, stepped, with_freed, with_object}}
use Rattle.cap_run.proofs.{DescentLemmas.{along, along-fold}, HartLemmas.owned-moved, MeetingLemmas.below-which, OwnerLemmas.either-key}

-- an object's number is one of those handed out; it is present, and its count is that of the places that it owns
pub record IsCounted (run : Run) (number : ℕ) (object : Object) : Type 0 where
  pub few : number ≤ run.count
  pub present : is_present object ≡ true
  pub held : object.held ≡ owned_by run.owners number

abbrev pub AreCounted : Run → Type 0
AreCounted run = (number : ℕ) (object : Object) → run.objects number ≡ Some object → IsCounted run number object

-- the numbers of objects are among those handed out
abbrev pub AreFew : Run → Type 0
AreFew run = (number : ℕ) (object : Object) → run.objects number ≡ Some object → number ≤ run.count

counted_one : (was : Option Object) (count : ℕ) (object : Object) → option_and_then (λ o. kept (with_held o count)) was ≡ Some object
    → (x : Object) × (was ≡ Some x) × (object.held ≡ count) × (is_present object ≡ true)
counted_one None count object is = absurd (none-some object is)
counted_one (Some x) count object is = elim (cases_Bool (is_present (with_held x count))) [
  | inl there ↦
      let same = same_Some (with_held x count) object
      (sym (cond-true (is_present (with_held x count)) (Some (with_held x count)) None there) ∙ is) in
      (x, refl, ap (λ (o : Object). o.held) (sym same), ap is_present (sym same) ∙ there)
  | inr gone ↦ absurd (none-some object (sym (cond-false (is_present (with_held x count)) (Some (with_held x count)) None gone) ∙ is))
]

stepped_counted : (run : Run) → AreFew run → AreCounted (stepped run)
stepped_counted run few number object is =
    let was = counted_one (run.objects number) (owned_by run.owners number) object is in
    record { few = few number was.0 was.1; present = was.3; held = was.2 }

-- an object in the place of another
mapped_one : (f : Object → Object) (was : Option Object) (object : Object) → option_map f was ≡ Some object → (x : Object) × (was ≡ Some x)
mapped_one f None object is = absurd (none-some object is)
mapped_one f (Some x) object is = (x, refl)

changed_few : (run : Run) (number : ℕ) (f : Object → Object) → AreFew run → AreFew (with_object run number (option_map f (run.objects number)))
changed_few run number f few other object is = elim (either-key run.objects number (option_map f (run.objects number)) other) [
  | inl here ↦
      let was = mapped_one f (run.objects number) object (sym here.1 ∙ is) in
      subst (λ (n : ℕ). n ≤ run.count) here.0 (few number was.0 was.1)
  | inr away ↦ few other object (sym away.1 ∙ is)
]

added_few : (run : Run) (added : Object) (other : ℕ) (object : Object) → AreFew run
    → (with_object run (run.count + 1) (Some added)).objects other ≡ Some object → other ≤ run.count + 1
added_few run added other object few is = elim (either-key run.objects (run.count + 1) (Some added) other) [
  | inl here ↦ let same = here.0 in omega (arith, same)
  | inr away ↦ let low = few other object (sym away.1 ∙ is) in omega (arith, low)
]

pub few_of : (run : Run) → AreCounted run → AreFew run
few_of run known number object is = (known number object is).few

freed_counted : (run : Run) (owner : Option ℕ) → AreCounted run → AreCounted (with_freed run owner)
freed_counted run None known = known
freed_counted run (Some number) known =
    stepped_counted (with_object run number (option_map (freed_in (moment run)) (run.objects number))) (changed_few run number _ (few_of run known))

run_counted : (run : Run) (step : RunStep) → AreCounted run → AreCounted (run_after run step)
run_counted run (steps.Object register) known = stepped_counted _ (λ other object is. added_few run _ other object (few_of run known) is)
run_counted run (steps.Widen register number) known = stepped_counted _ (changed_few run number _ (few_of run known))
run_counted run (steps.FreeOwner register) known = freed_counted run (run.owners register) known
run_counted run (steps.FreeNumber number) known = freed_counted run (Some number) known
run_counted run step known = stepped_counted _ (few_of run known)

pub line_counted : (run : Run) (line : RunLine) → AreCounted run → AreCounted (line_after run line)
line_counted run lines.Version known = known
line_counted run (lines.Plain version) known = known
line_counted run (lines.Mode mode) known =
    λ number object is. let k = known number object is in record { few = k.few; present = k.present; held = k.held }
line_counted run (lines.Root place word) known =
    λ number object is. let k = known number object is in record { few = k.few; present = k.present; held = k.held }
line_counted run (lines.Hart hart) known = λ number object is.
    let k = known number object is in
    record { few = k.few; present = k.present; held = k.held ∙ sym (owned-moved run.owners run.harts.current hart number) }
line_counted run (lines.Step step) known = stepped_counted _ (few_of run known)
line_counted run (lines.Run step) known = run_counted run step known
line_counted run (lines.End count) known = known

counted_along : (run : Run) (read : List RunLine) → AreCounted run → AreCounted (along run read)
counted_along run [] known = known
counted_along run (line ∷ rest) known = counted_along (line_after run line) rest (line_counted run line known)

pub none_counted : AreCounted no_run
none_counted number object is = absurd (none-some object is)

pub all_counted : (read : List RunLine) → AreCounted (run_along read)
all_counted read = subst AreCounted (sym (along-fold no_run read)) (counted_along no_run read none_counted)

owner_is : (number : ℕ) (owner : Option ℕ) → is_owner number owner ≡ true → owner ≡ Some number
owner_is number None is = absurd (false≢true is)
owner_is number (Some other) is = ap Some (sym (eqb-true number other is))

-- a present object that was freed is held
pub held_by : (run : Run) (number : ℕ) (object : Object) → IsCounted run number object → object.freed ≡ true
    → (holder : ℕ) × (run.owners holder ≡ Some number)
held_by run number object known freed =
    let some : nat_lt 0 object.held ≡ true = ap (λ (b : Bool). not b || nat_lt 0 object.held) (sym freed) ∙ known.present in
    let count = ltb-true 0 object.held some in
    let there = below-which (λ key. is_owner number (run.owners key)) most_places (subst (λ (n : ℕ). 0 < n) known.held count) in
    (there.0, owner_is number (run.owners there.0) there.2)
