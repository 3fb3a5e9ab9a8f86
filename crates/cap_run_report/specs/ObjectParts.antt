-- The lines that show an object of a run, and which place holds it (this profile's own).
use Rattle.std.specs.{Bool.beq, Prelude.{◌≡◌, ◌⊎◌, ℕ, ◌+◌, ◌^◌, ◌≤◌, ◌<◌, Bool, true, false, if◌then◌else◌, not, nat_lt, ◌&&◌, List, [], ◌++◌}}
use Rattle.std.specs.Prelude.{Option, Some, None, codes, decimal}
use Rattle.cap_machine.specs.States.{granule_key}
use Rattle.cap_objects.specs.{Counts.is_owner, declared.objects.Object.Object, Moments.line_at}
use Rattle.cap_run_log.specs.declared.lines.RunPlace.{RunPlace, TheVariants.Granule}
use Rattle.cap_texts.specs.{CapLines.bounds_line, TextLines.text_line}
use Rattle.cap_run.specs.{HartPlaces.{place_in, place_numbered}, Harts.most_harts, Run.Run, RunChecks.shares}
use Rattle.cap_run_judge.specs.OwnerLists.{hart_place_spelling, object_line}
use Rattle.cap_run_report.specs.CapParts.{told_lines}

-- the line that freed an object, in a log with so many roots
abbrev pub freed_line : ℕ → Object → List ℕ
freed_line roots object = if object.freed then text_line (codes "freed") (decimal (line_at roots object.freed_at)) else []

-- an object owns a place, where a register is that of a hart
abbrev pub Owns : Run → ℕ → ℕ → RunPlace → Type 0
Owns run number hart place = run.owners (place_in run.harts hart place) ≡ Some number

-- it owns no register of a hart before one
abbrev pub OwnsNone : Run → ℕ → ℕ → ℕ → Type 0
OwnsNone run number hart before = (register : ℕ) → 1 ≤ register → register < before → Owns run number hart (place_numbered register) → ⊥

-- it owns no register of harts before one, and no granule before one
abbrev pub OwnsNoRegister : Run → ℕ → ℕ → Type 0
OwnsNoRegister run number before = (hart : ℕ) → hart < before → OwnsNone run number hart 64

abbrev pub OwnsNoGranule : Run → ℕ → ℕ → Type 0
OwnsNoGranule run number before = (granule : ℕ) → granule < before → run.owners (granule_key granule) ≡ Some number → ⊥

-- the first register of a hart that an object owns
abbrev pub IsFirstRegister : Run → ℕ → ℕ → RunPlace → Type 0
IsFirstRegister run number hart place =
    (register : ℕ) × (place ≡ place_numbered register) × Owns run number hart place × OwnsNone run number hart register

-- the first granule that it owns, where it owns no register: it is no hart's, and the current one stands for that
abbrev pub IsFirstGranule : Run → ℕ → ℕ → RunPlace → Type 0
IsFirstGranule run number hart place =
    (granule : ℕ) × (place ≡ Granule granule) × (hart ≡ (let harts = run.harts in harts.current)) × Owns run number hart place
    × OwnsNoRegister run number most_harts × OwnsNoGranule run number granule

-- the first place that it owns: by hart c1 to c31 and scr0 to scr31, then the granules by address
abbrev pub IsFirstHolder : Run → ℕ → ℕ × RunPlace → Type 0
IsFirstHolder run number found =
    (IsFirstRegister run number found.0 found.1 × OwnsNoRegister run number found.0) ⊎ IsFirstGranule run number found.0 found.1

-- no place is an object's
abbrev pub HasNoHolder : Run → ℕ → Type 0
HasNoHolder run number = OwnsNoRegister run number most_harts × OwnsNoGranule run number (2 ^ 60)

-- the first place that holds an object, with what it holds, if there is one
abbrev pub AreHolderLines : Run → ℕ → List ℕ → Type 0
AreHolderLines run number told =
    ((found : ℕ × RunPlace) × IsFirstHolder run number found
    × (told ≡ told_lines (codes "holder") (hart_place_spelling (let harts = run.harts in harts.current) found.0 found.1)
    (run.state (place_in run.harts found.0 found.1))))
    ⊎ (HasNoHolder run number × (told ≡ []))

-- an object: the line that lists it with the owners, the line that freed it, and the first place that holds it
abbrev pub AreObjectLines : Run → Object → List ℕ → Type 0
AreObjectLines run object told =
    (holder : List ℕ) × AreHolderLines run object.number holder × (told ≡ object_line run.roots object ++ (freed_line run.roots object ++ holder))

-- the object with a number, or that it is gone: it was freed, and no place holds it
abbrev pub AreNumberLines : Run → ℕ → List ℕ → Type 0
AreNumberLines run number told =
    ((object : Object) × (run.objects number ≡ Some object) × AreObjectLines run object told)
    ⊎ ((run.objects number ≡ None) × (told ≡ text_line (codes "gone") (decimal number)))

-- the object of this number, if one is meant
abbrev pub AreOwnerLines : Run → Option ℕ → List ℕ → Type 0
AreOwnerLines run None told = told ≡ []
AreOwnerLines run (Some number) told = AreNumberLines run number told

-- whether an interval shares an address with the extent of the object of a number, which is freed or live as asked, and
-- isn't left out
abbrev pub is_met : Option ℕ → Bool → ℕ → ℕ → ℕ → Object → Bool
is_met left_out freed base top number object =
    not (is_owner number left_out) && (beq freed object.freed && shares base top object)

-- of such objects whose numbers are below this one, there is none, or this one has the least base
abbrev pub MeetsNone : Run → Option ℕ → Bool → ℕ → ℕ → ℕ → Type 0
MeetsNone run left_out freed base top below =
    (other : ℕ) (it : Object) → other < below → run.objects other ≡ Some it → is_met left_out freed base top other it ≡ false

pub record IsLeastMet (run : Run) (left_out : Option ℕ) (freed : Bool) (base top below : ℕ) (object : Object) : Type 0 where
  pub number : ℕ
  pub there : run.objects number ≡ Some object
  pub meets : is_met left_out freed base top number object ≡ true
  pub least : (other : ℕ) (it : Object) → other < below → run.objects other ≡ Some it → is_met left_out freed base top other it ≡ true
      → object.base ≤ it.base

-- of what was found and one object more, if that is met, the one of the lesser base
abbrev pub lesser : Option Object → Object → Bool → Option Object
lesser found object false = found
lesser None object true = Some object
lesser (Some other) object true = if nat_lt object.base other.base then Some object else Some other

-- the object whose extent an interval shares an address with, of several that of the least base
abbrev pub AreMetLines : Run → Option ℕ → Bool → ℕ → ℕ → List ℕ → Type 0
AreMetLines run left_out freed base top told =
    ((object : Object) × IsLeastMet run left_out freed base top (run.count + 1) object × AreObjectLines run object told)
    ⊎ (MeetsNone run left_out freed base top (run.count + 1) × (told ≡ []))

-- an interval that can't be an extent, and the object that it meets
abbrev pub AreExtentLines : Run → Option ℕ → Bool → ℕ → ℕ → List ℕ → Type 0
AreExtentLines run left_out freed base top told =
    (met : List ℕ) × AreMetLines run left_out freed base top met × (told ≡ bounds_line (codes "extent") (codes " ") base top ++ met)
