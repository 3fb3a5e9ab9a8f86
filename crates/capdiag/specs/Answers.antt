-- What the program prints for an order, and what belongs to the bytes that were given for it. All of it is this
-- profile's own.
use Rattle.std.specs.Prelude.{◌≡◌, ℕ, Bool, List, Option, Some, None, IfSome, option_map}
use Rattle.cap_program.specs.{declared.faults.Fault.{Fault, TheVariants.BadWords}, Commands.Meaning}
use Rattle.capdiag.specs.declared.orders.Order.{Order, TheVariants.{Help, Version, Judge}}
use Rattle.capdiag.specs.{Files.front_of, Forms.is_kept, Judgings.{PrintsJudged, ShowsJudged, StopsJudged, kind_of}}
use Rattle.capdiag.specs.{Renderings.{Lacks, Renders, RendersAll, name_of}, Showings.{help_text, version_line}}

-- the text that an order prints, and its status: those of the verdict on its bytes, as they are shown
abbrev pub Prints : Option Order → Option (List ℕ) → List ℕ → ℕ → Type 0
Prints None input text status = ⊥
Prints (Some Help) input text status = (text ≡ help_text) × (status ≡ 0)
Prints (Some Version) input text status = (text ≡ version_line) × (status ≡ 0)
Prints (Some (Judge judging form file files)) input text status =
    (bytes : List ℕ) × IfSome input (λ known. known ≡ bytes)
    × RendersAll form (name_of form.look files (option_map (λ it. it.now) file)) (kind_of judging) bytes (ShowsJudged judging) (PrintsJudged judging bytes) text status

-- an order that cannot be followed: there is none
abbrev pub IsFaulty : Option Order → Type 0
IsFaulty None = Unit {0}
IsFaulty (Some order) = ⊥

-- an order that reads an input: each that judges
abbrev pub ReadsInput : Option Order → Type 0
ReadsInput (Some (Judge judging form file files)) = Unit {0}
ReadsInput order = ⊥

-- the text that belongs to an order and the bytes given for it, and its status
abbrev pub Shows : Option Order → List ℕ → Bool → List ℕ → ℕ → Type 0
Shows None given ended text status = ⊥
Shows (Some Help) given ended text status = (text ≡ help_text) × (status ≡ 0)
Shows (Some Version) given ended text status = (text ≡ version_line) × (status ≡ 0)
Shows (Some (Judge judging form file files)) given ended text status =
    Renders form (name_of form.look files (option_map (λ it. it.now) file)) (kind_of judging) given (ShowsJudged judging given ended) text status

-- the fault that belongs to an order and the bytes given for it, but for one of the output
abbrev pub Fails : Option Order → List ℕ → Fault → Type 0
Fails None given BadWords = Unit {0}
Fails (Some (Judge judging form file files)) given fault = Lacks (is_kept form (name_of form.look files (option_map (λ it. it.now) file))) (ShowsJudged judging given) (StopsJudged judging given) fault
Fails order given fault = ⊥

-- what the orders of the program mean
abbrev pub order_meaning : Meaning Order
order_meaning = record {
  front = front_of;
  shows = Shows;
  fails = Fails;
  prints = Prints;
  is_faulty = IsFaulty;
  reads_input = ReadsInput;
}
