-- What the orders of a program mean. All of it is this profile's own.
use Rattle.std.specs.{Prelude.{◌≡◌, ◌≤◌, ◌↔◌, ℕ, Bool, true, List, [], Option, Some}, Io.KnownBytes.Consumes}
use Rattle.cap_program.specs.{declared.faults.Fault.Fault, Faults.status_of}

-- for an order, or none: what the line of a fault begins with, the program's name and what the fault is of; the text that belongs
-- to the order and the bytes given for it, with its status; the fault that belongs to them, but for one of the output; the text
-- that it prints for an input, with its status; whether it cannot be followed; and whether it reads an input
pub record Meaning (C : Type 0) : Type 1 where
  pub front : Option C → Fault → List ℕ
  pub shows : Option C → List ℕ → Bool → List ℕ → ℕ → Type 0
  pub fails : Option C → List ℕ → Fault → Type 0
  pub prints : Option C → Option (List ℕ) → List ℕ → ℕ → Type 0
  pub is_faulty : Option C → Type 0
  pub reads_input : Option C → Type 0

-- a text that belongs to the bytes given is printed for an input that gave them, at status 0 or 1, for an order that
-- can be followed; and a fault has status 2 just where the order can't be
pub record IsMeant {C : Type 0} (m : Meaning C) : Type 0 where
  pub known : (order : Option C) (left rest : Option (List ℕ)) (given : List ℕ) (ended : Bool) (text : List ℕ) (status : ℕ)
      → Consumes left rest given → (ended ≡ true → (xs : List ℕ) → rest ≡ Some xs → xs ≡ []) → m.shows order given ended text status
      → m.prints order left text status
  pub few : (order : Option C) (given : List ℕ) (ended : Bool) (text : List ℕ) (status : ℕ) → m.shows order given ended text status → status ≤ 1
  pub unfaulty : (order : Option C) (given : List ℕ) (ended : Bool) (text : List ℕ) (status : ℕ) → m.shows order given ended text status
      → m.is_faulty order → ⊥
  pub asked : (order : Option C) (given : List ℕ) (fault : Fault) → m.fails order given fault → (status_of fault ≡ 2) ↔ m.is_faulty order
