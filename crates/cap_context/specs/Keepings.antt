-- What is kept of the bytes that a source gave. All of it is this profile's own.
use Rattle.std.specs.Prelude.{◌≡◌, ℕ, ◌+◌, ◌≤◌, true, List, ◌++◌, length, Option, None, Some}
use Rattle.std.specs.{Global.Vec, List.AllByRecursion}
use Rattle.cap_json.specs.Words.{lines_of}
use Rattle.cap_context.specs.declared.keepings.Kept.{Kept}
use Rattle.cap_context.specs.{Contexts.{Entry, numbered}, Registers.{HartRegister, first_hart, is_register}, Writers.{hart_of, last_of, written}}

-- of the lines of the bytes that were given these were dropped, and the others are those of the rest, whatever bytes follow
pub record Keeps (skipped : ℕ) (hart : List ℕ) (written : HartRegister → Option Entry) (rest : List ℕ) (given : List ℕ) : Type 0 where
  pub dropped : List Entry
  pub lines : (more : List ℕ) → numbered 1 (lines_of (given ++ more)) ≡ dropped ++ numbered (skipped + 1) (lines_of (rest ++ more))
  pub count : length dropped ≡ skipped
  -- their numbers are the least, the hart after them is this, and for each register of a hart the last of them that wrote it is found
  pub least : AllByRecursion (λ entry. entry.0 ≤ skipped) dropped
  pub hart_is : hart ≡ hart_of dropped
  pub last : (register : HartRegister) → is_register register.0 ≡ true → (hart, written register) ≡ last_of register dropped

-- the hart after the lines that were dropped, of which nothing is kept if none of them named one
abbrev pub hart_kept : Option (Vec ℕ) → List ℕ
hart_kept None = first_hart
hart_kept (Some hart) = hart.items

-- what is kept of the bytes that were given, unless memory was refused
abbrev pub IsKept : Kept → List ℕ → Type 0
IsKept kept given = kept.is_whole ≡ true → Keeps kept.skipped (hart_kept kept.hart) (written kept.writers) kept.bytes.items given
