-- What the operands of an order stand for, and which orders cannot be followed.
use Rattle.std.specs.Prelude.{◌≡◌, ℕ, ◌+◌, ◌^◌, ◌<◌, ◌≤◌, Bool, true, false, List, Option, Some, None}
use Rattle.cap_word.specs.{Digits.hex_digits, Memory.memory_of}
use Rattle.cap_texts.specs.TextLines.{bytes_text}
use Rattle.cap_program.specs.declared.faults.Fault.{Fault}
use Rattle.cap_program.specs.declared.faults.Fault.TheVariants.{BadWords, BadWord, BadRequest, Read, Write, NoMemory}
use Rattle.capcheck.specs.declared.words.Order.{Order, TheVariants.{Explain, Round, Judge, Vectors}}

-- a text spells a word of 128 bits: by its digits, or by those of its bytes in memory, in order of address
-- (this profile's own)
abbrev pub SpellsWord : Bool → List ℕ → ℕ → Type 0
SpellsWord false text w = text ≡ hex_digits 32 w
SpellsWord true text w = text ≡ bytes_text (memory_of w)

-- two words of sixteen digits spell a base and a length of 64 bits
pub record SpellsRequest (base_word length_word : List ℕ) (base length : ℕ) : Type 0 where
  pub base_fits : base < 2 ^ 64
  pub length_fits : length < 2 ^ 64
  pub base_is : base_word ≡ hex_digits 16 base
  pub length_is : length_word ≡ hex_digits 16 length

-- why two words are no request: they spell none, or one that ends above the address space (this
-- profile's own)
abbrev pub RefusesRequest : List ℕ → List ℕ → Fault → Type 0
RefusesRequest base_word length_word BadWord = (base length : ℕ) → SpellsRequest base_word length_word base length → ⊥
RefusesRequest base_word length_word BadRequest =
    (base : ℕ) × (length : ℕ) × SpellsRequest base_word length_word base length × (2 ^ 64 < base + length)
RefusesRequest base_word length_word BadWords = ⊥
RefusesRequest base_word length_word Read = ⊥
RefusesRequest base_word length_word Write = ⊥
RefusesRequest base_word length_word NoMemory = ⊥

-- no order, or one whose operands the program cannot follow (this profile's own)
abbrev pub IsFaulty : Option Order → Type 0
IsFaulty None = Unit {0}
IsFaulty (Some (Explain memory tag hex)) = (w : ℕ) → w < 2 ^ 128 → SpellsWord memory hex.now w → ⊥
IsFaulty (Some (Round base_word length_word)) =
    (base length : ℕ) → SpellsRequest base_word.now length_word.now base length → base + length ≤ 2 ^ 64 → ⊥
IsFaulty (Some (Judge origins file)) = ⊥
IsFaulty (Some (Vectors file)) = ⊥
