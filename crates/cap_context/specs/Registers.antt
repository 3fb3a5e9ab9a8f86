-- The registers that a line of a log writes and reads, by its words. All of it is this profile's own.
use Rattle.std.specs.Prelude.{ℕ, zero, suc, Bool, false, ◌&&◌, ◌||◌, ◌==◌, nat_le, if◌then◌else◌, List, [], codes, bytes_eq, length}
use Rattle.cap_json.specs.Words.{begins, past, upto}

-- a word of a line, counted from 0
abbrev pub word_at : ℕ → List ℕ → List ℕ
word_at zero line = upto 32 line
word_at (suc n) line = word_at n (past 32 line)

-- a word of a log's line that names a register: c or scr, and a number
abbrev pub is_register : List ℕ → Bool
is_register word = (begins (codes "c") word && nat_le (length word) 3) || (begins (codes "scr") word && nat_le (length word) 5)

-- two words of a line begin a result: = and a tag
abbrev pub is_result : List ℕ → List ℕ → Bool
is_result mark tag = bytes_eq mark (codes "=") && length tag == 1

-- a line writes its first operand: a root, a drop, and a step that records a capability
abbrev pub writes_first : List ℕ → Bool
writes_first line =
    bytes_eq (word_at 0 line) (codes "root") || (bytes_eq (word_at 0 line) (codes "drop")
    || (is_result (word_at 3 line) (word_at 4 line) || is_result (word_at 4 line) (word_at 5 line)))

-- a line writes a register: that of its first operand; an exchange also the special register; an invoke scr0 and c31
abbrev pub writes : List ℕ → List ℕ → Bool
writes register line =
    let kind = word_at 0 line in
    if bytes_eq kind (codes "invoke") then bytes_eq register (codes "scr0") || bytes_eq register (codes "c31")
    else if writes_first line
    then bytes_eq register (word_at 1 line) || (bytes_eq kind (codes "exchange") && bytes_eq register (word_at 3 line))
    else false

-- the hart of the lines before any hart line
abbrev pub first_hart : List ℕ
first_hart = codes "0"

-- the hart after a line: the one that a hart line names, or else the hart before it
abbrev pub hart_after : List ℕ → List ℕ → List ℕ
hart_after hart line = if bytes_eq (word_at 0 line) (codes "hart") then word_at 1 line else hart

-- a register, and the hart whose it is
abbrev pub HartRegister : Type 0
HartRegister = List ℕ × List ℕ

-- a line of a hart writes a register of a hart
abbrev pub writes_of : HartRegister → List ℕ → List ℕ → Bool
writes_of register hart line = writes register.0 line && bytes_eq register.1 hart

-- the first operand of a line, if the line doesn't write it
abbrev pub first_read : List ℕ → List ℕ
first_read line = if writes_first line then [] else word_at 1 line
