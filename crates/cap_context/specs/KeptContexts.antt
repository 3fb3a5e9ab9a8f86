-- The context of a line in what is kept. All of it is this profile's own.
use Rattle.std.specs.Prelude.{ℕ, ◌||◌, if◌then◌else◌, List, [], ◌++◌, bytes_eq, Option}
use Rattle.cap_context.specs.{Contexts.{Entry, hart_at, last_writer, text_at, wrote_line}, Registers.{HartRegister, first_read, is_register, word_at}}

-- the line of a report for an operand of a line, if it is a register: one of the line's own hart, after the hart before the lines
abbrev pub kept_wrote : List ℕ → ℕ → List ℕ → (HartRegister → Option Entry) → List Entry → List ℕ
kept_wrote word line before written entries =
    let hart = hart_at line before entries in
    if is_register word then wrote_line word (last_writer (word, hart) line (before, written (word, hart)) entries).1 else []

-- those lines for the registers that a line reads, in the order of its operands, each once
abbrev pub kept_wrote_lines : ℕ → List ℕ → (HartRegister → Option Entry) → List Entry → List ℕ
kept_wrote_lines line before written entries =
    let text = text_at line [] entries in
    let first = first_read text in
    let second = word_at 2 text in
    let third = word_at 3 text in
    kept_wrote first line before written entries
    ++ (if bytes_eq second first then [] else kept_wrote second line before written entries)
    ++ (if bytes_eq third first || bytes_eq third second then [] else kept_wrote third line before written entries)
