-- The context of a line that is refused, as lines of a report. All of it is this profile's own.
use Rattle.std.specs.Prelude.{ℕ, ◌+◌, ◌-◌, ◌*◌, ◌^◌, min, ◌&&◌, ◌||◌, ◌==◌, nat_le, nat_lt, if◌then◌else◌}
use Rattle.std.specs.Prelude.{List, [], ◌∷◌, ◌++◌, codes, decimal, drop, flat_map, fold, bytes_eq, Option, None, Some}
use Rattle.cap_json.specs.Words.{begins, lines_of, upto}
use Rattle.cap_context.specs.Registers.{HartRegister, first_hart, first_read, hart_after, is_register, word_at, writes_of}

-- a line with its number
abbrev pub Entry : Type 0
Entry = ℕ × List ℕ

-- lines with their numbers, from one on
unfoldable pub numbered : ℕ → List (List ℕ) → List Entry
numbered at [] = []
numbered at (text ∷ lines) = (at, text) ∷ numbered (at + 1) lines

-- a line of a report for one of at most this many lines before a line
abbrev pub before_text : ℕ → ℕ → Entry → List ℕ
before_text count line entry =
    if nat_lt entry.0 line && nat_le (line - entry.0) count
    then codes "before " ++ decimal entry.0 ++ codes " " ++ entry.1 ++ codes "\n" else []

-- those lines of a report
abbrev pub before_lines : ℕ → ℕ → List Entry → List ℕ
before_lines count line entries = flat_map (before_text count line) entries

-- the text of a line, after some that has been found
abbrev pub text_step : ℕ → List ℕ → Entry → List ℕ
text_step line text entry = if entry.0 == line then entry.1 else text

abbrev pub text_at : ℕ → List ℕ → List Entry → List ℕ
text_at line found entries = fold (text_step line) found entries

-- the hart of a line, by the lines before it, after the hart before these
abbrev pub hart_step : ℕ → List ℕ → Entry → List ℕ
hart_step line hart entry = if nat_lt entry.0 line then hart_after hart entry.1 else hart

abbrev pub hart_at : ℕ → List ℕ → List Entry → List ℕ
hart_at line hart entries = fold (hart_step line) hart entries

-- the hart after some lines, and the last of them that writes a register of a hart
abbrev pub Last : Type 0
Last = List ℕ × Option Entry

-- the last line before a line that writes a register of a hart, after one that has been found
abbrev pub last_step : HartRegister → ℕ → Last → Entry → Last
last_step register line last entry =
    (hart_after last.0 entry.1, if nat_lt entry.0 line && writes_of register last.0 entry.1 then Some entry else last.1)

abbrev pub last_writer : HartRegister → ℕ → Last → List Entry → Last
last_writer register line last entries = fold (last_step register line) last entries

-- the line of a report for the line that last wrote a register
abbrev pub wrote_line : List ℕ → Option Entry → List ℕ
wrote_line register None = []
wrote_line register (Some entry) =
    codes "wrote " ++ register ++ codes " " ++ decimal entry.0 ++ codes " " ++ entry.1 ++ codes "\n"

-- that line for an operand of a line, if it is a register: one of the line's own hart
abbrev pub wrote_text : List ℕ → ℕ → List Entry → List ℕ
wrote_text word line entries =
    let hart = hart_at line first_hart entries in
    if is_register word then wrote_line word (last_writer (word, hart) line (first_hart, None) entries).1 else []

-- those lines for the registers that a line reads, in the order of its operands, each once
abbrev pub wrote_lines : ℕ → List Entry → List ℕ
wrote_lines line entries =
    let text = text_at line [] entries in
    let first = first_read text in
    let second = word_at 2 text in
    let third = word_at 3 text in
    wrote_text first line entries
    ++ (if bytes_eq second first then [] else wrote_text second line entries)
    ++ (if bytes_eq third first || bytes_eq third second then [] else wrote_text third line entries)

-- the context of a line: the lines before it, and those that last wrote the registers that it reads
abbrev pub context_at : ℕ → ℕ → List Entry → List ℕ
context_at count line entries = before_lines count line entries ++ wrote_lines line entries

-- a number with one digit more, and the number that digits spell, each at most 2 ^ 64 - 1
abbrev pub with_digit : ℕ → ℕ → ℕ
with_digit number digit = min (2 ^ 64 - 1) (number * 10 + (digit - 48))

abbrev pub number_of : List ℕ → ℕ
number_of digits = fold with_digit 0 digits

-- the number of the line that a report refuses; none of a yes
abbrev pub refused_line : List ℕ → Option ℕ
refused_line report = if begins (codes "no ") report then Some (number_of (upto 32 (drop 3 report))) else None

-- the context of that line, in the bytes of its log
abbrev pub context_in : ℕ → Option ℕ → List Entry → List ℕ
context_in count None entries = []
context_in count (Some line) entries = context_at count line entries

unfoldable pub context_of : ℕ → List ℕ → List ℕ → List ℕ
context_of count bytes report = context_in count (refused_line report) (numbered 1 (lines_of bytes))
