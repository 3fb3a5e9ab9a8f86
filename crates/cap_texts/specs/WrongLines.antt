-- The lines that say which word of a line is wrong, and what is expected there. All of it is this profile's own.
use Rattle.std.specs.Prelude.{ℕ, Bool, true, false, ◌+◌, ◌-◌, ◌==◌, ◌&&◌, ◌||◌, nat_le, nat_lt, if◌then◌else◌, List, [], ◌∷◌, ◌++◌, length, take}
use Rattle.std.specs.Prelude.{slice_index, codes, decimal}
use Rattle.cap_texts.specs.{declared.fields.Field.{Field, TheVariants.{HeapName, LogName}}, Fields.expected_text, ShownBytes.shown, TextLines.text_line}

-- what has to follow a word that this byte ends
abbrev pub end_text : ℕ → List ℕ
end_text end = if end == 10 then codes ", then the line's end" else codes ", then a space"

-- the hint for a line that ends with a carriage return
abbrev pub carriage_return : List ℕ
carriage_return = codes "a carriage return ends the line: end lines with a line feed alone"

-- the hint for a line that ends with a space
abbrev pub last_space : List ℕ
last_space = codes "a space ends the line: end lines with a line feed alone"

-- a line, with its line feed, has a space
unfoldable pub has_space : List ℕ → Bool
has_space [] = false
has_space (byte ∷ bytes) = if byte == 32 then true else has_space bytes

-- whether words are missing or too many, where a line's last word isn't followed by a space that is due, or a line that
-- should end has more words
abbrev pub count_hint : Field → ℕ → List ℕ → List ℕ
count_hint LogName end rest = []
count_hint HeapName end rest = []
count_hint field end rest =
    if end == 10 then (if has_space rest then codes "the line has more words than its form" else [])
    else if has_space rest then [] else codes "the line ends too early"

-- what often makes a word wrong, by what it has to be, the byte that has to end it, and the line from there on with its
-- line feed
abbrev pub hint_of : Field → ℕ → List ℕ → List ℕ
hint_of field end rest =
    if nat_le (length rest) 1 then codes "the line ends too early"
    else if slice_index rest 0 == 32 then codes "a space too many"
    else if slice_index rest (length rest - 2) == 13 then carriage_return
    else if slice_index rest (length rest - 2) == 32 then last_space
    else count_hint field end rest

-- what two first bytes say of a log: UTF-16 in either order, or what gzip packs
abbrev pub coding_hint : ℕ → ℕ → List ℕ
coding_hint first second =
    if (first == 255 && second == 254) || (first == 254 && second == 255) then codes "the log is UTF-16, as a Windows shell writes it: write ASCII"
    else if first == 31 && second == 139 then codes "the log is packed by gzip: unpack it first"
    else []

-- what the last byte of a first line says of it
abbrev pub ending_hint : ℕ → List ℕ
ending_hint last = if last == 13 then carriage_return else if last == 32 then last_space else []

-- what often makes the first line of a log wrong
abbrev pub mark_hint : List ℕ → List ℕ
mark_hint text =
    if nat_lt (length text) 3 then []
    else if slice_index text 0 == 239 && slice_index text 1 == 187 && slice_index text 2 == 191
    then codes "a byte order mark begins the log: write it without one"
    else if slice_index text 0 == 35 then codes "a log has no comments"
    else if nat_lt 0 (length (coding_hint (slice_index text 0) (slice_index text 1)))
    then coding_hint (slice_index text 0) (slice_index text 1)
    else ending_hint (slice_index text (length text - 1))

-- what a log lacks that ends within a line, by the bytes of that line
abbrev pub cut_hint : List ℕ → List ℕ
cut_hint [] = codes "no line follows: the log was cut, or is still being written"
cut_hint (byte ∷ bytes) = codes "the last line has no line feed"

-- the hint for a line after the end line
abbrev pub nothing_follows : List ℕ
nothing_follows = codes "nothing may follow the end line"

-- why a line that begins with three bytes may not stand where it does: a header, a mode line or a root line too late, or a
-- line after the end line
abbrev pub start_hint : ℕ → ℕ → ℕ → List ℕ
start_hint first second third =
    if (first == 99 && second == 97 && third == 112) || (first == 114 && second == 117 && third == 110)
    then codes "the first line alone is a header: logs can't be joined"
    else if first == 109 && second == 111 && third == 100 then codes "the second line alone is a mode line"
    else if first == 114 && second == 111 && third == 111 then codes "root lines come before the steps"
    else nothing_follows

-- why a line may not stand where it does, by its bytes
abbrev pub place_hint : List ℕ → List ℕ
place_hint text =
    if nat_lt (length text) 3 then nothing_follows
    else start_hint (slice_index text 0) (slice_index text 1) (slice_index text 2)

-- a hint, where there is one
abbrev pub hint_line : List ℕ → List ℕ
hint_line [] = []
hint_line (byte ∷ bytes) = text_line (codes "hint") (byte ∷ bytes)

-- a line from a wrong word on, without its line feed, where more than that is left
abbrev pub found_line : List ℕ → List ℕ
found_line rest = if nat_lt 1 (length rest) then text_line (codes "found") (shown (take (length rest - 1) rest)) else []

-- which word is wrong of a line of this length, by what it has to be, the byte that has to end it and the line from
-- there on
unfoldable pub wrong_lines : ℕ → Field → ℕ → List ℕ → List ℕ
wrong_lines line_length field end rest =
    text_line (codes "column") (decimal (line_length - length rest + 1))
    ++ found_line rest
    ++ text_line (codes "expected") (expected_text field ++ end_text end)
    ++ hint_line (hint_of field end rest)

-- what a line of one form has to be
unfoldable pub header_lines : List ℕ → List ℕ → List ℕ
header_lines text expected = text_line (codes "expected") expected ++ hint_line (mark_hint text)
