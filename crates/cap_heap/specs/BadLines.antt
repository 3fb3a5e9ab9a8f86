-- What is told of bytes that are no line of an allocator's log (this profile's own, as are all below).
use Rattle.std.specs.Prelude.{◌≡◌, ◌⊎◌, ℕ, List, [], ◌∷◌, ◌++◌, length, codes}
use Rattle.cap_texts.specs.{declared.fields.Field.Field, Fields.{AllStand, IsFirstWrong}, TextLines.text_line}
use Rattle.cap_texts.specs.WrongLines.{header_lines, hint_line, wrong_lines}
use Rattle.cap_texts.specs.declared.fields.Field.TheVariants as fields
use Rattle.cap_heap.specs.{declared.heads.HeapHead.HeapHead, HeapLines.IsNamed}
use Rattle.cap_heap.specs.declared.heads.HeapHead.TheVariants as heads

-- the fields that follow the first word of a line
abbrev pub fields_of : HeapHead → List Field
fields_of heads.Header = fields.HeapVersion ∷ []
fields_of heads.Root = fields.Number ∷ fields.Top ∷ []
fields_of heads.Malloc = fields.Number ∷ fields.Number ∷ []
fields_of heads.Free = fields.Number ∷ []
fields_of heads.End = fields.Count ∷ []

-- the first wrong word of a line with its line feed: its name, or the first of the fields of its kind
abbrev pub IsWrongWord : List ℕ → Field → ℕ → List ℕ → Type 0
IsWrongWord line field end rest =
    ((head : HeapHead) × (operands : List ℕ) × IsNamed line head operands × IsFirstWrong (fields_of head) 0 operands field end rest)
    ⊎ (((head : HeapHead) (operands : List ℕ) → IsNamed line head operands → ⊥) × (field ≡ fields.HeapName) × (end ≡ 32) × (rest ≡ line))

-- no word of a line with its line feed is wrong
abbrev pub HasNoWrongWord : List ℕ → Type 0
HasNoWrongWord line = (head : HeapHead) × (operands : List ℕ) × IsNamed line head operands × AllStand (fields_of head) 0 operands

-- what is told of a line that has no form: its first wrong word; or where none is, that a root ends below its base
abbrev pub AreBadLines : List ℕ → List ℕ → Type 0
AreBadLines text told =
    let line = text ++ 10 ∷ [] in
    ((field : Field) × (end : ℕ) × (rest : List ℕ) × IsWrongWord line field end rest
    × (told ≡ wrong_lines (length line) field end rest))
    ⊎ (HasNoWrongWord line × (told ≡ text_line (codes "expected") (codes "a BASE that isn't above TOP")))

-- the first line of a machine's log
abbrev pub IsMachineHeader : List ℕ → Type 0
IsMachineHeader text = (text ≡ codes "capcheck 1") ⊎ (text ≡ codes "capcheck 2")

-- what is told of a first line that is none: that the log is a machine's, where it is the first line of one
abbrev pub AreFirstLines : List ℕ → List ℕ → Type 0
AreFirstLines text told =
    (IsMachineHeader text
    × (told ≡ text_line (codes "expected") (codes "heap 1") ++ hint_line (codes "the log of a machine: capdiag why judges it")))
    ⊎ ((IsMachineHeader text → ⊥) × (told ≡ header_lines text (codes "heap 1")))
