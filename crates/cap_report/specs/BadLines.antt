-- What is told of bytes that are no line of a machine's log (this profile's own, as are all below).
use Rattle.std.specs.Prelude.{◌≡◌, ◌⊎◌, ℕ, List, [], ◌∷◌, ◌++◌, length, codes}
use Rattle.cap_log.specs.{declared.kinds.{Head.Head, Shape.Shape}, Heads.{IsHead, head_spelling, shape_of}, Parts.{Begins, BeginsWithNone}}
use Rattle.cap_log.specs.declared.kinds.Shape.TheVariants as shapes
use Rattle.cap_texts.specs.{declared.fields.Field.Field, Fields.{AllStand, IsFirstWrong}, TextLines.text_line}
use Rattle.cap_texts.specs.WrongLines.{header_lines, hint_line, wrong_lines}
use Rattle.cap_texts.specs.declared.fields.Field.TheVariants as fields

-- the fields of a result
abbrev pub result_fields : List Field
result_fields = fields.Equals ∷ fields.Tag ∷ fields.Word ∷ []

-- the fields of a shape
abbrev pub shape_fields : Shape → List Field
shape_fields shapes.Version = fields.LogVersion ∷ []
shape_fields shapes.Mode = fields.Mode ∷ []
shape_fields shapes.Root = fields.Place ∷ fields.Word ∷ []
shape_fields shapes.Plain = fields.Target ∷ fields.Register ∷ result_fields
shape_fields shapes.Numbered = fields.Target ∷ fields.Register ∷ fields.Number ∷ result_fields
shape_fields shapes.Authorized = fields.Target ∷ fields.Register ∷ fields.Register ∷ result_fields
shape_fields shapes.LoadCap = fields.Target ∷ fields.Register ∷ fields.Offset ∷ result_fields
shape_fields shapes.StoreCap = fields.Register ∷ fields.Register ∷ fields.Offset ∷ []
shape_fields shapes.Load = fields.Register ∷ fields.Offset ∷ fields.Size ∷ fields.Equals ∷ fields.Value ∷ []
shape_fields shapes.Store = fields.Register ∷ fields.Offset ∷ fields.Size ∷ fields.Value ∷ []
shape_fields shapes.End = fields.Count ∷ []

-- the fields that follow the first word of a line
abbrev pub fields_of : Head → List Field
fields_of head = shape_fields (shape_of head)

-- the first wrong word of a line with its line feed: its name, or the first of the fields of its kind
abbrev pub IsWrongWord : List ℕ → Field → ℕ → List ℕ → Type 0
IsWrongWord line field end rest =
    ((head : Head) × (operands : List ℕ) × Begins IsHead head_spelling 32 line head operands
    × IsFirstWrong (fields_of head) 0 operands field end rest)
    ⊎ (BeginsWithNone IsHead head_spelling 32 line × (field ≡ fields.LogName) × (end ≡ 32) × (rest ≡ line))

-- no word of a line with its line feed is wrong
abbrev pub HasNoWrongWord : List ℕ → Type 0
HasNoWrongWord line =
    (head : Head) × (operands : List ℕ) × Begins IsHead head_spelling 32 line head operands × AllStand (fields_of head) 0 operands

-- what is told of a line that has no form: its first wrong word; or where none is, that the version of the log has no
-- such line
abbrev pub AreBadLines : List ℕ → List ℕ → Type 0
AreBadLines text told =
    let line = text ++ 10 ∷ [] in
    ((field : Field) × (end : ℕ) × (rest : List ℕ) × IsWrongWord line field end rest
    × (told ≡ wrong_lines (length line) field end rest))
    ⊎ (HasNoWrongWord line × (told ≡ text_line (codes "expected") (codes "a line of version 1: a root, a step or the end line")))

-- what the first line has to be
abbrev pub first_lines : List ℕ
first_lines = codes "capcheck 1 or capcheck 2"

-- what is told of the first line of another log: which program judges that
abbrev pub other_log : List ℕ → List ℕ
other_log hint = text_line (codes "expected") first_lines ++ hint_line hint

-- what is told of a first line that is none: that the log is an allocator's or a run log, where it is the first line of one
abbrev pub AreFirstLines : List ℕ → List ℕ → Type 0
AreFirstLines text told =
    ((text ≡ codes "heap 1") × (told ≡ other_log (codes "the log of an allocator: capdiag heap judges it")))
    ⊎ (((text ≡ codes "run 1") × (told ≡ other_log (codes "a run log: capdiag run judges it")))
    ⊎ ((text ≡ codes "heap 1" → ⊥) × (text ≡ codes "run 1" → ⊥) × (told ≡ header_lines text first_lines)))
