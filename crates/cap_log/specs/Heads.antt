-- The kinds of lines: the word that each begins with, its number in C, and what a step takes and records. All of it is
-- this profile's own.
use Rattle.std.specs.Prelude.{ℕ, zero, suc, ℤ, Bool, true, false, List, [], ◌∷◌, codes}
use Rattle.cap_word.specs.declared.word.{Cap.Cap}
use Rattle.cap_log.specs.declared.kinds.{Head.Head, Shape.Shape, Step.Step}
use Rattle.cap_log.specs.declared.kinds.Head.TheVariants as heads
use Rattle.cap_log.specs.declared.kinds.Shape.TheVariants as shapes
use Rattle.cap_log.specs.declared.kinds.Step.TheVariants as steps
use Rattle.cap_log.specs.Ranges.{Datum}

-- each head has a spelling
abbrev pub IsHead : Head → Type 0
IsHead head = Unit {0}

-- the word itself
abbrev pub head_spelling : Head → List ℕ
head_spelling heads.Version = codes "capcheck"
head_spelling heads.Mode = codes "mode"
head_spelling heads.Root = codes "root"
head_spelling heads.Move = codes "move"
head_spelling heads.ClearTag = codes "cleartag"
head_spelling heads.Seal = codes "seal"
head_spelling heads.Unseal = codes "unseal"
head_spelling heads.SetBounds = codes "setbounds"
head_spelling heads.SetBoundsExact = codes "setboundsexact"
head_spelling heads.SetAddr = codes "setaddr"
head_spelling heads.AndPerm = codes "andperm"
head_spelling heads.LoadCap = codes "lc"
head_spelling heads.StoreCap = codes "sc"
head_spelling heads.Load = codes "load"
head_spelling heads.Store = codes "store"
head_spelling heads.End = codes "end"

-- what may follow the header of a log, in words
abbrev pub line_names : List ℕ
line_names =
    codes "root, end or a step: move, cleartag, setbounds, setboundsexact, setaddr, andperm, seal, unseal, lc, sc, load or store"

-- the text with a number, counted from 0, and none after the last
abbrev pub text_at : List (List ℕ) → ℕ → List ℕ
text_at [] number = []
text_at (text ∷ texts) zero = text
text_at (text ∷ texts) (suc number) = text_at texts number

-- the word of each kind of line by its number in C, from 0, which is none; a root in a register and one in memory are two
abbrev pub kind_words : List (List ℕ)
kind_words =
    [] ∷ head_spelling heads.Version ∷ head_spelling heads.Mode ∷ head_spelling heads.Root ∷ head_spelling heads.Root
    ∷ head_spelling heads.Move ∷ head_spelling heads.ClearTag ∷ head_spelling heads.SetBounds
    ∷ head_spelling heads.SetBoundsExact ∷ head_spelling heads.SetAddr ∷ head_spelling heads.AndPerm
    ∷ head_spelling heads.Seal ∷ head_spelling heads.Unseal ∷ head_spelling heads.LoadCap ∷ head_spelling heads.StoreCap
    ∷ head_spelling heads.Load ∷ head_spelling heads.Store ∷ head_spelling heads.End ∷ []

-- what follows the word of a line
abbrev pub shape_of : Head → Shape
shape_of heads.Version = shapes.Version
shape_of heads.Mode = shapes.Mode
shape_of heads.Root = shapes.Root
shape_of heads.Move = shapes.Plain
shape_of heads.ClearTag = shapes.Plain
shape_of heads.SetBounds = shapes.Numbered
shape_of heads.SetBoundsExact = shapes.Numbered
shape_of heads.SetAddr = shapes.Numbered
shape_of heads.AndPerm = shapes.Numbered
shape_of heads.Seal = shapes.Authorized
shape_of heads.Unseal = shapes.Authorized
shape_of heads.LoadCap = shapes.LoadCap
shape_of heads.StoreCap = shapes.StoreCap
shape_of heads.Load = shapes.Load
shape_of heads.Store = shapes.Store
shape_of heads.End = shapes.End

-- a source alone: the step clears its tag, or not
abbrev pub plain_head : Bool → Head
plain_head false = heads.Move
plain_head true = heads.ClearTag

abbrev pub plain_step : Bool → ℕ → ℕ → Cap → Step
plain_step false target source result = steps.Move (record { target = target; source = source; result = result })
plain_step true target source result = steps.ClearTag (record { target = target; source = source; result = result })

-- a source and a number: a length, a length that isn't rounded, an address or a mask
abbrev pub numbered_head : ℕ → Head
numbered_head zero = heads.SetBounds
numbered_head (suc zero) = heads.SetBoundsExact
numbered_head (suc (suc zero)) = heads.SetAddr
numbered_head (suc (suc (suc more))) = heads.AndPerm

abbrev pub numbered_step : ℕ → ℕ → ℕ → ℕ → Cap → Step
numbered_step zero target source number result =
    steps.SetBounds (record { target = target; source = source; number = number; result = result })
numbered_step (suc zero) target source number result =
    steps.SetBoundsExact (record { target = target; source = source; number = number; result = result })
numbered_step (suc (suc zero)) target source number result =
    steps.SetAddr (record { target = target; source = source; number = number; result = result })
numbered_step (suc (suc (suc more))) target source number result =
    steps.AndPerm (record { target = target; source = source; number = number; result = result })

-- a source and an authority: the step unseals, or seals
abbrev pub authorized_head : Bool → Head
authorized_head false = heads.Seal
authorized_head true = heads.Unseal

abbrev pub authorized_step : Bool → ℕ → ℕ → ℕ → Cap → Step
authorized_step false target source authority result =
    steps.Seal (record { target = target; source = source; authority = authority; result = result })
authorized_step true target source authority result =
    steps.Unseal (record { target = target; source = source; authority = authority; result = result })

-- an access to data: a load, or a store
abbrev pub data_head : Bool → Head
data_head true = heads.Load
data_head false = heads.Store

abbrev pub data_step : Bool → ℕ → ℤ → Datum → Step
data_step true authority offset datum = steps.Load (record { authority = authority; offset = offset; datum = datum })
data_step false authority offset datum = steps.Store (record { authority = authority; offset = offset; datum = datum })
