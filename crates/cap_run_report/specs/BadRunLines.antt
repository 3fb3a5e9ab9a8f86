-- What is told of bytes that are no line of a run log (this profile's own).
use Rattle.std.specs.Prelude.{◌≡◌, ◌⊎◌, ℕ, List, ◌∷◌, [], ◌++◌, codes}
use Rattle.cap_log.specs.{declared.kinds.Head.Head, Heads.{IsHead, head_spelling}, Parts.{Begins, BeginsWithNone}}
use Rattle.cap_run_log.specs.{declared.heads.RunHead.RunHead, RunHeads.{IsRunHead, run_head_spelling}}
use Rattle.cap_run_log.specs.declared.heads.RunHead.TheVariants as heads
use Rattle.cap_texts.specs.{TextLines.text_line, WrongLines.{header_lines, hint_line}}
use Rattle.cap_report.specs.BadLines.{AreBadLines}

-- the form of a line by its first word
abbrev pub form_of : RunHead → List ℕ
form_of heads.Version = codes "run 1"
form_of heads.Root = codes "root PLACE WORD, PLACE cN, scrN or @ADDRESS"
form_of heads.Derive = codes "derive D S = T WORD, D and S cN or scrN"
form_of heads.Exchange = codes "exchange cD cS scrN = T WORD T WORD"
form_of heads.Invoke = codes "invoke cS cT = WORD WORD"
form_of heads.Drop = codes "drop PLACE, PLACE cN, scrN or @ADDRESS"
form_of heads.Fill = codes "fill @ADDRESS WORD"
form_of heads.Object = codes "object cN, or object cN K"
form_of heads.Free = codes "free cN, or free K"
form_of heads.Hart = codes "hart H, H 0 to 65535"

-- a line, with its line feed, begins with a word of a run log
abbrev pub BeginsRun : List ℕ → RunHead → Type 0
BeginsRun line head = (rest : List ℕ) × Begins IsRunHead run_head_spelling 32 line head rest

-- a line of another first word: one that other logs have, or none
abbrev pub AreOtherLines : List ℕ → List ℕ → Type 0
AreOtherLines text told =
    let line = text ++ 10 ∷ [] in
    (((head : Head) × (rest : List ℕ) × Begins IsHead head_spelling 32 line head rest) × AreBadLines text told)
    ⊎ (BeginsWithNone IsHead head_spelling 32 line
    × (told ≡ text_line (codes "expected") (codes "derive, exchange, invoke, drop, fill, object, free, hart, a step of version 2 or end")))

-- what is told of a line that has no form: the form that its first word asks for; or if that is no word of run logs alone,
-- what is told of it in another log
abbrev pub AreBadRunLines : List ℕ → List ℕ → Type 0
AreBadRunLines text told =
    let line = text ++ 10 ∷ [] in
    ((head : RunHead) × BeginsRun line head × (told ≡ text_line (codes "expected") (form_of head)))
    ⊎ (BeginsWithNone IsRunHead run_head_spelling 32 line × AreOtherLines text told)

-- what is told of the first line of another log: which program judges that
abbrev pub other_log : List ℕ → List ℕ
other_log hint = text_line (codes "expected") (codes "run 1") ++ hint_line hint

-- what is told of a first line that isn't that of a run log
abbrev pub AreFirstRunLines : List ℕ → List ℕ → Type 0
AreFirstRunLines text told =
    (((text ≡ codes "capcheck 1") ⊎ (text ≡ codes "capcheck 2")) × (told ≡ other_log (codes "a log of version 1 or 2: capcheck judge judges it")))
    ⊎ (((text ≡ codes "heap 1") × (told ≡ other_log (codes "the log of an allocator: capdiag heap judges it")))
    ⊎ ((text ≡ codes "capcheck 1" → ⊥) × (text ≡ codes "capcheck 2" → ⊥) × (text ≡ codes "heap 1" → ⊥)
    × (told ≡ header_lines text (codes "run 1"))))
