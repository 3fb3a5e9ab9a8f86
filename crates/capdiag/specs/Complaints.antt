-- What the program says of words that spell no order, of a file that cannot be opened, and where it waits for a terminal. All of it is this profile's
-- own.
use Rattle.std.specs.Prelude.{ℕ, List, [], ◌++◌, Option, Some, None, take, codes}
use Rattle.cap_json.specs.declared.rows.LogKind.{LogKind}
use Rattle.cap_texts.specs.ShownBytes.{shown}
use Rattle.capdiag.specs.declared.complaints.Complaint.{Complaint}
use Rattle.capdiag.specs.declared.complaints.Complaint.TheVariants.{NoCommand, UnknownCommand, UnknownOption, NoValue}
use Rattle.capdiag.specs.declared.complaints.Complaint.TheVariants.{UnknownValue, NoCount, UnknownCount, Twice, Alone}
use Rattle.capdiag.specs.declared.fronts.Packing.{Packing}
use Rattle.capdiag.specs.Hints.{hint_text, packed_text}
use Rattle.capdiag.specs.declared.complaints.Unopened.{Unopened}
use Rattle.capdiag.specs.declared.complaints.Unopened.TheVariants.{Missing, Denied, Directory, Through, Long, Circle, Other}

-- the first 64 bytes of a word, in quotes
unfoldable pub quoted : List ℕ → List ℕ
quoted word = codes "'" ++ shown (take 64 word) ++ codes "'"

-- what stands before the word
abbrev pub front_text : Complaint → List ℕ
front_text NoCommand = codes "no command"
front_text UnknownCommand = codes "unknown command "
front_text UnknownOption = codes "unknown option "
front_text NoValue = codes "held, used or both is missing after "
front_text UnknownValue = codes "--freed takes held, used or both, not "
front_text NoCount = codes "a number from 0 to 99 is missing after "
front_text UnknownCount = codes "--context takes a number from 0 to 99, not "
front_text Twice = codes "given twice: "
front_text Alone = codes "other words beside "

-- the word, where the complaint is of one
abbrev pub subject : Complaint → List ℕ → List ℕ
subject NoCommand word = []
subject complaint word = quoted word

-- the question whether another word was meant: its first 64 bytes
unfoldable pub asked : List ℕ → List ℕ
asked guess = codes " did you mean " ++ take 64 guess ++ codes "?"

-- that question, where there is another word
abbrev pub question : Option (List ℕ) → List ℕ
question None = []
question (Some guess) = asked guess

-- the line of a complaint, with the word that may have been meant
unfoldable pub complaint_line : Complaint → List ℕ → Option (List ℕ) → List ℕ
complaint_line complaint word guess =
    codes "capdiag: " ++ front_text complaint ++ subject complaint word ++ codes ";" ++ question guess ++ codes " see capdiag --help\n"

-- a reason in words
abbrev pub reason_text : Unopened → List ℕ
reason_text Missing = codes "no such file"
reason_text Denied = codes "permission denied"
reason_text Directory = codes "is a directory"
reason_text Through = codes "a part of the path is a file"
reason_text Long = codes "the name is too long"
reason_text Circle = codes "a circle of symbolic links"
reason_text Other = codes "the system refuses it"

-- the line that says that a file cannot be opened
unfoldable pub unopened_line : List ℕ → Unopened → List ℕ
unopened_line path reason = codes "capdiag: cannot open " ++ quoted path ++ codes ": " ++ reason_text reason ++ codes "\n"

-- the line that says that a log is read from the terminal
abbrev pub waiting_line : List ℕ
waiting_line = codes "capdiag: reading a log from the terminal; Ctrl-D ends it\n"

-- the line of a hint, with the name of the file, if that is one of several
abbrev pub named : Option (List ℕ) → List ℕ
named None = []
named (Some name) = quoted name ++ codes ": "

unfoldable pub told_line : Option (List ℕ) → List ℕ → List ℕ
told_line name text = codes "capdiag: " ++ named name ++ text ++ codes "\n"

abbrev pub hint_line : Option (List ℕ) → LogKind → List ℕ
hint_line name kind = told_line name (hint_text kind)

abbrev pub packed_line : Option (List ℕ) → Packing → List ℕ
packed_line name packing = told_line name (packed_text packing)
