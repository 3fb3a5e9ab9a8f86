-- What the words after the program's name ask for, or what is wrong with them. All of it is this profile's own.
use Rattle.std.specs.Prelude.{ℕ, Bool, true, false, ◌||◌, List, [], ◌∷◌, ◌++◌, drop, codes, bytes_eq, if◌then◌else◌}
use Rattle.std.specs.Prelude.{Option, Some, None, is_some, ok_or, option_map, Result, Ok, Err}
use Rattle.cap_json.specs.Words.{begins}
use Rattle.cap_program.specs.Words.{is_operand}
use Rattle.capdiag.specs.declared.complaints.Complaint.{Complaint}
use Rattle.capdiag.specs.declared.complaints.Complaint.TheVariants.{NoCommand, UnknownCommand, UnknownOption, NoValue, UnknownValue}
use Rattle.capdiag.specs.declared.complaints.Complaint.TheVariants.{NoCount, UnknownCount, Twice, Alone}
use Rattle.capdiag.specs.declared.forms.Form.{Form}
use Rattle.capdiag.specs.declared.orders.{Judging.{Judging, TheVariants.{Why, Heap, Run}}, Freed.{Freed, TheVariants.{Held, Used, Both}}, RunAsked.RunAsked}
use Rattle.capdiag.specs.declared.words.{Asked.Asked, Due.{Due, TheVariants.{Any, FreedValue, ContextValue, File}}}
use Rattle.capdiag.specs.Forms.{count_of, is_json, plain, with_json, with_lines}

-- what words ask for: help; the version; or what a judge says of each of these files in turn, or of standard input if there is
-- none, how it is shown, and whether it is told how far the reading is
pub data Request : Type 0 where
  Help : Request
  Version : Request
  Judge : (judging : Judging) (form : Form) (progress : Bool) (files : List (List ℕ)) → Request

-- what all words ask for, or what is wrong, and with which word
abbrev pub Read : Type 0
Read = Result Request (Complaint × List ℕ)

-- what is asked for with an option, if that wasn't given before
abbrev pub once : Bool → Asked → Result Asked Complaint
once false asked = Ok asked
once true asked = Err Twice

-- nothing is asked of a run log beyond its default
abbrev pub nothing : RunAsked
nothing = record { freed = None; owned = false; owners = false }

-- what is asked of a run log with one option more, and whether that was given before; --freed asks nothing by itself, since its
-- value follows
abbrev pub with_run_flag : RunAsked → List ℕ → Option (Bool × RunAsked)
with_run_flag run word =
    if bytes_eq word (codes "--freed") then Some (is_some run.freed, run)
    else if bytes_eq word (codes "--owned") then Some (run.owned, record run { owned = true })
    else if bytes_eq word (codes "--owners") then Some (run.owners, record run { owners = true })
    else None

-- the judges of why and of run with one option more of a run log
abbrev pub with_why_flag : Bool → RunAsked → List ℕ → Option (Bool × Judging)
with_why_flag origins run word = option_map (λ more. (more.0, Why origins more.1)) (with_run_flag run word)

abbrev pub with_asked_flag : RunAsked → Bool → Bool → List ℕ → Option (Bool × Judging)
with_asked_flag run why told word = option_map (λ more. (more.0, Run more.1 why told)) (with_run_flag run word)

-- a judge with one option more, and whether it had that before
abbrev pub with_flag : Judging → List ℕ → Option (Bool × Judging)
with_flag (Why origins run) word =
    if bytes_eq word (codes "--origins") then Some (origins, Why true run)
    else with_why_flag origins run word
with_flag (Heap report why) word =
    if bytes_eq word (codes "--report") then Some (report, Heap true why)
    else if bytes_eq word (codes "--why") then Some (why, Heap report true)
    else None
with_flag (Run run why told) word =
    if bytes_eq word (codes "--why") then Some (why, Run run true told) else with_asked_flag run why told word

-- what is asked for after a judge's own option
abbrev pub flagged : Asked → Due → Option (Bool × Judging) → Result Asked Complaint
flagged asked due_then None = Err UnknownOption
flagged asked due_then (Some (is_given, more)) = once is_given (record asked { due = due_then; judging = more })

abbrev pub after_flag : Asked → List ℕ → Result Asked Complaint
after_flag asked word = flagged asked (if bytes_eq word (codes "--freed") then FreedValue else Any) (with_flag asked.judging word)

-- what is asked for after an option
abbrev pub after_option : Asked → List ℕ → Result Asked Complaint
after_option asked word =
    if bytes_eq word (codes "--") then Ok (record asked { due = File })
    else if bytes_eq word (codes "--help") || bytes_eq word (codes "-h") then Err Alone
    else if bytes_eq word (codes "--json") then once (is_json asked.form.look) (record asked { form = with_json asked.form })
    else if bytes_eq word (codes "--progress") then once asked.progress (record asked { progress = true })
    else if bytes_eq word (codes "--context") then once (is_some asked.form.context) (record asked { due = ContextValue })
    else after_flag asked word

-- what a value of --freed asks of freed objects
abbrev pub freed_of : List ℕ → Option Freed
freed_of word =
    if bytes_eq word (codes "held") then Some Held
    else if bytes_eq word (codes "used") then Some Used
    else if bytes_eq word (codes "both") then Some Both
    else None

-- a judge with the value of --freed
abbrev pub with_freed : Judging → List ℕ → Option Judging
with_freed (Why origins run) word = option_map (λ freed_is. Why origins (record run { freed = Some freed_is })) (freed_of word)
with_freed (Heap report why) word = None
with_freed (Run run why told) word = option_map (λ freed_is. Run (record run { freed = Some freed_is }) why told) (freed_of word)

-- whether a word is an operand before the options have ended: it is a minus sign alone, or doesn't begin with one
abbrev pub is_taken : List ℕ → Bool
is_taken word = bytes_eq word (codes "-") || is_operand word

-- whether a word is a file, by what the next word is
abbrev pub is_file : Due → List ℕ → Bool
is_file Any word = is_taken word
is_file File word = true
is_file due word = false

-- what is asked for with one file more: a minus sign alone names standard input, which can be read once
abbrev pub with_file : Asked → List ℕ → Result Asked Complaint
with_file asked word = if bytes_eq word (codes "-") then once asked.has_input (record asked { has_input = true }) else Ok asked

-- what is asked for with the value of an option, by which one is due
abbrev pub with_value : Due → Asked → List ℕ → Result Asked Complaint
with_value FreedValue asked word =
    ok_or (option_map (λ more. record asked { due = Any; judging = more }) (with_freed asked.judging word)) UnknownValue
with_value ContextValue asked word =
    ok_or (option_map (λ count. record asked { due = Any; form = with_lines asked.form count }) (count_of word)) UnknownCount
with_value due asked word = Err UnknownOption

-- what is asked for with an option and its value
abbrev pub with_both : Result Asked Complaint → List ℕ → Result Asked Complaint
with_both (Err complaint) value = Err complaint
with_both (Ok asked) value = with_value asked.due asked value

-- what is asked for with an option, and with its value if they are joined by an equals sign
abbrev pub after_dash : Asked → List ℕ → Result Asked Complaint
after_dash asked word =
    if begins (codes "--context=") word then with_both (after_option asked (codes "--context")) (drop 10 word)
    else if begins (codes "--freed=") word then with_both (after_option asked (codes "--freed")) (drop 8 word)
    else after_option asked word

-- what is asked for with one word more, by what it is
abbrev pub with_due : Due → Asked → List ℕ → Result Asked Complaint
with_due Any asked word = if is_taken word then with_file asked word else after_dash asked word
with_due File asked word = with_file asked word
with_due due asked word = with_value due asked word

abbrev pub with_word : Asked → List ℕ → Result Asked Complaint
with_word asked word = with_due asked.due asked word

-- what is asked for where the words end, by what was due, with the files that they name
abbrev pub ended_by : Due → Asked → List (List ℕ) → Read
ended_by FreedValue asked files = Err (NoValue, codes "--freed")
ended_by ContextValue asked files = Err (NoCount, codes "--context")
ended_by due asked files = Ok (Judge asked.judging asked.form asked.progress files)

abbrev pub at_end : Asked → List (List ℕ) → Read
at_end asked files = ended_by asked.due asked files

-- what is asked for with more words, read from left to right until one is wrong
abbrev pub told_of : List ℕ → Result Asked Complaint → Result Asked (Complaint × List ℕ)
told_of word (Ok asked) = Ok asked
told_of word (Err complaint) = Err (complaint, word)

abbrev pub more_files : Bool → List (List ℕ) → List ℕ → List (List ℕ)
more_files true files word = files ++ (word ∷ [])
more_files false files word = files

abbrev pub with_words : Result Asked (Complaint × List ℕ) → List (List ℕ) → List (List ℕ) → Read
with_words (Err wrong) files words = Err wrong
with_words (Ok asked) files [] = at_end asked files
with_words (Ok asked) files (word ∷ words) =
    with_words (told_of word (with_word asked word)) (more_files (is_file asked.due word) files word) words

-- whether the words after a command ask for help
abbrev pub is_help : List (List ℕ) → Bool
is_help (word ∷ []) = bytes_eq word (codes "--help") || bytes_eq word (codes "-h")
is_help words = false

-- what a command and the words after it ask for
abbrev pub after_command : Judging → List (List ℕ) → Read
after_command judge words =
    if is_help words then Ok Help
    else with_words (Ok (record { due = Any; judging = judge; form = plain; progress = false; has_input = false })) [] words

-- what an option in place of a command asks for: no other word stands beside it
abbrev pub alone : Request → List ℕ → List (List ℕ) → Read
alone request option [] = Ok request
alone request option (word ∷ words) = Err (Alone, option)

-- what the words ask for if the first is no command
abbrev pub without_command : List ℕ → List (List ℕ) → Read
without_command word words =
    if bytes_eq word (codes "--help") || (bytes_eq word (codes "-h") || bytes_eq word (codes "help")) then alone Help word words
    else if bytes_eq word (codes "--version") then alone Version word words
    else if is_operand word then Err (UnknownCommand, word)
    else Err (UnknownOption, word)

-- what the words ask for
abbrev pub read_words : List (List ℕ) → Read
read_words [] = Err (NoCommand, [])
read_words (command ∷ words) =
    if bytes_eq command (codes "why") then after_command (Why false nothing) words
    else if bytes_eq command (codes "heap") then after_command (Heap false false) words
    else if bytes_eq command (codes "run") then after_command (Run nothing false false) words
    else without_command command words
