-- The names of what C knows by number, as C strings, and a sentence for each (this profile's own, as are all below).
use Rattle.std.specs.Prelude.{ℕ, ◌-◌, List, [], ◌∷◌, ◌++◌, codes, if◌then◌else◌, length, nat_lt, replicate}
pub use Rattle.cap_log.specs.Heads.{kind_words, text_at}

-- bytes that hold a text as a C string: the text, and zeros after it
abbrev pub c_string_in : ℕ → List ℕ → List ℕ
c_string_in size text = text ++ replicate (size - length text) 0

-- the states of an answer
abbrev pub state_names : List (List ℕ)
state_names =
    codes "GoesOn" ∷ codes "Yes" ∷ codes "No" ∷ codes "NoMemory" ∷ codes "NoJudge" ∷ codes "NoLine" ∷ []

abbrev pub state_sentences : List (List ℕ)
state_sentences =
    codes "No line so far is faulty."
    ∷ codes "The log is accepted: its steps have a run from its roots."
    ∷ codes "The log is rejected: a line is faulty."
    ∷ codes "Out of memory: there is no verdict."
    ∷ codes "The judge isn't open."
    ∷ codes "The bytes aren't one line with its line feed, or a number is out of range."
    ∷ []

-- the word that a line of each kind begins with: the kinds from 64 on are those that only run logs have
abbrev pub run_kind_words : List (List ℕ)
run_kind_words =
    codes "derive"
    ∷ codes "exchange"
    ∷ codes "invoke"
    ∷ codes "drop"
    ∷ codes "fill"
    ∷ codes "object"
    ∷ codes "free"
    ∷ codes "run"
    ∷ codes "root"
    ∷ codes "hart"
    ∷ []

abbrev pub kind_text : ℕ → List ℕ
kind_text kind = if nat_lt kind 64 then text_at kind_words kind else text_at run_kind_words (kind - 64)

-- what each kind of line is, by its number
abbrev pub kind_sentences : List (List ℕ)
kind_sentences =
    []
    ∷ codes "The first line: the version of the log."
    ∷ codes "The second line of a log of version 2: strict or clear mode."
    ∷ codes "A capability that a register holds at the start."
    ∷ codes "A capability that a granule of memory holds at the start."
    ∷ codes "Copies a register."
    ∷ codes "Copies a register without its tag."
    ∷ codes "Narrows the bounds, rounded."
    ∷ codes "Narrows the bounds, and is refused if they are rounded."
    ∷ codes "Sets the address."
    ∷ codes "Removes permissions."
    ∷ codes "Seals a capability with an authority's object type."
    ∷ codes "Unseals a capability with an authority of its object type."
    ∷ codes "Loads a capability."
    ∷ codes "Stores a capability."
    ∷ codes "Loads data."
    ∷ codes "Stores data, and clears the tag of the granule."
    ∷ codes "The last line: the number of steps."
    ∷ []

abbrev pub run_kind_sentences : List (List ℕ)
run_kind_sentences =
    codes "Derives a capability, judged only to be no wider than its source."
    ∷ codes "Exchanges a special register: a call, or CSpecialRW."
    ∷ codes "Calls by a pair of sealed capabilities, CInvoke."
    ∷ codes "Removes the tag of a place."
    ∷ codes "Fills a granule from outside, without a tag."
    ∷ codes "Hands out an object, or widens one."
    ∷ codes "Frees an object."
    ∷ codes "The first line of a run log: its version."
    ∷ codes "A capability that a special register holds at the start."
    ∷ codes "Names the hart whose registers the lines after it name."
    ∷ []

abbrev pub kind_sentence : ℕ → List ℕ
kind_sentence kind = if nat_lt kind 64 then text_at kind_sentences kind else text_at run_kind_sentences (kind - 64)
