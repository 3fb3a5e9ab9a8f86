-- Which word was meant by one that is unknown. All of it is this profile's own.
use Rattle.std.specs.Prelude.{ℕ, Bool, false, ◌&&◌, ◌||◌, ◌==◌, List, [], ◌∷◌, codes, bytes_eq, if◌then◌else◌, Option, find}
use Rattle.capdiag.specs.declared.complaints.Complaint.{Complaint, TheVariants.{UnknownCommand, UnknownOption}}

-- whether two texts begin with the same two characters in either order, and then go on alike
abbrev pub is_swapped : List ℕ → List ℕ → Bool
is_swapped (x ∷ next ∷ xs) (y ∷ after ∷ ys) = (x == after) && ((next == y) && bytes_eq xs ys)
is_swapped xs ys = false

-- whether two texts differ by one character that is changed, missing or more, or by two neighbours in the other order
abbrev pub is_near : List ℕ → List ℕ → Bool
is_near [] [] = false
is_near [] (y ∷ ys) = bytes_eq [] ys
is_near (x ∷ xs) [] = bytes_eq xs []
is_near (x ∷ xs) (y ∷ ys) =
    if x == y then is_near xs ys
    else (bytes_eq xs ys || (bytes_eq xs (y ∷ ys) || (bytes_eq (x ∷ xs) ys || is_swapped (x ∷ xs) (y ∷ ys))))

-- the first of some words that is near to one
abbrev pub first_near : List (List ℕ) → List ℕ → Option (List ℕ)
first_near known word = find (λ it. is_near it word) known

-- the options that stand after a command, or in its place
abbrev pub options_of : List ℕ → List (List ℕ)
options_of command =
    if bytes_eq command (codes "why")
    then codes "--origins" ∷ codes "--freed" ∷ codes "--owners" ∷ codes "--owned" ∷ codes "--context" ∷ codes "--json" ∷ codes "--progress" ∷ codes "--help" ∷ []
    else if bytes_eq command (codes "heap") then codes "--report" ∷ codes "--why" ∷ codes "--context" ∷ codes "--json" ∷ codes "--progress" ∷ codes "--help" ∷ []
    else if bytes_eq command (codes "run")
    then codes "--freed" ∷ codes "--owners" ∷ codes "--owned" ∷ codes "--why" ∷ codes "--context" ∷ codes "--json" ∷ codes "--progress" ∷ codes "--help" ∷ []
    else codes "--help" ∷ codes "--version" ∷ []

-- the words for which an unknown one may stand: the commands, or the options of its command
abbrev pub known_words : Complaint → List (List ℕ) → List (List ℕ)
known_words UnknownCommand words = codes "why" ∷ codes "heap" ∷ codes "run" ∷ codes "help" ∷ []
known_words UnknownOption (command ∷ words) = options_of command
known_words complaint words = []

-- the word that was meant
abbrev pub guess_of : Complaint → List (List ℕ) → List ℕ → Option (List ℕ)
guess_of complaint words word = first_near (known_words complaint words) word
