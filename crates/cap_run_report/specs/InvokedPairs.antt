-- What is told of a pair that is invoked in vain (this profile's own).
use Rattle.std.specs.Prelude.{ℕ, ◌==◌, ◌&&◌, not, nat_le, if◌then◌else◌, List, [], ◌++◌, codes}
use Rattle.cap_word.specs.{declared.word.Word.Word, Fields.otype_of}
use Rattle.cap_ops.specs.declared.refusal.Refusal.{TheVariants.{AuthorityUntagged, WrongResult}}
use Rattle.cap_ops.specs.DerivedWords.{is_opened, permit_execute, permit_invoke}
use Rattle.cap_ops.specs.Permissions.{greatest_type, has_permission, is_sealed, unsealed_type, with_type}
use Rattle.cap_machine.specs.States.{tagged}
use Rattle.cap_texts.specs.TextLines.{says_line}
use Rattle.cap_report.specs.{Says.words_text, Sentences.number_text}
use Rattle.cap_run_log.specs.declared.lines.RunPlace.{RunPlace, TheVariants.{General, Special}}
use Rattle.cap_run_log.specs.RunLines.{run_place_spelling}
use Rattle.cap_run.specs.declared.ends.RunRefusal.{RunRefusal, TheVariants.{NotInvokable, Usual}}
use Rattle.cap_run_report.specs.{CapParts.held_lines, DeriveSentences.word_for}
use Rattle.cap_run_report.specs.declared.cap_parts.Placed.{Placed}

-- why two words are no pair to invoke: the first of its conditions that fails
abbrev pub execute_text : Placed → Placed → List ℕ
execute_text code datum =
    if has_permission code.cap.word.0 permit_execute
    then run_place_spelling datum.place ++ codes " has Execute"
    else run_place_spelling code.place ++ codes " lacks Execute"

abbrev pub datum_permissions_text : Placed → Placed → List ℕ
datum_permissions_text code datum =
    if not (has_permission datum.cap.word.0 permit_invoke)
    then run_place_spelling datum.place ++ codes " lacks CInvoke"
    else execute_text code datum

abbrev pub permissions_text : Placed → Placed → List ℕ
permissions_text code datum =
    if not (has_permission code.cap.word.0 permit_invoke)
    then run_place_spelling code.place ++ codes " lacks CInvoke"
    else datum_permissions_text code datum

abbrev pub types_text : Placed → Placed → List ℕ
types_text code datum =
    run_place_spelling code.place ++ codes " has object type " ++ number_text (otype_of code.cap.word.0) ++ codes ", and "
    ++ run_place_spelling datum.place ++ codes " has " ++ number_text (otype_of datum.cap.word.0)

abbrev pub sealed_pair_text : Placed → Placed → List ℕ
sealed_pair_text code datum =
    if nat_le (otype_of code.cap.word.0) greatest_type && otype_of code.cap.word.0 == otype_of datum.cap.word.0
    then permissions_text code datum
    else types_text code datum

abbrev pub pair_text : Placed → Placed → List ℕ
pair_text code datum =
    if not (is_sealed code.cap.word.0) then run_place_spelling code.place ++ codes " is unsealed"
    else if not (is_sealed datum.cap.word.0) then run_place_spelling datum.place ++ codes " is unsealed"
    else sealed_pair_text code datum

-- of a pair the first without tag
abbrev pub untagged_text : Placed → Placed → List ℕ
untagged_text code datum =
    if code.cap.tag then run_place_spelling datum.place ++ codes " has no tag" else run_place_spelling code.place ++ codes " has no tag"

-- a word of the pair that isn't recorded without its seal: what the rules give for a place, what the line records, and in
-- what they differ
abbrev pub opened_lines : RunPlace → ℕ → Word → List ℕ
opened_lines place sealed_word recorded =
    let word = with_type sealed_word unsealed_type in
    held_lines (codes "gives") place (tagged (record { 0 = word })) ++ held_lines (codes "recorded") place (tagged recorded)
    ++ says_line (word_for place ++ codes ": " ++ words_text (codes "; the rules give ") word recorded.0)

-- why a pair is invoked in vain; of recorded words that aren't theirs the first
abbrev pub fault_lines : Placed → Placed → Word → Word → RunRefusal → List ℕ
fault_lines code datum code_word datum_word (Usual AuthorityUntagged) = says_line (untagged_text code datum)
fault_lines code datum code_word datum_word (Usual WrongResult) =
    if is_opened code.cap.word.0 code_word.0
    then opened_lines (General 31) datum.cap.word.0 datum_word
    else opened_lines (Special 0) code.cap.word.0 code_word
fault_lines code datum code_word datum_word NotInvokable = says_line (pair_text code datum)
fault_lines code datum code_word datum_word refusal = []

-- the code and the data that are invoked, and that
abbrev pub invoked_lines : Placed → Placed → Word → Word → RunRefusal → List ℕ
invoked_lines code datum code_word datum_word refusal =
    held_lines (codes "code") code.place code.cap ++ held_lines (codes "data") datum.place datum.cap
    ++ fault_lines code datum code_word datum_word refusal
