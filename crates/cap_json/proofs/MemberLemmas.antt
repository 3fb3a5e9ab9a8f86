-- The members of lines, one after another.
use Rattle.std.proofs.Common.{◌≡◌, ◌≢◌, ℕ, true, List, [], ◌∷◌, ◌++◌, Result, Ok, Err, OnOk, is_ok, if◌then◌else◌, sym, ap, ◌∙◌, append_assoc}
use Rattle.std.proofs.Common.{codes, length}
use Rattle.std.specs.Bool.{◌==◌}
use Rattle.cap_json.specs.declared.rows.Place.{Place}
use Rattle.cap_json.specs.{Members.{Member, between, closing, filled, form_by_words, member_of, members}, Words.{lines_of, past, upto}}
use Rattle.cap_json.proofs.WordLemmas.{first_line}

-- what was appended for the first line, and the members of the others, are the members of all
module _ (last place : Place) (group rest line more name form values : List ℕ) (some : rest ≢ []) (line_is : line ≡ upto 10 rest)
    (more_is : more ≡ past 10 rest) (name_is : name ≡ upto 32 line) (member_is : (place, form, values) ≡ member_of line) where
  split : members last group (lines_of rest) ≡ between last group place name ++ filled form values ++ members place name (lines_of more)
  unfolding members
  split = ap (members last group) (first_line rest some)
      ∙ ap (λ (l : List ℕ). members last group (l ∷ lines_of (past 10 rest))) (sym line_is)
      ∙ ap (λ (m : List ℕ). members last group (line ∷ lines_of m)) (sym more_is)
      ∙ ap (λ (m : Member). between last group m.0 (upto 32 line) ++ filled m.1 m.2 ++ members m.0 (upto 32 line) (lines_of more)) (sym member_is)
      ∙ ap (λ (n : List ℕ). between last group place n ++ filled form values ++ members place n (lines_of more)) (sym name_is)

  pub members_more : (items with_between with_member : List ℕ) → with_between ≡ items ++ between last group place name
      → with_member ≡ with_between ++ filled form values
      → with_member ++ members place name (lines_of more) ≡ items ++ members last group (lines_of rest)
  members_more items with_between with_member between_is with_is =
      let b = between last group place name in
      let f = filled form values in
      let m = members place name (lines_of more) in
      ap (λ (i : List ℕ). i ++ m) (with_is ∙ ap (λ (i : List ℕ). i ++ f) between_is)
      ∙ append_assoc (items ++ b) f m ∙ append_assoc items b (f ++ m)
      ∙ ap (λ (r : List ℕ). items ++ r) (sym (append_assoc b f m))
      ∙ ap (λ (r : List ℕ). items ++ r) (sym split)

-- where there are no more lines
pub members_none : (last : Place) (group rest : List ℕ) → rest ≡ [] → closing last ≡ members last group (lines_of rest)
unfolding members lines_of
members_none last group rest none = ap (λ (r : List ℕ). members last group (lines_of r)) (sym none)

-- a text that was appended last
pub appended : {E : Type 0} (result : Result (Unit {0}) E) (items text all new : List ℕ) → new ≡ (if is_ok result then items ++ text else items)
    → items ++ text ≡ all → OnOk result (new ≡ all)
appended (Ok done) items text all new is whole = is ∙ whole
appended (Err fault) items text all new is whole = tt

-- the form of a capability's first line whose name no second word follows
pub form_of_value : (values second : List ℕ) → second ≡ past 32 values → true ≡ (length second == 0) → codes "'value':'$'" ≡ form_by_words values
unfolding form_by_words
form_of_value values second is none =
    let lone : (length (past 32 values) == 0) ≡ true = ap (λ (s : List ℕ). length s == 0) (sym is) ∙ sym none in rw lone
