use Rattle.std.proofs.Common.{◌≡◌, ◌==◌, ℕ, List, [], ◌∷◌, Option, IfSome, arith, eqb-true, false, inl, inr, length, refl, subst, sym, true, None, Some}
use Rattle.cap_texts.specs.declared.fields.{Field.Field, Wrong.Wrong}
use Rattle.cap_texts.specs.Fields.{AllStand, IsFirstWrong, Stands, end_of, size_after}
use Rattle.cap_texts.proofs.FieldLemmas.{none_by}
use Rattle.cap_texts.proofs.fields.+first_wrong.Goals.{then-is_empty, else-is_empty}
use Rattle.cap_texts.proofs.fields.+first_wrong.Goals as goal

-- the byte behind the last field, and behind another
last_end : (more : List Field) (end : ℕ) → true ≡ (length more == 0) → end ≡ 10 → end ≡ end_of more
last_end [] end is feed = feed
last_end (field ∷ fields) end is feed = absurd (omega (arith, eqb-true (length (field ∷ fields)) 0 (sym is)))

other_end : (more : List Field) (end : ℕ) → false ≡ (length more == 0) → end ≡ 32 → end ≡ end_of more
other_end [] end is space = cc
other_end (field ∷ fields) end is space = space

-- a field doesn't stand, or it stands and a later one doesn't, or all stand
wrong_here : (fields : List Field) (field : Field) (more : List Field) (size end : ℕ) (bytes : List ℕ) → fields ≡ field ∷ more → end ≡ end_of more
    → ((rest : List ℕ) → Stands field size end bytes rest → ⊥) → IsFirstWrong fields size bytes field end bytes
wrong_here fields field more size end bytes are ends none = subst (λ (f : List Field). IsFirstWrong f size bytes field end bytes) (sym are)
    (inl (λ rest stands. none rest (subst (λ (e : ℕ). Stands field size e bytes rest) (sym ends) stands), refl, ends, refl))

wrong_later : (fields : List Field) (field : Field) (more : List Field) (size after end : ℕ) (bytes rest : List ℕ) → fields ≡ field ∷ more
    → end ≡ end_of more → Stands field size end bytes rest → after ≡ size_after field size bytes → (found : Option Wrong)
    → IfSome found (λ wrong. IsFirstWrong more after rest wrong.field wrong.end wrong.rest.now)
    → IfSome found (λ wrong. IsFirstWrong fields size bytes wrong.field wrong.end wrong.rest.now)
wrong_later fields field more size after end bytes rest are ends stands after_is None is = tt
wrong_later fields field more size after end bytes rest are ends stands after_is (Some wrong) is =
    subst (λ (f : List Field). IsFirstWrong f size bytes wrong.field wrong.end wrong.rest.now) (sym are)
    (inr (
      rest,
      subst (λ (e : ℕ). Stands field size e bytes rest) ends stands,
      subst (λ (s : ℕ). IsFirstWrong more s rest wrong.field wrong.end wrong.rest.now) after_is is,
    ))

all_stand : (fields : List Field) (field : Field) (more : List Field) (size after end : ℕ) (bytes rest : List ℕ) → fields ≡ field ∷ more
    → end ≡ end_of more → Stands field size end bytes rest → after ≡ size_after field size bytes → AllStand more after rest → AllStand fields size bytes
all_stand fields field more size after end bytes rest are ends stands after_is all = subst (λ (f : List Field). AllStand f size bytes) (sym are)
    (rest, subst (λ (e : ℕ). Stands field size e bytes rest) ends stands, subst (λ (s : ℕ). AllStand more s rest) after_is all)

pub returns-in-Some-clause-wrong : goal.returns-in-Some-clause-wrong
returns-in-Some-clause-wrong n c =
    let more = c.in_ok-field.more.now in
    let ends : c.if-is_empty.end ≡ end_of more = elim c.if-is_empty.branch [
      | then-is_empty w ↦ last_end more c.if-is_empty.end w.if-is_empty.ensures w.end-is
      | else-is_empty w ↦ other_end more c.if-is_empty.end w.if-is_empty.ensures w.end-is
    ] in
    wrong_later c.args.fields.now c.in_ok-field.field.now more c.args.size c.size_after.result c.if-is_empty.end c.args.bytes.now c.in-Some.rest.now
    c.in_ok-field.ensures.cases.0 ends c.in-Some.ensures.some c.size_after.ensures c.first_wrong.result c.first_wrong.ensures.wrong

pub returns-in-Some-clause-none : goal.returns-in-Some-clause-none
returns-in-Some-clause-none n c =
    let more = c.in_ok-field.more.now in
    let ends : c.if-is_empty.end ≡ end_of more = elim c.if-is_empty.branch [
      | then-is_empty w ↦ last_end more c.if-is_empty.end w.if-is_empty.ensures w.end-is
      | else-is_empty w ↦ other_end more c.if-is_empty.end w.if-is_empty.ensures w.end-is
    ] in
    none_by c.first_wrong.result (all_stand c.args.fields.now c.in_ok-field.field.now more c.args.size c.size_after.result c.if-is_empty.end
    c.args.bytes.now c.in-Some.rest.now c.in_ok-field.ensures.cases.0 ends c.in-Some.ensures.some c.size_after.ensures) c.first_wrong.ensures.none

pub returns-in-None-clause-wrong : goal.returns-in-None-clause-wrong
returns-in-None-clause-wrong n c =
    let more = c.in_ok-field.more.now in
    let ends : c.if-is_empty.end ≡ end_of more = elim c.if-is_empty.branch [
      | then-is_empty w ↦ last_end more c.if-is_empty.end w.if-is_empty.ensures w.end-is
      | else-is_empty w ↦ other_end more c.if-is_empty.end w.if-is_empty.ensures w.end-is
    ] in
    wrong_here c.args.fields.now c.in_ok-field.field.now more c.args.size c.if-is_empty.end c.args.bytes.now c.in_ok-field.ensures.cases.0 ends
    c.in-None.ensures.none
