use Rattle.std.proofs.Common.{◌≡◌, ◌==◌, if◌then◌else◌, ℕ, None, Option, Some, inl, inr, sym, ap, ◌∙◌, rules}
use Rattle.std.proofs.lemmas.Bool.{cond-false, cond-true, Decides.{eqb_tells}}
use Rattle.cap_objects.specs.{Counts.is_owner, IndexIn.at}
use Rattle.cap_objects.proofs.KeptLemmas.{of_ok}
use Rattle.cap_objects.proofs.bases.insert_keys.Goals as goal

-- a number that was put in and taken out again
pub returns-then-is_err-2-clause-err : goal.returns-then-is_err-2-clause-err
returns-then-is_err-2-clause-err c key =
    let put = of_ok c.insert.result (search rules) c.insert.ensures.ok in
    let number = c.from-then-is_err-2.result in
    let same_number : c.from.result ≡ number = c.from.ensures ∙ sym c.from-then-is_err-2.ensures in
    let old = at c.args.numbers.now in
    elim (eqb_tells key number) [
      | inl same ↦ c.remove.ensures key ∙ cond-true (key == number) None (at c.insert.new.self key) same.0
          ∙ sym (ap old (same.1 ∙ c.from-then-is_err-2.ensures) ∙ c.requires.new_number)
      | inr unlike ↦ c.remove.ensures key ∙ cond-false (key == number) None (at c.insert.new.self key) unlike.0 ∙ put key
          ∙ ap (λ (n : ℕ). if key == n then Some c.args.slot else old key) same_number ∙ cond-false (key == number) (Some c.args.slot) (old key) unlike.0
    ]

-- a base that was put in
pub returns-else-is_err-2-clause-ok_base : goal.returns-else-is_err-2-clause-ok_base
returns-else-is_err-2-clause-ok_base c key =
    let put = of_ok c.insert-then-object.result (search rules) c.insert-then-object.ensures.ok in
    let object = c.args.object in
    put key ∙ sym (ap (λ (k : Option ℕ). if is_owner key k then Some c.args.slot else at c.args.bases.now key)
    (cond-true object.long (Some object.base) None c.if-object.true))
