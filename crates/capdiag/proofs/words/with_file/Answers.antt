use Rattle.std.proofs.Common.{◌≡◌, ◌∙◌, bytes_eq, codes, sym, true, Ok}
use Rattle.std.proofs.lemmas.Bool.{cond-true}
use Rattle.capdiag.specs.Orders.{once}
use Rattle.capdiag.proofs.words.with_file.Goals as goal

pub returns-then-eq : goal.returns-then-eq
returns-then-eq c =
    let asked = c.args.asked in
    let is : bytes_eq c.args.word.now (codes "-") ≡ true = sym c.if-eq.ensures in
    record { value = c.once.ensures.value ∙ sym (cond-true (bytes_eq c.args.word.now (codes "-")) (once asked.has_input (record asked { has_input = true })) (Ok asked) is) }
