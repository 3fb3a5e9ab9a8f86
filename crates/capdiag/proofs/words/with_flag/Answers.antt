use Rattle.std.proofs.{Common.{◌≡◌, ◌∙◌, Some, ap, bytes_eq, codes, false, rules, sym, true}, lemmas.Bool.cond-false}
use Rattle.capdiag.specs.declared.orders.Judging.{Judging, TheVariants.{Run, Why}}
use Rattle.capdiag.specs.Orders.{with_asked_flag, with_flag, with_why_flag}
use Rattle.capdiag.proofs.words.with_flag.Goals as goal

pub returns-in_default : goal.returns-in_default
returns-in_default c =
    let word = c.args.word.now in
    let origins = c.in-Why.origins in
    let run = c.in-Why.run' in
    let other : bytes_eq c.args.word.now (codes "--origins") ≡ false = search rules in
    record {
      value =
          c.with_why_flag.ensures.value
          ∙ sym (cond-false (bytes_eq word (codes "--origins")) (Some (origins, Why true run)) (with_why_flag origins run word) other)
          ∙ sym (ap (λ (j : Judging). with_flag j word) c.in-Why.is);
    }

pub returns-in_default-word-2 : goal.returns-in_default-word-2
returns-in_default-word-2 c =
    let word = c.args.word.now in
    let run = c.in-Run.run' in
    let why = c.in-Run.why in
    let told = c.in-Run.told in
    let other : bytes_eq c.args.word.now (codes "--why") ≡ false = search rules in
    record {
      value =
          c.with_asked_flag.ensures.value
          ∙ sym (cond-false (bytes_eq word (codes "--why")) (Some (why, Run run true told)) (with_asked_flag run why told word) other)
          ∙ sym (ap (λ (j : Judging). with_flag j word) c.in-Run.is);
    }
