use Rattle.std.specs.List.{starts_with}
use Rattle.std.proofs.Common.{◌≡◌, ◌∙◌, Bool, ap, codes, if◌then◌else◌, nat_eq, sym, true}
use Rattle.capdiag.specs.declared.orders.{Order.{Order, TheVariants.Judge}, Judging.{Judging, TheVariants.{Run, Why}}, RunAsked.RunAsked}
use Rattle.capdiag.specs.Hints.{order_on, with_origins}
use Rattle.capdiag.proofs.fronts.order_on.Goals as goal

pub returns-in-Judge-Why-default-default-default : goal.returns-in-Judge-Why-default-default-default
returns-in-Judge-Why-default-default-default c =
    let at = c.in-Judge-Why-default-default-default in
    let is_run : true ≡ starts_with nat_eq c.args.front.now (codes "run ") = c.if-starts_with.ensures.value in
    let is : c.args.order ≡ Judge (Why at.origins at.run') at.form at.file at.files =
    at.is ∙ ap (λ (j : Judging). Judge j at.form at.file at.files) (rw at.is at at.field-0-is) in
    record {
      value =
          ap (λ (r : RunAsked). Judge (Run r true true) at.form at.file at.files) c.with_origins.ensures.value
          ∙ ap (λ (b : Bool). if b then Judge (Run (with_origins at.origins at.run') true true) at.form at.file at.files
          else Judge (Why at.origins at.run') at.form at.file at.files) is_run
          ∙ sym (ap (λ (order : Order). order_on order c.args.front.now) is);
    }
