use Rattle.std.proofs.Common.{◌≡◌, ℕ, ap, ◌∙◌}
use Rattle.cap_run.proofs.specials.Bank.save.Goals as goal

pub invariant_of-self : goal.invariant_of-self
invariant_of-self g c = record { zero = ap (λ (f : ℕ → _). f 0) c.save_registers.ensures.caps ∙ c.kept.ensures.kept.zero }
