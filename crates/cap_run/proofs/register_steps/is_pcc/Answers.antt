use Rattle.std.proofs.Common.{◌+◌, arith, ne_eqb, sym}
use Rattle.cap_run.specs.Run.{first_special}
use Rattle.cap_run.proofs.register_steps.is_pcc.Goals as goal

pub returns-in_default : goal.returns-in_default
returns-in_default c =
    let other = c.in_default.field-0-test in
    let is = c.in_default.field-0-is in
    rw c.in_default.is (sym (ne_eqb (first_special + c.in_default.field-0) first_special (omega (arith, other, is))))
