use Rattle.std.proofs.Common.{◌+◌, ◌-◌, ◌^◌, arith, ltb-true, lt-ltb, pow_pos}
use Rattle.cap_bounds.proofs.Units.{div_up-last, down-le-down}
use Rattle.cap_bounds.proofs.rounding.fast_path.covers_few.Goals as goal

pub returns : goal.returns
returns c =
    let v = 2 ^ (c.args.e + 3) in
    let pos = pow_pos (c.args.e + 3) in
    let last = div_up-last c.args.base c.args.length v pos (omega (arith, c.requires.long)) in
    let order = down-le-down c.args.base (c.args.base + (c.args.length - 1)) v pos (omega arith) in (
      λ is. omega (arith, last, order, c.units_down.ensures, c.units_down-2.ensures, ltb-true _ _ is),
      λ few. lt-ltb _ _ (omega (arith, last, order, c.units_down.ensures, c.units_down-2.ensures, few)),
    )
