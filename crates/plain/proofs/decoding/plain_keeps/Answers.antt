use Rattle.std.proofs.{Common.{ℕ, ◌+◌, ◌*◌, ◌/◌, ◌^◌, subst, arith}, lemmas.Bool.Decides.nat_tests}
use Rattle.cap_bounds.specs.{Bounds.AreBounds, Range.with_address}
use Rattle.cap_bounds.proofs.Decoded.{AreBounds-unique}
use Rattle.plain.proofs.decoding.plain_keeps.Goals as goal

pub returns : goal.returns
returns c =
    let w = c.args.word.0 in
    let new = c.plain_bounds.result in
    let relation : AreBounds (with_address w c.args.address) new.base new.top =
    subst (λ (x : ℕ). AreBounds (w / 2 ^ 64 * 2 ^ 64 + x) new.base new.top) c.from.ensures c.plain_bounds.ensures.relation in
    let moved = AreBounds-unique (with_address w c.args.address) new.base new.top relation in
    let old = AreBounds-unique w c.plain_bounds-2.result.base c.plain_bounds-2.result.top c.plain_bounds-2.ensures.relation in
    let eq = c.eq.ensures in
    record { keeps = grind (arith, nat_tests) }
