use Rattle.std.proofs.Common.{◌≡◌, ◌*◌, ◌^◌, sym, ap, arith}
use Rattle.cap_bounds.specs.Bounds.{length_of}
use Rattle.cap_bounds.proofs.{Decoded.{length_is}, WrappedBounds.{extent_is}}
use Rattle.cap_bounds.proofs.decoding.extent_of.Goals as goal

pub returns-then-span-eq0-clause-none : goal.returns-then-span-eq0-clause-none
returns-then-span-eq0-clause-none c = λ _.
    let s = c.scale_of-cut_exponent in
    let length : s.result.span * 2 ^ s.result.cut_exponent ≡ length_of c.args.word.0 =
    rw (s.ensures.cut_exponent, s.ensures.span) (sym (length_is c.args.word.0)) in
    omega (arith, c.requires.sound.0, length, ap (λ n. n * 2 ^ s.result.cut_exponent) c.if-span-eq0.true)

pub invariant_of-result : goal.invariant_of-result
invariant_of-result c =
    let s = c.scale_of-cut_exponent in
    let is = extent_is c.args.word.0 s.result.cut_exponent s.result.b s.result.span c.address.result c.base_from.result c.requires.sound
    s.ensures.cut_exponent s.ensures.b s.ensures.span c.address.ensures.value c.base_from.ensures (omega (arith, c.if-span-eq0.false)) in
    record { fits = omega (arith, is.1, c.requires.sound.1) }

pub returns-clause-some : goal.returns-clause-some
returns-clause-some c =
    let s = c.scale_of-cut_exponent in
    extent_is c.args.word.0 s.result.cut_exponent s.result.b s.result.span c.address.result c.base_from.result c.requires.sound
    s.ensures.cut_exponent s.ensures.b s.ensures.span c.address.ensures.value c.base_from.ensures (omega (arith, c.if-span-eq0.false))
