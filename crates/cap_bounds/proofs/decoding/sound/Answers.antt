use Rattle.std.proofs.Common.{◌≡◌, ◌+◌, arith, le-leb, leb-true}
use Rattle.cap_bounds.specs.Bounds.{base_of, length_of, top_of}
use Rattle.cap_bounds.proofs.decoding.sound.Goals as goal

pub returns-then-from-length : goal.returns-then-from-length
returns-then-from-length c =
    let d = c.decode-base.ensures in
    let adds : base_of c.args.word.0 + length_of c.args.word.0 ≡ top_of c.args.word.0 = omega (arith, c.if-from-length.true, c.from.ensures, d.base, d.top, d.length) in
    record {
      sound = (
        λ is. (adds, omega (arith, d.top, leb-true _ _ is)),
        λ sound. le-leb _ _ (omega (arith, d.top, sound.1)),
      );
    }
