use Rattle.std.proofs.Common.{◌≡◌, ◌<◌, arith, length, subst}
use Rattle.std.specs.Io.KnownBytes.{IsAtEnd}
use Rattle.cap_streams.proofs.sources.readers.ReadSourceSource.pull.Goals as goal

-- named, so that another end is refused at once
pub invariant_of-self : goal.invariant_of-self
invariant_of-self g c = record {
  few_faults = search;
  all_given = λ ended xs is.
      let none : c.in-Ok.count ≡ 0 = omega arith in
      let room : 0 < length c.read.new.buf = grind arith in
      subst IsAtEnd is (c.in-Ok.ensures.bytes.1 none room);
}
