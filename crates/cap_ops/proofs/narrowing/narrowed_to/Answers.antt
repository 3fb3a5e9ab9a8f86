use Rattle.std.proofs.Common.{◌^◌, ◌<◌, Ok, Err, arith}
use Rattle.cap_word.specs.declared.word.Cap.{Cap}
use Rattle.cap_ops.proofs.NarrowingLemmas.{BoundsEscape-exact, StaysWithin-set_bounds, set_bounds_result-made}
use Rattle.cap_ops.proofs.ReachLemmas.{StaysWithin-same}
use Rattle.cap_ops.proofs.narrowing.narrowed_to.Goals as goal

pub returns-in-Err-clause-escape : goal.returns-in-Err-clause-escape
returns-in-Err-clause-escape c =
    let fits : c.args.length < 2 ^ 64 = omega arith in
    BoundsEscape-exact c.args.source c.args.length c.args.exact (Err c.in-Err.fault) fits (rw c.in-Err.is at c.requires)

pub returns-in-Ok : goal.returns-in-Ok
returns-in-Ok c =
    let source = c.args.source in
    let ends = rw c.in-Ok.is at c.requires in
    let made : Cap = record { tag = source.tag; word = c.with_bounds.result } in
    let fits : c.args.length < 2 ^ 64 = omega arith in
    let is = set_bounds_result-made source c.with_bounds.result.0 c.args.length _ _ _ _ _ c.address.ensures.value
    ends.1 c.with_bounds.ensures.word in
    record {
      outcome = (ends.0, is);
      stays_within =
          StaysWithin-same made _ source is (StaysWithin-set_bounds source c.args.length c.args.exact fits ends.0);
      escape = BoundsEscape-exact source c.args.length c.args.exact (Ok made) fits (ends.0, is);
    }
