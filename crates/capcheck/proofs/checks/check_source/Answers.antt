use Rattle.std.proofs.Common.{refl, rules, take, ℕ}
use Rattle.cap_vectors.specs.VectorFiles.{vector_line}
use Rattle.capcheck.specs.Answers.{vector_status}
use Rattle.capcheck.proofs.checks.check_source.Goals as goal

pub returns-in-Err-push_all-clause-done : goal.returns-in-Err-push_all-clause-done
returns-in-Err-push_all-clause-done g c =
    let verdict = c.in-Ok.verdict in
    let e = c.in-Ok.ensures.checked in
    let part : (n : ℕ) × g.K.Sink.took c.args.sink.now c.push_all.new.sink (take n (vector_line verdict)) = search rules in
    (e.given, e.gives, (vector_line verdict, vector_status verdict, (verdict, e.verdict, refl, refl), part.0, part.1))
