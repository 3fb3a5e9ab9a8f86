use Rattle.cap_context.specs.{Keepings.hart_kept, Writers.written}
use Rattle.cap_context.proofs.KeptLemmas.{no_context, on_ok, with_context}
use Rattle.cap_context.proofs.contexts.push_context.Goals as goal

pub returns-in_default : goal.returns-in_default
returns-in_default c =
    let line = rw c.as_slice.ensures.value at c.refused_line.ensures.value in
    record { ok = λ given kept. no_context c.args.count given c.args.report.now.items c.refused_line.result line c.in_default.not-Some }

pub returns : goal.returns
returns c =
    let held = c.args.kept.now in
    let report = c.args.report.now.items in
    let yes = c.has_context.ensures.yes c.if-not-has_context.false in
    let line = rw c.as_slice.ensures.value at c.in-Some.ensures.value in
    let before = rw c.as_slice-2.ensures.value at c.in_ok-push_before.ensures.ok in
    record {
      ok = on_ok c.push_writers.result (λ wrote given kept.
          with_context c.args.count c.in-Some.line held.skipped (hart_kept held.hart) (written held.writers) held.bytes.items given report
          c.push_before.new.report.items c.push_writers.new.report.items line (kept yes.0) yes.1 before wrote) c.push_writers.ensures.ok;
    }
