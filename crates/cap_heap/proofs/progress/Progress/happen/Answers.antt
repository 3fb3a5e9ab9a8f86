use Rattle.std.proofs.Common.{◌≡◌, ◌<◌, ◌+◌, ◌-◌, ◌^◌, ◌++◌, ◌∷◌, [], length, sym, subst, arith}
use Rattle.cap_heap.specs.{declared.events.Event.Event, Events.{mallocs, frees}, HeapReports.IsReportOf, Heaps.live_in}
use Rattle.cap_heap.proofs.ReportLemmas.{report-malloc, report-free}
use Rattle.cap_heap.proofs.RunLemmas.{Reaches-push, Reaches-same, live_after}
use Rattle.cap_heap.proofs.progress.Progress.happen.Goals as goal

pub returns-in-Malloc-clause-ok : goal.returns-in-Malloc-clause-ok
returns-in-Malloc-clause-ok c root events reaches =
    let done = c.in-Ok.ensures in
    let old = c.args.self.now in
    let few : length events < 2 ^ 32 - 1 = omega (arith, c.if-self.false, reaches.count_is, reaches.runs.few) in
    let live = live_after old.heap c.happen.new.self old.report c.add.new.self old.events root events c.args.event reaches c.requires.range few
    done.can done.ok done.count done.bounds in
    let counted : c.live.result + frees (events ++ c.args.event ∷ []) ≡ mallocs (events ++ c.args.event ∷ []) =
    omega (arith, live, c.live.ensures.count) in
    let told = report-malloc old.report c.add.new.self events c.in-Malloc.address c.in-Malloc.length c.live.result reaches.report_is c.add.ensures
    (subst (λ (event : Event). c.live.result + frees (events ++ event ∷ []) ≡ mallocs (events ++ event ∷ [])) c.in-Malloc.is counted) in
    Reaches-push old.heap c.happen.new.self old.report c.add.new.self old.events root events c.args.event reaches c.requires.range few
    done.can done.ok done.count done.bounds
    (subst (λ (event : Event). IsReportOf c.add.new.self (events ++ event ∷ [])) (sym c.in-Malloc.is) told)

pub returns-in-Free-clause-ok : goal.returns-in-Free-clause-ok
returns-in-Free-clause-ok c root events reaches =
    let done = c.in-Ok.ensures in
    let old = c.args.self.now in
    let few : length events < 2 ^ 32 - 1 = omega (arith, c.if-self.false, reaches.count_is, reaches.runs.few) in
    let live = live_after old.heap c.happen.new.self old.report old.report old.events root events c.args.event reaches c.requires.range few
    done.can done.ok done.count done.bounds in
    let told = report-free old.report events _ (live_in c.happen.new.self) reaches.report_is
    (subst (λ (event : Event). live_in c.happen.new.self + frees (events ++ event ∷ []) ≡ mallocs (events ++ event ∷ [])) c.in-Free.is live) in
    Reaches-push old.heap c.happen.new.self old.report old.report old.events root events c.args.event reaches c.requires.range few
    done.can done.ok done.count done.bounds
    (subst (λ (event : Event). IsReportOf old.report (events ++ event ∷ [])) (sym c.in-Free.is) told)

pub returns-in-Err-clause-stays : goal.returns-in-Err-clause-stays
returns-in-Err-clause-stays c root events reaches =
    let same = c.in-Err.ensures in
    let old = c.args.self.now in
    Reaches-same old.heap c.happen.new.self old.report old.events root events same.bounds same.err same.err_count reaches
