use Rattle.std.proofs.Common.{ℕ, [], codes, inl, inr, refl, subst}
use Rattle.cap_word.specs.declared.word.Cap.{Cap}
use Rattle.cap_streams.specs.Written.{Writes, Writes-nothing, ◌⨾◌}
use Rattle.cap_run.specs.{HartPlaces.place_in, Machines.run_in}
use Rattle.cap_run_judge.specs.OwnerLists.{hart_place_spelling}
use Rattle.cap_run_report.specs.CapParts.{told_lines}
use Rattle.cap_run_report.proofs.object_parts.put_holder.Goals as goal

pub returns-in-Some-clause-written : goal.returns-in-Some-clause-written
unfolding told_lines
returns-in-Some-clause-written g c =
    let run = run_in c.args.machine.now in
    let hart = c.in-Some.hart in
    let place = c.in-Some.place in (
      _,
      inl ((hart, place), c.in-Some.ensures.some, refl),
      subst
          (λ (current : ℕ). Writes c.args.at (told_lines (codes "holder") (hart_place_spelling current hart place) (run.state (place_in run.harts hart place)))
          c.args.buffer.now c.put_told.new.buffer c.put_told.result) c.hart.ensures.value
          (subst
          (λ (cap : Cap). Writes c.args.at (told_lines (codes "holder") (hart_place_spelling c.hart.result hart place) cap)
          c.args.buffer.now c.put_told.new.buffer c.put_told.result) c.holds_in.ensures.value
          (c.put-at.ensures.written ⨾ c.put_hart_place-at.ensures.text ⨾ c.put_told.ensures.written)),
    )

pub returns-in-None-clause-written : goal.returns-in-None-clause-written
returns-in-None-clause-written g c = ([], inr (c.in-None.ensures.none, refl), Writes-nothing)
