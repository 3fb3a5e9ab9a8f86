use Rattle.std.proofs.Common.{ℕ, List, ◌++◌, ◌∙◌, ap, subst, sym, take, take-append-drop}
use Rattle.cap_streams.specs.ReadBuffers.{items}
use Rattle.cap_run_judge.specs.{Readings.stage_of, Turns.run_turns}
use Rattle.cap_run_judge.proofs.streams.take_pulled.Goals as goal
use Rattle.cap_turns.specs.Readings.{StopsAt}

pub returns-clause-taken : goal.returns-clause-taken
returns-clause-taken g c =
    let taken = c.take-taken.result in
    let all = items c.args.pulled.now in
    let left = sym c.consume.ensures.items in
    let stops = rw c.as_slice.ensures.value at c.take-taken.ensures.stops in (
      take taken.count all,
      sym (take-append-drop taken.count all) ∙ ap (λ (r : List ℕ). take taken.count all ++ r) left,
      subst (λ (r : List ℕ). StopsAt run_turns (stage_of c.args.judge.now) (take taken.count all) r taken.stop (stage_of c.take-taken.new.self)) left stops,
    )
