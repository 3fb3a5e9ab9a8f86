use Rattle.std.proofs.Common.{◌≤◌, ℕ, List, ◌++◌, length, take, ap, ◌∙◌, arith, length-take-le}
use Rattle.cap_streams.proofs.ReadBufferLemmas.{grown, is_end-room}
use Rattle.cap_streams.proofs.read_buffer.ReadBuffer.fill.Goals as goal

pub returns-clause-ok : goal.returns-clause-ok
returns-clause-ok g c =
    let w = c.move_to_front.new.self in
    let within : w.end ≤ length w.bytes = omega arith in
    let n = c.in_ok-count.count in
    let piece = c.pull.new.piece in
    let kept = c.in_ok-count.ensures in (
      take n piece,
      length-take-le n piece kept.fits,
      grown w.bytes piece w.start w.end _ n w.ordered within kept.fits ∙ ap (λ (t : List ℕ). t ++ take n piece)
          c.move_to_front.ensures.items,
      kept.bytes,
      kept.end ∙ is_end-room (length piece) n (omega (
        arith,
        c.requires,
        c.move_to_front.ensures.room,
        ap length c.move_to_front.ensures.items,
      )),
    )
