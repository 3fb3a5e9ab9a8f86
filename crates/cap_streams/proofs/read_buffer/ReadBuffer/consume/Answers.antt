use Rattle.std.proofs.Common.{ℕ, arith, length-take, length-drop}
use Rattle.cap_streams.proofs.ReadBufferLemmas.{consumed}
use Rattle.cap_streams.proofs.read_buffer.ReadBuffer.consume.Goals as goal

pub returns-clause-items : goal.returns-clause-items
returns-clause-items c =
    let w = c.args.self.now in
    consumed w.bytes w.start w.end c.args.count (omega (arith, length-take {A = ℕ}, length-drop {A = ℕ}))
