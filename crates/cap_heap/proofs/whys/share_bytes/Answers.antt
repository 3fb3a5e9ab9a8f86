use Rattle.std.proofs.Common.{◌≡◌, ◌+◌, ◌<◌, ◌&&◌, ℕ, ap, lt-ltb, nat_lt, sym}
use Rattle.cap_heap.specs.HeapWhys.{share_bytes}
use Rattle.cap_heap.proofs.whys.share_bytes.Goals as goal

begins_below : (at size other length : ℕ) → at < other + length → nat_lt other (at + size) ≡ share_bytes at size (other, length)
begins_below at size other length below = sym (ap (λ b. b && nat_lt other (at + size)) (lt-ltb at (other + length) below))

pub returns-then-from : goal.returns-then-from
returns-then-from c =
    let below = rw (c.from.ensures, c.from-2.ensures, c.from-3.ensures) at c.if-from.true in
    rw (c.from-then-from.ensures, c.from-then-from-2.ensures, c.from-then-from-3.ensures)
    (begins_below c.args.address c.args.size c.args.other c.args.length below)
