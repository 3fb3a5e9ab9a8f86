use Rattle.std.proofs.Common.{arith}
use Rattle.cap_log.specs.declared.kinds.Head.{Head}
use Rattle.cap_log.proofs.kinds.HeadPart.take.Goals as goal

-- no head stands there
pub returns-clause-none : goal.returns-clause-none
returns-clause-none c Head.Move rest e = c.in_default.ensures.none 0 Head.End (omega arith) rest e.1
returns-clause-none c Head.Load rest e = c.in_default.ensures.none 1 Head.End (omega arith) rest e.1
returns-clause-none c Head.Store rest e = c.in_default.ensures.none 2 Head.End (omega arith) rest e.1
returns-clause-none c Head.SetAddr rest e = c.in_default.ensures.none 3 Head.End (omega arith) rest e.1
returns-clause-none c Head.AndPerm rest e = c.in_default.ensures.none 4 Head.End (omega arith) rest e.1
returns-clause-none c Head.ClearTag rest e = c.in_default.ensures.none 5 Head.End (omega arith) rest e.1
returns-clause-none c Head.SetBounds rest e = c.in_default.ensures.none 6 Head.End (omega arith) rest e.1
returns-clause-none c Head.LoadCap rest e = c.in_default-short.ensures.none rest e.1
returns-clause-none c Head.StoreCap rest e = c.in_default-short-2.ensures.none rest e.1
returns-clause-none c Head.SetBoundsExact rest e = c.in_default-long.ensures.none rest e.1
returns-clause-none c Head.Seal rest e = c.in_default-long-2.ensures.none rest e.1
returns-clause-none c Head.Unseal rest e = c.in_default-long-3.ensures.none rest e.1
returns-clause-none c Head.Root rest e = c.in_default-long-4.ensures.none rest e.1
returns-clause-none c Head.Mode rest e = c.in_default-long-5.ensures.none rest e.1
returns-clause-none c Head.Version rest e = c.in_default-long-6.ensures.none rest e.1
returns-clause-none c Head.End rest e = c.in_default-short-3.ensures.none rest e.1
