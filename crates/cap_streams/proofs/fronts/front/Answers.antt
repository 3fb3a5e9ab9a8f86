use Rattle.std.proofs.{Common.{◌≢◌, arith, below_more}, lemmas.List.Elements.All-from_get_or}
use Rattle.cap_streams.proofs.FrontLemmas.{HasNoFeed-take, IsLine-at}
use Rattle.cap_streams.proofs.fronts.front.Goals as goal

pub returns-then-window-gt-LINE_LIMIT : goal.returns-then-window-gt-LINE_LIMIT
returns-then-window-gt-LINE_LIMIT c =
    record { found = (omega arith, HasNoFeed-take c.args.bytes.now 96 (omega arith) (λ k below. c.loop-index.invariant k (omega arith))) }

pub returns-else-window-gt-LINE_LIMIT : goal.returns-else-window-gt-LINE_LIMIT
returns-else-window-gt-LINE_LIMIT c =
    record { found = (omega arith, All-from_get_or (λ b. b ≢ 10) c.args.bytes.now 0 (λ k below. c.loop-index.invariant k (omega arith))) }

pub returns-then-bytes-index-eq10 : goal.returns-then-bytes-index-eq10
returns-then-bytes-index-eq10 c = record {
  found = (
    omega arith,
    IsLine-at c.args.bytes.now c.loop-index.index (omega arith) (omega arith) c.if-bytes-index-eq10.true c.loop-index.invariant,
  );
}

pub loop-index-preserved : goal.loop-index-preserved
loop-index-preserved c = below_more _ _ c.loop-index.invariant c.if-bytes-index-eq10.false
