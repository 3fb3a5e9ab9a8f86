use Rattle.std.proofs.{Common.{◌+◌, ◌∙◌, eq-eqb, length, subst, sym}, lemmas.Bool.{false≢true}}
use Rattle.cap_streams.specs.Front.{IsFront}
use Rattle.cap_turns.proofs.LineLemmas.{cut_no_line, longer_no_line}
use Rattle.cap_turns.proofs.stops.is_whole.Goals as goal

pub returns-in-Line-clause-none : goal.returns-in-Line-clause-none
returns-in-Line-clause-none c = λ other.
    longer_no_line c.args.line.now c.in-Line.length (subst (IsFront c.args.line.now) c.in-Line.is c.requires.found)
    (λ same. false≢true (sym other ∙ eq-eqb (c.in-Line.length + 1) (length c.args.line.now) same))

pub returns-in-Cut-clause-none : goal.returns-in-Cut-clause-none
returns-in-Cut-clause-none c = λ _.
    cut_no_line c.args.line.now (subst (IsFront c.args.line.now) c.in-Cut.is c.requires.found)
