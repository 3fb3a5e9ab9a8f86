use Rattle.std.proofs.{Common.{inl, inr}, lemmas.Bool.cases_lt}
use Rattle.cap_bounds.specs.Bounds.{cut_exponent_of}
use Rattle.cap_bounds.proofs.Decoded.{IsWindow-window_start, IsWindow-unique}
use Rattle.cap_bounds.proofs.Keeping.{KeepsBounds-not_always, KeepsBounds-margins}
use Rattle.cap_bounds.proofs.range.reach.Goals as goal

pub returns-clause-every : goal.returns-clause-every
returns-clause-every c = (
  c.window_of.ensures.every,
  λ all. elim (cases_lt (cut_exponent_of c.args.word.0) 50) [
    | inl near ↦ absurd (KeepsBounds-not_always c.args.word.0 near all)
    | inr far ↦ c.window_of.ensures.none.1 far
  ],
)

pub returns-clause-window : goal.returns-clause-window
returns-clause-window c = IsWindow-window_start c.args.word.0

pub returns-clause-unique : goal.returns-clause-unique
returns-clause-unique c = IsWindow-unique c.args.word.0

pub returns-clause-margins : goal.returns-clause-margins
returns-clause-margins c = KeepsBounds-margins c.args.word.0
