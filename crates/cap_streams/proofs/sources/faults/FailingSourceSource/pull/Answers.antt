use Rattle.std.proofs.Common.{◌≡◌, ◌-◌, ℕ, Option, None, Some, ap}
use Rattle.std.specs.Option.{option_map}
use Rattle.cap_streams.specs.Wrapped.{pulls_left}
use Rattle.cap_streams.proofs.sources.faults.FailingSourceSource.pull.Goals.{in-Some, in_default}
use Rattle.cap_streams.proofs.sources.faults.FailingSourceSource.pull.Goals as goal

-- one pull fewer
one_fewer : (before after : Option ℕ) (count : ℕ) → before ≡ Some count → after ≡ Some (count - 1) → after ≡ option_map (λ n. n - 1) before
one_fewer before after count was is = rw was is

-- none that fails is to come
none_fewer : (before after : Option ℕ) → before ≡ None → after ≡ before → after ≡ option_map (λ n. n - 1) before
none_fewer before after was is = rw was (rw was at is)

pub returns-clause-waiting : goal.returns-clause-waiting
returns-clause-waiting g c = λ _. elim c.match-self.branch [
  | in-Some w ↦ one_fewer (pulls_left c.args.self.now) (pulls_left c.match-self.self) w.in-Some.count w.in-Some.is (ap pulls_left w.self-is)
  | in_default w ↦ none_fewer (pulls_left c.args.self.now) (pulls_left c.match-self.self) w.in_default.is (ap pulls_left w.self-is)
]
