use Rattle.std.proofs.Common.{◌≡◌, ◌≤◌, ◌-◌, ◌+◌, ℕ, OnOk, Result, Ok, Err, take, sym, subst, arith}
use Rattle.cap_objects.specs.{Blocks.Each}
use Rattle.cap_objects.proofs.index.Index.make_room.Goals as goal

weaker : {A E P Q : Type 0} (r : Result A E) → (P → Q) → OnOk r P → OnOk r Q
weaker (Ok x) f p = f p
weaker (Err e) f p = tt

pub returns-then-count-eq0-clause-begins : goal.returns-then-count-eq0-clause-begins
returns-then-count-eq0-clause-begins c = weaker c.begin.result (λ none key low. none key) c.begin.ensures.begins

pub returns-clause-begins : goal.returns-clause-begins
returns-clause-begins c =
    let s = c.args.self.now in
    let one : c.args.count - 1 + 1 ≡ c.args.count = omega (arith, c.if-count-eq0.false) in
    weaker c.split.result (λ none key low. none key (subst (λ (n : ℕ). Each (λ b. b.first ≤ key) (take n s.blocks.items)) (sym one) low)) c.split.ensures.begins
