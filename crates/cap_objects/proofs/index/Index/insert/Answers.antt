use Rattle.std.proofs.Common.{◌≡◌, ◌<◌, ℕ, drop, inl, inr, subst, arith, rules}
use Rattle.std.proofs.lemmas.Bool.{cases_lt}
use Rattle.cap_objects.specs.{Blocks.Each}
use Rattle.cap_objects.proofs.KeptLemmas.{of_ok}
use Rattle.cap_objects.proofs.index.Index.insert.Goals as goal

pub put_within-requires-2-clause-some : goal.put_within-requires-2-clause-some
put_within-requires-2-clause-some c =
    let n = c.count_to-count-2 in
    elim (cases_lt 0 n.result) [
      | inl some ↦ some
      | inr not_some ↦
          let none : n.result ≡ 0 = omega arith in
          absurd (of_ok c.make_room.result (search rules) c.make_room.ensures.begins c.args.key c.count_to-count.ensures.low
          (subst (λ (m : ℕ). Each (λ b. c.args.key < b.first) (drop m c.make_room.new.self.blocks.items)) none n.ensures.high))
    ]
