use Rattle.std.proofs.Common.{◌≡◌, ◌≢◌, ℕ, List, [], ◌∷◌, ◌++◌, ap, length, sym, ◌∙◌, arith, rules}
use Rattle.cap_log.proofs.Cuts.{same_cut}
use Rattle.cap_heap.proofs.readers.read_part.Goals as goal

pub returns-then-operands-gt-OPERANDS_LIMIT : goal.returns-then-operands-gt-OPERANDS_LIMIT
returns-then-operands-gt-OPERANDS_LIMIT g c part fits is =
    omega (arith, (c.requires.short part fits).0, ap length is, c.if-operands-gt-OPERANDS_LIMIT.true)

pub returns-else-is_empty : goal.returns-else-is_empty
returns-else-is_empty g c part fits is =
    let text : c.args.operands.now ++ 10 ∷ [] ≡ g.P.Part.spelled c.in_ok-part.part ++ 10 ∷ c.in_ok-part.rest.now = search rules in
    let more : c.in_ok-part.rest.now ≢ [] = search rules in
    more (sym (same_cut 10 (g.P.Part.spelled part) (g.P.Part.spelled c.in_ok-part.part) [] c.in_ok-part.rest.now
    (c.requires.short part fits).1 (c.requires.short c.in_ok-part.part c.in_ok-part.ensures.some.0).1
    (ap (λ (bs : List ℕ). bs ++ 10 ∷ []) (sym is) ∙ text)).1)
