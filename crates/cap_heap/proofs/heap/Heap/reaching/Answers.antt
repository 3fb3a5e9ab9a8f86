use Rattle.std.specs.BTreeMap as tree
use Rattle.std.specs.BTreeSet as set
use Rattle.std.proofs.Common.{◌<◌, ◌≤◌, ◌≡◌, ℕ, Option, Some, subst, arith, IfSome, MatchOption, nat_cmp}
use Rattle.cap_bounds.specs.Rounding.{rounded_base, rounded_top}
use Rattle.cap_heap.specs.Neighbours.{IsLastBelow}
use Rattle.cap_heap.proofs.{Neighbouring.{apart-straight, from-above, shares-under}, Rounded.apart-empty}
use Rattle.cap_heap.proofs.heap.Heap.reaching.Goals as goal

pub returns-then-length-eq0 : goal.returns-then-length-eq0
returns-then-length-eq0 c other size is = apart-empty c.args.address c.args.length other size c.if-length-eq0.true

pub returns-in-Some : goal.returns-in-Some
returns-in-Some c =
    let s = c.args.self.now in
    let lengths = tree.get nat_cmp s.lengths in
    shares-under s.bounds lengths (set.contains nat_cmp s.empty) s.apart s.long c.args.address c.args.length (omega (arith, c.if-length-eq0.false))
    c.in-Some.entry
    (subst (λ (below : Option (ℕ × ℕ)). IsLastBelow lengths (rounded_top c.args.address c.args.length) below) c.in-Some.ensures.0
    (subst (λ (top : ℕ). IsLastBelow lengths top c.last_below.result) c.requires.top c.last_below.ensures))
    (omega (arith, c.in-Some.ensures.1, c.requires.base))

pub returns-then-self : goal.returns-then-self
returns-then-self c =
    let s = c.args.self.now in
    let lengths = tree.get nat_cmp s.lengths in
    apart-straight s.bounds lengths (set.contains nat_cmp s.empty) s.apart s.long c.args.address c.args.length
    (omega (arith, c.if-length-eq0.false)) c.last_below.result
    (subst (λ (top : ℕ). IsLastBelow lengths top c.last_below.result) c.requires.top c.last_below.ensures)
    (subst (λ (base : ℕ). IfSome c.last_below.result (λ entry. rounded_top entry.0 entry.1 ≤ base)) c.requires.base c.in-None.ensures)
    (s.begins c.if-self.true)

pub returns-else-self : goal.returns-else-self
returns-else-self c =
    let s = c.args.self.now in
    let lengths = tree.get nat_cmp s.lengths in
    from-above s.bounds lengths (set.contains nat_cmp s.empty) s.apart s.long c.args.address c.args.length
    (omega (arith, c.if-length-eq0.false)) c.last_below.result c.first_from.result c.reaching_down.result
    (subst (λ (top : ℕ). IsLastBelow lengths top c.last_below.result) c.requires.top c.last_below.ensures) c.first_from.ensures
    (subst (λ (base : ℕ). IfSome c.last_below.result (λ entry. rounded_top entry.0 entry.1 ≤ base)) c.requires.base c.in-None.ensures)
    (subst (λ (top : ℕ). MatchOption c.reaching_down.result (IfSome c.first_from.result (λ entry. top ≤ rounded_base entry.0 entry.1))
    (λ entry. (c.first_from.result ≡ Some entry) × (rounded_base entry.0 entry.1 < top))) c.requires.top c.reaching_down.ensures)
