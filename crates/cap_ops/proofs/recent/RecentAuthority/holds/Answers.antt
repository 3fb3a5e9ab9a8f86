use Rattle.std.proofs.Common.{◌≡◌, ◌+◌, ◌*◌, ◌%◌, ◌^◌, not, ap, arith, eq-eqb}
use Rattle.cap_ops.specs.Permissions.{is_sealed}
use Rattle.cap_ops.proofs.{AccessLemmas.{authority_near}, TestLemmas.{covers-inside}}
use Rattle.cap_ops.proofs.recent.RecentAuthority.holds.Goals as goal

pub returns-then-high_half-self-clause-unsealed : goal.returns-then-high_half-self-clause-unsealed
unfolding is_sealed
returns-then-high_half-self-clause-unsealed c = λ _.
    ap not (eq-eqb _ _ (omega (arith, c.high_half.ensures.value, c.if-high_half-self.true, c.args.self.now.unsealed)))

pub returns-then-high_half-self-clause-inside : goal.returns-then-high_half-self-clause-inside
returns-then-high_half-self-clause-inside c = λ held.
    let w = c.args.word.0 in
    let self = c.args.self.now in
    let inside = c.holds.ensures.inside.0 held in
    let at = authority_near w c.args.address c.args.access.offset c.args.access.offset_from c.args.access.offset_to c.requires.address in
    let near = self.near at.0 (omega (arith, at.2, inside)) (omega (arith, at.3, inside)) in
    let is : self.high * 2 ^ 64 + at.0 % 2 ^ 64 ≡ w = omega (arith, at.1, c.high_half.ensures.value, c.if-high_half-self.true) in
    let bounds = rw is at near in
    covers-inside w c.args.address (c.args.address + c.args.access.size) (omega (arith, inside, bounds.0), omega (arith, inside, bounds.1))
