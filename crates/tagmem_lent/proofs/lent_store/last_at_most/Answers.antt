use Rattle.std.specs.Int.Count.{count_leading_zeros}
use Rattle.std.proofs.Common.{◌≡◌, ℕ, ◌+◌, ◌-◌, ◌*◌, ◌%◌, ◌^◌, ◌<◌, List, get_or, length, refl, sym, ap, subst, ◌∙◌}
use Rattle.std.proofs.Common.{arith, pow_pos}
use Rattle.tagmem_lent.specs.declared.lent_store.Slot.{Slot}
use Rattle.tagmem_lent.proofs.{Lent.no_slot, Searching.{IsLastAtMost-here, IsWindow, IsWindow-first, IsWindow-last}}
use Rattle.tagmem_lent.proofs.Searching.{IsWindow-turn, highest, quarters_inside}
use Rattle.tagmem_lent.proofs.lent_store.last_at_most.Goals.{then-run-last, else-run-last}
use Rattle.tagmem_lent.proofs.lent_store.last_at_most.Goals.{else-turns-eq1-via-then-turns-eq1+else-run-start}
use Rattle.tagmem_lent.proofs.lent_store.last_at_most.Goals.{else-turns-eq1-via-else-turns-eq1}
use Rattle.tagmem_lent.proofs.lent_store.last_at_most.Goals as goal

pub overflow_sub-last : goal.overflow_sub-last
overflow_sub-last c =
    let has = highest (length c.args.run.now) c.requires.some c.requires.fits in
    omega (arith, has.le, has.fits)

pub loop-turns-init : goal.loop-turns-init
loop-turns-init c =
    let run : List Slot = c.args.run.now in
    let has = highest (length run) c.requires.some c.requires.fits in
    let turns : ℕ = 63 - count_leading_zeros 64 (length run) in
    let last : ℕ = length run - 1 * 2 ^ turns % 2 ^ 64 in
    let whole : last + 2 ^ turns ≡ length run = omega (arith, has.le, has.fits) in record {
      few = has.few;
      window = elim c.if-run-last.branch [
        | then-run-last w ↦ subst (λ (n : ℕ). IsWindow run c.args.granule n turns) (sym w.start-is)
            (IsWindow-last run c.args.granule c.requires.rises turns last whole w.if-run-last.true)
        | else-run-last w ↦ subst (λ (n : ℕ). IsWindow run c.args.granule n turns) (sym w.start-is)
            (IsWindow-first run c.args.granule c.requires.rises turns last whole has.lt w.if-run-last.false)
      ];
    }

pub bounds-run-start : goal.bounds-run-start
bounds-run-start c =
    let inside = quarters_inside c.args.run.now c.args.granule c.requires.rises _ _ c.loop-turns.invariant.window c.loop-turns-test.true in
    omega (arith, inside.0, inside.1, c.requires.fits)

pub bounds-run-start-in-loop-turns : goal.bounds-run-start-in-loop-turns
bounds-run-start-in-loop-turns c =
    let inside = quarters_inside c.args.run.now c.args.granule c.requires.rises _ _ c.loop-turns.invariant.window c.loop-turns-test.true in
    omega (arith, inside.0, inside.1, c.requires.fits)

pub bounds-run-start-in-loop-turns-2 : goal.bounds-run-start-in-loop-turns-2
bounds-run-start-in-loop-turns-2 c =
    let inside = quarters_inside c.args.run.now c.args.granule c.requires.rises _ _ c.loop-turns.invariant.window c.loop-turns-test.true in
    omega (arith, inside.0, inside.1, c.requires.fits)

pub overflow_add-start-in-loop-turns-2 : goal.overflow_add-start-in-loop-turns-2
overflow_add-start-in-loop-turns-2 c =
    let next = IsWindow-turn c.args.run.now c.args.granule c.requires.rises _ _ c.loop-turns.invariant.window c.loop-turns-test.true c.requires.fits
    _ _ _ refl refl refl in
    omega (arith, next.inside, c.requires.fits)

pub loop-turns-preserved : goal.loop-turns-preserved
loop-turns-preserved c = record {
  few = omega (arith, c.loop-turns.invariant.few);
  window = IsWindow-turn c.args.run.now c.args.granule c.requires.rises _ _ c.loop-turns.invariant.window c.loop-turns-test.true c.requires.fits
      _ _ _ refl refl refl;
}

-- of two slots the second, or the first
pub returns-then-run-start : goal.returns-then-run-start
returns-then-run-start c =
    let run : List Slot = c.args.run.now in
    let start : ℕ = c.loop-turns.start in
    let window = c.loop-turns.invariant.window in
    let to : start + 2 ^ c.loop-turns.turns ≡ start + 1 + 1 = ap (λ (n : ℕ). start + 2 ^ n) c.if-turns-eq1.true ∙ omega arith in
    IsLastAtMost-here run c.args.granule c.requires.rises (start + 1) (omega (arith, to, window.inside)) (λ _. c.if-run-start.true)
    (subst (λ (n : ℕ). n < length run → c.args.granule < (get_or run n no_slot).granule) to window.higher)

pub returns-else-turns-eq1 : goal.returns-else-turns-eq1
returns-else-turns-eq1 c =
    let run : List Slot = c.args.run.now in
    let start : ℕ = c.loop-turns.start in
    let turns : ℕ = c.loop-turns.turns in
    let window = c.loop-turns.invariant.window in
    IsLastAtMost-here run c.args.granule c.requires.rises start (omega (arith, window.inside, pow_pos turns)) window.at_most
    (elim c.else-turns-eq1.branch [
      | else-turns-eq1-via-then-turns-eq1+else-run-start w ↦ λ lt. w.if-run-start.false
      | else-turns-eq1-via-else-turns-eq1 w ↦
          let to : start + 2 ^ turns ≡ start + 1 = ap (λ (n : ℕ). start + 2 ^ n) {y = 0} (omega (arith, c.loop-turns-test.false, w.if-turns-eq1.false)) in
          subst (λ (n : ℕ). n < length run → c.args.granule < (get_or run n no_slot).granule) to window.higher
    ])
