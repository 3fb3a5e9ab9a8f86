use Rattle.std.specs.List.Sorted.{IsNonDecreasingBy}
use Rattle.std.proofs.Common.{◌≡◌, ℕ, ◌+◌, ◌-◌, ◌<◌, ◌≤◌, List, ◌++◌, length, set, take, drop, refl, sym, ap, subst}
use Rattle.std.proofs.{Common.{◌∙◌, arith, IsPermutation, length-drop, length-set, take_all}, lemmas.List.take_rest}
use Rattle.std.proofs.lemmas.Slice.{take-put_mid}
use borrow.Rule.Slice.PartMut.{put_mid, same_len_mid}
use Rattle.tagmem_lent.specs.{declared.lent_store.Slot.Slot, Lent.part}
use Rattle.tagmem_lent.proofs.Joining.{IsJoining, IsJoining-begun, IsJoining-more, first_rises, from_le, joined_so}
use Rattle.tagmem_lent.proofs.{Joining.{second_is, start_le}, Merging.granule_of}
use Rattle.tagmem_lent.proofs.lent_store.append.Goals as goal

pub overflow_sub-start : goal.overflow_sub-start
overflow_sub-start c =
    from_le (set c.args.slots.now c.args.used c.args.slot) c.loop-level.slots c.args.used c.loop-level.level c.loop-level.start c.run-from.result.0
    c.loop-level.invariant (omega (arith, c.requires.free, length-set c.args.slots.now c.args.used c.args.slot)) c.run-from.ensures.from

pub loop-level-init : goal.loop-level-init
loop-level-init c = IsJoining-begun (set c.args.slots.now c.args.used c.args.slot) c.args.used
    (omega (arith, c.requires.free, length-set c.args.slots.now c.args.used c.args.slot))

pub merge-requires-clause-ordered : goal.merge-requires-clause-ordered
merge-requires-clause-ordered c =
    let free : c.args.used < length (set c.args.slots.now c.args.used c.args.slot) =
    omega (arith, c.requires.free, length-set c.args.slots.now c.args.used c.args.slot) in
    let le = start_le (set c.args.slots.now c.args.used c.args.slot) c.loop-level.slots c.args.used c.loop-level.level c.loop-level.start c.run-from.result.0
    c.loop-level.invariant free c.run-from.ensures.from in
    omega (arith, le)

-- the runs of the level and of those below it rise
pub merge-requires-clause-left : goal.merge-requires-clause-left
merge-requires-clause-left c =
    let start = c.loop-level.start in
    let from = c.run-from.result.0 in
    let rises = first_rises (set c.args.slots.now c.args.used c.args.slot) c.loop-level.slots c.args.used c.loop-level.level start from
    c.loop-level.invariant (omega (arith, c.requires.free, length-set c.args.slots.now c.args.used c.args.slot)) c.run-from.ensures.from
    c.args.slots.now c.args.slot refl (omega (arith, c.requires.free)) c.requires.runs in
    subst (λ (l : List Slot). IsNonDecreasingBy granule_of (take (start - from) l)) (sym (take_rest c.loop-level.slots from)) rises

pub merge-requires-clause-right : goal.merge-requires-clause-right
merge-requires-clause-right c =
    let start = c.loop-level.start in
    let from = c.run-from.result.0 in
    let is = second_is (set c.args.slots.now c.args.used c.args.slot) c.loop-level.slots c.args.used c.loop-level.level start from
    c.loop-level.invariant (omega (arith, c.requires.free, length-set c.args.slots.now c.args.used c.args.slot)) c.run-from.ensures.from in
    subst (λ (l : List Slot). IsNonDecreasingBy granule_of (part (start - from) (c.args.used + 1 - from) l)) (sym (take_rest c.loop-level.slots from))
    (subst (IsNonDecreasingBy granule_of) (sym is) c.loop-level.invariant.rises)

-- the merge leaves the slots before the run as they were
pub loop-level-preserved : goal.loop-level-preserved
loop-level-preserved c =
    let start = c.loop-level.start in
    let from : ℕ = c.run-from.result.0 in
    let placed : List Slot = set c.args.slots.now c.args.used c.args.slot in
    let slots : List Slot = c.loop-level.slots in
    let area : List Slot = c.merge.new.slots in
    let many : ℕ = c.args.used + 1 - from in
    let rest = take_rest slots from in
    let free : c.args.used < length placed = omega (arith, c.requires.free, length-set c.args.slots.now c.args.used c.args.slot) in
    let inside : from ≤ length slots = omega (arith, c.run-from.ensures.ordered, c.run-from.ensures.inside, free, c.loop-level.invariant.len) in
    let long : length area ≡ length (drop from slots) = c.merge.ensures.len ∙ ap length rest in
    let same_long : length (put_mid from (length slots - from) slots area) ≡ length slots = same_len_mid from (length slots - from) slots area c.merge.ensures.len in
    let whole : put_mid from (length slots - from) slots area ≡ take from slots ++ area =
    sym (take_all (length slots) (put_mid from (length slots - from) slots area) (omega arith))
    ∙ take-put_mid from (length slots - from) slots area (length slots) (omega (arith, long, length-drop from slots, inside)) inside in
    subst (λ (l : List Slot). IsJoining placed c.args.used l (c.loop-level.level + 1) from) (sym whole)
    (IsJoining-more placed slots c.args.used c.loop-level.level start from c.loop-level.invariant free c.run-from.ensures.from area long
    (subst (λ (l : List Slot). IsPermutation (take many l) (take many area)) rest c.merge.ensures.permuted) c.merge.ensures.rises)

pub returns : goal.returns
returns c =
    let low = c.lowest_level-level-end in
    let is : c.loop-level.level ≡ low.result + 1 = omega (arith, c.loop-level-test.false, c.loop-level.auto) in
    let so = joined_so c.args.used c.args.slots.now c.loop-level.slots c.args.slot c.loop-level.level c.loop-level.start low.result c.loop-level.invariant
    c.requires.free is low.ensures.ends low.ensures.begins c.requires.runs c.requires.absent c.requires.stored in
    record { len = c.loop-level.invariant.len ∙ length-set c.args.slots.now c.args.used c.args.slot; runs = so.runs; contents = so.contents }
