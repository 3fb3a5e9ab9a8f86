use Rattle.std.specs.List.Sorted.{IsNonDecreasingBy}
use Rattle.std.proofs.Common.{◌≡◌, List, ◌++◌, length, take, drop, rules, sym, subst, ◌∙◌, length-take-le}
use Rattle.std.proofs.{Math.Seq.take-append_seam, lemmas.List.Sorted.IsNonDecreasingBy-from_sort_by_key}
use Rattle.tagmem_lent.specs.declared.lent_store.Slot.{Slot}
use Rattle.tagmem_lent.proofs.lent_store.merge.Goals as goal

pub returns-then-slots-end-clause-rises : goal.returns-then-slots-end-clause-rises
returns-then-slots-end-clause-rises c =
    let sorted : List Slot = c.sort_unstable_by_key.new.self in
    let rises = IsNonDecreasingBy-from_sort_by_key (λ (slot : Slot). slot.granule) sorted c.sort_unstable_by_key.ensures.sorted (λ a r g called. search rules) in
    let long : length sorted ≡ c.args.end = c.sort_unstable_by_key.ensures.len ∙ length-take-le c.args.end c.args.slots.now c.requires.inside in
    let front : take c.args.end (sorted ++ drop c.args.end c.args.slots.now) ≡ sorted =
    subst (λ n. take n (sorted ++ drop c.args.end c.args.slots.now) ≡ sorted) long (take-append_seam sorted (drop c.args.end c.args.slots.now)) in
    subst (IsNonDecreasingBy (λ (slot : Slot). slot.granule)) (sym front) rises
