use Rattle.std.specs.FinMap as map
use Rattle.std.proofs.Common.{◌≡◌, ℕ, zero, suc, ◌+◌, ◌-◌, ◌≤◌, List, take, Option, unwrap_or, refl, sym, ap, ◌∙◌}
use Rattle.std.proofs.{Common.{arith, replicate}, lemmas.List.{drop-replicate, take-replicate}}
use Rattle.cap_word.specs.Memory.{number_of}
use Rattle.tagmem.specs.Granules.{Entry, blank}
use Rattle.tagmem.proofs.Granules.{shown-none, shown-some}
use Rattle.cap_machine.specs.Changes.{number_at}
use Rattle.cap_machine.proofs.machine.number_in.Goals as goal

-- bytes that are all 0 spell 0
zeros : (n : ℕ) → number_of (replicate n 0) ≡ 0
unfolding number_of
zeros zero = refl
zeros (suc n) = omega (arith, zeros n)

number_at-zeros : (byte_index size : ℕ) → byte_index + size ≤ 16 → number_at (replicate 16 0) byte_index size ≡ 0
number_at-zeros byte_index size inside =
    ap (λ (bytes : List ℕ). number_of (take size bytes)) (drop-replicate byte_index 16 0)
    ∙ ap number_of (take-replicate size (16 - byte_index) 0 (omega arith)) ∙ zeros size

pub returns-in-Some : goal.returns-in-Some
returns-in-Some g c =
    let found = map.get (g.M.TaggedStore.contents c.args.memory.now) c.args.granule in
    record {
      value =
          c.number_from.ensures ∙ ap (λ (bytes : List ℕ). number_at bytes c.args.byte_index c.args.size)
          (sym (shown-some found c.in-Some.entry (sym c.in-Some.ensures.value)).1);
    }

pub returns-in-None : goal.returns-in-None
returns-in-None g c =
    let found = map.get (g.M.TaggedStore.contents c.args.memory.now) c.args.granule in
    record {
      value =
          sym (ap (λ (o : Option Entry). number_at (unwrap_or o blank).1 c.args.byte_index c.args.size)
          (shown-none found (sym c.in-None.ensures.value)) ∙ number_at-zeros c.args.byte_index c.args.size c.requires.inside);
    }
