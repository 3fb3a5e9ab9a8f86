use Rattle.std.proofs.Common.{◌+◌, ◌∙◌, ap, ℕ, List, ◌∷◌, [], ◌++◌, min, sym}
use Rattle.std.proofs.lemmas.List.{get_or_default, map-append}
use Rattle.capdiag.specs.declared.tallies.Row.{Row}
use Rattle.capdiag.specs.Tallies.{row_of, rows_of}
use Rattle.capdiag.proofs.TallyLemmas.{counted_in, counted_new}
use Rattle.capdiag.proofs.tallies.count_in.Goals as goal

pub returns-in-Some : goal.returns-in-Some
returns-in-Some c =
    let rows = c.args.rows.now.items in
    let found = rw c.as_slice.ensures.value at c.in-Some.ensures in
    let inside = found.inside in
    let row = c.index_mut.ensures.value in
    let same = c.index.ensures ∙ get_or_default rows c.in-Some.place c.index.result.now c.index_mut.result.now inside ∙ sym row in
    let count = c.saturating_add.ensures ∙ ap (λ (r : Row). min (r.count + 1) 18446744073709551615) same in
    record {
      counted = counted_in c.args.name.now rows c.in-Some.place c.index_mut.result.now _ found.value inside row
          (ap (λ (n : ℕ). (c.index_mut.result.now.name.items, n)) count);
    }

pub returns-in_ok-push-in-None : goal.returns-in_ok-push-in-None
returns-in_ok-push-in-None c =
    let rows = c.args.rows.now.items in
    let name = c.in_ok-extend_from_slice-in-None.ensures.items ∙ ap (λ (t : List ℕ). t ++ c.args.name.now) c.new-own.ensures.items in
    record {
      counted = ap rows_of c.in_ok-push-in-None.ensures.items
          ∙ map-append row_of rows (record { name = c.extend_from_slice.new.self; count = 1 } ∷ [])
          ∙ ap (λ (t : List ℕ). rows_of rows ++ ((t, 1) ∷ [])) name
          ∙ counted_new c.args.name.now rows (rw c.as_slice.ensures.value at c.in-None.ensures.value);
    }
