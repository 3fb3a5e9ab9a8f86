use Rattle.std.proofs.Common.{◌≡◌, ◌≢◌, ◌∙◌, [], Bool, if◌then◌else◌, Option, Some, List, ℕ, length, option_map, ap, rules, arith}
use Rattle.std.proofs.lemmas.List.{nil_from_length}
use Rattle.cap_context.specs.{Contexts.{Entry, Last, last_step}, Registers.{HartRegister, hart_after}, Readings.entry_of}
use Rattle.cap_context.proofs.ContextLemmas.{fold_more, fold_none}
use Rattle.cap_context.proofs.contexts.last_writer.Goals as goal

pub loop-hart-preserved : goal.loop-hart-preserved
loop-hart-preserved c =
    let some : c.loop-hart.rest.now ≢ [] = search rules in
    let shorter = c.cut.ensures.shorter (search rules) in
    let fits = c.loop-hart.invariant.1 in
    let register : HartRegister = (c.args.register.now, c.args.whose.now) in
    let text = c.cut.result.0.now in
    let hart = c.loop-hart.hart.now in
    let old = option_map entry_of c.loop-hart.last in
    let new = option_map entry_of c.last_if-last.result in
    let next : (c.hart_after-hart.result.now, new) ≡ last_step register c.args.line (hart, old) (c.loop-hart.at, text) =
    ap (λ (h : List ℕ). (h, new)) c.hart_after-hart.ensures.value
    ∙ ap (λ (o : Option Entry). (hart_after hart text, o)) (c.last_if-last.ensures.value
    ∙ ap (λ (is : Bool). if is then Some (c.loop-hart.at, text) else old) c.writes_before-is_one.ensures.value) in (
      fold_more c.loop-hart.at c.loop-hart.rest.now text c.cut.result.1.now some c.cut.ensures.before c.cut.ensures.after
          (last_step register c.args.line) (hart, old) (c.hart_after-hart.result.now, new) next
          ∙ c.loop-hart.invariant.0,
      omega (arith, shorter, fits),
    )

pub returns : goal.returns
returns c =
    let empty : length c.loop-hart.rest.now ≡ 0 = search rules in
    record {
      value = ap (λ (l : Last). l.1) (fold_none (last_step (c.args.register.now, c.args.whose.now) c.args.line)
          (c.loop-hart.hart.now, option_map entry_of c.loop-hart.last) c.loop-hart.at
          c.loop-hart.rest.now (nil_from_length c.loop-hart.rest.now empty)
          ∙ c.loop-hart.invariant.0);
    }
