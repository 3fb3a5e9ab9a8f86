use Rattle.std.proofs.Common.{◌≡◌, ◌-◌, ℕ, List, [], take, drop, length, sym, subst, ap, ◌∙◌, append-nil, rules, arith}
use Rattle.std.proofs.{Common.length-drop, Math.Seq.take-length}
use lib.Seq.{take-add}
use Rattle.cap_streams.proofs.sinks.push_all.Goals as goal

pub loop-done-preserved : goal.loop-done-preserved
loop-done-preserved g c =
    let text = c.args.text.now in
    let done = c.loop-done.done in
    let n = c.in-Ok.count in
    let tail : take (length text - done) (drop done text) ≡ drop done text =
    ap (λ (k : ℕ). take k (drop done text)) (sym (length-drop done text)) ∙ take-length (drop done text) in record {
      taken = subst (g.K.Sink.took c.args.sink.now c.push.new.self) (sym (take-add done n text))
          (g.met.K.Sink.joined c.args.sink.now c.loop-done.sink c.push.new.self (take done text)
          (take n (drop done text)) c.loop-done.invariant.taken
          (subst (λ (l : List ℕ). g.K.Sink.took c.loop-done.sink c.push.new.self (take n l)) tail c.in-Ok.ensures.bytes));
      counted = search rules;
      within = omega (arith, c.in-Ok.ensures.fits, length-drop done text);
    }

pub returns-in-Err-clause-err : goal.returns-in-Err-clause-err
returns-in-Err-clause-err g c =
    let text = c.args.text.now in
    let done = c.loop-done.done in (
      done,
      subst (g.K.Sink.took c.args.sink.now c.push.new.self) (append-nil (take done text))
          (g.met.K.Sink.joined c.args.sink.now c.loop-done.sink c.push.new.self (take done text)
          [] c.loop-done.invariant.taken c.in-Err.ensures.nothing_taken),
    )
