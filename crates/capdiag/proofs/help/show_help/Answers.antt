use Rattle.std.proofs.Common.{[], Some}
use Rattle.capdiag.specs.{declared.orders.Order.TheVariants.Help, Answers.Fails, Showings.help_text}
use Rattle.capdiag.proofs.RenderingLemmas.{text_shown}
use Rattle.capdiag.proofs.help.show_help.Goals as goal

pub returns-clause-done : goal.returns-clause-done
unfolding help_text
returns-clause-done g c =
    let e = c.show.ensures in
    text_shown (Fails (Some Help) []) help_text (g.K.Sink.took c.args.out.now c.show.new.out) c.show.result e.ok e.shown e.err
