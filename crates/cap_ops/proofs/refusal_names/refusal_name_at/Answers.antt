use Rattle.std.proofs.Common.{[], arith, sym}
use Rattle.std.proofs.lemmas.List.{get_or_past}
use Rattle.cap_ops.specs.Refusals.{refusal_names}
use Rattle.cap_ops.proofs.refusal_names.refusal_name_at.Goals as goal

pub returns-in-42-to-255-clause-name : goal.returns-in-42-to-255-clause-name
returns-in-42-to-255-clause-name c = sym (get_or_past refusal_names c.args.number [] (omega arith))
