use Rattle.std.proofs.Common.{◌≡◌, ◌∙◌, ℕ, Some, ap, get_or, option_map, sym}
use Rattle.cap_machine.specs.{Changes.IsOperation, declared.instructions.OperationParts.OperationParts, Helds.{Held, code_in, state_of}}
use Rattle.cap_machine.specs.{States.key_of, Steps.{Row, row_of}}
use Rattle.cap_machine.proofs.CodeLemmas.{code-register}
use Rattle.cap_machine.proofs.instructions.Operation.code.Goals as goal

-- the code of an operation's source
source_code : (old : Held) (row : Row) (parts : OperationParts) (code : ℕ) → IsOperation row parts → code_in old parts.source ≡ code
    → option_map (λ place. code_in old (key_of place)) row.parent ≡ Some code
source_code old row parts code is same = ap (λ (r : Row). option_map (λ place. code_in old (key_of place)) r.parent) is ∙ ap Some same

pub returns : goal.returns
returns g c =
    let old = c.args.machine.now in
    let codes = c.machine.inside.codes in
    let source = c.parts.result.source in
    let code : code_in old source ≡ get_or codes c.number.result 0 = code-register old source c.number.ensures.range
    ∙ ap (λ (held : Held). get_or held.codes source 0) (sym c.machine.view_is) ∙ ap (λ n. get_or codes n 0) (sym c.number.ensures.number) in
    let row = row_of (state_of old) (g.Self.Operands.step c.args.self.now) in
    record { code = (_, λ tagged. source_code old row c.parts.result _ (c.parts.ensures.row (state_of old)) code, c.code_if.ensures) }
