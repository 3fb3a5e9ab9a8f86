use Rattle.std.proofs.Common.{◌≡◌, ◌↔◌, ◌<◌, ◌==◌, ℕ, Bool, true, eq-eqb, eqb-true}
use Rattle.std.specs.Prelude.{IsTrue}
use Rattle.cap_log.proofs.parts.decimals.is_number.Goals as goal

-- digits of which 0 is the first: a number's where it is the only one
only_digit : (first count : ℕ) (is_ended is_in_range : Bool) → 0 < count → is_ended ≡ true → is_in_range ≡ true → first ≡ 48
    → IsTrue (count == 1) ↔ (0 < count) × IsTrue is_ended × IsTrue is_in_range × ((first ≡ 48) → (count ≡ 1))
only_digit first count is_ended is_in_range some ended within zero =
    (λ one. (some, ended, within, λ _. eqb-true count 1 one), λ all. eq-eqb count 1 (all.3 zero))

pub returns-else-first-ne48 : goal.returns-else-first-ne48
returns-else-first-ne48 g c =
    let known = c.if-is_in_range-2.true in
    only_digit c.args.first c.args.count c.args.is_ended c.args.is_in_range known.0 known.1 known.2 c.if-first-ne48.false
