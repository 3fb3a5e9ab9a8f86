use Rattle.std.proofs.Common.{◌≡◌, ◌∙◌, ◌<◌, ◌≤◌, ◌&&◌, ℕ, ap, arith, le-leb, nat_le, sym}
use Rattle.std.proofs.lemmas.Bool.{lt-leb}
use Rattle.cap_bounds.specs.Bounds.{base_of, top_of}
use Rattle.cap_word.specs.declared.word.Cap.{Cap}
use Rattle.cap_report.specs.Says.{lies_inside}
use Rattle.cap_report.proofs.says.lies_inside.Goals as goal

begins_inside : (base top low high : ℕ) (cap : Cap) → low ≡ base_of cap.word.0 → high ≡ top_of cap.word.0 → low ≤ base
    → nat_le top high ≡ lies_inside base top cap
begins_inside base top low high cap low_is high_is above =
    ap (nat_le top) high_is ∙ sym (ap (λ b. b && nat_le top (top_of cap.word.0)) (le-leb (base_of cap.word.0) base (omega arith)))

begins_below : (base top low : ℕ) (cap : Cap) → low ≡ base_of cap.word.0 → base < low → nat_le low base ≡ lies_inside base top cap
begins_below base top low cap low_is below =
    lt-leb low base below ∙ sym (ap (λ b. b && nat_le top (top_of cap.word.0)) (lt-leb (base_of cap.word.0) base (omega arith)))

pub returns-then-within-range : goal.returns-then-within-range
returns-then-within-range c =
    let within = c.bounds-within in
    record { value = begins_inside c.args.range.base c.args.range.top _ _ c.args.cap within.ensures.base within.ensures.top c.if-within-range.true }

pub returns-else-within-range : goal.returns-else-within-range
returns-else-within-range c =
    let within = c.bounds-within in
    record { value = begins_below c.args.range.base c.args.range.top _ c.args.cap within.ensures.base c.if-within-range.false }
