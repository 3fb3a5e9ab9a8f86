use Rattle.std.proofs.{Common.{◌≡◌, ◌<◌, length, get_or, arith}, lemmas.Bool.Decides.{when_true, when_false}}
use Rattle.std.proofs.lemmas.Int.Digits.{digits_more, digits_value_more}
use Rattle.cap_log.proofs.Decimals.{digit_value-is, digits_value-small}
use Rattle.cap_log.proofs.parts.decimals.digits_within.Goals as goal

pub returns-then-not-is_ascii_digit : goal.returns-then-not-is_ascii_digit
returns-then-not-is_ascii_digit c =
    let other = when_false _ _ c.if-not-is_ascii_digit.true c.is_ascii_digit.ensures.cases in
    record {
      front = record {
        few = omega arith;
        inside = omega arith;
        digits = c.loop-index.invariant.digits;
        value_is = c.loop-index.invariant.value_is;
        stops = λ _ _ low high. grind (arith, other);
      };
    }

pub overflow_mul-value : goal.overflow_mul-value
overflow_mul-value c =
    let small = digits_value-small c.args.bytes.now c.loop-index.index (omega arith) (omega arith) c.loop-index.invariant.digits in
    omega arith

pub overflow_add-value : goal.overflow_add-value
overflow_add-value c =
    let small = digits_value-small c.args.bytes.now c.loop-index.index (omega arith) (omega arith) c.loop-index.invariant.digits in
    omega (arith, c.type_inv.bytes c.loop-index.index)

pub loop-index-preserved : goal.loop-index-preserved
loop-index-preserved c =
    let inside : c.loop-index.index < length c.args.bytes.now = omega arith in
    let digit = when_true _ _ c.if-not-is_ascii_digit.false c.is_ascii_digit.ensures.cases in
    let is = digit_value-is (get_or c.args.bytes.now c.loop-index.index 0) digit.0 digit.1 in
    record {
      digits = digits_more 10 c.args.bytes.now c.loop-index.index inside c.loop-index.invariant.digits (omega (arith, digit.0, digit.1));
      value_is = omega (arith, digits_value_more 10 c.args.bytes.now c.loop-index.index inside);
    }

pub returns : goal.returns
returns c =
    let all : c.loop-index.index ≡ c.args.most = omega arith in
    record {
      front = record {
        few = omega arith;
        inside = omega arith;
        digits = rw all at c.loop-index.invariant.digits;
        value_is = rw all at c.loop-index.invariant.value_is;
        stops = λ few inside. absurd (omega arith);
      };
    }
