use Rattle.std.proofs.Common.{◌<◌, ◌≤◌, ◌*◌, ℕ, refl, arith, w8, List, replicate, cond, not, eqb}
use Rattle.std.specs.Prelude.{codes}
use Rattle.std.proofs.lemmas.{Nat.{and_le_r, one_shl}, Simd.{SwzOk-from_below, Each1-zip2, Each2-splat, Each1-all}}
use lib.Bits.{bit_and}
use Rattle.cap_word.proofs.DigitLemmas.{front-small}
use Rattle.cap_word.proofs.LaneLemmas.{reads, reads_all}
use Rattle.cap_word.proofs.digits.read_front.Goals as goal

pub swizzle : goal.swizzle
swizzle c =
    SwzOk-from_below w8 16 1 16 0 _ refl (omega (arith, c.type_inv.values.0))
    (Each1-zip2 bit_and (λ j. j < 16) _ (replicate 16 15) (Each2-splat (λ a b. bit_and a b < 16) _ 16 15
    (Each1-all (λ a. bit_and a 15 < 16) (λ a. omega (arith, and_le_r a 15)) _)))

abbrev differ : ℕ → ℕ → ℕ
differ a b = cond (not (eqb a b)) 255 0

abbrev digits : List ℕ
digits = codes "0123456789abcdef"

pub returns-then-others-size-eq0-clause-fits : goal.returns-then-others-size-eq0-clause-fits
returns-then-others-size-eq0-clause-fits c = front-small c.args.size c.from_be_bytes.result c.requires.at_most c.from_be_bytes.type_inv

pub returns-then-others-size-eq0-clause-some : goal.returns-then-others-size-eq0-clause-some
returns-then-others-size-eq0-clause-some c =
    let most : c.args.size ≤ 8 = c.requires.at_most in
    reads _ _ _ differ _ _ digits c.args.text.now c.told-text refl c.fits-text c.args.size _ c.from_be_bytes.result most
    (one_shl (2 * c.args.size) 64 (omega (arith, most))) c.if-others-size-eq0.true c.from_be_bytes.ensures

pub returns-else-others-size-eq0-clause-none : goal.returns-else-others-size-eq0-clause-none
returns-else-others-size-eq0-clause-none c n small e =
    let most : c.args.size ≤ 8 = c.requires.at_most in
    c.if-others-size-eq0.false (reads_all _ _ _ differ _ _ digits c.args.text.now c.told-text refl (2 * c.args.size) _ n
    (one_shl (2 * c.args.size) 64 (omega (arith, most))) e)
