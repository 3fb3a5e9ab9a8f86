-- The parts of lines, one by one: each value in range has one short spelling, without a line feed.
use Rattle.std.proofs.Common.{◌≡◌, ◌≢◌, ℕ, ◌*◌, ◌<◌, ◌≤◌, Bool, true, false, List, [], ◌∷◌, ◌++◌, length, get_or, drop}
use Rattle.std.proofs.Common.{sym, ap, subst, ◌∙◌, refl, arith, decimal, codes, lit≤, length-append}
use Rattle.std.proofs.lemmas.Fmt.{decimal_injective, decimal_is_IsNumeral, length-decimal-le}
use Rattle.std.proofs.lemmas.{List.Elements.{All-append, All-cons, All-head, All-tail}, Str.Parse.digit_at}
use Rattle.cap_word.specs.{Digits.hex_digits}
use Rattle.cap_word.proofs.DigitLemmas.{length-hex_digits}
use Rattle.cap_log.specs.Lines.{IsRegister, IsTarget, register_spelling, tag_spelling}
use Rattle.cap_log.specs.{Parts.Lacks}
use Rattle.cap_log.specs.SpacelessLaws.{Lacks-by_test, Lacks-decimal, Lacks-hex, register-spaceless, register-within}
use Rattle.cap_log.proofs.{Cuts.same_cut, OperandLemmas.{IsOperand}}
use Rattle.cap_log.proofs.PartLemmas.{number-operand, register-operand, target-operand}
use Rattle.cap_run_log.specs.declared.lines.{RunPlace.RunPlace, RunRegister.RunRegister}
use Rattle.cap_run_log.specs.declared.parts.{Freed.Freed, Handed.Handed}
use Rattle.cap_run_log.specs.RunLines.{IsGranule, IsHart, IsObjectNumber, IsRunPlace, IsRunRegister, granule_spelling}
use Rattle.cap_run_log.specs.RunLines.{run_place_spelling, run_register_spelling, special_spelling}
use Rattle.cap_run_log.specs.RunParts.{IsFreed, IsHanded, freed_spelling, handed_spelling}

-- the first byte of some bytes
abbrev first : List ℕ → ℕ
first bytes = get_or bytes 0 0

unlike : (a b : List ℕ) → first a ≢ first b → a ≡ b → ⊥
unlike a b other e = other (ap first e)

-- special registers
pub special-operand : IsOperand IsRegister special_spelling 5
special-operand = record {
  one = λ m n small small' e. decimal_injective m n (omega arith) (omega arith) (ap (λ (bs : List ℕ). drop 3 bs) e);
  plain = λ n small.
      All-append (λ b. b ≢ 10) (codes "scr") (decimal n) (Lacks-by_test 10 (codes "scr") refl) (Lacks-decimal 10 n (omega arith) (omega arith));
  short = λ n small. let short = length-decimal-le 2 n (omega arith) (omega arith) (omega arith) in omega arith;
}

-- registers, general-purpose and special ones
register_at-one : (least : ℕ) (a b : RunRegister) → IsRunRegister least a → IsRunRegister least b
    → run_register_spelling a ≡ run_register_spelling b → a ≡ b
register_at-one least (RunRegister.General m) (RunRegister.General n) fits fits' e =
    ap RunRegister.General (register-operand.one m n (register-within least m fits).1 (register-within least n fits').1 e)
register_at-one least (RunRegister.General m) (RunRegister.Special n) fits fits' e =
    absurd (unlike (register_spelling m) (special_spelling n) (λ h. omega (arith, h)) e)
register_at-one least (RunRegister.Special m) (RunRegister.General n) fits fits' e =
    absurd (unlike (special_spelling m) (register_spelling n) (λ h. omega (arith, h)) e)
register_at-one least (RunRegister.Special m) (RunRegister.Special n) fits fits' e =
    ap RunRegister.Special (special-operand.one m n fits fits' e)

register_at-plain : (least : ℕ) (a : RunRegister) → IsRunRegister least a → Lacks 10 (run_register_spelling a)
register_at-plain least (RunRegister.General n) fits = register-operand.plain n (register-within least n fits).1
register_at-plain least (RunRegister.Special n) fits = special-operand.plain n fits

register_at-short : (least : ℕ) (a : RunRegister) → IsRunRegister least a → length (run_register_spelling a) ≤ 5
register_at-short least (RunRegister.General n) fits =
    let short = register-operand.short n (register-within least n fits).1 in omega arith
register_at-short least (RunRegister.Special n) fits = special-operand.short n fits

pub register_at-operand : (least : ℕ) → IsOperand (IsRunRegister least) run_register_spelling 5
register_at-operand least = record { one = register_at-one least; plain = register_at-plain least; short = register_at-short least }

-- harts
pub hart-operand : IsOperand IsHart decimal 5
hart-operand = record {
  one = λ m n small small' e. decimal_injective m n (omega arith) (omega arith) e;
  plain = λ n small. Lacks-decimal 10 n (omega arith) (omega arith);
  short = λ n small. length-decimal-le 5 n (omega arith) (omega arith) (omega arith);
}

-- granules
pub granule-operand : IsOperand IsGranule granule_spelling 17
granule-operand = record {
  one = λ m n small small' e.
      let address = number-operand.one (16 * m) (16 * n) (omega arith) (omega arith) (ap (λ (bs : List ℕ). drop 1 bs) e) in omega arith;
  plain = λ n small. All-cons (λ b. b ≢ 10) 64 (hex_digits 16 (16 * n)) (omega arith) (Lacks-hex 10 16 (16 * n) refl);
  short = λ n small. omega (arith, length-hex_digits 16 (16 * n));
}

-- places
place-one : (a b : RunPlace) → IsRunPlace a → IsRunPlace b → run_place_spelling a ≡ run_place_spelling b → a ≡ b
place-one (RunPlace.General m) (RunPlace.General n) fits fits' e = ap RunPlace.General (target-operand.one m n fits fits' e)
place-one (RunPlace.General m) (RunPlace.Special n) fits fits' e =
    absurd (unlike (register_spelling m) (special_spelling n) (λ h. omega (arith, h)) e)
place-one (RunPlace.General m) (RunPlace.Granule n) fits fits' e =
    absurd (unlike (register_spelling m) (granule_spelling n) (λ h. omega (arith, h)) e)
place-one (RunPlace.Special m) (RunPlace.General n) fits fits' e =
    absurd (unlike (special_spelling m) (register_spelling n) (λ h. omega (arith, h)) e)
place-one (RunPlace.Special m) (RunPlace.Special n) fits fits' e = ap RunPlace.Special (special-operand.one m n fits fits' e)
place-one (RunPlace.Special m) (RunPlace.Granule n) fits fits' e =
    absurd (unlike (special_spelling m) (granule_spelling n) (λ h. omega (arith, h)) e)
place-one (RunPlace.Granule m) (RunPlace.General n) fits fits' e =
    absurd (unlike (granule_spelling m) (register_spelling n) (λ h. omega (arith, h)) e)
place-one (RunPlace.Granule m) (RunPlace.Special n) fits fits' e =
    absurd (unlike (granule_spelling m) (special_spelling n) (λ h. omega (arith, h)) e)
place-one (RunPlace.Granule m) (RunPlace.Granule n) fits fits' e = ap RunPlace.Granule (granule-operand.one m n fits fits' e)

place-plain : (a : RunPlace) → IsRunPlace a → Lacks 10 (run_place_spelling a)
place-plain (RunPlace.General n) fits = target-operand.plain n fits
place-plain (RunPlace.Special n) fits = special-operand.plain n fits
place-plain (RunPlace.Granule n) fits = granule-operand.plain n fits

place-short : (a : RunPlace) → IsRunPlace a → length (run_place_spelling a) ≤ 17
place-short (RunPlace.General n) fits = let short = target-operand.short n fits in omega arith
place-short (RunPlace.Special n) fits = let short = special-operand.short n fits in omega arith
place-short (RunPlace.Granule n) fits = granule-operand.short n fits

pub run_place-operand : IsOperand IsRunPlace run_place_spelling 17
run_place-operand = record { one = place-one; plain = place-plain; short = place-short }

-- tags
tag-one : (a b : Bool) → tag_spelling a ≡ tag_spelling b → a ≡ b
tag-one true true e = refl
tag-one true false e = absurd (unlike (codes "1") (codes "0") (λ h. omega (arith, h)) e)
tag-one false true e = absurd (unlike (codes "0") (codes "1") (λ h. omega (arith, h)) e)
tag-one false false e = refl

tag-plain : (a : Bool) → Lacks 10 (tag_spelling a)
tag-plain true = Lacks-by_test 10 (codes "1") refl
tag-plain false = Lacks-by_test 10 (codes "0") refl

tag-short : (a : Bool) → length (tag_spelling a) ≤ 1
tag-short true = lit≤ tt
tag-short false = lit≤ tt

abbrev AnyTag : Bool → Type 0
AnyTag tag = Unit {0}

pub tag-operand : IsOperand AnyTag tag_spelling 1
tag-operand = record { one = λ a b fits fits' e. tag-one a b e; plain = λ a fits. tag-plain a; short = λ a fits. tag-short a }

-- numbers of objects
pub object_number-operand : IsOperand IsObjectNumber decimal 10
object_number-operand = record {
  one = λ m n fits fits' e. decimal_injective m n (omega arith) (omega arith) e;
  plain = λ n fits. Lacks-decimal 10 n (omega arith) (omega arith);
  short = λ n fits. length-decimal-le 10 n (omega arith) (omega arith) (omega arith);
}

-- what follows `object`: a register alone has no space
alone_lacks : (m n : ℕ) (more : List ℕ) → IsTarget m → register_spelling m ≡ register_spelling n ++ 32 ∷ more → ⊥
alone_lacks m n more fits e =
    let lacks = subst (λ (bs : List ℕ). Lacks 32 bs) e (register-spaceless m fits.1) in
    let long = length-append (register_spelling n) (32 ∷ more) in
    spaced_lacks (register_spelling n) more lacks where
      spaced_lacks : (front more : List ℕ) → Lacks 32 (front ++ 32 ∷ more) → ⊥
      spaced_lacks [] more lacks = All-head (λ b. b ≢ 32) 32 more lacks refl
      spaced_lacks (b ∷ front) more lacks = spaced_lacks front more (All-tail (λ b. b ≢ 32) b (front ++ 32 ∷ more) lacks)

handed-one : (a b : Handed) → IsHanded a → IsHanded b → handed_spelling a ≡ handed_spelling b → a ≡ b
handed-one (Handed.Alone m) (Handed.Alone n) fits fits' e = ap Handed.Alone (target-operand.one m n fits fits' e)
handed-one (Handed.Alone m) (Handed.Numbered n k) fits fits' e = absurd (alone_lacks m n (decimal k) fits e)
handed-one (Handed.Numbered m j) (Handed.Alone n) fits fits' e = absurd (alone_lacks n m (decimal j) fits' (sym e))
handed-one (Handed.Numbered m j) (Handed.Numbered n k) fits fits' e =
    let parts = same_cut 32 (register_spelling m) (register_spelling n) (decimal j) (decimal k) (register-spaceless m fits.0.1)
    (register-spaceless n fits'.0.1) e in
    ap (λ (x : ℕ). Handed.Numbered x j) (target-operand.one m n fits.0 fits'.0 parts.0)
    ∙ ap (Handed.Numbered n) (object_number-operand.one j k fits.1 fits'.1 parts.1)

handed-plain : (a : Handed) → IsHanded a → Lacks 10 (handed_spelling a)
handed-plain (Handed.Alone n) fits = target-operand.plain n fits
handed-plain (Handed.Numbered n k) fits = All-append (λ b. b ≢ 10) (register_spelling n) (32 ∷ decimal k) (target-operand.plain n fits.0)
    (All-cons (λ b. b ≢ 10) 32 (decimal k) (omega arith) (object_number-operand.plain k fits.1))

handed-short : (a : Handed) → IsHanded a → length (handed_spelling a) ≤ 14
handed-short (Handed.Alone n) fits = let short = target-operand.short n fits in omega arith
handed-short (Handed.Numbered n k) fits =
    let long = length-append (register_spelling n) (32 ∷ decimal k) in
    let first = target-operand.short n fits.0 in
    let second = object_number-operand.short k fits.1 in
    omega arith

pub handed-operand : IsOperand IsHanded handed_spelling 14
handed-operand = record { one = handed-one; plain = handed-plain; short = handed-short }

-- what follows `free`: no number begins with a c
number_unlike : (m n : ℕ) → IsObjectNumber n → register_spelling m ≡ decimal n → ⊥
number_unlike m n fits e =
    let below : 0 < length (decimal n) = omega (arith, ap length e) in
    let digit = digit_at (decimal n) 0 (decimal_is_IsNumeral n (omega arith)).0.1 below in
    let same : 99 ≡ first (decimal n) = ap first e in
    omega (arith, digit.1, same)

freed-one : (a b : Freed) → IsFreed a → IsFreed b → freed_spelling a ≡ freed_spelling b → a ≡ b
freed-one (Freed.Owner m) (Freed.Owner n) fits fits' e = ap Freed.Owner (target-operand.one m n fits fits' e)
freed-one (Freed.Owner m) (Freed.Number n) fits fits' e = absurd (number_unlike m n fits' e)
freed-one (Freed.Number m) (Freed.Owner n) fits fits' e = absurd (number_unlike n m fits (sym e))
freed-one (Freed.Number m) (Freed.Number n) fits fits' e = ap Freed.Number (object_number-operand.one m n fits fits' e)

freed-plain : (a : Freed) → IsFreed a → Lacks 10 (freed_spelling a)
freed-plain (Freed.Owner n) fits = target-operand.plain n fits
freed-plain (Freed.Number n) fits = object_number-operand.plain n fits

freed-short : (a : Freed) → IsFreed a → length (freed_spelling a) ≤ 10
freed-short (Freed.Owner n) fits = let short = target-operand.short n fits in omega arith
freed-short (Freed.Number n) fits = object_number-operand.short n fits

pub freed-operand : IsOperand IsFreed freed_spelling 10
freed-operand = record { one = freed-one; plain = freed-plain; short = freed-short }
