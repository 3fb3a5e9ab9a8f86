use Rattle.std.proofs.Common.{◌≡◌, ℕ, ◌+◌, ◌-◌, ◌<◌, true, false, sym, ap, ◌∙◌, arith, subst}
use Rattle.std.proofs.lemmas.Bool.{false≢true, Decides.same_from_decides}
use Rattle.cap_bounds.specs.{Bounds.{IsInside, base_of, top_of}, Rounding.{rounded_base, rounded_top}}
use Rattle.cap_ops.specs.Operations.{covers, is_exact}
use Rattle.cap_ops.proofs.NarrowingLemmas.{IsExact-is_exact, is_exact-IsExact, covers-requested, covers-escaping}
use Rattle.cap_ops.proofs.narrowing.fast_path.rounding_inside.Goals as goal

-- addresses up to the last one, and up to the top behind it
to_top : (w base length : ℕ) → 0 < length → IsInside base (base + (length - 1 + 1)) (base_of w) (top_of w)
    → IsInside base (base + length) (base_of w) (top_of w)
to_top w base length some inside = (inside.0, omega (arith, some, inside.1))

to_last : (w base length : ℕ) → 0 < length → IsInside base (base + length) (base_of w) (top_of w)
    → IsInside base (base + (length - 1 + 1)) (base_of w) (top_of w)
to_last w base length some inside = (inside.0, omega (arith, some, inside.1))

pub returns-then-sound_word_holds_more-clause-covered : goal.returns-then-sound_word_holds_more-clause-covered
returns-then-sound_word_holds_more-clause-covered c =
    let w = c.args.word.0 in
    let length = c.args.length in
    subst (λ (x : ℕ). covers w (rounded_base x length) (rounded_top x length) ≡ true) c.address-address.ensures.value
    (covers-requested w c.address-address.result length (omega arith) c.requires.sound
    (to_top w c.address-address.result length c.requires.some
    (c.sound_word_holds_more.ensures.inside.0 c.if-sound_word_holds_more.true)))

pub returns-then-sound_word_holds_more-clause-exact : goal.returns-then-sound_word_holds_more-clause-exact
returns-then-sound_word_holds_more-clause-exact c =
    let length = c.args.length in
    let base = c.address-address.result in
    same_from_decides _ (is_exact base length) c.round_inside.ensures.exact (IsExact-is_exact base length, is_exact-IsExact base length)
    ∙ ap (λ (x : ℕ). is_exact x length) c.address-address.ensures.value

pub returns-else-sound_word_holds_more-clause-none : goal.returns-else-sound_word_holds_more-clause-none
returns-else-sound_word_holds_more-clause-none c =
    let w = c.args.word.0 in
    let length = c.args.length in
    subst (λ (x : ℕ). covers w (rounded_base x length) (rounded_top x length) ≡ false) c.address-address.ensures.value
    (covers-escaping w c.address-address.result length
    (λ inside. absurd (false≢true (sym c.if-sound_word_holds_more.false
    ∙ c.sound_word_holds_more.ensures.inside.1 (to_last w c.address-address.result length c.requires.some inside)))))
