use Rattle.std.proofs.Common.{◌∙◌, ◌++◌, [], ◌∷◌, List, ℕ, ap}
use Rattle.cap_word.specs.Digits.{hex_digits}
use Rattle.capcheck_c.proofs.words.capcheck_text_of.Goals as goal

pub returns : goal.returns
returns c = record {
  digits = ap (λ (text : List ℕ). text ++ 0 ∷ [])
      (c.copy_from_slice.ensures.after ∙ c.word_text.ensures.digits ∙ ap (hex_digits 32) c.word_of.ensures.value);
}
