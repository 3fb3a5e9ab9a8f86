use Rattle.std.proofs.Common.{◌≡◌, ℕ, ◌<◌, List, ◌∷◌, ◌++◌, length, take, drop, get_or, ap, ◌∙◌, arith, rules, sym, take_at, codes}
use Rattle.std.proofs.lemmas.List.{take_rest, drop-drop, get_or-drop}
use Rattle.std.proofs.Common.{length-drop}
use Rattle.cap_word.specs.Digits.{hex_digits}
use Rattle.cap_word.proofs.DigitLemmas.{length-hex_digits}
use Rattle.cap_log.specs.{Lines.IsWord, Parts.result_spelling}
use Rattle.cap_log.proofs.{Cuts.rejoined, PartLemmas.{drop_result, length-result}, TakeLemmas.{cut_behind, none_ended}}
use Rattle.cap_log.proofs.parts.results.CapPart.take.Goals.{else-not-tag-via-then-not-tag+else-not-are_four, else-not-tag-via-else-not-tag}
use Rattle.cap_log.proofs.parts.results.CapPart.take.Goals as goal

pub returns-then-bytes-le-RESULT_LENGTH-clause-none : goal.returns-then-bytes-le-RESULT_LENGTH-clause-none
returns-then-bytes-le-RESULT_LENGTH-clause-none c =
    none_ended (λ a. IsWord a.word.0) result_spelling c.args.end 36 (λ a fits. length-result a) c.args.bytes.now (λ before ended. search rules)

pub returns-in_err-word-clause-none : goal.returns-in_err-word-clause-none
returns-in_err-word-clause-none c = rw c.from_residual-in_err-word.ensures (λ a rest begins.
    c.in_err-word.ensures.none a.word.0 begins.0
    (ap (λ (bs : List ℕ). take 32 (drop 4 bs)) begins.1 ∙ ap (take 32) (drop_result a.tag (hex_digits 32 a.word.0) (c.args.end ∷ rest))
    ∙ take_at (hex_digits 32 a.word.0) (c.args.end ∷ rest) 32 (length-hex_digits 32 a.word.0)))

-- a mark of four bytes in front of a word, and the byte that ends it
word_behind : (mark : List ℕ) (end n : ℕ) (bytes : List ℕ) → 36 < length bytes → get_or bytes 36 0 ≡ end → take 4 bytes ≡ mark
    → take 32 (drop 4 bytes) ≡ hex_digits 32 n → bytes ≡ mark ++ (hex_digits 32 n ++ end ∷ drop 37 bytes)
word_behind mark end n bytes long ended marked digits =
    let word = cut_behind 32 end (drop 4 bytes) (omega (arith, length-drop 4 bytes)) (get_or-drop 4 bytes 32 0 ∙ ended) in
    let whole = rw (drop-drop 33 4 bytes, digits) at word in
    rejoined 4 bytes mark _ (sym marked) (sym whole)

pub returns-clause-some : goal.returns-clause-some
returns-clause-some c =
    let bytes = c.args.bytes.now in
    let front = c.in_ok-front.ensures.cases.0 in
    let behind = λ (mark : List ℕ) (marked : take 4 bytes ≡ mark). word_behind mark c.args.end c.in_ok-word.word.0 bytes
    c.if-bytes-le-RESULT_LENGTH.false c.if-bytes-end.false marked c.in_ok-word.ensures.some in (
      search rules,
      rw (take_rest bytes 37) (elim c.else-not-tag.branch [
        | else-not-tag-via-then-not-tag+else-not-are_four w ↦ rw w.if-not-tag.true
            (behind (codes "= 0 ") (sym front ∙ w.are_four.ensures.same.0 w.if-not-are_four.false))
        | else-not-tag-via-else-not-tag w ↦ rw w.if-not-tag.false (behind (codes "= 1 ") (sym front ∙ c.are_four-tag.ensures.same.0 w.if-not-tag.false))
      ]),
    )
