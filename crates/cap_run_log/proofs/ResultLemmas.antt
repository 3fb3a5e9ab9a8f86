-- The two results of an exchange, one after the other.
use Rattle.std.proofs.Common.{append_assoc, ◌≡◌, ℕ, List, ◌∷◌, ◌++◌, sym, ap, subst, ◌∙◌, refl, arith, drop, length, length-append, Bool, true, false}
use Rattle.std.proofs.{Common.codes, Math.Seq.drop-append_seam}
use Rattle.cap_word.specs.{declared.word.{Cap.Cap, Word.Word}, Digits.hex_digits}
use Rattle.cap_word.proofs.DigitLemmas.{length-hex_digits}
use Rattle.cap_log.specs.Lines.{IsWord, tag_spelling}
use Rattle.cap_log.specs.Parts.{Begins, BeginsWithNone, FitBoth, result_spelling, spaced}
use Rattle.cap_run_log.specs.declared.{parts.Tag.Tag, results.Results.Results}
use Rattle.cap_run_log.proofs.Rows.{FitsResults, results_text}

-- the second, as a tag and a word
abbrev FitsSecond : Tag × Word → Type 0
FitsSecond = FitBoth (λ (t : Tag). Unit {0}) (λ (word : Word). IsWord word.0)

abbrev second_text : Tag × Word → List ℕ
second_text = spaced (λ (t : Tag). tag_spelling t.0) (λ (word : Word). hex_digits 32 word.0)

length-mark : (tag_is : Bool) → length (tag_spelling tag_is) ≡ 1
length-mark true = refl
length-mark false = refl

length-result : (cap : Cap) → length (result_spelling cap) ≡ 36
length-result cap =
    let tag_is = tag_spelling cap.tag in
    let digits = hex_digits 32 cap.word.0 in
    omega (arith, length-mark cap.tag, length-hex_digits 32 cap.word.0, length-append tag_is (32 ∷ digits))

behind_result : (cap : Cap) (rest : List ℕ) → drop 36 (result_spelling cap ++ rest) ≡ rest
behind_result cap rest =
    subst (λ (n : ℕ). drop n (result_spelling cap ++ rest) ≡ rest) (length-result cap) (drop-append_seam (result_spelling cap) rest)

abbrev special_text : Results → List ℕ
special_text x = tag_spelling x.special.tag ++ 32 ∷ hex_digits 32 x.special.word.0

-- the first result, a space, and the second
results_cut : (x : Results) (rest : List ℕ) → results_text x ++ rest ≡ result_spelling x.general ++ 32 ∷ (special_text x ++ rest)
results_cut x rest =
    let tag_is = tag_spelling x.general.tag in
    let digits = hex_digits 32 x.general.word.0 in
    let last = special_text x in
    ap (λ (ds : List ℕ). codes "=" ++ 32 ∷ ds) (
    append_assoc tag_is (32 ∷ (digits ++ 32 ∷ last)) rest ∙ ap (λ (ds : List ℕ). tag_is ++ 32 ∷ ds) (append_assoc digits (32 ∷ last) rest)
    ∙ sym (append_assoc tag_is (32 ∷ digits) (32 ∷ (last ++ rest)))
    )

-- no results are there if the first is not
pub no_general : (end : ℕ) (bytes : List ℕ) → BeginsWithNone (λ (cap : Cap). IsWord cap.word.0) result_spelling 32 bytes
    → BeginsWithNone FitsResults results_text end bytes
no_general end bytes none x rest begins =
    none x.general (special_text x ++ end ∷ rest) (begins.0.0, begins.1 ∙ results_cut x (end ∷ rest))

-- nor if the second does not follow it
pub no_second : (end : ℕ) (bytes middle : List ℕ) (general : Cap) → bytes ≡ result_spelling general ++ 32 ∷ middle
    → BeginsWithNone FitsSecond second_text end middle → BeginsWithNone FitsResults results_text end bytes
no_second end bytes middle general is none x rest begins =
    let others = 32 ∷ (special_text x ++ end ∷ rest) in
    let same : 32 ∷ middle ≡ others =
    sym (behind_result general (32 ∷ middle)) ∙ ap (λ (ds : List ℕ). drop 36 ds) (sym is ∙ begins.1 ∙ results_cut x (end ∷ rest))
    ∙ behind_result x.general others in
    none (record { 0 = x.special.tag }, x.special.word) rest ((tt, begins.0.1), ap (λ (ds : List ℕ). drop 1 ds) same)

-- both are there if each is
pub both_read : (end : ℕ) (bytes middle rest : List ℕ) (x : Results)
    → Begins (λ (cap : Cap). IsWord cap.word.0) result_spelling 32 bytes x.general middle
    → Begins FitsSecond second_text end middle (record { 0 = x.special.tag }, x.special.word) rest
    → Begins FitsResults results_text end bytes x rest
both_read end bytes middle rest x first second = (
  (first.0, second.0.1),
  first.1 ∙ ap (λ (ds : List ℕ). result_spelling x.general ++ 32 ∷ ds) second.1 ∙ sym (results_cut x (end ∷ rest)),
)
