use Rattle.std.proofs.Common.{◌≡◌, ◌∙◌, ◌-◌, List, ℕ, ap, arith, codes, drop, false, if◌then◌else◌, length, sym, take, take_all, true}
use Rattle.std.proofs.lemmas.{Bool.{cond-false, cond-true}, List.length-drop}
use Rattle.cap_json.specs.Words.{begins}
use Rattle.capdiag.specs.Orders.{after_option, with_both}
use Rattle.capdiag.proofs.words.after_dash.Goals as goal

-- all bytes from one on
from_one : (at : ℕ) (bytes word : List ℕ) → bytes ≡ word → take (length bytes - at) (drop at bytes) ≡ drop at word
from_one at bytes word is =
    take_all (length bytes - at) (drop at bytes) (omega (arith, length-drop at bytes)) ∙ ap (λ (text : List ℕ). drop at text) is

pub returns-then-begins : goal.returns-then-begins
returns-then-begins c =
    let asked = c.args.asked in
    let word = c.args.word.now in
    let whole = c.as_bytes-bytes.ensures.value in
    let is : begins (codes "--context=") word ≡ true = sym (c.if-begins.ensures.value ∙ ap (begins (codes "--context=")) whole) in
    record {
      value =
          c.with_both.ensures.value
          ∙ ap (λ (value : List ℕ). with_both (after_option asked (codes "--context")) value) (from_one 10 c.as_bytes-bytes.result.now word whole)
          ∙ sym (cond-true (begins (codes "--context=") word) (with_both (after_option asked (codes "--context")) (drop 10 word))
          (if begins (codes "--freed=") word then with_both (after_option asked (codes "--freed")) (drop 8 word) else after_option asked word) is);
    }

pub returns-then-begins-2 : goal.returns-then-begins-2
returns-then-begins-2 c =
    let asked = c.args.asked in
    let word = c.args.word.now in
    let whole = c.as_bytes-bytes.ensures.value in
    let other_is : begins (codes "--context=") word ≡ false = sym (c.if-begins.ensures.value ∙ ap (begins (codes "--context=")) whole) in
    let is : begins (codes "--freed=") word ≡ true = sym (c.if-begins-2.ensures.value ∙ ap (begins (codes "--freed=")) whole) in
    let other = with_both (after_option asked (codes "--freed")) (drop 8 word) in
    record {
      value =
          c.with_both-then-begins-2.ensures.value
          ∙ ap (λ (value : List ℕ). with_both (after_option asked (codes "--freed")) value) (from_one 8 c.as_bytes-bytes.result.now word whole)
          ∙ sym (cond-true (begins (codes "--freed=") word) other (after_option asked word) is)
          ∙ sym (cond-false (begins (codes "--context=") word) (with_both (after_option asked (codes "--context")) (drop 10 word))
          (if begins (codes "--freed=") word then other else after_option asked word) other_is);
    }
