use Rattle.std.proofs.Common.{◌≡◌, ◌∙◌, ℕ, List, ◌∷◌, ◌++◌, ap, append_assoc, drop, drop_at, length, sym, take}
use Rattle.cap_log.specs.Heads.{head_spelling}
use Rattle.cap_log.proofs.Cuts.{rejoined}
use Rattle.cap_log.proofs.kinds.long.Goals as goal

-- a word of four bytes and others stands at the front of some bytes
word_in_front : (end : ℕ) (bytes four others word first more rest : List ℕ) → first ≡ take 4 bytes → more ≡ drop 4 bytes → first ≡ four
    → four ++ others ≡ word → more ≡ others ++ end ∷ rest → bytes ≡ word ++ end ∷ rest
word_in_front end bytes four others word first more rest head tail same whole behind =
    rejoined 4 bytes first more head tail
    ∙ ap (λ (f : List ℕ). f ++ more) same
    ∙ ap (λ (m : List ℕ). four ++ m) behind
    ∙ sym (append_assoc four others (end ∷ rest))
    ∙ ap (λ (w : List ℕ). w ++ end ∷ rest) whole

-- so its others stand behind the four
others_behind : (end : ℕ) (bytes four others word more rest : List ℕ) → length four ≡ 4 → more ≡ drop 4 bytes → four ++ others ≡ word
    → bytes ≡ word ++ end ∷ rest → more ≡ others ++ end ∷ rest
others_behind end bytes four others word more rest long tail whole is =
    tail
    ∙ ap (drop 4) (is ∙ ap (λ (w : List ℕ). w ++ end ∷ rest) (sym whole) ∙ append_assoc four others (end ∷ rest))
    ∙ drop_at four (others ++ end ∷ rest) 4 long

pub returns-in_err-rest-clause-none : goal.returns-in_err-rest-clause-none
returns-in_err-rest-clause-none g c = rw c.from_residual-in_err-rest.ensures (λ rest is.
    c.in_err-rest.ensures.none rest (others_behind c.args.end c.args.bytes.now c.args.four.now c.args.others.now (head_spelling c.args.head)
    c.in_ok-first.more.now rest c.told-four c.in_ok-first.ensures.cases.1 c.requires is))

pub returns-clause-some : goal.returns-clause-some
returns-clause-some g c = (
  tt,
  word_in_front c.args.end c.args.bytes.now c.args.four.now c.args.others.now (head_spelling c.args.head) c.in_ok-first.first.now
      c.in_ok-first.more.now c.in_ok-rest.rest.now c.in_ok-first.ensures.cases.0 c.in_ok-first.ensures.cases.1
      (c.are_four.ensures.same.0 c.if-not-are_four.false) c.requires c.in_ok-rest.ensures.some,
)
