use Rattle.std.proofs.Common.{◌≡◌, ℕ, List, [], ◌∷◌, ◌++◌, take, drop, sym, ap, ◌∙◌, arith, append_assoc, refl}
use Rattle.std.proofs.lemmas.List.{take-take, take_rest}
use Rattle.cap_log.specs.Heads.{head_spelling}
use Rattle.cap_log.proofs.Cuts.{rejoined}
use Rattle.cap_log.proofs.kinds.by_register.Goals as goal

-- the first three of four bytes are a head and a space
headed : (bytes first start head : List ℕ) → first ≡ take 4 bytes → first ≡ start → take 3 start ≡ head ++ 32 ∷ []
    → bytes ≡ head ++ 32 ∷ drop 3 bytes
headed bytes first start head e s h =
    rejoined 3 bytes (head ++ 32 ∷ []) _ (sym h ∙ ap (take 3) (sym s ∙ e) ∙ take-take 3 4 bytes (omega arith)) refl
    ∙ append_assoc head (32 ∷ []) (drop 3 bytes)

pub returns-then-are_four : goal.returns-then-are_four
returns-then-are_four c = record {
  some = (
    tt,
    rw (take_rest c.args.bytes.now 3, c.if-end-eq32.true) (headed c.args.bytes.now c.in_ok-first.first.now c.args.start.now
        (head_spelling c.args.head) c.in_ok-first.ensures.cases.0 (c.are_four.ensures.same.0 c.if-are_four.true) c.requires),
  );
}
