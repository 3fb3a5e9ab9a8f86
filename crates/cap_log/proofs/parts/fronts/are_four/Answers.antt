use Rattle.std.proofs.Common.{ℕ, List, sym, ◌∙◌, ap, rules, w32}
use Rattle.std.specs.Int.{from_le_bytes, to_le_bytes}
use Rattle.std.proofs.lemmas.{Bool.{eq-eqb, eqb-true}, Nat.le_bytes_4}
use Rattle.cap_log.proofs.parts.fronts.are_four.Goals as goal

pub returns : goal.returns
returns c = record {
  same = (
    λ is.
        sym (le_bytes_4 c.args.bytes.now _ (search rules) (search rules) c.from_le_bytes.ensures)
        ∙ ap (λ (n : ℕ). to_le_bytes w32 n) (eqb-true _ _ is)
        ∙ le_bytes_4 c.args.text.now _ (search rules) (search rules) c.from_le_bytes-2.ensures,
    λ same. eq-eqb _ _ (c.from_le_bytes.ensures ∙ ap (λ (l : List ℕ). from_le_bytes w32 l) same ∙ sym c.from_le_bytes-2.ensures),
  );
}
