use Rattle.std.proofs.Common.{ℕ, List, sym, ◌∙◌, ap, rules, w64}
use Rattle.std.specs.Int.{from_le_bytes, to_le_bytes}
use Rattle.std.proofs.lemmas.{Bool.{eq-eqb, eqb-true}, Nat.le_bytes_8}
use Rattle.cap_run_log.proofs.heads.are_eight.Goals as goal

pub returns : goal.returns
returns c = record {
  same = (
    λ is.
        sym (le_bytes_8 c.args.bytes.now _ (search rules) (search rules) c.from_le_bytes.ensures)
        ∙ ap (λ (n : ℕ). to_le_bytes w64 n) (eqb-true _ _ is)
        ∙ le_bytes_8 c.args.text.now _ (search rules) (search rules) c.from_le_bytes-2.ensures,
    λ same. eq-eqb _ _ (c.from_le_bytes.ensures ∙ ap (λ (l : List ℕ). from_le_bytes w64 l) same ∙ sym c.from_le_bytes-2.ensures),
  );
}
