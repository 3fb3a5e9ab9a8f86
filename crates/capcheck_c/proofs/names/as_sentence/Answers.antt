use Rattle.std.proofs.{Common.{◌++◌, ◌∙◌, List, ap, drop, length, replicate, ℕ}, lemmas.List.drop-replicate}
use Rattle.capcheck_c.proofs.names.as_sentence.Goals as goal

pub returns : goal.returns
returns c =
    let text = c.args.text.now in
    ap (λ (t : List ℕ). t ++ drop (length text) (replicate 96 0)) (c.copy_from_slice.ensures.after ∙ c.as_bytes.ensures.value)
    ∙ ap (λ (zeros : List ℕ). text ++ zeros) (drop-replicate (length text) 96 0)
