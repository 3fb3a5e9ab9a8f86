use Rattle.std.specs.Int.Bits.{and_mask}
use Rattle.std.proofs.Common.{◌≡◌, ℕ, ◌*◌, ◌-◌, ◌/◌, ◌%◌, ◌^◌, inl, inr, ap, refl, ◌∙◌, bit_and}
use Rattle.cap_word.proofs.Bytes.{from_le_bytes_is}
use Rattle.cap_log.specs.Lines.{IsDataSize}
use Rattle.cap_machine.proofs.GranuleLemmas.{number_at-cut}
use Rattle.cap_machine.proofs.machine.number_from.Goals as goal

-- the bits of so many bytes
masked : (rest size : ℕ) → IsDataSize size → bit_and rest (18446744073709551615 / 2 ^ (64 - 8 * size)) ≡ rest % 256 ^ size
masked rest size (inl e) = rw e (and_mask rest 8)
masked rest size (inr (inl e)) = rw e (and_mask rest 16)
masked rest size (inr (inr (inl e))) = rw e (and_mask rest 32)
masked rest size (inr (inr (inr e))) = rw e (and_mask rest 64)

pub returns : goal.returns
returns c =
    let rest = c.from_le_bytes.result / 2 ^ (8 * c.from.result) in
    ap (bit_and rest) (c.from-3.ensures ∙ ap (λ (size : ℕ). 18446744073709551615 / 2 ^ (64 - 8 * size)) (c.from-2.ensures ∙ c.bytes.ensures.bytes))
    ∙ masked rest c.args.size c.bytes.ensures.range
    ∙ number_at-cut c.args.bytes.now c.args.byte_index c.args.size c.args.size _ _ c.fits-bytes
    (c.from_le_bytes.ensures ∙ from_le_bytes_is c.args.bytes.now c.told-bytes) c.from.ensures refl
