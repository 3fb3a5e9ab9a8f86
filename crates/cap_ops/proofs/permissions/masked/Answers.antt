use Rattle.std.proofs.{Common.{◌≡◌, ℕ, ◌+◌, ◌-◌, ◌*◌, ◌%◌, ◌^◌, ◌<◌, ◌∙◌, ap, arith, bit_and}, lemmas.Nat.{and_block, and_mask}}
use Rattle.cap_word.specs.Fields.{perms_of}
use Rattle.cap_ops.specs.Operations.{and_perm_result, with_word}
use Rattle.cap_ops.specs.Permissions.{perm_view_of, perms_from_view, with_perms}
use Rattle.cap_ops.proofs.PermissionLemmas.{perms_from_view-and}
use Rattle.cap_ops.proofs.permissions.masked.Goals as goal

-- the word that the code makes has the masked permissions
masked_word : (w field mask : ℕ) → w < 2 ^ 128 → field ≡ perms_from_view mask
    → bit_and w (field * 2 ^ 112 + (2 ^ 112 - 1)) ≡ with_perms w (perms_from_view (bit_and (perm_view_of w) mask))
masked_word w field mask fits is =
    let split : w ≡ perms_of w * 2 ^ 112 + w % 2 ^ 112 = omega arith in
    let low : bit_and (w % 2 ^ 112) (2 ^ 112 - 1) ≡ w % 2 ^ 112 = omega (arith, and_mask (w % 2 ^ 112) 112) in
    ap (λ (x : ℕ). bit_and x (field * 2 ^ 112 + (2 ^ 112 - 1))) split
    ∙ and_block 112 (perms_of w) field (w % 2 ^ 112) (2 ^ 112 - 1) (omega arith) (omega arith)
    ∙ ap (λ (x : ℕ). bit_and (perms_of w) field * 2 ^ 112 + x) low
    ∙ ap (λ (x : ℕ). with_perms w (bit_and (perms_of w) x)) is
    ∙ ap (with_perms w) (perms_from_view-and w mask)

pub returns : goal.returns
unfolding and_perm_result
returns c =
    let whole : c.from.result * 2 ^ 112 % 2 ^ 128 ≡ c.field_of.result * 2 ^ 112 = omega (arith, c.from.ensures) in
    ap (with_word c.args.source) (ap (λ (x : ℕ). bit_and c.args.source.word.0 (x + (2 ^ 112 - 1))) whole
    ∙ masked_word c.args.source.word.0 c.field_of.result c.args.mask (omega arith) c.field_of.ensures)
