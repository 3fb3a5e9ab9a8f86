-- The results of operations stay within their sources.
use Rattle.std.proofs.Common.{◌≡◌, ℕ, ◌%◌, ◌^◌, ◌<◌, refl, ◌∙◌, arith, lit<, bit_and}
use Rattle.std.proofs.lemmas.Bool.{and_parts, false≢true}
use Rattle.cap_word.specs.{declared.word.Cap.Cap, Fields.{address_of, perms_of}}
use Rattle.cap_ops.specs.{Accesses.loaded_result, Authority.StaysWithin}
use Rattle.cap_ops.specs.Operations.{and_perm_result, cleared, perms_with_common_global, seal_result, unseal_result}
use Rattle.cap_ops.specs.Permissions.{perm_view_of, perms_from_view, unsealed_type, with_perms, with_type}
use Rattle.cap_ops.proofs.PermissionLemmas.{IsFewer-common, IsFewer-masked, IsFewer-same, perm_view_of-and_perm}
use Rattle.cap_ops.proofs.PermissionLemmas.{perms_with_common_global-lt}
use Rattle.cap_ops.proofs.ReachLemmas.{ReachesNoMore-refl, StaysWithin-words, no_more_low}
use Rattle.cap_ops.proofs.ReplacedFields.{perms_of-with_perms, perms_of-with_type, with_perms-low, with_type-low}

-- the view of what masking makes
pub view-and_perm_result : (source : Cap) (mask : ℕ) → perm_view_of (and_perm_result source mask).word.0
    ≡ bit_and (perm_view_of source.word.0) mask
unfolding and_perm_result
view-and_perm_result source mask = perm_view_of-and_perm source.word.0 mask

pub StaysWithin-and_perm : (source : Cap) (mask : ℕ) → StaysWithin (and_perm_result source mask) source
unfolding and_perm_result
StaysWithin-and_perm source mask =
    let w = source.word.0 in
    let kept = perms_from_view (bit_and (perm_view_of w) mask) in
    StaysWithin-words (and_perm_result source mask) source refl (λ _ sound. no_more_low (with_perms w kept) w (with_perms-low w kept)
    (IsFewer-masked (with_perms w kept) w mask (perm_view_of-and_perm w mask)) sound)

pub StaysWithin-seal : (source authority : Cap) → StaysWithin (seal_result source authority) source
unfolding seal_result
StaysWithin-seal source authority =
    let w = source.word.0 in
    let otype = address_of authority.word.0 % 2 ^ 18 in
    let small : otype < 2 ^ 18 = omega arith in
    StaysWithin-words (seal_result source authority) source refl (λ _ sound. no_more_low (with_type w otype) w (with_type-low w otype)
    (IsFewer-same (with_type w otype) w (perms_of-with_type w otype small)) sound)

pub StaysWithin-unseal : (source authority : Cap) → StaysWithin (unseal_result source authority) source
unfolding unseal_result
StaysWithin-unseal source authority =
    let w = source.word.0 in
    let other = authority.word.0 in
    let kept = perms_with_common_global w other in
    let u = with_perms w kept in
    let v = with_type u unsealed_type in
    let low : v % 2 ^ 91 ≡ w % 2 ^ 91 = with_type-low u unsealed_type ∙ with_perms-low w kept in
    let small : kept < 2 ^ 16 = perms_with_common_global-lt w other in
    let perms : perms_of v ≡ kept = perms_of-with_type u unsealed_type (lit< tt) ∙ perms_of-with_perms w kept small in
    StaysWithin-words (unseal_result source authority) source refl (λ _ sound. no_more_low v w low (IsFewer-common v w other perms) sound)

-- what is loaded stays within what was stored
pub StaysWithin-loaded : (authority stored : Cap) → StaysWithin (loaded_result authority stored) stored
unfolding loaded_result
StaysWithin-loaded authority stored = record {
  from_tagged = λ t. (and_parts _ _ t).0;
  no_more = λ _ _. ReachesNoMore-refl stored.word.0;
  sound = λ _ sound. sound;
}

-- and nothing without a tag reaches further
pub StaysWithin-cleared : (source : Cap) → StaysWithin (cleared source) source
StaysWithin-cleared source =
    record { from_tagged = λ t. absurd (false≢true t); no_more = λ _ _. ReachesNoMore-refl source.word.0; sound = λ _ sound. sound }
