-- What a word keeps where its permissions or its object type are replaced.
use Rattle.std.proofs.Common.{◌≡◌, ℕ, ◌/◌, ◌%◌, ◌^◌, ◌<◌, arith}
use Rattle.cap_word.specs.Fields.{perms_of}
use Rattle.cap_ops.specs.Permissions.{with_perms, with_type}

pub with_type-low : (w otype : ℕ) → with_type w otype % 2 ^ 91 ≡ w % 2 ^ 91
with_type-low w otype = omega arith

pub perms_of-with_type : (w otype : ℕ) → otype < 2 ^ 18 → perms_of (with_type w otype) ≡ perms_of w
perms_of-with_type w otype h = omega arith

pub with_perms-low : (w perms : ℕ) → with_perms w perms % 2 ^ 91 ≡ w % 2 ^ 91
with_perms-low w perms = omega arith

pub perms_of-with_perms : (w perms : ℕ) → perms < 2 ^ 16 → perms_of (with_perms w perms) ≡ perms
perms_of-with_perms w perms h = omega arith

-- words with the same bits from 91 on have the same permissions
pub perms_of-high : (x y : ℕ) → x / 2 ^ 91 ≡ y / 2 ^ 91 → perms_of x ≡ perms_of y
perms_of-high x y e = omega arith
