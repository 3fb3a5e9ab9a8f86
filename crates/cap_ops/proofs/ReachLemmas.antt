-- When a word reaches no more than another, and a capability stays within its source.
use Rattle.std.proofs.Common.{◌≡◌, ℕ, ◌%◌, ◌^◌, IsTrue, sym, subst, ◌∙◌, arith}
use Rattle.cap_word.specs.declared.word.Cap.{Cap}
use Rattle.cap_bounds.specs.Bounds.{IsSound, base_of, top_of}
use Rattle.cap_bounds.proofs.LeastRounding.{IsInside-refl, IsInside-trans}
use Rattle.cap_bounds.proofs.SameFields.{base_of-low, top_of-low, IsSound-low}
use Rattle.cap_ops.specs.Authority.{ReachesNoMore, StaysWithin}
use Rattle.cap_ops.proofs.PermissionLemmas.{IsFewer}

-- a word reaches no more than itself
pub ReachesNoMore-refl : (w : ℕ) → ReachesNoMore w w
ReachesNoMore-refl w = record { inside = IsInside-refl (base_of w) (top_of w); fewer = λ n h. h }

-- a word that reaches no more than a second, which reaches no more than a third, reaches no more than the third
pub ReachesNoMore-trans : (x y z : ℕ) → ReachesNoMore x y → ReachesNoMore y z → ReachesNoMore x z
ReachesNoMore-trans x y z p q = record {
  inside = IsInside-trans (base_of x) (top_of x) (base_of y) (top_of y) (base_of z) (top_of z) p.inside q.inside;
  fewer = λ n h. q.fewer n (p.fewer n h);
}

-- a word with the bounds of another and no permission more reaches no more than it
pub ReachesNoMore-same : (x y : ℕ) → base_of x ≡ base_of y → top_of x ≡ top_of y → IsFewer x y → ReachesNoMore x y
ReachesNoMore-same x y base top fewer = record { inside = (omega arith, omega arith); fewer = fewer }

-- a word that differs from a sound one above its low 91 bits only, and has no permission more, reaches no more
pub no_more_low : (x y : ℕ) → x % 2 ^ 91 ≡ y % 2 ^ 91 → IsFewer x y → IsSound y → ReachesNoMore x y × IsSound x
no_more_low x y e fewer sound = (ReachesNoMore-same x y (base_of-low x y e) (top_of-low x y e) fewer, IsSound-low x y e sound)

-- what stays within a source: two capabilities with the same tag, and words of which one reaches no more
pub StaysWithin-words : (result source : Cap) → result.tag ≡ source.tag
    → (IsTrue source.tag → IsSound source.word.0 → ReachesNoMore result.word.0 source.word.0 × IsSound result.word.0)
    → StaysWithin result source
StaysWithin-words result source same words = record {
  from_tagged = λ tagged. sym same ∙ tagged;
  no_more = λ tagged sound. (words (sym same ∙ tagged) sound).0;
  sound = λ tagged sound. (words (sym same ∙ tagged) sound).1;
}

-- a capability stays within itself
pub StaysWithin-refl : (cap : Cap) → StaysWithin cap cap
StaysWithin-refl cap = record { from_tagged = λ t. t; no_more = λ t sound. ReachesNoMore-refl cap.word.0; sound = λ t sound. sound }

pub StaysWithin-same : (x y source : Cap) → x ≡ y → StaysWithin y source → StaysWithin x source
StaysWithin-same x y source e h = let P : Cap → Type 0 = λ cap. StaysWithin cap source in subst P (sym e) h
