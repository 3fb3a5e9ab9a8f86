-- What a capability may reach: a derived one reaches no more than its source.
use Rattle.std.specs.Prelude.{ℕ, IsTrue}
use Rattle.cap_word.specs.declared.word.Cap.{Cap}
use Rattle.cap_bounds.specs.Bounds.{base_of, top_of, IsInside, IsSound}
use Rattle.cap_ops.specs.Permissions.{has_permission}

-- a word reaches no more than another: its bounds lie inside, and it has no permission that the other lacks
pub record ReachesNoMore (word other : ℕ) : Type 0 where
  pub inside : IsInside (base_of word) (top_of word) (base_of other) (top_of other)
  pub fewer : (permission : ℕ) → IsTrue (has_permission word permission) → IsTrue (has_permission other permission)

-- a result stays within its source: where it is tagged, so is the source, and where then the source's
-- word is sound, the result's word reaches no more and is sound
pub record StaysWithin (result source : Cap) : Type 0 where
  pub from_tagged : IsTrue result.tag → IsTrue source.tag
  pub no_more : IsTrue result.tag → IsSound source.word.0 → ReachesNoMore result.word.0 source.word.0
  pub sound : IsTrue result.tag → IsSound source.word.0 → IsSound result.word.0
