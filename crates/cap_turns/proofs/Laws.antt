-- What lines have to be for their readings to have one end.
use Rattle.std.proofs.Common.{◌≡◌, ◌≤◌, ◌⊎◌, ℕ, List, length}
use Rattle.cap_streams.specs.Front.{HasNoFeed}
use Rattle.cap_turns.specs.Turns.{Goes, IsAtFault, Stage, Turns, lines_read}

module _ {Line State Refusal : Type 0} (turns : Turns Line State Refusal) where
  -- a spelling has no line feed and at most 95 bytes, and is that of one line; and bytes are a spelling or none
  pub record AreSpelled : Type 0 where
    pub plain : (line : Line) → turns.IsInRange line → HasNoFeed (turns.spelling line)
    pub short : (line : Line) → turns.IsInRange line → length (turns.spelling line) ≤ 95
    pub one : (a b : Line) → turns.IsInRange a → turns.IsInRange b → turns.spelling a ≡ turns.spelling b → a ≡ b
    pub decided : (text : List ℕ) → ((line : Line) × (turns.IsInRange line × (text ≡ turns.spelling line)))
        ⊎ ((line : Line) → turns.IsInRange line × (text ≡ turns.spelling line) → ⊥)

  -- the laws of lines that are read from a stage on: no line leads to a faulty one, and the lines are counted
  pub record AreTurns (start : Stage State Refusal) : Type 0 where
    pub spelled : AreSpelled
    pub clear : (line : Line) → IsAtFault (turns.next line) → ⊥
    pub begun : IsAtFault start.due → ⊥
    pub counted : (bytes : List ℕ) (stage : Stage State Refusal) (goes : Goes turns start bytes stage) → lines_read turns stage ≡ length goes.lines
