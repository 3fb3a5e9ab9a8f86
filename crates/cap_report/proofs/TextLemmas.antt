-- The text that a new sink took.
use Rattle.std.proofs.Common.{◌≡◌, ℕ, List, subst, sym}
use Rattle.cap_report.specs.{declared.texts.TextSink.TextSink, Sinks.Took, Texts.IsTold}

-- it is told in the sink's room, with what the sink counted
pub told_from : (first last : TextSink) (text old : List ℕ) (count : ℕ) → first.length ≡ 0 → first.room.now ≡ old → count ≡ last.length
    → Took first last text → IsTold 0 count text old last.room.now
told_from first last text old count none room is took =
    subst (λ (n : ℕ). IsTold 0 n text old last.room.now) (sym is)
    (subst (λ (o : List ℕ). IsTold 0 last.length text o last.room.now) room
    (subst (λ (n : ℕ). IsTold n last.length text first.room.now last.room.now) none took.1))
