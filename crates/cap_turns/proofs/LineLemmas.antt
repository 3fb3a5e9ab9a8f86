-- Fronts of bytes, and whole lines.
use Rattle.std.proofs.Common.{◌≡◌, ◌≢◌, ◌<◌, ◌≤◌, ℕ, ◌+◌, ◌-◌, arith, inl, inr, Bool, false, List, [], ◌∷◌, ◌++◌, length, take, drop}
use Rattle.std.proofs.Common.{refl, ap, ◌∙◌, append_assoc, length-append, length-drop, sym, take_at}
use Rattle.std.proofs.lemmas.{Bool.false≢true, List.{take-append-le, Prefix.end_rest}}
use Rattle.cap_streams.specs.Front.{IsCut, IsFrontText, IsLine}
use Rattle.cap_streams.proofs.FrontLemmas.{IsLine-more, IsLine-not_cut, IsLine-not_too_long, IsLine-same, IsTooLong-more, IsTooLong-not_cut}
use Rattle.cap_turns.specs.{Readings.{IsNoLine, IsWholeLine}, Verdicts.IsLastFront}

-- how much of some bytes a front is
pub front_count : (bytes front rest : List ℕ) → bytes ≡ front ++ rest
    → (take (length bytes - length rest) bytes ≡ front) × (drop (length bytes - length rest) bytes ≡ rest)
front_count bytes front rest split =
    let count : length bytes - length rest ≡ length front = omega (arith, ap length split, length-append front rest) in (
      ap (take (length bytes - length rest)) split ∙ take_at front rest (length bytes - length rest) (sym count),
      end_rest bytes rest front split,
    )

-- what follows two fronts is no longer than the bytes
pub later_fits : (bytes front here more rest : List ℕ) → bytes ≡ front ++ here → here ≡ more ++ rest → length rest ≤ length bytes
later_fits bytes front here more rest is next = rw (is, next) (omega (arith, length-append front (more ++ rest), length-append more rest))

-- and shorter where it is not what stood before
pub later_smaller : (bytes front here more rest : List ℕ) → bytes ≡ front ++ here → here ≡ more ++ rest → length rest ≢ length here
    → length rest < length bytes
later_smaller bytes front here more rest is next differs =
    rw is (omega (arith, length-append front here, ap length next ∙ length-append more rest, differs))

-- the text of a front that is cut
pub cut_text : (rest text : List ℕ) → IsCut rest → IsFrontText rest text → text ≡ rest
cut_text rest text cut (inl long) = absurd (IsTooLong-not_cut rest long.0 cut)
cut_text rest text cut (inr (inl is)) = is.1
cut_text rest text cut (inr (inr whole)) = absurd (IsLine-not_cut rest whole.0 whole.1 whole.2 cut)

-- the text of a front, whatever follows it
pub front_more : (rest after text : List ℕ) → IsLastFront rest false text → IsLastFront (rest ++ after) false text
front_more rest after text (inl long) = inl (IsTooLong-more rest after long.0, long.1 ∙ sym (take-append-le 96 rest after long.0.0))
front_more rest after text (inr (inl cut)) = absurd (false≢true cut.1.1)
front_more rest after text (inr (inr whole)) = inr (inr (whole.0, whole.1 ++ after, IsLine-more rest whole.0 whole.1 after whole.2, whole.3))

-- whether the source has ended or not
pub ended_front : (rest : List ℕ) (ended : Bool) (text : List ℕ) → IsLastFront rest false text → IsLastFront rest ended text
ended_front rest ended text (inl long) = inl long
ended_front rest ended text (inr (inl cut)) = absurd (false≢true cut.1.1)
ended_front rest ended text (inr (inr line)) = inr (inr line)

-- Lines alone

pub whole_some : (line : List ℕ) → IsWholeLine line → IsNoLine line → ⊥
whole_some line (inl whole) none = none.0 whole.0 whole.1
whole_some line (inr long) none = none.1 long

pub whole_uncut : (line : List ℕ) → IsWholeLine line → IsCut line → ⊥
whole_uncut line (inl whole) cut = IsLine-not_cut line whole.0 [] whole.1 cut
whole_uncut line (inr long) cut = IsTooLong-not_cut line long cut

-- nothing comes after the line
pub whole_rest : (line text rest : List ℕ) → IsWholeLine line → IsLine line text rest → rest ≡ []
whole_rest line text rest (inl whole) is = (IsLine-same line text rest whole.0 [] is whole.1).1
whole_rest line text rest (inr long) is = absurd (IsLine-not_too_long line text rest is long)

-- more than a line, or less than one
pub longer_no_line : (line : List ℕ) (n : ℕ) → (n < length line) × IsLine line (take n line) (drop (n + 1) line)
    → (n + 1 ≡ length line → ⊥) → IsNoLine line
longer_no_line line n found longer = (
  λ text whole.
      let none = ap length (IsLine-same line text [] (take n line) (drop (n + 1) line) whole found.1).1 in
      longer (omega (arith, none, length-drop (n + 1) line, found.0)),
  λ long. IsLine-not_too_long line (take n line) (drop (n + 1) line) found.1 long,
)

pub cut_no_line : (line : List ℕ) → IsCut line → IsNoLine line
cut_no_line line cut = (λ text whole. IsLine-not_cut line text [] whole cut, λ long. IsTooLong-not_cut line long cut)
