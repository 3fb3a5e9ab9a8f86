use Rattle.std.proofs.Common.{◌≡◌, ◌∙◌, ◌≤◌, List, ap, arith, inl, inr, length, refl, subst, sym, take, drop, ◌+◌, ℕ}
use Rattle.std.proofs.Common.{length-take-le, take_all, take_at}
use Rattle.cap_streams.specs.declared.lines.Front.{Front, TheVariants.{Line, TooLong, Cut}}
use Rattle.cap_streams.specs.Front.{IsFront, IsFrontText}
use Rattle.cap_streams.proofs.judging.fault_lines.FaultLine.of_front.Goals.{in-Line, in-TooLong, in-Cut}
use Rattle.cap_streams.proofs.judging.fault_lines.FaultLine.of_front.Goals as goal

-- How many bytes are held of a front.
abbrev held : List ℕ → Front → ℕ
held bytes (Line n) = n
held bytes TooLong = 96
held bytes Cut = length bytes

held_few : (bytes : List ℕ) (front : Front) → IsFront bytes front → (held bytes front ≤ 96) × (held bytes front ≤ length bytes)
held_few bytes (Line n) is =
    let before : n ≤ length bytes = omega (arith, is.0) in
    let short = is.1.short in
    let counted = length-take-le n bytes before in
    (omega (arith, short, counted), before)
held_few bytes TooLong is = (omega arith, is.0)
held_few bytes Cut is = (omega (arith, is.0), omega arith)

-- They are its line.
held_line : (bytes : List ℕ) (front : Front) → IsFront bytes front → IsFrontText bytes (take (held bytes front) bytes)
held_line bytes (Line n) is = inr (inr (take n bytes, drop (n + 1) bytes, is.1, refl))
held_line bytes TooLong is = inl (is, refl)
held_line bytes Cut is = inr (inl (is, take_all (length bytes) bytes (omega arith)))

pub slice_bounds-line-end : goal.slice_bounds-line-end
slice_bounds-line-end c =
    let is : c.match-found.length ≡ held c.args.bytes.now c.args.found =
    elim c.match-found.branch [
      | in-Line w ↦ w.length-is ∙ ap (held c.args.bytes.now) (sym w.in-Line.is)
      | in-TooLong w ↦ w.length-is ∙ ap (held c.args.bytes.now) (sym w.in-TooLong.is)
      | in-Cut w ↦ w.length-is ∙ ap (held c.args.bytes.now) (sym w.in-Cut.is)
    ] in
    subst (λ (n : ℕ). n ≤ 96) (sym is) (held_few c.args.bytes.now c.args.found c.requires.found).0

pub slice_bounds-copy_from_slice-end-2 : goal.slice_bounds-copy_from_slice-end-2
slice_bounds-copy_from_slice-end-2 c =
    let is : c.match-found.length ≡ held c.args.bytes.now c.args.found =
    elim c.match-found.branch [
      | in-Line w ↦ w.length-is ∙ ap (held c.args.bytes.now) (sym w.in-Line.is)
      | in-TooLong w ↦ w.length-is ∙ ap (held c.args.bytes.now) (sym w.in-TooLong.is)
      | in-Cut w ↦ w.length-is ∙ ap (held c.args.bytes.now) (sym w.in-Cut.is)
    ] in
    let counted = held_few c.args.bytes.now c.args.found c.requires.found in
    let few = subst (λ (n : ℕ). n ≤ length c.args.bytes.now) (sym is) counted.1 in
    sym (length-take-le c.match-found.length c.args.bytes.now few)

pub returns : goal.returns
returns c = record {
  front = let n = c.match-found.length in
      let bytes = c.args.bytes.now in
      let is : c.match-found.length ≡ held c.args.bytes.now c.args.found =
      elim c.match-found.branch [
        | in-Line w ↦ w.length-is ∙ ap (held c.args.bytes.now) (sym w.in-Line.is)
        | in-TooLong w ↦ w.length-is ∙ ap (held c.args.bytes.now) (sym w.in-TooLong.is)
        | in-Cut w ↦ w.length-is ∙ ap (held c.args.bytes.now) (sym w.in-Cut.is)
      ] in
      let counted = held_few bytes c.args.found c.requires.found in
      let few = subst (λ (m : ℕ). m ≤ length bytes) (sym is) counted.1 in
      let copied = c.copy_from_slice.ensures.after in
      let kept = ap length copied ∙ length-take-le n bytes few in
      subst (IsFrontText bytes) (sym (take_at c.copy_from_slice.new.self _ n kept ∙ copied ∙ ap (λ (m : ℕ). take m bytes) is))
      (held_line bytes c.args.found c.requires.found);
}
