-- What a merge of two runs makes.
use Rattle.std.specs.List.{copy_within, Sorted.IsNonDecreasingBy}
use Rattle.std.proofs.Common.{◌≡◌, ℕ, suc, ◌+◌, ◌-◌, ◌<◌, ◌≤◌, true, false, cond, nat_lt, List, [], ◌∷◌, ◌++◌, ◌⊎◌}
use Rattle.std.proofs.Common.{⊎_elim, length, get_or, set, take, drop, Bool, not, sym, ap, subst, ◌∙◌, arith}
use Rattle.std.proofs.Common.{IsPermutation, take-add, take-suc, append-nil, append_assoc, drop-drop, drop-set-lt}
use Rattle.std.proofs.Common.{get_or-drop, length-append, length-drop, length-set, length-take-le, take-append-drop}
use Rattle.std.proofs.Math.Seq.{drop-append_seam, get_or-append_right, get_or-append_seam, take-append-add}
use Rattle.std.proofs.{Math.Seq.take-append_seam, lemmas.Bool.Decides.nat_tests}
use Rattle.std.proofs.lemmas.List.{drop-set, take-append-le, take-set-le}
use Rattle.std.proofs.lemmas.List.Sorted.{IsNonDecreasingBy-insert, IsPermutation-append_right, IsPermutation-middle}
use Rattle.std.proofs.lemmas.List.Sorted.{IsPermutation-refl, IsPermutation-sym, IsPermutation-trans}
use mir.Val.{bool_byte}
use Rattle.tagmem_lent.specs.{declared.lent_store.Slot.Slot, Lent.part}
use Rattle.tagmem_lent.proofs.Lent.{no_slot}

abbrev pub granule_of : Slot → ℕ
granule_of slot = slot.granule

pub take_of_take : (k n : ℕ) (l : List Slot) → k ≤ n → n ≤ length l → take k (take n l) ≡ take k l
take_of_take k n l le inside =
    sym (take-append-le k (take n l) (drop n l) (omega (arith, length-take-le n l inside))) ∙ ap (take k) (take-append-drop n l)

-- where the same rises behind two slots, it does behind both, the greater one last
rises_between : (xs ys zs : List Slot) (x y : Slot) → IsNonDecreasingBy granule_of (xs ++ x ∷ zs) → IsNonDecreasingBy granule_of (ys ++ y ∷ zs)
    → y.granule ≤ x.granule → IsNonDecreasingBy granule_of (ys ++ y ∷ x ∷ zs)
rises_between xs ys zs x y first second le =
    let old = ys ++ y ∷ zs in
    let n : ℕ = length ys + 1 in
    let long = length-append ys (y ∷ zs) in
    let front : take n old ≡ ys ++ y ∷ [] = take-append-add ys (y ∷ zs) 1 in
    let rest : drop n old ≡ zs = sym (drop-drop 1 (length ys) old) ∙ ap (drop 1) (drop-append_seam ys (y ∷ zs)) in
    subst (IsNonDecreasingBy granule_of) (ap (λ (l : List Slot). l ++ x ∷ drop n old) front ∙ ap (λ (l : List Slot). (ys ++ y ∷ []) ++ x ∷ l) rest
    ∙ append_assoc ys (y ∷ []) (x ∷ zs))
    (IsNonDecreasingBy-insert granule_of old n x second (omega (arith, long))
    (λ k d lt. omega (arith, le, ap granule_of (get_or-append_seam ys y zs d), second k (length ys) d (omega arith) (omega (arith, long))))
    (λ k d above below.
    let i : ℕ = k - n in
    let here = get_or-append_right ys (y ∷ zs) k d (omega arith) ∙ ap (λ (j : ℕ). get_or (y ∷ zs) j d) {y = suc i} (omega arith) in
    let there = get_or-append_right xs (x ∷ zs) (length xs + suc i) d (omega arith) ∙ ap (λ (j : ℕ). get_or (x ∷ zs) j d) {y = suc i} (omega arith) in
    omega (
      arith,
      ap granule_of here,
      ap granule_of there,
      ap granule_of (get_or-append_seam xs x zs d),
      first (length xs) (length xs + suc i) d
          (omega arith) (omega (arith, long, length-append xs (x ∷ zs))),
    )))

-- slots while two runs are merged from their ends on: the first slots of both are still to be merged, and what is behind them is done
pub record IsMerging (old : List Slot) (middle end : ℕ) (slots : List Slot) (left right : ℕ) : Type 0 where
  pub left_in : left ≤ middle
  pub right_in : right ≤ end - middle
  pub len : length slots ≡ length old
  pub left_rises : IsNonDecreasingBy granule_of (take left slots ++ part (left + right) end slots)
  pub right_rises : IsNonDecreasingBy granule_of (take right (drop end slots) ++ part (left + right) end slots)
  pub permuted : IsPermutation (take end old) (take left slots ++ (take right (drop end slots) ++ part (left + right) end slots))

-- at first nothing is done, and the second run stands behind both
pub IsMerging-begun : (old : List Slot) (middle end : ℕ) → middle ≤ end → end + (end - middle) ≤ length old
    → IsNonDecreasingBy granule_of (take middle old) → IsNonDecreasingBy granule_of (part middle end old)
    → (slots : List Slot) → length slots ≡ length old → slots ≡ copy_within old middle end end → IsMerging old middle end slots middle (end - middle)
IsMerging-begun old middle end ordered room left right slots len is =
    let front = take end old in
    let second = part middle end old in
    let behind = drop (end + (end - middle)) old in
    let front_long = length-take-le end old (omega arith) in
    let second_long = length-take-le (end - middle) (drop middle old) (omega (arith, length-drop middle old)) in
    let first_is : take middle slots ≡ take middle old =
    ap (take middle) (is ∙ append_assoc front second behind) ∙ take-append-le middle front (second ++ behind) (omega (arith, front_long))
    ∙ take_of_take middle end old ordered (omega arith) in
    let from_end : drop end slots ≡ second ++ behind =
    ap (drop end) (is ∙ append_assoc front second behind) ∙ ap (λ (n : ℕ). drop n (front ++ (second ++ behind))) (sym front_long)
    ∙ drop-append_seam front (second ++ behind) in
    let second_is : take (end - middle) (drop end slots) ≡ second =
    ap (take (end - middle)) from_end ∙ ap (λ (n : ℕ). take n (second ++ behind)) (sym second_long) ∙ take-append_seam second behind in
    let none : part (middle + (end - middle)) end slots ≡ [] = ap (λ (n : ℕ). take n (drop (middle + (end - middle)) slots)) {y = 0} (omega arith) in
    let whole : take end old ≡ take middle old ++ second = ap (λ (n : ℕ). take n old) {y = middle + (end - middle)} (omega arith) ∙ take-add middle (end - middle) old in
    record {
      left_in = omega arith;
      right_in = omega arith;
      len = len;
      left_rises = rw (first_is, none, append-nil (take middle old)) left;
      right_rises = rw (second_is, none, append-nil second) right;
      permuted = rw (first_is, second_is, none, append-nil second, whole) (IsPermutation-refl (take middle old ++ second));
    }

module _ (old : List Slot) (middle end : ℕ) (slots : List Slot) (left right : ℕ) (ordered : middle ≤ end)
    (room : end + (end - middle) ≤ length old) (is : IsMerging old middle end slots left right) where
  abbrev done : List Slot
  done = part (left + right) end slots

  abbrev rest : List Slot
  rest = take right (drop end slots)

  module _ (some_left : 0 < left) (some_right : 0 < right) where
    abbrev at : ℕ
    at = left + right - 1

    abbrev after : Slot → List Slot
    after x = set slots at x

    abbrev last_left : Slot
    last_left = get_or slots (left - 1) no_slot

    abbrev last_right : Slot
    last_right = get_or slots (end + right - 1) no_slot

    left_ends : (l : List Slot) → take left slots ++ l ≡ take (left - 1) slots ++ last_left ∷ l
    left_ends l =
        ap (λ (front : List Slot). front ++ l) (ap (λ (n : ℕ). take n slots) {y = suc (left - 1)} (omega arith)
        ∙ take-suc slots (left - 1) no_slot (omega (arith, is.len, is.left_in)))
        ∙ append_assoc (take (left - 1) slots) (last_left ∷ []) l

    right_ends : (l : List Slot) → rest ++ l ≡ take (right - 1) (drop end slots) ++ last_right ∷ l
    right_ends l =
        ap (λ (front : List Slot). front ++ l) (ap (λ (n : ℕ). take n (drop end slots)) {y = suc (right - 1)} (omega arith)
        ∙ take-suc (drop end slots) (right - 1) no_slot (omega (arith, length-drop end slots, is.len, is.right_in))
        ∙ ap (λ (s : Slot). take (right - 1) (drop end slots) ++ s ∷ []) (get_or-drop end slots (right - 1) no_slot
        ∙ ap (λ (i : ℕ). get_or slots i no_slot) (omega arith)))
        ∙ append_assoc (take (right - 1) (drop end slots)) (last_right ∷ []) l

    left_up : IsNonDecreasingBy granule_of (take (left - 1) slots ++ last_left ∷ done)
    left_up = subst (IsNonDecreasingBy granule_of) (left_ends done) is.left_rises

    right_up : IsNonDecreasingBy granule_of (take (right - 1) (drop end slots) ++ last_right ∷ done)
    right_up = subst (IsNonDecreasingBy granule_of) (right_ends done) is.right_rises

    -- one of the last slots goes before what is done
    taken : (x : Slot) (l r : ℕ) → l + r ≡ at → l ≤ left → r ≤ right → IsNonDecreasingBy granule_of (take l slots ++ x ∷ done)
        → IsNonDecreasingBy granule_of (take r (drop end slots) ++ x ∷ done)
        → IsPermutation (take end old) (take l slots ++ (take r (drop end slots) ++ x ∷ done)) → IsMerging old middle end (after x) l r
    taken x l r is_at less_left less_right up up' permuted =
        let inside : at < length slots = omega (arith, is.len, is.left_in, is.right_in) in
        let many : end - at ≡ suc (end - (left + right)) = omega (arith, is.left_in, is.right_in) in
        let written : part (l + r) end (after x) ≡ x ∷ done =
        ap (λ (i : ℕ). part i end (after x)) is_at
        ∙ ap (take (end - at)) (drop-set slots at x inside ∙ ap (λ (i : ℕ). x ∷ drop i slots) {y = left + right} (omega arith))
        ∙ ap (λ (n : ℕ). take n (x ∷ drop (left + right) slots)) many in
        let first : take l (after x) ≡ take l slots = take-set-le l slots at x (omega arith) in
        let second : drop end (after x) ≡ drop end slots = drop-set-lt end slots at x (omega (arith, is.left_in, is.right_in)) in
        record {
          left_in = omega (arith, is.left_in);
          right_in = omega (arith, is.right_in);
          len = length-set slots at x ∙ is.len;
          left_rises = rw (first, written) up;
          right_rises = rw (second, written) up';
          permuted = rw (first, second, written) permuted;
        }

    to_left : last_right.granule ≤ last_left.granule → IsMerging old middle end (after last_left) (left - 1) right
    to_left le = taken last_left (left - 1) right (omega arith) (omega arith) (omega arith) left_up
        (subst (IsNonDecreasingBy granule_of) (sym (right_ends (last_left ∷ done)))
        (rises_between (take (left - 1) slots) (take (right - 1) (drop end slots)) done last_left last_right left_up right_up le))
        (IsPermutation-trans _ _ _ (subst (IsPermutation (take end old)) (left_ends (rest ++ done)) is.permuted)
        (IsPermutation-append_right (take (left - 1) slots) _ _ (IsPermutation-sym _ _ (IsPermutation-middle rest last_left done))))

    to_right : last_left.granule ≤ last_right.granule → IsMerging old middle end (after last_right) left (right - 1)
    to_right le = taken last_right left (right - 1) (omega arith) (omega arith) (omega arith)
        (subst (IsNonDecreasingBy granule_of) (sym (left_ends (last_right ∷ done)))
        (rises_between (take (right - 1) (drop end slots)) (take (left - 1) slots) done last_right last_left right_up left_up le)) right_up
        (subst (λ (l : List Slot). IsPermutation (take end old) (take left slots ++ l)) (right_ends done) is.permuted)

    -- a turn of the loop
    pub stepped : (is_left : Bool) (from : ℕ) → nat_lt last_right.granule last_left.granule ≡ is_left → from ≡ cond is_left (left - 1) (end + right - 1)
        → IsMerging old middle end (after (get_or slots from no_slot)) (left - bool_byte is_left) (right - bool_byte (not is_left))
    stepped true from less is_from =
        subst (λ (i : ℕ). IsMerging old middle end (after (get_or slots i no_slot)) (left - 1) (right - 0)) (sym is_from)
        (subst (IsMerging old middle end (after last_left) (left - 1)) (omega arith) (to_left (grind (arith, nat_tests))))
    stepped false from less is_from =
        subst (λ (i : ℕ). IsMerging old middle end (after (get_or slots i no_slot)) (left - 0) (right - 1)) (sym is_from)
        (subst (λ (n : ℕ). IsMerging old middle end (after last_right) n (right - 1)) (omega arith) (to_right (grind (arith, nat_tests))))

  -- where one of both is used up, what is left of the second run goes to its place
  pub merged : (left ≡ 0) ⊎ (right ≡ 0) → (new : List Slot) → new ≡ copy_within slots end (end + right) left
      → IsPermutation (take end old) (take end new) × IsNonDecreasingBy granule_of (take end new)
  merged used_up new is_new =
      let front = take left slots in
      let long : length (front ++ rest) ≡ left + right = length-append front rest ∙ omega (
        arith,
        length-take-le left slots (omega (arith, is.len, is.left_in)),
        length-take-le right (drop end slots) (omega (arith, length-drop end slots, is.len, is.right_in)),
      ) in
      let whole : length (front ++ rest) + (end - (left + right)) ≡ end = omega (arith, long, is.left_in, is.right_in) in
      let same : front ++ (rest ++ done) ≡ take end new =
      sym (ap (take end) is_new
      ∙ ap (λ (n : ℕ). take end ((front ++ take n (drop end slots)) ++ drop (left + n) slots)) {y = right} (omega arith)
      ∙ ap (λ (n : ℕ). take n ((front ++ rest) ++ drop (left + right) slots)) (sym whole)
      ∙ take-append-add (front ++ rest) (drop (left + right) slots) (end - (left + right)) ∙ append_assoc front rest done) in (
        subst (IsPermutation (take end old)) same is.permuted,
        subst (IsNonDecreasingBy granule_of) same (⊎_elim
            (λ (none : left ≡ 0). subst (λ (n : ℕ). IsNonDecreasingBy granule_of (take n slots ++ (rest ++ done))) (sym none) is.right_rises)
            (λ (none : right ≡ 0). subst (λ (n : ℕ). IsNonDecreasingBy granule_of (front ++ (take n (drop end slots) ++ done))) (sym none) is.left_rises) used_up),
      )
