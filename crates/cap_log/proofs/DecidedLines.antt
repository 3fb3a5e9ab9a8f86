-- Whether bytes spell a line is decided, and which front they have.
use Rattle.std.proofs.Common.{◌≡◌, ◌≢◌, ℕ, ◌+◌, ◌<◌, ◌≤◌, ◌⊎◌, List, [], ◌∷◌, ◌++◌, length, take, drop, get_or}
use Rattle.std.specs.List.{prefix_len}
use Rattle.std.proofs.Common.{sym, ap, ◌∙◌, inl, inr, refl, subst, bytes_eq, Bool, not, eqb, if◌then◌else◌, arith, ne_eqb}
use Rattle.std.proofs.{Math.Seq.take-length, lemmas.Bool.{cases_lt, eqb-false, eqb-true, not-false, not-true}}
use Rattle.std.proofs.lemmas.List.{Elements.{All-head, All-tail}, Sums.{prefix_len-le-length, prefix_len_passes, prefix_len_stops}}
use Rattle.std.proofs.lemmas.{Slice.Eq.bytes_eq-Decides}
use Rattle.cap_log.specs.{declared.{kinds.Head.Head, lines.Line.Line}, Heads.head_spelling, Lines.{Spells, spelling}}
use Rattle.cap_log.specs.{Parts.HasNoSpace, SpacelessLaws.head-spaceless}
use Rattle.cap_streams.specs.Front.{HasNoFeed, IsLine, IsTooLong, IsCut}
use Rattle.cap_streams.proofs.FrontLemmas.{HasNoFeed-take, IsLine-at}
use Rattle.cap_log.proofs.Searches.{Decided, by_test}
use Rattle.cap_log.proofs.Shapes.{Fits, Value, fits-of, head_of, is_made, made, made-of, named, named-spelling}
use Rattle.cap_log.proofs.Shapes.{operands_of, row, spelling-of}

-- bytes spell a line of this head, or none
of_head : (bytes : List ℕ) (h : Head) → Decided ((x : Value h) × Fits h x × (bytes ≡ spelling (made h x)))
of_head bytes h = (row h).searched _ (λ x. by_test (bytes_eq bytes (spelling (made h x))) (bytes_eq-Decides bytes (spelling (made h x))))

-- the first word of some bytes
first_word : List ℕ → List ℕ
first_word [] = []
first_word (b ∷ bytes) = if eqb b 32 then [] else b ∷ first_word bytes

first_word-at : (word rest : List ℕ) → HasNoSpace word → first_word (word ++ 32 ∷ rest) ≡ word
unfolding first_word
first_word-at [] rest lacks = refl
first_word-at (b ∷ word) rest lacks =
    rw (ne_eqb b 32 (All-head (λ b. b ≢ 32) b word lacks)) (ap (λ (w : List ℕ). b ∷ w) (first_word-at word rest (All-tail (λ b. b ≢ 32) b word lacks)))

-- which head a line of theirs has is known by it
named-line : (bytes : List ℕ) (l : Line) → bytes ≡ spelling l → named (first_word bytes) ≡ head_of l
named-line bytes l e =
    let word = ap first_word (e ∙ spelling-of l) ∙ first_word-at (head_spelling (head_of l)) _ (head-spaceless (head_of l)) in
    ap named word ∙ named-spelling (head_of l)

-- bytes spell a line, or none
pub line_decided : (bytes : List ℕ) → ((l : Line) × Spells bytes l) ⊎ ((l : Line) → Spells bytes l → ⊥)
line_decided bytes =
    let h = named (first_word bytes) in
    elim (of_head bytes h) [
      | inl found ↦ inl (made h found.0, ((is_made h found.0).in_range found.1, found.2))
      | inr none ↦ inr (λ l spells. subst (λ k. ((x : Value k) × Fits k x × (bytes ≡ spelling (made k x))) → ⊥) (named-line bytes l spells.1) none
          (operands_of l, fits-of l spells.0, spells.1 ∙ sym (ap spelling (made-of l))))
    ]

-- Fronts

-- a byte that is no line feed
abbrev other : ℕ → Bool
other b = not (eqb b 10)

-- before the first line feed is none
no_feed : (bytes : List ℕ) (k : ℕ) → k < prefix_len other bytes → get_or bytes k 0 ≡ 10 → ⊥
no_feed bytes k few = eqb-false _ 10 (not-true _ (prefix_len_passes other bytes k 0 few))

-- bytes begin with a line, or are too long for one, or cut
pub front_decided : (bytes : List ℕ)
    → IsTooLong bytes ⊎ (IsCut bytes ⊎ ((line : List ℕ) × (rest : List ℕ) × IsLine bytes line rest))
front_decided bytes =
    let n = prefix_len other bytes in
    let most = prefix_len-le-length other bytes in
    let none = λ (m : ℕ) (inside : m ≤ length bytes) (before : m ≤ n).
    HasNoFeed-take bytes m inside (λ k few. no_feed bytes k (omega arith)) in
    elim (cases_lt 95 n) [
      | inl many ↦ inl (omega arith, none 96 (omega arith) (omega arith))
      | inr few ↦ elim (cases_lt n (length bytes)) [
        | inl inside ↦
            let feed = eqb-true _ _ (not-false _ (prefix_len_stops other bytes 0 inside)) in
            inr (inr (take n bytes, drop (n + 1) bytes, IsLine-at bytes n inside few feed (no_feed bytes)))
        | inr all ↦ inr (inl (omega arith, subst HasNoFeed (take-length bytes) (none (length bytes) (omega arith) all)))
      ]
    ]
