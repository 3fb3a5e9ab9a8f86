-- Fronts: what a search for a line feed finds, and that exactly one front fits.
use Rattle.std.proofs.Common.{◌≡◌, ◌≢◌, ℕ, ◌+◌, ◌<◌, ◌≤◌, List, [], ◌∷◌, ◌++◌, length, take, drop, get_or, sym, ap, ◌∙◌}
use Rattle.std.proofs.Common.{refl, subst, append_assoc, arith, take-append-drop, get_or-take, length-take-le}
use Rattle.std.proofs.{Common.length-append, lemmas.List.{drop_more, get_or_at, take-append-le}}
use Rattle.std.proofs.lemmas.List.Elements.{All-head, All-tail, All-from_get_or}
use Rattle.cap_streams.specs.Front.{HasNoFeed, IsLine, IsTooLong, IsCut}

-- no line feed among the first n bytes
pub HasNoFeed-take : (bytes : List ℕ) (n : ℕ) → n ≤ length bytes → ((k : ℕ) → k < n → get_or bytes k 0 ≡ 10 → ⊥) → HasNoFeed (take n bytes)
HasNoFeed-take bytes n fits none =
    let same : length (take n bytes) ≡ n = length-take-le n bytes fits in
    All-from_get_or (λ b. b ≢ 10) (take n bytes) 0 (λ k below e. none k (omega arith) (sym (get_or-take n bytes k 0 (omega arith)) ∙ e))

-- a line feed at n, and none before it
pub IsLine-at : (bytes : List ℕ) (n : ℕ) → n < length bytes → n ≤ 95 → get_or bytes n 0 ≡ 10 → ((k : ℕ) → k < n → get_or bytes k 0 ≡ 10 → ⊥)
    → IsLine bytes (take n bytes) (drop (n + 1) bytes)
IsLine-at bytes n below short here none = record {
  whole = sym (take-append-drop n bytes) ∙ ap (λ (rest : List ℕ). take n bytes ++ rest)
      (drop_more bytes n 0 below ∙ ap (λ (b : ℕ). b ∷ drop (n + 1) bytes) here);
  one = HasNoFeed-take bytes n (omega arith) none;
  short = omega (arith, length-take-le n bytes (omega arith));
}

-- where two lines of one list end
same_end : (a b x y : List ℕ) → HasNoFeed a → HasNoFeed b → a ++ 10 ∷ x ≡ b ++ 10 ∷ y → (a ≡ b) × (x ≡ y)
same_end [] [] x y p q e = (refl, cc)
same_end [] (c ∷ b) x y p q e = let h : c ≡ 10 = cc in absurd (All-head (λ b. b ≢ 10) c b q h)
same_end (c ∷ a) [] x y p q e = let h : c ≡ 10 = cc in absurd (All-head (λ b. b ≢ 10) c a p h)
same_end (c ∷ a) (d ∷ b) x y p q e =
    let rest : a ++ 10 ∷ x ≡ b ++ 10 ∷ y = cc in
    let first : c ≡ d = cc in
    let both = same_end a b x y (All-tail (λ b. b ≢ 10) c a p) (All-tail (λ b. b ≢ 10) d b q) rest in
    (cc (both.0, first), both.1)

-- bytes begin with one line at most
pub IsLine-same : (bytes line rest line' rest' : List ℕ) → IsLine bytes line rest → IsLine bytes line' rest'
    → (line ≡ line') × (rest ≡ rest')
IsLine-same bytes line rest line' rest' h h' = same_end line line' rest rest' h.one h'.one (sym h.whole ∙ h'.whole)

feed_at : (bytes line rest : List ℕ) → IsLine bytes line rest → (length line < length bytes) × (get_or bytes (length line) 0 ≡ 10)
feed_at bytes line rest h =
    let long = ap length h.whole ∙ length-append line (10 ∷ rest) in
    (omega arith, ap (λ (bs : List ℕ). get_or bs (length line) 0) h.whole ∙ get_or_at line 10 rest 0 (length line) refl)

-- what begins with a line is not too long
pub IsLine-not_too_long : (bytes line rest : List ℕ) → IsLine bytes line rest → IsTooLong bytes → ⊥
IsLine-not_too_long bytes line rest h long =
    let at = feed_at bytes line rest h in
    let short = h.short in
    long.1 (length line) 0 (omega (arith, length-take-le 96 bytes long.0)) (get_or-take 96 bytes (length line) 0 (omega arith) ∙ at.1)

-- what begins with a line is not cut
pub IsLine-not_cut : (bytes line rest : List ℕ) → IsLine bytes line rest → IsCut bytes → ⊥
IsLine-not_cut bytes line rest h cut =
    let at = feed_at bytes line rest h in
    cut.1 (length line) 0 at.0 at.1

-- what is too long is not cut
pub IsTooLong-not_cut : (bytes : List ℕ) → IsTooLong bytes → IsCut bytes → ⊥
IsTooLong-not_cut bytes long cut = omega arith

-- more bytes behind a line
pub IsLine-more : (bytes line rest more : List ℕ) → IsLine bytes line rest → IsLine (bytes ++ more) line (rest ++ more)
IsLine-more bytes line rest more h = record {
  whole = ap (λ (l : List ℕ). l ++ more) h.whole ∙ append_assoc line (10 ∷ rest) more;
  one = h.one;
  short = h.short;
}

-- more bytes behind what is too long
pub IsTooLong-more : (bytes more : List ℕ) → IsTooLong bytes → IsTooLong (bytes ++ more)
IsTooLong-more bytes more h = (
  omega (arith, h.0, length-append bytes more),
  subst HasNoFeed (sym (take-append-le 96 bytes more h.0)) h.1,
)
