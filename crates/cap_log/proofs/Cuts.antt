-- Where some bytes are cut: at the first byte of a kind.
use Rattle.std.specs.Cmp.Lexicographic.{pointwise}
use Rattle.std.proofs.Common.{◌≡◌, ◌≢◌, ℕ, true, eqb, List, [], ◌∷◌, ◌++◌, take, drop, sym, refl, eqb-true}
use Rattle.std.proofs.{Common.take-append-drop, lemmas.Bool.{and_parts, false≢true}}
use Rattle.std.proofs.lemmas.List.Elements.{All-head, All-tail}
pub use Rattle.cap_log.specs.SpacelessLaws.{Lacks-by_test}
use Rattle.cap_log.specs.Parts.{Lacks}

-- two cuts of one list are one
pub same_cut : (c : ℕ) (a b x y : List ℕ) → Lacks c a → Lacks c b → a ++ c ∷ x ≡ b ++ c ∷ y → (a ≡ b) × (x ≡ y)
same_cut c [] [] x y p q e = (refl, cc)
same_cut c [] (d ∷ b) x y p q e = let h : d ≡ c = cc in absurd (All-head (λ b. b ≢ c) d b q h)
same_cut c (d ∷ a) [] x y p q e = let h : d ≡ c = cc in absurd (All-head (λ b. b ≢ c) d a p h)
same_cut c (d ∷ a) (f ∷ b) x y p q e =
    let rest : a ++ c ∷ x ≡ b ++ c ∷ y = cc in
    let first : d ≡ f = cc in
    let both = same_cut c a b x y (All-tail (λ b. b ≢ c) d a p) (All-tail (λ b. b ≢ c) f b q) rest in
    (cc (both.0, first), both.1)

-- a front and what is behind it are the whole
pub rejoined : (k : ℕ) (bytes a r : List ℕ) → a ≡ take k bytes → r ≡ drop k bytes → bytes ≡ a ++ r
rejoined k bytes a r e f = rw (e, f) (sym (take-append-drop k bytes))

-- what stands behind a first byte
pub stripped : (b : ℕ) (bytes rest : List ℕ) → pointwise eqb (take 1 bytes) (b ∷ []) ≡ true → rest ≡ drop 1 bytes → bytes ≡ b ∷ rest
stripped b [] rest h e = absurd (false≢true h)
stripped b (x ∷ bytes) rest h e = rw (eqb-true x b (and_parts (eqb x b) true h).0, e) refl

-- a text at the front, with the byte that ends it
pub text_in_front : (n : ℕ) (bytes front others text rest : List ℕ) (first end : ℕ) → front ≡ take n bytes → others ≡ drop n bytes
    → front ≡ text → others ≡ first ∷ rest → first ≡ end → bytes ≡ text ++ end ∷ rest
text_in_front n bytes front others text rest first end head tail same cut ended =
    rw (← same, ← ended, ← cut) (rejoined n bytes front others head tail)
