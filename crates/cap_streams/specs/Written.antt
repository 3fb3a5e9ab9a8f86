-- Laws of texts written into a buffer, one after another.
use Rattle.std.specs.Prelude.{◌≡◌, ℕ, ◌+◌, ◌≤◌, List, [], ◌++◌, length, take, drop, refl}
use Rattle.std.proofs.{Common.{sym, ap, ◌∙◌, arith}, lemmas.List.{append_assoc, append-nil, take-append-drop}}
use Rattle.std.proofs.lemmas.List.{length-append, length-drop, length-take-le}

-- new is old with the text written from an index on, up to an end (this profile's own)
pub record Writes (at : ℕ) (text old new : List ℕ) (end : ℕ) : Type 0 where
  pub ends : end ≡ at + length text
  pub written : take end new ≡ take at old ++ text
  pub rest : (k : ℕ) → end ≤ k → drop k new ≡ drop k old

-- the new bytes, whole
pub whole : (at end : ℕ) (text old new : List ℕ) → Writes at text old new end → new ≡ take at old ++ (text ++ drop end old)
whole at end text old new writes =
    sym (take-append-drop end new)
    ∙ ap (λ (bs : List ℕ). bs ++ drop end new) writes.written
    ∙ ap (λ (bs : List ℕ). (take at old ++ text) ++ bs) (writes.rest end (omega arith))
    ∙ append_assoc (take at old) text (drop end old)

-- the buffer keeps its length
pub length-Writes : (at end : ℕ) (text old new : List ℕ) → Writes at text old new end → end ≤ length old → length new ≡ length old
length-Writes at end text old new writes room =
    let ends = writes.ends in
    let long = ap length (whole at end text old new writes) ∙ length-append (take at old) (text ++ drop end old) in
    omega (arith, long, length-append text (drop end old), length-take-le at old (omega arith), length-drop end old)

-- one text after another
infixl 40 ◌⨾◌
pub ◌⨾◌ : {at i j : ℕ} {a b old mid new : List ℕ} → Writes at a old mid i → Writes i b mid new j → Writes at (a ++ b) old new j
◌⨾◌ {at} {i} {j} {a} {b} {old} {mid} {new} first second =
    let ends = first.ends in
    let ends' = second.ends in
    record {
      ends = omega (arith, length-append a b);
      written = second.written ∙ ap (λ (bs : List ℕ). bs ++ b) first.written ∙ append_assoc (take at old) a b;
      rest = λ k above. second.rest k above ∙ first.rest k (omega arith);
    }

-- no text
pub Writes-nothing : {at : ℕ} {old : List ℕ} → Writes at [] old old at
Writes-nothing {at} {old} = record { ends = omega arith; written = sym (append-nil (take at old)); rest = λ k above. refl }

-- a text written inside a buffer (this profile's own)
pub record WritesInside (at end : ℕ) (text old new : List ℕ) : Type 0 where
  pub written : Writes at text old new end
  pub inside : end ≤ length old

-- no text
pub WritesInside-nothing : (at : ℕ) (old : List ℕ) → at ≤ length old → WritesInside at at [] old old
WritesInside-nothing at old within = record { written = Writes-nothing; inside = within }

-- one text after another
pub WritesInside-joined :
    (at i j : ℕ) (a b old mid new : List ℕ) → WritesInside at i a old mid → WritesInside i j b mid new
    → WritesInside at j (a ++ b) old new
WritesInside-joined at i j a b old mid new first second = record {
  written = first.written ⨾ second.written;
  inside = omega (arith, length-Writes at i a old mid first.written first.inside, second.inside);
}
