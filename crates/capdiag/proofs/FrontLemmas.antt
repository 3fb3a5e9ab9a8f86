-- The first bytes of an input, read part by part.
use Rattle.std.specs.Io.KnownBytes.{Consumes, Keeps}
use Rattle.std.proofs.Common.{◌≡◌, ◌≤◌, ◌+◌, ◌++◌, ℕ, List, [], Option, None, Some, length, take, drop, sym, ap, subst, ◌∙◌, arith, append-nil, length-drop, length-take}
use Rattle.std.proofs.Math.Seq.{take-append-add}
use Rattle.std.proofs.lemmas.{List.take-append-le, Slice.take-put_mid_below}
use borrow.Rule.Slice.PartMut.{put_mid, post_of, same_len_mid}
use Rattle.cap_streams.specs.KnownLaws.{Consumes-joined}

-- the first bytes of a list after bytes were put behind some of its own
pub front_more : (a k m : ℕ) (xs ys : List ℕ) → a ≤ length xs → m ≤ length ys → take (a + m) (put_mid a k xs ys) ≡ take a xs ++ take m ys
front_more a k m xs ys inside few =
    let long : length (take a xs) ≡ a = length-take a xs ∙ omega arith in
    subst (λ (n : ℕ). take (n + m) (put_mid a k xs ys) ≡ take a xs ++ take m ys) long
    (take-append-add (take a xs) (ys ++ post_of a k xs) m
    ∙ ap (λ (bytes : List ℕ). take a xs ++ bytes) (take-append-le m ys (post_of a k xs) few))

-- they were read, and some more
pub read_more : (a k m : ℕ) (xs ys : List ℕ) (old middle new : Option (List ℕ)) → a ≤ length xs → m ≤ length ys
    → Consumes old middle (take a xs) → Consumes middle new (take m ys) → Consumes old new (take (a + m) (put_mid a k xs ys))
read_more a k m xs ys old middle new inside few before now =
    subst (Consumes old new) (sym (front_more a k m xs ys inside few)) (Consumes-joined old middle new (take a xs) (take m ys) before now)

-- or nothing more
kept_consumes : (middle new : Option (List ℕ)) → Keeps middle new → Consumes middle new []
kept_consumes None new keeps = tt
kept_consumes (Some xs) None keeps = keeps
kept_consumes (Some xs) (Some ys) keeps = sym keeps

pub read_none : (a k : ℕ) (xs ys : List ℕ) (old middle new : Option (List ℕ)) → a ≤ length xs
    → Consumes old middle (take a xs) → Keeps middle new → Consumes old new (take a (put_mid a k xs ys))
read_none a k xs ys old middle new inside before keeps =
    subst (Consumes old new) (append-nil (take a xs) ∙ sym (take-put_mid_below a k xs ys a (omega arith) inside))
    (Consumes-joined old middle new (take a xs) [] before (kept_consumes middle new keeps))

-- none at the end
pub read_at_end : (a k m : ℕ) (xs ys : List ℕ) (old middle new : Option (List ℕ)) → a ≤ length xs → m ≡ 0 → m ≤ length ys
    → Consumes old middle (take a xs) → Consumes middle new (take m ys) → Consumes old new (take a (put_mid a k xs ys))
read_at_end a k m xs ys old middle new inside none few before now =
    subst (λ (n : ℕ). Consumes old new (take n (put_mid a k xs ys))) (omega (arith, none))
    (read_more a k m xs ys old middle new inside few before now)

-- there are as many bytes as before
pub front_long : (a k : ℕ) (xs ys : List ℕ) → length ys ≡ k → a + k ≤ length xs → length (put_mid a k xs ys) ≡ length xs
front_long a k xs ys long inside =
    same_len_mid a k xs ys (long ∙ sym (length-take k (drop a xs) ∙ omega (arith, inside, length-drop a xs)))
