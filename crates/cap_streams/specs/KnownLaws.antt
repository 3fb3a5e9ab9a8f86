-- Laws of known bytes over calls in a row.
use Rattle.std.specs.{Prelude.{ℕ, List, [], ◌++◌, Option, None, Some, refl}, Io.KnownBytes.{Consumes, Appends}}
use Rattle.std.proofs.Common.{sym, ap, ◌∙◌, append_assoc, append-nil}

pub Consumes-nothing : (known : Option (List ℕ)) → Consumes known known []
Consumes-nothing None = tt
Consumes-nothing (Some xs) = refl

pub Consumes-joined : (a b c : Option (List ℕ)) (xs ys : List ℕ) → Consumes a b xs → Consumes b c ys → Consumes a c (xs ++ ys)
Consumes-joined None b c xs ys h k = tt
Consumes-joined (Some known) None c xs ys h k = absurd h
Consumes-joined (Some known) (Some bs) None xs ys h k = absurd k
Consumes-joined (Some known) (Some bs) (Some cs) xs ys h k = h ∙ ap (λ (l : List ℕ). xs ++ l) k ∙ sym (append_assoc xs ys cs)

pub Appends-nothing : (known : Option (List ℕ)) → Appends known known []
Appends-nothing None = tt
Appends-nothing (Some xs) = sym (append-nil xs)

pub Appends-joined : (a b c : Option (List ℕ)) (xs ys : List ℕ) → Appends a b xs → Appends b c ys → Appends a c (xs ++ ys)
Appends-joined None b c xs ys h k = tt
Appends-joined (Some known) None c xs ys h k = absurd h
Appends-joined (Some known) (Some bs) None xs ys h k = absurd k
Appends-joined (Some known) (Some bs) (Some cs) xs ys h k = k ∙ ap (λ (l : List ℕ). l ++ ys) h ∙ append_assoc known xs ys
