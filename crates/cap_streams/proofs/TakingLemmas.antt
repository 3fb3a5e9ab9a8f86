-- What was found, with more given behind it, and what follows for an answer.
use Rattle.std.proofs.Common.{◌≡◌, ◌≢◌, ℕ, zero, suc, ◌≤◌, Bool, List, [], ◌∷◌, ◌++◌, length, take, None, refl, sym, ap}
use Rattle.std.proofs.Common.{subst, ◌∙◌, arith, append_assoc, append-nil, length-append, take_at, Result}
use Rattle.std.proofs.lemmas.{List.Elements.All-take, Option.none-some}
use Rattle.cap_streams.specs.declared.{lines.{Front.{Front, TheVariants.Cut}, Lines.Lines}, sources.PullFault.PullFault}
use Rattle.cap_streams.specs.{declared.lines.Next.Next, Front.{HasNoFeed, IsCut, IsFront}}
use Rattle.cap_streams.specs.Takings.{Found, Answered, Again, IsNext, kept, over_of}

-- what was kept is cut, and nothing more came
pub still_cut : {S : Type 0} (gave : S → S → List ℕ → Type 0) (a b c : S) (before middle after more : List ℕ) (front : Front)
    → ((x y z : S) (xs ys : List ℕ) → gave x y xs → gave y z ys → gave x z (xs ++ ys))
    → ((given : List ℕ) × gave a b given × (middle ≡ before ++ given)) → IsFront middle front → front ≡ Cut
    → gave b c more → after ≡ middle ++ more → length more ≡ 0 → Found gave a c before after Cut
still_cut gave a b c before middle after [] front joined so_far is cut gives all none = record {
  given = so_far.0 ++ [];
  gives = joined a b c so_far.0 [] so_far.1 gives;
  all = all ∙ ap (λ (l : List ℕ). l ++ []) so_far.2 ∙ append_assoc before so_far.0 [];
  front_is = subst IsCut (sym (append-nil middle) ∙ sym all) (subst (IsFront middle) cut is);
}
still_cut gave a b c before middle after (x ∷ more) front joined so_far is cut gives all none = absurd (omega arith)

pub given_more : {S : Type 0} (gave : S → S → List ℕ → Type 0) (a b c : S) (before middle after more : List ℕ)
    → ((x y z : S) (xs ys : List ℕ) → gave x y xs → gave y z ys → gave x z (xs ++ ys))
    → ((given : List ℕ) × gave a b given × (middle ≡ before ++ given)) → gave b c more → after ≡ middle ++ more
    → (given : List ℕ) × gave a c given × (after ≡ before ++ given)
given_more gave a b c before middle after more joined so_far gives all = (
  so_far.0 ++ more,
  joined a b c so_far.0 more so_far.1 gives,
  all ∙ ap (λ (l : List ℕ). l ++ more) so_far.2 ∙ append_assoc before so_far.0 more,
)

-- an answer from what was found
pub answered : {S : Type 0} (gave : S → S → List ℕ → Type 0) (ended : S → Bool) (old new : S) (before after : List ℕ)
    (front : Front) (lines : Lines)
    (answer : Result Next PullFault) → Found gave old new before after front
    → (IsFront after front → IsNext after (ended new) (kept lines) (over_of lines) answer) → Answered gave ended old new before lines answer
answered gave ended old new before after front lines answer found makes = record {
  given = found.given;
  gives = found.gives;
  answers = subst (λ (bytes : List ℕ). IsNext bytes (ended new) (kept lines) (over_of lines) answer) found.all (makes found.front_is);
}

-- there are more lines, so none was over
pub not_again : {S : Type 0} (old new : S) (before after : Lines) (answer : Result Next PullFault) → over_of before ≡ None
    → Again old new before after answer
not_again old new before after answer none over is = absurd (none-some over (sym none ∙ is))

pub take_front : (m n : ℕ) (xs : List ℕ) → m ≤ n → take m (take n xs) ≡ take m xs
take_front zero n xs h = refl
take_front (suc m) zero xs h = absurd (omega (arith, h))
take_front (suc m) (suc n) [] h = refl
take_front (suc m) (suc n) (x ∷ xs) h = ap (λ (ys : List ℕ). x ∷ ys) (take_front m n xs (omega (arith, h)))

-- what begins cut bytes is cut
cut_before : (bytes more : List ℕ) → IsCut (bytes ++ more) → IsCut bytes
cut_before bytes more cut = (
  omega (arith, cut.0, length-append bytes more),
  subst HasNoFeed (take_at bytes more (length bytes) refl) (All-take (λ b. b ≢ 10) (length bytes) (bytes ++ more) cut.1),
)

-- nothing was pulled where what was kept is not cut
pub untouched : {S : Type 0} (gave : S → S → List ℕ → Type 0) (a b old new : S) (before middle : List ℕ) (front : Front)
    → ((given : List ℕ) × gave a b given × (middle ≡ before ++ given)) → IsFront middle front → front ≡ Cut → (IsCut before → ⊥) → new ≡ old
untouched gave a b old new before middle front so_far is cut whole =
    absurd (whole (cut_before before so_far.0 (subst IsCut so_far.2 (subst (IsFront middle) cut is))))
