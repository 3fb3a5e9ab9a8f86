-- Where the check of a vector file is, and what it may answer there.
use Rattle.std.proofs.Common.{◌≡◌, ◌≢◌, ℕ, ◌+◌, ◌<◌, inl, inr, Bool, true, false, List, [], ◌∷◌, ◌++◌, refl, sym, ap}
use Rattle.std.proofs.Common.{subst, ◌∙◌, append-nil, append_assoc, arith, Result, Ok, Err}
use Rattle.std.proofs.lemmas.{Grind.flat_map-append, List.length_push}
use Rattle.cap_streams.specs.declared.{sources.PullFault.PullFault, lines.{Lines.Lines, Next.{Next, TheVariants.Line}}}
use Rattle.cap_streams.specs.declared.lines.Next.TheVariants.{LineTooLong, Truncated, Finished}
use Rattle.cap_streams.specs.{Front.{IsLine, FrontIs}, Takings.{IsNext, Answered, kept, over_of}}
use Rattle.cap_log.proofs.ElementLemmas.{AllByRecursion-append}
use Rattle.cap_streams.proofs.FrontLemmas.{IsLine-more, IsTooLong-more}
use Rattle.cap_vectors.specs.declared.files.VectorVerdict.{VectorVerdict, TheVariants.{Pass, Fail}}
use Rattle.cap_vectors.specs.VectorFiles.{vector_text_of, last_line, BeginsTrue, FailsWhole, FailsFirst}
use Rattle.cap_vectors.specs.VectorFiles.{IsVectorVerdictOf, Checked}
use Rattle.cap_vectors.specs.Vectors.{Vector, IsTrueVector, IsTrueLine, vector_spelling}

-- more bytes behind all
pub begins_more : (bytes rest more : List ℕ) (count : ℕ) → BeginsTrue bytes count rest → BeginsTrue (bytes ++ more) count (rest ++ more)
begins_more bytes rest more count here = record {
  vectors = here.vectors;
  count_is = here.count_is;
  few = here.few;
  all_true = here.all_true;
  bytes_are = ap (λ (l : List ℕ). l ++ more) here.bytes_are ∙ append_assoc (vector_text_of here.vectors) rest more;
}

-- one line more
text_push : (vectors : List Vector) (vector : Vector) (rest : List ℕ)
    → vector_text_of (vectors ++ vector ∷ []) ++ rest ≡ vector_text_of vectors ++ (vector_spelling vector ++ 10 ∷ rest)
text_push vectors vector rest =
    let piece = λ (v : Vector). vector_spelling v ++ 10 ∷ [] in
    ap (λ (text : List ℕ). text ++ rest) (flat_map-append piece vectors (vector ∷ []))
    ∙ simp (append_assoc)

goes_on : (bytes rest line left : List ℕ) (count : ℕ) → BeginsTrue bytes count rest → IsLine rest line left → IsTrueLine line
    → count + 1 < last_line
    → BeginsTrue bytes (count + 1) left
goes_on bytes rest line left count here whole stated few = record {
  vectors = here.vectors ++ stated.0 ∷ [];
  count_is = omega (arith, here.count_is, length_push here.vectors stated.0);
  few = few;
  all_true = AllByRecursion-append IsTrueVector here.vectors (stated.0 ∷ []) here.all_true (stated.1.true_vector, tt);
  bytes_are =
      here.bytes_are
      ∙ ap (λ (r : List ℕ). vector_text_of here.vectors ++ r) (whole.whole ∙ ap (λ (t : List ℕ). t ++ 10 ∷ left) stated.1.spelled)
      ∙ sym (text_push here.vectors stated.0 left);
}

-- a fail that stands whatever follows
fail_stands : (bytes : List ℕ) (ended : Bool) (line : ℕ) → ((more : List ℕ) → FailsFirst (bytes ++ more) line)
    → IsVectorVerdictOf bytes ended (Fail line)
fail_stands bytes true line all = subst (λ (b : List ℕ). FailsFirst b line) (append-nil bytes) (all [])
fail_stands bytes false line all = all

-- behind lines that state something true, before an answer of the next call, with what that says
pub record Passes {S : Type 0} (gave : S → S → List ℕ → Type 0) (ended : S → Bool) (old new : S) (count : ℕ) (lines : Lines)
    (answer : Result Next PullFault) : Type 0 where
  pub given : List ℕ
  pub gives : gave old new given
  pub rest : List ℕ
  pub here : BeginsTrue given count rest
  pub next : IsNext rest (ended new) (kept lines) (over_of lines) answer

pub passes : {S : Type 0} (gave : S → S → List ℕ → Type 0) (ended : S → Bool) (a b c : S) (count : ℕ) (before : List ℕ) (lines : Lines)
    (answer shown : Result Next PullFault)
    → ((x y z : S) (xs ys : List ℕ) → gave x y xs → gave y z ys → gave x z (xs ++ ys))
    → ((given : List ℕ) × gave a b given × BeginsTrue given count before)
    → Answered gave ended b c before lines answer → answer ≡ shown → Passes gave ended a c count lines shown
passes gave ended a b c count before lines answer shown joined so_far answered same = record {
  given = so_far.0 ++ answered.given;
  gives = joined a b c so_far.0 answered.given so_far.1 answered.gives;
  rest = before ++ answered.given;
  here = begins_more so_far.0 before answered.given count so_far.2;
  next = subst (IsNext (before ++ answered.given) (ended c) (kept lines) (over_of lines)) same answered.answers;
}

module _ {S : Type 0} {gave : S → S → List ℕ → Type 0} {ended : S → Bool} {old new : S} {lines : Lines} (count : ℕ) where
  checked : {shown : Result Next PullFault} (verdict : VectorVerdict) (p : Passes gave ended old new count lines shown)
      → IsVectorVerdictOf p.given (ended new) verdict
      → Checked gave ended old new (Ok verdict)
  checked verdict p is = record { given = p.given; gives = p.gives; verdict = is; fault = tt }

  -- the source failed
  pub pulled : (fault failed : PullFault) → Passes gave ended old new count lines (Err failed) → Checked gave ended old new (Err fault)
  pulled fault failed p = record {
    given = p.given;
    gives = p.gives;
    verdict = tt;
    fault = record { count = count; rest = p.rest; begins = p.here; cut = p.next.0 };
  }

  -- the source has ended at a line's start
  pub all_passed : Passes gave ended old new count lines (Ok Finished) → Checked gave ended old new (Ok (Pass count))
  all_passed p =
      let at_end = subst (λ (r : List ℕ). BeginsTrue p.given count r) p.next.0 p.here in
      checked (Pass count) p (subst (λ (b : Bool). IsVectorVerdictOf p.given b (Pass count)) (sym p.next.1) at_end)

  -- the line fails whatever follows
  fails_met : {shown : Result Next PullFault} (p : Passes gave ended old new count lines shown)
      → ((more : List ℕ) → FrontIs (p.rest ++ more) (Unit {0}) (p.rest ++ more ≢ []) (FailsWhole (count + 1)))
      → Checked gave ended old new (Ok (Fail (count + 1)))
  fails_met p all =
      checked (Fail (count + 1)) p
      (fail_stands p.given (ended new) (count + 1)
      (λ more. record {
        before = count;
        rest = p.rest ++ more;
        begins = begins_more p.given p.rest more count p.here;
        number_is = refl;
        fails = all more;
      }))

  pub too_long : Passes gave ended old new count lines (Ok LineTooLong) → Checked gave ended old new (Ok (Fail (count + 1)))
  too_long p = fails_met p (λ more. inl (IsTooLong-more p.rest more p.next.0, tt))

  pub line_fails : (text : _) → Passes gave ended old new count lines (Ok (Line text)) → FailsWhole (count + 1) text.now
      → Checked gave ended old new (Ok (Fail (count + 1)))
  line_fails text p fails =
      fails_met p (λ more. inr (inr (text.now, kept lines ++ more, IsLine-more p.rest text.now (kept lines) more p.next.0, fails)))

  pub truncated : Passes gave ended old new count lines (Ok Truncated) → Checked gave ended old new (Ok (Fail (count + 1)))
  truncated p =
      let is : FailsFirst p.given (count + 1) = record {
        before = count;
        rest = p.rest;
        begins = p.here;
        number_is = refl;
        fails = inr (inl (p.next.0, p.next.1));
      } in
      checked (Fail (count + 1)) p (subst (λ (b : Bool). IsVectorVerdictOf p.given b (Fail (count + 1))) (sym p.next.2) is)

  -- one line more states something true
  pub line_passes : (text : _) (p : Passes gave ended old new count lines (Ok (Line text))) → IsTrueLine text.now → count + 1 < last_line
      → BeginsTrue p.given (count + 1) (kept lines)
  line_passes text p stated few = goes_on p.given p.rest text.now (kept lines) count p.here p.next.0 stated few
