-- Lines that only run logs have, by their heads: what stands behind each head, and the line that head and operands make.
use Rattle.std.proofs.Common.{append_assoc, ◌≡◌, ℕ, ◌+◌, ◌≤◌, List, [], ◌∷◌, ◌++◌, sym, ap, subst, ◌∙◌, refl, arith, length, length-append, Bool, true, false}
use Rattle.std.proofs.{Common.{codes, decimal, if◌then◌else◌, bytes_eq, lit≤}, lemmas.Bool.false≢true}
use Rattle.cap_word.specs.{declared.word.{Cap.Cap, Word.Word}, Digits.hex_digits}
use Rattle.cap_word.proofs.DigitLemmas.{length-hex_digits}
use Rattle.cap_log.specs.declared.{kinds.{Head.Head, Step.Step}, lines.Line.Line}
use Rattle.cap_log.specs.{Heads.head_spelling, Lines.{IsInRange, IsRegister, IsTarget, IsWord, register_spelling, spelling, tag_spelling}}
use Rattle.cap_log.specs.Parts.{Begins, BeginsWithNone, FitBoth, Lacks, result_spelling, spaced}
use Rattle.cap_log.specs.SpacelessLaws.{Lacks-by_test, digits-spaceless, head-spaceless, register-spaceless}
use Rattle.cap_log.proofs.OperandLemmas.{FitBoth-operand, IsOperand, Spaceless, mapped}
use Rattle.cap_log.proofs.PartLemmas.{register-operand, result-operand, target-operand, word-operand}
use Rattle.cap_run_log.specs.SpaceLaws.{equals-spaceless, granule-spaceless, place-spaceless, register_at-spaceless}
pub use Rattle.cap_run_log.specs.SpaceLaws.{run_head-spaceless}
use Rattle.cap_run_log.specs.SpaceLaws.{special-spaceless, tag-spaceless}
use Rattle.cap_run_log.proofs.OperandLemmas.{freed-operand, granule-operand, handed-operand, hart-operand, register_at-operand, run_place-operand}
use Rattle.cap_run_log.proofs.OperandLemmas.{special-operand, tag-operand}
use Rattle.cap_log.proofs.{Cuts.same_cut, Shapes.{head_of, operands_of, spelling-of, text}}
use Rattle.cap_run_log.specs.declared.{heads.RunHead.RunHead, lines.{RunLine.RunLine, RunStep.RunStep}}
use Rattle.cap_run_log.specs.declared.{parts.{Freed.Freed, Granule.Granule, Handed.Handed, HartNumber.HartNumber, Same.Same, Tag.Tag}, results.Results.Results}
use Rattle.cap_run_log.specs.RunHeads.{IsRunHead, run_head_spelling}
use Rattle.cap_run_log.specs.RunLines.{IsGranule, IsHart, IsRunLineInRange, IsRunPlace, IsRunRegister, granule_spelling}
use Rattle.cap_run_log.specs.RunLines.{run_place_spelling, run_register_spelling, run_spelling, special_spelling}
use Rattle.cap_run_log.specs.RunParts.{IsFreed, IsHanded, StandsAfter, freed_spelling, handed_spelling}

-- a kind of part: its values, those in range, and their bytes: each has one spelling of at most so many bytes
pub record Row : Type 1 where
  pub Value_is : Type 0
  pub Fits_is : Value_is → Type 0
  pub text_is : Value_is → List ℕ
  pub most : ℕ
  pub operand : IsOperand Fits_is text_is most

abbrev one : {A : Type 0} (Fits : A → Type 0) (spelled : A → List ℕ) (n : ℕ) → IsOperand Fits spelled n → Row
one {A} Fits spelled n operand = record { Value_is = A; Fits_is = Fits; text_is = spelled; most = n; operand = operand }

-- a part of one word, a space, and another
abbrev then_ : (first : Row) → Spaceless first.Fits_is first.text_is → Row → Row
then_ first spaceless second = record {
  Value_is = first.Value_is × second.Value_is;
  Fits_is = FitBoth first.Fits_is second.Fits_is;
  text_is = spaced first.text_is second.text_is;
  most = first.most + 1 + second.most;
  operand = FitBoth-operand first.Fits_is first.text_is first.most second.Fits_is second.text_is second.most spaceless
      first.operand second.operand;
}

abbrev target : Row → Row
target = then_ (one IsTarget register_spelling 3 target-operand) (λ n fits. register-spaceless n fits.1)

abbrev register : Row → Row
register = then_ (one IsRegister register_spelling 3 register-operand) register-spaceless

abbrev special : Row → Row
special = then_ (one IsRegister special_spelling 5 special-operand) special-spaceless

abbrev run_register : ℕ → Row → Row
run_register least = then_ (one (IsRunRegister least) run_register_spelling 5 (register_at-operand least)) (register_at-spaceless least)

pub same-operand : (byte : ℕ) → Lacks 10 (byte ∷ []) → IsOperand (λ (it : Same byte). Unit {0}) (λ it. byte ∷ []) 1
same-operand byte plain = record { one = λ a b fits fits' e. refl; plain = λ a fits. plain; short = λ a fits. lit≤ tt }

abbrev same_byte : (byte : ℕ) → Lacks 10 (byte ∷ []) → Row
same_byte byte plain = one (λ (it : Same byte). Unit {0}) (λ it. byte ∷ []) 1 (same-operand byte plain)

abbrev equals : Row → Row
equals = then_ (same_byte 61 (Lacks-by_test 10 (codes "=") refl)) (λ sign fits. equals-spaceless)

abbrev tag : Row → Row
tag = then_ (one (λ (t : Tag). Unit {0}) (λ t. tag_spelling t.0) 1
    (mapped (λ (t : Bool). Unit {0}) tag_spelling 1 tag-operand (λ t. t.0) (λ b. record { 0 = b }) (λ _. refl))) (λ t fits. tag-spaceless t.0)

abbrev a_word : Row
a_word = one (λ (word : Word). IsWord word.0) (λ word. hex_digits 32 word.0) 32
    (mapped IsWord (hex_digits 32) 32 word-operand (λ word. word.0) (λ n. record { 0 = n }) (λ _. refl))

abbrev word : Row → Row
word = then_ a_word (λ w fits. digits-spaceless 32 w.0)

abbrev a_place : Row
a_place = one IsRunPlace run_place_spelling 17 run_place-operand

-- what an exchange records, as its words
abbrev pub recorded_words : Row
recorded_words = equals (tag (word (tag a_word)))

abbrev pub words_of : Results → recorded_words.Value_is
words_of x = (record {}, (record { 0 = x.general.tag }, (x.general.word, (record { 0 = x.special.tag }, x.special.word))))

abbrev recorded_by : recorded_words.Value_is → Results
recorded_by x = record { general = record { tag = (x.1.0).0; word = x.1.1.0 }; special = record { tag = (x.1.1.1.0).0; word = x.1.1.1.1 } }

abbrev pub FitsResults : Results → Type 0
FitsResults x = IsWord x.general.word.0 × IsWord x.special.word.0

pub words_fit : (x : Results) → FitsResults x → recorded_words.Fits_is (words_of x)
words_fit x fits = (tt, (tt, (fits.0, (tt, fits.1))))

abbrev pub results_text : Results → List ℕ
results_text x = recorded_words.text_is (words_of x)

pub results-operand : IsOperand FitsResults results_text 71
results-operand =
    let words = mapped recorded_words.Fits_is recorded_words.text_is 71 recorded_words.operand words_of recorded_by (λ x. refl) in
    record {
      one = λ a b fits fits' e. words.one a b (words_fit a fits) (words_fit b fits') e;
      plain = λ a fits. words.plain a (words_fit a fits);
      short = λ a fits. words.short a (words_fit a fits);
    }

length-tag : (tag_is : Bool) → length (tag_spelling tag_is) ≡ 1
length-tag true = refl
length-tag false = refl

length-results : (x : Results) → length (results_text x) ≡ 71
length-results x =
    let general = tag_spelling x.general.tag in
    let special = tag_spelling x.special.tag in
    let last = 32 ∷ hex_digits 32 x.special.word.0 in
    let word = hex_digits 32 x.general.word.0 in
    omega (
      arith,
      length-tag x.general.tag,
      length-tag x.special.tag,
      length-hex_digits 32 x.general.word.0,
      length-hex_digits 32 x.special.word.0,
      length-append special last,
      length-append word (32 ∷ (special ++ last)),
      length-append general (32 ∷ (word ++ 32 ∷ (special ++ last))),
    )

-- fewer bytes are none
pub no_results : (end : ℕ) (bytes : List ℕ) → length bytes ≤ 71 → BeginsWithNone FitsResults results_text end bytes
no_results end bytes few x rest begins =
    omega (arith, few, length-results x, ap length begins.1, length-append (results_text x) (end ∷ rest))

-- what stands behind a head
abbrev pub row : RunHead → Row
row RunHead.Version = same_byte 49 (Lacks-by_test 10 (codes "1") refl)
row RunHead.Root = then_ a_place place-spaceless a_word
row RunHead.Derive = run_register 1 (run_register 0 (one (λ (cap : Cap). IsWord cap.word.0) result_spelling 36 result-operand))
row RunHead.Exchange = target (register (special (one FitsResults results_text 71 results-operand)))
row RunHead.Invoke = register (register (equals (word a_word)))
row RunHead.Drop = a_place
row RunHead.Fill = then_ (one (λ (g : Granule). IsGranule g.0) (λ g. granule_spelling g.0) 17
    (mapped IsGranule granule_spelling 17 granule-operand (λ g. g.0) (λ n. record { 0 = n }) (λ _. refl))) (λ g fits. granule-spaceless g.0) a_word
row RunHead.Object = one IsHanded handed_spelling 14 handed-operand
row RunHead.Free = one IsFreed freed_spelling 10 freed-operand
row RunHead.Hart = one (λ (h : HartNumber). IsHart h.0) (λ h. decimal h.0) 5
    (mapped IsHart decimal 5 hart-operand (λ h. h.0) (λ n. record { 0 = n }) (λ _. refl))

pub row-short : (h : RunHead) → (row h).most ≤ 85
row-short RunHead.Version = lit≤ tt
row-short h = lit≤ tt

abbrev pub Value : RunHead → Type 0
Value h = (row h).Value_is

abbrev pub Fits : (h : RunHead) → Value h → Type 0
Fits h = (row h).Fits_is

abbrev pub run_text : (h : RunHead) → Value h → List ℕ
run_text h = (row h).text_is

-- the line that they make
abbrev handed_step : Handed → RunStep
handed_step (Handed.Alone register) = RunStep.Object register
handed_step (Handed.Numbered register number) = RunStep.Widen register number

abbrev freed_step : Freed → RunStep
freed_step (Freed.Owner register) = RunStep.FreeOwner register
freed_step (Freed.Number number) = RunStep.FreeNumber number

abbrev pub made : (h : RunHead) → Value h → RunLine
made RunHead.Version x = RunLine.Version
made RunHead.Root x = RunLine.Root x.0 x.1
made RunHead.Derive x = RunLine.Run (RunStep.Derive (record { target = x.0; source = x.1.0; result = x.1.1 }))
made RunHead.Exchange x = RunLine.Run (RunStep.Exchange (record {
  target = x.0;
  source = x.1.0;
  special = x.1.1.0;
  result = (x.1.1.1).general;
  special_result = (x.1.1.1).special;
}))
made RunHead.Invoke x =
    RunLine.Run (RunStep.Invoke (record { code = x.0; datum = x.1.0; code_word = x.1.1.1.0; datum_word = x.1.1.1.1 }))
made RunHead.Drop x = RunLine.Run (RunStep.Drop x)
made RunHead.Fill x = RunLine.Run (RunStep.Fill (x.0).0 x.1)
made RunHead.Object x = RunLine.Run (handed_step x)
made RunHead.Free x = RunLine.Run (freed_step x)
made RunHead.Hart x = RunLine.Hart x.0

-- what the line of a head and its operands is
pub record IsMade (h : RunHead) (x : Value h) : Type 0 where
  pub in_range : Fits h x → IsRunLineInRange (made h x)
  pub fits : IsRunLineInRange (made h x) → Fits h x
  pub spelling_is : run_spelling (made h x) ≡ run_head_spelling h ++ 32 ∷ run_text h x

made_object : (x : Handed) → IsMade RunHead.Object x
unfolding run_spelling
made_object (Handed.Alone register) = record { in_range = λ f. f; fits = λ f. f; spelling_is = refl }
made_object (Handed.Numbered register number) = record { in_range = λ f. f; fits = λ f. f; spelling_is = refl }

made_free : (x : Freed) → IsMade RunHead.Free x
unfolding run_spelling
made_free (Freed.Owner register) = record { in_range = λ f. f; fits = λ f. f; spelling_is = refl }
made_free (Freed.Number number) = record { in_range = λ f. f; fits = λ f. f; spelling_is = refl }

pub is_made : (h : RunHead) (x : Value h) → IsMade h x
unfolding run_spelling
is_made RunHead.Version x = record { in_range = λ f. f; fits = λ f. f; spelling_is = refl }
is_made RunHead.Root x = record { in_range = λ f. f; fits = λ f. f; spelling_is = refl }
is_made RunHead.Derive x = record { in_range = λ f. (f.0, f.1.0, f.1.1); fits = λ f. (f.0, (f.1, f.2)); spelling_is = refl }
is_made RunHead.Exchange x = record {
  in_range = λ f. (f.0, f.1.0, f.1.1.0, f.1.1.1.0, f.1.1.1.1);
  fits = λ f. (f.0, (f.1, (f.2, (f.3, f.4))));
  spelling_is = refl;
}
is_made RunHead.Invoke x = record {
  in_range = λ f. (f.0, f.1.0, f.1.1.1.0, f.1.1.1.1);
  fits = λ f. (f.0, (f.1, (tt, (f.2, f.3))));
  spelling_is = refl;
}
is_made RunHead.Drop x = record { in_range = λ f. f; fits = λ f. f; spelling_is = refl }
is_made RunHead.Fill x = record { in_range = λ f. f; fits = λ f. f; spelling_is = refl }
is_made RunHead.Object x = made_object x
is_made RunHead.Free x = made_free x
is_made RunHead.Hart x = record { in_range = λ f. f; fits = λ f. f; spelling_is = refl }

-- a line of the other logs, as one of a run log
pub run_line_of : Line → RunLine
run_line_of (Line.Mode mode) = RunLine.Mode mode
run_line_of (Line.Step step) = RunLine.Step step
run_line_of (Line.End steps) = RunLine.End steps
run_line_of (Line.Version version) = RunLine.Plain version
run_line_of line = RunLine.Version

-- a line as its head and its operands, or as a line of the other logs
pub data Kind (line : RunLine) : Type 0 where
  Own : (h : RunHead) (x : Value h) (same : made h x ≡ line) → Kind line
  Usual : (other : Line) (range : IsRunLineInRange line → IsInRange other) (same : run_spelling line ≡ spelling other)
      (not_root : head_of other ≡ Head.Root → ⊥) (back : run_line_of other ≡ line) → Kind line

step_not_root : (step : Step) → head_of (Line.Step step) ≡ Head.Root → ⊥
step_not_root (Step.Move step) e = cc
step_not_root step e = cc

pub kind_of : (line : RunLine) → Kind line
unfolding run_spelling spelling run_line_of
kind_of RunLine.Version = Own RunHead.Version (record {}) refl
kind_of (RunLine.Plain version) = Usual (Line.Version version) (λ f. f) refl (λ e. cc) refl
kind_of (RunLine.Mode mode) = Usual (Line.Mode mode) (λ f. f) refl (λ e. cc) refl
kind_of (RunLine.Root place word) = Own RunHead.Root (place, word) refl
kind_of (RunLine.Step step) = Usual (Line.Step step) (λ f. f) refl (step_not_root step) refl
kind_of (RunLine.Run (RunStep.Derive step)) = Own RunHead.Derive (step.target, (step.source, step.result)) refl
kind_of (RunLine.Run (RunStep.Exchange step)) =
    Own RunHead.Exchange (step.target, (step.source, (step.special, record { general = step.result; special = step.special_result }))) refl
kind_of (RunLine.Run (RunStep.Invoke step)) =
    Own RunHead.Invoke (step.code, (step.datum, (record {}, (step.code_word, step.datum_word)))) refl
kind_of (RunLine.Run (RunStep.Drop place)) = Own RunHead.Drop place refl
kind_of (RunLine.Run (RunStep.Fill granule word)) = Own RunHead.Fill (record { 0 = granule }, word) refl
kind_of (RunLine.Run (RunStep.Object register)) = Own RunHead.Object (Handed.Alone register) refl
kind_of (RunLine.Run (RunStep.Widen register number)) = Own RunHead.Object (Handed.Numbered register number) refl
kind_of (RunLine.Run (RunStep.FreeOwner register)) = Own RunHead.Free (Freed.Owner register) refl
kind_of (RunLine.Run (RunStep.FreeNumber number)) = Own RunHead.Free (Freed.Number number) refl
kind_of (RunLine.Hart hart) = Own RunHead.Hart (record { 0 = hart }) refl
kind_of (RunLine.End steps) = Usual (Line.End steps) (λ f. f) refl (λ e. cc) refl

-- the head that a word names
run_named : List ℕ → RunHead
run_named word =
    if bytes_eq word (codes "run") then RunHead.Version else (
    if bytes_eq word (codes "root") then RunHead.Root else (
    if bytes_eq word (codes "derive") then RunHead.Derive else (
    if bytes_eq word (codes "exchange") then RunHead.Exchange else (
    if bytes_eq word (codes "invoke") then RunHead.Invoke else (
    if bytes_eq word (codes "drop") then RunHead.Drop else (
    if bytes_eq word (codes "fill") then RunHead.Fill else (
    if bytes_eq word (codes "object") then RunHead.Object else (
    if bytes_eq word (codes "hart") then RunHead.Hart else
    RunHead.Free))))))))

run_named-spelling : (h : RunHead) → run_named (run_head_spelling h) ≡ h
unfolding run_named
run_named-spelling RunHead.Version = refl
run_named-spelling h = refl

pub one_head : (a b : RunHead) → run_head_spelling a ≡ run_head_spelling b → a ≡ b
one_head a b e = sym (run_named-spelling a) ∙ ap run_named e ∙ run_named-spelling b

-- no line of the other logs that may stand in a run begins with such a word
root_or_free : Head → RunHead
root_or_free Head.Root = RunHead.Root
root_or_free h = RunHead.Free

run_named_of : (h : Head) → run_named (head_spelling h) ≡ root_or_free h
unfolding run_named root_or_free
run_named_of Head.Version = refl
run_named_of h = refl

not_free : (h : Head) → bytes_eq (head_spelling h) (codes "free") ≡ false
not_free Head.Version = refl
not_free h = refl

free_of : (h : Head) → (h ≡ Head.Root → ⊥) → root_or_free h ≡ RunHead.Free
unfolding root_or_free
free_of Head.Root not_root = absurd (not_root refl)
free_of h not_root = refl

pub not_its : (h : Head) (r : RunHead) → (h ≡ Head.Root → ⊥) → head_spelling h ≡ run_head_spelling r → ⊥
not_its h r not_root e =
    let is : r ≡ RunHead.Free =
    sym (run_named-spelling r) ∙ ap run_named (sym e) ∙ run_named_of h ∙ free_of h not_root in
    let same : head_spelling h ≡ codes "free" = e ∙ ap run_head_spelling is in
    false≢true (sym (not_free h) ∙ ap (λ (word : List ℕ). bytes_eq word (codes "free")) same)

-- the bytes of a line, cut behind the first word
own_cut : (h : RunHead) (x : Value h) (line : RunLine) (bytes rest : List ℕ) → made h x ≡ line → bytes ≡ run_spelling line ++ 10 ∷ rest
    → bytes ≡ run_head_spelling h ++ 32 ∷ (run_text h x ++ 10 ∷ rest)
own_cut h x line bytes rest same e =
    e ∙ ap (λ (bs : List ℕ). bs ++ 10 ∷ rest) (sym (ap run_spelling same) ∙ (is_made h x).spelling_is)
    ∙ append_assoc (run_head_spelling h) (32 ∷ run_text h x) (10 ∷ rest)

usual_cut : (other : Line) (line : RunLine) (bytes rest : List ℕ) → run_spelling line ≡ spelling other → bytes ≡ run_spelling line ++ 10 ∷ rest
    → bytes ≡ head_spelling (head_of other) ++ 32 ∷ (text (head_of other) (operands_of other) ++ 10 ∷ rest)
usual_cut other line bytes rest same e =
    e ∙ ap (λ (bs : List ℕ). bs ++ 10 ∷ rest) (same ∙ spelling-of other)
    ∙ append_assoc (head_spelling (head_of other)) (32 ∷ text (head_of other) (operands_of other)) (10 ∷ rest)

-- what stands behind a head is what its row says
pub stands_after : (h : RunHead) → StandsAfter h (Fits h) (run_text h)
stands_after h = record { part_of = λ line behind range e. go line behind range e (kind_of line) } where
  go : (line : RunLine) (behind : List ℕ) → IsRunLineInRange line → run_spelling line ≡ run_head_spelling h ++ 32 ∷ behind → Kind line
      → (x : Value h) × Fits h x × (behind ≡ run_text h x)
  go line behind range e (Own k x same) =
      let parts = same_cut 32 (run_head_spelling k) (run_head_spelling h) (run_text k x) behind (run_head-spaceless k) (run_head-spaceless h)
      (sym (sym (ap run_spelling same) ∙ (is_made k x).spelling_is) ∙ e) in
      let head : k ≡ h = one_head k h parts.0 in
      let fits = (is_made k x).fits (subst IsRunLineInRange (sym same) range) in
      subst (λ (m : RunHead). (y : Value m) × Fits m y × (behind ≡ run_text m y)) head (x, fits, sym parts.1)
  go line behind range e (Usual other inside same not_root back) =
      let parts = same_cut 32 (head_spelling (head_of other)) (run_head_spelling h) (text (head_of other) (operands_of other)) behind
      (head-spaceless (head_of other)) (run_head-spaceless h) (sym (same ∙ spelling-of other) ∙ e) in
      absurd (not_its (head_of other) h not_root parts.0)

-- where no such part stands behind it, no line does
pub none_after : {A : Type 0} (h : RunHead) (FitsIt : A → Type 0) (spelled : A → List ℕ) → StandsAfter h FitsIt spelled → (bytes : List ℕ)
    → BeginsWithNone FitsIt spelled 10 bytes → BeginsWithNone IsRunLineInRange run_spelling 10 (run_head_spelling h ++ 32 ∷ bytes)
none_after h FitsIt spelled is bytes none line rest begins = go (kind_of line) where
  go : Kind line → ⊥
  go (Own k x same) =
      let parts = same_cut 32 (run_head_spelling h) (run_head_spelling k) bytes (run_text k x ++ 10 ∷ rest) (run_head-spaceless h)
      (run_head-spaceless k) (own_cut k x line (run_head_spelling h ++ 32 ∷ bytes) rest same begins.1) in
      let found = is.part_of line (run_text k x) begins.0
      ((sym (ap run_spelling same) ∙ (is_made k x).spelling_is) ∙ ap (λ (bs : List ℕ). bs ++ 32 ∷ run_text k x) (sym parts.0)) in
      none found.0 rest (found.1, parts.1 ∙ ap (λ (bs : List ℕ). bs ++ 10 ∷ rest) found.2)
  go (Usual other inside same not_root back) =
      let parts = same_cut 32 (run_head_spelling h) (head_spelling (head_of other)) bytes
      (text (head_of other) (operands_of other) ++ 10 ∷ rest) (run_head-spaceless h) (head-spaceless (head_of other))
      (usual_cut other line (run_head_spelling h ++ 32 ∷ bytes) rest same begins.1) in
      not_its (head_of other) h not_root (sym parts.0)

-- bytes that begin with neither word begin with no line
pub no_run_head : (bytes : List ℕ) → BeginsWithNone IsRunHead run_head_spelling 32 bytes → BeginsWithNone IsInRange spelling 10 bytes
    → BeginsWithNone IsRunLineInRange run_spelling 10 bytes
no_run_head bytes none usual line rest begins = go (kind_of line) where
  go : Kind line → ⊥
  go (Own k x same) = none k (run_text k x ++ 10 ∷ rest) (tt, own_cut k x line bytes rest same begins.1)
  go (Usual other inside same not_root back) = usual other rest (inside begins.0, begins.1 ∙ ap (λ (bs : List ℕ). bs ++ 10 ∷ rest) same)

-- bytes that begin with a root's word begin with the head of a root
pub no_root_line : (bytes rest : List ℕ) (line : Line) → head_of line ≡ Head.Root → BeginsWithNone IsRunHead run_head_spelling 32 bytes
    → Begins IsInRange spelling 10 bytes line rest → BeginsWithNone IsRunLineInRange run_spelling 10 bytes
no_root_line bytes rest line root none begins run more other =
    none RunHead.Root (text (head_of line) (operands_of line) ++ 10 ∷ rest) (
      tt,
      begins.1 ∙ ap (λ (bs : List ℕ). bs ++ 10 ∷ rest) (spelling-of line)
          ∙ append_assoc (head_spelling (head_of line)) (32 ∷ text (head_of line) (operands_of line)) (10 ∷ rest)
          ∙ ap (λ (h : Head). head_spelling h ++ 32 ∷ (text (head_of line) (operands_of line) ++ 10 ∷ rest)) root,
    )

-- for each head
abbrev After : RunHead → Type 0
After h = StandsAfter h (Fits h) (run_text h)

pub after_each : After RunHead.Version × After RunHead.Root × After RunHead.Derive × After RunHead.Exchange × After RunHead.Invoke
    × After RunHead.Drop × After RunHead.Fill × After RunHead.Object × After RunHead.Free × After RunHead.Hart
after_each = (
  stands_after RunHead.Version,
  stands_after RunHead.Root,
  stands_after RunHead.Derive,
  stands_after RunHead.Exchange,
  stands_after RunHead.Invoke,
  stands_after RunHead.Drop,
  stands_after RunHead.Fill,
  stands_after RunHead.Object,
  stands_after RunHead.Free,
  stands_after RunHead.Hart,
)
