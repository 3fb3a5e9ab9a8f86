-- Lines by their heads: what stands behind each head, and the line that head and operands make.
use Rattle.std.specs.Fmt.{signed_decimal}
use Rattle.std.proofs.Common.{append_assoc, ◌≡◌, ℕ, zero, suc, ℤ, ◌+◌, ◌≤◌, ◌^◌, List, [], ◌∷◌, ◌++◌, length, sym, ap, subst, ◌∙◌, refl}
use Rattle.std.proofs.Common.{arith, Bool, true, false, inl, inr, decimal, codes, lit≤, if◌then◌else◌, bytes_eq}
use Rattle.std.proofs.lemmas.Fmt.{decimal_digit, decimal_injective, length-decimal-le}
use Rattle.cap_word.specs.{declared.word.{Cap.Cap, Word.Word}, Digits.hex_digits}
use Rattle.cap_log.specs.declared.{kinds.{Head.Head, Step.Step}, lines.{Line.Line, Mode.Mode}}
use Rattle.cap_log.specs.declared.parts.{headers.Version.Version, sized.Accessed.Accessed}
use Rattle.cap_log.specs.Heads.{IsHead, authorized_head, data_head, head_spelling, numbered_head, plain_head}
use Rattle.cap_log.specs.Lines.{IsInRange, IsNumber, IsVersion, IsOffset, IsPlace, IsRegister, IsTarget, IsWord}
use Rattle.cap_log.specs.Lines.{mode_spelling, place_spelling, register_spelling, spelling}
use Rattle.cap_log.specs.Parts.{BeginsWithNone, BeginsWithout, FitBoth, IsCount, IsMode, StandsBehind}
use Rattle.cap_log.specs.{Parts.{accessed_spelling, result_spelling, spaced}, Ranges.IsDatum}
use Rattle.cap_log.specs.SpacelessLaws.{Lacks-head, head-plain, head-spaceless}
use Rattle.cap_streams.specs.Front.{HasNoFeed}
use Rattle.cap_log.proofs.Cuts.{Lacks-by_test, same_cut}
use Rattle.cap_log.proofs.OperandLemmas.{FitBoth-operand, IsOperand, Spaceless, mapped}
use Rattle.cap_log.proofs.PartLemmas.{Lacks-decimal, accessed-operand, count-operand, number-operand, number-spaceless}
use Rattle.cap_log.proofs.PartLemmas.{offset-operand, offset-spaceless, place-operand, place-spaceless}
use Rattle.cap_log.proofs.PartLemmas.{register-operand, register-spaceless, result-operand, target-operand}
use Rattle.cap_log.proofs.PartLemmas.{word-operand}
use Rattle.cap_log.proofs.Searches.{Searched, accesses, below, caps, modes as both_modes, offsets, pairs, places}
use Rattle.cap_log.proofs.Searches.{registers, targets, versions, words}

-- a kind of part: its values, those in range, and their bytes. Each has one spelling, and they can be searched
pub record Shape : Type 1 where
  pub Value_is : Type 0
  pub Fits_is : Value_is → Type 0
  pub text_is : Value_is → List ℕ
  pub most : ℕ
  pub operand : IsOperand Fits_is text_is most
  pub searched : Searched Value_is Fits_is

-- one of values in range, with their bytes
abbrev part : {A : Type 0} (Fits : A → Type 0) (spelled : A → List ℕ) (n : ℕ) → IsOperand Fits spelled n → Searched A Fits → Shape
part {A} Fits spelled n one_each search_for = record {
  Value_is = A;
  Fits_is = Fits;
  text_is = spelled;
  most = n;
  operand = one_each;
  searched = search_for;
}

-- the parts, as the code has them
abbrev a_target : Shape
a_target = part IsTarget register_spelling 3 target-operand targets

abbrev a_register : Shape
a_register = part IsRegister register_spelling 3 register-operand registers

abbrev a_number : Shape
a_number = part IsNumber (hex_digits 16) 16
    number-operand (below (2 ^ 64))

abbrev an_offset : Shape
an_offset = part IsOffset signed_decimal 5 offset-operand offsets

abbrev a_result : Shape
a_result = part (λ (a : Cap). IsWord a.word.0) result_spelling 36
    result-operand caps

abbrev an_access : (n : ℕ) (is_load : Bool) → Shape
an_access n is_load = part (λ (a : Accessed n). IsDatum a.0) (λ a. accessed_spelling is_load a.0) 20
    (mapped IsDatum (accessed_spelling is_load) 20 (accessed-operand is_load) (λ a. a.0) (λ x. record { 0 = x }) (λ _. refl)) (accesses n)

abbrev a_count : Shape
a_count = part IsCount decimal 10
    count-operand (below (2 ^ 32))

abbrev a_word : Shape
a_word = part (λ (a : Word). IsWord a.0) (λ a. hex_digits 32 a.0) 32
    (mapped IsWord (hex_digits 32) 32 word-operand (λ a. a.0) (λ x. record { 0 = x }) (λ _. refl)) words

abbrev a_place : Shape
a_place = part IsPlace place_spelling 17
    place-operand places

-- the texts of the versions
pub one_digit : decimal 1 ≡ codes "1"
one_digit = decimal_digit 1 (omega arith)

pub two_digit : decimal 2 ≡ codes "2"
two_digit = decimal_digit 2 (omega arith)

pub no_version : (end : ℕ) (bytes : List ℕ) → BeginsWithout (codes "1") end bytes → BeginsWithout (codes "2") end bytes
    → BeginsWithNone (λ (a : Version). IsVersion a.0) (λ a. decimal a.0) end bytes
no_version end bytes first second version rest (inl one, e) =
    first rest (e ∙ ap (λ (ds : List ℕ). ds ++ end ∷ rest) (ap decimal one ∙ one_digit))
no_version end bytes first second version rest (inr two, e) =
    second rest (e ∙ ap (λ (ds : List ℕ). ds ++ end ∷ rest) (ap decimal two ∙ two_digit))

pub version-operand : IsOperand IsVersion decimal 1
version-operand = record {
  one = λ a b fits fits' e. decimal_injective a b (omega arith) (omega arith) e;
  plain = λ n fits. Lacks-decimal 10 n (omega arith) (omega arith);
  short = λ n fits. length-decimal-le 1 n (omega arith) (omega arith) (omega arith);
}

one_mode : (a b : Mode) → mode_spelling a ≡ mode_spelling b → a ≡ b
one_mode Mode.Strict Mode.Strict e = refl
one_mode Mode.Strict Mode.Clear e = cc
one_mode Mode.Clear Mode.Strict e = cc
one_mode Mode.Clear Mode.Clear e = refl

plain_mode : (a : Mode) → HasNoFeed (mode_spelling a) × (length (mode_spelling a) ≤ 6)
plain_mode Mode.Strict = (Lacks-by_test 10 (codes "strict") refl, lit≤ tt)
plain_mode Mode.Clear = (Lacks-by_test 10 (codes "clear") refl, lit≤ tt)

pub mode-operand : IsOperand IsMode mode_spelling 6
mode-operand = record { one = λ a b fits fits' e. one_mode a b e; plain = λ a fits. (plain_mode a).0; short = λ a fits. (plain_mode a).1 }

abbrev a_version : Shape
a_version = part (λ (a : Version). IsVersion a.0) (λ a. decimal a.0) 1
    (mapped IsVersion decimal 1 version-operand (λ a. a.0) (λ x. record { 0 = x }) (λ _. refl)) versions

abbrev a_mode : Shape
a_mode = part IsMode mode_spelling 6
    mode-operand both_modes

-- one of one word, a space, and another
abbrev one_word : (first : Shape) → Spaceless first.Fits_is first.text_is → Shape → Shape
one_word first spaceless second = record {
  Value_is = first.Value_is × second.Value_is;
  Fits_is = FitBoth first.Fits_is second.Fits_is;
  text_is = spaced first.text_is second.text_is;
  most = first.most + 1 + second.most;
  operand = FitBoth-operand first.Fits_is first.text_is first.most second.Fits_is second.text_is second.most spaceless
      first.operand second.operand;
  searched = pairs first.searched second.searched;
}

abbrev target : Shape → Shape
target = one_word a_target (λ a fits. register-spaceless a fits.1)

abbrev register : Shape → Shape
register = one_word a_register register-spaceless

abbrev number : Shape → Shape
number = one_word a_number (λ a fits. number-spaceless a)

abbrev offset : Shape → Shape
offset = one_word an_offset offset-spaceless

-- what stands behind a head
abbrev pub row : Head → Shape
row Head.Version = a_version
row Head.Mode = a_mode
row Head.Root = one_word a_place place-spaceless a_word
row Head.Move = target (register a_result)
row Head.ClearTag = target (register a_result)
row Head.Seal = target (register (register a_result))
row Head.Unseal = target (register (register a_result))
row Head.SetBounds = target (register (number a_result))
row Head.SetBoundsExact = target (register (number a_result))
row Head.SetAddr = target (register (number a_result))
row Head.AndPerm = target (register (number a_result))
row Head.LoadCap = target (register (offset a_result))
row Head.StoreCap = register (register an_offset)
row Head.Load = register (offset (an_access 1 true))
row Head.Store = register (offset (an_access 0 false))
row Head.End = a_count

pub row-short : (h : Head) → (row h).most ≤ 80
row-short Head.Version = lit≤ tt
row-short h = lit≤ tt

abbrev pub Value : Head → Type 0
Value h = (row h).Value_is

abbrev pub Fits : (h : Head) → Value h → Type 0
Fits h = (row h).Fits_is

abbrev pub text : (h : Head) → Value h → List ℕ
text h = (row h).text_is

-- the line that they make
abbrev pub made : (h : Head) → Value h → Line
made Head.Version version = Line.Version version.0
made Head.Mode mode = Line.Mode mode
made Head.Root x = Line.Root x.0 x.1
made Head.Move x = Line.Step (Step.Move (record { target = x.0; source = x.1.0; result = x.1.1 }))
made Head.ClearTag x = Line.Step (Step.ClearTag (record { target = x.0; source = x.1.0; result = x.1.1 }))
made Head.Seal x = Line.Step (Step.Seal (record { target = x.0; source = x.1.0; authority = x.1.1.0; result = x.1.1.1 }))
made Head.Unseal x = Line.Step (Step.Unseal (record { target = x.0; source = x.1.0; authority = x.1.1.0; result = x.1.1.1 }))
made Head.SetBounds x = Line.Step (Step.SetBounds (record { target = x.0; source = x.1.0; number = x.1.1.0; result = x.1.1.1 }))
made Head.SetBoundsExact x = Line.Step (Step.SetBoundsExact (record { target = x.0; source = x.1.0; number = x.1.1.0; result = x.1.1.1 }))
made Head.SetAddr x = Line.Step (Step.SetAddr (record { target = x.0; source = x.1.0; number = x.1.1.0; result = x.1.1.1 }))
made Head.AndPerm x = Line.Step (Step.AndPerm (record { target = x.0; source = x.1.0; number = x.1.1.0; result = x.1.1.1 }))
made Head.LoadCap x = Line.Step (Step.LoadCap (record { target = x.0; authority = x.1.0; offset = x.1.1.0; result = x.1.1.1 }))
made Head.StoreCap x = Line.Step (Step.StoreCap (record { source = x.0; authority = x.1.0; offset = x.1.1 }))
made Head.Load x = Line.Step (Step.Load (record { authority = x.0; offset = x.1.0; datum = x.1.1.0 }))
made Head.Store x = Line.Step (Step.Store (record { authority = x.0; offset = x.1.0; datum = x.1.1.0 }))
made Head.End x = Line.End x

-- a line as its head and its operands
abbrev lined : (l : Line) → (h : Head) × (x : Value h) × (made h x ≡ l)
lined (Line.Version version) = (Head.Version, record { 0 = version }, refl)
lined (Line.Mode mode) = (Head.Mode, mode, refl)
lined (Line.Root place word) = (Head.Root, (place, word), refl)
lined (Line.Step (Step.Move s)) = (Head.Move, (s.target, (s.source, s.result)), refl)
lined (Line.Step (Step.ClearTag s)) = (Head.ClearTag, (s.target, (s.source, s.result)), refl)
lined (Line.Step (Step.Seal s)) = (Head.Seal, (s.target, (s.source, (s.authority, s.result))), refl)
lined (Line.Step (Step.Unseal s)) = (Head.Unseal, (s.target, (s.source, (s.authority, s.result))), refl)
lined (Line.Step (Step.SetBounds s)) = (Head.SetBounds, (s.target, (s.source, (s.number, s.result))), refl)
lined (Line.Step (Step.SetBoundsExact s)) = (Head.SetBoundsExact, (s.target, (s.source, (s.number, s.result))), refl)
lined (Line.Step (Step.SetAddr s)) = (Head.SetAddr, (s.target, (s.source, (s.number, s.result))), refl)
lined (Line.Step (Step.AndPerm s)) = (Head.AndPerm, (s.target, (s.source, (s.number, s.result))), refl)
lined (Line.Step (Step.LoadCap s)) = (Head.LoadCap, (s.target, (s.authority, (s.offset, s.result))), refl)
lined (Line.Step (Step.StoreCap s)) = (Head.StoreCap, (s.source, (s.authority, s.offset)), refl)
lined (Line.Step (Step.Load s)) = (Head.Load, (s.authority, (s.offset, record { 0 = s.datum })), refl)
lined (Line.Step (Step.Store s)) = (Head.Store, (s.authority, (s.offset, record { 0 = s.datum })), refl)
lined (Line.End steps) = (Head.End, steps, refl)

abbrev pub head_of : Line → Head
head_of l = (lined l).0

abbrev pub operands_of : (l : Line) → Value (head_of l)
operands_of l = (lined l).1

pub made-of : (l : Line) → made (head_of l) (operands_of l) ≡ l
made-of l = (lined l).2

-- what the line of a head and its operands is
pub record IsMade (h : Head) (x : Value h) : Type 0 where
  pub in_range : Fits h x → IsInRange (made h x)
  pub fits : IsInRange (made h x) → Fits h x
  pub spelling_is : spelling (made h x) ≡ head_spelling h ++ 32 ∷ text h x

pub is_made : (h : Head) (x : Value h) → IsMade h x
unfolding spelling
is_made Head.Version x = record { in_range = λ f. f; fits = λ f. f; spelling_is = refl }
is_made Head.Mode x = record { in_range = λ f. f; fits = λ f. f; spelling_is = refl }
is_made Head.Root x = record { in_range = λ f. f; fits = λ f. f; spelling_is = refl }
is_made Head.End x = record { in_range = λ f. f; fits = λ f. f; spelling_is = refl }
is_made Head.Move x = record { in_range = λ f. (f.0, f.1.0, f.1.1); fits = λ f. (f.0, (f.1, f.2)); spelling_is = refl }
is_made Head.ClearTag x = record { in_range = λ f. (f.0, f.1.0, f.1.1); fits = λ f. (f.0, (f.1, f.2)); spelling_is = refl }
is_made Head.StoreCap x = record { in_range = λ f. (f.0, f.1.0, f.1.1); fits = λ f. (f.0, (f.1, f.2)); spelling_is = refl }
is_made Head.Load x = record { in_range = λ f. (f.0, f.1.0, f.1.1); fits = λ f. (f.0, (f.1, f.2)); spelling_is = refl }
is_made Head.Store x = record { in_range = λ f. (f.0, f.1.0, f.1.1); fits = λ f. (f.0, (f.1, f.2)); spelling_is = refl }
is_made h x = record { in_range = λ f. (f.0, f.1.0, f.1.1.0, f.1.1.1); fits = λ f. (f.0, (f.1, (f.2, f.3))); spelling_is = refl }

pub fits-of : (l : Line) → IsInRange l → Fits (head_of l) (operands_of l)
fits-of l range = (is_made (head_of l) (operands_of l)).fits (subst IsInRange (sym (made-of l)) range)

pub spelling-of : (l : Line) → spelling l ≡ head_spelling (head_of l) ++ 32 ∷ text (head_of l) (operands_of l)
spelling-of l = sym (ap spelling (made-of l)) ∙ (is_made (head_of l) (operands_of l)).spelling_is

-- the first of some heads that a word names
first_named : List ℕ → List Head → Head
first_named word [] = Head.End
first_named word (h ∷ heads) = if bytes_eq word (head_spelling h) then h else first_named word heads

-- the head that a word names
pub named : List ℕ → Head
named word = first_named word (Head.Version ∷ Head.Mode ∷ Head.Root ∷ Head.Move ∷ Head.ClearTag ∷ Head.Seal ∷ Head.Unseal ∷ Head.SetBounds
    ∷ Head.SetBoundsExact ∷ Head.SetAddr ∷ Head.AndPerm ∷ Head.LoadCap ∷ Head.StoreCap ∷ Head.Load ∷ Head.Store ∷ [])

pub named-spelling : (h : Head) → named (head_spelling h) ≡ h
unfolding named first_named
named-spelling Head.Version = refl
named-spelling h = refl

pub head-operand : IsOperand IsHead head_spelling 14
head-operand = record {
  one = λ a b fits fits' e. sym (named-spelling a) ∙ ap named e ∙ named-spelling b;
  plain = λ h fits. Lacks-head 10 h (omega arith);
  short = λ h fits. (head-plain h).1;
}

-- the bytes of a line, cut behind its head
head_cut : (l : Line) (bytes rest : List ℕ) → bytes ≡ spelling l ++ 10 ∷ rest
    → bytes ≡ head_spelling (head_of l) ++ 32 ∷ (text (head_of l) (operands_of l) ++ 10 ∷ rest)
head_cut l bytes rest e =
    e ∙ ap (λ (bs : List ℕ). bs ++ 10 ∷ rest) (spelling-of l) ∙ append_assoc (head_spelling (head_of l))
    (32 ∷ text (head_of l) (operands_of l)) (10 ∷ rest)

-- bytes that begin with no head begin with no line
pub no_head : (bytes : List ℕ) → BeginsWithNone IsHead head_spelling 32 bytes → BeginsWithNone IsInRange spelling 10 bytes
no_head bytes none l rest begins = none (head_of l) (text (head_of l) (operands_of l) ++ 10 ∷ rest) (tt, head_cut l bytes rest begins.1)

-- what stands behind a head is what its row says
pub stands_behind : (h : Head) → StandsBehind h (Fits h) (text h)
stands_behind h = record {
  part_of = λ l behind range e.
      let parts = same_cut 32 (head_spelling (head_of l)) (head_spelling h) (text (head_of l) (operands_of l)) behind
      (head-spaceless (head_of l)) (head-spaceless h) (sym (spelling-of l) ∙ e) in
      let same : head_of l ≡ h = head-operand.one (head_of l) h tt tt parts.0 in
      subst (λ k. (x : Value k) × Fits k x × (behind ≡ text k x)) same (operands_of l, fits-of l range, sym parts.1);
}

-- where no such part stands behind it, no line does
pub none_behind : {A : Type 0} (h : Head) (Fits : A → Type 0) (spelled : A → List ℕ) → StandsBehind h Fits spelled → (bytes : List ℕ)
    → BeginsWithNone Fits spelled 10 bytes → BeginsWithNone IsInRange spelling 10 (head_spelling h ++ 32 ∷ bytes)
none_behind h Fits spelled is bytes none l rest begins =
    let words = text (head_of l) (operands_of l) in
    let parts = same_cut 32 (head_spelling h) (head_spelling (head_of l)) bytes (words ++ 10 ∷ rest) (head-spaceless h)
    (head-spaceless (head_of l)) (head_cut l (head_spelling h ++ 32 ∷ bytes) rest begins.1) in
    let found = is.part_of l words begins.0 (spelling-of l ∙ ap (λ (bs : List ℕ). bs ++ 32 ∷ words) (sym parts.0)) in
    none found.0 rest (found.1, parts.1 ∙ ap (λ (bs : List ℕ). bs ++ 10 ∷ rest) found.2)

-- for each head of a shape of its own
abbrev Behind : Head → Type 0
Behind h = StandsBehind h (Fits h) (text h)

pub behind_each : Behind Head.Version × Behind Head.Mode × Behind Head.Root × Behind Head.End × Behind Head.LoadCap × Behind Head.StoreCap
behind_each = (
  stands_behind Head.Version,
  stands_behind Head.Mode,
  stands_behind Head.Root,
  stands_behind Head.End,
  stands_behind Head.LoadCap,
  stands_behind Head.StoreCap,
)

-- what stands behind the heads of one shape: a result at the end
abbrev FitsResult : Cap → Type 0
FitsResult cap = IsWord cap.word.0

pub plain_behind : (is_clearing : Bool) → StandsBehind (plain_head is_clearing)
    (FitBoth IsTarget (FitBoth IsRegister FitsResult))
    (spaced register_spelling (spaced register_spelling result_spelling))
plain_behind false = stands_behind Head.Move
plain_behind true = stands_behind Head.ClearTag

pub numbered_behind : (what : ℕ) → StandsBehind (numbered_head what)
    (FitBoth IsTarget (FitBoth IsRegister (FitBoth IsNumber FitsResult)))
    (spaced register_spelling (spaced register_spelling (spaced (hex_digits 16) result_spelling)))
numbered_behind zero = stands_behind Head.SetBounds
numbered_behind (suc zero) = stands_behind Head.SetBoundsExact
numbered_behind (suc (suc zero)) = stands_behind Head.SetAddr
numbered_behind (suc (suc (suc more))) = stands_behind Head.AndPerm

pub authorized_behind : (is_unsealing : Bool) → StandsBehind (authorized_head is_unsealing)
    (FitBoth IsTarget (FitBoth IsRegister (FitBoth IsRegister FitsResult)))
    (spaced register_spelling (spaced register_spelling (spaced register_spelling result_spelling)))
authorized_behind false = stands_behind Head.Seal
authorized_behind true = stands_behind Head.Unseal

pub data_behind : (n : ℕ) (is_load : Bool) → StandsBehind {A = ℕ × (ℤ × Accessed n)} (data_head is_load)
    (FitBoth IsRegister (FitBoth IsOffset (λ a. IsDatum a.0)))
    (spaced register_spelling (spaced signed_decimal (λ a. accessed_spelling is_load a.0)))
data_behind n true = record {
  part_of = λ line text range e. let found = (stands_behind Head.Load).part_of line text range e in
      ((found.0.0, (found.0.1.0, record { 0 = found.0.1.1.0 })), found.1, found.2);
}
data_behind n false = record {
  part_of = λ line text range e. let found = (stands_behind Head.Store).part_of line text range e in
      ((found.0.0, (found.0.1.0, record { 0 = found.0.1.1.0 })), found.1, found.2);
}
