-- Lines by their heads: what stands behind each head, and that bytes spell one line at most.
use Rattle.std.specs.List.{list_all}
use Rattle.std.proofs.Common.{◌≡◌, ◌≢◌, ℕ, ◌+◌, ◌≤◌, ◌^◌, List, ◌∷◌, ◌++◌, length, sym, ap, subst, ◌∙◌, refl, arith}
use Rattle.std.proofs.Common.{codes, decimal, lit≤, length-append, bytes_eq, if◌then◌else◌, eqb, not, true}
use Rattle.std.proofs.lemmas.List.Elements.{All-append, All-cons}
use Rattle.cap_word.specs.Digits.{hex_digits}
use Rattle.cap_word.proofs.{DigitLemmas.length-hex_digits, ReadingLemmas.hex_digits-same}
use Rattle.cap_streams.specs.Front.{HasNoFeed}
use Rattle.cap_log.specs.{Lines.IsNumber, Parts.{FitBoth, HasNoSpace, IsCount, spaced}}
use Rattle.cap_log.specs.SpacelessLaws.{Lacks-by_test, Lacks-hex, number-spaceless}
use Rattle.cap_log.proofs.{Cuts.same_cut, OperandLemmas.{FitBoth-operand, IsOperand, mapped}}
use Rattle.cap_log.proofs.PartLemmas.{count-operand, number-operand}
use Rattle.cap_texts.specs.declared.tops.Top.{Top}
use Rattle.cap_heap.specs.declared.{events.Event.TheVariants.{Malloc, Free}, heads.HeapHead.HeapHead}
use Rattle.cap_heap.specs.declared.lines.HeapLine.{HeapLine, TheVariants.{Header, Root, Happens, End}}
use Rattle.cap_heap.specs.declared.heads.HeapHead.TheVariants as heads
use Rattle.cap_heap.specs.HeapLines.{IsHeapLineInRange, IsNamed, SpellsHeapLine, heap_head_spelling, heap_spelling}

-- what stands behind a head: its values, those in range, and their bytes: each has one spelling of at most 34 bytes
record Row : Type 1 where
  Value_is : Type 0
  Fits_is : Value_is → Type 0
  text_is : Value_is → List ℕ
  most : ℕ
  operand : IsOperand Fits_is text_is most

abbrev one : {A : Type 0} (Fits : A → Type 0) (spelled : A → List ℕ) (n : ℕ) → IsOperand Fits spelled n → Row
one {A} Fits spelled n operand = record { Value_is = A; Fits_is = Fits; text_is = spelled; most = n; operand = operand }

-- a number, a space, and another part
abbrev number : Row → Row
number second = record {
  Value_is = ℕ × second.Value_is;
  Fits_is = FitBoth IsNumber second.Fits_is;
  text_is = spaced (hex_digits 16) second.text_is;
  most = 16 + 1 + second.most;
  operand = FitBoth-operand IsNumber (hex_digits 16) 16 second.Fits_is second.text_is second.most (λ n fits. number-spaceless n)
      number-operand second.operand;
}

abbrev a_number : Row
a_number = one IsNumber (hex_digits 16) 16 number-operand

pub top-operand : IsOperand (λ n. n ≤ 2 ^ 64) (hex_digits 17) 17
top-operand = record {
  one = λ m n small small' same. hex_digits-same 17 m n (omega arith) (omega arith) same;
  plain = λ n small. Lacks-hex 10 17 n refl;
  short = λ n small. omega (arith, length-hex_digits 17 n);
}

pub version-operand : IsOperand (λ (version : Unit {0}). Unit {0}) (λ version. codes "1") 1
version-operand = record { one = λ a b fits fits' e. refl; plain = λ a fits. Lacks-by_test 10 (codes "1") refl; short = λ a fits. lit≤ tt }

abbrev row : HeapHead → Row
row heads.Header = one (λ (version : Unit {0}). Unit {0}) (λ version. codes "1") 1 version-operand
row heads.Root = number (one (λ (top : Top). top.0 ≤ 2 ^ 64) (λ top. hex_digits 17 top.0) 17
    (mapped (λ n. n ≤ 2 ^ 64) (hex_digits 17) 17 top-operand (λ top. top.0) (λ n. record { 0 = n }) (λ _. refl)))
row heads.Malloc = number a_number
row heads.Free = a_number
row heads.End = one IsCount decimal 10 count-operand

row-short : (h : HeapHead) → (row h).most ≤ 34
row-short heads.Header = lit≤ tt
row-short h = lit≤ tt

abbrev Value : HeapHead → Type 0
Value h = (row h).Value_is

abbrev Fits : (h : HeapHead) → Value h → Type 0
Fits h = (row h).Fits_is

abbrev text : (h : HeapHead) → Value h → List ℕ
text h = (row h).text_is

-- the line that they make
abbrev made : (h : HeapHead) → Value h → HeapLine
made heads.Header x = Header
made heads.Root x = Root (record { base = x.0; top = (x.1).0 })
made heads.Malloc x = Happens (Malloc x.0 x.1)
made heads.Free x = Happens (Free x)
made heads.End x = End x

-- a line as its head and what stands behind it
record Made (line : HeapLine) : Type 0 where
  head : HeapHead
  operands : Value head
  made_is : made head operands ≡ line
  fits : IsHeapLineInRange line → Fits head operands
  named : IsNamed (heap_spelling line) head (text head operands)

made_of : (line : HeapLine) → Made line
made_of Header = record { head = heads.Header; operands = tt; made_is = refl; fits = λ f. f; named = refl }
made_of (Root bounds) =
    record { head = heads.Root; operands = (bounds.base, record { 0 = bounds.top }); made_is = refl; fits = λ f. (f.0, f.2); named = refl }
made_of (Happens (Malloc address size)) =
    record { head = heads.Malloc; operands = (address, size); made_is = refl; fits = λ f. f; named = refl }
made_of (Happens (Free address)) = record { head = heads.Free; operands = address; made_is = refl; fits = λ f. f; named = refl }
made_of (End count) = record { head = heads.End; operands = count; made_is = refl; fits = λ f. f; named = refl }

-- the head that a word names
head_of : List ℕ → HeapHead
head_of word =
    if bytes_eq word (codes "heap") then heads.Header else (
    if bytes_eq word (codes "root") then heads.Root else (
    if bytes_eq word (codes "malloc") then heads.Malloc else (
    if bytes_eq word (codes "free") then heads.Free else
    heads.End)))

head_of-spelling : (h : HeapHead) → head_of (heap_head_spelling h) ≡ h
unfolding head_of
head_of-spelling heads.Header = refl
head_of-spelling h = refl

-- a word has neither a space nor a line feed
spaceless : (h : HeapHead) → HasNoSpace (heap_head_spelling h)
spaceless h = Lacks-by_test 32 (heap_head_spelling h) (go h) where
  go : (h : HeapHead) → list_all (λ b. not (eqb b 32)) (heap_head_spelling h) ≡ true
  go heads.Header = refl
  go h = refl

plain : (h : HeapHead) → HasNoFeed (heap_head_spelling h)
plain h = Lacks-by_test 10 (heap_head_spelling h) (go h) where
  go : (h : HeapHead) → list_all (λ b. not (eqb b 10)) (heap_head_spelling h) ≡ true
  go heads.Header = refl
  go h = refl

head-short : (h : HeapHead) → length (heap_head_spelling h) ≤ 6
head-short heads.Header = lit≤ tt
head-short h = lit≤ tt

-- the line that begins with a head is of that head, and what follows is what stands behind it
cut : (line : HeapLine) (h : HeapHead) (operands : List ℕ) → IsNamed (heap_spelling line) h operands
    → ((made_of line).head ≡ h) × (text (made_of line).head (made_of line).operands ≡ operands)
cut line h operands e =
    let it = made_of line in
    let both = same_cut 32 (heap_head_spelling it.head) (heap_head_spelling h) (text it.head it.operands) operands (spaceless it.head)
    (spaceless h) (sym it.named ∙ e) in
    (sym (head_of-spelling it.head) ∙ ap head_of both.0 ∙ head_of-spelling h, both.1)

-- lines with one spelling are one
line_is : (h : HeapHead) (x : Value h) (line : HeapLine) → Fits h x → IsHeapLineInRange line → IsNamed (heap_spelling line) h (text h x)
    → made h x ≡ line
line_is h x line fits range e =
    let it = made_of line in
    let both = cut line h (text h x) e in
    subst (λ k. (y : Value k) → Fits k y → text h x ≡ text k y → made h x ≡ made k y) (sym both.0)
    (λ y fits' same. ap (made h) ((row h).operand.one x y fits fits' same)) it.operands (it.fits range) (sym both.1) ∙ it.made_is

pub one_spelling : (bytes : List ℕ) (a b : HeapLine) → SpellsHeapLine bytes a → SpellsHeapLine bytes b → a ≡ b
one_spelling bytes a b spells spells' =
    let it = made_of a in
    sym it.made_is ∙ line_is it.head it.operands b (it.fits spells.0) spells'.0 (sym spells'.1 ∙ spells.1 ∙ it.named)

-- a line has no line feed and at most 95 bytes
pub line-plain : (line : HeapLine) → IsHeapLineInRange line → HasNoFeed (heap_spelling line)
line-plain line range =
    let it = made_of line in
    rw it.named (All-append (λ b. b ≢ 10) (heap_head_spelling it.head) (32 ∷ text it.head it.operands) (plain it.head)
    (All-cons (λ b. b ≢ 10) 32 (text it.head it.operands) (omega arith) ((row it.head).operand.plain it.operands (it.fits range))))

pub line-short : (line : HeapLine) → IsHeapLineInRange line → length (heap_spelling line) ≤ 95
line-short line range =
    let it = made_of line in
    let long = ap length it.named ∙ length-append (heap_head_spelling it.head) (32 ∷ text it.head it.operands) in
    let most = row-short it.head in
    let second = (row it.head).operand.short it.operands (it.fits range) in
    omega (arith, head-short it.head)

-- what stands behind a head has neither a line feed nor many bytes
abbrev Short : HeapHead → Type 0
Short h = (x : Value h) → Fits h x → (length (text h x) ≤ 34) × HasNoFeed (text h x)

short : (h : HeapHead) → Short h
short h x fits =
    let most = row-short h in
    let few = (row h).operand.short x fits in
    (omega arith, (row h).operand.plain x fits)

pub short_each : Short heads.Root × Short heads.Malloc × Short heads.Free × Short heads.End
short_each = (short heads.Root, short heads.Malloc, short heads.Free, short heads.End)

-- bytes spell no line where no head begins them, or what follows one isn't what stands behind it
pub none_headed : (bytes : List ℕ) → ((h : HeapHead) (operands : List ℕ) → IsNamed bytes h operands → ⊥) → (line : HeapLine)
    → SpellsHeapLine bytes line → ⊥
none_headed bytes none line spells =
    let it = made_of line in none it.head (text it.head it.operands) (spells.1 ∙ it.named)

pub none_behind : (k h : HeapHead) (bytes operands : List ℕ) → IsNamed bytes h operands → h ≡ k
    → ((x : Value k) → Fits k x → operands ≡ text k x → ⊥) → (line : HeapLine) → SpellsHeapLine bytes line → ⊥
none_behind k h bytes operands named is none line spells =
    let it = made_of line in
    let both = cut line h operands (sym spells.1 ∙ named) in
    subst (λ g. (x : Value g) → Fits g x → operands ≡ text g x → ⊥) (sym (both.0 ∙ is)) none it.operands (it.fits spells.0) (sym both.1)

-- nor where a root ends below its base
pub no_root : (h : HeapHead) (bytes operands : List ℕ) (x : Value heads.Root) → IsNamed bytes h operands → h ≡ heads.Root → Fits heads.Root x
    → operands ≡ text heads.Root x → (x.0 ≤ (x.1).0 → ⊥) → (line : HeapLine) → SpellsHeapLine bytes line → ⊥
no_root h bytes operands x named root fits same above line spells =
    let is = line_is heads.Root x line fits spells.0
    (sym spells.1 ∙ named ∙ ap (λ k. heap_head_spelling k ++ 32 ∷ operands) root ∙ ap (λ (bs : List ℕ). codes "root" ++ 32 ∷ bs) same) in
    above (subst IsHeapLineInRange (sym is) spells.0).1
