-- What is kept of some bytes has the context of a line.
use Rattle.std.specs.{BTreeMap.{BTreeMap, is_at}, Global.Vec, List.AllByRecursion, Map.lookup, Ordering.nat_cmp, Option.option_map_or}
use Rattle.std.proofs.Common.{◌≡◌, ◌⊎◌, ℕ, ◌+◌, ◌-◌, ◌<◌, ◌≤◌, eqb, Bool, true, false, ◌&&◌, ◌||◌, cond, List, [], ◌∷◌, ◌++◌, codes, decimal, fold, length, arith}
use Rattle.std.proofs.Common.{Option, Some, None, bytes_eq, lt-ltb, nat_le, nat_lt, OnOk, Result, Ok, Err, inl, inr, refl, sym, ap, subst, ◌∙◌, append_assoc, append-nil}
use Rattle.std.proofs.lemmas.{Bool.{cond-false, cond-true, Decides.{eqb_tells, leb_tells}}, Grind.{flat_map-append, fold-append}, List.{length-append, nil_from_length}}
use Rattle.cap_json.specs.Words.{in_first, lines_of, past, upto}
use Rattle.cap_context.specs.declared.writers.Writer.{Writer}
use Rattle.cap_context.specs.Contexts.{Entry, before_lines, before_text, context_in, context_of, refused_line, number_of, hart_at, hart_step, Last, last_step, last_writer, numbered, text_at, text_step, wrote_line, wrote_lines, wrote_text}
use Rattle.cap_context.specs.{KeptContexts.{kept_wrote, kept_wrote_lines}, Keepings.Keeps}
use Rattle.cap_context.specs.{Registers.{HartRegister, first_hart, first_read, hart_after, is_register, word_at, writes_of}, Writers.{found, hart_next, hart_of, last_of, slots_of, writing_step, written}}

-- nothing was given
found_none : (register : HartRegister) → found register [] ≡ None
unfolding found
found_none register = refl

written_none : (writers : BTreeMap ℕ (Vec Writer)) (register : HartRegister) → writers.entries ≡ [] → written writers register ≡ None
unfolding written
written_none writers register none =
    ap (λ (es : List (ℕ × Vec Writer)). found register (slots_of (option_map_or (λ own. own.items) (lookup (is_at (nat_cmp (number_of register.1))) es) []))) none
    ∙ found_none register

pub nothing_kept : (writers : BTreeMap ℕ (Vec Writer)) (bytes : List ℕ) → writers.entries ≡ [] → bytes ≡ [] → Keeps 0 first_hart (written writers) bytes []
nothing_kept writers bytes none empty =
    subst (λ (b : List ℕ). Keeps 0 first_hart (written writers) b []) (sym empty) (record {
      dropped = [];
      lines = λ more. refl;
      count = refl;
      least = tt;
      hart_is = refl;
      last = λ register is. ap (λ (o : Option Entry). (first_hart, o)) (written_none writers register none);
    })

-- a whole line, and the lines after it, whatever bytes follow
line_by : (same : Bool) (byte : ℕ) (bytes more : List ℕ)
    → (same ≡ false → lines_of (bytes ++ more) ≡ upto 10 bytes ∷ lines_of (past 10 bytes ++ more))
    → cond same ([] ∷ lines_of (bytes ++ more)) (in_first byte (lines_of (bytes ++ more)))
    ≡ cond same [] (byte ∷ upto 10 bytes) ∷ lines_of (cond same bytes (past 10 bytes) ++ more)
line_by true byte bytes more lines = refl
line_by false byte bytes more lines = ap (in_first byte) (lines refl)

shorter : (same : Bool) (byte : ℕ) (line bytes : List ℕ) → length (cond same [] (byte ∷ line)) < length (byte ∷ bytes) → same ≡ false
    → length line < length bytes
shorter true byte line bytes short is = absurd (cc)
shorter false byte line bytes short is = omega (arith, short)

whole_line : (rest more : List ℕ) → length (upto 10 rest) < length rest → lines_of (rest ++ more) ≡ upto 10 rest ∷ lines_of (past 10 rest ++ more)
unfolding lines_of upto past
whole_line [] more short = absurd (omega (arith, short))
whole_line (byte ∷ bytes) more short =
    line_by (eqb byte 10) byte bytes more (λ other. whole_line bytes more (shorter (eqb byte 10) byte (upto 10 bytes) bytes short other))

numbered_line : (at : ℕ) (line : List ℕ) (lines : List (List ℕ)) → numbered at (line ∷ lines) ≡ (at, line) ∷ numbered (at + 1) lines
unfolding numbered
numbered_line at line lines = refl

-- one entry more, of the next number
least_more : (n : ℕ) (entries : List Entry) (text : List ℕ) → AllByRecursion (λ entry. entry.0 ≤ n) entries
    → AllByRecursion (λ entry. entry.0 ≤ n + 1) (entries ++ ((n + 1, text) ∷ []))
least_more n [] text least = (omega arith, tt)
least_more n (entry ∷ entries) text least = let few = least.0 in (omega (arith, few), least_more n entries text least.1)

-- a whole line is dropped
pub line_dropped : (skipped : ℕ) (hart next : List ℕ) (old new : HartRegister → Option Entry) (rest given text more : List ℕ) → text ≡ upto 10 rest → more ≡ past 10 rest
    → length text < length rest → next ≡ hart_after hart text
    → ((other : HartRegister) → is_register other.0 ≡ true → new other ≡ cond (writes_of other hart text) (Some (skipped + 1, text)) (old other))
    → Keeps skipped hart old rest given → Keeps (skipped + 1) next new more given
line_dropped skipped hart next old new rest given text more text_is more_is short next_is wrote kept =
    let entry : Entry = (skipped + 1, text) in
    let first = subst (λ (t : List ℕ). length t < length rest) text_is short in
    record {
      dropped = kept.dropped ++ (entry ∷ []);
      lines = λ after.
          kept.lines after
          ∙ ap (λ (lines : List (List ℕ)). kept.dropped ++ numbered (skipped + 1) lines) (whole_line rest after first)
          ∙ ap (λ (t : List ℕ). kept.dropped ++ numbered (skipped + 1) (t ∷ lines_of (past 10 rest ++ after))) (sym text_is)
          ∙ ap (λ (m : List ℕ). kept.dropped ++ numbered (skipped + 1) (text ∷ lines_of (m ++ after))) (sym more_is)
          ∙ ap (λ (e : List Entry). kept.dropped ++ e) (numbered_line (skipped + 1) text (lines_of (more ++ after)))
          ∙ sym (append_assoc kept.dropped (entry ∷ []) (numbered (skipped + 1 + 1) (lines_of (more ++ after))));
      count = length-append kept.dropped (entry ∷ []) ∙ ap (λ (n : ℕ). n + 1) kept.count;
      least = least_more skipped kept.dropped text kept.least;
      hart_is = next_is ∙ ap (λ (h : List ℕ). hart_after h text) kept.hart_is ∙ sym (fold-append hart_next first_hart kept.dropped (entry ∷ []));
      last = λ other is.
          ap (λ (h : List ℕ). (h, new other)) next_is ∙ ap (λ (o : Option Entry). (hart_after hart text, o)) (wrote other is)
          ∙ ap (λ (l : Last). writing_step other l entry) (kept.last other is)
          ∙ sym (fold-append (writing_step other) (first_hart, None) kept.dropped (entry ∷ []));
    }

-- entries that lie before all that the context of a line shows
abbrev pub Far : ℕ → ℕ → List Entry → Type 0
Far count line entries = AllByRecursion (λ entry. entry.0 + count < line) entries

far_from : (n count line : ℕ) (entries : List Entry) → AllByRecursion (λ entry. entry.0 ≤ n) entries → n + count < line → Far count line entries
far_from n count line [] least less = tt
far_from n count line (entry ∷ entries) least less = let few = least.0 in (omega (arith, few, less), far_from n count line entries least.1 less)

far : (skipped count line : ℕ) (dropped : List Entry) → length dropped ≡ skipped → AllByRecursion (λ entry. entry.0 ≤ skipped) dropped
    → ((skipped ≡ 0) ⊎ (skipped + count < line)) → Far count line dropped
far skipped count line dropped many least (inl none) = subst (Far count line) (sym (nil_from_length dropped (many ∙ none))) tt
far skipped count line dropped many least (inr less) = far_from skipped count line dropped least less

-- none of them is one of the lines before the line
nothing_if : (one other : Bool) (xs : List ℕ) → other ≡ false → cond (one && other) xs [] ≡ []
nothing_if one true xs is = absurd (cc)
nothing_if true false xs is = refl
nothing_if false false xs is = refl

far_before : (count line : ℕ) (entries : List Entry) → Far count line entries → before_lines count line entries ≡ []
far_before count line [] less = refl
far_before count line (entry ∷ entries) less = elim (leb_tells (line - entry.0) count) [
  | inl near ↦ let first = less.0 in let at = near.1 in absurd (omega (arith, first, at))
  | inr not_near ↦ ap (λ (t : List ℕ). t ++ before_lines count line entries)
      (nothing_if (nat_lt entry.0 line) (nat_le (line - entry.0) count)
      (codes "before " ++ decimal entry.0 ++ codes " " ++ entry.1 ++ codes "\n") not_near.0)
      ∙ far_before count line entries less.1
]

-- none of them is the line
far_text : (count line : ℕ) (entries : List Entry) → Far count line entries → text_at line [] entries ≡ []
far_text count line [] less = refl
far_text count line (entry ∷ entries) less = elim (eqb_tells entry.0 line) [
  | inl is ↦ let first = less.0 in let at = is.1 in absurd (omega (arith, first, at))
  | inr other ↦ ap (λ (t : List ℕ). text_at line t entries) (cond-false (eqb entry.0 line) entry.1 [] other.0) ∙ far_text count line entries less.1
]

-- each of them comes before the line
both : (one other : Bool) (x y : Option Entry) → one ≡ true → cond (one && other) x y ≡ cond other x y
both true other x y is = refl
both false other x y is = absurd (cc)

far_hart : (count line : ℕ) (hart : List ℕ) (entries : List Entry) → Far count line entries → hart_at line hart entries ≡ fold hart_next hart entries
far_hart count line hart [] less = refl
far_hart count line hart (entry ∷ entries) less =
    let first = less.0 in
    ap (λ (h : List ℕ). hart_at line h entries)
    (cond-true (nat_lt entry.0 line) (hart_next hart entry) hart (lt-ltb entry.0 line (omega (arith, first))))
    ∙ far_hart count line (hart_next hart entry) entries less.1

far_writer : (register : HartRegister) (count line : ℕ) (last : Last) (entries : List Entry) → Far count line entries
    → last_writer register line last entries ≡ fold (writing_step register) last entries
far_writer register count line last [] less = refl
far_writer register count line last (entry ∷ entries) less =
    let first = less.0 in
    ap (λ (o : Option Entry). last_writer register line (hart_after last.0 entry.1, o) entries)
    (both (nat_lt entry.0 line) (writes_of register last.0 entry.1) (Some entry) last.1 (lt-ltb entry.0 line (omega (arith, first))))
    ∙ far_writer register count line (writing_step register last entry) entries less.1

-- what is kept of the lines, and the lines after those that were dropped
module _ (count line : ℕ) (before : List ℕ) (written : HartRegister → Option Entry) (dropped entries : List Entry) (less : Far count line dropped)
    (before_is : before ≡ hart_of dropped)
    (last : (register : HartRegister) → is_register register.0 ≡ true → (before, written register) ≡ last_of register dropped) where
  before_kept : before_lines count line entries ≡ before_lines count line (dropped ++ entries)
  before_kept =
      sym (flat_map-append (before_text count line) dropped entries
      ∙ ap (λ (t : List ℕ). t ++ before_lines count line entries) (far_before count line dropped less))

  text_kept : text_at line [] entries ≡ text_at line [] (dropped ++ entries)
  text_kept =
      sym (fold-append (text_step line) [] dropped entries ∙ ap (λ (t : List ℕ). text_at line t entries) (far_text count line dropped less))

  hart_same : hart_at line before entries ≡ hart_at line first_hart (dropped ++ entries)
  hart_same =
      ap (λ (h : List ℕ). hart_at line h entries) (before_is ∙ sym (far_hart count line first_hart dropped less))
      ∙ sym (fold-append (hart_step line) first_hart dropped entries)

  writer_kept : (register : HartRegister) → is_register register.0 ≡ true
      → last_writer register line (before, written register) entries ≡ last_writer register line (first_hart, None) (dropped ++ entries)
  writer_kept register is =
      ap (λ (l : Last). last_writer register line l entries) (last register is ∙ sym (far_writer register count line (first_hart, None) dropped less))
      ∙ sym (fold-append (last_step register line) (first_hart, None) dropped entries)

  wrote_by : (is : Bool) (xs ys : List ℕ) → (is ≡ true → xs ≡ ys) → cond is xs [] ≡ cond is ys []
  wrote_by true xs ys same = same refl
  wrote_by false xs ys same = refl

  wrote_kept : (word : List ℕ) → kept_wrote word line before written entries ≡ wrote_text word line (dropped ++ entries)
  wrote_kept word =
      let all = dropped ++ entries in
      let hart = hart_at line before entries in
      wrote_by (is_register word) (wrote_line word (last_writer (word, hart) line (before, written (word, hart)) entries).1)
      (wrote_line word (last_writer (word, hart) line (first_hart, None) all).1) (λ is. ap (λ (l : Last). wrote_line word l.1) (writer_kept (word, hart) is))
      ∙ ap (λ (h : List ℕ). cond (is_register word) (wrote_line word (last_writer (word, h) line (first_hart, None) all).1) []) hart_same

  abbrev Kept : List ℕ → List ℕ
  Kept text =
      let first = first_read text in
      let second = word_at 2 text in
      let third = word_at 3 text in
      kept_wrote first line before written entries
      ++ cond (bytes_eq second first) [] (kept_wrote second line before written entries)
      ++ cond (bytes_eq third first || bytes_eq third second) [] (kept_wrote third line before written entries)

  wrote_all : (text : List ℕ) → (let all = dropped ++ entries in
      let first = first_read text in
      let second = word_at 2 text in
      let third = word_at 3 text in
      Kept text ≡ wrote_text first line all
      ++ cond (bytes_eq second first) [] (wrote_text second line all)
      ++ cond (bytes_eq third first || bytes_eq third second) [] (wrote_text third line all))
  wrote_all text =
      let all = dropped ++ entries in
      let first = first_read text in
      let second = word_at 2 text in
      let third = word_at 3 text in
      let three : List ℕ → List ℕ → List ℕ → List ℕ = λ xs ys zs.
      xs ++ cond (bytes_eq second first) [] ys ++ cond (bytes_eq third first || bytes_eq third second) [] zs in
      ap (λ (t : List ℕ). three t (kept_wrote second line before written entries) (kept_wrote third line before written entries)) (wrote_kept first)
      ∙ ap (λ (t : List ℕ). three (wrote_text first line all) t (kept_wrote third line before written entries)) (wrote_kept second)
      ∙ ap (λ (t : List ℕ). three (wrote_text first line all) (wrote_text second line all) t) (wrote_kept third)

  context_by : before_lines count line entries ++ kept_wrote_lines line before written entries
      ≡ before_lines count line (dropped ++ entries) ++ wrote_lines line (dropped ++ entries)
  context_by =
      let wrote : kept_wrote_lines line before written entries ≡ wrote_lines line (dropped ++ entries) =
      ap Kept text_kept ∙ wrote_all (text_at line [] (dropped ++ entries)) in
      ap (λ (t : List ℕ). t ++ kept_wrote_lines line before written entries) before_kept
      ∙ ap (λ (t : List ℕ). before_lines count line (dropped ++ entries) ++ t) wrote

pub context_kept : (count line skipped : ℕ) (before : List ℕ) (written : HartRegister → Option Entry) (rest given : List ℕ) → Keeps skipped before written rest given
    → ((skipped ≡ 0) ⊎ (skipped + count < line))
    → (let entries = numbered (skipped + 1) (lines_of rest) in
    before_lines count line entries ++ kept_wrote_lines line before written entries
    ≡ before_lines count line (numbered 1 (lines_of given)) ++ wrote_lines line (numbered 1 (lines_of given)))
context_kept count line skipped before written rest given kept less =
    let entries = numbered (skipped + 1) (lines_of rest) in
    let all : numbered 1 (lines_of given) ≡ kept.dropped ++ entries =
    ap (λ (b : List ℕ). numbered 1 (lines_of b)) (sym (append-nil given)) ∙ kept.lines []
    ∙ ap (λ (b : List ℕ). kept.dropped ++ numbered (skipped + 1) (lines_of b)) (append-nil rest) in
    context_by count line before written kept.dropped entries (far skipped count line kept.dropped kept.count kept.least less) kept.hart_is kept.last
    ∙ ap (λ (e : List Entry). before_lines count line e ++ wrote_lines line e) (sym all)

-- a report that refuses no line has no context
pub no_context : (count : ℕ) (given report : List ℕ) (line : Option ℕ) → line ≡ refused_line report → ((n : ℕ) → line ≡ Some n → ⊥)
    → report ≡ report ++ context_of count given report
unfolding context_of
no_context count given report None is none =
    sym (append-nil report) ∙ ap (λ (l : Option ℕ). report ++ context_in count l (numbered 1 (lines_of given))) is
no_context count given report (Some n) is none = absurd (none n refl)

-- the context of the line that is refused, by its parts
pub with_context : (count line skipped : ℕ) (before : List ℕ) (written : HartRegister → Option Entry) (rest given report mid new : List ℕ) → Some line ≡ refused_line report
    → Keeps skipped before written rest given → ((skipped ≡ 0) ⊎ (skipped + count < line))
    → mid ≡ report ++ before_lines count line (numbered (skipped + 1) (lines_of rest))
    → new ≡ mid ++ kept_wrote_lines line before written (numbered (skipped + 1) (lines_of rest)) → new ≡ report ++ context_of count given report
unfolding context_of
with_context count line skipped before written rest given report mid new is kept less mid_is new_is =
    let entries = numbered (skipped + 1) (lines_of rest) in
    new_is ∙ ap (λ (t : List ℕ). t ++ kept_wrote_lines line before written entries) mid_is
    ∙ append_assoc report (before_lines count line entries) (kept_wrote_lines line before written entries)
    ∙ ap (λ (t : List ℕ). report ++ t) (context_kept count line skipped before written rest given kept less)
    ∙ ap (λ (l : Option ℕ). report ++ context_in count l (numbered 1 (lines_of given))) is

pub on_ok : {T E P X : Type 0} (r : Result T E) → (P → X) → OnOk r P → OnOk r X
on_ok (Ok v) f h = f h
on_ok (Err e) f h = tt
