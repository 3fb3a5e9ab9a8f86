-- The last lines that wrote registers.
use Rattle.std.proofs.Common.{◌≡◌, ◌≢◌, ℕ, ◌+◌, Bool, ◌||◌, true, false, cond, List, [], ◌∷◌, ◌++◌, set, get_or, bytes_eq}
use Rattle.std.proofs.Common.{Option, Some, None, inl, inr, option_map, refl, sym, ap, subst, ◌∙◌, suc, arith, ◌<◌, ◌&&◌, codes, length}
use Rattle.std.proofs.lemmas.{Bool.{false≢true, Decides.eqb_tells}, List.{get_or-map, map-append, map-set}, Slice.Eq.bytes_eq-Decides}
use Rattle.cap_context.specs.declared.writers.{Line.Line, Writer.Writer}
use Rattle.cap_context.specs.{Contexts.{Entry, number_of}, Registers.{HartRegister, is_register, word_at, writes, writes_first, writes_of}, Writers.{Slot, found, is_same, place_in, slot_of, slots_of}}

-- of two choices that aren't made both, either comes first
swap : {A : Type 0} (one other : Bool) (x y z : A) → (one ≡ true → other ≡ true → ⊥) → cond other y (cond one x z) ≡ cond one x (cond other y z)
swap true true x y z apart = absurd (apart refl refl)
swap true false x y z apart = refl
swap false other x y z apart = refl

-- a choice that is made twice
twice : {A : Type 0} (one : Bool) (x y z : A) → cond one x z ≡ cond one x (cond one y z)
twice true x y z = refl
twice false x y z = refl

-- what a test of two tells
both_are : (one other : Bool) → (one && other) ≡ true → (one ≡ true) × (other ≡ true)
both_are true true is = (refl, refl)
both_are true false is = absurd (cc)
both_are false other is = absurd (cc)

equal_of : (xs ys : HartRegister) → is_same xs ys ≡ true → xs ≡ ys
equal_of xs ys is =
    let both = both_are (bytes_eq xs.0 ys.0) (bytes_eq xs.1 ys.1) is in
    ap (λ (r : List ℕ). (r, xs.1)) ((bytes_eq-Decides xs.0 ys.0).0 both.0) ∙ ap (λ (h : List ℕ). (ys.0, h)) ((bytes_eq-Decides xs.1 ys.1).0 both.1)

one_is : (one other : Bool) → one ≡ true → other ≡ true → (one && other) ≡ true
one_is true other is also = also
one_is false other is also = is

unlike_of : (xs ys : HartRegister) → is_same xs ys ≡ false → xs ≢ ys
unlike_of xs ys is = λ same.
    let register = (bytes_eq-Decides xs.0 ys.0).1 (ap (λ (r : HartRegister). r.0) same) in
    let hart = (bytes_eq-Decides xs.1 ys.1).1 (ap (λ (r : HartRegister). r.1) same) in
    false≢true (sym is ∙ one_is (bytes_eq xs.0 ys.0) (bytes_eq xs.1 ys.1) register hart)

-- one that is two others
one_text : (other register known : HartRegister) → register ≢ known → is_same other register ≡ true → is_same other known ≡ true → ⊥
one_text other register known differ is also = differ (sym (equal_of other register is) ∙ equal_of other known also)

-- a place behind the first
behind : (place : Option ℕ) (n : ℕ) → option_map (λ p. 1 + p) place ≡ Some n → (p : ℕ) × (place ≡ Some p) × (n ≡ suc p)
behind None n is = absurd (cc)
behind (Some p) n is = let at : n ≡ 1 + p = cc in (p, refl, omega (arith, at))

no_place : (place : Option ℕ) → option_map (λ p. 1 + p) place ≡ None → place ≡ None
no_place None is = refl
no_place (Some p) is = absurd (cc)

-- a line is kept at the place of its register
module _ (other register : HartRegister) (entry : Entry) (slot : Slot) (slots : List Slot) (d : Slot)
    (more : (p : ℕ) → place_in register slots ≡ Some p
    → found other (set slots p ((get_or slots p d).0, entry)) ≡ cond (is_same other register) (Some entry) (found other slots)) where
  abbrev Kept : ℕ → Type 0
  Kept place =
      found other (set (slot ∷ slots) place ((get_or (slot ∷ slots) place d).0, entry))
      ≡ cond (is_same other register) (Some entry) (cond (is_same other slot.0) (Some slot.1) (found other slots))

  found_at : (same : Bool) (place : ℕ) → (same ≡ true → register ≡ slot.0) → (same ≡ false → register ≢ slot.0)
      → cond same (Some 0) (option_map (λ p. 1 + p) (place_in register slots)) ≡ Some place → Kept place
  unfolding found
  found_at true place same differ is =
      let zero_is : place ≡ 0 = cc in
      subst Kept (sym zero_is) (subst (λ (r : HartRegister). cond (is_same other slot.0) (Some entry) (found other slots)
      ≡ cond (is_same other r) (Some entry) (cond (is_same other slot.0) (Some slot.1) (found other slots))) (sym (same refl))
      (twice (is_same other slot.0) (Some entry) (Some slot.1) (found other slots)))
  found_at false place same differ is =
      let next = behind (place_in register slots) place is in
      subst Kept (sym next.2) (
      ap (λ (o : Option Entry). cond (is_same other slot.0) (Some slot.1) o) (more next.0 next.1)
      ∙ swap (is_same other register) (is_same other slot.0) (Some entry) (Some slot.1) (found other slots) (one_text other register slot.0 (differ refl))
      )

pub found_set : (register other : HartRegister) (entry : Entry) (slots : List Slot) (place : ℕ) (d : Slot) → place_in register slots ≡ Some place
    → found other (set slots place ((get_or slots place d).0, entry)) ≡ cond (is_same other register) (Some entry) (found other slots)
unfolding found place_in
found_set register other entry [] place d is = absurd (cc)
found_set register other entry (slot ∷ slots) place d is =
    found_at other register entry slot slots d (λ p at. found_set register other entry slots p d at) (is_same register slot.0) place
    (equal_of register slot.0) (unlike_of register slot.0) is

-- a line is kept for a register that has no place
found_last : (same : Bool) (other register : HartRegister) (entry : Entry) (slot : Slot) (slots : List Slot) → (same ≡ false → register ≢ slot.0)
    → cond same (Some 0) (option_map (λ p. 1 + p) (place_in register slots)) ≡ None
    → (place_in register slots ≡ None → found other (slots ++ ((register, entry) ∷ [])) ≡ cond (is_same other register) (Some entry) (found other slots))
    → cond (is_same other slot.0) (Some slot.1) (found other (slots ++ ((register, entry) ∷ [])))
    ≡ cond (is_same other register) (Some entry) (cond (is_same other slot.0) (Some slot.1) (found other slots))
found_last true other register entry slot slots differ is more = absurd (cc)
found_last false other register entry slot slots differ is more =
    ap (λ (o : Option Entry). cond (is_same other slot.0) (Some slot.1) o) (more (no_place (place_in register slots) is))
    ∙ swap (is_same other register) (is_same other slot.0) (Some entry) (Some slot.1) (found other slots) (one_text other register slot.0 (differ refl))

pub found_new : (register other : HartRegister) (entry : Entry) (slots : List Slot) → place_in register slots ≡ None
    → found other (slots ++ ((register, entry) ∷ [])) ≡ cond (is_same other register) (Some entry) (found other slots)
unfolding found place_in
found_new register other entry [] is = refl
found_new register other entry (slot ∷ slots) is =
    found_last (is_same register slot.0) other register entry slot slots (unlike_of register slot.0) is (found_new register other entry slots)

-- a choice that isn't taken
not_taken : {A : Type 0} (one : Bool) (x y : A) → (one ≡ true → ⊥) → y ≡ cond one x y
not_taken true x y other = absurd (other refl)
not_taken false x y other = refl

-- a word that is no register isn't one
pub no_register : {A : Type 0} (other : HartRegister) (word hart : List ℕ) (x y : A) → is_register other.0 ≡ true → is_register word ≡ false
    → y ≡ cond (is_same other (word, hart)) x y
no_register other word hart x y is none =
    not_taken (is_same other (word, hart)) x y (λ same.
    false≢true (sym none ∙ ap (λ (r : HartRegister). is_register r.0) (sym (equal_of other (word, hart) same)) ∙ is))

-- two choices in a row are one
pub either : {A : Type 0} (one other : Bool) (x y : A) → cond other x (cond one x y) ≡ cond (one || other) x y
either true true x y = refl
either true false x y = refl
either false true x y = refl
either false false x y = refl

-- a line is kept in the place of its register, or in a new one
pub kept_at : (register other : HartRegister) (writers : List Writer) (place : ℕ) (old : Writer) (line : Line)
    → Some place ≡ place_in register (slots_of writers) → place < length writers → old ≡ get_or writers place old
    → found other (slots_of (set writers place (record { register = old.register; hart = old.hart; line = line })))
    ≡ cond (is_same other register) (Some (line.number, line.text.items)) (found other (slots_of writers))
kept_at register other writers place old line is inside old_is =
    let d : Slot = (([], []), (0, [])) in
    let entry : Entry = (line.number, line.text.items) in
    let new : Writer = record { register = old.register; hart = old.hart; line = line } in
    let register_is : (slot_of old).0 ≡ (get_or (slots_of writers) place d).0 =
    ap (λ (s : Slot). s.0) (ap slot_of old_is ∙ sym (get_or-map slot_of writers place old d inside)) in
    ap (found other) (map-set slot_of writers place new ∙ ap (λ (r : HartRegister). set (slots_of writers) place (r, entry)) register_is)
    ∙ found_set register other entry (slots_of writers) place d (sym is)

pub kept_new : (register other : HartRegister) (writers : List Writer) (writer : Writer) → None ≡ place_in register (slots_of writers)
    → writer.register.items ≡ register.0 → writer.hart.items ≡ register.1 → found other (slots_of (writers ++ (writer ∷ [])))
    ≡ cond (is_same other register) (Some (writer.line.number, writer.line.text.items)) (found other (slots_of writers))
kept_new register other writers writer none same whose =
    let entry : Entry = (writer.line.number, writer.line.text.items) in
    ap (found other) (map-append slot_of writers (writer ∷ []) ∙ ap (λ (r : List ℕ). slots_of writers ++ (((r, writer.hart.items), entry) ∷ [])) same
    ∙ ap (λ (h : List ℕ). slots_of writers ++ (((register.0, h), entry) ∷ [])) whose)
    ∙ found_new register other entry (slots_of writers) (sym none)

-- what an exchange writes
chosen : (invoke first exchange a b c hart : Bool) → invoke ≡ false → first ≡ true → exchange ≡ true
    → ((a && hart) || (b && hart)) ≡ (cond invoke c (cond first (a || (exchange && b)) false) && hart)
chosen true first exchange a b c hart is taken also = absurd (cc)
chosen false false exchange a b c hart is taken also = absurd (cc)
chosen false true false a b c hart is taken also = absurd (cc)
chosen false true true false b c hart is taken also = refl
chosen false true true true b c true is taken also = refl
chosen false true true true true c false is taken also = refl
chosen false true true true false c false is taken also = refl

pub noted : (other : HartRegister) (hart text one three : List ℕ) (entry : Entry) (old mid new : Option Entry) → one ≡ word_at 1 text → three ≡ word_at 3 text
    → bytes_eq (word_at 0 text) (codes "invoke") ≡ false → writes_first text ≡ true → bytes_eq (word_at 0 text) (codes "exchange") ≡ true
    → mid ≡ cond (is_same other (one, hart)) (Some entry) old → new ≡ cond (is_same other (three, hart)) (Some entry) mid
    → new ≡ cond (writes_of other hart text) (Some entry) old
noted other hart text one three entry old mid new one_is three_is invoke first exchange mid_is new_is =
    new_is ∙ ap (λ (o : Option Entry). cond (is_same other (three, hart)) (Some entry) o) mid_is
    ∙ either (is_same other (one, hart)) (is_same other (three, hart)) (Some entry) old
    ∙ ap (λ (w : List ℕ). cond (is_same other (w, hart) || is_same other (three, hart)) (Some entry) old) one_is
    ∙ ap (λ (w : List ℕ). cond (is_same other (word_at 1 text, hart) || is_same other (w, hart)) (Some entry) old) three_is
    ∙ ap (λ (b : Bool). cond b (Some entry) old)
    (chosen (bytes_eq (word_at 0 text) (codes "invoke")) (writes_first text) (bytes_eq (word_at 0 text) (codes "exchange"))
    (bytes_eq other.0 (word_at 1 text)) (bytes_eq other.0 (word_at 3 text)) (bytes_eq other.0 (codes "scr0") || bytes_eq other.0 (codes "c31"))
    (bytes_eq other.1 hart) invoke first exchange)

-- a line is kept by the number of its hart
pub kept_by_number : (other : HartRegister) (hart text : List ℕ) (entry : Entry) (number : ℕ) (old mid new : ℕ → List Writer) (own : List Writer)
    → number ≡ number_of hart → ((n : ℕ) → n ≢ number → mid n ≡ old n) → new number ≡ own → ((n : ℕ) → n ≢ number → new n ≡ mid n)
    → found other (slots_of own) ≡ cond (writes_of other hart text) (Some entry) (found other (slots_of (old number)))
    → found other (slots_of (new (number_of other.1)))
    ≡ cond (writes_of other hart text) (Some entry) (found other (slots_of (old (number_of other.1))))
kept_by_number other hart text entry number old mid new own number_is taken own_is put noted_is =
    let at = number_of other.1 in
    elim (eqb_tells at number) [
      | inl is ↦ ap (λ (n : ℕ). found other (slots_of (new n))) is.1 ∙ ap (λ (w : List Writer). found other (slots_of w)) own_is ∙ noted_is
          ∙ ap (λ (n : ℕ). cond (writes_of other hart text) (Some entry) (found other (slots_of (old n)))) (sym is.1)
      | inr apart ↦ ap (λ (w : List Writer). found other (slots_of w)) (put at apart.1 ∙ taken at apart.1)
          ∙ not_taken (writes_of other hart text) (Some entry) (found other (slots_of (old at))) (λ is.
          let same = (both_are (writes other.0 text) (bytes_eq other.1 hart) is).1 in
          apart.1 (ap number_of ((bytes_eq-Decides other.1 hart).0 same) ∙ sym number_is))
    ]
