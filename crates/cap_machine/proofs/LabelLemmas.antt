-- A machine after a capability with a label was put.
use Rattle.std.proofs.Common.{◌≡◌, ℕ, ◌+◌, ◌^◌, ◌<◌, Bool, true, false, List, length, nat_lt, ap, refl, sym, subst, Some, Result, Ok, Err, OnOk, ◌∙◌, arith, inl, inr, lit<, lt-ltb}
use Rattle.std.proofs.lemmas.{Bool.{cases_lt, cond-true, false≢true}, List.get_or_past}
use Rattle.cap_word.specs.{declared.word.{Cap.Cap, Word.Word}, Memory.memory_of}
use Rattle.cap_word.proofs.Bytes.{stored_word-memory_of}
use Rattle.cap_log.specs.{declared.lines.Place.{Place, TheVariants.{Register, Granule}}, Lines.IsPlace}
use Rattle.tagmem.specs.Granules.{Granules}
use Rattle.cap_machine.specs.{Parents.IsSoundCap, Places.{IsCoded, codes_of, places_of}, RegisterCaps.{cap_by, label_by}, States.untagged_null}
use Rattle.cap_machine.specs.{Accounts.Account, Changes.{AnswersPut, with_cap_put}, declared.ends.StepEnd.StepEnd, Helds.{Held, IsKept, account_of}}
use Rattle.cap_machine.specs.{Labels.{filled, placed_with, with_labelled_root}, States.tagged}
use Rattle.cap_machine.proofs.CodeLemmas.{account-granule, account-register}

pub filled-put : (old : Held) (granule : ℕ) (cap : Cap) (label : ℕ) → cap.word.0 < 2 ^ 128
    → account_of (with_cap_put old granule cap label) ≡ filled (account_of old) granule cap label
filled-put old granule cap label fits =
    ap (λ (a : Account). record a { steps = a.steps + 1 }) (account-granule old granule (cap.tag, memory_of cap.word.0, label) cap _
    (ap (λ (n : ℕ). let c : Cap = record { tag = cap.tag; word = record { 0 = n } } in c) (stored_word-memory_of cap.word.0 fits)) refl)

pub rooted-with : (old : Held) (place : Place) (word : Word) (label : ℕ) → length old.registers ≡ 32 → length old.codes ≡ 32 → IsPlace place
    → word.0 < 2 ^ 128
    → account_of (let after = placed_with old place word label in record after { roots = after.roots + 1 })
    ≡ with_labelled_root (account_of old) place word label
rooted-with old (Register n) word label sized coded_so range fits =
    ap (λ (a : Account). record a { roots = a.roots + 1 }) (account-register old n (tagged word) label _ sized coded_so range.1 refl)
rooted-with old (Granule g) word label sized coded_so range fits =
    ap (λ (a : Account). record a { roots = a.roots + 1 }) (account-granule old g (true, memory_of word.0, label) _ _
    (ap (λ (n : ℕ). tagged (record { 0 = n })) (stored_word-memory_of word.0 fits)) refl)

pub filled-answer : (old new : Held) (granule : ℕ) (cap : Cap) (label : ℕ) (result : Result (Unit {0}) StepEnd) → cap.word.0 < 2 ^ 128
    → AnswersPut old granule (with_cap_put old granule cap label) result new → OnOk result (account_of new ≡ filled (account_of old) granule cap label)
filled-answer old new granule cap label (Ok done) fits put_is = ap account_of put_is.1 ∙ filled-put old granule cap label fits
filled-answer old new granule cap label (Err end) fits put_is = tt

-- NULL without a tag is sound, and has the label 0
pub sound_null : (cap : Cap) → cap ≡ untagged_null → IsSoundCap cap
sound_null cap is tagged = absurd (false≢true (sym (ap (λ (c : Cap). c.tag) is) ∙ tagged))

pub coded_null : (cap : Cap) (label : ℕ) → cap ≡ untagged_null → label ≡ 0 → IsCoded cap.tag label
coded_null cap label is none =
    subst (λ (c : Cap). IsCoded c.tag label) (sym is) (subst (IsCoded false) (sym none) ((λ _. refl, λ _. refl), lit< tt))

-- a machine's registers are sound, and their labels are coded
module _ (registers : List Cap) (codes : List ℕ) (memory : Granules) (kept : IsKept registers codes memory) where
  pub register-sound : (number : ℕ) → IsSoundCap (cap_by registers number)
  register-sound number = elim (cases_lt number 32) [
    | inl low ↦ subst IsSoundCap (cond-true (nat_lt number 32) (cap_by registers number) _ (lt-ltb number 32 low)) (kept.sound number)
    | inr high ↦ sound_null _ (let sized = kept.sized in get_or_past registers number untagged_null (omega (arith, sized, high)))
  ]

  pub register-coded : (number : ℕ) → number < 32 → IsCoded (cap_by registers number).tag (label_by codes number)
  register-coded number low =
      subst (λ (c : Cap). IsCoded c.tag (label_by codes number)) (cond-true (nat_lt number 32) (cap_by registers number) _ (lt-ltb number 32 low))
      (subst (IsCoded (places_of registers memory number).tag) (cond-true (nat_lt number 32) (label_by codes number) _ (lt-ltb number 32 low)) (kept.coded number))
