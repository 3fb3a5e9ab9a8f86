-- A state whose tagged capabilities are sound stays such a state.
use Rattle.std.specs.FinMap as map
use Rattle.std.proofs.Common.{[], ◌≡◌, ℕ, ◌<◌, ◌^◌, ◌==◌, Bool, true, false, not, ◌&&◌, eqb, refl, arith, List}
use Rattle.std.proofs.Common.{length, sym, ap, subst, ◌∙◌, if◌then◌else◌, set, length-set, get_or-set_other, eqb-true}
use Rattle.std.proofs.{Math.Bool.beq, lemmas.Bool.{false≢true, and_parts, not-false}}
use Rattle.cap_word.specs.{declared.word.{Cap.Cap, Word.Word}, Memory.memory_of}
use Rattle.cap_word.proofs.Bytes.{stored_word-memory_of}
use Rattle.cap_bounds.specs.Bounds.{IsSound}
use Rattle.cap_log.specs.Ranges.{IsTarget}
use Rattle.tagmem.specs.Granules.{Granules, Entry}
use Rattle.cap_machine.specs.{Helds.IsKept, Parents.{IsSoundCap, IsSoundState}, Places.{AreCoded, IsCoded, codes_of}}
use Rattle.cap_machine.specs.{Places.places_of, States.{State, put, start, granule_key, untagged_null}}
use Rattle.cap_machine.proofs.{CodeLemmas.coded_put, GranuleLemmas.cap_of}
use Rattle.cap_machine.proofs.StateLemmas.{codes-granule, codes-register, state-register, state-granule}

either : (b : Bool) (x y : Cap) → IsSoundCap x → IsSoundCap y → IsSoundCap (if b then x else y)
either true x y h k = h
either false x y h k = k

-- a write of a sound capability
pub IsSoundState-put : (state : State) (key : ℕ) (cap : Cap) → IsSoundState state → IsSoundCap cap → IsSoundState (put state key cap)
IsSoundState-put state key cap all one other = either (key == other) cap (state other) one (all other)

-- NULL without a tag everywhere
pub IsSoundState-start : (state : State) → ((key : ℕ) → state key ≡ start [] key) → IsSoundState state
IsSoundState-start state empty key held = absurd (false≢true (sym (ap (λ (cap : Cap). cap.tag) (empty key)) ∙ held))

-- a capability as its granule keeps it
pub sound_entry : (cap : Cap) (code : ℕ) → cap.word.0 < 2 ^ 128 → IsSoundCap cap → IsSoundCap (cap_of (cap.tag, memory_of cap.word.0, code))
sound_entry cap code fits one held = subst IsSound (sym (stored_word-memory_of cap.word.0 fits)) (one held)

-- what has no tag
pub untagged_sound : (word : Word) → IsSoundCap (record { tag = false; word = word })
untagged_sound word held = absurd (false≢true held)

-- what is true of every machine stays true where a register holds another capability, with its code
pub kept_register : (registers : List Cap) (codes : List ℕ) (memory : Granules) (target : ℕ) (cap : Cap) (code : ℕ)
    → IsKept registers codes memory → length codes ≡ 32 → IsTarget target → IsSoundCap cap → IsCoded cap.tag code
    → IsKept (set registers target cap) (set codes target code) memory
kept_register registers codes memory target cap code kept sized low sound coded =
    let state = state-register registers memory target cap kept.sized low.1 in
    record {
      sized = length-set registers target cap ∙ kept.sized;
      zero =
          get_or-set_other registers target 0 cap untagged_null (λ e. let same : 0 ≡ target = e in omega (arith, low.0)) ∙ kept.zero;
      sound = subst IsSoundState (sym state) (IsSoundState-put (places_of registers memory) target cap kept.sound sound);
      coded = subst (λ (s : State). AreCoded s (codes_of (set codes target code) memory)) (sym state)
          (subst (AreCoded (put (places_of registers memory) target cap)) (sym (codes-register codes memory target code sized low.1))
          (coded_put (places_of registers memory) (codes_of codes memory) target cap code kept.coded coded));
    }

-- and where a granule holds another entry
pub kept_granule : (registers : List Cap) (codes : List ℕ) (memory : Granules) (granule : ℕ) (entry : Entry)
    → IsKept registers codes memory → IsSoundCap (cap_of entry) → IsCoded entry.0 entry.2
    → IsKept registers codes (map.insert memory granule entry)
kept_granule registers codes memory granule entry kept sound coded =
    let state = state-granule registers memory granule entry in
    let after = put (places_of registers memory) (granule_key granule) (cap_of entry) in
    record {
      sized = kept.sized;
      zero = kept.zero;
      sound = subst IsSoundState (sym state)
          (IsSoundState-put (places_of registers memory) (granule_key granule) (cap_of entry) kept.sound sound);
      coded = subst (λ (s : State). AreCoded s (codes_of codes (map.insert memory granule entry))) (sym state)
          (subst (AreCoded after) (sym (codes-granule codes memory granule entry))
          (coded_put (places_of registers memory) (codes_of codes memory) (granule_key granule) (cap_of entry) entry.2 kept.coded coded));
    }

beq_true : (a b : Bool) → beq a b ≡ true → a ≡ b
beq_true true true same = refl
beq_true true false same = cc
beq_true false true same = cc
beq_true false false same = refl

-- capabilities whose tags and words are alike are one
same_caps : (a b : Cap) → a.tag ≡ b.tag → a.word.0 ≡ b.word.0 → a ≡ b
same_caps a b tag word =
    ap (λ (t : Bool). record { tag = t; word = a.word }) tag ∙ ap (λ (n : ℕ). record { tag = b.tag; word = record { 0 = n } }) word

-- a comparison that finds no difference
pub equal_caps : (a b : Cap) → not (beq a.tag b.tag && eqb a.word.0 b.word.0) ≡ false → a ≡ b
equal_caps a b same =
    let both = and_parts (beq a.tag b.tag) (eqb a.word.0 b.word.0) (not-false (beq a.tag b.tag && eqb a.word.0 b.word.0) same) in
    same_caps a b (beq_true a.tag b.tag both.0) (eqb-true a.word.0 b.word.0 both.1)
