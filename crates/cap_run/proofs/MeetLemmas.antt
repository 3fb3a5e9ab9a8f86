-- Extents that share an address with an interval, where objects are told by their numbers.
use Rattle.std.proofs.Common.{◌≡◌, ◌≢◌, ◌+◌, ◌-◌, ◌<◌, ◌≤◌, ◌&&◌, ◌||◌, not, max, min, nat_lt, ℕ, Bool, true, false, Some, None, Option, inl, inr}
use Rattle.std.proofs.Common.{◌∷◌, [], lt-ltb, refl, sym, ap, ◌∙◌, arith}
use Rattle.std.specs.{Cmp.Derive.both_true, Option.option_map_or}
use Rattle.std.proofs.lemmas.{Bool.{and_parts, cases_Bool, cond-true, cond-false, false≢true, Decides.nat_tests}}
use Rattle.cap_ops.specs.Checks.{first_of}
use Rattle.cap_objects.specs.{Counts.{count_below, is_owner}, declared.objects.Object.Object, Objects.top_of_extent}
use Rattle.cap_objects.specs.Extents.{AreLong, IsFirstMet, Meets, MeetsNone, Objects}
use Rattle.cap_objects.specs.Handed.{HasRoom, RefusesExtent}
use Rattle.cap_objects.specs.Indexes.{IsIndex, number_key}
use Rattle.cap_objects.specs.declared.handouts.HandOutFault.TheVariants as hand
use Rattle.cap_objects.proofs.{BelowLemmas.{below-none, below-where}, KeyLemmas.{is_owner-self, is_owner-true}}
use Rattle.cap_run.specs.declared.{asks.Asks.Asks, ends.RunRefusal.{RunRefusal, TheVariants.{Overlaps, StillHeld}}}
use Rattle.cap_run.specs.{Numbers.by_number, Run.Run, RunChecks.{extent_end, is_freed, is_live, meets, shares}}
use Rattle.cap_run.proofs.NumberLemmas.{at-number, slot-of}

-- sharing an address is meeting an extent of an address
pub shares-where : (base top : ℕ) (o : Object) → o.long ≡ true → o.base ≤ o.last → base < top → Meets base (top - 1) o → shares base top o ≡ true
shares-where base top o long holds some met =
    let end : top_of_extent o ≡ o.last + 1 = cond-true o.long (o.last + 1) o.base long in
    lt-ltb (max base o.base) (min top (top_of_extent o)) (omega (arith, end, holds, some, met.0, met.1))

pub where-shares : (base top : ℕ) (o : Object) → shares base top o ≡ true → (o.long ≡ true) × (base < top) × Meets base (top - 1) o
where-shares base top o is =
    let below : max base o.base < min top (top_of_extent o) = grind (arith, nat_tests, is) in
    elim (cases_Bool o.long) [
      | inl long ↦
          let end : top_of_extent o ≡ o.last + 1 = cond-true o.long (o.last + 1) o.base long in
          (long, omega (arith, below), (omega (arith, below), omega (arith, below, end)))
      | inr short ↦
          let end : top_of_extent o ≡ o.base = cond-false o.long (o.last + 1) o.base short in
          absurd (omega (arith, below, end))
    ]

-- whether the object with a number is met
abbrev met_at : Run → Option ℕ → (Object → Bool) → ℕ → ℕ → ℕ → Bool
met_at run left_out asked base top number =
    not (is_owner number left_out) && option_map_or (λ object. asked object && shares base top object) (run.objects number) false

met_some : (asked : Object → Bool) (base top : ℕ) (found : Option Object)
    → option_map_or (λ object. asked object && shares base top object) found false ≡ true
    → (o : Object) × (found ≡ Some o) × (asked o ≡ true) × (shares base top o ≡ true)
met_some asked base top None is = absurd (false≢true is)
met_some asked base top (Some o) is = let parts = and_parts (asked o) (shares base top o) is in (o, refl, parts.0, parts.1)

not_true : (b : Bool) → not b ≡ true → b ≡ false
not_true true is = absurd (false≢true is)
not_true false is = refl

not_owner : (n : ℕ) (left_out : Option ℕ) → left_out ≢ Some n → not (is_owner n left_out) ≡ true
not_owner n left_out differ = elim (cases_Bool (is_owner n left_out)) [
  | inl it ↦ absurd (differ (is_owner-true n left_out it))
  | inr other ↦ ap not other
]

module _ (run : Run) (left_out : Option ℕ) (asked : Object → Bool) (base top : ℕ) where
  -- an interval meets such extents exactly where it shares an address with that of some number up to the count
  pub meets-where : (n : ℕ) (o : Object) → n ≤ run.count → run.objects n ≡ Some o → left_out ≢ Some n → asked o ≡ true
      → shares base top o ≡ true → meets run left_out asked base top ≡ true
  meets-where n o few there other is_asked share =
      let met : met_at run left_out asked base top n ≡ true =
      both_true (not_owner n left_out other)
      (ap (λ (found : Option Object). option_map_or (λ object. asked object && shares base top object) found false) there
      ∙ both_true is_asked share) in
      lt-ltb 0 (count_below (met_at run left_out asked base top) (run.count + 1))
      (below-where (met_at run left_out asked base top) n (run.count + 1) (omega (arith, few)) met)

  pub where-none : ((n : ℕ) (o : Object) → run.objects n ≡ Some o → left_out ≢ Some n → asked o ≡ true → shares base top o ≡ true → ⊥)
      → meets run left_out asked base top ≡ false
  where-none none =
      ap (nat_lt 0) (below-none (met_at run left_out asked base top) (run.count + 1) (λ n. elim (cases_Bool (met_at run left_out asked base top n)) [
        | inl met ↦
            let parts = and_parts (not (is_owner n left_out)) _ met in
            let o = met_some asked base top (run.objects n) parts.1 in
            absurd (none n o.0 o.1 (λ is. false≢true (sym (not_true (is_owner n left_out) parts.0) ∙ is_owner-self n left_out is)) o.2 o.3)
        | inr not_met ↦ not_met
      ]))

-- a freed object, or a live one, is compared
compared_freed : (keeps long freed : Bool) → keeps ≡ true → long ≡ true → (long && (keeps || not freed)) ≡ true
compared_freed true true freed kept is = refl
compared_freed true false freed kept is = absurd (false≢true is)
compared_freed false long freed kept is = absurd (false≢true kept)

compared_live : (keeps long freed : Bool) → not freed ≡ true → long ≡ true → (long && (keeps || not freed)) ≡ true
compared_live true true freed live is = refl
compared_live false true true live is = absurd (false≢true live)
compared_live false true false live is = refl
compared_live keeps false freed live is = absurd (false≢true is)

freed_kept : (keeps long freed : Bool) → (long && (keeps || not freed)) ≡ true → freed ≡ true → keeps ≡ true
freed_kept true long freed is gone = refl
freed_kept false true true is gone = absurd (false≢true is)
freed_kept false true false is gone = absurd (false≢true gone)
freed_kept false false freed is gone = absurd (false≢true is)

-- the first of two checks that fails
pub no_check : (a b : Bool) (x y : RunRefusal) → a ≡ false → b ≡ false → first_of ((a, x) ∷ (b, y) ∷ []) ≡ None
no_check false false x y is is2 = refl
no_check true b x y is is2 = absurd (false≢true (sym is))
no_check false true x y is is2 = absurd (false≢true (sym is2))

pub first_check : (a b : Bool) (x y : RunRefusal) → a ≡ true → first_of ((a, x) ∷ (b, y) ∷ []) ≡ Some x
first_check true b x y is = refl
first_check false b x y is = absurd (false≢true is)

pub second_check : (a b : Bool) (x y : RunRefusal) → a ≡ false → b ≡ true → first_of ((a, x) ∷ (b, y) ∷ []) ≡ Some y
second_check false true x y is is2 = refl
second_check true b x y is is2 = absurd (false≢true (sym is))
second_check false false x y is is2 = absurd (false≢true is2)

module _ (run : Run) (objects : Objects) (index : ℕ → Option ℕ) (known : IsIndex number_key objects index)
    (objects_are : run.objects ≡ by_number index objects) (few : (slot : ℕ) (o : Object) → objects slot ≡ Some o → o.number ≤ run.count)
    (long : AreLong objects) (asks : Asks) (left_slot left_number : Option ℕ)
    (to_slot : (slot : ℕ) (o : Object) → objects slot ≡ Some o → left_number ≡ Some o.number → left_slot ≡ Some slot)
    (of_slot : (slot : ℕ) (o : Object) → objects slot ≡ Some o → left_slot ≡ Some slot → left_number ≡ Some o.number) (base top : ℕ) where
  met_in : (asked : Object → Bool) (slot : ℕ) (o : Object) → objects slot ≡ Some o → left_slot ≢ Some slot → asked o ≡ true → o.long ≡ true
      → base < top → Meets base (top - 1) o → meets run left_number asked base top ≡ true
  met_in asked slot o there other is_asked is_long some met =
      meets-where run left_number asked base top o.number o (few slot o there)
      (ap (λ (f : Objects). f o.number) objects_are ∙ at-number objects index known slot o there)
      (λ is. other (to_slot slot o there is)) is_asked (shares-where base top o is_long (long slot o there is_long) some met)

  none_in : (asked : Object → Bool)
      → ((slot : ℕ) (o : Object) → objects slot ≡ Some o → left_slot ≢ Some slot → asked o ≡ true → o.long ≡ true → base < top
      → Meets base (top - 1) o → ⊥)
      → meets run left_number asked base top ≡ false
  none_in asked none = where-none run left_number asked base top (λ n o there other is_asked share.
      let at = slot-of objects index known n o (ap (λ (f : Objects). f n) (sym objects_are) ∙ there) in
      let met = where-shares base top o share in
      none at.0 o at.1 (λ is. other (of_slot at.0 o at.1 is ∙ ap Some at.2)) is_asked met.0 met.1 met.2)

  -- no live object's extent is met, or that of one in a slot
  pub no-live-met : (base < top → MeetsNone asks.held left_slot true objects base (top - 1)) → meets run left_number is_live base top ≡ false
  no-live-met none = none_in is_live (λ slot o there other live is_long some met. none some slot o there (record {
    compared = compared_live asks.held o.long o.freed live is_long;
    other = other;
    lives = λ asked. not_true o.freed live;
  }) met)

  pub live-met : (slot : ℕ) → base < top → IsFirstMet asks.held left_slot true objects base (top - 1) slot
      → meets run left_number is_live base top ≡ true
  live-met slot some it =
      met_in is_live slot it.object it.there it.asked.other (ap not (it.asked.lives refl))
      (and_parts it.object.long (asks.held || not it.object.freed) it.asked.compared).0 some it.meets

  no_freed : HasRoom asks.held left_slot objects base top → (asks.held && meets run left_number is_freed base top) ≡ false
  no_freed room = elim (cases_Bool asks.held) [
    | inl keeps ↦ ap (λ (b : Bool). b && meets run left_number is_freed base top) keeps
        ∙ none_in is_freed (λ slot o there other freed is_long some met. room some slot o there (record {
          compared = compared_freed asks.held o.long o.freed keeps is_long;
          other = other;
          lives = λ asked. absurd (false≢true asked);
        }) met)
    | inr not_kept ↦ ap (λ (b : Bool). b && meets run left_number is_freed base top) not_kept
  ]

  room_live : HasRoom asks.held left_slot objects base top → base < top → MeetsNone asks.held left_slot true objects base (top - 1)
  room_live room some slot o there asked met =
      room some slot o there (record { compared = asked.compared; other = asked.other; lives = λ e. absurd (false≢true e) }) met

  pub extent-room : HasRoom asks.held left_slot objects base top → extent_end asks run left_number base top ≡ None
  extent-room room = no_check (meets run left_number is_live base top) (asks.held && meets run left_number is_freed base top) Overlaps StillHeld
      (no-live-met (room_live room)) (no_freed room)

  pub extent-overlaps : (slot : ℕ) → RefusesExtent asks.held left_slot objects base top (hand.Overlaps slot)
      → extent_end asks run left_number base top ≡ Some Overlaps
  extent-overlaps slot refuses =
      first_check (meets run left_number is_live base top) (asks.held && meets run left_number is_freed base top) Overlaps StillHeld
      (live-met slot refuses.0 refuses.1)

  pub extent-held : (slot : ℕ) → RefusesExtent asks.held left_slot objects base top (hand.StillHeld slot)
      → extent_end asks run left_number base top ≡ Some StillHeld
  extent-held slot refuses =
      let it = refuses.2 in
      let is_long = (and_parts it.object.long (asks.held || not it.object.freed) it.asked.compared).0 in
      let freed : it.object.freed ≡ true = elim (cases_Bool it.object.freed) [
        | inl gone ↦ gone
        | inr live ↦ absurd (refuses.1 slot it.object it.there
            (record { compared = it.asked.compared; other = it.asked.other; lives = λ asked. live }) it.meets)
      ] in
      let keeps = freed_kept asks.held it.object.long it.object.freed it.asked.compared freed in
      second_check (meets run left_number is_live base top) (asks.held && meets run left_number is_freed base top) Overlaps StillHeld
      (no-live-met (λ some. refuses.1))
      (both_true keeps (met_in is_freed slot it.object it.there it.asked.other freed is_long refuses.0 it.meets))
