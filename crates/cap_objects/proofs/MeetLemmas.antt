-- Looking for the extents that share an address with an interval.
use Rattle.std.proofs.Common.{◌≡◌, ◌≢◌, ◌<◌, ◌≤◌, ◌+◌, ◌⊎◌, ◌&&◌, not, ℕ, Bool, true, false, Some, None, Option, inl, inr}
use Rattle.std.proofs.Common.{IsSome, refl, sym, ap, subst, ◌∙◌, arith}
use Rattle.std.proofs.lemmas.{Bool.{cases_lt, false≢true, Decides.eqb_tells, and_parts}, Option.{none-some, same_Some}}
use Rattle.cap_objects.specs.{declared.objects.Object.Object, Counts.is_owner, Extents.{IsAsked, IsFirstMet, Meets, MeetsNone, Objects, is_compared}}
use Rattle.cap_objects.specs.{Handed.{AreKept, IsLive, IsNextNumber}, Indexes.{IsFirstFrom, IsFirstWithin, IsLastAtOrBelow}}
use Rattle.cap_objects.proofs.{KeptLemmas.{at_base, at_number, base_at, compared_long, number_at}, KeyLemmas.is_owner-self}

pub to_some : {A : Type 0} (o : Option A) (x : A) → o ≡ Some x → IsSome o
to_some o x is = subst IsSome (sym is) refl

not_true : (b : Bool) → not b ≡ true → b ≡ false
not_true true is = absurd (false≢true is)
not_true false is = refl

lives_by : (live freed : Bool) → not (live && freed) ≡ true → live ≡ true → freed ≡ false
lives_by true true is asked = absurd (false≢true is)
lives_by true false is asked = refl
lives_by false freed is asked = absurd (false≢true asked)

lives_back : (live freed : Bool) → (live ≡ true → freed ≡ false) → not (live && freed) ≡ true
lives_back true true lives = absurd (false≢true (sym (lives refl)))
lives_back true false lives = refl
lives_back false freed lives = refl

is_asked-back : (slot : ℕ) (left_out : Option ℕ) (live freed : Bool) → left_out ≢ Some slot → (live ≡ true → freed ≡ false)
    → (not (is_owner slot left_out) && not (live && freed)) ≡ true
is_asked-back slot None live freed other lives = lives_back live freed lives
is_asked-back slot (Some x) live freed other lives = elim (eqb_tells slot x) [
  | inl same ↦ absurd (other (ap Some (sym same.1)))
  | inr unlike ↦ subst (λ (b : Bool). (not b && not (live && freed)) ≡ true) (sym unlike.0) (lives_back live freed lives)
]

pub asked_of : (keeps : Bool) (left_out : Option ℕ) (live : Bool) (slot : ℕ) (o : Object) → is_compared keeps o ≡ true
    → (not (is_owner slot left_out) && not (live && o.freed)) ≡ true → IsAsked keeps left_out live slot o
asked_of keeps left_out live slot o compared is =
    let parts = and_parts (not (is_owner slot left_out)) (not (live && o.freed)) is in
    record {
      compared = compared;
      other = λ e. false≢true (sym (not_true (is_owner slot left_out) parts.0) ∙ is_owner-self slot left_out e);
      lives = lives_by live o.freed parts.1;
    }

module _ (keeps : Bool) (count : ℕ) (objects : Objects) (numbers bases : ℕ → Option ℕ) (known : AreKept keeps count objects numbers bases) where
  -- two objects with one base that are compared are one
  one_object : (s t : ℕ) (o x : Object) → objects s ≡ Some o → objects t ≡ Some x → is_compared keeps o ≡ true → bases o.base ≡ Some t
      → (s ≡ t) × (o ≡ x)
  one_object s t o x is is2 compared at =
      let same = same_Some s t (sym (base_at keeps count objects numbers bases known s o is compared) ∙ at) in
      (same, same_Some o x (sym is ∙ ap objects same ∙ is2))

  module _ (base other slot : ℕ) (x : Object) (last : IsLastAtOrBelow bases base (Some (other, slot))) (there : objects slot ≡ Some x) where
    last_one : (s : ℕ) (o : Object) → objects s ≡ Some o → is_compared keeps o ≡ true → o.base ≤ base
        → (o ≡ x) ⊎ (o.last < other)
    last_one s o is compared low =
        let at = base_at keeps count objects numbers bases known s o is compared in
        let below = last.2 o.base s low at in
        let b = at_base keeps count objects numbers bases known other slot last.1 in
        let b_is : b.0 ≡ x = same_Some b.0 x (sym b.1 ∙ there) in
        let x_base : x.base ≡ other = sym (ap (λ (p : Object). p.base) b_is) ∙ b.3 in
        let x_compared : is_compared keeps x ≡ true = sym (ap (is_compared keeps) b_is) ∙ b.2 in
        elim (eqb_tells s slot) [
          | inl same ↦ inl (same_Some o x (sym is ∙ ap objects same.1 ∙ there))
          | inr unlike ↦ let l = known.apart s slot o x is there unlike.1 compared x_compared (omega (arith, below, x_base)) in inr (omega (arith, l, x_base))
        ]

    pub reached-here : base ≤ x.last → (s : ℕ) (o : Object) → objects s ≡ Some o → is_compared keeps o ≡ true → other ≤ o.base → base ≤ o.last
    reached-here reach s o is compared from = elim (cases_lt base o.base) [
      | inl above ↦ let l = known.long s o is (compared_long keeps o compared) in omega (arith, l)
      | inr low ↦
          let at = base_at keeps count objects numbers bases known s o is compared in
          let below = last.2 o.base s (omega arith) at in
          let same : other ≡ o.base = omega (arith, below) in
          let one = one_object s slot o x is there compared (sym (ap bases same) ∙ last.1) in
          subst (λ (p : Object). base ≤ p.last) (sym one.1) reach
    ]

    pub all-here : base ≤ x.last → (s : ℕ) (o : Object) → objects s ≡ Some o → is_compared keeps o ≡ true → base ≤ o.last → other ≤ o.base
    all-here reach s o is compared meets = elim (cases_lt base o.base) [
      | inl above ↦ let l = last.0 in omega (arith, l)
      | inr low ↦ elim (last_one s o is compared (omega arith)) [
        | inl same ↦
            let b = at_base keeps count objects numbers bases known other slot last.1 in
            let b_is : b.0 ≡ o = same_Some b.0 x (sym b.1 ∙ there) ∙ sym same in
            let e = ap (λ (p : Object). p.base) b_is in
            omega (arith, e, b.3)
        | inr under ↦ absurd (omega (arith, last.0))
      ]
    ]

    pub all-above : x.last < base → (s : ℕ) (o : Object) → objects s ≡ Some o → is_compared keeps o ≡ true → base ≤ o.last → base ≤ o.base
    all-above short s o is compared meets = elim (cases_lt o.base base) [
      | inl low ↦ elim (last_one s o is compared (omega arith)) [
        | inl same ↦ let e = ap (λ (p : Object). p.last) same in absurd (omega (arith, e))
        | inr under ↦ absurd (omega (arith, last.0))
      ]
      | inr above ↦ above
    ]

    -- the last extent that begins at or below an address ends before some others
    pub none-below : (from : ℕ) → x.last < from → (left_out : Option ℕ) (live : Bool) → MeetsNone keeps left_out live objects from base
    none-below from short left_out live s o is asked meets = elim (last_one s o is asked.compared meets.0) [
      | inl same ↦ let e = ap (λ (p : Object). p.last) same in omega (arith, e, meets.1)
      | inr under ↦
          let b = at_base keeps count objects numbers bases known other slot last.1 in
          let l = known.long slot b.0 b.1 (compared_long keeps b.0 b.2) in
          let e = ap (λ (p : Object). p.last) (same_Some b.0 x (sym b.1 ∙ there)) in
          omega (arith, under, l, e, b.3, meets.1)
    ]

  pub none-at-all : (base from : ℕ) → IsLastAtOrBelow bases base None → (left_out : Option ℕ) (live : Bool) → MeetsNone keeps left_out live objects from base
  none-at-all base from none left_out live s o is asked meets =
      none-some s (sym (none o.base meets.0) ∙ base_at keeps count objects numbers bases known s o is asked.compared)

  pub all-first : (base : ℕ) → IsLastAtOrBelow bases base None → (s : ℕ) (o : Object) → objects s ≡ Some o → is_compared keeps o ≡ true
      → base ≤ o.last → base ≤ o.base
  all-first base none s o is compared meets = elim (cases_lt o.base base) [
    | inl low ↦ absurd (none-some s (sym (none o.base (omega arith)) ∙ base_at keeps count objects numbers bases known s o is compared))
    | inr above ↦ above
  ]

  module _ (left_out : Option ℕ) (live : Bool) (base from last : ℕ)
      (reached : (s : ℕ) (o : Object) → objects s ≡ Some o → is_compared keeps o ≡ true → from ≤ o.base → base ≤ o.last)
      (above : (s : ℕ) (o : Object) → objects s ≡ Some o → IsAsked keeps left_out live s o → Meets base last o → from ≤ o.base) where
    pub none-met : IsFirstWithin bases from last None → MeetsNone keeps left_out live objects base last
    none-met none s o is asked meets =
        none o.base s (above s o is asked meets) meets.0 (base_at keeps count objects numbers bases known s o is asked.compared)

    module _ (other slot : ℕ) (first : IsFirstWithin bases from last (Some (other, slot))) where
      pub slot-there : (o : Object) × (objects slot ≡ Some o) × (is_compared keeps o ≡ true) × (o.base ≡ other)
      slot-there = at_base keeps count objects numbers bases known other slot first.2

      from-other : (s : ℕ) (o : Object) → objects s ≡ Some o → IsAsked keeps left_out live s o → Meets base last o → other ≤ o.base
      from-other s o is asked meets = first.3 o.base s (above s o is asked meets) (base_at keeps count objects numbers bases known s o is asked.compared)

      pub first-met : (told : (o : Object) → objects slot ≡ Some o → true ≡ (not (is_owner slot left_out) && not (live && o.freed)))
          → IsFirstMet keeps left_out live objects base last slot
      first-met told =
          let o = slot-there in
          record {
            object = o.0;
            there = o.1;
            asked = asked_of keeps left_out live slot o.0 o.2 (sym (told o.0 o.1));
            meets = (omega (arith, first.1, o.3), reached slot o.0 o.1 o.2 (omega (arith, first.0, o.3)));
            least = λ s x is asked meets. let l = from-other s x is asked meets in omega (arith, l, o.3);
          }

      -- the first is not asked for
      pub past-other : (told : (o : Object) → objects slot ≡ Some o → false ≡ (not (is_owner slot left_out) && not (live && o.freed)))
          → (s : ℕ) (o : Object) → objects s ≡ Some o → IsAsked keeps left_out live s o → Meets base last o → other + 1 ≤ o.base
      past-other told s o is asked meets =
          let l = from-other s o is asked meets in
          let x = slot-there in
          elim (eqb_tells s slot) [
            | inl same ↦
                let there : objects slot ≡ Some o = ap objects (sym same.1) ∙ is in
                absurd (false≢true (told o there ∙ is_asked-back slot left_out live o.freed (λ e. asked.other (e ∙ ap Some (sym same.1))) asked.lives))
            | inr unlike ↦ elim (cases_lt other o.base) [
              | inl more ↦ omega arith
              | inr not_more ↦
                  let at = base_at keeps count objects numbers bases known s o is asked.compared in
                  let same : other ≡ o.base = omega (arith, l) in
                  absurd (unlike.1 (same_Some s slot (sym at ∙ sym (ap bases same) ∙ first.2)))
            ]
          ]

  -- the object of a number
  pub next-number : (from : ℕ) (found : Option (ℕ × ℕ)) → IsFirstFrom numbers from found → IsNextNumber objects from found
  next-number from None none = λ slot o is. elim (cases_lt o.number from) [
    | inl low ↦ low
    | inr at_from ↦ absurd (none o.number slot (omega arith) (number_at keeps count objects numbers bases known slot o is))
  ]
  next-number from (Some entry) first = (
    first.0,
    at_number keeps count objects numbers bases known entry.0 entry.1 first.1,
    λ slot o is low. first.2 o.number slot low (number_at keeps count objects numbers bases known slot o is),
  )

  pub not-live : (number : ℕ) → number ≢ 0 → number ≤ count → (found : Option ℕ) → numbers number ≡ found
      → ((slot : ℕ) (o : Object) → found ≡ Some slot → objects slot ≡ Some o → o.freed ≡ true)
      → (0 < number) × (number ≤ count) × ((slot : ℕ) → IsLive objects number slot → ⊥)
  not-live number some few found is freed = (
    elim (cases_lt 0 number) [
      | inl more ↦ more
      | inr not_more ↦ absurd (some (omega arith))
    ],
    few,
    λ slot l.
        let at = number_at keeps count objects numbers bases known slot l.object l.there in
        false≢true (sym l.live ∙ freed slot l.object (sym is ∙ ap numbers (sym l.number) ∙ at) l.there),
  )
