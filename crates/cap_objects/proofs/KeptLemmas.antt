-- What is true of the present objects stays so where the one in a slot changes.
use Rattle.std.proofs.Common.{◌≡◌, ◌≢◌, ◌<◌, ◌≤◌, ◌+◌, ◌⊎◌, ◌&&◌, ◌||◌, not, ℕ, Bool, true, false, Some, None, Option, inl, inr}
use Rattle.std.proofs.Common.{option_and_then, if◌then◌else◌, refl, sym, ap, subst, ◌∙◌, arith, Result, Ok, Err, OnOk, OnErr, is_err}
use Rattle.std.proofs.lemmas.{Bool.{cases_Bool, cases_lt, cond-true, cond-false, false≢true, Decides.eqb_tells, and_parts}, Option.{none-some, same_Some}}
use Rattle.std.proofs.Math.Path.{fun_ext}
use Rattle.cap_objects.specs.{declared.{moments.Moment.Moment, objects.Object.Object}, Extents.{MeetsNone, Objects, Sets, is_compared}}
use Rattle.cap_objects.specs.{Handed.{AreKept, freed_in, with_held}, Indexes.{Drops, Rekeys, base_key, number_key}}
use Rattle.cap_objects.proofs.{IndexLemmas.{index-put, rekey-same}}

pub of_ok : {A E P : Type 0} (r : Result A E) → is_err r ≡ false → OnOk r P → P
of_ok (Ok x) is p = p
of_ok (Err e) is p = absurd (false≢true (sym is))

-- the base of an object that is compared
pub base_of : (keeps : Bool) (o : Object) → is_compared keeps o ≡ true → base_key keeps o ≡ Some o.base
base_of keeps o is = cond-true (is_compared keeps o) (Some o.base) None is

-- an object with a key
keyed : (key : Object → Option ℕ) (o : Option Object) (k : ℕ) → option_and_then key o ≡ Some k → (x : Object) × (o ≡ Some x) × (key x ≡ Some k)
keyed key None k is = absurd (none-some k is)
keyed key (Some x) k is = (x, refl, is)

by_base : (keeps : Bool) (o : Object) (k : ℕ) → base_key keeps o ≡ Some k → (is_compared keeps o ≡ true) × (o.base ≡ k)
by_base keeps o k is = elim (cases_Bool (is_compared keeps o)) [
  | inl yes_it ↦ (yes_it, same_Some o.base k (sym (base_of keeps o yes_it) ∙ is))
  | inr not_it ↦ absurd (none-some k (sym (cond-false (is_compared keeps o) (Some o.base) None not_it) ∙ is))
]

pub compared_long : (keeps : Bool) (o : Object) → is_compared keeps o ≡ true → o.long ≡ true
compared_long keeps o is = (and_parts o.long (keeps || not o.freed) is).0

-- whether an object was compared before it was freed, and is afterwards
was_compared : (keeps long freed : Bool) → freed ≡ false → (long && (keeps || not true)) ≡ true → (long && (keeps || not freed)) ≡ true
was_compared true long freed live is = is
was_compared false true freed live is = absurd (false≢true is)
was_compared false false freed live is = absurd (false≢true is)

went : (keeps long freed : Bool) → (long && not keeps) ≡ true → freed ≡ false → (long && (keeps || not freed)) ≡ true
went true true freed is live = absurd (false≢true is)
went true false freed is live = absurd (false≢true is)
went false true true is live = absurd (false≢true (sym live))
went false true false is live = refl
went false false freed is live = absurd (false≢true is)

gone : (keeps long : Bool) → (long && not keeps) ≡ true → (long && (keeps || not true)) ≡ false
gone true true is = absurd (false≢true is)
gone true false is = refl
gone false true is = refl
gone false false is = refl

stayed : (keeps long freed : Bool) → (long && not keeps) ≡ false → freed ≡ false → (long && (keeps || not freed)) ≡ (long && (keeps || not true))
stayed true long freed is live = refl
stayed false true freed is live = absurd (false≢true (sym is))
stayed false false freed is live = refl

pub compared_live : (keeps long freed : Bool) → freed ≡ false → (long && (keeps || not freed)) ≡ long
compared_live true true freed live = refl
compared_live true false freed live = refl
compared_live false true true live = absurd (false≢true (sym live))
compared_live false true false live = refl
compared_live false false freed live = refl

module _ (keeps : Bool) (count : ℕ) (objects : Objects) (numbers bases : ℕ → Option ℕ) (known : AreKept keeps count objects numbers bases) where
  -- the object of an entry of an index
  pub at_base : (k s : ℕ) → bases k ≡ Some s → (o : Object) × (objects s ≡ Some o) × (is_compared keeps o ≡ true) × (o.base ≡ k)
  at_base k s is =
      let o = keyed (base_key keeps) (objects s) k (known.based.only k s is) in
      let b = by_base keeps o.0 k o.2 in
      (o.0, o.1, b.0, b.1)

  pub base_at : (s : ℕ) (o : Object) → objects s ≡ Some o → is_compared keeps o ≡ true → bases o.base ≡ Some s
  base_at s o is compared = known.based.listed s o.base (ap (option_and_then (base_key keeps)) is ∙ base_of keeps o compared)

  pub at_number : (k s : ℕ) → numbers k ≡ Some s → (o : Object) × (objects s ≡ Some o) × (o.number ≡ k)
  at_number k s is =
      let o = keyed number_key (objects s) k (known.numbered.only k s is) in
      (o.0, o.1, same_Some o.0.number k o.2)

  pub number_at : (s : ℕ) (o : Object) → objects s ≡ Some o → numbers o.number ≡ Some s
  number_at s o is = known.numbered.listed s o.number (ap (option_and_then number_key) is)

  module _ (count_after slot : ℕ) (after : Objects) (now : Option Object) (set : Sets objects slot now after) (more : count ≤ count_after) where
    -- an object that takes the place of that in the slot
    pub record Fits (o : Object) : Type 0 where
      pub is_long : o.long ≡ true → o.base ≤ o.last
      pub is_some : 0 < o.number
      pub is_few : o.number ≤ count_after
      pub is_apart : (other : ℕ) (b : Object) → objects other ≡ Some b → other ≢ slot → is_compared keeps o ≡ true → is_compared keeps b ≡ true
          → (o.last < b.base) ⊎ (b.last < o.base)

    now_or_old : (s : ℕ) (o : Object) → after s ≡ Some o → ((s ≡ slot) × (now ≡ Some o)) ⊎ ((s ≢ slot) × (objects s ≡ Some o))
    now_or_old s o is = elim (eqb_tells s slot) [
      | inl same ↦ inl (same.1, sym set.0 ∙ ap after (sym same.1) ∙ is)
      | inr unlike ↦ inr (unlike.1, sym (set.1 s unlike.1) ∙ is)
    ]

    module _ (fits : (o : Object) → now ≡ Some o → Fits o) where
      fresh_base : (k : ℕ) → option_and_then (base_key keeps) now ≡ Some k
          → (option_and_then (base_key keeps) (objects slot) ≡ Some k) ⊎ (bases k ≡ None)
      fresh_base k is =
          let o = keyed (base_key keeps) now k is in
          let mine = by_base keeps o.0 k o.2 in
          let f = fits o.0 o.1 in
          let long = f.is_long (compared_long keeps o.0 mine.0) in
          let other : (entry : Option ℕ) → bases k ≡ entry → (option_and_then (base_key keeps) (objects slot) ≡ Some k) ⊎ (bases k ≡ None) = λ entry. elim entry as (λ e. bases k ≡ e → (option_and_then (base_key keeps) (objects slot) ≡ Some k) ⊎ (bases k ≡ None)) [
            | None ↦ λ free. inr free
            | Some s ↦ λ at. elim (eqb_tells s slot) [
              | inl same ↦ inl (ap (λ (n : ℕ). option_and_then (base_key keeps) (objects n)) (sym same.1) ∙ known.based.only k s at)
              | inr unlike ↦
                  let b = at_base k s at in
                  let b_long = known.long s b.0 b.1 (compared_long keeps b.0 b.2) in
                  elim (f.is_apart s b.0 b.1 unlike.1 mine.0 b.2) [
                    | inl above ↦ absurd (omega (arith, mine.1, b.3))
                    | inr below ↦ absurd (omega (arith, mine.1, b.3))
                  ]
            ]
          ] in
          other (bases k) refl

      pub kept-put : (numbers_after bases_after : ℕ → Option ℕ)
          → Rekeys numbers slot (option_and_then number_key (objects slot)) (option_and_then number_key now) numbers_after
          → ((k : ℕ) → option_and_then number_key now ≡ Some k → (option_and_then number_key (objects slot) ≡ Some k) ⊎ (numbers k ≡ None))
          → Rekeys bases slot (option_and_then (base_key keeps) (objects slot)) (option_and_then (base_key keeps) now) bases_after
          → AreKept keeps count_after after numbers_after bases_after
      kept-put numbers_after bases_after renumbers fresh rebases = record {
        numbered = index-put number_key objects numbers known.numbered slot after numbers_after now set renumbers fresh;
        based = index-put (base_key keeps) objects bases known.based slot after bases_after now set rebases fresh_base;
        long = λ s o is long. elim (now_or_old s o is) [
          | inl here ↦ (fits o here.1).is_long long
          | inr old ↦ known.long s o old.1 long
        ];
        apart = λ one two a b is is2 differ ca cb below. elim (now_or_old one a is) [
          | inl here ↦ elim (now_or_old two b is2) [
            | inl here2 ↦ absurd (differ (here.0 ∙ sym here2.0))
            | inr old2 ↦ elim ((fits a here.1).is_apart two b old2.1 old2.0 ca cb) [
              | inl above ↦ above
              | inr under ↦ absurd (let l = known.long two b old2.1 (compared_long keeps b cb) in omega (arith, l))
            ]
          ]
          | inr old ↦ elim (now_or_old two b is2) [
            | inl here2 ↦ elim ((fits b here2.1).is_apart one a old.1 old.0 cb ca) [
              | inl above ↦ absurd (let l = (fits b here2.1).is_long (compared_long keeps b cb) in omega (arith, l))
              | inr under ↦ under
            ]
            | inr old2 ↦ known.apart one two a b old.1 old2.1 differ ca cb below
          ]
        ];
        some = λ s o is. elim (now_or_old s o is) [
          | inl here ↦ (fits o here.1).is_some
          | inr old ↦ known.some s o old.1
        ];
        few = λ s o is. elim (now_or_old s o is) [
          | inl here ↦ (fits o here.1).is_few
          | inr old ↦ let l = known.few s o old.1 in omega (arith, l)
        ];
      }

  -- the extents of two objects that are compared are apart
  pub either-apart : (one two : ℕ) (a b : Object) → objects one ≡ Some a → objects two ≡ Some b → one ≢ two → is_compared keeps a ≡ true
      → is_compared keeps b ≡ true → (a.last < b.base) ⊎ (b.last < a.base)
  either-apart one two a b is is2 differ ca cb = elim (cases_lt b.base a.base) [
    | inl under ↦ inr (known.apart two one b a is2 is (λ e. differ (sym e)) cb ca (omega arith))
    | inr above ↦ inl (known.apart one two a b is is2 differ ca cb above)
  ]

  -- an extent that none of the asked objects meets
  met_none : {left_out : Option ℕ} (other : ℕ) (b : Object) → objects other ≡ Some b → left_out ≢ Some other → is_compared keeps b ≡ true
      → (base last : ℕ) → MeetsNone keeps left_out false objects base last → (last < b.base) ⊎ (b.last < base)
  met_none other b is differ compared base last none = elim (cases_lt last b.base) [
    | inl above ↦ inl above
    | inr not_above ↦ elim (cases_lt b.last base) [
      | inl under ↦ inr under
      | inr not_under ↦
          absurd (none other b is (record { compared = compared; other = differ; lives = λ asked. absurd (false≢true asked) })
          (omega arith, omega arith))
    ]
  ]

  -- a number that was not handed out
  pub unnumbered : (k : ℕ) → count < k → numbers k ≡ None
  unnumbered k past =
      let told : (entry : Option ℕ) → numbers k ≡ entry → numbers k ≡ None = λ entry. elim entry as (λ e. numbers k ≡ e → numbers k ≡ None) [
        | None ↦ λ is. is
        | Some s ↦ λ is. let o = at_number k s is in absurd (let l = known.few s o.0 o.1 in omega (arith, o.2))
      ] in
      told (numbers k) refl

  -- an object in the slot of another with the same number and extent
  module _ (slot : ℕ) (x : Object) (there : objects slot ≡ Some x) (after : Objects) where
    fits_alike : (now : Option Object) (set : Sets objects slot now after) (o : Object) → o.base ≡ x.base → o.last ≡ x.last → o.number ≡ x.number
        → o.long ≡ x.long → (is_compared keeps o ≡ true → is_compared keeps x ≡ true) → Fits count slot after now set (omega arith) o
    fits_alike now set o base last number long compared = record {
      is_long = λ is. let l = known.long slot x there (sym long ∙ is) in omega (arith, base, last);
      is_some = let l = known.some slot x there in omega (arith, number);
      is_few = let l = known.few slot x there in omega (arith, number);
      is_apart = λ other b is differ co cb. elim (either-apart slot other x b there is (λ e. differ (sym e)) (compared co) cb) [
        | inl above ↦ inl (omega (arith, base, last))
        | inr under ↦ inr (omega (arith, base, last))
      ];
    }

    was_number : option_and_then number_key (objects slot) ≡ Some x.number
    was_number = ap (option_and_then number_key) there

    was_base : option_and_then (base_key keeps) (objects slot) ≡ base_key keeps x
    was_base = ap (option_and_then (base_key keeps)) there

    -- its count alone changes
    pub kept-counted : (held_is : ℕ) → Sets objects slot (Some (with_held x held_is)) after → AreKept keeps count after numbers bases
    kept-counted held_is set =
        let o = with_held x held_is in
        kept-put count slot after (Some o) set (omega arith)
        (λ p is. subst (Fits count slot after (Some o) set (omega arith)) (same_Some o p is) (fits_alike (Some o) set o refl refl refl refl (λ c. c)))
        numbers bases
        (rekey-same number_key objects numbers known.numbered slot (Some x.number) was_number)
        (λ k is. inl (was_number ∙ is))
        (rekey-same (base_key keeps) objects bases known.based slot (base_key keeps x) was_base)

    -- it is gone
    pub kept-gone : (numbers_after bases_after : ℕ → Option ℕ) → Sets objects slot None after → Drops numbers (Some x.number) numbers_after
        → Drops bases (base_key keeps x) bases_after → AreKept keeps count after numbers_after bases_after
    kept-gone numbers_after bases_after set numbers_dropped bases_dropped =
        kept-put count slot after None set (omega arith) (λ p is. absurd (none-some p is)) numbers_after bases_after
        (subst (λ (was : Option ℕ). Rekeys numbers slot was None numbers_after) (sym was_number) numbers_dropped)
        (λ k is. absurd (none-some k is))
        (subst (λ (was : Option ℕ). Rekeys bases slot was None bases_after) (sym was_base) bases_dropped)

    -- it was freed
    pub kept-marked : (step : Moment) (bases_after : ℕ → Option ℕ) → x.freed ≡ false → Sets objects slot (Some (freed_in step x)) after
        → Drops bases (if x.long && not keeps then Some x.base else None) bases_after → AreKept keeps count after numbers bases_after
    kept-marked step bases_after live set dropped =
        let o = freed_in step x in
        let drops = λ (b : Bool). Drops bases (if b then Some x.base else None) bases_after in
        kept-put count slot after (Some o) set (omega arith)
        (λ p is. subst (Fits count slot after (Some o) set (omega arith)) (same_Some o p is)
        (fits_alike (Some o) set o refl refl refl refl (was_compared keeps x.long x.freed live)))
        numbers bases_after
        (rekey-same number_key objects numbers known.numbered slot (Some x.number) was_number)
        (λ k is. inl (was_number ∙ is))
        (elim (cases_Bool (x.long && not keeps)) [
          | inl goes ↦
              subst (λ (was : Option ℕ). Rekeys bases slot was (base_key keeps o) bases_after) (sym (was_base ∙ base_of keeps x (went keeps x.long x.freed goes live)))
              (subst (λ (now : Option ℕ). Rekeys bases slot (Some x.base) now bases_after)
              (sym (cond-false (is_compared keeps o) (Some x.base) None (gone keeps x.long goes)))
              (subst drops goes dropped))
          | inr stays ↦ λ k. subst drops stays dropped k ∙ rekey-same (base_key keeps) objects bases known.based slot (base_key keeps o)
              (was_base ∙ ap (λ (b : Bool). if b then Some x.base else None) (stayed keeps x.long x.freed stays live)) k
        ])

    -- it has another extent
    pub kept-moved : (o : Object) (bases_after : ℕ → Option ℕ) → x.freed ≡ false
        → o ≡ record x { base = o.base; last = o.last; long = true } → o.base ≤ o.last
        → MeetsNone keeps (Some slot) false objects o.base o.last → Sets objects slot (Some o) after
        → Rekeys bases slot (if x.long then Some x.base else None) (Some o.base) bases_after → AreKept keeps count after numbers bases_after
    kept-moved o bases_after live is long room set rebases =
        let number : o.number ≡ x.number = ap (λ (p : Object). p.number) is in
        let o_long : o.long ≡ true = ap (λ (p : Object). p.long) is in
        let o_live : o.freed ≡ false = ap (λ (p : Object). p.freed) is ∙ live in
        kept-put count slot after (Some o) set (omega arith)
        (λ p same. subst (Fits count slot after (Some o) set (omega arith)) (same_Some o p same) (record {
          is_long = λ _. long;
          is_some = let l = known.some slot x there in omega (arith, number);
          is_few = let l = known.few slot x there in omega (arith, number);
          is_apart = λ other b other_is differ co cb. met_none other b other_is (λ e. differ (sym (same_Some slot other e))) cb o.base o.last room;
        }))
        numbers bases_after
        (rekey-same number_key objects numbers known.numbered slot (Some o.number) (was_number ∙ ap Some (sym number)))
        (λ k same. inl (was_number ∙ ap Some (sym number) ∙ same))
        (subst (λ (was : Option ℕ). Rekeys bases slot was (base_key keeps o) bases_after)
        (sym (was_base ∙ ap (λ (b : Bool). if b then Some x.base else None) (compared_live keeps x.long x.freed live)))
        (subst (λ (now : Option ℕ). Rekeys bases slot (if x.long then Some x.base else None) now bases_after)
        (sym (base_of keeps o (compared_live keeps o.long o.freed o_live ∙ o_long))) rebases))

  -- one more object
  pub kept-added : (slot : ℕ) (after : Objects) (o : Object) (numbers_after bases_after : ℕ → Option ℕ) → objects slot ≡ None
      → Sets objects slot (Some o) after → o.number ≡ count + 1 → o.freed ≡ false → (o.long ≡ true → o.base ≤ o.last)
      → (o.long ≡ true → MeetsNone keeps None false objects o.base o.last) → Rekeys numbers slot None (Some o.number) numbers_after
      → Rekeys bases slot None (if o.long then Some o.base else None) bases_after → AreKept keeps (count + 1) after numbers_after bases_after
  kept-added slot after o numbers_after bases_after free set number live long room numbers_rekeyed bases_rekeyed =
      kept-put (count + 1) slot after (Some o) set (omega arith)
      (λ p same. subst (Fits (count + 1) slot after (Some o) set (omega arith)) (same_Some o p same) (record {
        is_long = long;
        is_some = omega (arith, number);
        is_few = omega (arith, number);
        is_apart = λ other b other_is differ co cb. met_none other b other_is (λ e. none-some other e) cb o.base o.last (room (compared_long keeps o co));
      }))
      numbers_after bases_after
      (subst (λ (was : Option ℕ). Rekeys numbers slot was (Some o.number) numbers_after) (sym (ap (option_and_then number_key) free)) numbers_rekeyed)
      (λ k is. inr (unnumbered k (let e = same_Some o.number k is in omega (arith, number))))
      (subst (λ (was : Option ℕ). Rekeys bases slot was (base_key keeps o) bases_after) (sym (ap (option_and_then (base_key keeps)) free))
      (subst (λ (b : Bool). Rekeys bases slot None (if b then Some o.base else None) bases_after) (sym (compared_live keeps o.long o.freed live))
      bases_rekeyed))

pub of_err : {A E P : Type 0} (r : Result A E) → is_err r ≡ true → OnErr r P → P
of_err (Ok x) is p = absurd (false≢true is)
of_err (Err e) is p = p

-- an object that was put in a slot and taken out again
pub taken-out : (slot : ℕ) (o : Option Object) (objects between after : Objects) → objects slot ≡ None → Sets objects slot o between
    → Sets between slot None after → (s : ℕ) → after s ≡ objects s
taken-out slot o objects between after free put out s = elim (eqb_tells s slot) [
  | inl same ↦ ap after same.1 ∙ out.0 ∙ sym free ∙ ap objects (sym same.1)
  | inr unlike ↦ out.1 s unlike.1 ∙ put.1 s unlike.1
]

pub kept-alike : (keeps : Bool) (count : ℕ) (objects after : Objects) (numbers numbers_after bases bases_after : ℕ → Option ℕ)
    → AreKept keeps count objects numbers bases → ((s : ℕ) → after s ≡ objects s) → ((k : ℕ) → numbers_after k ≡ numbers k)
    → ((k : ℕ) → bases_after k ≡ bases k) → AreKept keeps count after numbers_after bases_after
kept-alike keeps count objects after numbers numbers_after bases bases_after known same same_numbers same_bases =
    rw (fun_ext same, fun_ext same_numbers, fun_ext same_bases) known
