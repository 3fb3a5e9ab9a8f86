-- The extents of objects after a line, before their places are counted.
use Rattle.std.proofs.Common.{◌≡◌, ◌≢◌, ◌==◌, ◌&&◌, ◌+◌, ◌-◌, ◌<◌, ◌≤◌, ◌∷◌, [], ℕ, Bool, true, false, not, nat_lt, nat_le, if◌then◌else◌, min, max, Option, Some, None, option_map, option_and_then, refl, sym, ap, subst, ◌∙◌, arith, inl, inr, ne_eqb, eq-eqb, lt-ltb}
use Rattle.std.proofs.lemmas.{Bool.{and_from, cases_Bool, cond-true, cond-false, false≢true, Decides.nat_tests}, Option.{none-some, same_Some}}
use Rattle.std.specs.Option.{option_map_or}
use Rattle.cap_word.specs.declared.word.Cap.{Cap}
use Rattle.cap_bounds.specs.Bounds.{base_of, top_of}
use Rattle.cap_ops.specs.{Checks.first_of}
use Rattle.cap_ops.proofs.TestLemmas.{none_hold}
use Rattle.cap_machine.specs.States.{put}
use Rattle.cap_objects.specs.{Counts.{is_owner, owned_by}, declared.{moments.Moment.Moment, objects.Object.Object}, Extents.{Objects, is_present}}
use Rattle.cap_objects.specs.{Handed.{freed_in, handed_out, widened, with_held}, Indexes.kept, Objects.{Share, top_of_extent}}
use Rattle.cap_run_log.specs.declared.lines.{RunLine.RunLine}
use Rattle.cap_run_log.specs.declared.lines.RunLine.TheVariants as lines
use Rattle.cap_run_log.specs.declared.lines.RunStep.TheVariants as steps
use Rattle.cap_run.specs.declared.{asks.Asks.Asks}
use Rattle.cap_run.specs.declared.ends.RunRefusal.TheVariants.{AlreadyFreed, NoObject, Overlaps, StillHeld}
use Rattle.cap_run.specs.{Allowed.IsLineAllowed, Holders.{ReachesSome, handed_by}, ObjectSteps.object_refusal, Owned.IsWithin, Run.{Run, moment}}
use Rattle.cap_run.specs.{RunChanges.{counted, line_after, with_freed}, RunChecks.{extent_end, growth_end, is_freed, is_live, meets, number_end}}
use Rattle.cap_run.specs.{RunSteps.{or_later, step_limit}, Safety.IsKeptApart}
use Rattle.cap_run.proofs.{HartLemmas.owned-moved, LineLemmas.later_none, MeetingLemmas.{meets-where}, ObjectLemmas.widened-grows, OwnerLemmas.either-key}
use Rattle.cap_run.proofs.{PresentLemmas.{AreCounted, AreFew, few_of}, WideningLemmas.{widened-base, widened-top}}

-- the extents of two guarded objects share no address
abbrev pub AreApart : Bool → Objects → Type 0
AreApart keeps objects =
    (one two : ℕ) (a b : Object) → objects one ≡ Some a → objects two ≡ Some b → one ≢ two → IsKeptApart keeps a → IsKeptApart keeps b
    → Share a.base (top_of_extent a) b.base (top_of_extent b) → ⊥

-- each object is found by its number
abbrev pub AreNumbered : Objects → Type 0
AreNumbered objects = (number : ℕ) (object : Object) → objects number ≡ Some object → object.number ≡ number

-- an extent that holds another one
pub record Grows (old new : Object) : Type 0 where
  pub base : new.base ≤ old.base
  pub top : top_of_extent old ≤ top_of_extent new

-- the objects after a line, before their places are counted
pub record IsMade (keeps : Bool) (run : Run) (line : RunLine) (made : Objects) : Type 0 where
  pub counted_are : (number : ℕ) → (line_after run line).objects number ≡ counted made (line_after run line).owners number
  pub there : (number : ℕ) (old : Object) → run.objects number ≡ Some old → (new : Object) × (made number ≡ Some new) × Grows old new
  pub handed : (key number : ℕ) → handed_by run line ≡ Some (key, number) → ReachesSome ((line_after run line).state key)
      → (object : Object) × (made number ≡ Some object) × IsWithin ((line_after run line).state key) object
  pub apart : AreApart keeps made
  pub numbered : AreNumbered made

grows_itself : (object : Object) → Grows object object
grows_itself object = record { base = omega arith; top = omega arith }

-- where no object was made or freed
plain_made : (keeps : Bool) (run : Run) (line : RunLine) → AreApart keeps run.objects → AreNumbered run.objects → handed_by run line ≡ None
    → ((number : ℕ) → (line_after run line).objects number ≡ counted run.objects (line_after run line).owners number)
    → IsMade keeps run line run.objects
plain_made keeps run line apart_are numbered_are none are = record {
  counted_are = are;
  there = λ number old is. (old, is, grows_itself old);
  handed = λ key number names reaches. absurd (none-some (key, number) (sym none ∙ names));
  apart = apart_are;
  numbered = numbered_are;
}

-- counts that are right stay as they are
counted_one : (was : Option Object) (count : ℕ) → ((object : Object) → was ≡ Some object → (object.held ≡ count) × (is_present object ≡ true))
    → was ≡ option_and_then (λ o. kept (with_held o count)) was
counted_one None count known = refl
counted_one (Some object) count known =
    let it = known object refl in
    sym (ap (λ (n : ℕ). kept (with_held object n)) (sym it.0) ∙ cond-true (is_present object) (Some object) None it.1)

pub counted_itself : (run : Run) → AreCounted run → (number : ℕ) → run.objects number ≡ counted run.objects run.owners number
counted_itself run known number =
    counted_one (run.objects number) (owned_by run.owners number)
    (λ object is. let it = known number object is in (it.held, it.present))

-- a freed object
freed_one : (step : Moment) (was : Option Object) (new : Object) → option_map (freed_in step) was ≡ Some new → (old : Object) × (was ≡ Some old) × (new ≡ freed_in step old)
freed_one step None new is = absurd (none-some new is)
freed_one step (Some old) new is = (old, refl, sym (same_Some (freed_in step old) new is))

self : (number : ℕ) → (number == number) ≡ true
self number = eq-eqb number number refl

module _ (keeps : Bool) (run : Run) (apart_are : AreApart keeps run.objects) (numbered_are : AreNumbered run.objects) where
  -- what was before an object was freed
  record WasLike (number : ℕ) (new : Object) : Type 0 where
    pub old : Object
    pub was : run.objects number ≡ Some old
    pub base_is : new.base ≡ old.base
    pub top_is : top_of_extent new ≡ top_of_extent old
    pub number_is : new.number ≡ old.number
    pub freed_is : new.freed ≡ false → old.freed ≡ false

  was_like : (number other : ℕ) (new : Object)
      → put run.objects number (option_map (freed_in (moment run)) (run.objects number)) other ≡ Some new → WasLike other new
  was_like number other new is = elim (either-key run.objects number (option_map (freed_in (moment run)) (run.objects number)) other) [
    | inl here ↦
        let before = freed_one (moment run) (run.objects number) new (sym here.1 ∙ is) in
        record {
          old = before.0;
          was = sym (ap run.objects here.0) ∙ before.1;
          base_is = ap (λ (o : Object). o.base) before.2;
          top_is = ap top_of_extent before.2;
          number_is = ap (λ (o : Object). o.number) before.2;
          freed_is = λ live. absurd (false≢true (sym live ∙ ap (λ (o : Object). o.freed) before.2));
        }
    | inr away ↦
        record { old = new; was = sym away.1 ∙ is; base_is = refl; top_is = refl; number_is = refl; freed_is = λ live. live }
  ]

  freed_made : (line : RunLine) (number : ℕ) → handed_by run line ≡ None
      → (let made = put run.objects number (option_map (freed_in (moment run)) (run.objects number)) in
      ((other : ℕ) → (line_after run line).objects other ≡ counted made (line_after run line).owners other) → IsMade keeps run line made)
  freed_made line number none are = record {
    counted_are = are;
    there = λ other old is. elim (either-key run.objects number (option_map (freed_in (moment run)) (run.objects number)) other) [
      | inl here ↦ (
        freed_in (moment run) old,
        here.1 ∙ ap (option_map (freed_in (moment run))) (ap run.objects here.0 ∙ is),
        record { base = omega arith; top = omega arith },
      )
      | inr away ↦ (old, away.1 ∙ is, grows_itself old)
    ];
    handed = λ key of names reaches. absurd (none-some (key, of) (sym none ∙ names));
    apart = λ one two a b is_a is_b differ guard_a guard_b share.
        let x = was_like number one a is_a in
        let y = was_like number two b is_b in
        let x_base = x.base_is in
        let x_top = x.top_is in
        let y_base = y.base_is in
        let y_top = y.top_is in
        apart_are one two x.old y.old x.was y.was differ (λ loose. x.freed_is (guard_a loose)) (λ loose. y.freed_is (guard_b loose)) (
          share.0,
          (let p = share.1 in omega (arith, p, x_base)),
          (let p = share.2 in omega (arith, p, x_top)),
          (let p = share.3 in omega (arith, p, y_base)),
          (let p = share.4 in omega (arith, p, y_top)),
        );
    numbered = λ other new is. let x = was_like number other new is in x.number_is ∙ numbered_are other x.old x.was;
  }

  -- an object in the place of none, or of one that it holds, and whose extent shares no address with another's
  changed_made : (line : RunLine) (register number : ℕ) (new : Object) → handed_by run line ≡ Some (register, number)
      → ((other : ℕ) → (line_after run line).objects other ≡ counted (put run.objects number (Some new)) (line_after run line).owners other)
      → ((old : Object) → run.objects number ≡ Some old → Grows old new)
      → (ReachesSome ((line_after run line).state register) → IsWithin ((line_after run line).state register) new)
      → ((two : ℕ) (b : Object) → number ≢ two → run.objects two ≡ Some b → IsKeptApart keeps b
      → Share new.base (top_of_extent new) b.base (top_of_extent b) → ⊥)
      → new.number ≡ number → IsMade keeps run line (put run.objects number (Some new))
  changed_made line register number new names are grows within alone number_is = record {
    counted_are = are;
    there = λ other old is. elim (either-key run.objects number (Some new) other) [
      | inl here ↦ (new, here.1, grows old (ap run.objects here.0 ∙ is))
      | inr away ↦ (old, away.1 ∙ is, grows_itself old)
    ];
    handed = λ key of named reaches.
        let same = same_Some (register, number) (key, of) (sym names ∙ named) in
        let register_is = ap (λ (p : ℕ × ℕ). p.0) same in
        let of_is = ap (λ (p : ℕ × ℕ). p.1) same in (
          new,
          sym (ap (put run.objects number (Some new)) of_is) ∙ cond-true (number == number) (Some new) (run.objects number) (self number),
          subst (λ (k : ℕ). IsWithin ((line_after run line).state k) new) register_is
              (within (subst (λ (k : ℕ). ReachesSome ((line_after run line).state k)) (sym register_is) reaches)),
        );
    apart = λ one two a b is_a is_b differ guard_a guard_b share.
        elim (either-key run.objects number (Some new) one) [
          | inl here ↦ elim (either-key run.objects number (Some new) two) [
            | inl too ↦ absurd (differ (sym here.0 ∙ too.0))
            | inr away ↦
                let a_is = same_Some new a (sym here.1 ∙ is_a) in
                alone two b away.0 (sym away.1 ∙ is_b) guard_b
                (subst (λ (o : Object). Share o.base (top_of_extent o) b.base (top_of_extent b)) (sym a_is) share)
          ]
          | inr away ↦ elim (either-key run.objects number (Some new) two) [
            | inl here ↦
                let b_is = same_Some new b (sym here.1 ∙ is_b) in
                alone one a away.0 (sym away.1 ∙ is_a) guard_a
                (subst (λ (o : Object). Share o.base (top_of_extent o) a.base (top_of_extent a)) (sym b_is)
                (share.0, share.3, share.4, share.1, share.2))
            | inr too ↦ apart_are one two a b (sym away.1 ∙ is_a) (sym too.1 ∙ is_b) differ guard_a guard_b share
          ]
        ];
    numbered = λ other object is. elim (either-key run.objects number (Some new) other) [
      | inl here ↦ ap (λ (o : Object). o.number) (sym (same_Some new object (sym here.1 ∙ is))) ∙ number_is ∙ here.0
      | inr away ↦ numbered_are other object (sym away.1 ∙ is)
    ];
  }

-- no guarded object shares an address with an interval that no check refuses
no_share : (asks : Asks) (run : Run) (left_out : Option ℕ) (base top two : ℕ) (b : Object) → AreFew run → extent_end asks run left_out base top ≡ None
    → is_owner two left_out ≡ false → run.objects two ≡ Some b → IsKeptApart asks.held b → Share base top b.base (top_of_extent b) → ⊥
no_share asks run left_out base top two b few free apart is_b guard share_is =
    let none = none_hold (
    (meets run left_out is_live base top, Overlaps) ∷ (asks.held && meets run left_out is_freed base top, StillHeld) ∷ []) free in
    elim (cases_Bool b.freed) [
      | inr live ↦ false≢true (sym none.0 ∙ meets-where run left_out is_live base top two b
          (record { there = is_b; few = few two b is_b; other = apart; asked_is = ap not live; share = share_is }))
      | inl freed ↦
          let met = meets-where run left_out is_freed base top two b
          (record { there = is_b; few = few two b is_b; other = apart; asked_is = freed; share = share_is }) in
          elim (cases_Bool asks.held) [
            | inl held ↦ false≢true (sym none.1.0 ∙ and_from asks.held (meets run left_out is_freed base top) held met)
            | inr loose ↦ false≢true (sym (guard loose) ∙ freed)
          ]
    ]

-- the extent of a new object
fresh_top : (number : ℕ) (step : Moment) (base top : ℕ) → base < top → top_of_extent (handed_out number step base top) ≡ top
fresh_top number step base top some =
    let long : nat_lt base top ≡ true = lt-ltb base top some in
    let whole : top - 1 + 1 ≡ top = omega (arith, some) in
    ap (λ (b : Bool). if b then (if b then top - 1 else base) + 1 else base) long ∙ whole

fresh_in : (number : ℕ) (step : Moment) (base top address : ℕ) → base ≤ address → address < top_of_extent (handed_out number step base top) → address < top
fresh_in number step base top address low high = elim (cases_Bool (nat_lt base top)) [
  | inl long ↦
      let some : base < top = grind (arith, nat_tests, long) in
      let end = fresh_top number step base top some in
      omega (arith, high, end)
  | inr short ↦
      let end : top_of_extent (handed_out number step base top) ≡ base =
      ap (λ (b : Bool). if b then (if b then top - 1 else base) + 1 else base) short in
      absurd (omega (arith, low, high, end))
]

-- the extent of a widened object lies in the interval that was compared
record IsWidened (o : Object) (low high : ℕ) (w : Object) : Type 0 where
  pub base : low ≤ w.base
  pub top : top_of_extent w ≤ high
  pub number : w.number ≡ o.number

above : (a b : ℕ) → a ≤ max a b
above a b = omega arith

widened_in : (o : Object) (base top : ℕ) → IsWidened o (min o.base base) (max (top_of_extent o) top) (widened o base top)
widened_in o base top =
    let low = min o.base base in
    let high = max (top_of_extent o) top in
    let wide : Object = record o { base = low; last = high - 1; long = true } in
    elim (cases_Bool (nat_lt low high)) [
      | inl long ↦
          let more : low < high = grind (arith, nat_tests, long) in
          let end : high - 1 + 1 ≤ high = omega (arith, more) in
          subst (IsWidened o low high) (sym (cond-true (nat_lt low high) wide o long)) (record { base = omega arith; top = end; number = refl })
      | inr short ↦
          let most : top_of_extent o ≤ high = above (top_of_extent o) top in
          subst (IsWidened o low high) (sym (cond-false (nat_lt low high) wide o short))
          (record { base = omega arith; top = most; number = refl })
    ]

-- what an `object` line's register holds lies in the extent
within_fresh : (cap : Cap) (number : ℕ) (step : Moment) → ReachesSome cap → IsWithin cap (handed_out number step (base_of cap.word.0) (top_of cap.word.0))
within_fresh cap number step reaches =
    let end = fresh_top number step (base_of cap.word.0) (top_of cap.word.0) reaches.1 in
    record { tagged = reaches.0; from = omega arith; until = omega (arith, end) }

within_widened : (cap : Cap) (o : Object) → ReachesSome cap → IsWithin cap (widened o (base_of cap.word.0) (top_of cap.word.0))
within_widened cap o reaches =
    let end = widened-top o (base_of cap.word.0) (top_of cap.word.0) reaches.1 in
    let start = widened-base o (base_of cap.word.0) (top_of cap.word.0) reaches.1 in
    record { tagged = reaches.0; from = omega (arith, start); until = omega (arith, end) }

live_there : (one : Bool) (found : Option Object) → first_of ((one, NoObject) ∷ (not (option_map_or is_live found false), AlreadyFreed) ∷ []) ≡ None
    → (object : Object) × (found ≡ Some object)
live_there true found free = absurd (none-some NoObject (sym free))
live_there false None free = absurd (none-some AlreadyFreed (sym free))
live_there false (Some object) free = (object, refl)

module _ (asks : Asks) (run : Run) (known : AreCounted run) (apart_are : AreApart asks.held run.objects) (numbered_are : AreNumbered run.objects) where
  abbrev Made : RunLine → Type 0
  Made line = (made : Objects) × IsMade asks.held run line made

  plain : (line : RunLine) → handed_by run line ≡ None
      → ((number : ℕ) → (line_after run line).objects number ≡ counted run.objects (line_after run line).owners number) → Made line
  plain line none are = (run.objects, plain_made asks.held run line apart_are numbered_are none are)

  freed_line : (line : RunLine) (owner : Option ℕ) → handed_by run line ≡ None → line_after run line ≡ with_freed run owner → Made line
  freed_line line None none is =
      plain line none (λ number.
      ap (λ (r : Run). r.objects number) is ∙ counted_itself run known number ∙ sym (ap (λ (r : Run). counted run.objects r.owners number) is))
  freed_line line (Some number) none is =
      let made = put run.objects number (option_map (freed_in (moment run)) (run.objects number)) in (
        made,
        freed_made asks.held run apart_are numbered_are line number none (λ other.
            ap (λ (r : Run). r.objects other) is ∙ sym (ap (λ (r : Run). counted made r.owners other) is)),
      )

  object_made : (register : ℕ) → IsLineAllowed asks run (lines.Run (steps.Object register)) → Made (lines.Run (steps.Object register))
  object_made register allowed =
      let cap = run.state register in
      let base = base_of cap.word.0 in
      let top = top_of cap.word.0 in
      let number = run.count + 1 in
      let new = handed_out number (moment run) base top in
      let later = later_none (object_refusal run register) (or_later (extent_end asks run None base top) (step_limit run)) allowed in
      let free = (later_none (extent_end asks run None base top) (step_limit run) later.1).0 in (
        put run.objects number (Some new),
        changed_made asks.held run apart_are numbered_are (lines.Run (steps.Object register)) register number new refl (λ other. refl)
            (λ old is. absurd (let low = few_of run known number old is in omega (arith, low)))
            (λ reaches. within_fresh cap number (moment run) reaches)
            (λ two b differ is guard share.
            no_share asks run None base top two b (few_of run known) free refl is guard
            (share.0, share.1, fresh_in number (moment run) base top share.0 share.1 share.2, share.3, share.4))
            refl,
      )

  widen_made : (register number : ℕ) → IsLineAllowed asks run (lines.Run (steps.Widen register number)) → Made (lines.Run (steps.Widen register number))
  widen_made register number allowed =
      let cap = run.state register in
      let w = cap.word.0 in
      let base = base_of w in
      let top = top_of w in
      let growth = option_map_or (growth_end asks run number w) (run.objects number) None in
      let one = later_none (object_refusal run register) (or_later (number_end run number) (or_later growth (step_limit run))) allowed in
      let two_more = later_none (number_end run number) (or_later growth (step_limit run)) one.1 in
      let found = live_there (not (nat_lt 0 number && nat_le number run.count)) (run.objects number) two_more.0 in
      let o = found.0 in
      let free : extent_end asks run (Some number) (min o.base base) (max (top_of_extent o) top) ≡ None =
      ap (λ (f : Option Object). option_map_or (growth_end asks run number w) f None) (sym found.1) ∙ (later_none growth (step_limit run) two_more.1).0 in
      let wide = widened_in o base top in
      let line = lines.Run (steps.Widen register number) in (
        put run.objects number (Some (widened o base top)),
        changed_made asks.held run apart_are numbered_are line register number (widened o base top) refl
            (λ other. ap (λ (f : Option Object). counted (put run.objects number (option_map (λ x. widened x base top) f)) (line_after run line).owners other) found.1)
            (λ old is.
            let same = same_Some o old (sym found.1 ∙ is) in
            let grown = widened-grows o base top in
            subst (λ (x : Object). Grows x (widened o base top)) same (record { base = grown.0; top = grown.1 }))
            (λ reaches. within_widened cap o reaches)
            (λ two b differ is guard share.
            no_share asks run (Some number) (min o.base base) (max (top_of_extent o) top) two b (few_of run known) free
            (ne_eqb two number (λ same. differ (sym same))) is guard (
              share.0,
              (let p = share.1 in let q = wide.base in omega (arith, p, q)),
              (let p = share.2 in let q = wide.top in omega (arith, p, q)),
              share.3,
              share.4,
            ))
            (wide.number ∙ numbered_are number o found.1),
      )

  pub line_made : (line : RunLine) → IsLineAllowed asks run line → Made line
  line_made lines.Version allowed = plain lines.Version refl (counted_itself run known)
  line_made (lines.Mode mode) allowed = plain (lines.Mode mode) refl (counted_itself run known)
  line_made (lines.Plain version) allowed = plain (lines.Plain version) refl (counted_itself run known)
  line_made (lines.Root place word) allowed = plain (lines.Root place word) refl (counted_itself run known)
  line_made (lines.Hart hart) allowed = plain (lines.Hart hart) refl (λ number. counted_itself run known number
      ∙ sym (ap (λ (n : ℕ). option_and_then (λ object. kept (with_held object n)) (run.objects number)) (owned-moved run.owners run.harts.current hart number)))
  line_made (lines.End count) allowed = plain (lines.End count) refl (counted_itself run known)
  line_made (lines.Run (steps.Object register)) allowed = object_made register allowed
  line_made (lines.Run (steps.Widen register number)) allowed = widen_made register number allowed
  line_made (lines.Run (steps.FreeOwner register)) allowed = freed_line (lines.Run (steps.FreeOwner register)) (run.owners register) refl refl
  line_made (lines.Run (steps.FreeNumber number)) allowed = freed_line (lines.Run (steps.FreeNumber number)) (Some number) refl refl
  line_made line allowed = plain line refl (λ number. refl)
