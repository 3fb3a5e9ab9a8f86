-- Objects are safe at each moment of allowed lines.
use Rattle.std.proofs.Common.{◌≡◌, ◌==◌, ◌||◌, ◌+◌, ◌<◌, ◌≤◌, ◌++◌, ◌∷◌, [], ℕ, Bool, true, false, not, nat_lt, if◌then◌else◌, List, Option, Some, None, option_and_then, refl, sym, ap, subst, ◌∙◌, arith, inl, inr, ne_eqb, lt-ltb}
use Rattle.std.proofs.lemmas.{Bool.{cases_Bool, cases_lt, cond-true, cond-false, false≢true}, Option.{none-some, same_Some}}
use Rattle.cap_bounds.specs.Bounds.{base_of, top_of}
use Rattle.cap_machine.specs.{Parents.IsSoundState}
use Rattle.cap_machine.specs.Steps.{row_of}
use Rattle.cap_machine.proofs.StepLemmas.{parent_in}
use Rattle.cap_objects.specs.{Counts.{is_owner, most_places, owned_by}, declared.objects.Object.Object, Extents.{Objects, is_present}}
use Rattle.cap_objects.specs.{Handed.with_held, Indexes.kept, Objects.{Share, top_of_extent}}
use Rattle.cap_objects.proofs.{BelowLemmas.below-where, KeyLemmas.is_owner-self}
use Rattle.cap_run_log.specs.declared.lines.{RunLine.RunLine, RunPlace.RunPlace}
use Rattle.cap_run_log.specs.declared.lines.RunLine.TheVariants as lines
use Rattle.cap_run_log.specs.declared.lines.RunPlace.TheVariants as places
use Rattle.cap_run_log.specs.declared.lines.RunRegister.TheVariants.{Special}
use Rattle.cap_run_log.specs.declared.lines.RunStep.TheVariants as steps
use Rattle.cap_run_log.specs.RunLines.{IsRunLineInRange, IsRunPlace}
use Rattle.cap_run.proofs.OwnerLemmas.{target-low}
use Rattle.cap_run.specs.{Allowed.{AreAllowed, IsLineAllowed}, declared.asks.Asks.Asks, Descents.{line_parent, run_along}, Holders.{ReachesSome, handed_by}}
use Rattle.cap_run.specs.{Owned.IsWithin, Run.{Run, first_special, register_key}, Safety.{IsKeptApart, IsSafe}}
use Rattle.cap_run.specs.RunChanges.{line_after, main_of, no_run, place_key, usual_after}
use Rattle.cap_run.proofs.DescentLemmas.{along, along-fold, allowed_parts, nothing_tagged, sound_after}
use Rattle.cap_run.proofs.{ExtentLemmas.{AreApart, AreNumbered, IsMade, line_made}, FollowLemmas.AllReach, HartLemmas.far-stays, HolderLemmas.{OwnerFrom, owner_from, reach_after}}
use Rattle.cap_run.proofs.{LineLemmas.{hits_no_special, root_free, stays_within}, PresentLemmas.{AreCounted, line_counted, none_counted}}

-- what an object owns is a place, and lies in the object's extent
record IsOwn (run : Run) (place number : ℕ) : Type 0 where
  pub low : place < most_places
  pub object : Object
  pub there : run.objects number ≡ Some object
  pub within : IsWithin (run.state place) object

-- what is true at each moment of allowed lines
record IsKept (keeps : Bool) (run : Run) : Type 0 where
  pub sound : IsSoundState run.state
  pub reach : AllReach run
  pub counted_are : AreCounted run
  pub apart : AreApart keeps run.objects
  pub numbered : AreNumbered run.objects
  pub own : (place number : ℕ) → run.owners place ≡ Some number → IsOwn run place number

-- past the places nothing is written
far_hit : (target key : ℕ) → target < most_places → most_places ≤ key → (target == key) ≡ false
far_hit target key low far = ne_eqb target key (λ same. omega (arith, same, low, far))

place_low : (place : RunPlace) → IsRunPlace place → place_key place < most_places
place_low (places.General number) range = omega (arith, range.1)
place_low (places.Special number) range = omega (arith, range)
place_low (places.Granule number) range = omega (arith, range)

one_missed : (hit : Bool) (there : Option ℕ) (key : ℕ) → hit ≡ false → (if hit then there else Some key) ≡ Some key
one_missed true there key missed = absurd (false≢true (sym missed))
one_missed false there key missed = refl

two_missed : (hit other : Bool) (there here : Option ℕ) (key : ℕ) → hit ≡ false → other ≡ false
    → (if hit then there else (if other then here else Some key)) ≡ Some key
two_missed true other there here key missed too = absurd (false≢true (sym missed))
two_missed false other there here key missed too = one_missed other here key too

far_parent : (run : Run) (line : RunLine) (key : ℕ) → IsRunLineInRange line → most_places ≤ key → line_parent run line key ≡ Some key
far_parent run (lines.Step step) key range far =
    ap (λ (hit : Bool). parent_in hit (main_of (usual_after run step).state key).tag (row_of (main_of run.state) step).parent key)
    (hits_no_special (main_of run.state) step key range (omega (arith, far)))
far_parent run (lines.Run (steps.Derive step)) key range far =
    one_missed _ _ key (far_hit (register_key step.target) key (target-low step.target range.0) far)
far_parent run (lines.Run (steps.Exchange step)) key range far =
    two_missed _ _ _ _ key (far_hit step.target key (omega (arith, range.0)) far)
    (far_hit (register_key (Special step.special)) key (omega (arith, range.2)) far)
far_parent run (lines.Run (steps.Invoke step)) key range far =
    two_missed _ _ _ _ key (far_hit first_special key (omega arith) far) (far_hit 31 key (omega arith) far)
far_parent run (lines.Run (steps.Drop place)) key range far = one_missed _ _ key (far_hit (place_key place) key (place_low place range) far)
far_parent run (lines.Run (steps.Fill granule word)) key range far =
    one_missed _ _ key (far_hit (granule + 32) key (omega (arith, range.0)) far)
far_parent run (lines.Hart hart) key range far = ap Some (far-stays run.harts.current hart key far)
far_parent run line key range far = refl

-- the register of an `object` line is a place
handed_low : (run : Run) (line : RunLine) (key number : ℕ) → IsRunLineInRange line → handed_by run line ≡ Some (key, number) → key < most_places
handed_low run (lines.Run (steps.Object register)) key number range names =
    subst (λ (p : ℕ × ℕ). p.0 < most_places) (same_Some (register, run.count + 1) (key, number) names) (omega (arith, range))
handed_low run (lines.Run (steps.Widen register of)) key number range names =
    subst (λ (p : ℕ × ℕ). p.0 < most_places) (same_Some (register, of) (key, number) names) (omega (arith, range.0))
handed_low run line key number range names = absurd (none-some _ names)

held_present : (freed some : Bool) → some ≡ true → (not freed || some) ≡ true
held_present true some is = is
held_present false some is = refl

-- the bounds of a word lie in those of another
record IsIn (word other : ℕ) : Type 0 where
  pub from : base_of other ≤ base_of word
  pub until : top_of word ≤ top_of other

-- an object that a place holds is present after the places were counted
counted_there : (was : Option Object) (new : Object) (count : ℕ) → was ≡ Some new → 0 < count
    → option_and_then (λ o. kept (with_held o count)) was ≡ Some (with_held new count)
counted_there was new count is some =
    let present : is_present (with_held new count) ≡ true = held_present new.freed (nat_lt 0 count) (lt-ltb 0 count some) in
    ap (option_and_then (λ o. kept (with_held o count))) is ∙ cond-true (is_present (with_held new count)) (Some (with_held new count)) None present

-- what an object was before the places were counted
counted_back : (was : Option Object) (count : ℕ) (object : Object) → option_and_then (λ o. kept (with_held o count)) was ≡ Some object
    → (old : Object) × (was ≡ Some old) × (object ≡ with_held old count)
counted_back None count object is = absurd (none-some object is)
counted_back (Some old) count object is = elim (cases_Bool (is_present (with_held old count))) [
  | inl there ↦ (
    old,
    refl,
    sym (same_Some (with_held old count) object (sym (cond-true (is_present (with_held old count)) (Some (with_held old count)) None there) ∙ is)),
  )
  | inr gone ↦ absurd (none-some object (sym (cond-false (is_present (with_held old count)) (Some (with_held old count)) None gone) ∙ is))
]

module _ (asks : Asks) (run : Run) (line : RunLine) (range : IsRunLineInRange line) (allowed : IsLineAllowed asks run line) (kept_is : IsKept asks.held run) where
  abbrev after : Run
  after = line_after run line

  abbrev made : (objects : Objects) × IsMade asks.held run line objects
  made = line_made asks run kept_is.counted_are kept_is.apart kept_is.numbered line allowed

  -- a place whose owner comes from its parent holds no more than that did
  within_from : (key from number : ℕ) (object : Object) → ReachesSome (after.state key) → line_parent run line key ≡ Some from
      → run.owners from ≡ Some number → IsWithin (run.state from) object → IsWithin (after.state key) object
  within_from key from number object reaches parent owned within =
      elim (stays_within asks run line range kept_is.sound allowed key reaches.0) [
        | inl root ↦
            let from_is = same_Some key from (sym (ap (λ (l : RunLine). line_parent run l key) root.line_is) ∙ parent) in
            let untaken = (root_free run root.place root.word (subst (IsLineAllowed asks run) root.line_is allowed)).untaken in
            let held = (kept_is.reach from number owned).0 in
            absurd (false≢true (sym untaken ∙ ap (λ (k : ℕ). (run.state k).tag) (sym root.there ∙ from_is) ∙ held))
        | inr (source, comes) ↦
            let same = same_Some source from (sym comes.parent ∙ parent) in
            let inside = subst (λ (k : ℕ). IsIn (after.state key).word.0 (run.state k).word.0) same
            (record { from = comes.no_more.inside.0; until = comes.no_more.inside.1 }) in
            record {
              tagged = reaches.0;
              from = (let p = inside.from in let q = within.from in omega (arith, p, q));
              until = (let p = inside.until in let q = within.until in omega (arith, p, q));
            }
      ]

  -- the object that owns a place, before the places were counted
  made_owner : (key number : ℕ) → ReachesSome (after.state key) → OwnerFrom run line key number
      → (key < most_places) × ((object : Object) × (made.0 number ≡ Some object) × IsWithin (after.state key) object)
  made_owner key number reaches (inl names) = (handed_low run line key number range names, made.1.handed key number names reaches)
  made_owner key number reaches (inr (from, parent, owned)) =
      let own_is = kept_is.own from number owned in
      let new = made.1.there number own_is.object own_is.there in
      let within = within_from key from number own_is.object reaches parent owned own_is.within in
      let low : key < most_places = elim (cases_lt key most_places) [
        | inl near ↦ near
        | inr far ↦
            let same = same_Some key from (sym (far_parent run line key range far) ∙ parent) in
            let low_from = own_is.low in
            omega (arith, same, low_from)
      ] in (
        low,
        (
          new.0,
          new.1,
          record {
            tagged = reaches.0;
            from = (let p = within.from in let q = new.2.base in omega (arith, p, q));
            until = (let p = within.until in let q = new.2.top in omega (arith, p, q));
          },
        ),
      )

  own_after : (key number : ℕ) → after.owners key ≡ Some number → IsOwn after key number
  own_after key number is =
      let told = owner_from asks run line kept_is.reach range allowed key number is in
      let it = made_owner key number told.0 told.1 in
      let count = owned_by after.owners number in
      let some = below-where (λ k. is_owner number (after.owners k)) key most_places it.0 (is_owner-self number (after.owners key) is) in
      let within = it.1.2 in
      record {
        low = it.0;
        object = with_held it.1.0 count;
        there = made.1.counted_are number ∙ counted_there (made.0 number) it.1.0 count it.1.1 some;
        within = record { tagged = within.tagged; from = within.from; until = within.until };
      }

  kept_after : IsKept asks.held after
  kept_after = record {
    sound = sound_after asks run line range kept_is.sound allowed;
    reach = reach_after asks run line kept_is.reach range allowed;
    counted_are = line_counted run line kept_is.counted_are;
    apart = λ one two a b is_a is_b differ guard_a guard_b share.
        let x = counted_back (made.0 one) (owned_by after.owners one) a (sym (made.1.counted_are one) ∙ is_a) in
        let y = counted_back (made.0 two) (owned_by after.owners two) b (sym (made.1.counted_are two) ∙ is_b) in
        let shared = subst (λ (o : Object). Share o.base (top_of_extent o) b.base (top_of_extent b)) x.2 share in
        made.1.apart one two x.0 y.0 x.1 y.1 differ (subst (IsKeptApart asks.held) x.2 guard_a) (subst (IsKeptApart asks.held) y.2 guard_b)
        (subst (λ (o : Object). Share (with_held x.0 (owned_by after.owners one)).base (top_of_extent (with_held x.0 (owned_by after.owners one))) o.base (top_of_extent o)) y.2 shared);
    numbered = λ number object is.
        let x = counted_back (made.0 number) (owned_by after.owners number) object (sym (made.1.counted_are number) ∙ is) in
        ap (λ (o : Object). o.number) x.2 ∙ made.1.numbered number x.0 x.1;
    own = own_after;
  }

kept_along : (asks : Asks) (run : Run) (read : List RunLine) → AreAllowed asks run read → IsKept asks.held run → IsKept asks.held (along run read)
kept_along asks run [] allowed known = known
kept_along asks run (line ∷ rest) allowed known =
    kept_along asks (line_after run line) rest allowed.2 (kept_after asks run line allowed.0 allowed.1 known)

nothing_kept : (keeps : Bool) → IsKept keeps no_run
nothing_kept keeps = record {
  sound = nothing_tagged;
  reach = λ key number is. absurd (none-some number is);
  counted_are = none_counted;
  apart = λ one two a b is_a is_b differ guard_a guard_b share. none-some a is_a;
  numbered = λ number object is. absurd (none-some object is);
  own = λ place number is. absurd (none-some number is);
}

kept_safe : (keeps : Bool) (run : Run) → IsKept keeps run → IsSafe keeps run
kept_safe keeps run known = record {
  within = λ place number is.
      let it = known.own place number is in
      (it.object, it.there, (known.counted_are number it.object it.there).present, it.within);
  extents = known.apart;
  reach = λ place other one two a b is is2 differ a_is b_is guard_a guard_b share.
      let x = known.own place one is in
      let y = known.own other two is2 in
      let w = subst (IsWithin (run.state place)) (same_Some x.object a (sym x.there ∙ a_is)) x.within in
      let v = subst (IsWithin (run.state other)) (same_Some y.object b (sym y.there ∙ b_is)) y.within in
      known.apart one two a b a_is b_is differ guard_a guard_b (
        share.0,
        (let p = share.1 in let q = w.from in omega (arith, p, q)),
        (let p = share.2 in let q = w.until in omega (arith, p, q)),
        (let p = share.3 in let q = v.from in omega (arith, p, q)),
        (let p = share.4 in let q = v.until in omega (arith, p, q)),
      );
  alone = λ one two a b a_is b_is same. sym (known.numbered one a a_is) ∙ same ∙ known.numbered two b b_is;
  held = λ number object is. (known.counted_are number object is).held;
}

pub safe_at_each : (asks : Asks) (before after : List RunLine) → AreAllowed asks no_run (before ++ after) → IsSafe asks.held (run_along before)
safe_at_each asks before after allowed =
    kept_safe asks.held (run_along before)
    (subst (IsKept asks.held) (sym (along-fold no_run before))
    (kept_along asks no_run before (allowed_parts asks no_run before after allowed).0 (nothing_kept asks.held)))
