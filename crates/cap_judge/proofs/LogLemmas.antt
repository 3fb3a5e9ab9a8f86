-- Beginnings of a log with one line more, and that they run too where no test holds of it.
use Rattle.std.specs.List.{IsDistinct, list_any, AllByRecursion}
use Rattle.std.proofs.Common.{◌≡◌, ℕ, Bool, true, false, ◌==◌, ◌||◌, nat_eq, List, [], ◌∷◌, ◌++◌, map, refl, sym, ap}
use Rattle.std.proofs.Common.{◌∙◌, append_assoc, ◌+◌, ◌^◌, ◌<◌, ◌≤◌, not, ◌&&◌, nat_le, subst, arith, lit≤, inl, inr}
use Rattle.std.proofs.Common.{Some, None, Option, IsTrue, length, if◌then◌else◌, leb-false}
use Rattle.std.proofs.lemmas.{Bool.{or_parts, not-false}, List.{length_push, map-append}}
use Rattle.cap_word.specs.declared.word.{Cap.Cap, Word.Word}
use Rattle.cap_bounds.specs.Bounds.{is_sound}
use Rattle.cap_ops.specs.Checks.{first_of}
use Rattle.cap_ops.proofs.TestLemmas.{first_of-append_free, none_hold}
use Rattle.cap_log.specs.declared.lines.{Line.TheVariants.{Root, Step, End}, Place.Place}
use Rattle.cap_log.specs.Lines.{IsInRange, IsStepInRange, IsPlace}
use Rattle.cap_log.specs.declared.kinds.Step as steps_module
use Rattle.cap_log.proofs.ElementLemmas.{AllByRecursion-append}
use Rattle.cap_machine.specs.declared.{limits.Limits.Limits, rules.Rules.{Rules, TheVariants.{One, TwoStrict, TwoClear}}}
use Rattle.cap_machine.specs.Accounts.{Account, limits_of, with_root, with_step, no_account, most_roots, most_granules, most_steps}
use Rattle.cap_machine.specs.Accounts.{granule_of, named_by, row_in, passes_granule_limit, naming, root_checks}
use Rattle.cap_machine.specs.{Accounts.step_checks, Runs.{IsRun, last_of}}
use Rattle.cap_machine.specs.{States.{State, DeclaredRoot, key_of, tagged, is_taken, start}, Steps.Leads}
use Rattle.cap_machine.proofs.{AccountLemmas.{after_roots, after_steps, account_after-grows}, MadeLemmas.ending}
use Rattle.cap_machine.proofs.{OriginLemmas.{last_after, roots_start}, StepLemmas.is_recorded}
use Rattle.cap_judge.specs.Logs.{RunsBy, body_lines, account_after, Beginning, Empty, NoMode, Body, Whole, lines_of}
use Rattle.cap_judge.specs.Logs.{IsAccepted}

tag_of_choice : (b : Bool) (x y : Cap) (any : Bool) → x.tag ≡ true → y.tag ≡ any → (if b then x else y).tag ≡ (b || any)
tag_of_choice true x y any h k = h
tag_of_choice false x y any h k = k

-- one key more, which is none of those before
pub IsDistinct-push : (xs : List ℕ) (x : ℕ) → IsDistinct nat_eq xs → list_any (λ y. nat_eq y x) xs ≡ false
    → IsDistinct nat_eq (xs ++ x ∷ [])
unfolding IsDistinct
IsDistinct-push [] x h new = (tt, tt)
IsDistinct-push (y ∷ xs) x h new =
    let parts = or_parts (nat_eq y x) (list_any (λ z. nat_eq z x) xs) new in
    (AllByRecursion-append (λ z. nat_eq y z ≡ false) xs (x ∷ []) h.0 (parts.0, tt), IsDistinct-push xs x h.1 parts.1)

-- a place is taken exactly where the start has a tag there
pub tag-start : (roots : List DeclaredRoot) (place : Place) → (start roots (key_of place)).tag ≡ is_taken roots place
tag-start [] place = refl
tag-start (root ∷ roots) place =
    tag_of_choice (key_of root.place == key_of place) (tagged root.word) (start roots (key_of place)) _ refl (tag-start roots place)

-- one step more
pub IsRun-push : (rules : Rules) (state : State) (steps : List steps_module.Step) (states : List State)
    (step : steps_module.Step) (next : State)
    → IsRun rules state steps states → Leads rules (last_of state states) step next
    → IsRun rules state (steps ++ step ∷ []) (states ++ next ∷ [])
IsRun-push rules state [] [] step next run leads = (leads, tt)
IsRun-push rules state (first ∷ steps) (middle ∷ states) step next run leads =
    (run.0, IsRun-push rules middle steps states step next run.1 leads)
IsRun-push rules state steps states step next run leads = absurd run

-- a run of accepted roots and steps ends in the state of their account
pub last_state : (rules : Rules) (roots : List DeclaredRoot) (steps : List steps_module.Step) (runs : RunsBy rules roots steps)
    → last_of (start roots) runs.run.0 ≡ (account_after rules roots steps).state
last_state rules roots steps runs = last_after rules roots steps runs.run.0 runs.distinct runs.run.1

-- a log's lines with one root more, or one step more
pub steps_push : (rules_are : Rules) (roots : List DeclaredRoot) (steps : List steps_module.Step) (step : steps_module.Step)
    → body_lines rules_are roots (steps ++ step ∷ []) ≡ body_lines rules_are roots steps ++ Step step ∷ []
steps_push rules_are roots steps step = simp (map-append, append_assoc)

pub roots_push : (rules_are : Rules) (roots : List DeclaredRoot) (root : DeclaredRoot)
    → body_lines rules_are (roots ++ root ∷ []) [] ≡ body_lines rules_are roots [] ++ Root root.place root.word ∷ []
roots_push rules_are roots root = simp (map-append, append_assoc)

-- a test of what a function makes of the elements
pub list_any-map : {X Y : Type 0} (f : X → Y) (p : Y → Bool) (xs : List X) → list_any p (map f xs) ≡ list_any (λ x. p (f x)) xs
list_any-map f p [] = refl
list_any-map f p (x ∷ xs) = ap (λ b. p (f x) || b) (list_any-map f p xs)

-- the account of one root more
pub after_roots-push : (account : Account) (roots : List DeclaredRoot) (root : DeclaredRoot)
    → after_roots account (roots ++ root ∷ []) ≡ with_root (after_roots account roots) root.place root.word
after_roots-push account [] root = refl
after_roots-push account (first ∷ roots) root = after_roots-push (with_root account first.place first.word) roots root

-- the account of one step more
pub after_steps-push : (account : Account) (steps : List steps_module.Step) (step : steps_module.Step)
    → after_steps account (steps ++ step ∷ []) ≡ with_step (after_steps account steps) step
after_steps-push account [] step = refl
after_steps-push account (first ∷ steps) step = after_steps-push (with_step account first) steps step

-- naming a granule within the limit keeps to it
few_named : (named : Bool) (granules most : ℕ) → (not named && nat_le most granules) ≡ false → granules ≤ most
    → (if named then granules else granules + 1) ≤ most
few_named true granules most within few = few
few_named false granules most within few = let below = leb-false most granules within in omega arith

naming_few : (account : Account) (granule : Option ℕ) → passes_granule_limit account granule ≡ false
    → account.granules ≤ account.limits.granules
    → (naming account granule).granules ≤ account.limits.granules
naming_few account None within few = few
naming_few account (Some granule) within few =
    few_named (account.is_named granule) account.granules account.limits.granules within few

-- no test of a step's row holds where none of its tests does, and neither does one of the last two
rest_free : (account : Account) (step : steps_module.Step) → first_of (step_checks account step) ≡ None
    → (let row = row_in account step in (first_of row.checks ≡ None) × (is_recorded row ≡ true)
    × (nat_le most_steps account.steps ≡ false) × (passes_granule_limit account (named_by row) ≡ false))
rest_free account step free =
    let row = row_in account step in
    let both = first_of-append_free row.checks _ free in
    let limit = nat_le most_steps account.steps || passes_granule_limit account (named_by row) in
    let last = none_hold (ending (is_recorded row) limit) both.1 in
    let limits = or_parts _ _ last.1.0 in (both.0, not-false _ last.0, limits.0, limits.1)

-- a run goes on by a step of which no test holds
pub step_runs : (rules_are : Rules) (roots : List DeclaredRoot) (steps : List steps_module.Step) (step : steps_module.Step)
    → RunsBy rules_are roots steps → IsStepInRange step → first_of (step_checks (account_after rules_are roots steps) step) ≡ None
    → RunsBy rules_are roots (steps ++ step ∷ [])
step_runs rules_are roots steps step runs range free =
    let account = account_after rules_are roots steps in
    let next = with_step account step in
    let grown = account_after-grows rules_are roots steps in
    let rest = rest_free account step free in
    let few : account.steps < most_steps = leb-false most_steps account.steps rest.2 in
    let counted = grown.steps_are in
    let few_old = subst (λ (l : Limits). account.granules ≤ l.granules) (sym grown.limits_stay) runs.few_granules in
    let few_new = subst (λ (l : Limits). next.granules ≤ l.granules) grown.limits_stay
    (naming_few account (named_by (row_in account step)) rest.3 few_old) in
    let after = after_steps-push (after_roots (no_account rules_are (limits_of rules_are)) roots) steps step in
    let leads : Leads account.rules account.state step next.state = record { allowed = rest.0; recorded = rest.1; after = refl } in
    let led = subst (λ (s : State). Leads rules_are s step next.state) (sym (last_state rules_are roots steps runs))
    (subst (λ (r : Rules). Leads r account.state step next.state) grown.rules_stay leads) in
    record {
      grammar = subst (AllByRecursion IsInRange) (sym (steps_push rules_are roots steps step))
          (AllByRecursion-append IsInRange (body_lines rules_are roots steps) (Step step ∷ []) runs.grammar (range, tt));
      distinct = runs.distinct;
      sound = runs.sound;
      few_roots = runs.few_roots;
      few_granules = subst (λ (a : Account). a.granules ≤ most_granules rules_are) (sym after) few_new;
      few_steps = omega (arith, length_push steps step, few, counted);
      run = (runs.run.0 ++ next.state ∷ [], IsRun-push rules_are (start roots) steps runs.run.0 step next.state runs.run.1 led);
    }

-- the tests of a root that none refuses
root_free : (account : Account) (place : Place) (word : Word) → first_of (root_checks account place word) ≡ None
    → ((account.state (key_of place)).tag ≡ false) × IsTrue (is_sound word.0) × (nat_le account.limits.roots account.roots ≡ false)
    × (passes_granule_limit account (granule_of place) ≡ false)
root_free account place word free =
    let none = none_hold (root_checks account place word) free in
    let last = or_parts _ _ none.1.1.0 in
    (none.0, not-false _ none.1.0, last.0, last.1)

-- roots go on by one of which no test holds
pub root_runs : (rules_are : Rules) (roots : List DeclaredRoot) (root : DeclaredRoot) → RunsBy rules_are roots [] → IsPlace root.place
    → root.word.0 < 2 ^ 128 → first_of (root_checks (account_after rules_are roots []) root.place root.word) ≡ None
    → RunsBy rules_are (roots ++ root ∷ []) []
root_runs rules_are roots root runs place_range word_range free =
    let account = account_after rules_are roots [] in
    let grown = account_after-grows rules_are roots [] in
    let began = sym (roots_start rules_are roots runs.distinct) in
    let clear = root_free account root.place root.word free in
    let untaken = sym (tag-start roots root.place) ∙ ap (λ (s : State). (s (key_of root.place)).tag) began ∙ clear.0 in
    let unlike = list_any-map (λ (r : DeclaredRoot). key_of r.place) (λ y. nat_eq y (key_of root.place)) roots ∙ untaken in
    let roots_limit : account.limits.roots ≡ most_roots = ap (λ (l : Limits). l.roots) grown.limits_stay in
    let few : account.roots < account.limits.roots = leb-false account.limits.roots account.roots clear.2 in
    let counted = grown.roots_are in
    let few_old = subst (λ (l : Limits). account.granules ≤ l.granules) (sym grown.limits_stay) runs.few_granules in
    let few_new = subst (λ (l : Limits). (with_root account root.place root.word).granules ≤ l.granules) grown.limits_stay
    (naming_few account (granule_of root.place) clear.3 few_old) in
    let after = after_roots-push (no_account rules_are (limits_of rules_are)) roots root in
    record {
      grammar = subst (AllByRecursion IsInRange) (sym (roots_push rules_are roots root))
          (AllByRecursion-append IsInRange (body_lines rules_are roots []) (Root root.place root.word ∷ []) runs.grammar
          ((place_range, word_range), tt));
      distinct = subst (IsDistinct nat_eq) (sym (map-append (λ (r : DeclaredRoot). key_of r.place) roots (root ∷ [])))
          (IsDistinct-push (map (λ (r : DeclaredRoot). key_of r.place) roots) (key_of root.place) runs.distinct unlike);
      sound = AllByRecursion-append (λ (r : DeclaredRoot). IsTrue (is_sound r.word.0)) roots (root ∷ []) runs.sound (clear.1, tt);
      few_roots = omega (arith, length_push roots root, few, counted, roots_limit);
      few_granules = subst (λ (a : Account). a.granules ≤ most_granules rules_are) (sym after) few_new;
      few_steps = lit≤ tt;
      run = ([], tt);
    }

-- a header is in range
header_in_range : (rules_are : Rules) → AllByRecursion IsInRange (body_lines rules_are [] [])
header_in_range One = (inl refl, tt)
header_in_range TwoStrict = (inr refl, (tt, tt))
header_in_range TwoClear = (inr refl, (tt, tt))

pub no_roots : (rules_are : Rules) → RunsBy rules_are [] []
unfolding IsDistinct
no_roots rules_are = record {
  grammar = header_in_range rules_are;
  distinct = tt;
  sound = tt;
  few_roots = lit≤ tt;
  few_granules = omega arith;
  few_steps = lit≤ tt;
  run = ([], tt);
}

-- the lines of what is accepted are in range
pub accepted_in_range : (beginning : Beginning) → IsAccepted beginning → AllByRecursion IsInRange (lines_of beginning)
accepted_in_range Empty accepted = tt
accepted_in_range NoMode accepted = (inr refl, tt)
accepted_in_range (Body rules_are roots steps) runs = runs.grammar
accepted_in_range (Whole rules_are roots steps) runs =
    let few_steps = runs.few_steps in
    AllByRecursion-append IsInRange (body_lines rules_are roots steps) (End (length steps) ∷ []) runs.grammar (omega arith, tt)
