-- The report of what a machine holds is that of the log that led to it.
use Rattle.std.specs.{Cmp.nat_cmp_is, FinMap.get, List.{AllByRecursion, Sorted.IsStrictlySortedBy}}
use Rattle.std.proofs.Common.{◌≡◌, ℕ, zero, suc, ◌+◌, ◌-◌, ◌^◌, ◌<◌, ◌≤◌, nat_lt, slice_index_or, inl, inr, Bool, true}
use Rattle.std.proofs.Common.{false, List, [], ◌∷◌, ◌++◌, length, map, Option, Some, None, Contains, Err, IsTrue, ◌≢◌}
use Rattle.std.proofs.Common.{refl, sym, ap, subst, ◌∙◌, append-nil, arith, nat_cmp, Less, lt-ltb, le-ltb}
use Rattle.std.proofs.lemmas.{Bool.{cond-true, cond-false, cases_lt, false≢true}, List.map-append}
use Rattle.std.proofs.lemmas.List.Elements.{All-nil, Contains-append_left, Contains-append_right}
use Rattle.std.proofs.lemmas.Option.{none-some, same_Some}
use Rattle.cap_word.specs.declared.word.Cap.{Cap}
use Rattle.cap_streams.specs.declared.judging.judge_faults.JudgeFault.{JudgeFault, TheVariants.{NoMemory, Pull}}
use Rattle.cap_streams.specs.FaultLines.{told_fault}
use Rattle.cap_log.specs.{declared.lines.Place.{Place, TheVariants.{Register, Granule}}, Lines.IsPlace}
use Rattle.tagmem.specs.Granules.{AreStored, Entry}
use Rattle.cap_machine.specs.{Accounts.Account, Helds.{Held, account_of, state_of, code_in}}
use Rattle.cap_machine.specs.{Places.{IsCoded, AreCoded, place_at}, RunAccounts.OriginsAreRoots}
use Rattle.cap_machine.specs.{Runs.{DescendsFrom, last_of}, States.{State, key_of, start, untagged_null}}
use Rattle.cap_machine.proofs.OriginLemmas.{origins_found}
use Rattle.cap_judge.specs.declared.verdict.Verdict.{Verdict, TheVariants.{Yes, No}}
use Rattle.cap_judge.specs.{Judgings.{IsAnswerOf, IsVerdictOf, LeadsTo, LeadsAfter}, Logs.Empty}
use Rattle.cap_judge.specs.OriginLists.{place_of, listed, origins_from, held_lines, report_text}
use Rattle.cap_judge.specs.{Origins.{Origin, IsOrigin, AreOriginsOf}, Reports.{IsPushedFor, Tells}}
use Rattle.cap_judge.specs.VerdictLines.{verdict_line, verdict_status}
use Rattle.cap_judge.proofs.{JudgeLemmas.{are_sound, guarded, steps_in_range, behind_header}, LogLemmas.last_state}
use Rattle.cap_judge.proofs.OriginLemmas.{origins_from-zero, origins_from-suc, unput}

-- the place with a key
place_of-low : (key : ℕ) → key < 32 → place_of key ≡ Register key
place_of-low key low = cond-true (nat_lt key 32) (Register key) (Granule (key - 32)) (lt-ltb key 32 low)

place_of-high : (key : ℕ) → 32 ≤ key → place_of key ≡ Granule (key - 32)
place_of-high key high = cond-false (nat_lt key 32) (Register key) (Granule (key - 32)) (le-ltb key 32 high)

place_range : (key : ℕ) → 1 ≤ key → key < 1 + (31 + 2 ^ 60) → IsPlace (place_of key)
place_range key some below =
    elim (cases_lt key 32) [
      | inl low ↦ subst IsPlace (sym (place_of-low key low)) (some, omega arith)
      | inr high ↦ subst IsPlace (sym (place_of-high key high)) (omega arith)
    ]

key_of-place_of : (key : ℕ) → key_of (place_of key) ≡ key
key_of-place_of key =
    elim (cases_lt key 32) [
      | inl low ↦ ap key_of (place_of-low key low)
      | inr high ↦ let back : key - 32 + 32 ≡ key = omega arith in ap key_of (place_of-high key high) ∙ back
    ]

-- the keys of the places
abbrev keys : List Origin → List ℕ
keys origins = map (λ (origin : Origin). key_of origin.place) origins

-- what holds of the origin of each place that has one holds of all
all_listed : (P : Origin → Type 0) (key : ℕ) (origin : Option Place) (rest : List Origin)
    → ((root : Place) → origin ≡ Some root → P (record { place = place_of key; root = root }))
    → AllByRecursion P rest → AllByRecursion P (listed (place_of key) origin ++ rest)
all_listed P key None rest one all = all
all_listed P key (Some root) rest one all = (one root refl, all)

all_from : (P : Origin → Type 0) (origins : ℕ → Option Place) (key count : ℕ)
    → ((k : ℕ) (root : Place) → key ≤ k → k < key + count → origins k ≡ Some root → P (record { place = place_of k; root = root }))
    → AllByRecursion P (origins_from origins key count)
all_from P origins key zero one = subst (AllByRecursion P) (sym (origins_from-zero origins key)) tt
all_from P origins key (suc count) one =
    subst (AllByRecursion P) (sym (origins_from-suc origins key count))
    (all_listed P key (origins key) (origins_from origins (key + 1) count) (λ root is. one key root (omega arith) (omega arith) is)
    (all_from P origins (key + 1) count (λ k root from until is. one k root (omega arith) (omega arith) is)))

-- they rise
all_above : (key : ℕ) (rest : List Origin) → AllByRecursion (λ (origin : Origin). key < key_of origin.place) rest
    → AllByRecursion (λ y. nat_cmp (key_of (place_of key)) y ≡ Less) (keys rest)
all_above key [] all = tt
all_above key (origin ∷ rest) all =
    let less = subst (λ (k : ℕ). k < key_of origin.place) (sym (key_of-place_of key)) all.0 in
    (sym (nat_cmp_is (key_of (place_of key)) (key_of origin.place) Less less), all_above key rest all.1)

rising_listed : (key : ℕ) (origin : Option Place) (rest : List Origin) → AllByRecursion (λ (o : Origin). key < key_of o.place) rest
    → IsStrictlySortedBy nat_cmp (keys rest)
    → IsStrictlySortedBy nat_cmp (keys (listed (place_of key) origin ++ rest))
unfolding IsStrictlySortedBy
rising_listed key None rest above rising = rising
rising_listed key (Some root) rest above rising = (all_above key rest above, rising)

rising_none : IsStrictlySortedBy nat_cmp []
unfolding IsStrictlySortedBy
rising_none = tt

rising_from : (origins : ℕ → Option Place) (key count : ℕ) → IsStrictlySortedBy nat_cmp (keys (origins_from origins key count))
rising_from origins key zero =
    subst (λ (l : List Origin). IsStrictlySortedBy nat_cmp (keys l)) (sym (origins_from-zero origins key)) rising_none
rising_from origins key (suc count) =
    subst (λ (l : List Origin). IsStrictlySortedBy nat_cmp (keys l)) (sym (origins_from-suc origins key count))
    (rising_listed key (origins key) (origins_from origins (key + 1) count)
    (all_from (λ o. key < key_of o.place) origins (key + 1) count (λ k root from until is. subst (λ (n : ℕ). key < n)
    (sym (key_of-place_of k)) (omega arith)))
    (rising_from origins (key + 1) count))

-- each place that has one is there
one_there : (key : ℕ) (origin : Option Place) (root : Place) → origin ≡ Some root → Contains (keys (listed (place_of key) origin)) key
one_there key None root is = absurd (none-some root is)
one_there key (Some other) root is = (0, omega arith, key_of-place_of key)

there : (origins : ℕ → Option Place) (key count k : ℕ) (root : Place) → key ≤ k → k < key + count → origins k ≡ Some root
    → Contains (keys (origins_from origins key count)) k
there origins key zero k root from until is = absurd (omega arith)
there origins key (suc count) k root from until is =
    let first = listed (place_of key) (origins key) in
    let rest = origins_from origins (key + 1) count in
    let whole : keys first ++ keys rest ≡ keys (origins_from origins key (suc count)) =
    sym (ap keys (origins_from-suc origins key count) ∙ map-append (λ (origin : Origin). key_of origin.place) first rest) in
    subst (λ (l : List ℕ). Contains l k) whole
    (elim (cases_lt key k) [
      | inl less ↦ Contains-append_right (keys first) (keys rest) k (there origins (key + 1) count k root (omega arith) (omega arith) is)
      | inr least ↦
          let same : key ≡ k = omega arith in
          Contains-append_left (keys first) (keys rest) k
          (subst (λ (n : ℕ). Contains (keys first) n) same (one_there key (origins key) root (ap origins same ∙ is)))
    ])

-- what a machine is known to hold
pub record IsHeld (held : Held) : Type 0 where
  pub coded : AreCoded (state_of held) (code_in held)
  pub zero_is : slice_index_or held.registers 0 untagged_null ≡ untagged_null
  pub stored : AreStored held.memory

tagged_by : (tag : Bool) (code : ℕ) (root : Place) → IsCoded tag code → place_at code ≡ Some root → tag ≡ true
tagged_by true code root coded is = refl
tagged_by false code root coded is = absurd (none-some root (sym (ap place_at (coded.0.1 refl)) ∙ is))

-- no other place has an origin
past : (held : Held) → AreStored held.memory → (granule : ℕ) → 2 ^ 60 ≤ granule → (entry : Option Entry) → get held.memory granule ≡ entry
    → get held.memory granule ≡ None
past held stored granule high None is = is
past held stored granule high (Some entry) is = let low = stored granule entry is in absurd (omega (arith, low.in_memory, high))

inside : (held : Held) → IsHeld held → (key : ℕ) (root : Place) → (account_of held).origin key ≡ Some root
    → (1 ≤ key) × (key < 1 + (31 + 2 ^ 60))
inside held is zero root some =
    absurd (false≢true (sym (ap (λ (cap : Cap). cap.tag) is.zero_is) ∙ tagged_by _ _ root (is.coded 0) some))
inside held is (suc k) root some =
    elim (cases_lt (suc k) (1 + (31 + 2 ^ 60))) [
      | inl below ↦ (omega arith, below)
      | inr high ↦
          let granule = suc k - 32 in
          let same : granule + 32 ≡ suc k = omega arith in
          absurd
          (none-some root
          (sym (unput held granule (past held is.stored granule (omega arith) (get held.memory granule) refl))
          ∙ ap (account_of held).origin same ∙ some))
    ]

module _ (bytes : List ℕ) (held : Held) (is : IsHeld held) (to : LeadsTo bytes held) where
  law : OriginsAreRoots (account_of held) to.roots to.steps to.log.runs.run.0
  law =
      let runs = to.log.runs in
      subst (λ (a : Account). OriginsAreRoots a to.roots to.steps runs.run.0) (sym to.account)
      (origins_found to.rules to.roots to.steps runs.run.0 (are_sound to.roots runs.sound) runs.distinct
      (steps_in_range to.roots to.steps (behind_header to.rules _ runs.grammar)) runs.run.1)

  last : last_of (start to.roots) to.log.runs.run.0 ≡ state_of held
  last = last_state to.rules to.roots to.steps to.log.runs ∙ sym (ap (λ (a : Account). a.state) to.account)

  each : (key : ℕ) (root : Place) → 1 ≤ key → key < 1 + (31 + 2 ^ 60) → (account_of held).origin key ≡ Some root
      → IsOrigin to.roots to.steps to.log.runs.run.0 (record { place = place_of key; root = root })
  each key root some below has =
      let tag = tagged_by (state_of held key).tag (code_in held key) root (is.coded key) has in
      let found = law key tag in
      let back = sym (key_of-place_of key) in
      record {
        in_range = place_range key some below;
        tag =
            subst (λ (k : ℕ). IsTrue (last_of (start to.roots) to.log.runs.run.0 k).tag) back (ap (λ (s : State). (s key).tag) last ∙ tag);
        from = found.0;
        descends = subst (λ (k : ℕ). DescendsFrom to.roots to.steps to.log.runs.run.0 (length to.steps) k found.0) back found.1;
        root_is = same_Some root found.0.place (sym has ∙ found.2);
      }

  complete : (key : ℕ) → IsTrue (last_of (start to.roots) to.log.runs.run.0 key).tag
      → Contains (keys (origins_from (account_of held).origin 1 (31 + 2 ^ 60))) key
  complete key tag =
      let found = law key (ap (λ (s : State). (s key).tag) (sym last) ∙ tag) in
      let within = inside held is key found.0.place found.2 in
      there (account_of held).origin 1 (31 + 2 ^ 60) key found.0.place within.0 within.1 found.2

  pub are_origins : AreOriginsOf bytes (origins_from (account_of held).origin 1 (31 + 2 ^ 60))
  are_origins = record {
    rules = to.rules;
    roots = to.roots;
    steps = to.steps;
    states = to.log.runs.run.0;
    log = to.log;
    run = to.log.runs.run.1;
    are = record {
      each = all_from (IsOrigin to.roots to.steps to.log.runs.run.0) (account_of held).origin 1 (31 + 2 ^ 60) each;
      rising = rising_from (account_of held).origin 1 (31 + 2 ^ 60);
      complete = complete;
    };
  }

-- a report tells of the bytes that led to what the machine holds
pub tells : (bytes : List ℕ) (held : Held) (verdict : Verdict) → IsHeld held → LeadsAfter bytes held verdict
    → Tells true bytes verdict (report_text held verdict)
tells bytes held (Yes steps roots) is to = (origins_from (account_of held).origin 1 (31 + 2 ^ 60), are_origins bytes held is to, refl)
tells bytes held (No line refusal) is to = refl

-- the text after a yes
pub yes_text : (held : Held) (verdict : Verdict) (steps roots : ℕ) → verdict ≡ Yes steps roots
    → verdict_line verdict ++ held_lines held 1 (31 + 2 ^ 60) ≡ report_text held verdict
yes_text held verdict steps roots is =
    subst (λ (v : Verdict). verdict_line v ++ held_lines held 1 (31 + 2 ^ 60) ≡ report_text held v) (sym is) refl

-- a text for all bytes given, where a yes says that they are all
pub tells_known : (origins : Bool) (known given rest : List ℕ) (ended : Bool) (verdict : Verdict) (text : List ℕ) → known ≡ given ++ rest
    → (ended ≡ true → rest ≡ []) → IsVerdictOf given ended verdict → Tells origins given verdict text → Tells origins known verdict text
tells_known false known given rest ended verdict text are end is tells = tells
tells_known true known given rest ended (No line refusal) text are end is tells = tells
tells_known true known given rest true (Yes steps roots) text are end is tells =
    subst (λ (bytes : List ℕ). Tells true bytes (Yes steps roots) text)
    (sym (are ∙ ap (λ (r : List ℕ). given ++ r) (end refl) ∙ append-nil given)) tells
tells_known true known given rest false (Yes steps roots) text are end is tells = absurd is

-- the status of a verdict is none of a fault
pub verdict_few : (verdict : Verdict) → verdict_status verdict ≤ 1
verdict_few (Yes steps roots) = omega arith
verdict_few (No line refusal) = omega arith

-- what is said of the bytes given where there is no verdict doesn't depend on whether their source has ended
pub unanswered : (bytes : List ℕ) (ended : Bool) (fault : JudgeFault) → IsAnswerOf bytes ended (Err fault) → IsAnswerOf bytes true (Err fault)
unanswered bytes ended fault is = record { verdict = tt; authority = is.authority; fault = is.fault; answers = is.answers }

-- a source that failed before it gave anything
pub nothing_given : IsAnswerOf [] true (Err Pull)
nothing_given = record {
  verdict = tt;
  authority = guarded [];
  fault = record { beginning = Empty; rest = []; behind = record { bytes_are = refl; accepted = tt }; cut = (omega arith, All-nil (λ b. b ≢ 10)) };
  answers = λ none is. absurd (cc);
}

-- without a verdict nothing is pushed
pub pushed_nothing : (tells : Verdict → List ℕ → Type 0) (bytes : List ℕ) (ended : Bool) (took : List ℕ → Type 0) (fault : JudgeFault)
    → IsAnswerOf bytes ended (Err fault) → took [] → IsPushedFor tells bytes ended took (Err (told_fault fault))
pushed_nothing tells bytes ended took Pull answer nothing = (answer, nothing)
pushed_nothing tells bytes ended took NoMemory answer nothing = (answer, nothing)
