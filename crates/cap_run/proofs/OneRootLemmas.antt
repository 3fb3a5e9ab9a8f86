-- A place descends from one root at most: each root is declared before any step, where no place is tagged yet.
use Rattle.std.proofs.Common.{◌≡◌, ◌==◌, ◌≤◌, ◌+◌, ◌++◌, ◌∷◌, [], ℕ, Bool, true, false, if◌then◌else◌, List, Option, Some, None, refl, sym, ap, subst, ◌∙◌, arith, ◌⊎◌, inl, inr}
use Rattle.std.proofs.lemmas.{Bool.{cond-true, eq-eqb, false≢true, ltb-false}, Option.{same_Some}}
use Rattle.cap_word.specs.declared.word.{Cap.Cap, Word.Word}
use Rattle.cap_machine.specs.States.{State, tagged}
use Rattle.cap_run_log.specs.declared.lines.{RunLine.RunLine, RunPlace.RunPlace, RunStep.RunStep}
use Rattle.cap_run_log.specs.declared.lines.RunLine.TheVariants as lines
use Rattle.cap_run_log.specs.declared.lines.RunStep.TheVariants as steps
use Rattle.cap_run.specs.{Allowed.{AreAllowed, DescendsFromOne}, declared.asks.Asks.Asks}
use Rattle.cap_run.specs.Descents.{Descends, DescendsFrom, line_parent}
use Rattle.cap_run.specs.{Harts.came_from, Run.Run, RunChanges.{line_after, no_run, place_key, root_after, run_after, with_freed}}
use Rattle.cap_run.proofs.{DescentLemmas.{along, along-append, along-fold, allowed_parts}, LineLemmas.{freed-state, root_free}}

-- there is one chain of parents
pub one_chain : (run : Run) (read : List RunLine) (key a b : ℕ) → Descends run read key a → Descends run read key b → a ≡ b
one_chain run [] key a b h k = sym h ∙ k
one_chain run (line ∷ rest) key a b h k =
    let same = one_chain (line_after run line) rest key h.0 k.0 h.1 k.1 in
    same_Some a b (sym h.2 ∙ ap (line_parent run line) same ∙ k.2)

-- a chain over lines after others passes through a place between
pub between : (run : Run) (before after : List RunLine) (key from : ℕ) → Descends run (before ++ after) key from
    → (middle : ℕ) × Descends (along run before) after key middle × Descends run before middle from
between run [] after key from chain = (from, chain, refl)
between run (line ∷ before) after key from (first, chain, parent) =
    let rest = between (line_after run line) before after key first chain in
    (rest.0, rest.1, (first, rest.2, parent))

-- a line is a step, and is counted, or what comes from a tagged place is tagged
record IsQuiet (run : Run) (line : RunLine) : Type 0 where
  pub keeps : (key from : ℕ) → line_parent run line key ≡ Some from → (run.state from).tag ≡ true → ((line_after run line).state key).tag ≡ true
  pub steps_are : (line_after run line).steps ≡ run.steps

record IsCounted (run : Run) (line : RunLine) : Type 0 where
  pub steps_are : (line_after run line).steps ≡ run.steps + 1

kept_if : (hit : Bool) (word : Word) (cap : Cap) → cap.tag ≡ true → (if hit then tagged word else cap).tag ≡ true
kept_if true word cap held = refl
kept_if false word cap held = held

-- where each place comes from itself
kept_own : (before after : State) → ((key : ℕ) → (before key).tag ≡ true → (after key).tag ≡ true)
    → (key from : ℕ) → Some key ≡ Some from → (before from).tag ≡ true → (after key).tag ≡ true
kept_own before after keeps key from is held = keeps key (subst (λ (k : ℕ). (before k).tag ≡ true) (sym (same_Some key from is)) held)

freed_kind : (run : Run) (register : ℕ) (owner : Option ℕ) → run.owners register ≡ owner
    → IsQuiet run (lines.Run (steps.FreeOwner register)) ⊎ IsCounted run (lines.Run (steps.FreeOwner register))
freed_kind run register None is = inl (record {
  keeps = kept_own run.state (run_after run (steps.FreeOwner register)).state
      (λ key held. ap (λ (state : State). (state key).tag) (freed-state run (run.owners register)) ∙ held);
  steps_are = ap (λ (o : Option ℕ). (with_freed run o).steps) is;
})
freed_kind run register (Some number) is = inr (record { steps_are = ap (λ (o : Option ℕ). (with_freed run o).steps) is })

step_kind : (run : Run) (step : RunStep) → IsQuiet run (lines.Run step) ⊎ IsCounted run (lines.Run step)
step_kind run (steps.FreeOwner register) = freed_kind run register (run.owners register) refl
step_kind run step = inr (record { steps_are = refl })

kind_of : (run : Run) (line : RunLine) → IsQuiet run line ⊎ IsCounted run line
kind_of run (lines.Root place word) =
    inl (record {
      keeps = kept_own run.state (root_after run place word).state (λ key held. kept_if (place_key place == key) word (run.state key) held);
      steps_are = refl;
    })
kind_of run (lines.Hart hart) =
    inl (record {
      keeps = λ key from is held.
          subst (λ (k : ℕ). (run.state k).tag ≡ true) (sym (same_Some (came_from run.harts.current hart key) from is)) held;
      steps_are = refl;
    })
kind_of run (lines.Step step) = inr (record { steps_are = refl })
kind_of run (lines.Run step) = step_kind run step
kind_of run line = inl (record { keeps = kept_own run.state run.state (λ key held. held); steps_are = refl })

pub steps_grow : (run : Run) (read : List RunLine) → run.steps ≤ (along run read).steps
steps_grow run [] = omega arith
steps_grow run (line ∷ rest) =
    let later = steps_grow (line_after run line) rest in
    elim (kind_of run line) [
      | inl quiet ↦ omega (arith, later, quiet.steps_are)
      | inr counted ↦ omega (arith, later, counted.steps_are)
    ]

-- where no line was a step, what descends from a tagged place is tagged
no_step_yet : (run : Run) (read : List RunLine) → (along run read).steps ≡ 0 → (key from : ℕ) → Descends run read key from
    → (run.state from).tag ≡ true → ((along run read).state key).tag ≡ true
no_step_yet run [] none key from chain held = subst (λ (k : ℕ). (run.state k).tag ≡ true) (sym chain) held
no_step_yet run (line ∷ rest) none key from chain held =
    let after = line_after run line in
    elim (kind_of run line) [
      | inl quiet ↦ no_step_yet after rest none key chain.0 chain.1 (quiet.keeps chain.0 from chain.2 held)
      | inr counted ↦ absurd (let grow = steps_grow after rest in omega (arith, grow, none, counted.steps_are))
    ]

-- no place descends from a root and from another one that a later line declared
declared_later : (asks : Asks) (before mid after : List RunLine) (place other : RunPlace) (word another : Word) (key : ℕ)
    → AreAllowed asks no_run (before ++ (lines.Root place word ∷ (mid ++ (lines.Root other another ∷ after))))
    → Descends (along no_run (before ++ (lines.Root place word ∷ []))) (mid ++ (lines.Root other another ∷ after)) key (place_key place)
    → Descends (along no_run ((before ++ (lines.Root place word ∷ mid)) ++ (lines.Root other another ∷ []))) after key (place_key other)
    → ⊥
declared_later asks before mid after place other word another key allowed first_chain second_chain =
    let root = lines.Root place word in
    let later = lines.Root other another in
    let zeroth = along no_run before in
    let first = line_after zeroth root in
    let second = along first mid in
    let third = line_after second later in
    let whole = allowed_parts asks no_run before (root ∷ (mid ++ (later ∷ after))) allowed in
    let parts = allowed_parts asks first mid (later ∷ after) whole.1.2 in
    let free = root_free second other another parts.1.1 in
    let none : second.steps ≡ 0 = let few = ltb-false 0 second.steps free.first in omega (arith, few) in
    let chain = between first mid (later ∷ after) key (place_key place)
    (subst (λ (run : Run). Descends run (mid ++ (later ∷ after)) key (place_key place)) (along-append no_run before (root ∷ [])) first_chain) in
    let third_is : along no_run ((before ++ (root ∷ mid)) ++ (later ∷ [])) ≡ third =
    along-append no_run (before ++ (root ∷ mid)) (later ∷ []) ∙ ap (λ (run : Run). line_after run later) (along-append no_run before (root ∷ mid)) in
    let there = one_chain third after key chain.1.0 (place_key other) chain.1.1
    (subst (λ (run : Run). Descends run after key (place_key other)) third_is second_chain) in
    let same : chain.0 ≡ place_key other = sym (same_Some chain.1.0 chain.0 chain.1.2) ∙ there in
    let held : (first.state (place_key place)).tag ≡ true =
    ap (λ (cap : Cap). cap.tag) (cond-true (place_key place == place_key place) (tagged word) (zeroth.state (place_key place))
    (eq-eqb (place_key place) (place_key place) refl)) in
    false≢true (sym free.untaken ∙ ap (λ (at : ℕ). (second.state at).tag) (sym same)
    ∙ no_step_yet first mid none chain.0 (place_key place) chain.2 held)

same_first : (x y : RunLine) (xs ys : List RunLine) → x ∷ xs ≡ y ∷ ys → x ≡ y
same_first x y xs ys is = cc

same_rest : (x y : RunLine) (xs ys : List RunLine) → x ∷ xs ≡ y ∷ ys → xs ≡ ys
same_rest x y xs ys is = cc

same_root : (place other : RunPlace) (word another : Word) → lines.Root place word ≡ lines.Root other another → (place ≡ other) × (word ≡ another)
same_root place other word another is = (cc, cc)

-- two lines of a list: one line, or one after the other
pub cut_twice : (before front : List RunLine) (line other : RunLine) (after rest : List RunLine) → before ++ line ∷ after ≡ front ++ other ∷ rest
    → ((before ≡ front) × (line ≡ other))
    ⊎ (((mid : List RunLine) × (front ≡ before ++ line ∷ mid) × (after ≡ mid ++ other ∷ rest))
    ⊎ ((mid : List RunLine) × (before ≡ front ++ other ∷ mid) × (rest ≡ mid ++ line ∷ after)))
cut_twice [] [] line other after rest is = inl (refl, same_first line other after rest is)
cut_twice [] (x ∷ front) line other after rest is =
    let first = same_first line x after (front ++ other ∷ rest) is in
    inr (inl (front, ap (λ (l : RunLine). l ∷ front) (sym first), same_rest line x after (front ++ other ∷ rest) is))
cut_twice (x ∷ before) [] line other after rest is =
    let first = same_first x other (before ++ line ∷ after) rest is in
    inr (inr (before, ap (λ (l : RunLine). l ∷ before) first, sym (same_rest x other (before ++ line ∷ after) rest is)))
cut_twice (x ∷ before) (y ∷ front) line other after rest is =
    let first = same_first x y (before ++ line ∷ after) (front ++ other ∷ rest) is in
    let with_x = λ (r : List RunLine). x ∷ r in
    let with_y = λ (r : List RunLine). y ∷ r in
    elim (cut_twice before front line other after rest (same_rest x y (before ++ line ∷ after) (front ++ other ∷ rest) is)) [
      | inl same ↦ inl (ap with_x same.0 ∙ ap (λ (l : RunLine). l ∷ front) first, same.1)
      | inr (inl later) ↦ inr (inl (later.0, ap (λ (l : RunLine). l ∷ front) (sym first) ∙ ap with_x later.1, later.2))
      | inr (inr later) ↦ inr (inr (later.0, ap (λ (l : RunLine). l ∷ before) first ∙ ap with_y later.1, later.2))
    ]

twice : (asks : Asks) (read : List RunLine) (key : ℕ) (place other : RunPlace) (word another : Word) → AreAllowed asks no_run read
    → (a : DescendsFrom read key place word) (b : DescendsFrom read key other another) (mid : List RunLine)
    → b.before ≡ a.before ++ (lines.Root place word ∷ mid) → a.after ≡ mid ++ (lines.Root other another ∷ b.after)
    → ⊥
twice asks read key place other word another allowed a b mid before_is after_is =
    let root = lines.Root place word in
    let later = lines.Root other another in
    declared_later asks a.before mid b.after place other word another key
    (subst (λ (r : List RunLine). AreAllowed asks no_run (a.before ++ (root ∷ r))) after_is (subst (AreAllowed asks no_run) a.declared allowed))
    (subst (λ (r : List RunLine). Descends (along no_run (a.before ++ (root ∷ []))) r key (place_key place)) after_is
    (subst (λ (run : Run). Descends run a.after key (place_key place)) (along-fold no_run (a.before ++ (root ∷ []))) a.descends))
    (subst (λ (r : List RunLine). Descends (along no_run (r ++ (later ∷ []))) b.after key (place_key other)) before_is
    (subst (λ (run : Run). Descends run b.after key (place_key other)) (along-fold no_run (b.before ++ (later ∷ []))) b.descends))

pub one_root : (asks : Asks) (read : List RunLine) → AreAllowed asks no_run read → DescendsFromOne read
one_root asks read allowed key place other word another a b =
    let root = lines.Root place word in
    let later = lines.Root other another in
    elim (cut_twice a.before b.before root later a.after b.after (sym a.declared ∙ b.declared)) [
      | inl same ↦ let root_is = same_root place other word another same.1 in (same.0, root_is.0, root_is.1)
      | inr (inl after) ↦ absurd (twice asks read key place other word another allowed a b after.0 after.1 after.2)
      | inr (inr after) ↦ absurd (twice asks read key other place another word allowed b a after.0 after.1 after.2)
    ]

pub descend_from_one : (asks : Asks) (before after : List RunLine) → AreAllowed asks no_run (before ++ after) → DescendsFromOne before
descend_from_one asks before after allowed = one_root asks before (allowed_parts asks no_run before after allowed).0
