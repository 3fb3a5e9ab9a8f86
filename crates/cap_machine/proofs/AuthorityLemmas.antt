-- Each tagged capability of a run descends from one root, and reaches no more; so does each access.
use Rattle.std.specs.List.{AllByRecursion}
use Rattle.std.proofs.Common.{◌≡◌, ℕ, zero, suc, ◌≤◌, inl, inr, Bool, true, false, ◌∷◌, [], List, length, take, refl}
use Rattle.std.proofs.Common.{sym, ap, subst, ◌∙◌, arith, Option, Some, None, Contains, if◌then◌else◌}
use Rattle.std.proofs.lemmas.{Bool.{false≢true, Decides.eqb_tells}, Option.same_Some}
use Rattle.cap_word.specs.declared.word.Cap.{Cap}
use Rattle.cap_bounds.specs.Bounds.{IsSound}
use Rattle.cap_ops.specs.Authority.{ReachesNoMore}
use Rattle.cap_ops.proofs.ReachLemmas.{ReachesNoMore-refl, ReachesNoMore-trans}
use Rattle.cap_log.specs.{declared.{kinds.Step.Step, lines.Place.Place}, Lines.IsStepInRange}
use Rattle.cap_machine.specs.{declared.rules.Rules.Rules, Parents.{IsSoundState, ComesFrom}, Runs.{IsRun, state_at}}
use Rattle.cap_machine.specs.{Runs.{last_of, parent_of, Descends, AuthorityNeverGrows, AreSound}, States.State}
use Rattle.cap_machine.specs.{States.{DeclaredRoot, key_of, tagged, start}, Steps.{Leads, row_of, row_by, state_with}}
use Rattle.cap_machine.proofs.StepLemmas.{WritesWithin, hits, writes_within_by, hits-row_by, parent_in}

-- what a tagged place holds after a write reaches no more than what the place before the write held that it comes from
record Came (old new : State) (hit : Bool) (parent : Option Place) (key from : ℕ) : Type 0 where
  pub by : parent_in hit (new key).tag parent key ≡ Some from
  pub tag : (old from).tag ≡ true
  pub no_more : ReachesNoMore (new key).word.0 (old from).word.0
  pub sound : IsSound (new key).word.0

-- at the place that is written
came_there : (old new : State) (hit : Bool) (parent : Option Place) (write : Place × Cap) (key : ℕ) → IsSoundState old
    → WritesWithin old parent (Some write)
    → hit ≡ true → new key ≡ write.1 → (new key).tag ≡ true → (from : ℕ) × Came old new hit parent key from
came_there old new hit None write key sound within there is held = absurd (within (ap (λ (cap : Cap). cap.tag) (sym is) ∙ held))
came_there old new hit (Some parent) write key sound within there is held =
    let held_there = ap (λ (cap : Cap). cap.tag) (sym is) ∙ held in
    let tagged_from = within.from_tagged held_there in
    let sound_from = sound (key_of parent) tagged_from in (
      key_of parent,
      record {
        by = ap (λ (b : Bool). parent_in b (new key).tag (Some parent) key) there
            ∙ ap (λ (b : Bool). if b then Some (key_of parent) else None) held;
        tag = tagged_from;
        no_more =
            subst (λ (cap : Cap). ReachesNoMore cap.word.0 (old (key_of parent)).word.0) (sym is) (within.no_more held_there sound_from);
        sound = subst (λ (cap : Cap). IsSound cap.word.0) (sym is) (within.sound held_there sound_from);
      },
    )

-- at every other place
came_here : (old new : State) (hit : Bool) (parent : Option Place) (key : ℕ) → IsSoundState old → hit ≡ false
    → new key ≡ old key → (new key).tag ≡ true
    → (from : ℕ) × Came old new hit parent key from
came_here old new hit parent key sound elsewhere is held =
    let held_here = ap (λ (cap : Cap). cap.tag) (sym is) ∙ held in (
      key,
      record {
        by = ap (λ (b : Bool). parent_in b (new key).tag parent key) elsewhere;
        tag = held_here;
        no_more = subst (λ (cap : Cap). ReachesNoMore cap.word.0 (old key).word.0) (sym is) (ReachesNoMore-refl (old key).word.0);
        sound = subst (λ (cap : Cap). IsSound cap.word.0) (sym is) (sound key held_here);
      },
    )

came : (old : State) (write : Option (Place × Cap)) (parent : Option Place) (key : ℕ) → IsSoundState old → WritesWithin old parent write
    → (state_with old write key).tag ≡ true → (from : ℕ) × Came old (state_with old write) (hits write key) parent key from
came old None parent key sound within held = came_here old old false parent key sound refl refl held
came old (Some write) parent key sound within held =
    let new = state_with old (Some write) in
    let there = λ (hit : Bool). if hit then write.1 else old key in
    elim (eqb_tells (key_of write.0) key) [
      | inl same ↦ came_there old new _ parent write key sound within same.0 (ap there same.0) held
      | inr unlike ↦ came_here old new _ parent key sound unlike.0 (ap there unlike.0) held
    ]

pub one_back : (rules : Rules) (old : State) (step : Step) (new : State) (key : ℕ) → IsStepInRange step → IsSoundState old
    → Leads rules old step new → (new key).tag ≡ true
    → (from : ℕ) × ComesFrom old step new key from
one_back rules old step new key range sound leads held =
    let row = row_of old step in
    let back_to = came old (row_by rules row).writes row.parent key sound (writes_within_by rules old step range leads.allowed)
    (ap (λ (s : State). (s key).tag) (sym leads.after) ∙ held) in
    let from = back_to.1 in
    let after = state_with old (row_by rules row).writes in
    subst (λ (s : State). (from : ℕ) × ComesFrom old step s key from) (sym leads.after) (
      back_to.0,
      record {
        parent = ap (λ (hit : Bool). parent_in hit (after key).tag row.parent key) (sym (hits-row_by rules row key)) ∙ from.by;
        tag = from.tag;
        no_more = from.no_more;
        sound = from.sound;
      },
    )

-- a step keeps each tagged capability sound
pub sound_after : (rules : Rules) (old : State) (step : Step) (new : State) → IsStepInRange step → IsSoundState old
    → Leads rules old step new → IsSoundState new
sound_after rules old step new range sound leads key held =
    let from = one_back rules old step new key range sound leads held in from.1.sound

pub sound_along : (rules : Rules) (state : State) (steps : List Step) (states : List State)
    → AllByRecursion IsStepInRange steps → IsSoundState state
    → IsRun rules state steps states → IsSoundState (last_of state states)
sound_along rules state [] [] range sound run = sound
sound_along rules state [] (next ∷ states) range sound run = absurd run
sound_along rules state (step ∷ steps) [] range sound run = absurd run
sound_along rules state (step ∷ steps) (next ∷ states) range sound run =
    sound_along rules next steps states range.1 (sound_after rules state step next range.0 sound run.0) run.1

-- the chain of parents of a tagged place leads back to a tagged place, and it reaches no more than that
pub record ChainsTo (state : State) (steps : List Step) (states : List State) (cap : Cap) (key from : ℕ) : Type 0 where
  pub descends : Descends state steps states key from
  pub tag : (state from).tag ≡ true
  pub no_more : ReachesNoMore cap.word.0 (state from).word.0

pub back : (rules : Rules) (state : State) (steps : List Step) (states : List State) (moment key : ℕ)
    → AllByRecursion IsStepInRange steps → IsSoundState state
    → IsRun rules state steps states → moment ≤ length steps → (state_at state states moment key).tag ≡ true
    → (from : ℕ) × ChainsTo state (take moment steps) (take moment states) (state_at state states moment key) key from
back rules state steps states zero key ranges sound run within held =
    (key, record { descends = refl; tag = held; no_more = ReachesNoMore-refl (state key).word.0 })
back rules state [] states (suc moment) key ranges sound run within held = absurd (omega arith)
back rules state (step ∷ steps) [] (suc moment) key ranges sound run within held = absurd run
back rules state (step ∷ steps) (next ∷ states) (suc moment) key ranges sound run within held =
    let later = back rules next steps states moment key ranges.1 (sound_after rules state step next ranges.0 sound run.0) run.1
    (omega arith) held in
    let earlier = one_back rules state step next later.0 ranges.0 sound run.0 later.1.tag in (
      earlier.0,
      record {
        descends = (later.0, later.1.descends, earlier.1.parent);
        tag = earlier.1.tag;
        no_more = ReachesNoMore-trans _ _ _ later.1.no_more earlier.1.no_more;
      },
    )

-- there is one chain
pub one_chain : (state : State) (steps : List Step) (states : List State) (key a b : ℕ) → Descends state steps states key a
    → Descends state steps states key b → a ≡ b
one_chain state [] states key a b h k = sym h ∙ k
one_chain state (step ∷ steps) [] key a b h k = absurd h
one_chain state (step ∷ steps) (next ∷ states) key a b h k =
    let same = one_chain next steps states key h.0 k.0 h.1 k.1 in
    same_Some a b (sym h.2 ∙ ap (parent_of state step next) same ∙ k.2)

-- what the start has a tag at is a root
pub rooted_at : (roots : List DeclaredRoot) (key : ℕ) → (start roots key).tag ≡ true
    → (root : DeclaredRoot) × Contains roots root × (key_of root.place ≡ key) × (start roots key ≡ tagged root.word)
rooted_at [] key held = absurd (false≢true held)
rooted_at (root ∷ roots) key held =
    let there = λ (hit : Bool). if hit then tagged root.word else start roots key in
    elim (eqb_tells (key_of root.place) key) [
      | inl same ↦ (root, (0, omega arith, refl), same.1, ap there same.0)
      | inr unlike ↦
          let rest = rooted_at roots key (ap (λ (cap : Cap). cap.tag) (sym (ap there unlike.0)) ∙ held) in
          let contained = rest.1 in
          (rest.0, (suc contained.0, omega (arith, contained.1), contained.2), rest.2, ap there unlike.0 ∙ rest.3)
    ]

pub start_sound : (roots : List DeclaredRoot) → AreSound roots → IsSoundState (start roots)
start_sound roots sound key held =
    let root = rooted_at roots key held in
    subst (λ (cap : Cap). IsSound cap.word.0) (sym root.3) (sound root.0 root.1)

-- a tagged place at a moment of a run descends from one root, and reaches no more
pub one_root : (rules : Rules) (roots : List DeclaredRoot) (steps : List Step) (states : List State) → AreSound roots
    → AllByRecursion IsStepInRange steps → IsRun rules (start roots) steps states
    → AuthorityNeverGrows roots steps states
one_root rules roots steps states sound ranges run moment within key held =
    let chain = back rules (start roots) steps states moment key ranges (start_sound roots sound) run within held in
    let root = rooted_at roots chain.0 chain.1.tag in
    let leads_there = subst (λ (from : ℕ). Descends (start roots) (take moment steps) (take moment states) key from)
    (sym root.2) chain.1.descends in (
      root.0,
      record {
        declared = root.1;
        descends = leads_there;
        only =
            λ from other. one_chain (start roots) (take moment steps) (take moment states) key from (key_of root.0.place) other leads_there;
      },
      subst (λ (cap : Cap). ReachesNoMore (state_at (start roots) states moment key).word.0 cap.word.0) root.3 chain.1.no_more,
    )
