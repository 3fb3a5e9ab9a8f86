-- An object owns just what descends from one of its registers.
use Rattle.std.proofs.Common.{◌≡◌, ◌==◌, ◌<◌, ◌++◌, ◌∷◌, [], ℕ, List, Some, refl, sym, ap, subst, ◌∙◌, arith, ◌⊎◌, inl, inr, eq-eqb}
use Rattle.std.proofs.lemmas.{Bool.{cond-true, ltb-false}, Option.{none-some, same_Some}}
use Rattle.cap_machine.specs.{Parents.IsSoundState, States.State}
use Rattle.cap_run_log.specs.declared.lines.RunLine.{RunLine}
use Rattle.cap_run_log.specs.RunLines.{IsRunLineInRange}
use Rattle.cap_run.specs.declared.asks.Asks.{Asks}
use Rattle.cap_run.specs.{Allowed.{AreAllowed, DeclaresAt, IsLineAllowed}, Descents.{Descends, line_parent, run_along}, Holders.{OwnersDescend, PassesThrough, ReachesSome, handed_by}}
use Rattle.cap_run.specs.{Owned.owner_for, Run.Run, RunChanges.{line_after, no_run}}
use Rattle.cap_run.proofs.DescentLemmas.{along, along-append, along-fold, allowed_parts, nothing_tagged, sound_after, sound_along}
use Rattle.cap_run.proofs.{FollowLemmas.{AllReach, owner_for-reaches}, HolderLemmas.{Hands, OwnerFrom, hands, owner_from, owner_to, reach_after}}
use Rattle.cap_run.proofs.{LineLemmas.{root_free, stays_within}, OneRootLemmas.{between, cut_twice, one_chain, steps_grow}}

reach_along : (asks : Asks) (run : Run) (read : List RunLine) → AreAllowed asks run read → AllReach run → AllReach (along run read)
reach_along asks run [] allowed reach = reach
reach_along asks run (line ∷ rest) allowed reach =
    reach_along asks (line_after run line) rest allowed.2 (reach_after asks run line reach allowed.0 allowed.1)

-- after a step no line declares a root
no_root_after : (asks : Asks) (run : Run) (line : RunLine) (key : ℕ) → IsLineAllowed asks run line → 0 < run.steps → DeclaresAt run line key → ⊥
no_root_after asks run line key allowed some root =
    let free = root_free run root.place root.word (subst (IsLineAllowed asks run) root.line_is allowed) in
    let none = ltb-false 0 run.steps free.first in
    omega (arith, none, some)

one_back : (asks : Asks) (run : Run) (line : RunLine) (key from : ℕ) → IsRunLineInRange line → IsSoundState run.state → IsLineAllowed asks run line
    → 0 < run.steps → line_parent run line key ≡ Some from → ReachesSome ((line_after run line).state key) → ReachesSome (run.state from)
one_back asks run line key from range sound allowed some parent reaches =
    elim (stays_within asks run line range sound allowed key reaches.0) [
      | inl root ↦ absurd (no_root_after asks run line key allowed some root)
      | inr (source, comes) ↦
          let same = same_Some source from (sym comes.parent ∙ parent) in
          let inside = comes.no_more.inside in
          subst (λ (k : ℕ). ReachesSome (run.state k)) same (comes.tag, omega (arith, reaches.1, inside))
    ]

-- what reaches some address after steps comes from what reached some
reach_back : (asks : Asks) (run : Run) (read : List RunLine) (key from : ℕ) → AreAllowed asks run read → IsSoundState run.state → 0 < run.steps
    → Descends run read key from → ReachesSome ((along run read).state key) → ReachesSome (run.state from)
reach_back asks run [] key from allowed sound some chain reaches = subst (λ (k : ℕ). ReachesSome (run.state k)) chain reaches
reach_back asks run (line ∷ rest) key from allowed sound some (middle, chain, parent) reaches =
    let after = line_after run line in
    let grow = steps_grow run (line ∷ []) in
    one_back asks run line middle from allowed.0 sound allowed.1 some parent
    (reach_back asks after rest key middle allowed.2 (sound_after asks run line allowed.0 sound allowed.1) (omega (arith, some, grow)) chain reaches)

-- an owner is kept along the chain of parents
owner_along : (asks : Asks) (run : Run) (read : List RunLine) (key from number : ℕ) → AreAllowed asks run read → IsSoundState run.state
    → AllReach run → 0 < run.steps → Descends run read key from → run.owners from ≡ Some number → ReachesSome ((along run read).state key)
    → (along run read).owners key ≡ Some number
owner_along asks run [] key from number allowed sound reach some chain is reaches = ap run.owners chain ∙ is
owner_along asks run (line ∷ rest) key from number allowed sound reach some (middle, chain, parent) is reaches =
    let after = line_after run line in
    let sound_next = sound_after asks run line allowed.0 sound allowed.1 in
    let grow = steps_grow run (line ∷ []) in
    let some_next : 0 < after.steps = omega (arith, some, grow) in
    let there = reach_back asks after rest key middle allowed.2 sound_next some_next chain reaches in
    owner_along asks after rest key middle number allowed.2 sound_next (reach_after asks run line reach allowed.0 allowed.1) some_next chain
    (owner_to asks run line reach allowed.0 allowed.1 middle from number there parent is) reaches

-- a chain passes through the register of an `object` line among lines after a run
record PassesIn (run : Run) (read : List RunLine) (key number : ℕ) : Type 0 where
  pub before : List RunLine
  pub line : RunLine
  pub after : List RunLine
  pub register : ℕ
  pub read_is : read ≡ before ++ line ∷ after
  pub names : handed_by (along run before) line ≡ Some (register, number)
  pub descends : Descends (along run (before ++ line ∷ [])) after key register

passes_later : (run : Run) (line : RunLine) (rest : List RunLine) (key number : ℕ) → PassesIn (line_after run line) rest key number
    → PassesIn run (line ∷ rest) key number
passes_later run line rest key number passes = record {
  before = line ∷ passes.before;
  line = passes.line;
  after = passes.after;
  register = passes.register;
  read_is = ap (λ (r : List RunLine). line ∷ r) passes.read_is;
  names = passes.names;
  descends = passes.descends;
}

passes_now : (run : Run) (line : RunLine) (rest : List RunLine) (key middle number : ℕ) → Descends (line_after run line) rest key middle
    → OwnerFrom run line middle number
    → PassesIn run (line ∷ rest) key number ⊎ ((from : ℕ) × Descends run (line ∷ rest) key from × (run.owners from ≡ Some number))
passes_now run line rest key middle number chain (inl names) = inl (record {
  before = [];
  line = line;
  after = rest;
  register = middle;
  read_is = refl;
  names = names;
  descends = chain;
})
passes_now run line rest key middle number chain (inr (from, parent, is)) = inr (from, (middle, chain, parent), is)

-- an owner comes from an `object` line, or from before the lines
owner_back : (asks : Asks) (run : Run) (read : List RunLine) (key number : ℕ) → AreAllowed asks run read → AllReach run
    → (along run read).owners key ≡ Some number
    → PassesIn run read key number ⊎ ((from : ℕ) × Descends run read key from × (run.owners from ≡ Some number))
owner_back asks run [] key number allowed reach is = inr (key, refl, is)
owner_back asks run (line ∷ rest) key number allowed reach is =
    let after = line_after run line in
    elim (owner_back asks after rest key number allowed.2 (reach_after asks run line reach allowed.0 allowed.1) is) [
      | inl passes ↦ inl (passes_later run line rest key number passes)
      | inr (middle, chain, owned) ↦
          passes_now run line rest key middle number chain (owner_from asks run line reach allowed.0 allowed.1 middle number owned).1
    ]

nothing_owned : AllReach no_run
nothing_owned key number is = absurd (none-some number is)

-- what passes is told by the lines' runs
told : (read : List RunLine) (key number : ℕ) → PassesIn no_run read key number → PassesThrough read key number
told read key number passes = record {
  before = passes.before;
  line = passes.line;
  after = passes.after;
  register = passes.register;
  read_is = passes.read_is;
  names = ap (λ (run : Run). handed_by run passes.line) (along-fold no_run passes.before) ∙ passes.names;
  descends = subst (λ (run : Run). Descends run passes.after key passes.register) (sym (along-fold no_run (passes.before ++ passes.line ∷ []))) passes.descends;
}

-- a chain that passes through an `object` line, in allowed lines
module _ (asks : Asks) (read : List RunLine) (allowed : AreAllowed asks no_run read) (key : ℕ) (reaches : ReachesSome ((along no_run read).state key))
    (number : ℕ) (passes : PassesThrough read key number) where
  abbrev run_before : Run
  run_before = along no_run passes.before

  abbrev run_after_it : Run
  run_after_it = line_after run_before passes.line

  parts : AreAllowed asks no_run passes.before × AreAllowed asks run_before (passes.line ∷ passes.after)
  parts = allowed_parts asks no_run passes.before (passes.line ∷ passes.after) (subst (AreAllowed asks no_run) passes.read_is allowed)

  does : Hands run_before passes.line passes.register number
  does = hands asks run_before passes.line passes.register number parts.1.1
      (ap (λ (run : Run). handed_by run passes.line) (sym (along-fold no_run passes.before)) ∙ passes.names)

  chain : Descends run_after_it passes.after key passes.register
  chain = subst (λ (run : Run). Descends run passes.after key passes.register)
      (along-fold no_run (passes.before ++ passes.line ∷ []) ∙ along-append no_run passes.before (passes.line ∷ [])) passes.descends

  last_is : along no_run read ≡ along run_after_it passes.after
  last_is = ap (along no_run) passes.read_is ∙ along-append no_run passes.before (passes.line ∷ passes.after)

  sound_before : IsSoundState run_before.state
  sound_before = sound_along asks no_run passes.before parts.0 nothing_tagged

  sound_then : IsSoundState run_after_it.state
  sound_then = sound_after asks run_before passes.line parts.1.0 sound_before parts.1.1

  reach_then : AllReach run_after_it
  reach_then = reach_after asks run_before passes.line (reach_along asks no_run passes.before parts.0 nothing_owned) parts.1.0 parts.1.1

  some_steps : 0 < run_after_it.steps
  some_steps = let more = does.steps_is in omega (arith, more)

  reaches_last : ReachesSome ((along run_after_it passes.after).state key)
  reaches_last = subst (λ (run : Run). ReachesSome (run.state key)) last_is reaches

  -- the register reaches some address, and so the object owns it
  register_owned : run_after_it.owners passes.register ≡ Some number
  register_owned =
      let reached = reach_back asks run_after_it passes.after key passes.register parts.1.2 sound_then some_steps chain reaches_last in
      does.owners_are passes.register
      ∙ cond-true (passes.register == passes.register) (owner_for (run_before.state passes.register) (Some number)) (run_before.owners passes.register)
      (eq-eqb passes.register passes.register refl)
      ∙ owner_for-reaches (run_before.state passes.register) (Some number)
      (subst (λ (s : State). ReachesSome (s passes.register)) does.state_is reached)

  pub owned_at_last : (along no_run read).owners key ≡ Some number
  owned_at_last =
      ap (λ (run : Run). run.owners key) last_is
      ∙ owner_along asks run_after_it passes.after key passes.register number parts.1.2 sound_then reach_then some_steps chain register_owned reaches_last

  -- at a later line the chain's place is owned, and so no `object` line names it
  pub not_again : (mid after : List RunLine) (line : RunLine) (other again : ℕ) → passes.after ≡ mid ++ line ∷ after
      → handed_by (along run_after_it mid) line ≡ Some (other, again) → Descends (along run_after_it (mid ++ line ∷ [])) after key other → ⊥
  not_again mid after line other again after_is names later =
      let run_mid = along run_after_it mid in
      let rest = allowed_parts asks run_after_it mid (line ∷ after) (subst (AreAllowed asks run_after_it) after_is parts.1.2) in
      let it = hands asks run_mid line other again rest.1.1 names in
      let split = between run_after_it mid (line ∷ after) key passes.register
      (subst (λ (r : List RunLine). Descends run_after_it r key passes.register) after_is chain) in
      let later_chain = subst (λ (run : Run). Descends run after key other) (along-append run_after_it mid (line ∷ [])) later in
      let at_line = one_chain (line_after run_mid line) after key split.1.0 other split.1.1 later_chain in
      let same : split.0 ≡ other =
      sym (same_Some split.1.0 split.0 (sym (it.parent_is split.1.0) ∙ split.1.2)) ∙ at_line in
      let grow = steps_grow run_after_it mid in
      let some_mid : 0 < run_mid.steps = let some = some_steps in omega (arith, some, grow) in
      let sound_mid = sound_along asks run_after_it mid rest.0 sound_then in
      let reached = reach_back asks run_mid (line ∷ after) key split.0 rest.1 sound_mid some_mid split.1
      (subst (λ (run : Run). ReachesSome (run.state key))
      (ap (along run_after_it) after_is ∙ along-append run_after_it mid (line ∷ after)) reaches_last) in
      let owned = owner_along asks run_after_it mid split.0 passes.register number rest.0 sound_then reach_then some_steps split.2 register_owned reached in
      none-some number (sym it.unowned ∙ ap run_mid.owners (sym same) ∙ owned)

-- no chain passes through a second `object` line
passes_again : (asks : Asks) (read : List RunLine) → AreAllowed asks no_run read → (key : ℕ) → ReachesSome ((along no_run read).state key)
    → (number other : ℕ) (one : PassesThrough read key number) (two : PassesThrough read key other) (mid : List RunLine)
    → two.before ≡ one.before ++ one.line ∷ mid → one.after ≡ mid ++ two.line ∷ two.after → ⊥
passes_again asks read allowed key reaches number other one two mid before_is after_is =
    let line = two.line in
    let start = line_after (along no_run one.before) one.line in
    let last : List RunLine = line ∷ [] in
    let mid_is : along no_run two.before ≡ along start mid =
    ap (along no_run) before_is ∙ along-append no_run one.before (one.line ∷ mid) in
    let then_is : along no_run (two.before ++ last) ≡ along start (mid ++ last) =
    along-append no_run two.before last ∙ ap (λ (run : Run). along run last) mid_is ∙ sym (along-append start mid last) in
    not_again asks read allowed key reaches number one mid two.after line two.register other after_is
    (ap (λ (run : Run). handed_by run line) (sym (along-fold no_run two.before ∙ mid_is)) ∙ two.names)
    (subst (λ (run : Run). Descends run two.after key two.register) (along-fold no_run (two.before ++ last) ∙ then_is) two.descends)

passes_once : (asks : Asks) (read : List RunLine) → AreAllowed asks no_run read → (key number other : ℕ)
    → ReachesSome ((along no_run read).state key) → (one : PassesThrough read key number) → (two : PassesThrough read key other)
    → (one.before ≡ two.before) × (one.register ≡ two.register) × (number ≡ other)
passes_once asks read allowed key number other reaches one two =
    elim (cut_twice one.before two.before one.line two.line one.after two.after (sym one.read_is ∙ two.read_is)) [
      | inl same ↦
          let named = same_Some (one.register, number) (two.register, other)
          (sym one.names ∙ ap (λ (r : List RunLine). handed_by (run_along r) one.line) same.0
          ∙ ap (handed_by (run_along two.before)) same.1 ∙ two.names) in
          (same.0, ap (λ (p : ℕ × ℕ). p.0) named, ap (λ (p : ℕ × ℕ). p.1) named)
      | inr (inl later) ↦ absurd (passes_again asks read allowed key reaches number other one two later.0 later.1 later.2)
      | inr (inr later) ↦ absurd (passes_again asks read allowed key reaches other number two one later.0 later.1 later.2)
    ]

owners_at : (asks : Asks) (read : List RunLine) → AreAllowed asks no_run read → OwnersDescend read
owners_at asks read allowed =
    let last = along-fold no_run read in
    let reaching = λ (key : ℕ) (r : ReachesSome ((run_along read).state key)). subst (λ (run : Run). ReachesSome (run.state key)) last r in
    record {
      owned = λ key number is.
          let along_is = ap (λ (run : Run). run.owners key) (sym last) ∙ is in (
            subst (λ (run : Run). ReachesSome (run.state key)) (sym last) (reach_along asks no_run read allowed nothing_owned key number along_is),
            elim (owner_back asks no_run read key number allowed nothing_owned along_is) [
              | inl passes ↦ told read key number passes
              | inr (from, chain_is, owned_is) ↦ absurd (none-some number owned_is)
            ],
          );
      owns = λ key number reaches passes.
          ap (λ (run : Run). run.owners key) last ∙ owned_at_last asks read allowed key (reaching key reaches) number passes;
      once = λ key number other reaches one two. passes_once asks read allowed key number other (reaching key reaches) one two;
    }

pub owners_descend : (asks : Asks) (before after : List RunLine) → AreAllowed asks no_run (before ++ after) → OwnersDescend before
owners_descend asks before after allowed = owners_at asks before (allowed_parts asks no_run before after allowed).0
