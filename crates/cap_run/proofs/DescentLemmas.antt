-- Each tagged capability after allowed lines descends from a root, and reaches no more; so does each access.
use Rattle.std.proofs.Common.{◌≡◌, ◌++◌, ◌∷◌, [], ℕ, true, List, Some, None, refl, sym, ap, subst, ◌∙◌, arith, ◌⊎◌, inl, inr, fold}
use Rattle.std.proofs.lemmas.{Bool.false≢true, Option.none-some}
use Rattle.cap_word.specs.declared.word.{Cap.Cap, Word.Word}
use Rattle.cap_bounds.specs.Bounds.{IsSound}
use Rattle.cap_ops.specs.{Accesses.IsAllowed, Authority.ReachesNoMore, Checks.first_of}
use Rattle.cap_ops.proofs.ReachLemmas.{ReachesNoMore-refl, ReachesNoMore-trans}
use Rattle.cap_machine.specs.{Parents.IsSoundState}
use Rattle.cap_machine.specs.Steps.{Access, Row, row_of}
use Rattle.cap_machine.proofs.{AccessLemmas.granted, StepLemmas.row_by-access}
use Rattle.cap_run_log.specs.declared.lines.{RunLine.RunLine, RunPlace.RunPlace}
use Rattle.cap_run_log.specs.declared.lines.RunLine.TheVariants as lines
use Rattle.cap_run_log.specs.RunLines.{IsRunLineInRange}
use Rattle.cap_run.specs.declared.asks.Asks.{Asks}
use Rattle.cap_run.specs.Allowed.{AreAllowed, IsLineAllowed}
use Rattle.cap_run.specs.Descents.{Descends, LiesInRoot, StaysWithinRoots, access_of, run_along}
use Rattle.cap_run.specs.{Run.Run, RunChanges.{line_after, main_of, no_run, place_key}, RunChecks.line_end}
use Rattle.cap_run.proofs.LineLemmas.{main-tagged, stays_within, usual_leads}

-- a run after lines, from any run on
abbrev pub along : Run → List RunLine → Run
along run [] = run
along run (line ∷ rest) = along (line_after run line) rest

-- a run after lines is the fold of their changes
pub along-fold : (run : Run) (read : List RunLine) → fold line_after run read ≡ along run read
along-fold run [] = refl
along-fold run (line ∷ rest) = along-fold (line_after run line) rest

pub along-append : (run : Run) (before after : List RunLine) → along run (before ++ after) ≡ along (along run before) after
along-append run [] after = refl
along-append run (line ∷ before) after = along-append (line_after run line) before after

-- what allowed lines begin with is allowed, and what follows in what those lead to
pub allowed_parts : (asks : Asks) (run : Run) (before after : List RunLine) → AreAllowed asks run (before ++ after)
    → AreAllowed asks run before × AreAllowed asks (along run before) after
allowed_parts asks run [] after allowed = (tt, allowed)
allowed_parts asks run (line ∷ before) after allowed =
    let rest = allowed_parts asks (line_after run line) before after allowed.2 in
    ((allowed.0, allowed.1, rest.0), rest.1)

-- an allowed line keeps each tagged capability sound
pub sound_after : (asks : Asks) (run : Run) (line : RunLine) → IsRunLineInRange line → IsSoundState run.state → IsLineAllowed asks run line
    → IsSoundState (line_after run line).state
sound_after asks run line range sound allowed key held =
    elim (stays_within asks run line range sound allowed key held) [
      | inl root ↦ subst (λ (cap : Cap). IsSound cap.word.0) (sym root.holds) root.sound
      | inr from ↦ from.1.sound
    ]

-- the chain of parents of a tagged place leads back to a place that was tagged before the lines, and it reaches no more
record ChainsTo (run : Run) (lines_are : List RunLine) (w key from : ℕ) : Type 0 where
  pub descends : Descends run lines_are key from
  pub tag : (run.state from).tag ≡ true
  pub no_more : ReachesNoMore w (run.state from).word.0

-- or to a root that one of the lines declared
record RootedIn (run : Run) (lines_are : List RunLine) (w key : ℕ) : Type 0 where
  pub place : RunPlace
  pub word : Word
  pub before : List RunLine
  pub after : List RunLine
  pub declared : lines_are ≡ before ++ lines.Root place word ∷ after
  pub descends : Descends (along run (before ++ lines.Root place word ∷ [])) after key (place_key place)
  pub no_more : ReachesNoMore w word.0

-- one line further back
step_back : (asks : Asks) (run : Run) (line : RunLine) (rest : List RunLine) (w key : ℕ) → IsRunLineInRange line → IsSoundState run.state
    → IsLineAllowed asks run line
    → (middle : ℕ) × ChainsTo (line_after run line) rest w key middle
    → RootedIn run (line ∷ rest) w key ⊎ ((from : ℕ) × ChainsTo run (line ∷ rest) w key from)
step_back asks run line rest w key range sound allowed (middle, chain) =
    elim (stays_within asks run line range sound allowed middle chain.tag) [
      | inl root ↦ inl (record {
        place = root.place;
        word = root.word;
        before = [];
        after = rest;
        declared = ap (λ (l : RunLine). l ∷ rest) root.line_is;
        descends = subst (λ (l : RunLine). Descends (line_after run l) rest key (place_key root.place)) root.line_is
            (subst (λ (k : ℕ). Descends (line_after run line) rest key k) root.there chain.descends);
        no_more = subst (λ (cap : Cap). ReachesNoMore w cap.word.0) root.holds chain.no_more;
      })
      | inr from ↦ inr (
        from.0,
        record {
          descends = (middle, chain.descends, from.1.parent);
          tag = from.1.tag;
          no_more = ReachesNoMore-trans _ _ _ chain.no_more from.1.no_more;
        },
      )
    ]

further : (run : Run) (line : RunLine) (rest : List RunLine) (w key : ℕ) → RootedIn (line_after run line) rest w key
    → RootedIn run (line ∷ rest) w key
further run line rest w key root = record {
  place = root.place;
  word = root.word;
  before = line ∷ root.before;
  after = root.after;
  declared = ap (λ (r : List RunLine). line ∷ r) root.declared;
  descends = root.descends;
  no_more = root.no_more;
}

back : (asks : Asks) (run : Run) (read : List RunLine) (key : ℕ) → AreAllowed asks run read → IsSoundState run.state
    → ((along run read).state key).tag ≡ true
    → (let w = ((along run read).state key).word.0 in RootedIn run read w key ⊎ ((from : ℕ) × ChainsTo run read w key from))
back asks run [] key allowed sound held =
    inr (key, record { descends = refl; tag = held; no_more = ReachesNoMore-refl (run.state key).word.0 })
back asks run (line ∷ rest) key allowed sound held =
    let w = ((along (line_after run line) rest).state key).word.0 in
    elim (back asks (line_after run line) rest key allowed.2 (sound_after asks run line allowed.0 sound allowed.1) held) [
      | inl root ↦ inl (further run line rest w key root)
      | inr chain ↦ step_back asks run line rest w key allowed.0 sound allowed.1 chain
    ]

pub nothing_tagged : IsSoundState no_run.state
nothing_tagged key held = absurd (false≢true held)

-- after allowed lines each tagged capability is sound
pub sound_along : (asks : Asks) (run : Run) (read : List RunLine) → AreAllowed asks run read → IsSoundState run.state
    → IsSoundState (along run read).state
sound_along asks run [] allowed sound = sound
sound_along asks run (line ∷ rest) allowed sound =
    sound_along asks (line_after run line) rest allowed.2 (sound_after asks run line allowed.0 sound allowed.1)

-- a line that no check refuses is allowed, and is the last of allowed lines
pub allowed_by : (asks : Asks) (run : Run) (line : RunLine) → line_end asks run line ≡ None → IsLineAllowed asks run line
allowed_by asks run lines.Version free = tt
allowed_by asks run (lines.Mode mode) free = tt
allowed_by asks run (lines.Plain version) free = free
allowed_by asks run (lines.Root place word) free = free
allowed_by asks run (lines.Hart hart) free = free
allowed_by asks run (lines.Step step) free = free
allowed_by asks run (lines.Run step) free = free
allowed_by asks run (lines.End count) free = free

pub stays_within_roots : (asks : Asks) (read : List RunLine) → AreAllowed asks no_run read → StaysWithinRoots read
stays_within_roots asks read allowed key held =
    let last = along-fold no_run read in
    let held_along = ap (λ (run : Run). (run.state key).tag) (sym last) ∙ held in
    elim (back asks no_run read key allowed nothing_tagged held_along) [
      | inl root ↦ (
        root.place,
        root.word,
        record {
          before = root.before;
          after = root.after;
          declared = root.declared;
          descends = subst (λ (run : Run). Descends run root.after key (place_key root.place))
              (sym (along-fold no_run (root.before ++ lines.Root root.place root.word ∷ []))) root.descends;
        },
        subst (λ (run : Run). ReachesNoMore (run.state key).word.0 root.word.0) (sym last) root.no_more,
      )
      | inr chain ↦ absurd (false≢true chain.1.tag)
    ]

-- an access of an allowed line has a tagged authority, which allows it
pub granted_in : (asks : Asks) (run : Run) (line : RunLine) (access : Access) → IsLineAllowed asks run line → access_of run line ≡ Some access
    → (let cap = run.state access.authority in (cap.tag ≡ true) × IsAllowed cap.word.0 access.address access.size access.permission)
granted_in asks run (lines.Step step) access allowed is =
    let leads = usual_leads asks run step allowed in
    let free = ap (λ (row : Row). first_of row.checks) (sym (row_by-access run.rules (row_of (main_of run.state) step) access is)) ∙ leads.allowed in
    let grant = granted (main_of run.state) step access free is in
    let is_main = (main-tagged run.state access.authority grant.tag).1 in
    subst (λ (cap : Cap). (cap.tag ≡ true) × IsAllowed cap.word.0 access.address access.size access.permission) is_main
    (grant.tag, grant.allowed)
granted_in asks run line access allowed is = absurd (none-some access is)

pub lies_in_root : (asks : Asks) (read : List RunLine) (line : RunLine) → AreAllowed asks no_run read → IsLineAllowed asks (run_along read) line
    → LiesInRoot read line
lies_in_root asks read line allowed next access is =
    let grant = granted_in asks (run_along read) line access next is in
    let root = stays_within_roots asks read allowed access.authority grant.0 in
    let reach = root.3 in (
      root.0,
      root.1,
      root.2,
      (omega (arith, reach.inside.0, grant.1.from), omega (arith, reach.inside.1, grant.1.until)),
      reach.fewer access.permission grant.1.permits,
    )

-- at each moment of allowed lines, and at each access
pub stay_within_roots : (asks : Asks) (before after : List RunLine) → AreAllowed asks no_run (before ++ after) → StaysWithinRoots before
stay_within_roots asks before after allowed = stays_within_roots asks before (allowed_parts asks no_run before after allowed).0

pub lie_in_roots : (asks : Asks) (before after : List RunLine) (line : RunLine) → AreAllowed asks no_run (before ++ line ∷ after)
    → LiesInRoot before line
lie_in_roots asks before after line allowed =
    let parts = allowed_parts asks no_run before (line ∷ after) allowed in
    lies_in_root asks before line parts.0 (subst (λ (run : Run). IsLineAllowed asks run line) (sym (along-fold no_run before)) parts.1.1)
