-- What the steps of runs do (this profile's own).
use Rattle.std.specs.Prelude.{◌≡◌, ℕ, ◌+◌, Bool, ◌==◌, nat_le, if◌then◌else◌, Option, Some, None, option_map}
use Rattle.cap_word.specs.declared.word.{Cap.Cap, Word.Word}
use Rattle.cap_ops.specs.declared.derived_words.DeriveFault.{DeriveFault, TheVariants.{SourceUntagged, UnsoundResult, BeyondSource, SealChanged}}
use Rattle.cap_ops.specs.declared.derived_words.InvokeFault.{InvokeFault, TheVariants.{AuthorityUntagged, NotInvokable, WrongResult}}
use Rattle.cap_ops.specs.declared.refusal.Refusal as usual
use Rattle.cap_ops.specs.{Checks.first_of, DerivedWords.{derive_checks, invoke_checks}}
use Rattle.cap_machine.specs.{Accounts.most_steps, Helds.Held, States.{put}}
use Rattle.cap_objects.specs.{Counts.at_key, Handed.IsRecounted}
use Rattle.cap_run_log.specs.declared.lines.{Derive.Derive, Exchange.Exchange, Invoke.Invoke}
use Rattle.cap_run_log.specs.declared.lines.RunRegister.{RunRegister, TheVariants.{General, Special}}
use Rattle.cap_run.specs.declared.ends.{RunRefusal.RunRefusal}
use Rattle.cap_run.specs.declared.ends.RunRefusal.TheVariants as refusals
use Rattle.cap_run.specs.{Run.{Run, first_special, register_key}}

-- the refusal that a failed check of a derivation is
abbrev pub derive_refusal : DeriveFault → RunRefusal
derive_refusal SourceUntagged = refusals.Usual usual.TheVariants.SourceUntagged
derive_refusal UnsoundResult = refusals.UnsoundResult
derive_refusal BeyondSource = refusals.BeyondSource
derive_refusal SealChanged = refusals.SealChanged

-- that of a failed check of an invocation
abbrev pub invoke_refusal : InvokeFault → RunRefusal
invoke_refusal AuthorityUntagged = refusals.Usual usual.TheVariants.AuthorityUntagged
invoke_refusal NotInvokable = refusals.NotInvokable
invoke_refusal WrongResult = refusals.Usual usual.TheVariants.WrongResult

-- whether a register is PCC: there alone a sentry opens
abbrev pub is_pcc : RunRegister → Bool
is_pcc register = register_key register == first_special

-- why a register can't get what is derived from a source: no check where it has no tag
abbrev pub derived_refusal : RunRegister → Cap → Cap → Option RunRefusal
derived_refusal target source result =
    if result.tag then option_map derive_refusal (first_of (derive_checks source result.word.0 (is_pcc target))) else None

-- why a pair can't be invoked
abbrev pub invoked_refusal : Cap → Cap → Word → Word → Option RunRefusal
invoked_refusal code data_cap code_word data_word =
    option_map invoke_refusal (first_of (invoke_checks code data_cap code_word.0 data_word.0))

-- the first of two refusals, the later of which may never come
abbrev pub or_later : Option RunRefusal → Option RunRefusal → Option RunRefusal
or_later None later = later
or_later (Some refusal) later = Some refusal

-- the refusal of one step more
abbrev pub step_limit : Run → Option RunRefusal
step_limit run = if nat_le most_steps run.steps then Some (refusals.Usual usual.TheVariants.LimitPassed) else None

-- after a step that named no granule and handed out nothing
pub record IsStepped (old new : Run) : Type 0 where
  pub count : new.count ≡ old.count
  pub harts : new.harts ≡ old.harts
  pub rules : new.rules ≡ old.rules
  pub limits : new.limits ≡ old.limits
  pub roots : new.roots ≡ old.roots
  pub steps : new.steps ≡ old.steps + 1
  pub is_named : new.is_named ≡ old.is_named
  pub granules : new.granules ≡ old.granules

-- a step wrote a capability to a place, which then has an owner; objects that so come to be neither live nor held are gone
pub record Writes (old : Run) (key : ℕ) (cap : Cap) (owner : Option ℕ) (new : Run) : Type 0 where
  pub state : new.state ≡ put old.state key cap
  pub owners : (other : ℕ) → new.owners other ≡ at_key old.owners key owner other
  pub objects : IsRecounted old.objects new.objects
  pub rest : IsStepped old new

-- a step wrote to two places
pub record WritesBoth (old : Run) (first : ℕ) (one : Cap) (one_owner : Option ℕ) (second : ℕ) (two : Cap) (two_owner : Option ℕ)
    (new : Run) : Type 0 where
  pub state : new.state ≡ put (put old.state first one) second two
  pub owners : (other : ℕ) → new.owners other ≡ at_key (at_key old.owners first one_owner) second two_owner other
  pub objects : IsRecounted old.objects new.objects
  pub rest : IsStepped old new

-- registers or special registers alone changed
abbrev pub IsUnstepped : Held → Held → Type 0
IsUnstepped old new =
    (new.rules ≡ old.rules) × (new.memory ≡ old.memory) × (new.roots ≡ old.roots) × (new.steps ≡ old.steps) × (new.limits ≡ old.limits)

-- why `derive` is refused
abbrev pub derive_end : Run → Derive → Option RunRefusal
derive_end old step = or_later (derived_refusal step.target (old.state (register_key step.source)) step.result) (step_limit old)

-- why `exchange` is refused: both sources are read before, and the checks of the first come first
abbrev pub exchange_end : Run → Exchange → Option RunRefusal
exchange_end old step =
    or_later (derived_refusal (General step.target) (old.state (register_key (Special step.special))) step.result)
    (or_later (derived_refusal (Special step.special) (old.state step.source) step.special_result) (step_limit old))

-- why `invoke` is refused
abbrev pub invoke_end : Run → Invoke → Option RunRefusal
invoke_end old step =
    or_later (invoked_refusal (old.state step.code) (old.state step.datum) step.code_word step.datum_word) (step_limit old)
