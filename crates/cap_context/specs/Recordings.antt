-- What a clause reads of a recorder. All of it is this profile's own.
use Rattle.std.specs.Prelude.{ℕ}
use Rattle.cap_context.specs.declared.{keepings.Kept.Kept, recorders.Recorder.Recorder}

-- the source that is asked
abbrev pub source_of : {S : Type 0} → Recorder S → S
source_of s = s.source.now

-- the name of the reference to that source: while it stays, the source is the same
abbrev pub name_of_source : {S : Type 0} → Recorder S → ℕ
name_of_source s = s.source.ghost_name

-- what was kept
abbrev pub kept_by : {S : Type 0} → Recorder S → Kept
kept_by s = s.kept.now

-- the name of the reference to it
abbrev pub name_of_kept : {S : Type 0} → Recorder S → ℕ
name_of_kept s = s.kept.ghost_name
