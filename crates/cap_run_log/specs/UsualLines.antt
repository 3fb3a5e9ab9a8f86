-- Lines that logs of version 2 and run logs both have. All of it is this profile's own.
use Rattle.cap_log.specs.declared.lines.{Line.{Line, TheVariants.{End, Mode, Root, Step, Version}}, Place.{Place, TheVariants.{Granule, Register}}}
use Rattle.cap_run_log.specs.declared.lines.{RunLine.RunLine, RunPlace.RunPlace}
use Rattle.cap_run_log.specs.declared.lines.RunLine.TheVariants as lines
use Rattle.cap_run_log.specs.declared.lines.RunPlace.TheVariants as places

-- a place of the machine without special registers, as one of a run
abbrev pub in_run : Place → RunPlace
in_run (Register number) = places.General number
in_run (Granule number) = places.Granule number

-- a line of a log, as a line of a run log
abbrev pub as_run : Line → RunLine
as_run (Version version) = lines.Plain version
as_run (Mode mode) = lines.Mode mode
as_run (Root place word) = lines.Root (in_run place) word
as_run (Step step) = lines.Step step
as_run (End count) = lines.End count

-- a line that logs have, too: neither the version line of a run log, nor a root at a special register, nor a hart line, nor a
-- step that only runs have
abbrev pub IsUsualLine : RunLine → Type 0
IsUsualLine lines.Version = ⊥
IsUsualLine (lines.Root (places.Special number) word) = ⊥
IsUsualLine (lines.Hart hart) = ⊥
IsUsualLine (lines.Run step) = ⊥
IsUsualLine line = Unit {0}
