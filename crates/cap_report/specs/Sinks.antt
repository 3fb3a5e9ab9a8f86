-- What a clause reads of a `TextSink`. All of it is this profile's own.
use Rattle.std.specs.Prelude.{◌≡◌, ℕ, List}
use Rattle.cap_report.specs.{declared.texts.TextSink.TextSink, Texts.IsTold}

-- the bytes of a sink's room
abbrev pub bytes_in : TextSink → List ℕ
bytes_in s = s.room.now

-- how many bytes it counted
abbrev pub counted_by : TextSink → ℕ
counted_by s = s.length

-- how many pushes failed: none does
abbrev pub failed_pushes : TextSink → ℕ
failed_pushes s = 0

-- the name of the reference to a sink's room: while it stays, the room is the same
abbrev pub name_of_room : TextSink → ℕ
name_of_room s = s.room.ghost_name

-- the bytes that a sink took between two moments: they are counted behind those that it had, and stand behind them
-- where they fit
abbrev pub Took : TextSink → TextSink → List ℕ → Type 0
Took old new bytes = (new.room.ghost_name ≡ old.room.ghost_name) × IsTold old.length new.length bytes old.room.now new.room.now
