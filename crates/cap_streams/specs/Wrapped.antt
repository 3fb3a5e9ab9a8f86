-- What sources and sinks over others hold: over a reader or a writer, or over one of which one request fails. All of it is
-- this profile's own.
use Rattle.std.specs.Prelude.{ℕ, Bool, Option, None, Some}
use Rattle.cap_streams.specs.declared.sinks.{faults.FailingSink.FailingSink, writers.WriteSink.WriteSink}
use Rattle.cap_streams.specs.declared.sources.{faults.FailingSource.FailingSource, readers.ReadSource.ReadSource}

-- the reader that is asked
abbrev pub reader_of : {R : Type 0} {g : _} → ReadSource R g → R
reader_of s = s.reader

-- the writer that is asked
abbrev pub writer_of : {W : Type 0} {g : _} → WriteSink W g → W
writer_of s = s.writer.now

-- the name of the reference to a sink's writer: while it stays, the writer is the same
abbrev pub name_of_writer : {W : Type 0} {g : _} → WriteSink W g → ℕ
name_of_writer s = s.writer.ghost_name

-- whether the writer was flushed, and was given nothing since
abbrev pub has_flushed : {W : Type 0} {g : _} → WriteSink W g → Bool
has_flushed s = s.is_flushed

-- how many faults a sink over a writer counted
abbrev pub faults_of_writer : {W : Type 0} {g : _} → WriteSink W g → ℕ
faults_of_writer s = s.faults

-- the source that is asked
abbrev pub inner_source : {S : Type 0} → FailingSource S → S
inner_source s = s.inner

-- how many pulls come before the one that fails; none once it has failed
abbrev pub pulls_left : {S : Type 0} → FailingSource S → Option ℕ
pulls_left s = s.waits

-- whether the last pull was the one that failed
abbrev pub has_just_failed : {S : Type 0} → FailingSource S → Bool
has_just_failed s = s.is_failed

-- the sink that is asked
abbrev pub inner_sink : {K : Type 0} → FailingSink K → K
inner_sink s = s.inner

-- how many pushes come before the one that fails; none once it has failed
abbrev pub pushes_left : {K : Type 0} → FailingSink K → Option ℕ
pushes_left s = s.waits

-- the faults of its own: one, once it waits no longer
abbrev pub own_faults : Option ℕ → ℕ
own_faults (Some waits) = 0
own_faults None = 1
