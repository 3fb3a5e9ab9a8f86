-- What a clause reads of pulled bytes. All of it is this profile's own.
use Rattle.std.specs.Prelude.{ℕ, ◌-◌, List, slice_range}
use Rattle.cap_streams.specs.declared.read_buffer.ReadBuffer.{ReadBuffer}

-- the bytes that are held
abbrev pub items : ReadBuffer → List ℕ
items w = slice_range w.bytes w.start w.end

-- how many bytes fit behind them
abbrev pub room : ReadBuffer → ℕ
room w = 32768 - w.end

-- the buffer that they are held in
abbrev pub buffer_of : ReadBuffer → List ℕ
buffer_of w = w.bytes

-- the index of the first
abbrev pub start_of : ReadBuffer → ℕ
start_of w = w.start
