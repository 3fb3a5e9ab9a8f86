-- What a clause reads of a writer whose first bytes are kept. All of it is this profile's own.
use Rattle.std.specs.Prelude.{ℕ, List, take}
use Rattle.capdiag.specs.declared.noting.Noting.{Noting}

-- the writer that is lent
abbrev pub writer_of : {W : Type 0} {g : _} → Noting W g → W
writer_of s = s.writer.now

-- the first bytes that it took
abbrev pub noted : {W : Type 0} {g : _} → Noting W g → List ℕ
noted s = take s.length s.front
