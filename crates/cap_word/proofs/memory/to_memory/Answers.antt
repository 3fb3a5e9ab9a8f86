use Rattle.std.proofs.Common.{ℕ, ◌≡◌, ◌+◌, ◌*◌, ◌/◌, ◌^◌, get_or, ap, ◌∙◌, arith, bit_xor}
use lib.Lanes.{digits_l}
use Rattle.cap_word.specs.Memory.{low_bytes, stored_word}
use Rattle.cap_word.proofs.Bytes.{lanes_are, get_or-memory_of, stored_word-memory_of}
use Rattle.cap_word.proofs.memory.to_memory.Goals as goal

written : goal.returns-clause-bytes
written c =
    let stored = bit_xor c.args.word.0 c.null.result.0 in
    let whole : c.address.result + 2 ^ 64 * (stored / 2 ^ 64 + 0) ≡ stored = omega (arith, c.address.ensures.value) in
    ap (digits_l 256 16) whole ∙ lanes_are 16 stored ∙ ap (λ (x : ℕ). low_bytes 16 (bit_xor c.args.word.0 x)) c.null.ensures.value

pub returns-clause-bytes : goal.returns-clause-bytes
returns-clause-bytes c = written c

pub returns-clause-by_index : goal.returns-clause-by_index
returns-clause-by_index c = λ i h. ap (λ xs. get_or xs i 0) (written c) ∙ get_or-memory_of c.args.word.0 i h

pub returns-clause-reads_back : goal.returns-clause-reads_back
returns-clause-reads_back c = ap stored_word (written c) ∙ stored_word-memory_of c.args.word.0 (omega arith)
