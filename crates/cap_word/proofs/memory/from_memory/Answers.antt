use Rattle.std.proofs.Common.{ℕ, get_or, sym, ap, ◌∙◌, bit_xor}
use Rattle.cap_word.specs.Memory.{memory_of}
use Rattle.cap_word.proofs.Bytes.{from_le_bytes_is, get_or-memory_of, memory_of-stored_word}
use Rattle.cap_word.proofs.memory.from_memory.Goals as goal

read : goal.returns-clause-word
read c = ap (λ (x : ℕ). bit_xor x c.null.result.0) (c.from_le_bytes.ensures ∙ from_le_bytes_is c.args.bytes.now c.told-bytes)
    ∙ ap (bit_xor _) c.null.ensures.value

back : goal.returns-clause-writes_back
back c = ap memory_of (read c) ∙ memory_of-stored_word c.args.bytes.now c.told-bytes c.fits-bytes

pub returns-clause-word : goal.returns-clause-word
returns-clause-word c = read c

pub returns-clause-by_index : goal.returns-clause-by_index
returns-clause-by_index c = λ i h. sym (get_or-memory_of _ i h) ∙ ap (λ xs. get_or xs i 0) (back c)

pub returns-clause-writes_back : goal.returns-clause-writes_back
returns-clause-writes_back c = back c
