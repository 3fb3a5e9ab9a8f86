use Rattle.std.proofs.Common.{◌∙◌, ap, length, arith}
use Rattle.hex.specs.Hex.{encode_lower}
use Rattle.cap_word.specs.Memory.{memory_of}
use Rattle.cap_word.proofs.{Bytes.length-memory_of, TextLemmas.at_ok}
use Rattle.cap_texts.proofs.MemoryTexts.{bytes_text-is, IsBytes-memory_of}
use Rattle.cap_texts.proofs.explain_lines.memory_text.Goals as goal

pub returns : goal.returns
returns c =
    let call = c.encode_to_slice-written in
    let count = ap length c.to_memory.ensures.bytes ∙ length-memory_of c.args.word.0 in
    record {
      text = at_ok call.result (call.ensures.fits.1 (omega (arith, count))) call.ensures.written
          ∙ ap encode_lower c.to_memory.ensures.bytes ∙ bytes_text-is (memory_of c.args.word.0) (IsBytes-memory_of c.args.word.0);
    }
