use Rattle.std.proofs.{Common.{◌<◌, refl, rules, arith}, lemmas.List.Elements.All-from_get_or}
use Rattle.cap_word.specs.Memory.{memory_of}
use Rattle.cap_word.proofs.Bytes.{length-memory_of}
use Rattle.cap_texts.proofs.MemoryTexts.{IsBytes-memory_of}
use Rattle.cap_vectors.proofs.writers.write_memory.Goals as goal

pub returns-clause-line : goal.returns-clause-line
returns-clause-line c =
    let w = c.args.word.0 in
    record {
      spelled = search rules;
      true_vector = record {
        in_range = (
          omega arith,
          length-memory_of w,
          All-from_get_or (λ byte. byte < 256) (memory_of w) 0
              (λ k below. IsBytes-memory_of w k),
        );
        holds = refl;
      };
    }
