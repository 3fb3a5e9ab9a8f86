-- An input that is missing.
use Rattle.std.proofs.Common.{[], refl, arith}
use Rattle.cap_vectors.specs.VectorFiles.{BreaksOff}

-- no bytes are whole lines that are true, with nothing behind them
pub breaks_off_nothing : BreaksOff []
breaks_off_nothing = record {
  count = 0;
  rest = [];
  begins = record { vectors = []; count_is = refl; few = omega arith; all_true = tt; bytes_are = refl };
  cut = (omega arith, λ k d below. absurd (omega (arith, below)));
}
