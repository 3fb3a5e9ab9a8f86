-- What a judge that pushes a text tells.
use Rattle.std.proofs.Common.{ℕ, Bool, true, false, List, take, refl, Ok, Err}
use Rattle.cap_streams.specs.declared.judging.judge_faults.JudgeToFault.TheVariants.{Push}
use Rattle.cap_heap.specs.declared.{progress.Progress.Progress, verdict.HeapVerdict.HeapVerdict}
use Rattle.cap_heap.specs.{declared.verdict.HeapVerdict.TheVariants.{Yes, No}, HeapVerdicts.ReportsAfter}
use Rattle.cap_heap.specs.{Judgings.{JudgedBy, StopsAfter}, Texts.IsText, VerdictLines.{TellsHeap, Told, heap_line}}
use Rattle.cap_heap.proofs.BeginningLemmas.{fault_of}

-- without reports the text is the verdict's line
pub plain : (bytes : List ℕ) (ended : Bool) (verdict : HeapVerdict) → TellsHeap false false bytes ended verdict (heap_line verdict)
plain bytes ended (Yes events live) = refl
plain bytes ended (No line refusal) = refl

-- the text by what was read and refused is that of the bytes
tells : (reports why : Bool) (progress : Progress) (line : List ℕ) (bytes : List ℕ) (ended : Bool) (verdict : HeapVerdict) (text : List ℕ)
    → ReportsAfter bytes progress.report verdict → StopsAfter bytes ended progress line verdict → IsText reports why progress line verdict text
    → TellsHeap reports why bytes ended verdict text
tells false why progress line bytes ended (Yes events live) text reported stopped is = is
tells true why progress line bytes ended (Yes events live) text reported stopped is = (progress.report, reported, is)
tells reports false progress line bytes ended (No number refusal) text reported stopped is = is
tells reports true progress line bytes ended (No number refusal) text reported stopped is = (
  is.0,
  λ more none. let stop = stopped more none in record {
    fault = fault_of stop;
    text = line;
    front = stop.front;
    details = is.1.0;
    are = is.1.1 stop.beginning stop.stands;
    report_is = is.1.2;
  },
  is.2,
)

module _ {S K : Type 0} {gave : S → S → List ℕ → Type 0} {ended : S → Bool} {took : K → K → List ℕ → Type 0} {old new : S} {before after : K}
    {verdict : HeapVerdict} {progress : Progress} {line : List ℕ} (reports why : Bool)
    (judged : JudgedBy gave ended old new (Ok verdict) progress line) (text : List ℕ) (is : IsText reports why progress line verdict text) where
  pub told : took before after text → Told reports why gave ended took old new before after (Ok verdict)
  told taken = record {
    given = judged.judged.given;
    gives = judged.judged.gives;
    told = (
      judged.judged.answer,
      text,
      tells reports why progress line judged.judged.given (ended new) verdict text judged.reported judged.stopped is,
      taken,
    );
  }

  pub broken : (n : ℕ) → took before after (take n text) → Told reports why gave ended took old new before after (Err Push)
  broken n taken = record {
    given = judged.judged.given;
    gives = judged.judged.gives;
    told = (
      verdict,
      judged.judged.answer,
      text,
      tells reports why progress line judged.judged.given (ended new) verdict text judged.reported judged.stopped is,
      n,
      taken,
    );
  }
