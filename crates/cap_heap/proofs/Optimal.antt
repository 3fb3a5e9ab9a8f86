-- No choice of words does better than rounding.
use Rattle.std.proofs.Common.{ℕ, Bool, List, ◌++◌, subst}
use Rattle.cap_heap.specs.declared.{refusal.HeapRefusal.HeapRefusal, verdict.HeapVerdict.HeapVerdict}
use Rattle.cap_heap.specs.{declared.verdict.HeapVerdict.TheVariants.{Yes, No}, HeapLogs.CanBeGuardedThroughout}
use Rattle.cap_heap.specs.{HeapLogs.IsFirstHeapFault, HeapVerdicts.{IsHeapVerdictOf, IsOptimal}}
use Rattle.cap_heap.proofs.{Guarded.{guards_log, guarded_log}, OneReading.not_both}

-- a log at fault is none that can be guarded
not_guarded : (bytes : List ℕ) (line : ℕ) (refusal : HeapRefusal) → IsFirstHeapFault bytes line refusal → CanBeGuardedThroughout bytes → ⊥
not_guarded bytes line refusal fault (lines, root, events, bytes_are, log) =
    not_both lines root events (guarded_log lines root events log) line refusal (subst (λ (b : List ℕ). IsFirstHeapFault b line refusal) bytes_are fault)

pub optimal : (bytes : List ℕ) (ended : Bool) (verdict : HeapVerdict) → IsHeapVerdictOf bytes ended verdict → IsOptimal bytes ended verdict
optimal bytes ended (Yes count live) (is_over, lines, root, events, bytes_are, log, count_is, live_is) =
    (lines, root, events, bytes_are, guards_log lines root events log)
optimal bytes ended (No line refusal) is = λ more none can. not_guarded (bytes ++ more) line refusal (is more none) can
