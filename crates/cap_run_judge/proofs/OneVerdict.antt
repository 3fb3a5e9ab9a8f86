-- Bytes have a verdict, and no two.
use Rattle.std.proofs.Common.{◌≡◌, ℕ, inl, inr, List, ap, refl, sym, ◌∙◌}
use Rattle.cap_turns.proofs.{OneEnd.{never_both, one_fault, one_whole}, SomeEnd.some_end}
use Rattle.cap_run.specs.declared.asks.Asks.{Asks}
use Rattle.cap_run_judge.specs.{declared.verdict.RunVerdict.{RunVerdict, TheVariants.{Yes, No}}, Turns.{RunStage, run_turns}}
use Rattle.cap_run_judge.specs.Verdicts.{IsRunVerdict}
use Rattle.cap_run_judge.proofs.{CountLemmas.run_lawful, TurnLemmas.run_spelled}

pub one_verdict : (asks_are : Asks) (bytes : List ℕ) (a b : RunVerdict) → IsRunVerdict asks_are bytes a → IsRunVerdict asks_are bytes b → a ≡ b
one_verdict asks_are bytes (Yes steps roots objects) (Yes steps' roots' objects') h k =
    let same = one_whole run_turns run_spelled bytes h.stage k.stage h.whole k.whole in
    cc (
      h.step_count_is ∙ ap (λ (s : RunStage). s.state.run.steps) same ∙ sym k.step_count_is,
      h.root_count_is ∙ ap (λ (s : RunStage). s.state.run.roots) same ∙ sym k.root_count_is,
      h.object_count_is ∙ ap (λ (s : RunStage). s.state.run.count) same ∙ sym k.object_count_is,
    )
one_verdict asks_are bytes (Yes steps roots objects) (No line refusal) h k =
    absurd (never_both run_turns run_spelled bytes h.stage line refusal h.whole k)
one_verdict asks_are bytes (No line refusal) (Yes steps roots objects) h k =
    absurd (never_both run_turns run_spelled bytes k.stage line refusal k.whole h)
one_verdict asks_are bytes (No line refusal) (No line' refusal') h k =
    let same = one_fault run_turns run_spelled bytes line line' refusal refusal' h k in cc (same.0, same.1)

pub some_run_verdict : (asks_are : Asks) (bytes : List ℕ) → (verdict : RunVerdict) × IsRunVerdict asks_are bytes verdict
some_run_verdict asks_are bytes =
    elim (some_end run_turns (run_lawful asks_are) bytes) [
      | inl whole ↦ (
        Yes whole.0.state.run.steps whole.0.state.run.roots whole.0.state.run.count,
        record { stage = whole.0; whole = whole.1; step_count_is = refl; root_count_is = refl; object_count_is = refl },
      )
      | inr fault ↦ (No fault.0 fault.1, fault.2)
    ]
