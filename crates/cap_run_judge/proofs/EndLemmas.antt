-- The verdict that a judge's stages tell of the bytes that it read.
use Rattle.std.proofs.Common.{◌≡◌, ◌≢◌, ℕ, inl, inr, Bool, true, false, List, [], ◌++◌, refl, sym, ap, subst, ◌∙◌, append-nil, arith}
use Rattle.std.proofs.lemmas.List.Elements.{All-nil}
use Rattle.cap_streams.specs.Front.{IsCut}
use Rattle.cap_turns.specs.{Readings.Follows, Turns.{Goes, IsAtFault, Refused}, Verdicts.IsNo}
use Rattle.cap_turns.proofs.{EndLemmas.{StopsWith, cut_told, refused_told, whole_told}, FollowLemmas.{fault_end, faults_at}}
use Rattle.cap_run.specs.declared.{asks.Asks.Asks, ends.RunRefusal.RunRefusal}
use Rattle.cap_run_judge.specs.{declared.verdict.RunVerdict.{RunVerdict, TheVariants.{Yes, No}}, Readings.{VerdictAtEnd, VerdictWith}}
use Rattle.cap_run_judge.specs.{Turns.{Asked, RunStage, run_turns, unread}, Verdicts.IsRunVerdict}
use Rattle.cap_run_judge.proofs.CountLemmas.{run_lawful}

module _ (asks_are : Asks) where
  no_told : (bytes : List ℕ) (ended : Bool) (asked : Asked) (line : ℕ) (refusal : RunRefusal) (text : List ℕ)
      → IsNo run_turns (unread asks_are) bytes ended line refusal → StopsWith run_turns (unread asks_are) bytes ended asked line text
      → VerdictWith asks_are bytes ended asked.run (No line refusal) text
  no_told bytes true asked line refusal text is stops = (is, (stops.0, ap (λ (a : Asked). a.run) stops.1))
  no_told bytes false asked line refusal text is stops = (is, (stops.0, ap (λ (a : Asked). a.run) stops.1))

  -- after a faulty line it is a no, which stands whatever follows, by the run before that line
  pub no_ends : (bytes : List ℕ) (stage : RunStage) (line : ℕ) (refusal : RunRefusal) (text : List ℕ) (ended : Bool)
      → Follows run_turns (unread asks_are) bytes stage → stage.due ≡ Refused line refusal text
      → VerdictWith asks_are bytes ended stage.state.run (No line refusal) text
  no_ends bytes stage line refusal text ended follows is =
      let told = refused_told run_turns (run_lawful asks_are) bytes stage ended line refusal text follows is in
      no_told bytes ended stage.state line refusal text told.0 told.1

  pub no_stands : (bytes : List ℕ) (stage : RunStage) (line : ℕ) (refusal : RunRefusal) (text : List ℕ)
      → Follows run_turns (unread asks_are) bytes stage → stage.due ≡ Refused line refusal text → (more : List ℕ)
      → IsRunVerdict asks_are (bytes ++ more) (No line refusal)
  no_stands bytes stage line refusal text follows is = (no_ends bytes stage line refusal text false follows is).0

  pub fault_told : (bytes : List ℕ) (stage : RunStage) (rest : List ℕ) (ended : Bool) (verdict : RunVerdict) (text : List ℕ)
      → Follows run_turns (unread asks_are) bytes stage → IsAtFault stage.due → VerdictAtEnd stage rest verdict text
      → VerdictWith asks_are bytes ended stage.state.run verdict text
  fault_told bytes stage rest ended (Yes steps roots objects) text follows at_fault ends =
      absurd (subst IsAtFault (sym (fault_end run_turns stage.state stage.due rest at_fault) ∙ ends.0) at_fault)
  fault_told bytes stage rest ended (No line refusal) text follows at_fault ends =
      no_ends bytes stage line refusal text ended follows (sym (fault_end run_turns stage.state stage.due rest at_fault) ∙ ends)

  -- the verdict where the bytes end
  pub end_told : (front rest : List ℕ) (stage : RunStage) (verdict : RunVerdict) (text : List ℕ) → Goes run_turns (unread asks_are) front stage
      → IsCut rest → VerdictAtEnd stage rest verdict text → VerdictWith asks_are (front ++ rest) true stage.state.run verdict text
  end_told front rest stage (Yes steps roots objects) text goes cut ends =
      let whole = whole_told run_turns (run_lawful asks_are) front rest stage goes ends.0 in (
        record { stage = stage; whole = whole; step_count_is = ends.1; root_count_is = ends.2; object_count_is = ends.3 },
        record { stage = stage; whole = whole; run_is = refl },
      )
  end_told front rest stage (No line refusal) text goes cut ends =
      let told = cut_told run_turns (run_lawful asks_are) front rest stage goes line refusal text cut ends in
      no_told (front ++ rest) true stage.state line refusal text told.0 told.1

  -- the verdict on bytes as a whole log, by the run then or before the faulty line
  pub all_ends : (bytes : List ℕ) (stage : RunStage) (verdict : RunVerdict) (text : List ℕ) → Follows run_turns (unread asks_are) bytes stage
      → VerdictAtEnd stage [] verdict text → VerdictWith asks_are bytes true stage.state.run verdict text
  all_ends bytes stage verdict text (inl goes) ends =
      subst (λ (b : List ℕ). VerdictWith asks_are b true stage.state.run verdict text) (append-nil bytes)
      (end_told bytes [] stage verdict text goes (omega arith, All-nil (λ b. b ≢ 10)) ends)
  all_ends bytes stage verdict text (inr faulty) ends =
      fault_told bytes stage [] true verdict text (inr faulty) (faults_at run_turns faulty.3 faulty.1 stage faulty.5) ends
