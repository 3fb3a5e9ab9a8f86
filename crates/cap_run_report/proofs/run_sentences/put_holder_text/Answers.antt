use Rattle.std.proofs.Common.{ℕ, [], ◌++◌, codes, inl, inr, refl, subst}
use Rattle.cap_streams.specs.Written.{Writes, Writes-nothing, ◌⨾◌}
use Rattle.cap_run_judge.specs.OwnerLists.{hart_place_spelling}
use Rattle.cap_run_report.specs.RunSentences.{others_text}
use Rattle.cap_run_report.proofs.run_sentences.put_holder_text.Goals as goal

pub returns-in-Some-clause-written : goal.returns-in-Some-clause-written
returns-in-Some-clause-written g c =
    let hart = c.in-Some.hart in
    let place = c.in-Some.place in (
      _,
      inl ((hart, place), c.in-Some.ensures.some, refl),
      subst
          (λ (current : ℕ). Writes c.args.at (codes "; " ++ hart_place_spelling current hart place ++ codes " still holds it" ++ others_text c.args.object.held)
          c.args.buffer.now c.put_others_text.new.buffer c.put_others_text.result) c.hart.ensures.value
          (c.put-at.ensures.written ⨾ c.put_hart_place-at.ensures.text ⨾ c.put-at-in-Some.ensures.written ⨾ c.put_others_text.ensures.written),
    )

pub returns-in-None-clause-written : goal.returns-in-None-clause-written
returns-in-None-clause-written g c = ([], inr (c.in-None.ensures.none, refl), Writes-nothing)
