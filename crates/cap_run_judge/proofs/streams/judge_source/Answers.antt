use Rattle.std.proofs.Common.{◌≢◌, ◌++◌, [], ℕ, List, ap, append-nil, append_assoc, arith, eq-eqb, inr, length, refl}
use Rattle.std.proofs.{Common.{subst, sym, ◌∙◌}, lemmas.List.Elements.All-nil}
use Rattle.cap_streams.specs.{FaultLines.bytes_of, Front.IsCut, ReadBuffers.items, Streams.next_count}
use Rattle.cap_judge.proofs.SourceLemmas.{given_more, nothing_more}
use Rattle.cap_run_judge.specs.{Readings.{AnswerAtEnd, VerdictWith, stage_of}, Turns.{unread, run_turns}}
use Rattle.cap_run_judge.proofs.SourceLemmas.{answered_counts, ended_answer, lacking_counts, lacking_judged, pull_judged, verdict_judged}
use Rattle.cap_run_judge.proofs.{EndLemmas.{end_told, fault_told}, CountLemmas.run_lawful}
use Rattle.cap_run_judge.proofs.streams.judge_source.Goals as goal
use Rattle.cap_run.specs.Machines.{run_in}
use Rattle.cap_turns.proofs.{EndLemmas.{closer, lacks_memory}, FollowLemmas.faults_at, TurnLemmas.{goes_none, goes_on}}

pub pieces-init : goal.pieces-init
pieces-init g c =
    let none = sym c.new-pulled.ensures.empty in
    let asks = c.args.judge.now.machine.asks in
    record {
      here = (
        [],
        subst (λ (b : List ℕ). g.S.Source.gave c.args.source.now c.args.source.now b) none (g.met.S.Source.nothing c.args.source.now),
        rw c.requires.begun (goes_none run_turns (unread asks)),
      );
      cut = subst IsCut none (omega arith, All-nil (λ b. b ≢ 10));
      counted = refl;
    }

pub returns-in-Ok-eq0-clause-judged : goal.returns-in-Ok-eq0-clause-judged
returns-in-Ok-eq0-clause-judged g c =
    let asks = c.args.judge.now.machine.asks in
    let here = c.pieces.invariant.here in
    let ok = c.in-Ok-eq0.ensures.ok in
    let none = ok.1 ∙ c.in-Ok-eq0.field-0-test in
    let end = ok.4 ∙ eq-eqb c.in-Ok-eq0.field-0 0 c.in-Ok-eq0.field-0-test in
    let stage = stage_of c.pieces.judge in
    let now = items c.fill.new.self in
    let text = bytes_of c.answered.result.1 in
    let cut = subst IsCut (sym (nothing_more (items c.pieces.pulled) ok.0 now ok.2 none)) c.pieces.invariant.cut in
    let shown = c.as_slice.ensures.value in
    let ends = subst (λ (b : List ℕ). AnswerAtEnd stage b c.ending.result) shown (c.ending.ensures.ends (subst IsCut (sym shown) cut)) in
    let answer = ended_answer stage now text c.ending.result c.answered.result.0 c.answered.ensures ends in
    let tells = end_told asks here.0 now stage answer.0 text here.2 cut answer.2 in
    verdict_judged asks g.S.Source.gave g.S.Source.ended c.args.source.now c.fill.new.source stage.state.run text (here.0 ++ now)
    c.answered.result.0 answer.0 answer.1 (rw end tells)
    (given_more g.S.Source.gave here.0 (items c.pieces.pulled) now g.met.S.Source.joined here.1 ok.3 ok.2)

pub returns-in-Err-clause-judged : goal.returns-in-Err-clause-judged
returns-in-Err-clause-judged g c =
    let gave = g.S.Source.gave in
    let here = c.pieces.invariant.here in
    let given = here.0 ++ items c.pieces.pulled in
    pull_judged c.args.judge.now.machine.asks gave g.S.Source.ended c.args.source.now c.fill.new.source (run_in c.pieces.judge.machine) _ given
    (stage_of c.pieces.judge) here.0 (items c.pieces.pulled) here.2 c.pieces.invariant.cut refl refl
    (subst (gave c.args.source.now c.fill.new.source) (append-nil given)
    (g.met.S.Source.joined c.args.source.now c.pieces.source c.fill.new.source given [] here.1 c.in-Err.ensures.err.1))

pub pieces-preserved : goal.pieces-preserved
pieces-preserved g c =
    let here = c.pieces.invariant.here in
    let ok = c.in-Ok.ensures.ok in
    let taken = c.in-Cut.ensures.taken in
    let rest = items c.take_pulled.new.pulled in
    let gives = given_more g.S.Source.gave here.0 (items c.pieces.pulled) (taken.0 ++ rest) g.met.S.Source.joined here.1 ok.3
    (sym taken.1 ∙ ok.2) in
    record {
      here = (
        here.0 ++ taken.0,
        subst (g.S.Source.gave c.args.source.now c.fill.new.source) (sym (append_assoc here.0 taken.0 rest)) gives,
        goes_on run_turns (unread c.args.judge.now.machine.asks) (stage_of c.pieces.judge) (stage_of c.take_pulled.new.judge) here.0 taken.0 here.2 taken.2.0,
      );
      cut = taken.2.1;
      counted = c.in-Ok.ensures.counted ∙ c.pieces.invariant.counted;
    }

pub pieces-smaller : goal.pieces-smaller
pieces-smaller g c =
    let here = c.pieces.invariant.here in
    let ok = c.in-Ok.ensures.ok in
    let taken = c.in-Cut.ensures.taken in
    let some : length ok.0 ≢ 0 = λ none. c.in-Ok.field-0-test.1 (sym ok.1 ∙ none) in
    closer run_turns (run_lawful c.args.judge.now.machine.asks) 12884902000 (stage_of c.pieces.judge) (stage_of c.take_pulled.new.judge) here.0 taken.0
    (items c.pieces.pulled) ok.0 (items c.take_pulled.new.pulled) here.2 taken.2.0 (sym ok.2 ∙ taken.1) c.pieces.invariant.cut taken.2.1 some
    (omega (arith, c.take_pulled.ensures.few))

pub returns-in-Fault-clause-judged : goal.returns-in-Fault-clause-judged
returns-in-Fault-clause-judged g c =
    let asks = c.args.judge.now.machine.asks in
    let here = c.pieces.invariant.here in
    let ok = c.in-Ok.ensures.ok in
    let new = stage_of c.take_pulled.new.judge in
    let taken = c.in-Fault.ensures.taken in
    let rest = items c.take_pulled.new.pulled in
    let text = bytes_of c.answered-in-Fault.result.1 in
    let goes = goes_on run_turns (unread asks) (stage_of c.pieces.judge) taken.2.0 here.0 taken.0 here.2 taken.2.1 in
    let ends = c.ending-in-Fault.ensures.ends (omega arith, All-nil (λ b. b ≢ 10)) in
    let answer = ended_answer new [] text c.ending-in-Fault.result c.answered-in-Fault.result.0 c.answered-in-Fault.ensures ends in
    let ended = g.S.Source.ended c.fill.new.source in
    verdict_judged asks g.S.Source.gave g.S.Source.ended c.args.source.now c.fill.new.source new.state.run text (here.0 ++ (taken.0 ++ rest))
    c.answered-in-Fault.result.0 answer.0 answer.1
    (subst (λ (b : List ℕ). VerdictWith asks b ended new.state.run answer.0 text) (append_assoc here.0 taken.0 rest)
    (fault_told asks ((here.0 ++ taken.0) ++ rest) new [] ended answer.0 text (inr (here.0 ++ taken.0, rest, refl, taken.2.0, goes, taken.2.2))
    (faults_at run_turns taken.2.0 rest new taken.2.2) answer.2))
    (given_more g.S.Source.gave here.0 (items c.pieces.pulled) (taken.0 ++ rest) g.met.S.Source.joined here.1 ok.3 (sym taken.1 ∙ ok.2))

pub returns-in-NoMemory-clause-judged : goal.returns-in-NoMemory-clause-judged
returns-in-NoMemory-clause-judged g c =
    let asks = c.args.judge.now.machine.asks in
    let here = c.pieces.invariant.here in
    let ok = c.in-Ok.ensures.ok in
    let taken = c.in-NoMemory.ensures.taken in
    let rest = items c.take_pulled.new.pulled in
    let new = stage_of c.take_pulled.new.judge in
    let goes = goes_on run_turns (unread asks) (stage_of c.pieces.judge) new here.0 taken.0 here.2 taken.2.0 in
    let gives = given_more g.S.Source.gave here.0 (items c.pieces.pulled) (taken.0 ++ rest) g.met.S.Source.joined here.1 ok.3
    (sym taken.1 ∙ ok.2) in
    lacking_judged asks g.S.Source.gave g.S.Source.ended c.args.source.now c.fill.new.source new.state.run _ ((here.0 ++ taken.0) ++ rest) new
    (here.0 ++ taken.0) rest taken.2.1 goes refl refl (lacks_memory run_turns (run_lawful asks) (here.0 ++ taken.0) rest new goes taken.2.1 taken.2.2)
    (subst (g.S.Source.gave c.args.source.now c.fill.new.source) (sym (append_assoc here.0 taken.0 rest)) gives)

pub returns-in-Ok-eq0-clause-counted : goal.returns-in-Ok-eq0-clause-counted
returns-in-Ok-eq0-clause-counted g c =
    answered_counts c.ending.result c.answered.result.0 (bytes_of c.answered.result.1) (g.S.Source.faults c.args.source.now)
    (g.S.Source.faults c.fill.new.source) c.answered.ensures (c.in-Ok-eq0.ensures.counted ∙ c.pieces.invariant.counted)

pub returns-in-Err-clause-counted : goal.returns-in-Err-clause-counted
returns-in-Err-clause-counted g c =
    (λ differs. absurd (differs refl), λ _. c.in-Err.ensures.err.3 ∙ ap next_count c.pieces.invariant.counted)

pub returns-in-Fault-clause-counted : goal.returns-in-Fault-clause-counted
returns-in-Fault-clause-counted g c =
    answered_counts c.ending-in-Fault.result c.answered-in-Fault.result.0 (bytes_of c.answered-in-Fault.result.1)
    (g.S.Source.faults c.args.source.now) (g.S.Source.faults c.fill.new.source) c.answered-in-Fault.ensures
    (c.in-Ok.ensures.counted ∙ c.pieces.invariant.counted)

pub returns-in-NoMemory-clause-counted : goal.returns-in-NoMemory-clause-counted
returns-in-NoMemory-clause-counted g c =
    lacking_counts (g.S.Source.faults c.args.source.now) (g.S.Source.faults c.fill.new.source)
    (c.in-Ok.ensures.counted ∙ c.pieces.invariant.counted)
