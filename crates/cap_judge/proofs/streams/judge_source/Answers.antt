use Rattle.std.proofs.Common.{◌≡◌, ◌≢◌, ◌++◌, [], ℕ, List, ap, append-nil, append_assoc, arith, inl, length, refl, rules}
use Rattle.std.proofs.{Common.{Result, Ok, Err, subst, sym, true, ◌∙◌}, lemmas.List.Elements.All-nil}
use Rattle.cap_streams.specs.{FaultLines.bytes_of, Front.IsCut, ReadBuffers.items, Streams.next_count}
use Rattle.cap_streams.specs.declared.judging.judge_faults.JudgeFault.{JudgeFault}
use Rattle.cap_judge.specs.{Readings.{AnswerAtEnd, IsAnswered, stage_of}, Turns.{unread, log_turns}}
use Rattle.cap_judge.specs.{declared.faults.RefusedLine.RefusedLine, declared.verdict.Verdict.Verdict}
use Rattle.cap_judge.proofs.SourceLemmas.{ended_answer, given_more, lacking_judged, nothing_more, pull_judged, verdict_judged}
use Rattle.cap_judge.proofs.TurnLaws.{count_read, lacks_memory, fault_told, log_lawful, told}
use Rattle.cap_judge.proofs.streams.judge_source.Goals as goal
use Rattle.cap_turns.proofs.{FollowLemmas.{faults_at, follows_on, stop_follows}, EndLemmas.closer, TurnLemmas.{goes_none, goes_on}}

pub pieces-init : goal.pieces-init
pieces-init g c =
    let none = sym c.new-pulled.ensures.empty in
    record {
      here = (
        [],
        subst (λ (b : List ℕ). g.S.Source.gave c.args.source.now c.args.source.now b) none (g.met.S.Source.nothing c.args.source.now),
        rw c.requires.begun (goes_none log_turns unread),
      );
      cut = subst IsCut none (omega arith, All-nil (λ b. b ≢ 10));
      counted = refl;
    }

pub returns-in-Ok-eq0-clause-judged : goal.returns-in-Ok-eq0-clause-judged
returns-in-Ok-eq0-clause-judged g c =
    let here = c.pieces.invariant.here in
    let ok = c.in-Ok-eq0.ensures.ok in
    let none : length ok.0 ≡ 0 = search rules in
    let end : g.S.Source.ended c.fill.new.source ≡ true = search rules in
    let held = c.pieces.judge.machine in
    let stage = stage_of c.pieces.judge in
    let now = items c.fill.new.self in
    let cut = subst IsCut (sym (nothing_more (items c.pieces.pulled) ok.0 now ok.2 none)) c.pieces.invariant.cut in
    let shown = c.as_slice.ensures.value in
    let ends = subst (λ (b : List ℕ). AnswerAtEnd stage b c.ending.result) shown (c.ending.ensures.ends (subst IsCut (sym shown) cut)) in
    let answer = ended_answer stage now (bytes_of c.answered.result.1) c.ending.result c.answered.result.0 c.answered.ensures ends in
    let tells = told here.0 now stage held answer.0 (bytes_of c.answered.result.1) (inl here.2) refl cut answer.2 in
    verdict_judged g.S.Source.gave g.S.Source.ended c.args.source.now c.fill.new.source held (bytes_of c.answered.result.1) (here.0 ++ now)
    c.answered.result.0 answer.0 answer.1 (rw end tells)
    (given_more g.S.Source.gave here.0 (items c.pieces.pulled) now g.met.S.Source.joined here.1 ok.3 ok.2)

pub returns-in-Err-clause-judged : goal.returns-in-Err-clause-judged
returns-in-Err-clause-judged g c =
    let gave = g.S.Source.gave in
    let here = c.pieces.invariant.here in
    let given = here.0 ++ items c.pieces.pulled in
    pull_judged gave g.S.Source.ended c.args.source.now c.fill.new.source c.pieces.judge.machine _ given (stage_of c.pieces.judge) here.0
    (items c.pieces.pulled) here.2 c.pieces.invariant.cut refl
    (subst (gave c.args.source.now c.fill.new.source) (append-nil given)
    (g.met.S.Source.joined c.args.source.now c.pieces.source c.fill.new.source given [] here.1 c.in-Err.ensures.err.1))

pub pieces-preserved : goal.pieces-preserved
pieces-preserved g c =
    let here = c.pieces.invariant.here in
    let ok = c.in-Ok.ensures.ok in
    let taken = c.take_pulled.ensures in
    let rest = items c.take_pulled.new.pulled in
    let stop = rw c.in-Cut.is at taken.2 in
    let gives = given_more g.S.Source.gave here.0 (items c.pieces.pulled) (taken.0 ++ rest) g.met.S.Source.joined here.1 ok.3
    (sym taken.1 ∙ ok.2) in
    record {
      here = (
        here.0 ++ taken.0,
        subst (g.S.Source.gave c.args.source.now c.fill.new.source) (sym (append_assoc here.0 taken.0 rest)) gives,
        goes_on log_turns unread (stage_of c.pieces.judge) (stage_of c.take_pulled.new.judge) here.0 taken.0 here.2 stop.0,
      );
      cut = stop.1;
      counted = c.in-Ok.ensures.counted ∙ c.pieces.invariant.counted;
    }

pub pieces-smaller : goal.pieces-smaller
pieces-smaller g c =
    let here = c.pieces.invariant.here in
    let ok = c.in-Ok.ensures.ok in
    let taken = c.take_pulled.ensures in
    let stop = rw c.in-Cut.is at taken.2 in
    let some : length ok.0 ≢ 0 = search rules in
    let old = stage_of c.pieces.judge in
    let new = stage_of c.take_pulled.new.judge in
    let counts = count_read (here.0 ++ taken.0) new (goes_on log_turns unread old new here.0 taken.0 here.2 stop.0) in
    closer log_turns log_lawful 4294971400 old new here.0 taken.0 (items c.pieces.pulled) ok.0
    (items c.take_pulled.new.pulled) here.2 stop.0 (sym ok.2 ∙ taken.1) c.pieces.invariant.cut stop.1 some (omega (arith, counts.0, counts.1))

pub returns-in-Fault-clause-judged : goal.returns-in-Fault-clause-judged
returns-in-Fault-clause-judged g c =
    let here = c.pieces.invariant.here in
    let ok = c.in-Ok.ensures.ok in
    let held = c.take_pulled.new.judge.machine in
    let new = stage_of c.take_pulled.new.judge in
    let taken = c.take_pulled.ensures in
    let rest = items c.take_pulled.new.pulled in
    let given = taken.0 ++ rest in
    let text = bytes_of c.answered-in-Fault.result.1 in
    let stop = rw c.in-Fault.is at taken.2 in
    let follows = follows_on log_turns unread (stage_of c.pieces.judge) new here.0 given (inl here.2)
    (stop_follows log_turns (stage_of c.pieces.judge) new taken.0 rest stop) in
    let ends = c.ending-in-Fault.ensures.ends (omega arith, All-nil (λ b. b ≢ 10)) in
    let answer = ended_answer new [] text c.ending-in-Fault.result c.answered-in-Fault.result.0 c.answered-in-Fault.ensures ends in
    verdict_judged g.S.Source.gave g.S.Source.ended c.args.source.now c.fill.new.source held text (here.0 ++ given)
    c.answered-in-Fault.result.0 answer.0 answer.1
    (fault_told (here.0 ++ given) [] new held answer.0 text follows
    (faults_at log_turns stop.0 rest new stop.2) refl answer.2
    (g.S.Source.ended c.fill.new.source))
    (given_more g.S.Source.gave here.0 (items c.pieces.pulled) given g.met.S.Source.joined here.1 ok.3 (sym taken.1 ∙ ok.2))

pub returns-in-NoMemory-clause-judged : goal.returns-in-NoMemory-clause-judged
returns-in-NoMemory-clause-judged g c =
    let here = c.pieces.invariant.here in
    let ok = c.in-Ok.ensures.ok in
    let taken = c.take_pulled.ensures in
    let rest = items c.take_pulled.new.pulled in
    let new = stage_of c.take_pulled.new.judge in
    let stop = rw c.in-NoMemory.is at taken.2 in
    let goes = goes_on log_turns unread (stage_of c.pieces.judge) new here.0 taken.0 here.2 stop.0 in
    let gives = given_more g.S.Source.gave here.0 (items c.pieces.pulled) (taken.0 ++ rest) g.met.S.Source.joined here.1 ok.3
    (sym taken.1 ∙ ok.2) in
    lacking_judged g.S.Source.gave g.S.Source.ended c.args.source.now c.fill.new.source c.take_pulled.new.judge.machine _
    ((here.0 ++ taken.0) ++ rest) stop.1
    (lacks_memory (here.0 ++ taken.0) rest stop.1 new (inl goes) stop.2)
    (subst (g.S.Source.gave c.args.source.now c.fill.new.source) (sym (append_assoc here.0 taken.0 rest)) gives)

-- the answers that are no fault of the source
memory_no_pull : ◌≢◌ {A = Result Verdict JudgeFault} (Err JudgeFault.NoMemory) (Err JudgeFault.Pull)
memory_no_pull is = cc

answered_no_pull : (end : Result Verdict RefusedLine) (answer : Result Verdict JudgeFault) (text : List ℕ) → IsAnswered end answer text
    → answer ≢ Err JudgeFault.Pull
answered_no_pull (Ok verdict) answer text is pull = cc
answered_no_pull (Err fault) answer text is pull = cc (is.0)

-- what the faults count: named, so that another answer or another source is refused at once
pub returns-in-Err-clause-counted : goal.returns-in-Err-clause-counted
returns-in-Err-clause-counted g c =
    (λ other. absurd (other refl), λ _. c.in-Err.ensures.err.3 ∙ ap next_count c.pieces.invariant.counted)

pub returns-in-Ok-eq0-clause-counted : goal.returns-in-Ok-eq0-clause-counted
returns-in-Ok-eq0-clause-counted g c = (
  λ _. c.in-Ok-eq0.ensures.counted ∙ c.pieces.invariant.counted,
  λ pull. absurd (answered_no_pull c.ending.result c.answered.result.0 (bytes_of c.answered.result.1) c.answered.ensures pull),
)

pub returns-in-Fault-clause-counted : goal.returns-in-Fault-clause-counted
returns-in-Fault-clause-counted g c = (
  λ _. c.in-Ok.ensures.counted ∙ c.pieces.invariant.counted,
  λ pull. absurd (answered_no_pull c.ending-in-Fault.result c.answered-in-Fault.result.0 (bytes_of c.answered-in-Fault.result.1)
      c.answered-in-Fault.ensures pull),
)

pub returns-in-NoMemory-clause-counted : goal.returns-in-NoMemory-clause-counted
returns-in-NoMemory-clause-counted g c =
    (λ _. c.in-Ok.ensures.counted ∙ c.pieces.invariant.counted, λ pull. absurd (memory_no_pull pull))
