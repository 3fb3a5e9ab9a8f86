use Rattle.std.proofs.Common.{◌≡◌, ◌≢◌, ◌≤◌, ◌-◌, [], List, ℕ, arith, drop, inl, length, refl, subst, take, true}
use Rattle.std.proofs.{Common.{length-drop, take-append-drop, take_all}, lemmas.List.Elements.All-nil}
use Rattle.cap_streams.specs.FaultLines.{bytes_of}
use Rattle.cap_judge.specs.{Logs.{LacksRoom, MayLackMemory}, Readings.{VerdictWith, room_of, stage_of}, Turns.{unread, log_turns}}
use Rattle.cap_judge.proofs.SourceLemmas.{all_judged, all_lack, answered_some, ended_answer}
use Rattle.cap_judge.proofs.TurnLaws.{fault_told, lacks_memory, lacks_room, told}
use Rattle.cap_judge.proofs.streams.judge_all.Goals as goal
use Rattle.cap_turns.specs.Readings.{Follows}
use Rattle.cap_turns.proofs.FollowLemmas.{faults_at, stop_follows}

pub returns-in-Cut : goal.returns-in-Cut
returns-in-Cut g c = record {
  judged = let bytes = c.args.bytes.now in
      let count = c.take-taken.result.count in
      let rest = drop count bytes in
      let all : length rest ≤ length bytes - count = omega (arith, length-drop count bytes) in
      let new = stage_of c.take-taken.new.self in
      let held = c.take-taken.new.self.machine in
      let text = bytes_of c.answered.result.1 in
      let stop = rw (c.in-Cut.is, c.requires.begun) at c.take-taken.ensures.stops in
      let shown : take (length bytes - count) rest ≡ rest = take_all (length bytes - count) rest all in
      let ends = rw shown at c.ending.ensures.ends in
      let answer = ended_answer new rest text c.ending.result c.answered.result.0 c.answered.ensures (ends stop.1) in
      all_judged bytes text held c.answered.result.0 answer.0 answer.1
      (subst (λ (b : List ℕ). VerdictWith b true held answer.0 text) (take-append-drop count bytes)
      (told (take count bytes) rest new held answer.0 text (inl stop.0) refl stop.1 answer.2));
  full = λ none. absurd (answered_some c.ending.result c.answered.result.0 _ c.answered.ensures none);
}

pub returns-in-Fault : goal.returns-in-Fault
returns-in-Fault g c = record {
  judged = let bytes = c.args.bytes.now in
      let count = c.take-taken.result.count in
      let new = stage_of c.take-taken.new.self in
      let held = c.take-taken.new.self.machine in
      let text = bytes_of c.answered-in-Fault.result.1 in
      let stop = rw (c.in-Fault.is, c.requires.begun) at c.take-taken.ensures.stops in
      let ends = c.ending-in-Fault.ensures.ends (omega arith, All-nil (λ b. b ≢ 10)) in
      let answer = ended_answer new [] text c.ending-in-Fault.result c.answered-in-Fault.result.0 c.answered-in-Fault.ensures ends in
      let read = subst (λ (b : List ℕ). Follows log_turns unread b new) (take-append-drop count bytes)
      (stop_follows log_turns unread new (take count bytes) (drop count bytes) stop) in
      all_judged bytes text held c.answered-in-Fault.result.0 answer.0 answer.1
      (fault_told bytes [] new held answer.0 text read (faults_at log_turns stop.0 (drop count bytes) new stop.2)
      refl answer.2 true);
  full = λ none. absurd (answered_some c.ending-in-Fault.result c.answered-in-Fault.result.0 _ c.answered-in-Fault.ensures none);
}

pub returns-in-NoMemory : goal.returns-in-NoMemory
returns-in-NoMemory g c = record {
  judged = let bytes = c.args.bytes.now in
      let count = c.take-taken.result.count in
      let new = stage_of c.take-taken.new.self in
      let stop = rw (c.in-NoMemory.is, c.requires.begun) at c.take-taken.ensures.stops in
      all_lack bytes stop.1 (bytes_of c.new.result) c.take-taken.new.self.machine
      (subst (λ (b : List ℕ). MayLackMemory b stop.1) (take-append-drop count bytes)
      (lacks_memory (take count bytes) (drop count bytes) stop.1 new (inl stop.0) stop.2));
  full = λ _.
      let bytes = c.args.bytes.now in
      let count = c.take-taken.result.count in
      let new = stage_of c.take-taken.new.self in
      let room = room_of c.args.judge.now in
      let stop = rw (c.in-NoMemory.is, c.requires.begun) at c.take-taken.ensures.stops in
      let many = subst (λ (n : ℕ). n ≤ new.state.granules) c.take-taken.ensures.same_room (c.take-taken.ensures.full c.in-NoMemory.is) in
      subst (LacksRoom room) (take-append-drop count bytes)
      (lacks_room room (take count bytes) (drop count bytes) stop.1 new stop.0 stop.2 many);
}
