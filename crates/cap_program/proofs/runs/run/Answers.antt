use Rattle.std.specs.Io.KnownBytes.{Appends, Consumes}
use Rattle.std.proofs.Common.{◌≡◌, [], None, IfErr, IfOk, List, Option, rules, subst, take, ℕ}
use Rattle.cap_program.specs.{Doings.{IsDone, ended_by, gave_by, known_bytes}, Faults.fault_line, Runs.{IsRan, TellsFault}}
use Rattle.cap_program.proofs.{Doing.given_of, RunLemmas.{ran_at, ran_by, ran_missing, ran_silent, ran_told}}
use Rattle.cap_program.proofs.runs.run.Given as given
use Rattle.cap_program.proofs.runs.run.Goals as goal

-- what the writers gained
ran : (g : given.Over) (c : goal.Joined-input g) (after faults_after : Option (List ℕ))
    → ((given : List ℕ) × gave_by (λ a b xs. Consumes (g.R.Read.remaining a.reader) (g.R.Read.remaining b.reader) xs) c.opened-input.result c.carry_out.new.input given
    × IsDone (g.C.Command.meaning.shows c.args.order given (ended_by (λ s. s.is_ended) c.carry_out.new.input)) (g.C.Command.meaning.fails c.args.order given)
    (Appends (g.O.Write.contents c.args.out.now) after) c.carry_out.result)
    → IfOk c.carry_out.result (λ status. Appends (g.F.Write.contents c.args.faults.now) faults_after [])
    → IfErr c.carry_out.result (λ fault. (n : ℕ)
    × Appends (g.F.Write.contents c.args.faults.now) faults_after (take n (fault_line (g.C.Command.meaning.front c.args.order fault) fault)))
    → IsRan g.C.Command.meaning c.args.order (known_bytes g.R.Read.remaining c.args.input) (c.args.input ≡ None)
    (g.O.Write.contents c.args.out.now) after (g.F.Write.contents c.args.faults.now) faults_after c.exit_status.result
ran g c after faults_after d silent told =
    let m = g.C.Command.meaning in
    let meant = c.requires.meant in
    let order = c.args.order in
    let input = known_bytes g.R.Read.remaining c.args.input in
    let before = g.O.Write.contents c.args.out.now in
    let ended = ended_by (λ s. s.is_ended) c.carry_out.new.input in
    let k = given_of (λ s. g.R.Read.remaining s.reader) (λ s. s.is_ended) (λ s. s.all_given) c.opened-input.result c.carry_out.new.input
    d.0 d.1 in
    let gives = subst (λ (left : Option (List ℕ)). Consumes left k.0 d.0) c.opened-input.ensures.known k.1 in
    let prints = m.prints order input in
    let belongs = TellsFault prints (m.fails order) input in
    let faulty = m.is_faulty order in
    let r = ran_at prints belongs faulty before after c.carry_out.result c.exit_status.result
    (ran_by (m.shows order d.0 ended) (m.fails order) prints faulty input k.0 d.0 before after gives
    (λ text status. meant.known order input k.0 d.0 ended text status gives k.2) (meant.few order d.0 ended) (meant.unfaulty order d.0 ended)
    (meant.asked order d.0) c.carry_out.result d.2) c.exit_status.ensures.value in record {
      range = r.range;
      printed = r.printed;
      asked = r.asked;
      kept = r.kept;
      stopped = r.stopped;
      missing = λ reads none. ran_missing prints belongs faulty before after _ c.carry_out.result r
          (c.carry_out.ensures.followed.missing reads (c.opened-input.ensures.missing none));
      silent = ran_silent prints belongs faulty before after _ c.carry_out.result _ _ r silent;
      told = ran_told prints belongs faulty before after _ c.carry_out.result (λ fault. fault_line (m.front order fault) fault)
          (Appends (g.F.Write.contents c.args.faults.now) faults_after) r told;
    }

pub returns : goal.returns
returns g c = record { ran = ran g c _ _ (search rules) (search rules) (search rules) }
