use Rattle.std.proofs.Common.{◌≡◌, ◌≢◌, ℕ, ap, sym, ◌∙◌, rules}
use Rattle.cap_run.specs.{Harts.came_from, RunOf.{run_owners, run_state}}
use Rattle.cap_run.proofs.{HartLemmas.same-stays, SwitchLemmas.{owners-switched, state-switched}}
use Rattle.cap_run.proofs.specials.Specials.go.Goals as goal

pub returns-then-hart-current-clause-owners : goal.returns-then-hart-current-clause-owners
returns-then-hart-current-clause-owners g c key =
    sym (ap (run_owners c.args.machine.now c.args.self.now) (same-stays c.args.self.now.current c.args.hart key (sym (search rules))))

pub returns-clause-state : goal.returns-clause-state
returns-clause-state g c key =
    let current = c.name-2.new.self.current in
    let same : current ≡ c.args.self.now.current = c.in_ok-name-2.ensures.ok.current ∙ c.in_ok-name.ensures.ok.current in
    let differ : c.args.hart ≢ current = λ e. c.if-hart-current.false (e ∙ same) in
    state-switched c.args.self.now c.name-2.new.self c.keep.new.self c.restore.new.self c.args.machine.now c.restore.new.machine c.args.hart
    differ (search rules) (search rules) c.keep.ensures c.restore.ensures (λ number. c.name-2.ensures.caps number ∙ c.name.ensures.caps number) key
    ∙ ap (λ (from : ℕ). run_state c.args.machine.now c.args.self.now (came_from from c.args.hart key)) same

pub returns-clause-owners : goal.returns-clause-owners
returns-clause-owners g c key =
    let current = c.name-2.new.self.current in
    let same : current ≡ c.args.self.now.current = c.in_ok-name-2.ensures.ok.current ∙ c.in_ok-name.ensures.ok.current in
    let differ : c.args.hart ≢ current = λ e. c.if-hart-current.false (e ∙ same) in
    owners-switched c.args.self.now c.name-2.new.self c.keep.new.self c.restore.new.self c.args.machine.now c.restore.new.machine c.args.hart
    differ (search rules) (search rules) c.keep.ensures c.restore.ensures (λ number. c.name-2.ensures.labels number ∙ c.name.ensures.labels number) key
    ∙ ap (λ (from : ℕ). run_owners c.args.machine.now c.args.self.now (came_from from c.args.hart key)) same
