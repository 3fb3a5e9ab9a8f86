use Rattle.std.proofs.Common.{◌≡◌, ℕ, Option, unwrap_or, false, rules, sym, ap, ◌∙◌}
use Rattle.cap_word.specs.{declared.word.Cap.Cap, Memory.stored_word}
use Rattle.tagmem.specs.Granules.{Entry, blank, code_at}
use Rattle.cap_machine.specs.{Helds.{code_in, granule_cap, state_of}, States.granule_key}
use Rattle.cap_machine.proofs.GranuleLemmas.{granule_cap-absent}
use Rattle.cap_machine.proofs.machine.Machine.granule_with_code.Goals as goal

pub returns-in-Some : goal.returns-in-Some
returns-in-Some g c =
    let memory = g.M.TaggedStore.contents c.self.inside.memory in
    let cap_with = λ (n : ℕ). let cap : Cap = record { tag = c.in-Some.entry.0; word = record { 0 = n } } in cap in
    let cap_in = λ (found : Option Entry).
    let cap : Cap = record { tag = (unwrap_or found blank).0; word = record { 0 = stored_word (unwrap_or found blank).1 } } in cap in
    let cap_there : granule_cap memory c.args.granule ≡ state_of c.args.self.now (granule_key c.args.granule) = search rules in
    let code_there : code_at memory c.args.granule ≡ code_in c.args.self.now (granule_key c.args.granule) = search rules in
    record {
      holds = ap cap_with c.from_memory.ensures.word ∙ ap cap_in c.in-Some.ensures.value ∙ cap_there;
      code = ap (λ (found : Option Entry). (unwrap_or found blank).2) c.in-Some.ensures.value ∙ code_there;
    }

pub returns-in-None : goal.returns-in-None
returns-in-None g c =
    let memory = g.M.TaggedStore.contents c.self.inside.memory in
    let cap_there : granule_cap memory c.args.granule ≡ state_of c.args.self.now (granule_key c.args.granule) = search rules in
    let code_there : code_at memory c.args.granule ≡ code_in c.args.self.now (granule_key c.args.granule) = search rules in
    record {
      holds =
          ap (λ (n : ℕ). let cap : Cap = record { tag = false; word = record { 0 = n } } in cap) c.null.ensures.value
          ∙ sym (granule_cap-absent memory c.args.granule (sym c.in-None.ensures.value)) ∙ cap_there;
      code = ap (λ (found : Option Entry). (unwrap_or found blank).2) c.in-None.ensures.value ∙ code_there;
    }
