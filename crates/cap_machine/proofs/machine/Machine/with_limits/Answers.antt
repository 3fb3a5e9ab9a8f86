use Rattle.std.specs.FinMap as map
use Rattle.std.proofs.Common.{ℕ, ap, false, refl}
use Rattle.cap_word.specs.declared.word.Cap.{Cap}
use Rattle.cap_machine.proofs.{CodeLemmas.coded_blank, SoundLemmas.IsSoundState-start}
use Rattle.cap_machine.proofs.StateLemmas.{blank_account, blank_code, blank_state}
use Rattle.cap_machine.proofs.machine.Machine.with_limits.Goals as goal

pub returns : goal.returns
returns g c = record {
  account =
      blank_account c.args.rules c.args.limits (g.M.TaggedStore.contents c.args.memory) (g.M.TaggedStore.least_room c.args.memory) _
      (map.empty_of_len _ c.requires)
      (ap (λ (n : ℕ). let cap : Cap = record { tag = false; word = record { 0 = n } } in cap) c.null.ensures.value);
  least_room = refl;
}

pub invariant_of-result : goal.invariant_of-result
invariant_of-result g c =
    let memory = g.M.TaggedStore.contents c.args.memory in
    let null = ap (λ (n : ℕ). let cap : Cap = record { tag = false; word = record { 0 = n } } in cap) c.null.ensures.value in
    let empty = map.empty_of_len _ c.requires in
    record {
      sized = refl;
      zero = null;
      sound = IsSoundState-start _ (λ key. blank_state memory _ key empty null);
      coded = coded_blank _ _ (λ key. blank_state memory _ key empty null) (λ key. blank_code memory key empty);
    }
