use Rattle.std.proofs.Common.{Option, sym, ap, ◌∙◌, Some, refl, option_map}
use Rattle.std.specs.Option.{option_copied}
use Rattle.cap_run.proofs.specials.Specials.restore.Goals as goal

pub returns : goal.returns
returns g c = record {
  bank = c.deref.result.now;
  there = ap (option_map (λ bank. bank.value)) (sym c.get.ensures.value ∙ ap option_copied c.in-Some.is) ∙ ap Some (sym c.deref.ensures);
  held_is = c.load.ensures.general;
  special = c.load.ensures.special;
  banks = λ other. refl;
  current = refl;
  lines = refl;
}
