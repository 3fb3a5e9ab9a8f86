use Rattle.std.proofs.Common.{◌≡◌, ◌≢◌, ℕ, ap, sym, refl, option_map, false, nat_cmp, arith, rules}
use Rattle.std.proofs.lemmas.Bool.{Decides.nat_tests}
use Rattle.std.specs.{BTreeMap.is_at, Box.with_value}
use Rattle.cap_run.proofs.specials.Specials.keep.Goals as goal

not_at : (at q : ℕ) → q ≢ at → is_at (nat_cmp at) q ≡ false
not_at at q differ = grind (arith, nat_tests)

pub returns-in-Some : goal.returns-in-Some
returns-in-Some g c =
    let written = (c.get_mut.follows.holds (with_value c.in-Some.bank.now c.save.new.self)).3 (search rules) in record {
      bank = c.save.new.self;
      there = ap (option_map (λ bank. bank.value)) written.1;
      caps = c.save.ensures.caps;
      labels = c.save.ensures.labels;
      special = c.save.ensures.special;
      others = λ hart other. ap (option_map (λ bank. bank.value)) (written.2 hart (not_at c.args.self.now.current hart other));
      registers = refl;
      current = refl;
      lines = refl;
    }
