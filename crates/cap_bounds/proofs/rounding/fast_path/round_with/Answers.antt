use Rattle.std.proofs.Common.{◌≡◌, ℕ, ◌+◌, ◌-◌, ◌*◌, ◌/◌, ◌%◌, ◌^◌, ◌≤◌, sym, ap, ◌∙◌, arith, subst, pow_pos}
use Rattle.cap_bounds.specs.Rounding.{div_up}
use Rattle.cap_bounds.proofs.{Roundings.{long_request, exact-whole, whole-exact}, Units.div_up-last}
use Rattle.cap_bounds.proofs.rounding.fast_path.round_with.Goals as goal

-- the unit behind the last address
high : (b l e h : ℕ) → 4096 ≤ l → h ≡ (b + (l - 1)) / 2 ^ (e + 3) → h + 1 ≡ div_up (b + l) (2 ^ (e + 3))
high b l e h long is = ap (λ (x : ℕ). x + 1) is ∙ sym (div_up-last b l (2 ^ (e + 3)) (pow_pos (e + 3)) (omega arith))

pub invariant_of-result-clause-top_fits : goal.invariant_of-result-clause-top_fits
invariant_of-result-clause-top_fits c =
    let b = c.args.base in
    let l = c.args.length in
    let up = high b l c.args.e c.units_down-high.result c.requires.long c.units_down-high.ensures in
    let long = long_request b l c.args.e c.units_down-low.result (c.units_down-high.result + 1) c.requires.long (omega arith) (omega arith)
    c.requires.least c.units_down-low.ensures up in
    subst (λ (x : ℕ). x * 2 ^ (c.args.e + 3) % 2 ^ 128 ≤ 2 ^ 65) (sym c.from.ensures) long.top_fits

pub returns : goal.returns
returns c =
    let b = c.args.base in
    let l = c.args.length in
    let least = c.requires.least in
    let up = high b l c.args.e c.units_down-high.result c.requires.long c.units_down-high.ensures in
    let long = long_request b l c.args.e c.units_down-low.result (c.units_down-high.result + 1) c.requires.long (omega arith) (omega arith)
    least c.units_down-low.ensures up in
    record {
      base = long.base_is;
      top = ap (λ (x : ℕ). x * 2 ^ (c.args.e + 3) % 2 ^ 128) c.from.ensures ∙ long.top_is;
      fields = (
        long.ie_is,
        long.e_is,
        c.mantissa_from.ensures.value ∙ ap (λ (x : ℕ). 8 * x % 2 ^ 14) c.from-2.ensures ∙ long.b_is,
        c.mantissa_from-2.ensures.value ∙ ap (λ (x : ℕ). 8 * x % 2 ^ 14) c.from-3.ensures ∙ long.t_is,
      );
      exact = (
        λ is. let both = c.are_multiples.ensures.0 is in
            whole-exact b l c.args.e c.requires.long (omega arith) least both.0 both.1,
        λ exact. c.are_multiples.ensures.1 (exact-whole b l c.args.e c.requires.long (omega arith) least exact),
      );
    }
