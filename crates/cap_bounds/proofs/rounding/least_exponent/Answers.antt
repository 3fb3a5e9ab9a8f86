use Rattle.std.proofs.Common.{ℕ, ◌≡◌, ◌+◌, ◌-◌, ◌/◌, ◌^◌, ◌<◌, ◌≤◌, ap, ◌∙◌, arith, subst}
use lib.Count.{count_leading_zeros}
use Rattle.cap_bounds.specs.Rounding.{units_of, div_up}
use Rattle.cap_bounds.proofs.LeastExponents.{start_is, IsLeastExponent-start, IsLeastExponent-raised}
use Rattle.cap_bounds.proofs.rounding.least_exponent.Goals as goal

units_are : (b l e top up down low : ℕ) → top ≡ b + l → up ≡ div_up top (2 ^ (e + 3)) → down ≡ b / 2 ^ (e + 3) → low ≡ down
    → up - low ≡ units_of b l e
units_are b l e top up down low t u d w =
    ap (λ (x : ℕ). up - x) (w ∙ d) ∙ ap (λ (x : ℕ). x - b / 2 ^ (e + 3)) (u ∙ ap (λ (x : ℕ). div_up x (2 ^ (e + 3))) t)

pub overflow_sub-start : goal.overflow_sub-start
overflow_sub-start c = (start_is c.args.length c.requires (omega arith)).0

pub returns-then-units_up-from-lt1024 : goal.returns-then-units_up-from-lt1024
returns-then-units_up-from-lt1024 c =
    let e = 51 - count_leading_zeros 64 c.args.length in
    let s = start_is c.args.length c.requires (omega arith) in
    let u = units_are c.args.base c.args.length e c.requested_top-top.result c.units_up.result c.units_down.result c.from.result
    c.requested_top-top.ensures.value c.units_up.ensures c.units_down.ensures c.from.ensures in
    IsLeastExponent-start c.args.base c.args.length e (omega arith) s.1 (subst (λ (x : ℕ). x < 1024) u c.if-units_up-from-lt1024.true)

pub returns-else-units_up-from-lt1024 : goal.returns-else-units_up-from-lt1024
returns-else-units_up-from-lt1024 c =
    let e = 51 - count_leading_zeros 64 c.args.length in
    let s = start_is c.args.length c.requires (omega arith) in
    let u = units_are c.args.base c.args.length e c.requested_top-top.result c.units_up.result c.units_down.result c.from.result
    c.requested_top-top.ensures.value c.units_up.ensures c.units_down.ensures c.from.ensures in
    IsLeastExponent-raised c.args.base c.args.length e (omega arith) s.1 s.2 (subst (λ (x : ℕ). 1024 ≤ x) u c.if-units_up-from-lt1024.false)
