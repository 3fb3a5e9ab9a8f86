-- Objects are apart at each moment.
use Rattle.std.proofs.Common.{◌≡◌, length, sym, ap, ◌∙◌, arith}
use Rattle.cap_machine.specs.Helds.{Held}
use Rattle.cap_objects.specs.{Counts.CountsAre, declared.handouts.Handouts.Handouts, Handed.{ArePresent, held_of}, HandoutsIn.objects_of}
use Rattle.cap_run.specs.declared.specials.Specials.{Specials}
use Rattle.cap_run.specs.{Owned.{AreWithin}, RunOf.{run_of, run_owners, run_state}, Safety.IsSafe}
use Rattle.cap_run.proofs.ObjectLemmas.{owner-there}

pub safe-kept : (held : Held) (specials : Specials) (h : Handouts) → length specials.registers.labels ≡ 32
    → CountsAre (run_owners held specials) (λ n. held_of (objects_of h n))
    → AreWithin (run_state held specials) (run_owners held specials) (objects_of h) → ArePresent h.keeps h.count (objects_of h)
    → IsSafe h.keeps (run_of held specials h)
safe-kept held specials h sized counted within known =
    let there = owner-there held specials (objects_of h) sized counted in
    record {
      within = λ place slot is.
          let o = there place slot is in
          (o.0, o.1, known.present slot o.0 o.1, within place slot o.0 is o.1);
      extents = λ one two a b is is2 differ ga gb share. known.apart one two a b is is2 differ (λ k. (ga k, gb k)) share;
      reach = λ place other one two a b is is2 differ a_is b_is ga gb share.
          let x = within place one a is a_is in
          let y = within other two b is2 b_is in
          known.apart one two a b a_is b_is differ (λ k. (ga k, gb k)) (
            share.0,
            omega (arith, share.1, x.from),
            omega (arith, share.2, x.until),
            omega (arith, share.3, y.from),
            omega (arith, share.4, y.until),
          );
      alone = known.alone;
      held = λ slot o is. sym (ap held_of is) ∙ counted slot;
    }
