use Rattle.std.proofs.Common.{◌∙◌, ap, ℕ, List, cond, Some}
use Rattle.cap_context.specs.declared.writers.Writer.{Writer}
use Rattle.cap_context.specs.{Registers.HartRegister, Writers.{found, is_same, slots_of}}
use Rattle.cap_context.proofs.WriterLemmas.{kept_at, kept_new}
use Rattle.cap_context.proofs.writers.set.Goals as goal

pub returns-in-Some : goal.returns-in-Some
returns-in-Some c =
    let writers = c.args.writers.now.items in
    let register : HartRegister = (c.args.register.now, c.args.hart.now) in
    let place = rw c.as_slice.ensures.value at c.in-Some.ensures in
    record {
      ok = λ other.
          kept_at register other writers c.in-Some.place c.index_mut.result.now (record { number = c.args.number; text = c.in_ok-text.text })
          place.value place.inside c.index_mut.ensures.value
          ∙ ap (λ (t : List ℕ). cond (is_same other register) (Some (c.args.number, t)) (found other (slots_of writers))) c.in_ok-text.ensures.copy;
    }

pub returns-in_ok-push-in-None : goal.returns-in_ok-push-in-None
returns-in_ok-push-in-None c =
    let writers = c.args.writers.now.items in
    let register : HartRegister = (c.args.register.now, c.args.hart.now) in
    record {
      ok = λ other.
          ap (λ (w : List Writer). found other (slots_of w)) c.in_ok-push-in-None.ensures.items
          ∙ kept_new register other writers
          (record { register = c.in_ok-register-in-None.register; hart = c.in_ok-hart-in-None.hart; line = record { number = c.args.number; text = c.in_ok-text.text } })
          (rw c.as_slice.ensures.value at c.in-None.ensures.value) c.in_ok-register-in-None.ensures.copy
          c.in_ok-hart-in-None.ensures.copy
          ∙ ap (λ (t : List ℕ). cond (is_same other register) (Some (c.args.number, t)) (found other (slots_of writers))) c.in_ok-text.ensures.copy;
    }
