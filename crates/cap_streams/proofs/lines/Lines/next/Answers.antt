use Rattle.std.proofs.Common.{◌≡◌, ◌≢◌, ℕ, ◌-◌, ◌≤◌, List, [], Ok, length, take, drop, true, refl, sym, ap, subst, ◌∙◌}
use Rattle.std.proofs.{Common.{rules, arith, length-take, length-drop}, lemmas.List.nil_from_length}
use Rattle.cap_streams.specs.{Front.IsFront, ReadBuffers.items}
use Rattle.cap_streams.proofs.TakingLemmas.{answered, not_again, take_front}
use Rattle.cap_streams.proofs.lines.Lines.next.Goals as goal

pub returns-in-Ok-TooLong : goal.returns-in-Ok-TooLong
returns-in-Ok-TooLong g c =
    let found = c.in-Ok-TooLong in (
      (
        refl,
        λ _. tt,
        (
          λ _. answered _ _ _ _ _ _ _ _ _ found.ensures.ok (λ is. (subst (IsFront _) found.field-0-is is, refl, refl)),
          not_again _ _ _ _ _ c.in_default.is,
        ),
      ),
      record { answers = tt; counted = found.ensures.counted; fault_counted = tt; kept_first = found.ensures.kept_first },
    )

pub returns-in-Err : goal.returns-in-Err
returns-in-Err g c =
    let found = c.in-Err in (
      (
        refl,
        λ _. tt,
        (
          λ _. answered _ _ _ _ _ _ _ _ _ found.ensures.err (λ is. (is, refl, found.ensures.no_end, refl)),
          not_again _ _ _ _ _ c.in_default.is,
        ),
      ),
      record { answers = tt; counted = tt; fault_counted = λ _. found.ensures.counted; kept_first = found.ensures.kept_first },
    )

pub returns-then-is_empty : goal.returns-then-is_empty
returns-then-is_empty g c =
    let found = c.in-Ok-Cut in
    let none : items c.find.new.self.pulled ≡ [] = nil_from_length _ (ap length (sym c.as_slice.ensures.value) ∙ search rules) in
    let end : g.S.Source.ended c.find.new.source ≡ true = c.find.ensures.end (found.is ∙ ap Ok found.field-0-is) in (
      (
        refl,
        λ _. tt,
        (
          λ _. answered _ _ _ _ _ _ _ _ _ found.ensures.ok (λ is. (none, end, refl, refl)),
          not_again _ _ _ _ _ c.in_default.is,
        ),
      ),
      record { answers = tt; counted = found.ensures.counted; fault_counted = tt; kept_first = found.ensures.kept_first },
    )

pub returns-else-is_empty : goal.returns-else-is_empty
returns-else-is_empty g c =
    let found = c.in-Ok-Cut in
    let some : items c.find.new.self.pulled ≢ [] = search rules in
    let end : g.S.Source.ended c.find.new.source ≡ true = c.find.ensures.end (found.is ∙ ap Ok found.field-0-is) in (
      (
        refl,
        λ _. tt,
        (
          λ _. answered _ _ _ _ _ _ _ _ _ found.ensures.ok (λ is. (
            subst (IsFront _) found.field-0-is is,
            some,
            end,
            refl,
            refl,
          )),
          not_again _ _ _ _ _ c.in_default.is,
        ),
      ),
      record { answers = tt; counted = found.ensures.counted; fault_counted = tt; kept_first = found.ensures.kept_first },
    )

pub returns-in-Ok-Line : goal.returns-in-Ok-Line
returns-in-Ok-Line g c =
    let found = c.in-Ok-Line in
    let w = c.find.new.self.pulled in
    let n = found.length in
    let front = subst (IsFront (items w)) found.field-0-is found.ensures.ok.front_is in
    let short : n ≤ w.end - w.start = omega (arith, front.0, length-take {A = ℕ}, length-drop {A = ℕ}) in
    let text : take n (items w) ≡ c.before-in-Ok-Line.result.now =
    take_front n (w.end - w.start) (drop w.start w.bytes) short ∙ sym (c.before-in-Ok-Line.ensures.value
    ∙ ap (λ (start : ℕ). take n (drop start c.consume.new.self.bytes)) c.start-start.ensures.value
    ∙ ap (λ (bytes : List ℕ). take n (drop w.start bytes)) c.consume.ensures.bytes) in (
      (
        refl,
        λ _. tt,
        (
          λ _. answered _ _ _ _ _ _ _ _ _ found.ensures.ok (λ is. (
            rw (sym text, c.consume.ensures.items) front.1,
            found.ensures.over ∙ c.in_default.is,
          )),
          not_again _ _ _ _ _ c.in_default.is,
        ),
      ),
      record { answers = tt; counted = found.ensures.counted; fault_counted = tt; kept_first = found.ensures.kept_first },
    )
