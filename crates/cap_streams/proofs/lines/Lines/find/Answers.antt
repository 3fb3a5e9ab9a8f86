use Rattle.std.proofs.Common.{[], refl, sym, ◌∙◌, append-nil, subst}
use Rattle.cap_streams.specs.Front.{IsFront}
use Rattle.cap_streams.proofs.TakingLemmas.{still_cut, given_more, untouched}
use Rattle.cap_streams.proofs.lines.Lines.find.Goals as goal

pub returns-in-Err-clause-err : goal.returns-in-Err-clause-err
returns-in-Err-clause-err g c =
    let err = c.in-Err.ensures.err in
    still_cut g.S.Source.gave c.args.source.now c.loop-self.source c.fill.new.source _ _ _ [] c.front-found.result g.met.S.Source.joined
    c.loop-self.invariant.given (subst (λ l. IsFront l c.front-found.result) c.as_slice.ensures.value c.front-found.ensures.found) c.in-Cut.is
    err.1 (err.0 ∙ sym (append-nil _)) refl

pub returns-in-Ok-eq0-clause-ok : goal.returns-in-Ok-eq0-clause-ok
returns-in-Ok-eq0-clause-ok g c =
    let ok = c.in-Ok-eq0.ensures.ok in
    still_cut g.S.Source.gave c.args.source.now c.loop-self.source c.fill.new.source _ _ _ ok.0 c.front-found.result g.met.S.Source.joined
    c.loop-self.invariant.given (subst (λ l. IsFront l c.front-found.result) c.as_slice.ensures.value c.front-found.ensures.found) c.in-Cut.is
    ok.3 ok.2 (ok.1 ∙ c.in-Ok-eq0.field-0-test)

pub returns-in-Err-clause-kept_first : goal.returns-in-Err-clause-kept_first
returns-in-Err-clause-kept_first g c =
    untouched g.S.Source.gave c.args.source.now c.loop-self.source _ _ _ _ c.front-found.result c.loop-self.invariant.given
    (subst (λ l. IsFront l c.front-found.result) c.as_slice.ensures.value c.front-found.ensures.found) c.in-Cut.is

pub returns-in-Ok-eq0-clause-kept_first : goal.returns-in-Ok-eq0-clause-kept_first
returns-in-Ok-eq0-clause-kept_first g c =
    untouched g.S.Source.gave c.args.source.now c.loop-self.source _ _ _ _ c.front-found.result c.loop-self.invariant.given
    (subst (λ l. IsFront l c.front-found.result) c.as_slice.ensures.value c.front-found.ensures.found) c.in-Cut.is

pub loop-self-preserved : goal.loop-self-preserved
loop-self-preserved g c =
    let ok = c.in-Ok.ensures.ok in record {
      given = given_more g.S.Source.gave c.args.source.now c.loop-self.source c.fill.new.source _ _ _ ok.0 g.met.S.Source.joined
          c.loop-self.invariant.given ok.3 ok.2;
      counted = c.in-Ok.ensures.counted ∙ c.loop-self.invariant.counted;
      over = c.loop-self.invariant.over;
      kept_first = untouched g.S.Source.gave c.args.source.now c.loop-self.source _ _ _ _ c.front-found.result c.loop-self.invariant.given
          (subst (λ l. IsFront l c.front-found.result) c.as_slice.ensures.value c.front-found.ensures.found) c.in-Cut.is;
    }
