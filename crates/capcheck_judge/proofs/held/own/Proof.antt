-- `own` calls from_raw on the address and the allocator that a struct keeps.
use Rattle.std.specs.contracts.boxed.Box.from_raw as from_raw
use Rattle.std.proofs.{Common.{◌≡◌, List, [], ◌∷◌, refl, sym, ap, subst}, BoxSteps.Steps.{box_out, box_in}}
use Rattle.std.proofs.{alloc.{Calls.Goes-blank, Shapes.after}, boxed.Box.from_raw.Met.met, cell.Inside.Good}
use Rattle.std.proofs.raw_atomic.Walks.{proved_at, leaves}
use Rattle.std.proofs.BoxSteps.Form as box
use base.Fml.{ftrue, flft}
use base.Logic.{SProp, id⊢}
use contract.BorrowLft.{◌⊑◌}
use contract.Monad.{fact}
use contract.Running.{tables}
use denote.Exit.{no}
use denote.Param.{param, layout, bounded}
use denote.Param.Laws.{param_laws}
use denote.RattleType.{RattleType, owns}
use denote.RawPtr.{block_ptr}
use denote.Signature.{types_at, plain}
use denote.Steps.{nothing, only}
use denote.Triple.Call.{calls_at_last}
use denote.Triple.Clauses.{Lasts, lasts}
use denote.Triple.Spec.{triple_of}
use denote.Triple.Table.{framed}
use denote.Triple.Walked.{Stays, stay_dropped, walk_of}
use mir.MapTy.{inst_fn}
use mir.Syntax.{a_type, dcons, dnil}
use mir.Val.{Val, vptr}
use prog.Wp.{WpFn}
use types.ByLocal.{alloc_all, pass_all, free_all, look_at, get, get_in, sets, lands_last, env}
use types.Kit.{‵, raw, ◌⊛◌, some, later, at_ret, ◌$◌, ◌∵◌, !, qed, by, move, keep, drop, split, split3, join, fsplit}
use types.Kit.{fjoin, pick, suffices, use1, await, rewrite, feq_i}
use types.Part.{sub, whole}
use types.Run.{stop, fld, of_opd, no_more, and_then, first, blocks, exec, returns, enter}
use Rattle.capcheck_judge.specs.contracts.held.own.{ended, clauses, Key.name as #self}
use Rattle.capcheck_judge.proofs.{HeldFields.{KeptBox, pair, runs_from, held_good, held_out}, held.own.Statement.statement}
use Rattle.capcheck_judge.proofs.held.own.Code as code

pub own_spec : {M : Type 1} → statement M
own_spec 𝓤 𝓛 𝓜 𝓡 wired T A LT LA g dict drop_T drop_A allocates drops_T drops_A =
    let R : RattleType = param 0 T in let Z : RattleType = param 1 A in let LZ = param_laws 1 A LA in let 𝓣 = tables 𝓤 𝓛.H 𝓜 𝓡 𝓡.env in
    let E : box.Bx = record { row = T; laws = LT; al = record { row = A; laws = LA; g = g; d = dict; drops = drop_A } } in
    let B : RattleType = box.B E in
    let En = ended T A g dict drop_T drop_A in let c = clauses T A g dict drop_T drop_A 𝓛 𝓜.mem 𝓡.returns in
    let at_types = bounded (a_type ∷ a_type ∷ []) (T, (A, tt)) (dcons dict (dcons drop_T (dcons drop_A dnil))) in
    let fn = inst_fn at_types code.function in
    let stays : Stays En.signature.params En.kept = (stay_dropped (plain (λ _. KeptBox R Z LZ g)) no, tt) in
    let call = triple_of 𝓛 (from_raw.signature T A g dict drop_A) (from_raw.spec T A g dict drop_A 𝓛 𝓜.mem 𝓡.returns) in
    proved_at 𝓛 En stays c 𝓜 𝓡 (Goes-blank 𝓛 2 (plain (λ _. KeptBox R Z LZ g)) no (λ κs x f. tt), tt) (#self at_types) fn
    (code.unfolded 𝓤 𝓛.H 𝓜 𝓡 wired (T, (A, tt)) dict drop_T drop_A) (λ z are.
    let κs = z.0.0 in let qs = z.0.1 in let kept = z.0.3.0 in let a = kept.alloc in let x = kept.value in
    let end : Val → SProp 𝓤 = (walk_of 𝓛 En stays c).post z in let run : List Val → SProp 𝓤 = λ ws. WpFn 𝓤 𝓛.H 𝓣.C 𝓣.Λ fn ws end in
    let lives = ‵ (flft κs.0 qs.0) ⊛ ‵ (flft κs.1.0 qs.1.0) ⊛ ‵ ftrue in let asked = raw ((c κs z.0.3).requires z.1) in
    qed 𝓛 ((lives ⊛ ‵ (owns (types_at En.signature.params κs) z.0.3 z.0.4)) ∷ asked ∷ []) ∵
    -- the struct's address and allocator go into the call, with what is owned there
    split ! $ move ! (1 ∷ []) $ fsplit ! $ held_out R Z LZ g ! kept z.0.4.0 (λ b o h at ws fits.
    let w : Val = pair (vptr b o) h in
    let given : call.Ghost = ((κs, qs, tt, (a, (block_ptr b o, tt)), (h ∷ [], (vptr b o ∷ [], tt))), x) in
    move ! (4 ∷ []) $ use1 𝓛 (raw (fact 𝓤 (κs.0 ⊑ T.lives)) ⊛ raw (fact 𝓤 (κs.1.0 ⊑ A.lives)) ⊛ ‵ ftrue) (id⊢ 𝓤 _) $ split3 ! $
    move ! (2 ∷ []) $ drop ! $ move ! (4 ∷ []) $ feq_i ! (List Val) (vptr b o ∷ []) (vptr b o ∷ []) refl $ fjoin ! $
    move ! (4 ∷ 0 ∷ []) $ fjoin ! $ move ! (4 ∷ 0 ∷ []) $ join ! $
    move ! (2 ∷ 3 ∷ 0 ∷ 1 ∷ []) $ join ! $ move ! (2 ∷ 0 ∷ []) $ join ! $ move ! (1 ∷ 0 ∷ []) $ join ! $
    use1 𝓛 (raw (call.pre given)) (id⊢ 𝓤 _) $
    suffices ! (run (w ∷ [])) (runs_from 𝓤 run ws) $
    enter ! 𝓣.C 𝓣.Λ fn (w ∷ []) end $ alloc_all ! (λ l. pass_all ! refl (held_good R Z LZ g b o h fits, tt) $
    let places = env fn.locals l in
    sets ! (of_opd ! (get_in ! (fld ! refl (stop !)) (sub ! 0 refl (whole !)))) refl (tt, tt) $
    sets ! (of_opd ! (get_in ! (fld ! refl (stop !)) (sub ! 1 refl (whole !)))) refl fits $
    first ! $ blocks ! $ sets ! (of_opd ! (get ! refl)) refl fits $
    calls_at_last ! (λ f. framed 𝓤 𝓛.H 𝓜 𝓣 f) call
    (met 𝓤 𝓛 𝓜 𝓡 (code.calls-std_alloc::boxed::Box::from_raw 𝓡.env wired) T A LT LA g dict drop_A allocates drops_A)
    given (and_then ! (get ! refl) (and_then ! (get ! refl) (no_more !))) (λ answer.
    -- it answers a box of the value
    use1 𝓛 (later (some (λ (r : B.Denot). (lives ⊛ ‵ (B.own_val r (answer ∷ []))) ⊛ some
    (λ (ls : Lasts (from_raw.ended T A g dict drop_A) κs given.0.3).
    ‵ (lasts (from_raw.ended T A g dict drop_A) κs given.0.3 ls) ⊛ (raw (fact 𝓤 (r.value ≡ x)) ⊛ raw (fact 𝓤 (r.alloc ≡ a)))))))
    (id⊢ 𝓤 (call.post given answer)) $
    await ! tt $ pick ! (λ r. split ! $ move ! (1 ∷ []) $ pick ! (λ _. split3 ! $ drop ! $ move ! (2 ∷ []) $ split ! $ move ! (1 ∷ []) $
    box_out E ! r (answer ∷ []) (λ b' o' h' at' answered fits'. box_in E ! r b' o' r.value at' refl $
    rewrite ! 0 (λ (us : List Val). ‵ (B.own_val r us)) (sym answered) refl $
    let made : Good (layout B) answer = subst (Good (layout B)) (sym (ap only answered)) (held_good R Z LZ g b' o' h' fits') in
    lands_last ! refl made $ exec ! 𝓣.C 𝓣.Λ places (after 3 fn.body) (at_ret places end) $ sets ! (of_opd ! (get ! refl)) refl made $
    nothing ! $ nothing ! $ fjoin ! $ returns ! (look_at ! 0 refl) $ free_all ! refl $ keep ! (2 ∷ 0 ∷ 1 ∷ 3 ∷ []) $
    by ! (leaves 𝓛 En stays c z answer r ((tt, (tt, tt)), tt) (tt, tt)))))))))
