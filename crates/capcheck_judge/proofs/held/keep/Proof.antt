-- `keep` calls into_raw_with_allocator on the box, and puts the address and the allocator into a struct.
use Rattle.std.specs.contracts.boxed.Box.into_raw_with_allocator as into_raw
use Rattle.std.proofs.{Common.{◌≡◌, List, [], ◌∷◌, ◌++◌, refl, ap, ◌∙◌}, BoxSteps.Steps.{box_out, box_in}}
use Rattle.std.proofs.{alloc.Calls.{Goes-blank, handle_tells}, boxed.Box.into_raw_with_allocator.Met.met}
use Rattle.std.proofs.raw_atomic.Walks.{proved_at, leaves}
use Rattle.std.proofs.BoxSteps.Form as box
use base.Fml.{ftrue, fsep, flft}
use base.Logic.{SProp, emp, id⊢}
use contract.Monad.{fact, fact_i}
use contract.Running.{tables}
use denote.Builtin.{RawPtr}
use denote.Exit.{no}
use denote.Param.{param, bounded}
use denote.Param.Laws.{param_laws}
use denote.RattleType.{RattleType, owns}
use denote.RawPtr.{Ptr, block_ptr, ptr_val}
use denote.Signature.{types_at, plain}
use denote.Steps.{nothing, only, heard}
use denote.Struct.Tuple.{Tuple}
use denote.Triple.Call.{calls_at}
use denote.Triple.Spec.{triple_of}
use denote.Triple.Table.{framed}
use denote.Triple.Walked.{Stays, stay_dropped, walk_of}
use mir.MapTy.{inst_fn}
use mir.Syntax.{a_type, dcons, dnil}
use mir.Val.{Val, vptr, vstruct, of_list}
use prog.Wp.{WpFn}
use types.ByLocal.{alloc_all, pass_all, free_all, look_at, get, get_in, sets, lands_as}
use types.Kit.{‵, raw, ◌⊛◌, some, later, ◌$◌, ◌∵◌, !, qed, by, move, keep, drop, split, split3, join, fsplit, fjoin}
use types.Kit.{fpick, pick, suffices, use0, use1, await, rewrite, feq_l}
use types.Part.{agg, sub, whole}
use types.Run.{stop, fld, of_opd, no_more, and_then, returns, enter}
use Rattle.capcheck_judge.specs.contracts.held.keep.{ended, clauses, Key.name as #self}
use Rattle.capcheck_judge.proofs.HeldFields.{pair, runs_from, owns_value, owned_block, held_good, held_in}
use Rattle.capcheck_judge.proofs.held.keep.Statement.{statement}
use Rattle.capcheck_judge.proofs.held.keep.Code as code

pub keep_spec : {M : Type 1} → statement M
keep_spec 𝓤 𝓛 𝓜 𝓡 wired T A LT LA g dict drop_T drop_A allocates drops_T drops_A =
    let R : RattleType = param 0 T in let Z : RattleType = param 1 A in let LZ = param_laws 1 A LA in let 𝓣 = tables 𝓤 𝓛.H 𝓜 𝓡 𝓡.env in
    let E : box.Bx = record { row = T; laws = LT; al = record { row = A; laws = LA; g = g; d = dict; drops = drop_A } } in
    let En = ended T A g dict drop_T drop_A in let c = clauses T A g dict drop_T drop_A 𝓛 𝓜.mem 𝓡.returns in
    let at_types = bounded (a_type ∷ a_type ∷ []) (T, (A, tt)) (dcons dict (dcons drop_T (dcons drop_A dnil))) in
    let fn = inst_fn at_types code.function in
    let stays : Stays En.signature.params En.kept = (stay_dropped (plain (λ _. box.B E)) no, tt) in
    let call = triple_of 𝓛 (into_raw.signature T A g dict drop_A drop_T) (into_raw.spec T A g dict drop_A drop_T 𝓛 𝓜.mem 𝓡.returns) in
    proved_at 𝓛 En stays c 𝓜 𝓡 (Goes-blank 𝓛 2 (plain (λ _. box.B E)) no (λ κs x f. tt), tt) (#self at_types) fn
    (code.unfolded 𝓤 𝓛.H 𝓜 𝓡 wired (T, (A, tt)) dict drop_T drop_A) (λ z are.
    let κs = z.0.0 in let qs = z.0.1 in let owner = z.0.3.0 in let a = owner.alloc in let x = owner.value in
    let end : Val → SProp 𝓤 = (walk_of 𝓛 En stays c).post z in let run : List Val → SProp 𝓤 = λ ws. WpFn 𝓤 𝓛.H 𝓣.C 𝓣.Λ fn ws end in
    let lives = ‵ (flft κs.0 qs.0) ⊛ ‵ (flft κs.1.0 qs.1.0) ⊛ ‵ ftrue in let asked = raw ((c κs z.0.3).requires z.1) in
    qed 𝓛 ((lives ⊛ ‵ (owns (types_at En.signature.params κs) z.0.3 z.0.4)) ∷ asked ∷ []) ∵
    -- the box tells its machine value, and goes into the call
    split ! $ move ! (1 ∷ []) $ fsplit ! $ box_out E ! owner z.0.4.0 (λ b o h e ws fits. box_in E ! owner b o x e refl $
    let w : Val = box.word E h b o in let given : call.Ghost = ((κs, qs, tt, (owner, tt), (w ∷ [], tt)), tt) in
    fjoin ! $ move ! (1 ∷ 0 ∷ []) $ join ! $ join ! $ use1 𝓛 (raw (call.pre given)) (id⊢ 𝓤 _) $
    suffices ! (run (w ∷ [])) (runs_from 𝓤 run ws) $
    enter ! 𝓣.C 𝓣.Λ fn (w ∷ []) end $ alloc_all ! (λ l. pass_all ! refl (held_good R Z LZ g b o h fits, tt) $
    sets ! (of_opd ! (get ! refl)) refl (held_good R Z LZ g b o h fits) $
    calls_at ! (λ f. framed 𝓤 𝓛.H 𝓜 𝓣 f) call
    (met 𝓤 𝓛 𝓜 𝓡 (code.calls-std_alloc::boxed::Box::into_raw_with_allocator 𝓡.env wired)
    T A LT LA g dict drop_A drop_T allocates drops_A drops_T)
    given (and_then ! (get ! refl) (no_more !)) (λ answer.
    -- it answers an address and the allocator, with the value at that address
    let Answer = Tuple (RawPtr ∷ Z ∷ []) in
    use1 𝓛 (later (some (λ (r : Ptr × A.Denot). (lives ⊛ ‵ (Answer.own_val r (answer ∷ []))) ⊛ some
    (λ (_ : (Unit {0} × (Unit {0} × Unit {0})) × Unit {0}).
    ‵ (fsep (fsep ftrue (fsep ftrue ftrue)) ftrue) ⊛ (raw (fact 𝓤 (r.1 ≡ a)) ⊛ ‵ (owns_value R Z LZ g a x r.0)))))) (id⊢ 𝓤 _) $
    await ! tt $ pick ! (λ r. split ! $ move ! (1 ∷ []) $ pick ! (λ _. split3 ! $ drop ! $ heard ! (r.1 ≡ a) (λ same.
    owned_block R Z LZ g ! a x r.0 (λ b' o' at. move ! (1 ∷ []) $ split ! $ move ! (1 ∷ []) $
    fpick ! (λ parts. fsplit ! $ feq_l ! (λ both. fsplit ! $ feq_l ! (λ address. fsplit ! $
    rewrite ! 0 (λ (it : A.Denot). ‵ (A.own_val it parts.1.0)) same refl $ handle_tells E.al ! a parts.1.0 (λ h' allocator fits'.
    let made = held_good R Z LZ g b' o' h' fits' in
    lands_as ! (ap only (both ∙ (λ i. vstruct (of_list (address i ++ (allocator i ++ []))) ∷ []) ∙ ap
    (λ p. pair (ptr_val p) h' ∷ []) at)) refl made $
    -- both go into the struct
    sets ! (of_opd ! (get_in ! (fld ! refl (stop !)) (sub ! 0 refl (whole !)))) refl (tt, tt) $
    sets ! (of_opd ! (get_in ! (fld ! refl (stop !)) (sub ! 1 refl (whole !)))) refl fits' $
    sets ! (of_opd ! (get ! refl)) refl fits' $ sets ! (agg ! (and_then ! (get ! refl) (and_then ! (get ! refl) (no_more !)))) refl made $
    move ! (3 ∷ 0 ∷ []) $ held_in R Z LZ g ! b' o' h' a x $
    use0 𝓛 (raw (fact 𝓤 (x ≡ x))) (fact_i 𝓤 (x ≡ x) (emp 𝓤) refl) $ nothing ! $ nothing ! $ fjoin ! $
    returns ! (look_at ! 0 refl) $ free_all ! refl $ keep ! (4 ∷ 0 ∷ 2 ∷ 1 ∷ []) $
    by ! (leaves 𝓛 En stays c z (pair (vptr b' o') h') (record { at = block_ptr b' o'; alloc = a; value = x }) ((tt, (tt, tt)), tt)
    (tt, tt))))))))))))))
