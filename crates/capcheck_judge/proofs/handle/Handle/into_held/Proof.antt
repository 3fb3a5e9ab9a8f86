-- `into_held` reads the flag, and hands out the pointer where there is one.
use Rattle.std.specs.contracts.impls.GlobalAllocator.TheImpl.{ghosts}
use Rattle.std.proofs.{Common.{◌≡◌, List, [], ◌∷◌, refl, ap, ◌∙◌, lit<, is_some, None, Some}, ResultValues.and_tt}
use Rattle.std.proofs.{alloc.Shapes.after, cell.Inside.Good, option.Made.{Some-of, none_of}}
use Rattle.std.proofs.raw_atomic.Walks.{proved_at, leaves}
use Rattle.std.proofs.alloc.Global.TheLaws as heap_laws
use base.Fml.{ftrue}
use base.Logic.{SProp, emp, never, fst∗}
use contract.Monad.{fact, fact_i}
use contract.Running.{tables}
use denote.Exit.{yes}
use denote.Param.{layout}
use denote.RattleType.{RattleType, owns}
use denote.RawPtr.{Ptr, block_ptr, null_ptr, ptr_val, in_a_block}
use denote.Signature.{types_at, type_at, plain}
use denote.Steps.{nothing}
use denote.Triple.Walked.{Stays, stay_dropped, walk_of, Goes-dropped}
use mathlib.Core.Bool.{Bool, true, false}
use mir.Raw.{raw as bare}
use mir.Val.{Val, vptr, vbool, vcons, vnil}
use prog.Wp.{WpFn}
use types.ByLocal.{alloc_all, pass_all, free_all, look_at, get, get_in, sets, sets_last, env}
use types.Kit.{‵, raw, ◌⊛◌, at_ret, ◌$◌, ◌∵◌, !, qed, by, move, keep, split, fsplit, fjoin, suffices, use0, use1}
use types.Logic.{sem}
use types.Match.{live}
use types.Part.{agg, sub, whole}
use types.Run.{stop, fld, lit, of_opd, no_more, and_then, first, branches, exec, returns, enter}
use Rattle.capcheck_judge.specs.Handles.{JudgeRow as J}
use Rattle.capcheck_judge.specs.contracts.handle.Handle.{the_row as H}
use Rattle.capcheck_judge.specs.contracts.handle.Handle.into_held.{ended, clauses, Key.name as #self}
use Rattle.capcheck_judge.proofs.HandleFields.{Z, three, ptr_good, handle_good, handle_out, either_held}
use Rattle.capcheck_judge.proofs.{HandleFields.owns_judge, HeldFields.{pair, runs_from, KeptBox, held_good, held_in}}
use Rattle.capcheck_judge.proofs.handle.Handle.into_held.Statement.{statement}
use Rattle.capcheck_judge.proofs.handle.Handle.into_held.Code as code

pub into_held_spec : {M : Type 1} → statement M
into_held_spec 𝓤 𝓛 𝓜 𝓡 wired =
    let 𝓗 = 𝓛.H in let 𝓣 = tables 𝓤 𝓗 𝓜 𝓡 𝓡.env in let En = ended in let c = clauses 𝓛 𝓜.mem 𝓡.returns in let fn = code.function in
    let LZ = heap_laws.the_row_laws in let Lr : RattleType = KeptBox J Z LZ ghosts in
    let hs : Stays En.signature.params En.kept = (stay_dropped (plain (λ _. H)) yes, tt) in
    proved_at 𝓛 En hs c 𝓜 𝓡 (Goes-dropped 𝓛 0 (plain (λ _. H)) yes (λ κs x f. refl), tt) #self fn (code.unfolded 𝓤 𝓗 𝓜 𝓡 wired) (λ z are.
    let κs = z.0.0 in let v = z.0.3.0 in let a = v.alloc in let Post : Val → SProp 𝓤 = (walk_of 𝓛 En hs c).post z in
    let Run : List Val → SProp 𝓤 = λ ws. WpFn 𝓤 𝓗 𝓣.C 𝓣.Λ fn ws Post in
    let Out : RattleType = type_at En.signature.result κs in let toks = ‵ ftrue in let asked = raw ((c κs z.0.3).requires z.1) in
    qed 𝓛 ((toks ⊛ ‵ (owns (types_at En.signature.params κs) z.0.3 z.0.4)) ∷ asked ∷ []) ∵ split ! $ move ! (1 ∷ []) $ fsplit ! $
    handle_out J ! v.at v.held v.alloc v.judge z.0.4.0 (λ h ws fits flag.
    either_held J ! (owns_judge J a v.at) v.judge
    (λ is. let w : Val = three (ptr_val v.at) (vbool false) h in
    let eq : z.0.4.0 ≡ w ∷ [] = ws ∙ ap (λ (y : Bool). three (ptr_val v.at) (vbool y) h ∷ []) (flag ∙ ap is_some is) in
    suffices ! (Run (w ∷ [])) (runs_from 𝓤 Run eq) $
    -- [the allocator; nothing; the tokens; the requires]
    enter ! 𝓣.C 𝓣.Λ fn (w ∷ []) Post $ alloc_all ! (λ l. pass_all ! refl (handle_good v.at false h fits, tt) $ let Ev = env fn.locals l in
    sets ! (of_opd ! (get_in ! (fld ! refl (stop !)) (sub ! 0 refl (whole !)))) refl (ptr_good v.at) $
    sets ! (of_opd ! (get_in ! (fld ! refl (stop !)) (sub ! 1 refl (whole !)))) refl (tt, tt) $
    sets ! (of_opd ! (get_in ! (fld ! refl (stop !)) (sub ! 2 refl (whole !)))) refl fits $ sets ! (of_opd ! (get ! refl)) refl (tt, tt) $
    first ! $ branches ! (get ! refl) (λ wrong. absurd wrong)
    (λ _. sets_last ! (agg ! (and_then ! (lit ! tt) (no_more !))) refl (tt, (record { fits = lit< tt }, tt)) $
    exec ! 𝓣.C 𝓣.Λ Ev (after 5 fn.body) (at_ret Ev Post) $
    sets ! (of_opd ! (get ! refl)) refl (tt, (record { fits = lit< tt }, tt)) $
    use0 𝓛 (‵ (Out.own_val None (live 0 vnil ∷ []))) (none_of 𝓛 Lr) $
    use0 𝓛 (raw (fact 𝓤 (v.judge ≡ None))) (fact_i 𝓤 (v.judge ≡ None) (emp 𝓤) is) $ nothing ! $ nothing ! $ fjoin ! $
    returns ! (look_at ! 0 refl) $ free_all ! refl $ keep ! (5 ∷ 0 ∷ 2 ∷ 1 ∷ []) $
    by ! (leaves 𝓛 En hs c z (live 0 vnil) None (_, tt) (tt, tt)))))
    (λ x is. in_a_block ! v.at (λ p. owns_judge J a p x) (fst∗ 𝓤 (never 𝓤) (sem 𝓛 (ghosts.dealloc_token a (bare (layout J)) null_ptr)))
    (λ b o e.
    let w : Val = three (vptr b o) (vbool true) h in
    let eq : z.0.4.0 ≡ w ∷ [] = ws ∙ ap (λ (y : Bool). three (ptr_val v.at) (vbool y) h ∷ []) (flag ∙ ap is_some is) ∙ ap
    (λ (p : Ptr). three (ptr_val p) (vbool true) h ∷ []) e in
    let made : Val = pair (vptr b o) h in let typed = held_good J Z LZ ghosts b o h fits in
    let out : Val = live 1 (vcons made vnil) in let d : Lr.Denot = record { at = block_ptr b o; alloc = a; value = x } in
    let good : Good (layout Out) out = (and_tt _ typed.0, (record { fits = lit< tt }, (typed.1, tt))) in
    suffices ! (Run (w ∷ [])) (runs_from 𝓤 Run eq) $
    -- [the value in memory with the right to free it; the allocator; nothing; the tokens; the requires]
    enter ! 𝓣.C 𝓣.Λ fn (w ∷ []) Post $ alloc_all ! (λ l. pass_all ! refl (handle_good (block_ptr b o) true h fits, tt) $
    let Ev = env fn.locals l in
    sets ! (of_opd ! (get_in ! (fld ! refl (stop !)) (sub ! 0 refl (whole !)))) refl (tt, tt) $
    sets ! (of_opd ! (get_in ! (fld ! refl (stop !)) (sub ! 1 refl (whole !)))) refl (tt, tt) $
    sets ! (of_opd ! (get_in ! (fld ! refl (stop !)) (sub ! 2 refl (whole !)))) refl fits $ sets ! (of_opd ! (get ! refl)) refl (tt, tt) $
    first ! $ branches ! (get ! refl)
    (λ _. sets ! (of_opd ! (get ! refl)) refl (tt, tt) $
    sets ! (agg ! (and_then ! (get ! refl) (and_then ! (get ! refl) (no_more !)))) refl typed $
    sets_last ! (agg ! (and_then ! (lit ! tt) (and_then ! (get ! refl) (no_more !)))) refl good $
    exec ! 𝓣.C 𝓣.Λ Ev (after 5 fn.body) (at_ret Ev Post) $
    sets ! (of_opd ! (get ! refl)) refl good $ held_in J Z LZ ghosts ! b o h a x $
    use1 𝓛 (‵ (Out.own_val (Some d) (out ∷ []))) (Some-of 𝓛 Lr d made) $
    use0 𝓛 (raw (fact 𝓤 (v.judge ≡ Some x))) (fact_i 𝓤 (v.judge ≡ Some x) (emp 𝓤) is) $ nothing ! $ nothing ! $ fjoin ! $
    returns ! (look_at ! 0 refl) $ free_all ! refl $ keep ! (4 ∷ 0 ∷ 2 ∷ 1 ∷ []) $
    by ! (leaves 𝓛 En hs c z out (Some d) (_, tt) (tt, tt)))
    (λ wrong. absurd wrong))))))
