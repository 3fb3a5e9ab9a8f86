-- `of` keeps the pointer of a box that was taken apart, and says that there is one.
use Rattle.std.specs.contracts.impls.GlobalAllocator.TheImpl.{ghosts}
use Rattle.std.proofs.{Common.{◌≡◌, List, [], ◌∷◌, refl, Option, Some}, raw_atomic.Walks.{proved_at, leaves}}
use Rattle.std.proofs.alloc.Global.TheLaws as heap_laws
use base.Fml.{ftrue}
use base.Logic.{SProp, emp}
use contract.Monad.{fact, fact_i}
use contract.Running.{tables}
use denote.Exit.{yes}
use denote.RattleType.{RattleType, owns}
use denote.RawPtr.{block_ptr}
use denote.Signature.{types_at, plain}
use denote.Steps.{nothing}
use denote.Triple.Walked.{Stays, stay_dropped, walk_of, Goes-dropped}
use mathlib.Core.Bool.{true}
use mir.Val.{Val, vptr, vbool}
use prog.Wp.{WpFn}
use types.ByLocal.{alloc_all, pass_all, free_all, look_at, get, get_in, sets}
use types.Kit.{‵, raw, ◌⊛◌, ◌$◌, ◌∵◌, !, qed, by, move, keep, split, fsplit, fjoin, suffices, use0}
use types.Part.{agg, sub, whole}
use types.Run.{stop, fld, of_opd, true_lit, no_more, and_then, returns, enter}
use Rattle.capcheck_judge.specs.RunHandles.{RunJudgeRow as J}
use Rattle.capcheck_judge.specs.contracts.run_handle.RunHandle.of.{ended, clauses, Key.name as #self}
use Rattle.capcheck_judge.proofs.{HandleFields.{Z, three, handle_good, handle_in}, HeldFields.{pair, runs_from}}
use Rattle.capcheck_judge.proofs.{HeldFields.{KeptBox, held_good, held_out}, run_handle.RunHandle.of.Statement.statement}
use Rattle.capcheck_judge.proofs.run_handle.RunHandle.of.Code as code

pub of_spec : {M : Type 1} → statement M
of_spec 𝓤 𝓛 𝓜 𝓡 wired =
    let 𝓗 = 𝓛.H in let 𝓣 = tables 𝓤 𝓗 𝓜 𝓡 𝓡.env in let En = ended in let c = clauses 𝓛 𝓜.mem 𝓡.returns in let fn = code.function in
    let LZ = heap_laws.the_row_laws in let Lr : RattleType = KeptBox J Z LZ ghosts in
    let hs : Stays En.signature.params En.kept = (stay_dropped (plain (λ _. Lr)) yes, tt) in
    proved_at 𝓛 En hs c 𝓜 𝓡 (Goes-dropped 𝓛 0 (plain (λ _. Lr)) yes (λ κs x f. refl), tt) #self fn (code.unfolded 𝓤 𝓗 𝓜 𝓡 wired) (λ z are.
    let κs = z.0.0 in let v = z.0.3.0 in let a = v.alloc in let Post : Val → SProp 𝓤 = (walk_of 𝓛 En hs c).post z in
    let Run : List Val → SProp 𝓤 = λ ws. WpFn 𝓤 𝓗 𝓣.C 𝓣.Λ fn ws Post in
    let toks = ‵ ftrue in let asked = raw ((c κs z.0.3).requires z.1) in let there : Option J.Denot = Some v.value in
    qed 𝓛 ((toks ⊛ ‵ (owns (types_at En.signature.params κs) z.0.3 z.0.4)) ∷ asked ∷ []) ∵ split ! $ move ! (1 ∷ []) $ fsplit ! $
    held_out J Z LZ ghosts ! v z.0.4.0 (λ b o h e ws fits.
    let w : Val = pair (vptr b o) h in let typed = held_good J Z LZ ghosts b o h fits in
    suffices ! (Run (w ∷ [])) (runs_from 𝓤 Run ws) $
    -- [the value in memory with the right to free it; the allocator; nothing; the tokens; the requires]
    enter ! 𝓣.C 𝓣.Λ fn (w ∷ []) Post $ alloc_all ! (λ l. pass_all ! refl (typed, tt) $
    sets ! (of_opd ! (get_in ! (fld ! refl (stop !)) (sub ! 0 refl (whole !)))) refl (tt, tt) $
    sets ! (of_opd ! (get_in ! (fld ! refl (stop !)) (sub ! 1 refl (whole !)))) refl fits $
    sets ! (of_opd ! (get ! refl)) refl (tt, tt) $
    sets ! (agg ! (and_then ! (get ! refl) (and_then ! (true_lit !) (and_then ! (get ! refl) (no_more !))))) refl (handle_good
    (block_ptr b o) true h fits) $ handle_in J ! (block_ptr b o) true h a there refl $
    use0 𝓛 (raw (fact 𝓤 (there ≡ there))) (fact_i 𝓤 (there ≡ there) (emp 𝓤) refl) $ nothing ! $ nothing ! $ fjoin ! $
    returns ! (look_at ! 0 refl) $ free_all ! refl $ keep ! (4 ∷ 0 ∷ 2 ∷ 1 ∷ []) $
    by ! (leaves 𝓛 En hs c z (three (vptr b o) (vbool true) h) (record { at = block_ptr b o; held = true; alloc = a; judge = there })
    (_, tt) (tt, tt)))))
