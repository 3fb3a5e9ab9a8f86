-- `none` makes a handle of a null pointer.
use Rattle.std.proofs.{Common.{◌≡◌, List, [], ◌∷◌, refl, None}, alloc.Calls.handle_tells}
use Rattle.std.proofs.raw_atomic.Walks.{proved_at, leaves}
use base.Fml.{ftrue}
use base.Logic.{SProp, emp}
use contract.Monad.{fact, fact_i}
use contract.Running.{tables}
use denote.Exit.{yes}
use denote.RattleType.{owns}
use denote.RawPtr.{null_ptr, ptr_val}
use denote.Signature.{types_at, plain}
use denote.Steps.{nothing}
use denote.Triple.Walked.{Stays, stay_dropped, walk_of, Goes-dropped}
use mathlib.Core.Bool.{false}
use mir.Val.{Val, vbool}
use prog.Wp.{WpFn}
use types.ByLocal.{alloc_all, pass_all, free_all, look_at, get, sets}
use types.Kit.{‵, raw, ◌⊛◌, ◌$◌, ◌∵◌, !, qed, by, move, keep, split, fsplit, fjoin, suffices, use0}
use types.Part.{agg}
use types.Run.{lit, false_lit, no_more, and_then, returns, enter}
use Rattle.capcheck_judge.specs.Handles.{JudgeRow as J}
use Rattle.capcheck_judge.specs.contracts.handle.Handle.none.{ended, clauses, Key.name as #self}
use Rattle.capcheck_judge.proofs.{HandleFields.{Z, al, three, handle_good, handle_in}, HeldFields.runs_from}
use Rattle.capcheck_judge.proofs.handle.Handle.none.Statement.{statement}
use Rattle.capcheck_judge.proofs.handle.Handle.none.Code as code

pub none_spec : {M : Type 1} → statement M
none_spec 𝓤 𝓛 𝓜 𝓡 wired =
    let 𝓗 = 𝓛.H in let 𝓣 = tables 𝓤 𝓗 𝓜 𝓡 𝓡.env in let En = ended in let c = clauses 𝓛 𝓜.mem 𝓡.returns in let fn = code.function in
    let hs : Stays En.signature.params En.kept = (stay_dropped (plain (λ _. Z)) yes, tt) in
    proved_at 𝓛 En hs c 𝓜 𝓡 (Goes-dropped 𝓛 0 (plain (λ _. Z)) yes (λ κs x f. refl), tt) #self fn (code.unfolded 𝓤 𝓗 𝓜 𝓡 wired) (λ z are.
    let κs = z.0.0 in let a = z.0.3.0 in let Post : Val → SProp 𝓤 = (walk_of 𝓛 En hs c).post z in
    let Run : List Val → SProp 𝓤 = λ ws. WpFn 𝓤 𝓗 𝓣.C 𝓣.Λ fn ws Post in
    let toks = ‵ ftrue in let asked = raw ((c κs z.0.3).requires z.1) in
    qed 𝓛 ((toks ⊛ ‵ (owns (types_at En.signature.params κs) z.0.3 z.0.4)) ∷ asked ∷ []) ∵ split ! $ move ! (1 ∷ []) $ fsplit ! $
    handle_tells al ! a z.0.4.0 (λ h ea fits.
    suffices ! (Run (h ∷ [])) (runs_from 𝓤 Run ea) $
    enter ! 𝓣.C 𝓣.Λ fn (h ∷ []) Post $ alloc_all ! (λ l. pass_all ! refl (fits, tt) $ nothing ! $
    sets ! (agg ! (and_then ! (lit ! tt) (and_then ! (false_lit !) (and_then ! (get ! refl) (no_more !))))) refl
    (handle_good null_ptr false h fits) $ handle_in J ! null_ptr false h a None refl $
    use0 𝓛 (raw (fact 𝓤 (None ≡ None))) (fact_i 𝓤 (None ≡ None) (emp 𝓤) refl) $ nothing ! $ nothing ! $ fjoin ! $
    returns ! (look_at ! 0 refl) $ free_all ! refl $ keep ! (4 ∷ 0 ∷ 2 ∷ 1 ∷ []) $
    by ! (leaves 𝓛 En hs c z (three (ptr_val null_ptr) (vbool false) h)
    (record { at = null_ptr; held = false; alloc = a; judge = None }) (_, tt) (tt, tt)))))
