-- The machine values of a handle, and what it owns. Assumes `Logic`.
--     Z                    the allocator as a row
--     three                the machine value of a handle
--     owned_handle         what a handle owns that holds a judge of some type, by its fields
--     handle_out           a handle by value is [the judge that it holds; its allocator]
--     handle_in            the same put together
--     either_held          the two cases of what it holds
use Rattle.std.specs.{Box.Ownership.box_owns, contracts.impls.GlobalAllocator.TheImpl.ghosts}
use Rattle.std.specs.contracts.alloc.Global as heap
use Rattle.std.proofs.Common.{◌≡◌, List, [], ◌∷◌, ◌++◌, refl, ◌∙◌, lit<, Option, is_some, None, Some}
use Rattle.std.proofs.{ResultValues.and_tt, alloc.Calls.{Al, handle_tells}, cell.Inside.Good}
use Rattle.std.proofs.alloc.Global.TheLaws as heap_laws
use base.Fml.{Fml, fex, feq, fsep}
use denote.Builtin.{RawPtr, bool}
use denote.Param.{layout}
use denote.RattleType.{RattleType, Valss, flat, owns}
use denote.RawPtr.{Ptr, block_ptr, null_ptr, ptr_val}
use denote.Steps.{nothing}
use lib.Dec.{T}
use mathlib.Core.Bool.{Bool}
use mir.Syntax.{impl, tnil, dnil, ty_ptr}
use mir.Val.{Val, vbool, vstruct, vcons, vnil, of_list, has_ty, WT}
use seplogic.Ra.Ura.{Ura}
use types.Kit.{Item, Goal, Seq, Step, step, ‵, ◌$◌, move, drop, fsplit, fjoin, fpick, fpack, feq_i, feq_l}
use types.Logic.{Logic}
use Rattle.capcheck_judge.specs.Holding.{held_by, owned_value}
use Rattle.capcheck_judge.specs.contracts.handle.Handle as handle

abbrev pub Z : RattleType
Z = heap.the_row

abbrev pub Fields : List RattleType
Fields = RawPtr ∷ bool ∷ Z ∷ []

abbrev pub al : Al
al = record { row = Z; laws = heap_laws.the_row_laws; g = ghosts; d = impl [] tnil dnil; drops = impl [] tnil dnil }

abbrev pub three : Val → Val → Val → Val
three u v w = vstruct (vcons u (vcons v (vcons w vnil)))

-- a pointer has its type's layout
pub ptr_good : (p : Ptr) → T (has_ty ty_ptr (ptr_val p)) × WT (ptr_val p)
ptr_good (block_ptr b o) = (tt, tt)
ptr_good null_ptr = (tt, record { fits = lit< tt })

-- so has a handle
pub handle_good : (p : Ptr) (y : Bool) (h : Val) → Good (layout Z) h → Good (layout handle.the_row) (three (ptr_val p) (vbool y) h)
handle_good (block_ptr b o) y h fits = (and_tt (has_ty (layout Z) h) fits.0, (tt, (tt, (fits.1, tt))))
handle_good null_ptr y h fits = (and_tt (has_ty (layout Z) h) fits.0, (record { fits = lit< tt }, (tt, (fits.1, tt))))

-- what its fields own
abbrev pub parts : Ptr → Bool → Z.Denot → List Val → Valss Fields → Fml
parts p y a vs vss = fsep (feq (List Val) vs (vstruct (of_list (flat Fields vss)) ∷ [])) (owns Fields (p, (y, (a, tt))) vss)

module _ (J : RattleType) where
  -- the judge at a pointer
  abbrev pub owns_judge : heap.the_row.Denot → Ptr → J.Denot → Fml
  owns_judge a p x = box_owns (ghosts.dealloc_token a) J p x

  abbrev pub owned_handle : Ptr → Bool → Z.Denot → Option J.Denot → List Val → Fml
  owned_handle p y a j vs = fsep (fex (Valss Fields) (parts p y a vs)) (held_by (owns_judge a p) y j)

  module _ {M : Type 1} {𝓤 : Ura M} {𝓛 : Logic 𝓤} {K : Type 0} {Γ : List (Item 𝓤)} {G : Goal 𝓤 𝓛.H} where
    pub handle_out : K → (p : Ptr) (y : Bool) (a : Z.Denot) (j : Option J.Denot) (vs : List Val)
        → ((h : Val) → vs ≡ three (ptr_val p) (vbool y) h ∷ [] → Good (layout Z) h → y ≡ is_some j
        → Seq K 𝓛 (‵ (owned_value (owns_judge a p) j) ∷ ‵ (Z.own_val a (h ∷ [])) ∷ Γ) G)
        → Seq K 𝓛 (‵ (owned_handle p y a j vs) ∷ Γ) G
    handle_out t p y a j vs k =
        fsplit t $ fpick t (λ vss. fsplit t $ feq_l t (λ ev. fsplit t $ feq_l t (λ ep. fsplit t $ feq_l t (λ eb. fsplit t $
        handle_tells al t a vss.1.1.0 (λ h ea fits. move t (1 ∷ []) $ drop t $ move t (1 ∷ []) $
        fsplit t $ feq_l t (λ es. k h (ev ∙ (λ i. vstruct (of_list (ep i ++ (eb i ++ (ea i ++ [])))) ∷ [])) fits es))))))

    pub handle_in : K → (p : Ptr) (y : Bool) (h : Val) (a : Z.Denot) (j : Option J.Denot) → y ≡ is_some j
        → Step K 𝓛 (‵ (owned_handle p y a j (three (ptr_val p) (vbool y) h ∷ [])) ∷ Γ) G (‵
        (owned_value (owns_judge a p) j) ∷ ‵ (Z.own_val a (h ∷ [])) ∷ Γ) G
    handle_in t p y h a j e = step (λ s. let v : Val = three (ptr_val p) (vbool y) h in
        feq_i t Bool y (is_some j) e $ fjoin t $ nothing t $ move t (2 ∷ 0 ∷ []) $ fjoin t $
        feq_i t (List Val) (vbool y ∷ []) (vbool y ∷ []) refl $ fjoin t $
        feq_i t (List Val) (ptr_val p ∷ []) (ptr_val p ∷ []) refl $ fjoin t $ feq_i t (List Val) (v ∷ []) (v ∷ []) refl $ fjoin t $
        fpack t (Valss Fields) (parts p y a (v ∷ [])) (ptr_val p ∷ [], (vbool y ∷ [], (h ∷ [], tt))) $ fjoin t $ s)

    pub either_held : K → (owns : J.Denot → Fml) (j : Option J.Denot) → (j ≡ None → Seq K 𝓛 Γ G) → ((x : J.Denot) → j ≡ Some x
        → Seq K 𝓛 (‵ (owns x) ∷ Γ) G)
        → Seq K 𝓛 (‵ (owned_value owns j) ∷ Γ) G
    either_held t owns None none one = drop t $ none refl
    either_held t owns (Some x) none one = one x refl
