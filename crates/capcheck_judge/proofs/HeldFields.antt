-- The machine value of a kept box, and what it owns. Assumes `Logic`.
--     pair             a struct of two fields
--     runs_from        a run from some values is a run from equal ones
--     owned_block      what a box owned stands in a block, so its address isn't null
--     held_good        a pointer and an allocator have the layout of a kept box
--     held_out         a kept box is [the value at its address, with the right to free it; the allocator]
--     held_in          the same put together
use Rattle.std.specs.{declared.alloc.Allocator.Ghosts, Box.Ownership.box_owns}
use Rattle.std.proofs.{Common.{◌≡◌, ℕ, List, [], ◌∷◌, ◌++◌, refl, sym, ap, ◌∙◌, subst}, ResultValues.and_tt}
use Rattle.std.proofs.{alloc.Calls.{Al, handle_tells}, cell.Inside.Good}
use base.Fml.{Fml}
use base.Logic.{SProp, ent, never, fst∗, id⊢}
use denote.Builtin.{RawPtr}
use denote.Memory.{lone}
use denote.Param.{layout}
use denote.Param.Laws.{Laws}
use denote.RattleType.{RattleType, Valss}
use denote.RawPtr.{Ptr, block_ptr, null_ptr, ptr_val, in_a_block}
use denote.Steps.{nothing}
use denote.Struct.Owning.{shape, to}
use denote.Struct.Struct.{within}
use lib.Dec.{T}
use mathlib.Core.Bool.{true, ◌&&◌}
use mir.Raw.{raw as bare}
use mir.Syntax.{impl, tnil, dnil}
use mir.Val.{Val, vptr, vstruct, vcons, vnil, of_list, has_ty, WT}
use seplogic.Ra.Ura.{Ura}
use types.Kit.{Item, Goal, Seq, Step, step, ‵, ◌$◌, move, drop, fsplit, fjoin, fpick, fpack, feq_i, feq_l}
use types.Logic.{Logic, sem}
use Rattle.capcheck_judge.specs.contracts.held.KeptBox as held

abbrev pub pair : Val → Val → Val
pair u v = vstruct (vcons u (vcons v vnil))

pub runs_from : {M : Type 1} (𝓤 : Ura M) (run : List Val → SProp 𝓤) {given values : List Val} → given ≡ values
    → ent 𝓤 (run (values ++ [])) (run (given ++ []))
runs_from 𝓤 run {values = values} same =
    subst (λ (it : List Val). ent 𝓤 (run (values ++ [])) (run it)) (sym (λ i. same i ++ [])) (id⊢ 𝓤 (run (values ++ [])))

module _ (R Z : RattleType) (L : Laws Z) (g : Ghosts Z.Denot) where
  abbrev pub KeptBox : RattleType
  KeptBox = held.the_row R Z g

  -- the value at an address, with the right to free it
  abbrev pub owns_value : Z.Denot → R.Denot → Ptr → Fml
  owns_value a x p = box_owns (g.dealloc_token a) R p x

  pub held_good : (b o : ℕ) (h : Val) → Good (layout Z) h → T (has_ty (layout Z) h && true) × WT (pair (vptr b o) h)
  held_good b o h fits = (and_tt (has_ty (layout Z) h) fits.0, (tt, (fits.1, tt)))

  module _ {M : Type 1} {𝓤 : Ura M} {𝓛 : Logic 𝓤} {K : Type 0} {Γ : List (Item 𝓤)} {G : Goal 𝓤 𝓛.H} where
    pub owned_block : K → (a : Z.Denot) (x : R.Denot) (p : Ptr) → ((b o : ℕ) → p ≡ block_ptr b o
        → Seq K 𝓛 (‵ (owns_value a x (block_ptr b o)) ∷ Γ) G)
        → Seq K 𝓛 (‵ (owns_value a x p) ∷ Γ) G
    owned_block t a x p k = in_a_block t p (owns_value a x) (fst∗ 𝓤 (never 𝓤) (sem 𝓛 (g.dealloc_token a (bare (lone R.mir)) null_ptr))) k

  module _ {M : Type 1} {𝓤 : Ura M} {𝓛 : Logic 𝓤} {K : Type 0} {Γ : List (Item 𝓤)} {G : Goal 𝓤 𝓛.H} where
    pub held_out : K → (d : KeptBox.Denot) (vs : List Val)
        → ((b o : ℕ) (h : Val) → d.at ≡ block_ptr b o → vs ≡ pair (vptr b o) h ∷ [] → Good (layout Z) h
        → Seq K 𝓛 (‵ (owns_value d.alloc d.value (block_ptr b o)) ∷ ‵ (Z.own_val d.alloc (h ∷ [])) ∷ Γ) G)
        → Seq K 𝓛 (‵ (KeptBox.own_val d vs) ∷ Γ) G
    held_out t d vs k =
        let al : Al = record { row = Z; laws = L; g = g; d = impl [] tnil dnil; drops = impl [] tnil dnil } in
        fsplit t $ fpick t (λ fields. fsplit t $ feq_l t (λ whole. fsplit t $ feq_l t (λ address. fsplit t $
        handle_tells al t d.alloc fields.1.0 (λ h allocator fits. move t (1 ∷ []) $ drop t $ move t (1 ∷ []) $
        owned_block t d.alloc d.value d.at (λ b o at.
        k b o h at (whole ∙ (λ i. vstruct (of_list (address i ++ (allocator i ++ []))) ∷ []) ∙ ap
        (λ p. pair (ptr_val p) h ∷ []) at) fits)))))

    pub held_in : K → (b o : ℕ) (h : Val) (a : Z.Denot) (x : R.Denot)
        → Step K 𝓛 (‵ (KeptBox.own_val (record { at = block_ptr b o; alloc = a; value = x }) (pair (vptr b o) h ∷ [])) ∷ Γ) G
        (‵ (owns_value a x (block_ptr b o)) ∷ ‵ (Z.own_val a (h ∷ [])) ∷ Γ) G
    held_in t b o h a x = step (λ rest.
        let whole : Val = pair (vptr b o) h in let kept : KeptBox.Denot = record { at = block_ptr b o; alloc = a; value = x } in
        nothing t $ move t (2 ∷ 0 ∷ []) $ fjoin t $ feq_i t (List Val) (vptr b o ∷ []) (vptr b o ∷ []) refl $ fjoin t $
        feq_i t (List Val) (whole ∷ []) (whole ∷ []) refl $ fjoin t $
        fpack t (Valss (RawPtr ∷ Z ∷ [])) (within (shape (held.the_type R Z g)) (to (held.the_type R Z g) kept) (whole ∷ []))
        (vptr b o ∷ [], (h ∷ [], tt)) $
        fjoin t $ rest)
