use Rattle.std.proofs.Common.{◌≡◌, List, ℕ, Option, IfNone, sym, subst}
use Rattle.cap_texts.specs.{declared.fields.Field.Field, Fields.Stands}
use Rattle.cap_texts.proofs.fields.take_field.Goals as goal

-- what stands nowhere as one field, stands nowhere as the field that is it
none_as : {A : Type 0} (field given : Field) (size end : ℕ) (bytes : List ℕ) (result : Option A) → given ≡ field
    → IfNone result ((rest : List ℕ) → Stands field size end bytes rest → ⊥)
    → IfNone result ((rest : List ℕ) → Stands given size end bytes rest → ⊥)
none_as field given size end bytes result is =
    subst (λ (f : Field). IfNone result ((rest : List ℕ) → Stands f size end bytes rest → ⊥)) (sym is)

pub returns-in-LogVersion-clause-none : goal.returns-in-LogVersion-clause-none
returns-in-LogVersion-clause-none c =
    none_as _ _ _ _ _ _ c.in-LogVersion.is c.take_digit.ensures.none

pub returns-in-HeapVersion-clause-none : goal.returns-in-HeapVersion-clause-none
returns-in-HeapVersion-clause-none c =
    none_as _ _ _ _ _ _ c.in-HeapVersion.is c.take_digit-in-HeapVersion.ensures.none

pub returns-in-Size-clause-none : goal.returns-in-Size-clause-none
returns-in-Size-clause-none c =
    none_as _ _ _ _ _ _ c.in-Size.is c.take_digit-in-Size.ensures.none

pub returns-in-Equals-clause-none : goal.returns-in-Equals-clause-none
returns-in-Equals-clause-none c =
    none_as _ _ _ _ _ _ c.in-Equals.is c.take_digit-in-Equals.ensures.none

pub returns-in-Value-clause-none : goal.returns-in-Value-clause-none
returns-in-Value-clause-none c =
    none_as _ _ _ _ _ _ c.in-Value.is c.take_value.ensures.none

pub returns-in-Tag-clause-none : goal.returns-in-Tag-clause-none
returns-in-Tag-clause-none c =
    none_as _ _ _ _ _ _ c.in-Tag.is c.take_digit-in-Tag.ensures.none
