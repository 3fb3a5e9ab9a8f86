-- What a line on objects means: the object, and the extent that it asks for (this profile's own).
use Rattle.std.specs.Prelude.{ℕ, min, max, Option, Some, None, option_map}
use Rattle.cap_bounds.specs.Bounds.{base_of, top_of}
use Rattle.cap_objects.specs.Objects.{top_of_extent}
use Rattle.cap_run.specs.Run.{Run}

-- the object that a line means: that of its number, or the owner of its register
abbrev pub meant : Run → ℕ → Option ℕ → Option ℕ
meant run register None = run.owners register
meant run register (Some number) = Some number

-- the interval that a line asks for as an extent: the bounds of what its register holds, and with a number the least that
-- holds these and the extent of that object
abbrev pub asked_extent : Run → ℕ → Option ℕ → Option (ℕ × ℕ)
asked_extent run register None = let w = (run.state register).word.0 in Some (base_of w, top_of w)
asked_extent run register (Some number) =
    let w = (run.state register).word.0 in
    option_map (λ object. (min object.base (base_of w), max (top_of_extent object) (top_of w))) (run.objects number)
