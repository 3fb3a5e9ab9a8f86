use Rattle.std.proofs.Common.{◌≡◌, ◌≤◌, ◌-◌, ℕ, Some, true}
use Rattle.cap_objects.specs.{declared.objects.Object.Object, Extents.{IsAsked, Meets, is_compared}, HandoutsIn.objects_of}
use Rattle.cap_objects.proofs.handouts.Handouts.first_met.Given as goal

abbrev pub invariant-up : goal.invariant-up
invariant-up l = record {
  within : l.from ≤ l.last;
  reached : (slot : ℕ) (object : Object) → objects_of l.self slot ≡ Some object → is_compared l.self.keeps object ≡ true
      → l.from ≤ object.base → l.base ≤ object.last;
  above : (slot : ℕ) (object : Object) → objects_of l.self slot ≡ Some object → IsAsked l.self.keeps l.left_out l.live slot object
      → Meets l.base l.last object → l.from ≤ object.base;
}

abbrev pub decreases-up : goal.decreases-up
decreases-up l = l.last - l.from
