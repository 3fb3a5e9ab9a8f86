-- The report of a machine's run is that of the log that led to it.
use Rattle.std.specs.List.{slice_get}
use Rattle.std.proofs.Common.{◌≡◌, ◌==◌, ℕ, ◌≤◌, ◌<◌, ◌++◌, List, [], Bool, true, false, Option, Some, None, Result, Ok, Err, option_and_then}
use Rattle.std.proofs.Common.{refl, sym, ap, ◌∙◌, inl, inr, arith}
use Rattle.std.proofs.lemmas.{Bool.{cases_Bool, cond-true, cond-false}, Option.{none-some, same_Some}}
use Rattle.cap_streams.specs.{FaultLines.told_fault, declared.judging.judge_faults.JudgeFault.{JudgeFault, TheVariants.{NoMemory, Pull}}}
use Rattle.cap_streams.specs.{declared.judging.judge_faults.JudgeToFault.JudgeToFault, Streams.{CountsOnly, next_count}}
use Rattle.cap_streams.specs.declared.judging.judge_faults.JudgeToFault.TheVariants as told
use Rattle.cap_machine.specs.{Helds.Held, States.granule_key}
use Rattle.cap_objects.specs.{declared.{handouts.Handouts.Handouts, objects.Object.Object}, Extents.{Objects, is_present}}
use Rattle.cap_objects.specs.{HandoutsIn.{objects_of, slot_numbered}, Indexes.{kept, number_key}}
use Rattle.cap_run_log.specs.declared.lines.RunPlace.{RunPlace, TheVariants.Granule}
use Rattle.cap_run.specs.{declared.{asks.Asks.Asks, ends.RunRefusal.RunRefusal, specials.Specials.Specials}, Harts.Harts, Numbers.{by_number, numbered_run}, Run.Run}
use Rattle.cap_run.specs.{HartPlaces.{place_in, place_numbered}, Safety.IsSafe}
use Rattle.cap_run_judge.specs.declared.verdict.RunVerdict.{RunVerdict, TheVariants.{Yes, No}}
use Rattle.cap_run_judge.specs.{Judgings.{IsAnswerOf, StopsIn}, OwnerLists.{line_of_object, line_of_place, numbered_line, object_line, place_line}}
use Rattle.cap_run_judge.specs.OwnerLists.{object_lines, owner_lines, register_lines, run_report_text}
use Rattle.cap_run_judge.proofs.OwnerLemmas.{no_lines, skip_lines}
use Rattle.cap_run_judge.specs.{Reports.{AreNumbered, IsRunPushed, LeadsAfter}, VerdictLines.run_verdict_line}

-- an object's line
pub object_told : (run : Run) (number roots : ℕ) (object : Object) → roots ≡ run.roots → run.objects number ≡ Some object
    → object_line roots object ≡ numbered_line run number
object_told run number roots object same is =
    ap (λ (r : ℕ). object_line r object) same ∙ ap (line_of_object run.roots) (sym is)

pub object_untold : (run : Run) (number : ℕ) → run.objects number ≡ None → numbered_line run number ≡ []
object_untold run number is = ap (line_of_object run.roots) is

pub place_untold : (run : Run) (hart : ℕ) (place : RunPlace) → run.owners (place_in run.harts hart place) ≡ None → place_line run hart place ≡ []
place_untold run hart place is = ap (line_of_place hart place) is

-- a granule is the same place by any hart
pub granule_in : (harts : Harts) (hart granule : ℕ) → place_in harts hart (Granule granule) ≡ granule_key granule
granule_in harts hart granule = elim (cases_Bool (hart == harts.current)) [
  | inl same ↦ cond-true (hart == harts.current) _ _ same
  | inr other ↦ cond-false (hart == harts.current) _ _ other
]

pub granule_untold : (run : Run) (granule : ℕ) → run.owners (granule_key granule) ≡ None → place_line run 0 (Granule granule) ≡ []
granule_untold run granule is = place_untold run 0 (Granule granule) (ap run.owners (granule_in run.harts 0 granule) ∙ is)

-- a hart of which no object owns a register has no lines
pub hart_untold : (run : Run) (hart : ℕ)
    → ((register : ℕ) → register < 64 → run.owners (place_in run.harts hart (place_numbered register)) ≡ None) → register_lines run hart ≡ []
hart_untold run hart none =
    let line : ℕ → List ℕ = λ number. place_line run hart (place_numbered number) in
    sym (no_lines line 1 ∙ skip_lines line 1 0 63 (omega arith) (λ k more less. place_untold run hart (place_numbered k) (none k (omega (arith, less)))))

-- what an index finds
found : (objects : Objects) (slot : Option ℕ) (object : Object) → option_and_then objects slot ≡ Some object
    → (s : ℕ) × (slot ≡ Some s) × (objects s ≡ Some object)
found objects None object is = absurd (none-some object is)
found objects (Some s) object is = (s, refl, is)

kept_present : (o : Option Object) (object : Object) → option_and_then kept o ≡ Some object → is_present object ≡ true
kept_present None object is = absurd (none-some object is)
kept_present (Some o) object is = elim (cases_Bool (is_present o)) [
  | inl there ↦ ap is_present (sym (same_Some o object (sym (cond-true (is_present o) (Some o) None there) ∙ is))) ∙ there
  | inr gone ↦ absurd (none-some object (sym (cond-false (is_present o) (Some o) None gone) ∙ is))
]

-- the object with a number, its slot, and that its number is one of those handed out
pub record IsListed (h : Handouts) (number : ℕ) (object : Object) : Type 0 where
  pub own : object.number ≡ number
  pub some : 1 ≤ number
  pub few : number ≤ h.count
  pub present : is_present object ≡ true

pub listed : (h : Handouts) (number : ℕ) (object : Object) → by_number (slot_numbered h) (objects_of h) number ≡ Some object
    → IsListed h number object
listed h number object is =
    let at = found (objects_of h) (slot_numbered h number) object is in
    let own : object.number ≡ number =
    same_Some object.number number (sym (ap (option_and_then number_key) at.2) ∙ h.kept.numbered.only number at.0 at.1) in
    let some = h.kept.some at.0 object at.2 in
    let few = h.kept.few at.0 object at.2 in
    record {
      own = own;
      some = omega (arith, own, some);
      few = omega (arith, own, few);
      present = kept_present (slice_get h.slots.objects.items at.0) object at.2;
    }

-- all objects of a machine's run are listed
pub are_numbered : (held : Held) (specials : Specials) (h : Handouts) (keeps : Bool) → IsSafe keeps (numbered_run held specials h)
    → AreNumbered (numbered_run held specials h)
are_numbered held specials h keeps safe number object is =
    let l = listed h number object is in
    record { own = l.own; some = l.some; few = l.few; present = l.present; held = safe.held number object is }

-- after a yes
pub leads : (asks : Asks) (bytes : List ℕ) (ended : Bool) (run : Run) (text : List ℕ) (verdict : RunVerdict)
    → AreNumbered run → StopsIn asks bytes ended run text verdict → LeadsAfter asks bytes run verdict
leads asks bytes ended run text (Yes steps roots objects) are to = (to, are)
leads asks bytes ended run text (No line refusal) are to = tt

-- the text after a yes, if owners are asked for
pub asked_text : (owners : Bool) (run : Run) (verdict : RunVerdict) (steps roots objects : ℕ) → owners ≡ true → verdict ≡ Yes steps roots objects
    → run_verdict_line verdict ++ (object_lines run ++ owner_lines run) ≡ run_report_text owners run verdict
asked_text owners run verdict steps roots objects asked is =
    ap (λ (v : RunVerdict). run_verdict_line v ++ (object_lines run ++ owner_lines run)) is
    ∙ sym (ap (λ (b : Bool). run_report_text b run verdict) asked ∙ ap (run_report_text true run) is)

-- the text where they are not asked for
pub plain_text : (owners : Bool) (run : Run) (verdict : RunVerdict) → owners ≡ false → run_verdict_line verdict ≡ run_report_text owners run verdict
plain_text owners run verdict asked = sym (ap (λ (b : Bool). run_report_text b run verdict) asked)

-- and after a no
pub no_text : (owners : Bool) (run : Run) (verdict : RunVerdict) (line : ℕ) (refusal : RunRefusal) → verdict ≡ No line refusal
    → run_verdict_line verdict ≡ run_report_text owners run verdict
no_text true run verdict line refusal is = rw is refl
no_text false run verdict line refusal is = refl

-- without a verdict nothing is pushed
pub pushed_nothing : (asks : Asks) (tells : RunVerdict → List ℕ → Type 0) (bytes : List ℕ) (ended : Bool) (took : List ℕ → Type 0) (fault : JudgeFault)
    → IsAnswerOf asks bytes ended (Err fault) → took [] → IsRunPushed asks tells bytes ended took (Err (told_fault fault))
pushed_nothing asks tells bytes ended took Pull answer nothing = (answer, nothing)
pushed_nothing asks tells bytes ended took NoMemory answer nothing = (answer, nothing)

-- How faults are counted

-- a fault of the judging, as the fault that is told of it
pub fault_counted : (fault : JudgeFault) (answer : Result RunVerdict JudgeFault) (result : Result RunVerdict JudgeToFault) (before after : ℕ)
    → answer ≡ Err fault → result ≡ Err (told_fault fault) → CountsOnly (Err Pull) before after answer → CountsOnly (Err told.Pull) before after result
fault_counted Pull answer result before after was is counted = (λ differs. absurd (differs is), λ _. counted.1 was)
fault_counted NoMemory answer result before after was is counted = (λ _. counted.0 (λ same. cc), λ same. cc)

-- it is none of the sink
pub no_push : (fault : JudgeFault) (result : Result RunVerdict JudgeToFault) (count : ℕ) → result ≡ Err (told_fault fault)
    → CountsOnly (Err told.Push) count count result
no_push Pull result count is = (λ _. refl, λ same. cc)
no_push NoMemory result count is = (λ _. refl, λ same. cc)

-- with a verdict the source counts none
pub none_pulled : (verdict : RunVerdict) (answer : Result RunVerdict JudgeFault) (before after : ℕ) → answer ≡ Ok verdict
    → CountsOnly (Err Pull) before after answer → after ≡ before
none_pulled verdict answer before after was counted = counted.0 (λ same. cc)

-- a fault of the sink is none of the source
pub no_pull : (result : Result RunVerdict JudgeToFault) (before after : ℕ) → result ≡ Err told.Push → after ≡ before
    → CountsOnly (Err told.Pull) before after result
no_pull result before after is counted = (λ _. counted, λ same. cc)

pub push_counted : (result : Result RunVerdict JudgeToFault) (before after : ℕ) → result ≡ Err told.Push → after ≡ next_count before
    → CountsOnly (Err told.Push) before after result
push_counted result before after is counted = (λ differs. absurd (differs is), λ _. counted)

-- a verdict is no fault
pub none_counted : (fault : JudgeToFault) (verdict : RunVerdict) (before after : ℕ) → after ≡ before
    → CountsOnly {R = Result RunVerdict JudgeToFault} (Err fault) before after (Ok verdict)
none_counted fault verdict before after counted = (λ _. counted, λ same. cc)
