-- What a judge prints, with the reports that it is asked for, and why it stops. All of it is this profile's own.
use Rattle.std.specs.Prelude.{◌≡◌, ◌||◌, ℕ, Bool, true, false, List, [], ◌++◌, Option, Some, None, codes}
use Rattle.cap_heap.specs.{HeapVerdicts.IsHeapAnswerOf, VerdictLines.{TellsHeap, heap_status}}
use Rattle.cap_judge.specs.{declared.verdict.Verdict.Verdict, Judgings.IsAnswerOf, VerdictLines.verdict_status, Verdicts.IsVerdict}
use Rattle.cap_json.specs.declared.rows.LogKind.{LogKind, TheVariants.{Machine, Heap as OfHeap, Run as OfRun}}
use Rattle.cap_program.specs.{declared.faults.Fault.Fault, Judging.{ShowsVerdict, StopsJudging}}
use Rattle.cap_report.specs.Whys.{Explains}
use Rattle.cap_run.specs.declared.asks.Asks.{Asks}
use Rattle.cap_run_judge.specs.{Judgings.{IsAnswerOf as IsRunAnswerOf}, Reports.TellsRun, VerdictLines.run_verdict_status}
use Rattle.cap_run_judge.specs.declared.verdict.RunVerdict.{RunVerdict, TheVariants.Yes}
use Rattle.cap_run_report.specs.Answers.{ExplainsRun}
use Rattle.capdiag.specs.declared.forms.Form.{Form}
use Rattle.capdiag.specs.declared.orders.{Freed.{Freed, TheVariants.{Held, Used, Both}}, Judging.{Judging, TheVariants.{Why, Heap, Run}}, RunAsked.RunAsked}
use Rattle.capdiag.specs.Forms.{is_json}

-- the kind of the log that is judged
abbrev pub kind_of : Judging → LogKind
kind_of (Why origins run) = Machine
kind_of (Heap report why) = OfHeap
kind_of (Run run why told) = OfRun

-- a judge, which tells what was asked of a run log if its report or an object of JSON is asked for
abbrev pub telling : Judging → Form → Judging
telling (Run run why told) form = Run run why (why || is_json form.look)
telling judging form = judging

-- the text of the verdict on the bytes given as the log of a machine, with the origins where they are asked for, and its
-- status
abbrev pub ShowsWhy : Bool → List ℕ → Bool → List ℕ → ℕ → Type 0
ShowsWhy origins given ended text status =
    ShowsVerdict verdict_status (IsAnswerOf given ended) (Explains origins given ended) text status

-- that of the verdict on all bytes
abbrev pub PrintsWhy : Bool → List ℕ → List ℕ → ℕ → Type 0
PrintsWhy origins bytes text status =
    (verdict : Verdict) × IsVerdict bytes verdict × Explains origins bytes true verdict text × (status ≡ verdict_status verdict)

-- the text of the verdict on the bytes given as an allocator's log, with the reports of a yes and of a no where they are
-- asked for, and its status
abbrev pub ShowsHeap : Bool → Bool → List ℕ → Bool → List ℕ → ℕ → Type 0
ShowsHeap report why given ended text status =
    ShowsVerdict heap_status (IsHeapAnswerOf given ended) (TellsHeap report why given ended) text status

-- what is asked of freed objects and of authorities without owner, as the judge of run logs takes it
abbrev pub asks_by : Option Freed → Bool → Asks
asks_by None owned_is = record { held = true; used = false; owned = owned_is }
asks_by (Some Held) owned_is = record { held = true; used = false; owned = owned_is }
asks_by (Some Used) owned_is = record { held = false; used = true; owned = owned_is }
asks_by (Some Both) owned_is = record { held = true; used = true; owned = owned_is }

abbrev pub asks_of : RunAsked → Asks
asks_of run = asks_by run.freed run.owned

-- the line that says what was asked
abbrev pub asked_line : Option Freed → Bool → List ℕ
asked_line None false = codes "asked freed held\n"
asked_line None true = codes "asked freed held owned\n"
asked_line (Some Held) false = codes "asked freed held\n"
asked_line (Some Held) true = codes "asked freed held owned\n"
asked_line (Some Used) false = codes "asked freed used\n"
asked_line (Some Used) true = codes "asked freed used owned\n"
asked_line (Some Both) false = codes "asked freed both\n"
asked_line (Some Both) true = codes "asked freed both owned\n"

-- what follows the report of a verdict: after a yes that line, if it is told
abbrev pub asked_after : Bool → RunAsked → RunVerdict → List ℕ
asked_after true run (Yes steps roots objects) = asked_line run.freed run.owned
asked_after told run verdict = []

-- the text of a verdict on a run log, with the reports of a yes and of a no where they are asked for
abbrev pub TellsReport : RunAsked → Bool → List ℕ → Bool → RunVerdict → List ℕ → Type 0
TellsReport run true = ExplainsRun (asks_of run) run.owners
TellsReport run false = TellsRun (asks_of run) run.owners

-- that text, and what was asked
abbrev pub TellsAsked : RunAsked → Bool → Bool → List ℕ → Bool → RunVerdict → List ℕ → Type 0
TellsAsked run why told given ended verdict text =
    (report : List ℕ) × TellsReport run why given ended verdict report × (text ≡ report ++ asked_after told run verdict)

-- the text of the verdict on the bytes given as a run log, with the reports that are asked for, and its status
abbrev pub ShowsRun : RunAsked → Bool → Bool → List ℕ → Bool → List ℕ → ℕ → Type 0
ShowsRun run why told given ended text status =
    ShowsVerdict run_verdict_status (IsRunAnswerOf (asks_of run) given ended) (TellsAsked run why told given ended) text status

-- the text of a judge's verdict on the bytes given, and its status
abbrev pub ShowsJudged : Judging → List ℕ → Bool → List ℕ → ℕ → Type 0
ShowsJudged (Why origins run) = ShowsWhy origins
ShowsJudged (Heap report why) = ShowsHeap report why
ShowsJudged (Run run why told) = ShowsRun run why told

-- those of its verdict on all bytes
abbrev pub PrintsJudged : Judging → List ℕ → List ℕ → ℕ → Type 0
PrintsJudged (Why origins run) bytes = PrintsWhy origins bytes
PrintsJudged judging bytes = ShowsJudged judging bytes true

-- why a judge has no verdict on the bytes given
abbrev pub StopsJudged : Judging → List ℕ → Fault → Type 0
StopsJudged (Why origins run) given = StopsJudging (IsAnswerOf given true)
StopsJudged (Heap report why) given = StopsJudging (IsHeapAnswerOf given true)
StopsJudged (Run run why told) given = StopsJudging (IsRunAnswerOf (asks_of run) given true)
