-- The run of a machine (this profile's own).
use Rattle.tagmem.specs.declared.store.TaggedStore.{Ghosts}
use Rattle.cap_run.specs.{declared.run_machine.RunMachine.RunMachine, Numbers.numbered_run, Run.Run, RunOf.run_of}

-- by the numbers of its objects
abbrev pub run_in : {M : Type 0} {ghosts : Ghosts M} → RunMachine M ghosts → Run
run_in machine = numbered_run machine.machine machine.specials machine.objects

-- by their slots
abbrev pub slots_in : {M : Type 0} {ghosts : Ghosts M} → RunMachine M ghosts → Run
slots_in machine = run_of machine.machine machine.specials machine.objects
