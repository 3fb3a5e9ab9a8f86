-- The words that only lines of run logs begin with. All of it is this profile's own.
use Rattle.std.specs.Prelude.{ℕ, List, codes}
use Rattle.cap_run_log.specs.declared.heads.RunHead.{RunHead}
use Rattle.cap_run_log.specs.declared.heads.RunHead.TheVariants as heads

-- each has a spelling
abbrev pub IsRunHead : RunHead → Type 0
IsRunHead head = Unit {0}

-- the word itself
abbrev pub run_head_spelling : RunHead → List ℕ
run_head_spelling heads.Version = codes "run"
run_head_spelling heads.Root = codes "root"
run_head_spelling heads.Derive = codes "derive"
run_head_spelling heads.Exchange = codes "exchange"
run_head_spelling heads.Invoke = codes "invoke"
run_head_spelling heads.Drop = codes "drop"
run_head_spelling heads.Fill = codes "fill"
run_head_spelling heads.Object = codes "object"
run_head_spelling heads.Free = codes "free"
run_head_spelling heads.Hart = codes "hart"
