-- What the program tells of itself. All of it is this profile's own.
use Rattle.std.specs.Prelude.{ℕ, List, codes}

-- how it is used
unfoldable pub help_text : List ℕ
help_text = codes "usage: capdiag why [--origins] [--freed held|used|both] [--owned] [--owners] [OPTION..] [FILE..]\n       capdiag heap [--report] [--why] [OPTION..] [FILE..]\n       capdiag run [--freed held|used|both] [--owned] [--owners] [--why] [OPTION..] [FILE..]\n       capdiag --help | --version\n\nJudge logs, from FILEs or standard input. See capdiag(1).\n\n  why   the log of a machine or of a run: the verdict and a diagnosis\n  heap  the log of an allocator: the verdict\n  run   the run log of a program: the verdict\n\n  --origins    after a yes, the root of each tagged capability\n  --freed      what is asked of freed objects in a run log:\n               held: no place holds them when their memory is allocated again\n               used: no access goes through their capabilities\n               both: both\n  --owned      in a run log, live objects are accessed through their own capabilities\n  --owners     after a yes to a run log, the objects and the places that they own\n  --report     after a yes, what exact bounds would cost\n  --why        after a no, the diagnosis\n  --context N  after a no, the last N lines and those that wrote the registers\n  --json       an object of JSON for each file, on a line of its own\n  --progress   on standard error, how far the reading is\n\nExit status: 0 yes, 1 no, 2 wrong arguments, 3 failed input, output or memory.\n"

-- its version
abbrev pub version_line : List ℕ
version_line = codes "capdiag 1.3.0-dev\n"
