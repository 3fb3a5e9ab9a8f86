-- What the program's code reads, as the definitions of orders have it.
use Rattle.std.specs.Prelude.{ℕ, List, map, Result, Ok, Err}
use Rattle.std.specs.Borrow.{Bor}
use Rattle.capdiag.specs.declared.{complaints.Wrong.Wrong, orders.Request.{Request, TheVariants.{Help, Version, Judge}}}
use Rattle.capdiag.specs.Orders as orders

-- texts that are lent
abbrev pub names_of : List (Bor (List ℕ)) → List (List ℕ)
names_of texts = map (λ text. text.now) texts

-- a request
abbrev pub request_of : Request → orders.Request
request_of Help = orders.Help
request_of Version = orders.Version
request_of (Judge judging form progress files) = orders.Judge judging form progress (names_of files.items)

-- what was read
abbrev pub read_of : Result Request Wrong → orders.Read
read_of (Ok request) = Ok (request_of request)
read_of (Err wrong) = Err (wrong.complaint, wrong.word.now)
