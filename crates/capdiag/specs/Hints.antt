-- What an order means of an input by its first bytes, and which other command they ask for. All of it is this profile's own.
use Rattle.std.specs.{Prelude.{ℕ, nat_eq, Bool, true, false, ◌||◌, List, [], ◌∷◌, codes, bytes_eq, if◌then◌else◌, Option, Some, None}, List.starts_with}
use Rattle.cap_json.specs.declared.rows.LogKind.{LogKind, TheVariants.{Machine as OfMachine, Heap as OfHeap, Run as OfRun}}
use Rattle.capdiag.specs.declared.fronts.Packing.{Packing, TheVariants.{Gzip, Xz, Zstandard, Zip}}
use Rattle.capdiag.specs.declared.orders.{Order.{Order, TheVariants.Judge}, Judging.TheVariants.{Why, Heap, Run}, RunAsked.RunAsked}

-- what is asked of a run log, also the owners if the origins are asked for
abbrev pub with_origins : Bool → RunAsked → RunAsked
with_origins origins run = record run { owners = origins || run.owners }

-- an order on an input that begins with these bytes: `why` judges a run log, of whatever version, as `run --why` does, with
-- the owners if the origins are asked for
abbrev pub order_on : Order → List ℕ → Order
order_on (Judge (Why origins run) form file files) front =
    if starts_with nat_eq front (codes "run ") then Judge (Run (with_origins origins run) true true) form file files
    else Judge (Why origins run) form file files
order_on order front = order

-- the kind of a log that another command judges, by the first bytes of the input; none if the report of a no says it
abbrev pub other_kind : Order → List ℕ → Option LogKind
other_kind (Judge (Run run false told) form file files) front =
    if bytes_eq front (codes "capche") then Some OfMachine else if bytes_eq front (codes "heap 1") then Some OfHeap else None
other_kind (Judge (Heap report false) form file files) front =
    if bytes_eq front (codes "capche") then Some OfMachine else if bytes_eq front (codes "run 1\n") then Some OfRun else None
other_kind (Judge (Heap report true) form file files) front = if bytes_eq front (codes "run 1\n") then Some OfRun else None
other_kind order front = None

-- what is told of it
abbrev pub hint_text : LogKind → List ℕ
hint_text OfMachine = codes "this is a log of version 1 or 2; capdiag why judges it"
hint_text OfHeap = codes "this is the log of an allocator; capdiag heap judges it"
hint_text OfRun = codes "this is a run log; capdiag run judges it"

-- how an input is packed, by its first bytes (RFC 1952, 2.3.1; The .xz File Format, 2.1.1.1; RFC 8878, 3.1.1; APPNOTE, 4.3.7)
abbrev pub packing_of : List ℕ → Option Packing
packing_of front =
    if starts_with nat_eq front (31 ∷ 139 ∷ []) then Some Gzip
    else if starts_with nat_eq front (253 ∷ 55 ∷ 122 ∷ 88 ∷ 90 ∷ 0 ∷ []) then Some Xz
    else if starts_with nat_eq front (40 ∷ 181 ∷ 47 ∷ 253 ∷ []) then Some Zstandard
    else if starts_with nat_eq front (80 ∷ 75 ∷ 3 ∷ 4 ∷ []) then Some Zip
    else None

-- what is told of it
abbrev pub packed_text : Packing → List ℕ
packed_text Gzip = codes "this is packed by gzip; unpack it first"
packed_text Xz = codes "this is packed by xz; unpack it first"
packed_text Zstandard = codes "this is packed by zstd; unpack it first"
packed_text Zip = codes "this is packed by zip; unpack it first"
