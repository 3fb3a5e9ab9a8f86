-- What a pull and a push count and tell. All of it is this profile's own.
use Rattle.std.specs.Prelude.{◌≡◌, ◌≢◌, ℕ, ◌+◌, ◌%◌, ◌^◌, Bool, ◌&&◌, ◌==◌, nat_lt, Result, Ok, Err}

-- a count of faults raised by one, in 64 bits
abbrev pub next_count : ℕ → ℕ
next_count n = (n + 1) % 2 ^ 64

-- from one count of faults to the next: an error counts one more, and nothing else does
abbrev pub CountsFault : {A E : Type 0} → ℕ → ℕ → Result A E → Type 0
CountsFault before after (Ok value) = after ≡ before
CountsFault before after (Err fault) = after ≡ next_count before

-- this answer raises the count of faults by one, and no other does
abbrev pub CountsOnly : {R : Type 0} → R → ℕ → ℕ → R → Type 0
CountsOnly fault before after answer = (answer ≢ fault → after ≡ before) × (answer ≡ fault → after ≡ next_count before)

-- whether n bytes for a piece of this length are the end of a source
abbrev pub is_end : ℕ → ℕ → Bool
is_end room n = nat_lt 0 room && (n == 0)
