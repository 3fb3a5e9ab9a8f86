-- The lines of an allocator's log. All of it is this profile's own.
use Rattle.std.specs.Prelude.{◌≡◌, ℕ, ◌^◌, ◌<◌, ◌≤◌, List, ◌∷◌, ◌++◌, codes, decimal}
use Rattle.cap_word.specs.Digits.{hex_digits}
use Rattle.cap_heap.specs.declared.{events.Event.TheVariants.{Malloc, Free}, heads.HeapHead.HeapHead}
use Rattle.cap_heap.specs.declared.lines.HeapLine.{HeapLine, TheVariants.{Header, Root, Happens, End}}
use Rattle.cap_heap.specs.declared.heads.HeapHead.TheVariants as heads

-- the numbers of a line are such as a line has: a root ends at 2 ^ 64 at most, and not below its base
abbrev pub IsHeapLineInRange : HeapLine → Type 0
IsHeapLineInRange Header = Unit {0}
IsHeapLineInRange (Root bounds) = (bounds.base < 2 ^ 64) × (bounds.base ≤ bounds.top) × (bounds.top ≤ 2 ^ 64)
IsHeapLineInRange (Happens (Malloc address length)) = (address < 2 ^ 64) × (length < 2 ^ 64)
IsHeapLineInRange (Happens (Free address)) = address < 2 ^ 64
IsHeapLineInRange (End count) = count < 2 ^ 32

-- the line's bytes, without its line feed
abbrev pub heap_spelling : HeapLine → List ℕ
heap_spelling Header = codes "heap 1"
heap_spelling (Root bounds) = codes "root " ++ (hex_digits 16 bounds.base ++ (codes " " ++ hex_digits 17 bounds.top))
heap_spelling (Happens (Malloc address length)) = codes "malloc " ++ (hex_digits 16 address ++ (codes " " ++ hex_digits 16 length))
heap_spelling (Happens (Free address)) = codes "free " ++ hex_digits 16 address
heap_spelling (End count) = codes "end " ++ decimal count

-- the bytes are the one spelling of this line
abbrev pub SpellsHeapLine : List ℕ → HeapLine → Type 0
SpellsHeapLine bytes line = IsHeapLineInRange line × (bytes ≡ heap_spelling line)

-- the first word of a line
abbrev pub heap_head_spelling : HeapHead → List ℕ
heap_head_spelling heads.Header = codes "heap"
heap_head_spelling heads.Root = codes "root"
heap_head_spelling heads.Malloc = codes "malloc"
heap_head_spelling heads.Free = codes "free"
heap_head_spelling heads.End = codes "end"

-- a line begins with this word and a space, and these bytes follow
abbrev pub IsNamed : List ℕ → HeapHead → List ℕ → Type 0
IsNamed line head operands = line ≡ heap_head_spelling head ++ 32 ∷ operands
