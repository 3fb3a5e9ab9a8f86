use Rattle.std.proofs.Common.{◌≡◌, map, drop, [], Ok}
use Rattle.capdiag.specs.{Orders.with_words, Readings.names_of}
use Rattle.capdiag.proofs.words.with_words.Given as goal

-- what the words so far ask for, with the rest, is what all ask for
abbrev pub invariant-loop-word : goal.invariant-loop-word
invariant-loop-word l =
    with_words (Ok l.asked) (names_of l.files.items) (map (λ word. word.now) (drop l.word-index l.words))
    ≡ with_words (Ok l.fn.asked) [] (map (λ word. word.now) l.fn.words)
