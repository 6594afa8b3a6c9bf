-- `first_words`: the first i words are those of the block.
use Rattle.std.proofs.Common.{◌≡◌, length, take}
use Rattle.fips180.specs.Sha256.{padded, words_of}
use Rattle.sha256.proofs.first_words.Given as goal

abbrev pub invariant-loop-i : goal.invariant-loop-i
invariant-loop-i l = (length l.words ≡ 16) × (take l.i l.words ≡ words_of (padded l.message) l.at l.i)
