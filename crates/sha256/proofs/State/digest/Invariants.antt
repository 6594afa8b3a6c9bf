-- `State::digest`: the first 4 i bytes are those of the first i words.
use Rattle.std.proofs.Common.{◌≡◌, ◌*◌, length, take}
use Rattle.sha256.proofs.WordBytes.{word_bytes}
use Rattle.sha256.proofs.State.digest.Given as goal

abbrev pub invariant-loop-i : goal.invariant-loop-i
invariant-loop-i l = (length l.bytes ≡ 32) × (take (4 * l.i) l.bytes ≡ word_bytes (take l.i l.words))
