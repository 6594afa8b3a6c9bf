-- A string as in a call, put into a slice. For `strings`.
use Rattle.std.specs.Prelude.{◌≡◌, refl, ℕ, ◌+◌, ◌≤◌, length}
use Rattle.std.proofs.Common.{ap, ◌∙◌, arith}
use Rattle.octets.specs.Bytes.{Bytes, splice, be32}
use Rattle.octets.specs.NumberLaws.{length_be32}
use Rattle.octets.specs.SpliceLaws.{length_splice}
use Rattle.octets.specs.Put.{Put}
use Rattle.octets.specs.PutLaws.{put_two}
use Rattle.definition.specs.Key.{string}

-- a length and its bytes
pub put_string : (b c d s : Bytes) (at : ℕ) → c ≡ splice b at (be32 (length s)) → d ≡ splice c (at + 4) s → at + (4 + length s) ≤ length b → Put b at (string s) (at + 4 + length s) d
put_string b c d s at p q h =
    let l = length_be32 (length s) in
    let k : length c ≡ length b = ap length p ∙ length_splice b at (be32 (length s)) (omega arith) in
    put_two {u = be32 (length s)} (record { next = omega arith; fits = omega arith; bytes = p }) (record { next = refl; fits = omega arith; bytes = q })
