-- Laws of the call as a whole.
use Rattle.std.specs.Prelude.{◌≡◌, refl, [], ◌∷◌, ℕ, ◌≤◌, ◌<◌, length, get_or, drop}
use Rattle.std.proofs.Common.{arith, drop_of_length-le, drop-cons}
use Rattle.octets.specs.Bytes.{Bytes}
use Rattle.definition.specs.Reader.{got}
use Rattle.definition.specs.Value.{CallValue}
use Rattle.definition.specs.Parse.{whole, fields_of, parse_call}

pub parse_empty : (call : Bytes) → length call ≡ 0 → parse_call call ≡ CallValue.refused 23
unfolding parse_call
parse_empty [] h = refl
parse_empty (b ∷ s) h = absurd (omega arith)

pub parse_is : (call : Bytes) → 0 < length call → parse_call call ≡ whole (fields_of (get_or call 0 0) (drop 1 call))
unfolding parse_call
parse_is [] h = absurd (omega arith)
parse_is (b ∷ s) h = refl

pub whole_left : (v : CallValue) (call : Bytes) (i : ℕ) → i < length call → whole (got v (drop i call)) ≡ CallValue.refused 24
whole_left v call i h = rw (drop-cons call i 0 h)

pub whole_end : (v : CallValue) (call : Bytes) (i : ℕ) → length call ≤ i → whole (got v (drop i call)) ≡ v
whole_end v call i h = rw (drop_of_length-le call {i = i} h)
