-- Laws of the digits as they are put into an answer.
use mathlib.Core.Path.{◌≡◌, refl, ap, ◌∙◌}
use mathlib.Core.List.{[], ◌∷◌}
use Prim.Native.Nat.{ℕ, ◌+◌, ◌*◌, ◌/◌, ◌%◌, ◌≤◌, ◌<◌}
use native.Mathlib.Numerals.{add-one}
use native.Mathlib.Omega.{arith}
use lib.ListN.{length, take, get_or, set, length-set}
use lib.Seq.{take-suc, length-take-le}
use Rattle.octets.specs.Bytes.{Bytes, splice}
use Rattle.octets.specs.SpliceLaws.{set_splice, splice_two}
use Rattle.definition.specs.Key.{hex_digit, hex}
use Rattle.definition.proofs.Laws.Text.Key.{length_hex, hex_append}

two_sets : (b : Bytes) (k x y : ℕ) → k + 1 < length b → set (set b k x) (k + 1) y ≡ splice b k (x ∷ y ∷ [])
two_sets b k x y h =
    set_splice (set b k x) (k + 1) y (omega (arith, length-set b k x))
    ∙ ap (λ (c : Bytes). splice c (k + 1) (y ∷ [])) (set_splice b k x (omega arith))
    ∙ splice_two b k 1 (x ∷ []) (y ∷ []) refl (omega arith)

-- the digits of one more byte
pub hex_step :
    (b c key : Bytes) (at i : ℕ) → i < length key → at + 2 * length key ≤ length b → length c ≡ length b → c ≡ splice b at (hex (take i key)) →
    set (set c (at + 2 * i) (hex_digit (get_or key i 0 / 16))) (at + 2 * i + 1) (hex_digit (get_or key i 0 % 16)) ≡ splice b at (hex (take (i + 1) key))
unfolding hex
hex_step b c key at i h l lc e =
    let n : length (hex (take i key)) ≡ 2 * i = length_hex (take i key) ∙ ap (λ (k : ℕ). 2 * k) (length-take-le i key (omega arith)) in
    two_sets c (at + 2 * i) (hex_digit (get_or key i 0 / 16)) (hex_digit (get_or key i 0 % 16)) (omega arith)
    ∙ ap (λ (x : Bytes). splice x (at + 2 * i) (hex_digit (get_or key i 0 / 16) ∷ hex_digit (get_or key i 0 % 16) ∷ [])) e
    ∙ splice_two b at (2 * i) (hex (take i key)) (hex_digit (get_or key i 0 / 16) ∷ hex_digit (get_or key i 0 % 16) ∷ []) n (omega arith)
    ∙ rw (add-one, take-suc key i 0, hex_append)
