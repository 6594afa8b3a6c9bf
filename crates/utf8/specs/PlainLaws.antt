-- ASCII is UTF-8, a code point a byte.
use Rattle.std.specs.Prelude.{◌≡◌, refl, true, [], ◌∷◌, ℕ, ◌<◌, T, ltb, length}
use Rattle.std.proofs.Common.{ap, ◌∙◌, arith, le-leb, ltb-true}
use Rattle.std.proofs.Math.Option.{some}
use Rattle.std.proofs.Math.Dec.{leb-zero}
use Rattle.octets.specs.Bytes.{Bytes}
use Rattle.octets.specs.BoolLaws.{holds, both_left, both_right}
use Rattle.definition.specs.Utf8.{fits, width_in, character, one_more, rows_from, code_points, is_run, utf8}
use Rattle.definition.proofs.Laws.Text.Utf8.{rows_next}
use Rattle.utf8.specs.Meaning.{plain}

plain_character : (b : ℕ) (s : Bytes) → b < 128 → character (b ∷ s) ≡ 1
unfolding character width_in fits
plain_character b s h = rw (leb-zero b, le-leb b 127 (omega arith))

pub plain_rows : (s : Bytes) → T (plain s) → code_points s ≡ some (length s)
unfolding plain rows_from
plain_rows [] t = refl
plain_rows (b ∷ s) t =
    let h = ltb-true b 128 (holds _ (both_left (ltb b 128) (plain s) t)) in
    rows_next b s 0 (plain_character b s h) ∙ ap one_more (plain_rows s (both_right (ltb b 128) (plain s) t))

pub plain_utf8 : (s : Bytes) → T (plain s) → utf8 s ≡ true
unfolding utf8
plain_utf8 s t = ap is_run (plain_rows s t)
