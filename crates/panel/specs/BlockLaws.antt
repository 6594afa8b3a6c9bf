-- The block: the mask, the highest bit that is set in both, and the eight bytes as they are written.
use Rattle.std.specs.Prelude.{ℕ, ◌%◌, ◌^◌, ◌≡◌, refl, List, [], ◌∷◌, ◌++◌, Bool, cond, ◌&&◌, T, eqb, length, Ok, Err}
use Rattle.std.proofs.Common.{ap, ap₂, ◌∙◌, arith, lt-ltb, eq-eqb, ne_eqb}
use Rattle.std.specs.Int.Bits.{bit_and}
use Rattle.octets.specs.Bytes.{Bytes, at32, be32, splice}
use Rattle.octets.specs.NumberLaws.{length_digits}
use Rattle.octets.specs.SpliceLaws.{splice_two, splice_whole}
use Rattle.definition.specs.Alarm.{Alarm}
use Rattle.definition.specs.Panel.{is_set, by_bits, highest, is_flagged, mask_of, in_mask, highest_of, panel_of}
use Rattle.definition.specs.Sound.{sound}
use Rattle.history.specs.Walk.{alarms_on}
use Rattle.history.specs.WalkLaws.{held_length}
use Rattle.panel.specs.declared.PanelCall.{PanelCall}
use Rattle.model.specs.declared.refusal.Refusal.TheVariants.{AnswerLength}
use Rattle.panel.specs.Meaning.{call_of, Shows}
use Rattle.panel.specs.BitLaws.{set_and, bits_same, bits_own, bits_are, highest_same}

-- "its bits 6 and 7 become 0"
pub mask_kept : (m : ℕ) → by_bits 8 (in_mask m) ≡ m % 2 ^ 6
unfolding by_bits
mask_kept m =
    let e : by_bits 6 (in_mask m) ≡ m % 2 ^ 6 = bits_same 6 (λ s h. ap (λ (y : Bool). y && is_set m s) (lt-ltb s 6 h)) ∙ bits_own 6 m in
    omega (arith, e)

-- "the highest flag that is set in both"
pub in_both : (l : List Alarm) (m : ℕ) → highest 8 (is_set (bit_and (by_bits 8 (is_flagged l)) (by_bits 8 (in_mask m)))) ≡ highest_of l m
in_both l m =
    highest_same 8 (λ s h.
    set_and (by_bits 8 (is_flagged l)) (by_bits 8 (in_mask m)) s ∙ ap₂ ◌&&◌ (bits_are 8 (is_flagged l) s h) (bits_are 8 (in_mask m) s h))

-- eight bytes, written as four and a number
pub eight_bytes : (k : Bytes) (f m h l n : ℕ) → length k ≡ 8 → splice (splice k 0 (f ∷ m ∷ h ∷ l ∷ [])) 4 (be32 n) ≡ f ∷ m ∷ h ∷ l ∷ be32 n
eight_bytes k f m h l n q =
    let v = f ∷ m ∷ h ∷ l ∷ [] in
    splice_two k 0 4 v (be32 n) refl (omega (arith, length_digits 4 n)) ∙ splice_whole k (v ++ be32 n) (omega (arith, length_digits 4 n))

-- ---- what a call shows

-- "a block not of eight bytes 30, the block unchanged"
pub other_width : (b k : Bytes) (call : PanelCall) → (length k ≡ 8 → ⊥) → Shows b k call (Err AnswerLength) k
other_width b k call h = let e = ne_eqb (length k) 8 h in record { number_is = rw e; block_is = rw e }

-- flags f, mask m, the highest of both h, the lamp l, and n active alarms are written to a block k of eight bytes
pub made_anew :
    (b k k' : Bytes) (call : PanelCall) {u f m h l n : ℕ} → T (sound b) → length k ≡ 8 → f ≡ by_bits 8 (is_flagged (alarms_on 0 b)) → u ≡ mask_of (call_of call) k → m ≡ by_bits 8 (in_mask u) →
    h ≡ highest 8 (is_set (bit_and f m)) → l ≡ cond (eqb h 0) 0 1 → n ≡ at32 b 16 → k' ≡ splice (splice k 0 (f ∷ m ∷ h ∷ l ∷ [])) 4 (be32 n) → Shows b k call (Ok tt) k'
unfolding panel_of
made_anew b k k' call {u} {f} {m} {h} {l} {n} t w ef eu em eh el en ek =
    let top : h ≡ highest_of (alarms_on 0 b) u = eh ∙ ap₂ (λ (x y : ℕ). highest 8 (is_set (bit_and x y))) ef em ∙ in_both (alarms_on 0 b) u in
    let held : n ≡ length (alarms_on 0 b) = en ∙ held_length b t 0 (omega arith) in
    let e = eq-eqb (length k) 8 w in
    record { number_is = rw e; block_is = rw e (ek ∙ eight_bytes k f m h l n w ∙ rw (el, top, ef, em, held, eu)) }
