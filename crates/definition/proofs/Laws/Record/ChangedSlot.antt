-- A record that is changed in place: a splice of one slot is the alarm with one field changed. For the writers of `record` and `build`, and for
-- masked registers.
use Rattle.std.specs.Prelude.{◌≡◌, refl, [], ◌∷◌, ◌++◌, ℕ, ◌+◌, ◌-◌, ◌≤◌, ◌<◌, length, get_or, set}
use Rattle.std.proofs.Common.{sym, ap, ap₂, ◌∙◌, append_assoc, add_assoc, arith, length-append}
use Rattle.std.proofs.Math.Option.{none}
use Rattle.std.proofs.Math.Nat.{sub-zero}
use Rattle.octets.specs.Bytes.{Bytes, zeros, digits, pad, splice}
use Rattle.octets.specs.NumberLaws.{length_zeros, zeros_append, length_digits, length_pad, pad_fits}
use Rattle.octets.specs.SpliceLaws.{splice_two}
use Rattle.definition.proofs.Laws.Twins.Blank.{blank}
use Rattle.definition.specs.Alarm.{Alarm, with_text, with_details}
use Rattle.definition.specs.Slot.{string_bytes, join}
use Rattle.definition.proofs.Laws.Record.Join.{offset, splice_join}
use Rattle.definition.specs.Record.{alarm_bytes}
use Rattle.definition.proofs.Laws.Record.Payloads.{alarm_widths, alarm_pieces, alarm_fits}

-- ---- a slot is replaced: whatever alarm was in the bytes b, the alarm that f makes of it is in the bytes c

-- the last argument but two is `λ a. refl` for each field
pub slot_law :
    (k : ℕ) (f : Alarm → Alarm) (v b c : Bytes) → k < length alarm_widths → length v ≡ get_or alarm_widths k 0 → c ≡ splice b (offset alarm_widths k) v →
    ((a : Alarm) → set (alarm_pieces a) k v ≡ alarm_pieces (f a)) → (a : Alarm) → b ≡ alarm_bytes a → c ≡ alarm_bytes (f a)
unfolding alarm_bytes
slot_law k f v b c h l e changed a q =
    e ∙ ap (λ (x : Bytes). splice x (offset alarm_widths k) v) q ∙ splice_join alarm_widths (alarm_pieces a) k v (alarm_fits a) h l ∙ ap join (changed a)

-- ---- a string's slot

pub length_string : (n : ℕ) (s : Bytes) → length (string_bytes n s) ≡ 2 + n
length_string n s = length-append (digits 2 (length s)) (pad n s) ∙ ap₂ ◌+◌ (length_digits 2 (length s)) (length_pad n s)

empty_string : (n : ℕ) → string_bytes n [] ≡ zeros (2 + n)
unfolding digits zeros
empty_string n = ap (λ (z : Bytes). 0 ∷ 0 ∷ z) (pad_fits n [] (omega arith) ∙ ap zeros (sub-zero n)) ∙ zeros_append 2 n

-- it is written by three splices
pub string_splices :
    (b x y z s : Bytes) (at n : ℕ) → at + (2 + n) ≤ length b → length s ≤ n →
    x ≡ splice b at (digits 2 (length s)) → y ≡ splice x (at + 2) s → z ≡ splice y (at + 2 + length s) (zeros (n - length s)) → z ≡ splice b at (string_bytes n s)
string_splices b x y z s at n h l ex ey ez =
    let m = length s in
    let q : y ≡ splice b at (digits 2 m ++ s) = ey ∙ ap (λ (t : Bytes). splice t (at + 2) s) ex ∙ splice_two b at 2 (digits 2 m) s (length_digits 2 m) (omega arith) in
    let w : length (digits 2 m ++ s) ≡ 2 + m = rw (length-append, length_digits) in
    let lz = length_zeros (n - m) in
    ez ∙ ap₂ (λ (t : Bytes) (k : ℕ). splice t k (zeros (n - m))) q (add_assoc at 2 m)
    ∙ splice_two b at (2 + m) (digits 2 m ++ s) (zeros (n - m)) w (omega arith)
    ∙ ap (splice b at) (append_assoc (digits 2 m) s (zeros (n - m)) ∙ rw (pad_fits n s l))

-- ---- "compared with both fields, their lengths and presence taken as zero"

-- both slots zero are the bytes of the alarm without text and details
pub mask_alarm : (a : Alarm) → splice (splice (alarm_bytes a) 674 (zeros 258)) 932 (zeros 515) ≡ alarm_bytes (blank a)
mask_alarm a =
    let b = alarm_bytes a in
    let e : splice b 674 (zeros 258) ≡ alarm_bytes (with_text [] a) =
    slot_law 13 (with_text []) (string_bytes 256 []) b _ (omega arith) (length_string 256 []) (ap (splice b 674) (sym (empty_string 256))) (λ a. refl) a refl in
    slot_law 14 (with_details none) (zeros 515) (splice b 674 (zeros 258)) _ (omega arith) (length_zeros 515) refl (λ a. refl) (with_text [] a) e
