-- "Registers and answers are compared with both fields, their lengths and presence taken as zero in alarm records".
use Rattle.std.specs.Prelude.{ℕ, zero, suc, ◌+◌, ◌-◌, ◌*◌, ◌/◌, List, [], ◌∷◌, ◌++◌, Bool, cond, ◌||◌, eqb, length, get_or}
use Rattle.octets.specs.Bytes.{Bytes, zeros, splice}
use Rattle.definition.specs.Limits.{record_width}
use Rattle.definition.specs.Book.{Record, read_book}

-- text and details of a record, with their lengths and presence: bytes 678 to 1450 (docs/LAYOUT.md)
abbrev pub texts_at : ℕ
texts_at = 678

abbrev pub texts_width : ℕ
texts_width = 773

-- the record that starts at byte k
unfoldable pub mask_record : ℕ → Bytes → Bytes
mask_record k b = splice b (k + texts_at) (zeros texts_width)

-- each record of a chain
unfoldable pub mask_chain : List Record → Bytes → Bytes
mask_chain [] b = b
mask_chain (e ∷ c) b = mask_chain c (mask_record (record_width * e.index) b)

-- "those on the active and history chains"
unfoldable pub mask_register : Bytes → Bytes
mask_register b = mask_chain ((read_book b).active ++ (read_book b).history) b

-- n records from byte k on
unfoldable pub mask_records : ℕ → ℕ → Bytes → Bytes
mask_records zero k b = b
mask_records (suc n) k b = mask_records n (k + record_width) (mask_record k b)

-- "in answers of codes 1, 2, 6, 7"
abbrev pub holds_record : ℕ → Bool
holds_record code = eqb code 1 || (eqb code 2 || (eqb code 6 || eqb code 7))

-- "and ops 8, 9"
abbrev pub lists_records : ℕ → Bool
lists_records op = eqb op 8 || eqb op 9

-- the answer to a call of an operation, behind its head of 16
unfoldable pub mask_answer : ℕ → Bytes → Bytes
mask_answer op b =
    cond (lists_records op) (mask_records ((length b - 16) / record_width) 16 b)
    (cond (holds_record (get_or b 0 0)) (mask_record 16 b) b)
