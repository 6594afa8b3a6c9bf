-- What the parser gives of a call's bytes is a call of the operation that the first byte names, with legal fields; or one of the call's refusals. For
-- the claim, and for `station`.
use Rattle.std.specs.Prelude.{ℕ, ◌≡◌, [], ◌∷◌, Bool, cond, eqb, get_or}
use Rattle.std.proofs.Common.{sym, eqb-true}
use Rattle.std.proofs.Math.Bool.{true, false}
use Rattle.octets.specs.Bytes.{Bytes, Octets}
use Rattle.octets.specs.NumberLaws.{octets_tail}
use Rattle.definition.specs.Limits.{short_limit}
use Rattle.definition.specs.Value.{PolicyValue, CallValue, op_of, acknowledging, suppressing, untimed, until}
use Rattle.definition.specs.Reader.{Out, got, Reader}
use Rattle.definition.specs.Parse.{history_fields, is_later, until_fields, fields_of, whole, parse_call}
use Rattle.definition.specs.Clauses.LegalFields.{Time, LegalPolicy, LegalCall}
use Rattle.definition.proofs.Laws.Text.ParsedFields.{Given, gave, refuses, Reads, give_reads, refuse_reads, if_reads, bind_reads, into_reads, number_reads, option_reads, raise_reads, clear_reads, plain_reads, behind_reads, policy_reads, severity_reads}

-- ---- the table, row by row

-- a call of that operation, or a refusal
pub data Operation (op : ℕ) : CallValue → Type 0 where
  called : {c : CallValue} → op_of c ≡ op → Operation op c
  refused : {n : ℕ} → Operation op (CallValue.refused n)

module _ (op : ℕ) where
  abbrev LegalOf : CallValue → Type 0
  LegalOf c = LegalCall c × Operation op c

  row : (n : ℕ) (q r : Reader CallValue) → (op ≡ n → Reads LegalOf q) → Reads LegalOf r → Reads LegalOf (cond (eqb op n) q r)
  row n q r x y = if_reads (eqb op n) q r (λ e. x (eqb-true op n e)) (λ e. y)

  history_reads : op ≡ 9 → Reads LegalOf history_fields
  unfolding history_fields
  history_reads e = bind_reads _ _ (option_reads short_limit) (λ t pt. bind_reads _ _ (option_reads short_limit) (λ s ps. give_reads LegalOf _ (tt, called (sym e))))

  -- an end that is not later is refused
  until_reads : op ≡ 13 → Reads LegalOf until_fields
  unfolding until_fields
  until_reads e = bind_reads _ _ (number_reads 8) (λ t pt. bind_reads _ _ (number_reads 8) (λ z pz. bind_reads _ _ (behind_reads t pt) (λ p pp. give_reads LegalOf _ (go t z p pz pp (is_later z t)))))
    where
      go : (t z : ℕ) (p : PolicyValue) → Time z → LegalPolicy p → (b : Bool) → LegalOf (cond b (CallValue.policy (until z) p) (CallValue.refused 34))
      go t z p pz pp true = ((pp, pz), called (sym e))
      go t z p pz pp false = (tt, refused)

  fields_reads : Reads LegalOf (fields_of op)
  unfolding fields_of
  fields_reads =
      row 1 _ _ (λ e. into_reads _ CallValue.raise _ raise_reads (λ c p. (p, called (sym e))))
      (row 2 _ _ (λ e. into_reads _ CallValue.clear _ clear_reads (λ c p. (p, called (sym e))))
      (row 3 _ _ (λ e. into_reads _ (CallValue.plain acknowledging) _ plain_reads (λ c p. (p, called (sym e))))
      (row 4 _ _ (λ e. into_reads _ (CallValue.plain suppressing) _ plain_reads (λ c p. (p, called (sym e))))
      (row 5 _ _ (λ e. into_reads _ (CallValue.policy (untimed acknowledging)) _ policy_reads (λ c p. ((p, tt), called (sym e))))
      (row 6 _ _ (λ e. into_reads _ (CallValue.policy (untimed suppressing)) _ policy_reads (λ c p. ((p, tt), called (sym e))))
      (row 7 _ _ (λ e. into_reads _ CallValue.expire _ (number_reads 8) (λ c p. (p, called (sym e))))
      (row 8 _ _ (λ e. into_reads _ CallValue.active _ severity_reads (λ c p. (tt, called (sym e))))
      (row 9 _ _ history_reads
      (row 10 _ _ (λ e. give_reads _ CallValue.counts (tt, called (sym e)))
      (row 11 _ _ (λ e. give_reads _ CallValue.summary (tt, called (sym e)))
      (row 12 _ _ (λ e. into_reads _ CallValue.take_audit _ (number_reads 2) (λ c p. (tt, called (sym e))))
      (row 13 _ _ until_reads
      (row 14 _ _ (λ e. into_reads _ CallValue.lift _ (number_reads 8) (λ c p. (p, called (sym e))))
      (refuse_reads 23 tt))))))))))))))

-- ---- the whole call

whole_reads : {op : ℕ} {o : Out CallValue} → Given (LegalOf op) o → LegalCall (whole o) × Operation op (whole o)
whole_reads {op} (gave {a} {u} p o) = go u
  where
    go : (s : Bytes) → LegalCall (whole (got a s)) × Operation op (whole (got a s))
    go [] = p
    go (b ∷ s) = (tt, refused)
whole_reads (refuses h) = (h, refused)

call_reads : (b : Bytes) → Octets b → LegalCall (parse_call b) × Operation (get_or b 0 0) (parse_call b)
unfolding parse_call
call_reads [] o = (tt, refused)
call_reads (op ∷ s) o = whole_reads ((fields_reads op).reads s (octets_tail op s o))

pub call_legal : (b : Bytes) → Octets b → LegalCall (parse_call b)
call_legal b o = (call_reads b o).0

pub call_operation : (b : Bytes) → Octets b → Operation (get_or b 0 0) (parse_call b)
call_operation b o = (call_reads b o).1
