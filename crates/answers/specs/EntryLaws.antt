-- The entries of a list, written one behind the other from place 16 on; its head comes last.
use Rattle.std.specs.Prelude.{◌≡◌, refl, [], ◌++◌, ℕ, ◌+◌, ◌≤◌, length}
use Rattle.std.proofs.Common.{sym, ap, ◌∙◌, append_assoc, append-nil, arith, length-append}
use Rattle.octets.specs.Bytes.{Bytes}
use Rattle.octets.specs.SpliceLaws.{length_splice}
use Rattle.octets.specs.Put.{Put}
use Rattle.octets.specs.PutLaws.{put_two, put_as}
use Rattle.answers.specs.AnswerLaws.{put_none}

-- all entries but the rest stand in the answer, which was a and is c, up to place m
pub record Begun (all rest a c : Bytes) (m : ℕ) : Type 0 where
  pub room : 16 + length all ≤ length a
  pub text : Bytes
  pub put : Put a 16 text m c
  pub is : text ++ rest ≡ all

pub begun_none : {all a : Bytes} → 16 + length all ≤ length a → Begun all all a a 16
begun_none {all} {a} h = record { room = h; text = []; put = put_none a 16 (omega arith); is = refl }

module _ {all rest a c : Bytes} {m : ℕ} (w : Begun all rest a c m) where
  pub begun_length : length c ≡ length a
  begun_length = ap length w.put.bytes ∙ length_splice a 16 w.text (omega (arith, w.put.next, w.put.fits))

  -- one more entry, where the rest starts with it
  module _ (entry behind : Bytes) (e : rest ≡ entry ++ behind) where
    ahead : (w.text ++ entry) ++ behind ≡ all
    ahead = append_assoc w.text entry behind ∙ ap (λ (t : Bytes). w.text ++ t) (sym e) ∙ w.is

    pub begun_fits : m + length entry ≤ length c
    begun_fits = omega (arith, w.put.next, ap length ahead, length-append (w.text ++ entry) behind, length-append w.text entry, begun_length, w.room)

    pub begun_next : {d : Bytes} {n : ℕ} → Put c m entry n d → Begun all behind a d n
    begun_next p = record { room = w.room; text = w.text ++ entry; put = put_two w.put p; is = ahead }

  pub begun_all : rest ≡ [] → Put a 16 all m c
  begun_all e = put_as (sym (append-nil w.text) ∙ ap (λ (t : Bytes). w.text ++ t) (sym e) ∙ w.is) w.put
