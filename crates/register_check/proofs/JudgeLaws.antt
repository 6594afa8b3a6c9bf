-- What the header and the walks of the four chains say of soundness.
use Rattle.std.specs.Prelude.{ℕ, ◌+◌, ◌*◌, ◌≤◌, ◌≡◌, refl, Bool, ◌&&◌, T, Some, None, leb, length, take, drop}
use Rattle.std.proofs.Common.{sym, ap, ◌∙◌, subst, arith, le→leb}
use Rattle.std.proofs.Math.Bool.{true, false}
use mathlib.Core.Path.{subst₃}
use Rattle.std.specs.Bool.{then_some}
use Rattle.octets.specs.Bytes.{Bytes, Octets, zeros, blank, at32}
use Rattle.octets.specs.BlankLaws.{blank→zeros, blank_zeros}
use Rattle.octets.specs.PartLaws.{part_length}
use Rattle.octets.specs.BoolLaws.{both, both_left, both_right, holds, fails, true_holds}
use Rattle.definition.specs.Book.{capacity, is_limit, every, sound_book, read_book}
use Rattle.definition.proofs.Laws.Book.CheckSound.{chain_read, check_sound}
use Rattle.definition.proofs.Laws.Book.CheckComplete.{sound_checked}
use Rattle.definition.proofs.Laws.Book.BookTests.{limits_to, zeroed_to, zeroed_from, sound_to, sound_from_lem}
use Rattle.definition.proofs.Laws.Book.CheckParts.{chained_decides}
use Rattle.definition.specs.Sound.{active_sound, history_sound, audit_sound, sound_records, sound}
use Rattle.definition.specs.Clauses.Check.{Leads, Lengths, Numbers, Chained, PassesCheck, Decides, Apart}
use Rattle.definition.specs.Clauses.LegalBook.{chain, last_of, Limit, SoundBook}
use Rattle.register.specs.WalkLaws.{chain_below}
use Rattle.register_check.specs.Meaning.{Gives, WalksChain, Headed, Heads, passes}
use Rattle.definition.proofs.Laws.Steps.SoundChains.{active_last, history_last, audit_last}
use Rattle.register.specs.Meaning.{chain_number, Standing}
use Rattle.register.specs.declared.Chain.{Chain}
use Rattle.register.specs.declared.Chain.TheVariants.{Active, History, Audit, Free}

-- ---- the header

-- what `are_limits` says
limits_decide : (a h e : ℕ) (y : Bool) → y ≡ is_limit a && (is_limit h && is_limit e) → Decides y (Limit a × Limit h × Limit e)
limits_decide a h e true q = limits_to a h e (subst T q tt)
limits_decide a h e false q = λ l. subst T (sym q) (both (is_limit a) (is_limit h && is_limit e) (limit a l.0) (both (is_limit h) (is_limit e) (limit h l.1) (limit e l.2)))
  where
    limit : (n : ℕ) → Limit n → T (is_limit n)
    limit n m = both (leb 1 n) (leb n 65535) (le→leb 1 n m.0) (le→leb n 65535 m.1)

-- the same, and what `counts_ok` says, of the limits that the header has
module _ (b : Bytes) {a h e : ℕ} (ea : a ≡ at32 b 0) (eh : h ≡ at32 b 4) (ee : e ≡ at32 b 8) where
  pub limits_read : (y : Bool) → y ≡ is_limit a && (is_limit h && is_limit e) → Decides y (Limit (at32 b 0) × Limit (at32 b 4) × Limit (at32 b 8))
  limits_read y q = subst₃ (λ (m n o : ℕ). Decides y (Limit m × Limit n × Limit o)) ea eh ee (limits_decide a h e y q)

  pub lengths_read : (y : Bool) → Decides y (Lengths b a h e) → Decides y (Lengths b (at32 b 0) (at32 b 4) (at32 b 8))
  lengths_read y d = subst₃ (λ (m n o : ℕ). Decides y (Lengths b m n o)) ea eh ee d

-- what `is_blank` says of the bytes behind the numbers
pub tail_decides : (b : Bytes) (y : Bool) → 1536 ≤ length b → y ≡ blank (take 1476 (drop 60 b)) → Decides y (take 1476 (drop 60 b) ≡ zeros 1476)
tail_decides b true h e =
    blank→zeros _ (subst (λ (x : Bool). T x) e tt) ∙ ap zeros (part_length b 60 1476 (omega arith))
tail_decides b false h e = λ z. subst (λ (x : Bool). T x) (sym (blank_zeros 1476) ∙ ap blank (sym z) ∙ sym e) tt

-- ---- the last records

-- p is none, or another than q
abbrev pub Other : ℕ → ℕ → Type 0
Other p q = 1 ≤ p → p ≡ q → ⊥

pub apart_decides :
    (p q r t : ℕ) (a b c d e f : Bool) → Decides a (Other p q) → Decides b (Other p r) → Decides c (Other p t) →
    Decides d (Other q r) → Decides e (Other q t) → Decides f (Other r t) → Decides (((((a && b) && c) && d) && e) && f) (Apart p q r t)
apart_decides p q r t false b c d e f da db dc dd de df = λ h. da h.pq
apart_decides p q r t true false c d e f da db dc dd de df = λ h. db h.pr
apart_decides p q r t true true false d e f da db dc dd de df = λ h. dc h.pt
apart_decides p q r t true true true false e f da db dc dd de df = λ h. dd h.qr
apart_decides p q r t true true true true false f da db dc dd de df = λ h. de h.qt
apart_decides p q r t true true true true true false da db dc dd de df = λ h. df h.rt
apart_decides p q r t true true true true true true da db dc dd de df = record { pq = da; pr = db; pt = dc; qr = dd; qt = de; rt = df }

-- ---- what sound bytes have, and what therefore shows that bytes are not sound

module _ (b : Bytes) (s : T (sound b)) where
  book : SoundBook b
  unfolding sound
  book = sound_to b (both_left (sound_book b) (sound_records (read_book b)) s)

  checked : PassesCheck b
  checked = sound_checked b book

  payloads : (k : Chain) → T (every (passes k) (chain (chain_number k) (read_book b)))
  unfolding sound sound_records
  payloads Active = both_left (active_sound (read_book b)) _ (both_right (sound_book b) _ s)
  payloads History = both_left (history_sound (read_book b)) _ (both_right (active_sound (read_book b)) _ (both_right (sound_book b) _ s))
  payloads Audit = both_right (history_sound (read_book b)) _ (both_right (active_sound (read_book b)) _ (both_right (sound_book b) _ s))
  payloads Free = zeroed_from (read_book b).free book.legal.zeroed

  whole : Headed b (capacity (read_book b))
  whole = record { room = refl; numbers = checked.numbers; tail = checked.tail }

-- ---- the header's numbers, once they are known to be right, leave it to the bytes behind them

pub headed : (b : Bytes) (m : ℕ) → m ≡ capacity (read_book b) → Numbers b → (y : Bool) → Decides y (take 1476 (drop 60 b) ≡ zeros 1476) → Heads (then_some y m) b
headed b m r n true t = record { room = r; numbers = n; tail = t }
headed b m r n false t = λ l h. t h.tail

pub wrong_header : (b : Bytes) → Heads None b → sound b ≡ false
wrong_header b n = fails (sound b) (λ s. n _ (whole b s))

module _ (b : Bytes) (m : ℕ) (h : Headed b m) where
  pub broken : (k : Chain) → WalksChain None k b m → sound b ≡ false
  broken k w =
      fails (sound b) (λ s. w
      (subst (λ (n : ℕ). Leads b n (at32 b (16 + 8 * chain_number k)) (at32 b (12 + 8 * chain_number k))) (sym h.room) ((checked b s).chained.leads (chain_number k) (chain_below k)))
      (ap (every (passes k)) (sym (chain_read b (chain_number k) (chain_below k))) ∙ holds _ (payloads b s k)))

  -- ---- a walk that ends

  passed : (k : Chain) (l : ℕ) → WalksChain (Some l) k b m → T (every (passes k) (chain (chain_number k) (read_book b)))
  passed k l w = true_holds _ (ap (every (passes k)) (chain_read b (chain_number k) (chain_below k)) ∙ w.1)

  last : (k : Chain) (l : ℕ) → WalksChain (Some l) k b m → l ≡ last_of (chain (chain_number k) (read_book b))
  last k l w = w.2 ∙ ap last_of (sym (chain_read b (chain_number k) (chain_below k)))

  -- ---- four walks that end

  module _ (p q r t : ℕ) (wp : WalksChain (Some p) Active b m) (wq : WalksChain (Some q) History b m) (wr : WalksChain (Some r) Audit b m) (wt : WalksChain (Some t) Free b m) where
    stands : sound b ≡ true → Standing b (record { active = p; history = q; audit = r })
    stands e =
        let h = true_holds (sound b) e in
        record { whole = h; active = last Active p wp ∙ active_last b h; history = last History q wq ∙ history_last b h; audit = last Audit r wr ∙ audit_last b h }

    chained : (y : Bool) → Decides y (Apart p q r t) → Decides y (Chained b (capacity (read_book b)))
    chained y d =
        subst (λ (n : ℕ). Decides y (Chained b n)) h.room
        (chained_decides b m p q r t (wp.0, wp.2) (wq.0, wq.2) (wr.0, wr.2) (wt.0, wt.2) y d)

    records : T (sound_records (read_book b))
    unfolding sound_records
    records = both (active_sound (read_book b)) _ (passed Active p wp) (both (history_sound (read_book b)) (audit_sound (read_book b)) (passed History q wq) (passed Audit r wr))

    judged : Octets b → (y : Bool) → Decides y (Apart p q r t) → sound b ≡ y
    unfolding sound
    judged byte true d =
        let s = check_sound b (record { numbers = h.numbers; chained = chained true d; tail = h.tail; zeroed = zeroed_to (read_book b).free (passed Free t wt) }) byte in
        holds (sound b) (both (sound_book b) _ (sound_from_lem b s) records)
    judged byte false d = fails (sound b) (λ s. chained false d (checked b s).chained)

    -- the answer to whether the last records differ decides
    pub gives : Octets b → (y : Bool) → Decides y (Apart p q r t) → Gives (then_some y (record { active = p; history = q; audit = r })) b
    gives byte true d = stands (judged byte true d)
    gives byte false d = judged byte false d
