-- M-113: registers of stations that are near, and one call on each, on bytes: it leaves such registers, and what is claimed of the two calls holds.
-- For ReachHolds.
use Rattle.std.specs.Prelude.{ℕ, ◌≡◌, refl, [], Bool, true, false, ◌&&◌, T, eqb, length, take, get_or}
use Rattle.std.proofs.Common.{sym, ap, ap₂, ◌∙◌, subst, take_at}
use Rattle.octets.specs.Bytes.{Bytes, Octets}
use Rattle.octets.specs.BoolLaws.{holds}
use Rattle.definition.specs.Value.{CallValue, op_of}
use Rattle.definition.specs.Parse.{parse_call}
use Rattle.definition.specs.Station.{Station, Outcome, done, stopped, ◌>>=◌}
use Rattle.definition.specs.Answer.{Answer, head_bytes, head_of, body, answer_bytes}
use Rattle.definition.specs.Perform.{in_length, perform}
use Rattle.definition.specs.Sound.{encode, station, sound}
use Rattle.definition.specs.Lists.{reply_of}
use Rattle.definition.specs.Claim.{Made, MadeOn, AsReplied, operation, asked}
use Rattle.definition.specs.Balance.{is_answered, active_length}
use Rattle.definition.specs.Reach.{SeverityApart, is_policy, active_count, Bounded, answer_head, keeps_head, BoundedAfter}
use Rattle.definition.specs.Clauses.LegalFields.{LegalCall}
use Rattle.definition.specs.Clauses.LegalStation.{LegalStation}
use Rattle.definition.proofs.Laws.Text.ParsedLegal.{Operation, call_legal, call_operation}
use Rattle.definition.proofs.Laws.Steps.Answers.{length_head}
use Rattle.definition.proofs.Laws.Steps.SoundStation.{sound_holds, legal_reads}
use Rattle.definition.proofs.Laws.Steps.SoundChains.{active_encoded}
use Rattle.definition.proofs.Laws.Steps.PairedChains.{distinct, length_each}
use Rattle.definition.proofs.Laws.Steps.Alike.{On}
use Rattle.definition.proofs.Laws.Twins.KeptLegal.{perform_kept, station_after, legal_after, register_after}
use Rattle.definition.proofs.Laws.Twins.ClaimHolds.{made_reply, take_front, AlikeRegisters}
use Rattle.definition.proofs.Laws.Twins.NearStations.{Wrong, wrong, NearAt, near, alone, near_counts, near_first, near_second, severity_count}
use Rattle.definition.proofs.Laws.Twins.NearSteps.{SameHeads, ApartAfter, near_call, call_apart}
use Rattle.definition.proofs.Laws.Twins.ReadApart.{ReadApart, same, raises, apart_read}

-- ---- registers that are near

abbrev pub NearRegisters : Wrong → Bytes → Bytes → Type 0
NearRegisters w = AlikeRegisters (near w)

-- how many active alarms a legal station's bytes hold, and of a severity
length_encoded : (b : Bytes) (s : Station) → LegalStation s → b ≡ encode s → active_length b ≡ length s.active
length_encoded b s l e = ap active_length e ∙ active_encoded s l

count_encoded : (u : ℕ) (b : Bytes) (s : Station) → LegalStation s → b ≡ encode s → active_count u b ≡ severity_count u s.active
count_encoded u b s l e = ap (λ (t : Station). severity_count u t.active) (ap station e ∙ legal_reads s l)

near_bounded : (w : Wrong) (b b' : Bytes) → NearRegisters w b b' → Bounded w.severity w.severity' b b'
near_bounded w b b' r =
    let s = r.one in
    let t = r.two in
    let p = r.on in
    record {
      lengths = length_encoded b s p.legal r.is_one ∙ length_each (NearAt w) s.active t.active p.pairs ∙ sym (length_encoded b' t p.legal' r.is_two);
      counts = λ u. rw (count_encoded u b s p.legal r.is_one, count_encoded u b' t p.legal' r.is_two)
          (near_counts w u s.active t.active (distinct s p.legal.chains) p.pairs);
      first = λ u n. rw (count_encoded u b s p.legal r.is_one, count_encoded u b' t p.legal' r.is_two) (near_first w u s.active t.active p.pairs n);
      second = λ u n. rw (count_encoded u b s p.legal r.is_one, count_encoded u b' t p.legal' r.is_two) (near_second w u s.active t.active p.pairs n);
    }

-- ---- a call on a legal station's bytes

abbrev outcome : Bytes × ℕ → Station → Outcome Answer
outcome p s = perform (parse_call p.0) p.1 s

-- m was made on b, the bytes of s, as the call p with its answer length
record MadeAt (s : Station) (p : Bytes × ℕ) (b : Bytes) (m : Made) : Type 0 where
  legal : LegalStation s
  is : b ≡ encode s
  asks : asked m ≡ p
  made : MadeOn b m
  octets : Octets m.call

module _ {s : Station} {p : Bytes × ℕ} {b : Bytes} {m : Made} (q : MadeAt s p b m) where
  reply : AsReplied m (reply_of b (outcome p s))
  reply = rw (← q.asks) (made_reply b s m q.legal q.is q.made)

  left_register : m.register ≡ encode (station_after s (outcome p s))
  left_register = reply.register_is ∙ ap (λ (c : Bytes). (reply_of c (outcome p s)).register) q.is ∙ register_after s (outcome p s)

  call_octets : Octets p.0
  call_octets = rw (← q.asks) q.octets

  first_byte : operation m ≡ get_or p.0 0 0
  first_byte = ap (λ (x : Bytes × ℕ). get_or x.0 0 0) q.asks

  -- a refused call changes nothing
  unanswered : is_answered m ≡ false → station_after s (outcome p s) ≡ s
  unanswered n = go (outcome p s) reply
    where
      go : (o : Outcome Answer) → AsReplied m (reply_of b o) → station_after s o ≡ s
      go (done x t) r = absurd (subst (λ (y : Bool). T y) (ap (λ (i : ℕ). eqb i 0) (sym r.number_is) ∙ n) tt)
      go (stopped k) r = refl

  -- nor does a policy call that is not answered
  spared : is_policy (operation m) && is_answered m ≡ false → T (is_policy (op_of (parse_call p.0))) → station_after s (outcome p s) ≡ s
  spared n = go (call_operation p.0 call_octets)
    where
      go : {c : CallValue} → Operation (get_or p.0 0 0) c → T (is_policy (op_of c)) → station_after s (outcome p s) ≡ s
      go (Operation.called e) h =
          let y : is_policy (operation m) ≡ true = holds (is_policy (operation m)) (subst (λ (i : ℕ). T (is_policy i)) (e ∙ sym first_byte) h) in
          unanswered (rw y at n)
      go Operation.refused h = absurd h

-- ---- what two calls told

-- the head of an answer, in the slice that it was written to
head_answered : (b : Bytes) (m : Made) (x : Answer) (s : Station) → AsReplied m (reply_of b (done x s)) → answer_head m ≡ head_bytes (head_of x)
unfolding answer_bytes
head_answered b m x s r =
    ap (take 16) (ap₂ take r.length_is r.answer_is ∙ take_front m.former (answer_bytes x)) ∙ take_at (head_bytes (head_of x)) (body x) 16 (length_head (head_of x))

same_told : (b b' : Bytes) (m m' : Made) (o o' : Outcome Answer) → AsReplied m (reply_of b o) → AsReplied m' (reply_of b' o') → SameHeads o o' →
    (m.number ≡ m'.number) × (answer_head m ≡ answer_head m')
same_told b b' m m' (done x s) (done y t) r r' h = (r.number_is ∙ sym r'.number_is, head_answered b m x s r ∙ ap head_bytes h ∙ sym (head_answered b' m' y t r'))
same_told b b' m m' (done x s) (stopped n) r r' h = absurd h
same_told b b' m m' (stopped n) (done y t) r r' h = absurd h
same_told b b' m m' (stopped n) (stopped k) r r' h = (r.number_is ∙ h ∙ sym r'.number_is, rw (r.length_is, r'.length_is) refl)

same_heads : (o : Outcome Answer) → SameHeads o o
same_heads (done x s) = refl
same_heads (stopped n) = refl

-- a call is of the operation that its first byte names, or refused on both
kept_heads : (p : Bytes × ℕ) (s t : Station) → Octets p.0 → (T (keeps_head (op_of (parse_call p.0))) → SameHeads (outcome p s) (outcome p t)) →
    T (keeps_head (get_or p.0 0 0)) → SameHeads (outcome p s) (outcome p t)
unfolding perform in_length ◌>>=◌
kept_heads p s t o = go (call_operation p.0 o)
  where
    go : {c : CallValue} → Operation (get_or p.0 0 0) c → (T (keeps_head (op_of c)) → SameHeads (perform c p.1 s) (perform c p.1 t)) →
        T (keeps_head (get_or p.0 0 0)) → SameHeads (perform c p.1 s) (perform c p.1 t)
    go (Operation.called e) f h = f (rw e h)
    go Operation.refused f h = refl

-- ---- two calls

-- what they leave is near, and what is claimed of them holds
abbrev pub Follow : Wrong → Made → Made → Type 0
Follow w m m' = NearRegisters w m.register m'.register × BoundedAfter w.severity w.severity' m m'

module _ {s t : Station} {p p' : Bytes × ℕ} {b b' : Bytes} {m m' : Made} (q : MadeAt s p b m) (q' : MadeAt t p' b' m') where
  follow : (w : Wrong) → On (near w) (length (station_after s (outcome p s)).active) [] [] (station_after s (outcome p s)) (station_after t (outcome p' t)) →
      (T (keeps_head (get_or p.0 0 0)) → SameHeads (outcome p s) (outcome p' t)) → Follow w m m'
  follow w x f =
      let r : NearRegisters w m.register m'.register = record { one = _; two = _; on = x; is_one = left_register q; is_two = left_register q' } in
      (r, record { registers = near_bounded w _ _ r; heads = λ h. same_told b b' m m' (outcome p s) (outcome p' t) (reply q) (reply q') (f (rw (← first_byte q) h)) })

-- the same call on registers that are near
pub near_made : (w : Wrong) (b b' : Bytes) (m m' : Made) → NearRegisters w b b' → MadeOn b m → MadeOn b' m' → Octets m.call → Octets m'.call →
    is_policy (operation m) && is_answered m ≡ false → is_policy (operation m') && is_answered m' ≡ false → asked m' ≡ asked m → Follow w m m'
near_made w b b' m m' r g g' o o' n n' a =
    let s = r.one in
    let t = r.two in
    let p = asked m in
    let q : MadeAt s p b m = record { legal = r.on.legal; is = r.is_one; asks = refl; made = g; octets = o } in
    let q' : MadeAt t p b' m' = record { legal = r.on.legal'; is = r.is_two; asks = a; made = g'; octets = o' } in
    let x = near_call w (parse_call m.call) (length m.former) s t (call_legal m.call o) (λ h. (spared q n h, spared q' n' h)) r.on in
    follow q q' w x.on (kept_heads p s t o x.heads)

-- a call on a sound register
on_register : (b : Bytes) (m : Made) → T (sound b) → MadeOn b m → Octets m.call → (p : Bytes × ℕ) → asked m ≡ p → MadeAt (station b) p b m
on_register b m h g o p a = let l = sound_holds b h in record { legal = l.legal; is = sym l.bytes; asks = a; made = g; octets = o }

-- the same call twice on one register
pub same_made : (w : Wrong) (b : Bytes) (m m' : Made) → T (sound b) → MadeOn b m → MadeOn b m' → Octets m.call → Octets m'.call → asked m ≡ asked m' → Follow w m m'
same_made w b m m' h g g' o o' a =
    let l = (sound_holds b h).legal in
    let p = asked m' in
    follow (on_register b m h g o p a) (on_register b m' h g' o' p refl) w
    (alone w _ (legal_after l (perform_kept (parse_call p.0) p.1 (station b) (call_legal p.0 o') l))) (λ i. same_heads (outcome p (station b)))

-- calls that differ in the severity of a raise, on one station
parsed_apart : {v v' : ℕ} (s : Station) → LegalStation s → (n : ℕ) {c c' : CallValue} → LegalCall c → LegalCall c' → ReadApart v v' c c' →
    ApartAfter v v' s (perform c n s) (perform c' n s)
parsed_apart s l n h h' (same c) = record { on = (0, alone _ _ (legal_after l (perform_kept c n s h l))); heads = same_heads (perform c n s) }
parsed_apart {v} {v'} s l n h h' (raises c p) = rw (← p) (call_apart s l c v' n h h')

-- the raise and the same with another severity, on one register
pub apart_made : (v v' : ℕ) (b : Bytes) (m m' : Made) → T (sound b) → MadeOn b m → MadeOn b m' → Octets m.call → Octets m'.call →
    SeverityApart v v' m.call m'.call → length m.former ≡ length m'.former → (j : ℕ) × Follow (wrong v v' j) m m'
apart_made v v' b m m' h g g' o o' d e =
    let n = length m.former in
    let s = station b in
    let k = parsed_apart s (sound_holds b h).legal n (call_legal m.call o) (call_legal m'.call o') (apart_read v v' m.call m'.call d) in
    (k.on.0, follow (on_register b m h g o (m.call, n) refl) (on_register b m' h g' o' (m'.call, n) (ap (λ (i : ℕ). (m'.call, i)) (sym e))) (wrong v v' k.on.0) k.on.1 (λ i. k.heads))
