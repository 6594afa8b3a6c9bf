-- Demand 3's claim holds. For the theorem on whole lists in `station`; `step_legal`, `made_reply`,
-- `AlikeRegisters` and `twin_made` also for the balance, the reach, the lamps and the table of the cases marked *.
use Rattle.std.specs.Prelude.{ℕ, ◌+◌, ◌*◌, ◌≡◌, refl, List, [], ◌∷◌, map, Bool, true, false, cond, ◌&&◌, T, eqb, length, take, get_or}
use Rattle.std.proofs.Common.{sym, ap, ap₂, ◌∙◌, subst, arith, take_at}
use Rattle.octets.specs.Bytes.{Bytes, Octets, splice}
use Rattle.octets.specs.BoolLaws.{holds, true_holds}
use Rattle.definition.specs.Parse.{parse_call}
use Rattle.definition.specs.Station.{Station, Outcome, done, stopped, fresh}
use Rattle.definition.specs.Answer.{Answer, answer_bytes}
use Rattle.definition.specs.Book.{is_limit}
use Rattle.definition.proofs.Laws.Book.BookTests.{limits_to}
use Rattle.definition.specs.Opening.{opened, open_of}
use Rattle.definition.specs.Perform.{perform}
use Rattle.definition.proofs.Laws.Steps.Answers.{lists, kind_of, lists_op}
use Rattle.definition.proofs.Laws.Text.ParsedLegal.{call_legal}
use Rattle.definition.specs.Clauses.LegalStation.{LegalStation}
use Rattle.definition.proofs.Laws.Steps.StationBook.{fresh_legal_station}
use Rattle.definition.proofs.Laws.Twins.KeptLegal.{self_twin, twin_blank, Kept, answered, refused, call_kept, sound_kept, kept_sound}
use Rattle.definition.specs.Sound.{encode, station, sound}
use Rattle.definition.proofs.Laws.Steps.SoundStation.{sound_holds, legal_reads, legal_sound}
use Rattle.definition.proofs.Laws.Steps.Replies.{on_sound_lem}
use Rattle.definition.proofs.Laws.Steps.SideBySide.{Both, both, neither}
use Rattle.definition.proofs.Laws.Steps.Alike.{Likeness, On, Told}
use Rattle.definition.proofs.Laws.Twins.TwinStations.{twin}
use Rattle.definition.proofs.Laws.Twins.TwinSteps.{size_twin, perform_twin}
use Rattle.definition.proofs.Laws.Twins.MaskRegister.{mask_encode}
use Rattle.definition.proofs.Laws.Twins.MaskAnswer.{mask_answer_lem}
use Rattle.definition.specs.Mask.{mask_register, mask_answer, lists_records}
use Rattle.definition.specs.Lists.{Reply, reply_of, step_of, run}
use Rattle.definition.specs.Twins.{TwinCall, equal, raises, AtEach, TwinPlaces, TwinLists}
use Rattle.definition.proofs.Laws.Twins.ReadTwins.{twins_read}
use Rattle.definition.specs.Claim.{Fresh, Gives, Made, MadeOn, Trace, asked, AsReplied, Alike, AllOctets, Claim}

-- ---- the first half: each call starts from the register that the definition keeps

replied : (b : Bytes) (l : List Made) → Trace b l → AtEach AsReplied l (run (map asked l) b)
unfolding run
replied b [] t = tt
replied b (m ∷ l) t = (t.0, subst (λ (c : Bytes). AtEach AsReplied l (run (map asked l) c)) t.0.register_is (replied m.register l t.1))

-- ---- a fresh register is a legal station's

pub opened_fresh : (a h e : ℕ) (b : Bytes) → Fresh a h e b → LegalStation (fresh a h e) × (b ≡ encode (fresh a h e))
unfolding open_of
opened_fresh a h e b f =
    let o = f.opening in
    let p = go (is_limit a && (is_limit h && is_limit e)) (eqb (length f.slice) (1536 * (1 + (a + h + e)))) o.number_is in
    let l = limits_to a h e (true_holds _ p.0) in
    (fresh_legal_station a h e l.0 l.1 l.2, o.register_is ∙ p.1)
  where
    go : (x y : Bool) → 0 ≡ (cond x (cond y (opened 0 (encode (fresh a h e))) (opened 21 f.slice)) (opened 20 f.slice)).number →
        (x ≡ true) × ((cond x (cond y (opened 0 (encode (fresh a h e))) (opened 21 f.slice)) (opened 20 f.slice)).register ≡ encode (fresh a h e))
    go true true q = (refl, refl)
    go true false q = absurd (omega (arith, q))
    go false y q = absurd (omega (arith, q))

-- ---- one call on each of two stations that are alike

-- a legal station, and an answer of the operation's kind
abbrev Good : ℕ → Outcome Answer → Type 0
Good op (done x t) = LegalStation t × (lists x ≡ lists_records op)
Good op (stopped n) = Unit {0}

good : (op : ℕ) {s : Station} {o : Outcome Answer} → Kept (kind_of op) s o → Good op o
good op (answered l k e) = (l, ap (λ (i : ℕ). eqb i 8) k ∙ lists_op op)
good op (refused k) = tt

-- the registers of two stations that are alike
pub record AlikeRegisters (k : Likeness) (b b' : Bytes) : Type 0 where
  pub one : Station
  pub two : Station
  pub on : On k (length one.active) [] [] one two
  pub is_one : b ≡ encode one
  pub is_two : b' ≡ encode two

-- they differ in texts and details only
abbrev pub Twin : Bytes → Bytes → Type 0
Twin = AlikeRegisters twin

-- the replies to twin calls
record TwinReply (op : ℕ) (q q' : Reply) : Type 0 where
  number : q.number ≡ q'.number
  sized : q.length ≡ length q.answer
  sized' : q'.length ≡ length q'.answer
  length : q.length ≡ q'.length
  answer : mask_answer op q.answer ≡ mask_answer op q'.answer
  register : Twin q.register q'.register

pub twin_register : (b b' : Bytes) → Twin b b' → mask_register b ≡ mask_register b'
twin_register b b' t =
    ap mask_register t.is_one ∙ mask_encode t.one t.on.legal.chains ∙ ap encode (twin_blank t.on)
    ∙ sym (ap mask_register t.is_two ∙ mask_encode t.two t.on.legal'.chains)

twin_reply : {i n op : ℕ} (b b' : Bytes) → Twin b b' → {o o' : Outcome Answer} → Good op o → Good op o' → Both (Told twin i n) o o' → TwinReply op (reply_of b o) (reply_of b' o')
twin_reply {op = op} b b' t g g' (both {a = x} {b = x'} q) = record {
  number = refl;
  sized = refl;
  sized' = refl;
  length = size_twin x x' q.says;
  answer = mask_answer_lem op x g.1 ∙ ap answer_bytes q.says ∙ sym (mask_answer_lem op x' g'.1);
  register = record { one = _; two = _; on = q.on; is_one = refl; is_two = refl };
}
twin_reply b b' t g g' (neither k) = record { number = refl; sized = refl; sized' = refl; length = refl; answer = refl; register = t }

-- the reply from a legal station's bytes
pub step_legal : (b : Bytes) (s : Station) (c : Bytes) (n : ℕ) → LegalStation s → b ≡ encode s → step_of b c n ≡ reply_of b (perform (parse_call c) n s)
unfolding step_of
step_legal b s c n l e =
    let h : sound b ≡ true = rw e (holds (sound (encode s)) (legal_sound s l)) in
    rw (on_sound_lem, e, legal_reads s l)

-- what a call that was made on them returned and left
pub made_reply : (b : Bytes) (s : Station) (m : Made) → LegalStation s → b ≡ encode s → MadeOn b m →
    AsReplied m (reply_of b (perform (parse_call m.call) (length m.former) s))
made_reply b s m l e g = rw (step_legal b s m.call (length m.former) l e) at g

-- a sound register stays sound
pub made_sound : (b : Bytes) (m : Made) → T (sound b) → Octets m.call → MadeOn b m → T (sound m.register)
made_sound b m h o g =
    let l = sound_holds b h in
    rw (made_reply b (station b) m l.legal (sym l.bytes) g).register_is (kept_sound b h (sound_kept b m.call (length m.former) o h))

same_op : (c c' : Bytes) → TwinCall c c' → get_or c 0 0 ≡ get_or c' 0 0
same_op c c' (equal p) = ap (λ (x : Bytes). get_or x 0 0) p
same_op c c' (raises t) = ap (λ (x : Bytes). get_or x 0 0) t.is ∙ sym (ap (λ (x : Bytes). get_or x 0 0) t.is')

-- the first bytes of a slice that an answer was written to
pub take_front : (o v : Bytes) → take (length v) (splice o 0 v) ≡ v
unfolding splice
take_front o v = take_at v _ (length v) refl

-- calls that were made as twin replies say
module _ (m m' : Made) (q q' : Reply) (g : Gives q m.former m.number m.length m.answer m.register)
    (g' : Gives q' m'.former m'.number m'.length m'.answer m'.register) (r : TwinReply (get_or m.call 0 0) q q') where
  made_register : Twin m.register m'.register
  made_register = rw (g.register_is, g'.register_is) r.register

  made_alike : get_or m.call 0 0 ≡ get_or m'.call 0 0 → Alike m m'
  made_alike e =
      let f : take m.length m.answer ≡ q.answer = ap₂ take (g.length_is ∙ r.sized) g.answer_is ∙ take_front m.former q.answer in
      let f' : take m'.length m'.answer ≡ q'.answer = ap₂ take (g'.length_is ∙ r.sized') g'.answer_is ∙ take_front m'.former q'.answer in
      record {
        number = g.number_is ∙ r.number ∙ sym g'.number_is;
        length = g.length_is ∙ r.length ∙ sym g'.length_is;
        answer = ap (mask_answer (get_or m.call 0 0)) f ∙ r.answer ∙ ap₂ mask_answer e (sym f');
        register = twin_register m.register m'.register made_register;
      }

-- ---- twin lists, call by call

good_call : (c : Bytes) (n : ℕ) (s : Station) → Octets c → LegalStation s → Good (get_or c 0 0) (perform (parse_call c) n s)
good_call c n s o l = good (get_or c 0 0) (call_kept c n s o l)

twin_step : (b b' c c' : Bytes) (n n' : ℕ) → Twin b b' → Octets c → Octets c' → TwinCall c c' → n ≡ n' → TwinReply (get_or c 0 0) (step_of b c n) (step_of b' c' n')
twin_step b b' c c' n n' t o o' w e =
    let s = t.one in
    let s' = t.two in
    rw (← e, step_legal b s c n t.on.legal t.is_one, step_legal b' s' c' n t.on.legal' t.is_two)
    (twin_reply b b' t (good_call c n s o t.on.legal) (rw (same_op c c' w) (good_call c' n s' o' t.on.legal'))
    ((perform_twin n (twins_read c c' w) (call_legal c o) (call_legal c' o')).from s s' t.on))

-- calls that were made on twins return and answer the same, and leave twins
pub twin_made : (b b' : Bytes) (m m' : Made) → Twin b b' → Octets m.call → Octets m'.call → MadeOn b m → MadeOn b' m' → TwinPlaces (asked m) (asked m') →
    Alike m m' × Twin m.register m'.register
twin_made b b' m m' t o o' g g' w =
    let r = twin_step b b' m.call m'.call (length m.former) (length m'.former) t o o' w.1 w.0 in
    (made_alike m m' _ _ g g' r (same_op m.call m'.call w.1), made_register m m' _ _ g g' r)

twins : (b b' : Bytes) (l l' : List Made) → Twin b b' → AllOctets l → AllOctets l' → Trace b l → Trace b' l' → TwinLists (map asked l) (map asked l') → AtEach Alike l l'
twins b b' [] [] t o o' x y w = tt
twins b b' [] (m ∷ l) t o o' x y w = w
twins b b' (m ∷ l) [] t o o' x y w = w
twins b b' (m ∷ l) (m' ∷ l') t o o' x y w =
    let r = twin_made b b' m m' t o.0 o'.0 x.0 y.0 w.0 in
    (r.0, twins m.register m'.register l l' r.1 o.1 o'.1 x.1 y.1 w.1)

pub fresh_twin : (a h e : ℕ) (b b' : Bytes) → Fresh a h e b → Fresh a h e b' → Twin b b'
fresh_twin a h e b b' f f' =
    let p = opened_fresh a h e b f in
    let q = opened_fresh a h e b' f' in
    record { one = fresh a h e; two = fresh a h e; on = self_twin (fresh a h e) p.0; is_one = p.1; is_two = q.1 }

pub claim : Claim
claim =
    record {
      replied = λ a h e b l f t. rw (sym (opened_fresh a h e b f).1) (replied b l t);
      twins = λ a h e b b' l l' f f' o o' t t' w. twins b b' l l' (fresh_twin a h e b b' f f') o o' t t' w;
    }
