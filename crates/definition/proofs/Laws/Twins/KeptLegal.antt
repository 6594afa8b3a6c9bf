-- Every call on a legal station leaves a legal station, or is refused with a number of the table; it is its own twin. So a sound register stays
-- sound. For the claim, the balance, the reach, and `station`.
use Rattle.std.specs.Prelude.{ℕ, ◌+◌, ◌≡◌, refl, List, [], ◌∷◌, map, T, length, get_or}
use Rattle.std.proofs.Common.{ap₂, subst}
use Rattle.octets.specs.Bytes.{Bytes, Octets}
use Rattle.definition.specs.Value.{CallValue, op_of}
use Rattle.definition.specs.Parse.{parse_call}
use Rattle.definition.specs.Chain.{Entry}
use Rattle.definition.specs.Alarm.{Alarm}
use Rattle.definition.specs.Station.{Station, Outcome, done, stopped, ◌>>=◌}
use Rattle.definition.specs.Answer.{Answer}
use Rattle.definition.specs.Perform.{in_length, perform}
use Rattle.definition.specs.Sound.{encode, station, sound}
use Rattle.definition.specs.Lists.{reply_of}
use Rattle.definition.specs.Numbers.{sound_refusals, Among}
use Rattle.definition.specs.Clauses.LegalStation.{LegalStation}
use Rattle.definition.proofs.Laws.Steps.Answers.{said, kind_of}
use Rattle.definition.specs.Clauses.LegalFields.{LegalCall}
use Rattle.definition.proofs.Laws.Text.ParsedLegal.{Operation, call_legal, call_operation}
use Rattle.definition.proofs.Laws.Twins.Blank.{blank_entry, blank_station}
use Rattle.definition.specs.Twins.{AtEach}
use Rattle.definition.proofs.Laws.Steps.SoundStation.{sound_holds, legal_sound}
use Rattle.definition.proofs.Laws.Steps.PairedChains.{nothing}
use Rattle.definition.proofs.Laws.Steps.SideBySide.{Both, both, neither}
use Rattle.definition.proofs.Laws.Steps.Alike.{On, Told}
use Rattle.definition.proofs.Laws.Twins.TwinStations.{TwinAt, twin}
use Rattle.definition.proofs.Laws.Twins.TwinSteps.{alike, call_listed, perform_twin}

-- ---- a legal station is its own twin

each_self : (c : List (Entry Alarm)) → AtEach TwinAt c c
each_self [] = tt
each_self (e ∷ c) = ((refl, refl), each_self c)

each_blank : (c c' : List (Entry Alarm)) → AtEach TwinAt c c' → map blank_entry c ≡ map blank_entry c'
each_blank [] [] h = refl
each_blank [] (e ∷ c) h = absurd h
each_blank (e ∷ c) [] h = absurd h
each_blank (e ∷ c) (e' ∷ c') h = ap₂ ◌∷◌ (λ i. record { index = h.0.0 i; content = h.0.1 i }) (each_blank c c' h.1)

pub self_twin : (s : Station) → LegalStation s → On twin (length s.active) [] [] s s
self_twin s l = record {
  legal = l;
  legal' = l;
  size = refl;
  limit = refl;
  pairs = each_self s.active;
  picked = nothing;
  rest = record { limits = (refl, refl); history = each_self s.history; audit = refl; free = refl; counters = (refl, refl) };
}

module _ {n : ℕ} {s t : Station} (p : On twin n [] [] s t) where
  pub twin_blank : blank_station s ≡ blank_station t
  twin_blank = λ i. record {
    limit_a = p.limit i;
    limit_h = p.rest.limits.0 i;
    limit_e = p.rest.limits.1 i;
    active = each_blank s.active t.active p.pairs i;
    history = each_blank s.history t.history p.rest.history i;
    audit = p.rest.audit i;
    free = p.rest.free i;
    successes = p.rest.counters.0 i;
    failures = p.rest.counters.1 i;
  }

-- ---- one call on a legal station

-- it is answered, and the station is legal and its active length has moved by what was answered; or refused, with a number of the table
pub data Kept (k : ℕ) (s : Station) : Outcome Answer → Type 0 where
  answered : {x : Answer} {t : Station} → LegalStation t → (said x).kind ≡ k → length s.active + (said x).came ≡ length t.active + (said x).went → Kept k s (done x t)
  refused : {n : ℕ} → Among n sound_refusals → Kept k s (stopped n)

pub perform_kept : (c : CallValue) (n : ℕ) (s : Station) → LegalCall c → LegalStation s → Kept (kind_of (op_of c)) s (perform c n s)
perform_kept c n s h l = go ((perform_twin n (alike c) h h).from s s (self_twin s l))
  where
    go : {o o' : Outcome Answer} → Both (Told twin (kind_of (op_of c)) (length s.active)) o o' → Kept (kind_of (op_of c)) s o
    go (both q) = answered q.on.legal q.kind q.even
    go (neither k) = refused k

-- a call of bytes: its answer is of the kind of the operation that its first byte names
pub call_kept : (c : Bytes) (n : ℕ) (s : Station) → Octets c → LegalStation s → Kept (kind_of (get_or c 0 0)) s (perform (parse_call c) n s)
unfolding perform in_length ◌>>=◌
call_kept c n s o l = go (call_operation c o) (call_legal c o)
  where
    go : {op : ℕ} {v : CallValue} → Operation op v → LegalCall v → Kept (kind_of op) s (perform v n s)
    go {v = v} (Operation.called k) h = subst (λ (i : ℕ). Kept (kind_of i) s (perform v n s)) k (perform_kept v n s h l)
    go (Operation.refused {n = i}) h = refused (call_listed i h)

-- ---- the station after it

abbrev pub station_after : Station → Outcome Answer → Station
station_after s (done x t) = t
station_after s (stopped n) = s

pub legal_after : {k : ℕ} {s : Station} {o : Outcome Answer} → LegalStation s → Kept k s o → LegalStation (station_after s o)
legal_after l (answered m k e) = m
legal_after l (refused k) = l

pub register_after : (s : Station) (o : Outcome Answer) → (reply_of (encode s) o).register ≡ encode (station_after s o)
register_after s (done x t) = refl
register_after s (stopped n) = refl

-- ---- one call on a sound register

pub sound_kept : (b call : Bytes) (n : ℕ) → Octets call → T (sound b) → Kept (kind_of (get_or call 0 0)) (station b) (perform (parse_call call) n (station b))
sound_kept b call n o h = call_kept call n (station b) o (sound_holds b h).legal

-- it stays sound
pub kept_sound : {k : ℕ} (b : Bytes) {o : Outcome Answer} → T (sound b) → Kept k (station b) o → T (sound (reply_of b o).register)
kept_sound b h (answered {t = t} l k e) = legal_sound t l
kept_sound b h (refused k) = h
