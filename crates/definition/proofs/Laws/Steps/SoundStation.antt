-- Sound bytes hold a legal station and are its bytes; a legal station's bytes are sound and hold it. For all code on a sound register, for
-- the claim and the balance.
use Rattle.std.specs.Prelude.{ℕ, ◌≡◌, Bool, ◌&&◌, T}
use Rattle.std.proofs.Math.Path.{refl, ap₂}
use Rattle.std.proofs.Common.{sym, ap, ◌∙◌, subst}
use mathlib.Core.List.{List, [], ◌∷◌, map}
use Rattle.octets.specs.Bytes.{Bytes}
use Rattle.octets.specs.BoolLaws.{both, both_left, both_right}
use Rattle.definition.specs.Chain.{Entry, on_content, entry}
use Rattle.definition.specs.Alarm.{Alarm, Event}
use Rattle.definition.specs.Record.{alarm_bytes, read_alarm, sound_alarm, event_bytes, read_event, sound_event}
use Rattle.definition.proofs.Laws.Record.Payloads.{read_alarm_lem, sound_legal_alarm, legal_sound_alarm, read_event_lem, sound_legal_event, legal_sound_event}
use Rattle.definition.specs.Clauses.LegalFields.{Each, LegalAlarm, LegalEvent, LegalFields}
use Rattle.definition.proofs.Laws.Record.Payloads.{says_alarm, says_event}
use Rattle.definition.specs.Book.{Record, Book, book_bytes, read_book, every, sound_book, free_record}
use Rattle.definition.proofs.Laws.Book.ReadBack.{read_bytes, sound_bytes}
use Rattle.definition.proofs.Laws.Book.BookTests.{sound_to, sound_from_lem}
use Rattle.definition.specs.Station.{Station}
use Rattle.definition.specs.Sound.{book_of, encode, index_of, station_of, station, active_sound, history_sound, audit_sound, sound_records, sound}
use Rattle.definition.specs.Clauses.LegalStation.{LegalStation}
use Rattle.definition.proofs.Laws.Steps.StationBook.{book_legal, station_legal}
use Rattle.definition.specs.Clauses.LegalBook.{Zeroed, SoundBook}

-- ---- what a record holds: how it is written, read and tested

pub record Content (A : Type 0) : Type 1 where
  pub put : A → Bytes
  pub get : Bytes → A
  pub Is : A → Type 0
  pub test : Bytes → Bool
  pub reads : (b : Bytes) → T (test b) → Is (get b) × (put (get b) ≡ b)
  pub writes : (a : A) → Is a → T (test (put a)) × (get (put a) ≡ a)

abbrev pub alarms : ℕ → Content Alarm
alarms top =
    record {
      put = alarm_bytes;
      get = read_alarm;
      Is = LegalAlarm top;
      test = sound_alarm top;
      reads = λ b h. (let p = sound_legal_alarm top b h in ((says_alarm top (read_alarm b)).from p.0, p.1));
      writes = λ a h. (let t = (says_alarm top a).to h in (legal_sound_alarm top a t, read_alarm_lem top a t));
    }

abbrev pub events : Content Event
events =
    record {
      put = event_bytes;
      get = read_event;
      Is = LegalEvent;
      test = sound_event;
      reads = λ b h. (let p = sound_legal_event b h in ((says_event (read_event b)).from p.0, p.1));
      writes = λ v h. (let t = (says_event v).to h in (legal_sound_event v t, read_event_lem v t));
    }

-- ---- a chain of such records

module _ {A : Type 0} (k : Content A) where
  abbrev passes : Record → Bool
  passes e = k.test e.content

  each_read : (c : List Record) → T (every passes c) → Each k.Is (map (on_content k.get) c)
  unfolding every
  each_read [] h = tt
  each_read (e ∷ c) h = ((k.reads e.content (both_left (passes e) (every passes c) h)).0, each_read c (both_right (passes e) (every passes c) h))

  put_read : (c : List Record) → T (every passes c) → map (on_content k.put) (map (on_content k.get) c) ≡ c
  unfolding every
  put_read [] h = refl
  put_read (e ∷ c) h =
      ap₂ ◌∷◌ (ap (entry e.index) (k.reads e.content (both_left (passes e) (every passes c) h)).1) (put_read c (both_right (passes e) (every passes c) h))

  each_written : (c : List (Entry A)) → Each k.Is c → T (every passes (map (on_content k.put) c))
  unfolding every
  each_written [] h = tt
  each_written (e ∷ c) h =
      both (k.test (k.put e.content)) (every passes (map (on_content k.put) c)) (k.writes e.content h.0).0 (each_written c h.1)

  read_put : (c : List (Entry A)) → Each k.Is c → map (on_content k.get) (map (on_content k.put) c) ≡ c
  read_put [] h = refl
  read_put (e ∷ c) h = ap₂ ◌∷◌ (ap (entry e.index) (k.writes e.content h.0).1) (read_put c h.1)

-- ---- the free chain

free_read : (c : List Record) → Zeroed c → map free_record (map index_of c) ≡ c
free_read [] h = refl
free_read (e ∷ c) h = ap₂ ◌∷◌ (ap (entry e.index) (sym h.0)) (free_read c h.1)

free_index : (l : List ℕ) → map index_of (map free_record l) ≡ l
free_index [] = refl
free_index (i ∷ l) = ap (◌∷◌ i) (free_index l)

-- ---- books and stations

module _ (b : Book) (r : T (sound_records b)) where
  active_ok : T (active_sound b)
  unfolding sound_records
  active_ok = both_left (active_sound b) (history_sound b && audit_sound b) r

  others_ok : T (history_sound b && audit_sound b)
  unfolding sound_records
  others_ok = both_right (active_sound b) (history_sound b && audit_sound b) r

  history_ok : T (history_sound b)
  history_ok = both_left (history_sound b) (audit_sound b) others_ok

  audit_ok : T (audit_sound b)
  audit_ok = both_right (history_sound b) (audit_sound b) others_ok

  fields_read : LegalFields (station_of b)
  unfolding station_of
  fields_read =
      record {
        active = each_read (alarms 3) b.active active_ok;
        history = each_read (alarms 5) b.history history_ok;
        audit = each_read events b.audit audit_ok;
      }

  book_back : Zeroed b.free → book_of (station_of b) ≡ b
  unfolding book_of station_of
  book_back f = λ i. record {
    limit_a = b.limit_a;
    limit_h = b.limit_h;
    limit_e = b.limit_e;
    active = put_read (alarms 3) b.active active_ok i;
    history = put_read (alarms 5) b.history history_ok i;
    audit = put_read events b.audit audit_ok i;
    free = free_read b.free f i;
    successes = b.successes;
    failures = b.failures;
  }

module _ (s : Station) (f : LegalFields s) where
  records_written : T (sound_records (book_of s))
  unfolding sound_records book_of
  records_written =
      both (active_sound (book_of s)) (history_sound (book_of s) && audit_sound (book_of s)) (each_written (alarms 3) s.active f.active)
      (both (history_sound (book_of s)) (audit_sound (book_of s)) (each_written (alarms 5) s.history f.history) (each_written events s.audit f.audit))

  station_back : station_of (book_of s) ≡ s
  unfolding book_of station_of
  station_back = λ i. record {
    limit_a = s.limit_a;
    limit_h = s.limit_h;
    limit_e = s.limit_e;
    active = read_put (alarms 3) s.active f.active i;
    history = read_put (alarms 5) s.history f.history i;
    audit = read_put events s.audit f.audit i;
    free = free_index s.free i;
    successes = s.successes;
    failures = s.failures;
  }

-- ---- bytes and stations

-- sound bytes hold a legal station, and are its bytes
pub record Holds (b : Bytes) : Type 0 where
  pub legal : LegalStation (station b)
  pub bytes : encode (station b) ≡ b
  pub book : SoundBook b
  pub read : book_of (station b) ≡ read_book b

pub sound_holds : (b : Bytes) → T (sound b) → Holds b
unfolding sound station encode
sound_holds b h =
    let k = sound_to b (both_left (sound_book b) (sound_records (read_book b)) h) in
    let r = both_right (sound_book b) (sound_records (read_book b)) h in
    record {
      legal = record { chains = station_legal (read_book b) k.legal; fields = fields_read (read_book b) r };
      bytes = ap book_bytes (book_back (read_book b) r k.legal.zeroed) ∙ k.bytes;
      book = k;
      read = book_back (read_book b) r k.legal.zeroed;
    }

-- a legal station's bytes hold it
pub legal_reads : (s : Station) → LegalStation s → station (encode s) ≡ s
unfolding station encode
legal_reads s l = ap station_of (read_bytes (book_of s) (book_legal s l.chains)) ∙ station_back s l.fields

pub legal_sound : (s : Station) → LegalStation s → T (sound (encode s))
unfolding sound encode
legal_sound s l =
    let g = book_legal s l.chains in
    both (sound_book (book_bytes (book_of s))) (sound_records (read_book (book_bytes (book_of s)))) (sound_from_lem (book_bytes (book_of s)) (sound_bytes (book_of s) g))
    (subst (λ (k : Book). T (sound_records k)) (sym (read_bytes (book_of s) g)) (records_written s l.fields))
