-- "The register": the bytes of a station, the station that bytes hold, and which bytes are sound.
use Rattle.std.specs.Prelude.{ℕ, map, Bool, ◌&&◌}
use Rattle.octets.specs.Bytes.{Bytes}
use Rattle.definition.specs.Chain.{on_content}
use Rattle.definition.specs.Record.{last_active, last_state, alarm_bytes, read_alarm, sound_alarm, event_bytes, read_event, sound_event}
use Rattle.definition.specs.Book.{Record, Book, book_bytes, read_book, every, sound_book, free_record}
use Rattle.definition.specs.Station.{Station}

-- ---- a station in bytes

-- each alarm and event in the bytes of its record
unfoldable pub book_of : Station → Book
book_of s =
    record {
      limit_a = s.limit_a;
      limit_h = s.limit_h;
      limit_e = s.limit_e;
      active = map (on_content alarm_bytes) s.active;
      history = map (on_content alarm_bytes) s.history;
      audit = map (on_content event_bytes) s.audit;
      free = map free_record s.free;
      successes = s.successes;
      failures = s.failures;
    }

-- the register's bytes
unfoldable pub encode : Station → Bytes
encode s = book_bytes (book_of s)

-- ---- the station that bytes hold

abbrev pub index_of : Record → ℕ
index_of e = e.index

-- each alarm and event as its payload is read
unfoldable pub station_of : Book → Station
station_of b =
    record {
      limit_a = b.limit_a;
      limit_h = b.limit_h;
      limit_e = b.limit_e;
      active = map (on_content read_alarm) b.active;
      history = map (on_content read_alarm) b.history;
      audit = map (on_content read_event) b.audit;
      free = map index_of b.free;
      successes = b.successes;
      failures = b.failures;
    }

-- reads, and checks nothing
unfoldable pub station : Bytes → Station
station s = station_of (read_book s)

-- ---- "Sound means"

abbrev pub holds_alarm : ℕ → Record → Bool
holds_alarm top e = sound_alarm top e.content

abbrev holds_event : Record → Bool
holds_event e = sound_event e.content

-- "each alarm's fields legal as a raise's", "active chain states active"
abbrev pub active_sound : Book → Bool
active_sound b = every (holds_alarm last_active) b.active

-- any of the six states in history
abbrev pub history_sound : Book → Bool
history_sound b = every (holds_alarm last_state) b.history

-- "each event's as a policy call's or a raise's"
abbrev pub audit_sound : Book → Bool
audit_sound b = every holds_event b.audit

unfoldable pub sound_records : Book → Bool
sound_records b = active_sound b && (history_sound b && audit_sound b)

-- the chains and the header, and every payload
unfoldable pub sound : Bytes → Bool
sound s = sound_book s && sound_records (read_book s)
