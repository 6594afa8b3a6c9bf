-- The definition opened, part by part: each name stands for one of its functions, and to unfold it is to unfold what that function calls. For
-- Key, Stations, Characters and TwinRaises, which compute.
use Rattle.std.specs.Prelude.{ℕ}
use Rattle.octets.specs.Bytes.{Bytes, same, begins, digits, value_from, zeros, pad}
use Rattle.octets.specs.Pack.{pack}
use Rattle.fips180.specs.Sha256.{constants, zeros_of, padded, words_of, initial, next_word, schedule_of, round_of, rounds_of, sum_of, block_of, blocks_of, digest_of, sha256_of}
use Rattle.definition.specs.Value.{KeyValue, CallValue}
use Rattle.definition.specs.Key.{strings, digits_from, decimal, parts, fed_object, fed_places, fed, key_of, hex}
use Rattle.definition.specs.Utf8.{fits, width_in, character, rows_from, utf8}
use Rattle.definition.specs.White.{space, front_of, start_from, end_from, trim, has_space}
use Rattle.definition.specs.Cause.{one_of, cause_of, dotted, segments, has_dot, all_full}
use Rattle.definition.specs.Reader as Reader
use Rattle.definition.specs.Reader.{into, bytes, number, choice, blob, text, optional, cause_text}
use Rattle.definition.specs.Parse.{pair, object_of, object, scope_of, scope, raise_head, places, key, raise_text, raise_body, raise_fields, clear_fields, plain_fields, actor, request, verdict, policy_from, policy_fields, until_fields, fields_of, parse_call}
use Rattle.definition.specs.Chain.{those, first, newest, without, replaced, first_of}
use Rattle.definition.specs.Alarm.{before, late, same_names, same_key, same_identity, is_critical}
use Rattle.definition.specs.Slot.{join}
use Rattle.definition.specs.Record.{alarm_bytes, event_bytes}
use Rattle.definition.specs.Book.{record_in, be32s, header, record_at, book_bytes}
use Rattle.definition.specs.Station.{Station, Step, ◌>>=◌, for_each, add_active, add_history, add_audit, free_active, free_oldest_history, change_active, change_history, count_success, count_failure}
use Rattle.definition.specs.Answer.{Answer, answer_bytes}
use Rattle.definition.specs.Steps.{make_room, extend_history, history_after, into_history, revise, change, retire, one_more_raise, updated_by, new_alarm, store, store_new, raise_at, cleared_by, clear_at, acted_on, act, plain_at, plain, event_stored, event_lost, attempt, event_of, deny, allow, needs_override, policy_at, policy, round, expired_by, expire, lifted_by, lift, raise, clear}
use Rattle.definition.specs.Perform.{in_record, in_length, perform}
use Rattle.definition.specs.Sound.{book_of, encode}

-- a key and its digits
unfoldable pub keyed : Bytes → KeyValue → Bytes
unfolding digits value_from zeros strings digits_from decimal parts fed_object fed_places fed key_of hex constants zeros_of padded words_of initial next_word schedule_of round_of rounds_of sum_of block_of blocks_of digest_of sha256_of
keyed type k = hex (key_of type k)

-- a call's bytes; operations 8 to 12 are not opened
unfoldable pub parsed : Bytes → CallValue
unfolding join digits value_from same begins fits width_in character rows_from utf8 space front_of start_from end_from trim has_space one_of cause_of dotted segments has_dot all_full Reader.◌>>=◌ into bytes number choice blob text optional cause_text pair object_of object scope_of scope raise_head places key raise_text raise_body raise_fields clear_fields plain_fields actor request verdict policy_from policy_fields before until_fields fields_of parse_call
parsed c = parse_call c

-- a step and its answer's bytes; keys, and operations 8 to 12, are not opened
unfoldable pub performed : CallValue → ℕ → Step Answer
unfolding perform in_record in_length ◌>>=◌ raise clear raise_at clear_at revise change retire store store_new into_history history_after extend_history make_room for_each add_active add_history add_audit free_active free_oldest_history change_active change_history count_success count_failure those first newest without replaced before late same same_identity same_key same_names parts one_more_raise updated_by new_alarm cleared_by acted_on act plain_at plain event_stored event_lost attempt event_of deny allow is_critical needs_override policy_at policy round expired_by expire lifted_by lift answer_bytes
performed c n = perform c n

-- a station's bytes
unfoldable pub written : Station → Bytes
unfolding encode book_of book_bytes pack record_at record_in be32s header first_of alarm_bytes event_bytes join pad zeros digits
written s = encode s
