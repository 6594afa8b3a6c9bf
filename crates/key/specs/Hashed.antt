-- The buffer of what is hashed: how wide it is, the room that bytes have in it, and an object's strings behind its kind's tag.
use Rattle.std.specs.Prelude.{◌≡◌, ◌++◌, ℕ, ◌+◌, ◌≤◌, length}
use Rattle.octets.specs.Bytes.{Bytes}
use Rattle.definition.specs.Limits.{short_limit, cause_limit, region_limit}
use Rattle.definition.specs.Key.{string}
use Rattle.strings.specs.declared.Writer.{Writer}

-- ---- its width: the most that each field takes, within the limits of a record

-- a string of n bytes behind its length, and an optional one
abbrev pub string_most : ℕ → ℕ
string_most n = 4 + n

abbrev pub option_most : ℕ → ℕ
option_most n = 1 + string_most n

-- the longest object is of kind 8: no tag is longer than `DataPlaneQueue`, and a queue has five digits at most
abbrev pub tag_most : ℕ
tag_most = 14

abbrev pub queue_most : ℕ
queue_most = 5

abbrev pub object_most : ℕ
object_most = string_most tag_most + string_most short_limit + string_most short_limit + string_most queue_most

abbrev pub places_most : ℕ
places_most = option_most short_limit + option_most short_limit + option_most region_limit

abbrev pub hashed_width : ℕ
hashed_width = string_most short_limit + string_most cause_limit + object_most + places_most

-- w stands in the buffer with room for these bytes
pub record Room (w : Writer) (v : Bytes) : Type 0 where
  pub width : length w.slice.now ≡ hashed_width
  pub fits : w.at + length v ≤ hashed_width

-- ---- a kind's tag, with one string or two

abbrev pub tagged_one : Bytes → Bytes → Bytes
tagged_one tag a = string tag ++ string a

abbrev pub tagged_two : Bytes → Bytes → Bytes → Bytes
tagged_two tag a b = tagged_one tag a ++ string b
