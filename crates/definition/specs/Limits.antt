-- "Longest, in bytes": the limits of a call's and a record's strings, and the width of a record. One limit is in code points.
use Rattle.std.specs.Prelude.{ℕ}

abbrev pub record_width : ℕ
record_width = 1536

-- id, type, each object string, tenant, slice, principal, correlation, scope string
abbrev pub short_limit : ℕ
short_limit = 64

abbrev pub cause_limit : ℕ
cause_limit = 96

-- region and denial
abbrev pub region_limit : ℕ
region_limit = 128

-- text and reason
abbrev pub text_limit : ℕ
text_limit = 256

abbrev pub details_limit : ℕ
details_limit = 512

-- M-104: "A raise's text has at most 120 code points and still at most 256 bytes"
abbrev pub code_point_limit : ℕ
code_point_limit = 120
