-- The strings that a field takes, by its kind.
use Rattle.std.specs.Prelude.{ℕ, Bool, true}
use Rattle.octets.specs.Bytes.{Bytes}
use Rattle.definition.specs.Utf8.{utf8}
use Rattle.definition.specs.Reader.{Reader, blob, text}
use Rattle.fields.specs.declared.StringKind.{StringKind}
use Rattle.fields.specs.declared.StringKind.TheVariants.{Text, Blob}

abbrev pub string_by : StringKind → ℕ → Reader Bytes
string_by Text = text
string_by Blob = blob

abbrev pub obeyed : StringKind → Bytes → Bool
obeyed Text s = utf8 s
obeyed Blob s = true
