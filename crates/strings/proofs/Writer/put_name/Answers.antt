-- `put_name` meets its contract: what is put as a string is the name in the array.
use Rattle.std.proofs.Common.{arith, ap}
use Rattle.octets.specs.PutLaws.{put_front}
use Rattle.definition.specs.Key.{string}
use Rattle.strings.specs.StoredLength.{name_length}
use Rattle.strings.specs.WritingLaws.{wrote_as}
use Rattle.strings.proofs.Writer.put_name.Goals as goal

pub returns : goal.returns
returns c =
    let l = name_length c.args.k c.requires.1 in
    wrote_as (ap string (put_front (record { next = c.put_name-n.ensures.0; fits = omega arith; bytes = c.put_name-n.ensures.1 }))) c.put_string.ensures
