-- `load`: the payload is that of the record.
use mathlib.Core.Path.{◌≡◌, sym, subst}
use Prim.Native.Nat.{ℕ}
use native.Mathlib.Omega.{arith}
use lib.Dec.{T}
use Rattle.octets.specs.Bytes.{Bytes}
use Rattle.definition.specs.Record.{last_active}
use Rattle.definition.specs.Book.{record_of}
use Rattle.definition.specs.Sound.{sound}
use Rattle.history.specs.Meaning.{IsAlarm, OnActive}
use Rattle.register.specs.WalkLaws.{on_fits}
use Rattle.history.specs.AlarmRecordLaws.{on_alarm}
use Rattle.state.proofs.load.Goals as goal

pub payload-requires : goal.payload-requires
payload-requires c =
    on_fits _ c.requires.0 0 _ (omega arith) c.requires.1

-- the payload of an active record is a sound alarm
loaded : (b : Bytes) (i : ℕ) {p : Bytes} → T (sound b) → OnActive b i → p ≡ (record_of b i).content → (p ≡ (record_of b i).content) × IsAlarm last_active p
loaded b i h o e = (e, subst (λ (q : Bytes). IsAlarm last_active q) (sym e) (on_alarm b h i o))

pub returns : goal.returns
returns c = loaded c.args.register.now c.args.i c.requires.0 c.requires.1 c.payload.ensures
