-- Demand 3, the balance, the reach of one wrong severity and the lamps of the panel, on what the entry points promise; that a sound register stays
-- sound; which numbers are given; and that no call takes from a free chain that has ended.
use Rattle.std.specs.Prelude.{ℕ, ◌+◌, ◌*◌, ◌≡◌, refl, ◌∷◌, Bool, true, false, cond, ◌&&◌, T, eqb, length}
use Rattle.octets.specs.Bytes.{Bytes, Octets}
use Rattle.octets.specs.BoolLaws.{either_right, either_on, holds, true_holds}
use Rattle.definition.specs.Parse.{parse_call}
use Rattle.definition.specs.Limits.{record_width}
use Rattle.definition.specs.Book.{is_limit}
use Rattle.definition.specs.Station.{Station, Outcome, fresh}
use Rattle.definition.specs.Answer.{Answer}
use Rattle.definition.specs.Perform.{perform}
use Rattle.definition.proofs.Laws.Steps.Surplus.{surplus, surplus_in, NoStray, Leaves, legal_strays, surplus_left}
use Rattle.definition.proofs.Laws.Twins.KeptLegal.{Kept, answered, refused, sound_kept, kept_sound}
use Rattle.definition.specs.Sound.{encode, station, sound}
use Rattle.definition.specs.Opening.{opened, open_of}
use Rattle.definition.specs.Lists.{reply_of, step_of}
use Rattle.definition.specs.Panel.{PanelCall, panel_reply, panel_of, show_of}
use Rattle.definition.specs.Numbers.{opening_refusals, sound_refusals, step_refusals, panel_refusals, among, Among}
use Rattle.definition.specs.Claim.{Claim, Numbers, PanelNumbers}
use Rattle.definition.specs.Balance.{Balance}
use Rattle.definition.specs.Reach.{Reach}
use Rattle.definition.specs.Lamps.{Lamps}
use Rattle.definition.proofs.Laws.Twins.ClaimHolds.{claim}
use Rattle.definition.proofs.Laws.Twins.BalanceHolds.{balanced}
use Rattle.definition.proofs.Laws.Twins.ReachHolds.{reached}
use Rattle.definition.proofs.Laws.Twins.LampsHold.{lit}

-- from an opening that returned 0, for every list of calls, the refused ones included. `Claim` speaks of what is returned and left by
-- `OpenReturns` and `StepReturns`: these are the contracts of `alarm_open` and `alarm_step`, and proofs/Promises.antt says so of the code
pub whole_lists : Claim
whole_lists = claim

-- M-111, "Nothing lost between lists": Raised = active + Cleared + expired. `Balance` speaks of the same promises
pub balance : Balance
balance = balanced

-- M-113, "How far one wrong severity reaches": without policy calls behind the raise, equal active lengths, and counts of each severity that
-- differ by one at most. `Reach` speaks of the same promises
pub reach : Reach
reach = reached

-- M-102, "no text can light a lamp": registers that differ only in texts and details, and twin lists with the same calls on the panel among them,
-- give equal blocks. `Lamps` speaks of the same promises, and of `PanelReturns`, the contract of `alarm_panel_look` and `alarm_panel_write`
pub lamps : Lamps
lamps = lit

-- ---- a sound register stays sound under every call

pub stays_sound : (b call : Bytes) (n : ℕ) → Octets call → T (sound b) → T (sound (step_of b call n).register)
unfolding step_of
stays_sound b call n o h =
    rw (holds (sound b) h) (kept_sound b h (sound_kept b call n o h))

-- ---- what an opening or a call gives, and by its contract an entry point returns, is 0 or a number of the table

open_listed : (a h e : ℕ) (slice : Bytes) → Among (open_of a h e slice).number (0 ∷ opening_refusals)
unfolding open_of
open_listed a h e slice = go (is_limit a && (is_limit h && is_limit e)) (eqb (length slice) (record_width * (1 + (a + h + e))))
  where
    go : (x y : Bool) → Among (cond x (cond y (opened 0 (encode (fresh a h e))) (opened 21 slice)) (opened 20 slice)).number (0 ∷ opening_refusals)
    go true true = tt
    go true false = tt
    go false y = tt

reply_listed : {k : ℕ} (b : Bytes) {o : Outcome Answer} → Kept k (station b) o → Among (reply_of b o).number (0 ∷ sound_refusals)
reply_listed b (answered l k e) = tt
reply_listed b (refused {n} a) = either_right (eqb n 0) (among n sound_refusals) a

sound_listed : (b call : Bytes) (n : ℕ) → Octets call → T (sound b) → Among (step_of b call n).number (0 ∷ sound_refusals)
unfolding step_of
sound_listed b call n o h = rw (holds (sound b) h) (reply_listed b (sound_kept b call n o h))

step_listed : (b call : Bytes) (n : ℕ) → Octets call → Among (step_of b call n).number (0 ∷ step_refusals)
unfolding step_of
step_listed b call n o = go (sound b) refl
  where
    widen : (k : ℕ) → Among k (0 ∷ sound_refusals) → Among k (0 ∷ step_refusals)
    widen k h = either_on (eqb k 0) (among k sound_refusals) (among k step_refusals) (either_right (eqb k 22) (among k sound_refusals)) h

    go : (x : Bool) → sound b ≡ x → Among (step_of b call n).number (0 ∷ step_refusals)
    go true e = widen (step_of b call n).number (sound_listed b call n o (true_holds (sound b) e))
    go false e = rw e tt

panel_listed : (b block : Bytes) (call : PanelCall) → Among (show_of b block call).number (0 ∷ panel_refusals)
unfolding show_of
panel_listed b block call = go (sound b) (eqb (length block) 8)
  where
    go : (x y : Bool) →
        Among (cond x (cond y (panel_reply 0 (panel_of (station b) block call)) (panel_reply 30 block)) (panel_reply 22 block)).number (0 ∷ panel_refusals)
    go true true = tt
    go true false = tt
    go false y = tt

pub numbers : Numbers
numbers = record { opening = open_listed; step = step_listed; on_sound_lem = sound_listed }

pub panel_numbers : PanelNumbers
panel_numbers = record { panel = panel_listed }

-- ---- M-107: no call on a sound register takes from a free chain that has ended: with record z more behind it, a call does the same, and leaves
-- ---- z there

leaves_none : {k : ℕ} {s : Station} {o : Outcome Answer} → Kept k s o → Leaves NoStray o
leaves_none (answered {t = t} l k e) = legal_strays t l.chains
leaves_none (refused a) = tt

pub surplus_stays : (b call : Bytes) (n z : ℕ) → Octets call → T (sound b) →
    perform (parse_call call) n (surplus z (station b)) ≡ surplus_in z (perform (parse_call call) n (station b))
surplus_stays b call n z o h =
    surplus_left z (parse_call call) n (station b) (leaves_none (sound_kept b call n o h))
