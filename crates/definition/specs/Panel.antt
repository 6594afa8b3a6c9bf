-- M-102, "Panel block": "The station desk has a lamp card that reads eight bytes." What they are after each call on them, and what is returned.
use Rattle.std.specs.Prelude.{ℕ, zero, suc, ◌+◌, ◌/◌, ◌%◌, ◌^◌, ◌≡◌, List, ◌∷◌, Bool, cond, ◌&&◌, ◌||◌, eqb, ltb, length, get_or}
use Rattle.octets.specs.Bytes.{Bytes, be32}
use Rattle.definition.specs.Chain.{contents, any}
use Rattle.definition.specs.Alarm.{Alarm}
use Rattle.definition.specs.Station.{Station}
use Rattle.definition.specs.Lists.{on_sound}

-- ---- bits, by their numbers

-- bit s of v is 1
abbrev pub is_set : ℕ → ℕ → Bool
is_set v s = eqb (v / 2 ^ s % 2) 1

-- the number of n bits whose bit s is 1 exactly if f s
unfoldable pub by_bits : ℕ → (ℕ → Bool) → ℕ
by_bits zero f = 0
by_bits (suc s) f = by_bits s f + cond (f s) (2 ^ s) 0

-- of n bits, "one more than the number of the highest .. that is set .., or 0"
unfoldable pub highest : ℕ → (ℕ → Bool) → ℕ
highest zero f = 0
highest (suc s) f = cond (f s) (suc s) (highest s f)

-- ---- "Each call, a look or a write of one byte"

pub data PanelCall : Type 0 where
  look : PanelCall
  -- a byte's place, and what is written there
  write : ℕ → ℕ → PanelCall

-- ---- byte 0: "flags: bit s is 1 exactly if an active alarm of severity s is raised or updated"

-- "is raised or updated": states 0 and 1
abbrev pub is_raised_or_updated : Alarm → Bool
is_raised_or_updated a = eqb a.state 0 || eqb a.state 1

abbrev pub sets_flag : ℕ → Alarm → Bool
sets_flag s a = eqb a.severity s && is_raised_or_updated a

abbrev pub is_flagged : List Alarm → ℕ → Bool
is_flagged l s = any (sets_flag s) l

-- ---- byte 1: "a mask that the card may write; its bits 6 and 7 become 0 at every call"

-- "a write to any byte but 1 does only that": it makes the block anew
abbrev pub mask_of : PanelCall → Bytes → ℕ
mask_of look block = get_or block 1 0
mask_of (write at value) block = cond (eqb at 1) value (get_or block 1 0)

abbrev pub in_mask : ℕ → ℕ → Bool
in_mask mask s = ltb s 6 && is_set mask s

-- ---- the block

-- byte 2: "one more than the number of the highest flag that is set in both, or 0"
abbrev pub highest_of : List Alarm → ℕ → ℕ
highest_of l mask = highest 8 (λ s. is_flagged l s && in_mask mask s)

-- byte 3: "1 when byte 2 is not 0, else 0"; "Bytes 4 to 7 are the active length as u32"
abbrev pub block_of : List Alarm → ℕ → Bytes
block_of l mask =
    let h = highest_of l mask in
    by_bits 8 (is_flagged l) ∷ by_bits 8 (in_mask mask) ∷ h ∷ cond (eqb h 0) 0 1 ∷ be32 (length l)

-- each call "takes the register and makes the block anew", from the mask that the former one had
unfoldable pub panel_of : Station → Bytes → PanelCall → Bytes
panel_of s block call = block_of (contents s.active) (mask_of call block)

-- ---- what a call returns and leaves

pub record PanelReply : Type 0 where
  pub number : ℕ
  pub block : Bytes

abbrev pub panel_reply : ℕ → Bytes → PanelReply
panel_reply n block = record { number = n; block = block }

-- on a sound register: "then a block not of eight bytes 30, the block unchanged"
abbrev pub show_on : Station → Bytes → PanelCall → PanelReply
show_on s block call = cond (eqb (length block) 8) (panel_reply 0 (panel_of s block call)) (panel_reply 30 block)

-- "An unsound register gives 22", first
unfoldable pub show_of : Bytes → Bytes → PanelCall → PanelReply
show_of b block call = on_sound b (λ k. panel_reply k block) (λ s. show_on s block call)

-- a call on the register b and a block: "It returns 0 and 0", or a refusal's number and 0; the block is block'
pub record PanelReturns (b block : Bytes) (call : PanelCall) (number n : ℕ) (block' : Bytes) : Type 0 where
  pub number_is : number ≡ (show_of b block call).number
  pub length_is : n ≡ 0
  pub block_is : block' ≡ (show_of b block call).block
