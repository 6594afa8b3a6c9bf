-- M-102: what a call on the panel leaves behind the smallest lists of calls, by computation: which alarms light a lamp, what the mask does, what a
-- write does, and when 22 and 30 are given.
use Rattle.std.specs.Prelude.{ℕ, ◌≡◌, refl, List, [], ◌∷◌, map, T}
use Rattle.std.proofs.Common.{ap, ◌∙◌}
use Rattle.octets.specs.Bytes.{Bytes, be32, digits}
use Rattle.definition.specs.Chain.{any}
use Rattle.definition.specs.Station.{fresh}
use Rattle.definition.specs.Sound.{sound}
use Rattle.definition.specs.Book.{walk, read_book, legal_book, sound_book}
use Rattle.definition.specs.Panel.{PanelCall, look, write, by_bits, highest, panel_of, PanelReply, panel_reply, show_on, show_of}
use Rattle.definition.proofs.Laws.Twins.LampsHold.{show_legal}
use Rattle.definition.proofs.Laws.Table.Calls.{raise, raise_as, acknowledge, suppress, suppress_until, lift}
use Rattle.definition.proofs.Laws.Table.Shown.{ample, replies_to, left}
use Rattle.definition.proofs.Laws.Table.Stations.{all_octets, station_behind, left_legal, register_legal, station_left}

-- a call on the panel, on the register that calls leave and a block
unfoldable pub shown_behind : List Bytes → Bytes → PanelCall → PanelReply
shown_behind l k c = show_of (left (replies_to l)) k c

-- a block: flags, mask, highest, whether it is there, and the active length
abbrev block : ℕ → ℕ → ℕ → ℕ → ℕ → Bytes
block flags mask highest lit n = flags ∷ mask ∷ highest ∷ lit ∷ be32 n

-- one that holds a mask, and nothing else
abbrev masked : ℕ → Bytes
masked m = block 0 m 0 0 0

-- a raise of `a`, whose severity 3 is the bit 8
abbrev once : Bytes
once = raise 0 "a" "a"

-- blocks of seven and nine bytes, whose byte 1 is 255
abbrev seven : Bytes
seven = 0 ∷ 255 ∷ 0 ∷ 0 ∷ 0 ∷ 0 ∷ 0 ∷ []

abbrev nine : Bytes
nine = 0 ∷ 255 ∷ seven

pub record Panels : Type 0 where
  -- no alarm: "makes the block anew", "its bits 6 and 7 become 0"
  pub none : shown_behind [] (18 ∷ 255 ∷ 52 ∷ 86 ∷ 120 ∷ 154 ∷ 188 ∷ 222 ∷ []) look ≡ panel_reply 0 (block 0 63 0 0 0)
  -- "bit s is 1 exactly if an active alarm of severity s is raised": severity 0 too, and "one more than the number of the highest"
  pub zero : shown_behind (raise_as 0 ∷ []) (masked 63) look ≡ panel_reply 0 (block 1 63 1 1 1)
  -- "or updated"; raised again, and lifted
  pub updated : shown_behind (once ∷ once ∷ []) (masked 63) look ≡ panel_reply 0 (block 8 63 4 1 1)
  pub lifted : shown_behind (once ∷ suppress_until 0 1 "a" ∷ lift 1 ∷ []) (masked 63) look ≡ panel_reply 0 (block 8 63 4 1 1)
  -- no other state; "the active length" has them
  pub acknowledged : shown_behind (once ∷ acknowledge "a" 1 ∷ []) (masked 63) look ≡ panel_reply 0 (block 0 63 0 0 1)
  pub suppressed : shown_behind (once ∷ suppress "a" 1 ∷ []) (masked 63) look ≡ panel_reply 0 (block 0 63 0 0 1)
  -- the mask leaves the flags; "1 when byte 2 is not 0, else 0"
  pub dark : shown_behind (once ∷ []) (masked 0) look ≡ panel_reply 0 (block 8 0 0 0 1)
  -- "the highest flag that is set in both": not the highest flag, nor the mask's
  pub both : shown_behind (raise_as 4 ∷ raise 0 "b" "b" ∷ []) (masked 40) look ≡ panel_reply 0 (block 24 40 4 1 2)
  -- "a mask that the card may write", in the same call
  pub written : shown_behind (once ∷ []) (masked 0) (write 1 255) ≡ panel_reply 0 (block 8 63 4 1 1)
  -- "a write to any byte but 1 does only that": bits 6 and 7 become 0, nothing is stored; the place is not cut
  pub flags : shown_behind (once ∷ []) (masked 192) (write 0 0) ≡ panel_reply 0 (block 8 0 0 0 1)
  pub other : shown_behind (once ∷ []) (masked 63) (write 3 7) ≡ panel_reply 0 (block 8 63 4 1 1)
  pub far : shown_behind (once ∷ []) (masked 0) (write 257 1) ≡ panel_reply 0 (block 8 0 0 0 1)
  -- "a block not of eight bytes 30, the block unchanged"
  pub short : shown_behind [] seven look ≡ panel_reply 30 seven
  pub long : shown_behind [] nine (write 1 0) ≡ panel_reply 30 nine
  -- "An unsound register gives 22", first: one of no byte
  pub unsound : show_of [] (masked 255) look ≡ panel_reply 22 (masked 255)
  pub first : show_of [] seven look ≡ panel_reply 22 seven

computes : (l : List Bytes) (k : Bytes) (c : PanelCall) {x : PanelReply} → T (all_octets (map ample l)) →
    show_on (station_left (map ample l)) k c ≡ x → shown_behind l k c ≡ x
unfolding shown_behind replies_to station_left
computes l k c t e =
    let h = left_legal (map ample l) (fresh 2 3 1) register_legal t in
    ap (λ (b : Bytes). show_of b k c) h.1 ∙ show_legal (station_behind (fresh 2 3 1) (map ample l)) k c h.0 ∙ e

pub panels : Panels
unfolding all_octets station_left panel_of by_bits highest any digits show_of sound sound_book legal_book read_book walk
panels =
    record {
      none = computes _ _ _ tt refl;
      zero = computes _ _ _ tt refl;
      updated = computes _ _ _ tt refl;
      lifted = computes _ _ _ tt refl;
      acknowledged = computes _ _ _ tt refl;
      suppressed = computes _ _ _ tt refl;
      dark = computes _ _ _ tt refl;
      both = computes _ _ _ tt refl;
      written = computes _ _ _ tt refl;
      flags = computes _ _ _ tt refl;
      other = computes _ _ _ tt refl;
      far = computes _ _ _ tt refl;
      short = computes _ _ _ tt refl;
      long = computes _ _ _ tt refl;
      unsound = refl;
      first = refl;
    }
