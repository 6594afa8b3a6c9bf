-- Each number of the table is given by some opening, call or look at the panel, so that a host handles none in vain. 32 was
-- never given, and M-107 removed it.
use Rattle.std.specs.Prelude.{ℕ, ◌≡◌, refl, List, [], ◌∷◌, map, drop, replicate}
use Rattle.std.proofs.Common.{ap}
use Rattle.octets.specs.Bytes.{Bytes, be32, be64}
use Rattle.definition.specs.Book.{walk, read_book, legal_book, sound_book}
use Rattle.definition.specs.Slot.{join}
use Rattle.definition.specs.Station.{fresh}
use Rattle.definition.specs.Sound.{sound}
use Rattle.definition.specs.Opening.{open_of}
use Rattle.definition.specs.Lists.{Reply, step_of, run}
use Rattle.definition.specs.Panel.{look, PanelReply, show_of}
use Rattle.definition.specs.Numbers.{opening_refusals, step_refusals, panel_refusals}
use Rattle.definition.proofs.Laws.Twins.LampsHold.{show_legal}
use Rattle.definition.proofs.Laws.Table.Calls.{byte, sent, absent, present, tenant, sent_before_text, raise_of, raise, acknowledge, suppress_until}
use Rattle.definition.proofs.Laws.Table.Shown.{register, ample}
use Rattle.definition.proofs.Laws.Table.Stations.{all_octets, register_legal, computed, by_stations_of}

-- ---- calls with one fault each, in the table's order

-- an acknowledge that ends at its id, whose length says n
abbrev to_id : ℕ → Bytes
to_id n = join (byte 3 ∷ be64 0 ∷ be32 n ∷ [])

-- a raise up to a region that is present and empty
abbrev empty_region : Bytes
empty_region =
    join (byte 1 ∷ be64 0 ∷ sent "a" ∷ sent "t" ∷ byte 3 ∷ sent "lease-lost" ∷ tenant "a" ∷ absent ∷ absent ∷ present "" ∷ [])

-- a raise up to its text, which has n letters x
abbrev to_text : ℕ → Bytes
to_text n = join (byte 1 ∷ sent_before_text 0 "a" "lease-lost" (tenant "a") absent ∷ be32 n ∷ replicate n 120 ∷ [])

-- behind a raise of id `a`: 23 nothing; 24 ends early; 25 authorised is 2; 26 an id of 65 bytes; 27 one of the byte 255; 28 a cause without a
-- dot; 29 an empty region; 33 a text of 121 letters; 34 an end at the call's time; 30 an answer slice of 1,551 bytes; 31 id `a` on another object
abbrev pub faults : List (Bytes × ℕ)
faults =
    ample (raise 0 "a" "a") ∷ ample [] ∷ ample (to_id 1) ∷ ample (acknowledge "a" 2) ∷ ample (to_id 65) ∷ ample (join (to_id 1 ∷ byte 255 ∷ []))
    ∷ ample (raise_of 0 "a" "other:a" (tenant "a") absent) ∷ ample empty_region ∷ ample (to_text 121) ∷ ample (suppress_until 0 0 "a") ∷ (acknowledge "a" 1, 1551) ∷ ample (raise 0 "a" "b") ∷ []

abbrev numbers_of : List Reply → List ℕ
numbers_of q = map (λ (r : Reply). r.number) q

pub record EachNumber : Type 0 where
  -- a limit of 0; a slice of no byte
  pub opening : (open_of 0 1 1 []).number ∷ (open_of 1 1 1 []).number ∷ [] ≡ opening_refusals
  -- 22 on a register of no byte; then the others on one of A=2, H=3, E=1
  pub step : (step_of [] [] 0).number ∷ drop 1 (numbers_of (run faults register)) ≡ step_refusals

-- M-102: the panel's: 22 on a register of no byte; 30 on that of the table, for a block of no byte
pub record EachPanelNumber : Type 0 where
  pub panel : (show_of [] [] look).number ∷ (show_of register [] look).number ∷ [] ≡ panel_refusals

pub each_number : EachNumber
unfolding open_of step_of sound sound_book legal_book read_book walk all_octets computed
each_number = record { opening = refl; step = by_stations_of (λ q. (step_of [] [] 0).number ∷ drop 1 (numbers_of q)) faults tt refl }

pub each_panel_number : EachPanelNumber
unfolding open_of step_of show_of sound sound_book legal_book read_book walk all_octets computed
each_panel_number = record { panel = ap (λ (r : PanelReply). 22 ∷ r.number ∷ []) (show_legal (fresh 2 3 1) [] look register_legal) }
