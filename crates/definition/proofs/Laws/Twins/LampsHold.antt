-- M-102: "no text can light a lamp": a sound register and the same one masked show equal blocks, so twin lists do. For the theorem on lamps in
-- `station`; `show_legal` also for the table.
use Rattle.std.specs.Prelude.{ℕ, ◌≡◌, refl, List, [], ◌∷◌, map, true, T}
use Rattle.std.proofs.Math.Path.{fun_ext}
use Rattle.std.proofs.Common.{arith}
use Rattle.octets.specs.Bytes.{Bytes}
use Rattle.octets.specs.BoolLaws.{holds}
use Rattle.definition.specs.Utf8.{rows_from, utf8}
use Rattle.definition.specs.Chain.{Entry, any}
use Rattle.definition.specs.Alarm.{Alarm}
use Rattle.definition.specs.Station.{Station}
use Rattle.definition.specs.Sound.{encode, station, sound}
use Rattle.definition.specs.Mask.{mask_register}
use Rattle.definition.specs.Twins.{AtEach}
use Rattle.definition.specs.Panel.{PanelCall, sets_flag, is_flagged, panel_of, show_on, show_of, PanelReturns}
use Rattle.definition.specs.Lamps.{Shown, LampPlace, called, shown, LampCourse, TwinLampPlaces, SameShown, AlikeLampPlaces, Lamps}
use Rattle.definition.specs.Clauses.LegalFields.{Each, LegalAlarm}
use Rattle.definition.specs.Clauses.LegalStation.{LegalStation}
use Rattle.definition.proofs.Laws.Book.Contents.{length_map, contents_map}
use Rattle.definition.proofs.Laws.Book.Occurrences.{times_map}
use Rattle.definition.proofs.Laws.Steps.ChangedLegal.{changed_legal}
use Rattle.definition.proofs.Laws.Steps.SoundStation.{sound_holds, legal_reads, legal_sound}
use Rattle.definition.proofs.Laws.Steps.Replies.{on_sound_lem}
use Rattle.definition.proofs.Laws.Twins.Blank.{blank, blank_entry, blank_station}
use Rattle.definition.proofs.Laws.Twins.MaskRegister.{mask_encode}
use Rattle.definition.proofs.Laws.Twins.ClaimHolds.{Twin, twin_register, twin_made, fresh_twin}

-- ---- a legal station without its texts and details is legal

each_blank : (top : ℕ) (c : List (Entry Alarm)) → Each (LegalAlarm top) c → Each (LegalAlarm top) (map blank_entry c)
unfolding utf8 rows_from
each_blank top [] h = tt
each_blank top (e ∷ c) h =
    let p = h.0 in
    (changed_legal e.content p p.severity (omega arith, refl) tt p.state p.updated_at p.cleared_at p.raises p.end, each_blank top c h.1)

blank_legal : (s : Station) → LegalStation s → LegalStation (blank_station s)
blank_legal s l =
    let k = l.chains in
    let a = length_map blank_entry s.active in
    let h = length_map blank_entry s.history in
    record {
      chains = record {
        limits = k.limits;
        active_fits = omega (arith, k.active_fits);
        history_fits = omega (arith, k.history_fits);
        audit_fits = k.audit_fits;
        filled = omega (arith, k.filled);
        once = λ i. omega (arith, k.once i, times_map blank i s.active, times_map blank i s.history);
        counters = k.counters;
      };
      fields = record { active = each_blank 3 s.active l.fields.active; history = each_blank 5 s.history l.fields.history; audit = l.fields.audit };
    }

-- ---- a panel looks at neither

flagged_blank : (v : ℕ) (l : List Alarm) → any (sets_flag v) (map blank l) ≡ any (sets_flag v) l
unfolding any
flagged_blank v [] = refl
flagged_blank v (a ∷ l) = rw (flagged_blank v l)

flags_blank : (l : List Alarm) → is_flagged (map blank l) ≡ is_flagged l
flags_blank l = fun_ext (λ v. flagged_blank v l)

panel_blank : (s : Station) (k : Bytes) (c : PanelCall) → panel_of (blank_station s) k c ≡ panel_of s k c
unfolding panel_of
panel_blank s k c = simp (contents_map, flags_blank, flagged_blank, length_map)

-- what is shown of a legal station's bytes
pub show_legal : (s : Station) (k : Bytes) (c : PanelCall) → LegalStation s → show_of (encode s) k c ≡ show_on s k c
unfolding show_of
show_legal s k c l =
    let h : sound (encode s) ≡ true = holds (sound (encode s)) (legal_sound s l) in
    rw (on_sound_lem, legal_reads s l)

-- the same of a sound register masked
show_masked : (b k : Bytes) (c : PanelCall) → T (sound b) → show_of (mask_register b) k c ≡ show_of b k c
show_masked b k c h =
    let l = sound_holds b h in
    let s = station b in
    rw (← l.bytes, mask_encode s l.legal.chains, show_legal (blank_station s) k c (blank_legal s l.legal), show_legal s k c l.legal, panel_blank s k c)

-- ---- so registers that are equal when masked show the same

same_shown : {b b' k : Bytes} {p p' : Shown} → T (sound b) → T (sound b') → mask_register b ≡ mask_register b' → p.call ≡ p'.call →
    PanelReturns b k p.call p.number p.length p.block → PanelReturns b' k p'.call p'.number p'.length p'.block → SameShown p p'
same_shown {b} {b'} {k} {p} {p'} h h' e w g g' =
    let m = show_masked b k p.call h in
    let m' = show_masked b' k p'.call h' in
    record { number = cc; length = cc; block = cc }

-- ---- and twin lists, place by place

twin_sound : (b b' : Bytes) → Twin b b' → T (sound b) × T (sound b')
twin_sound b b' t = (rw t.is_one (legal_sound t.one t.on.legal), rw t.is_two (legal_sound t.two t.on.legal'))

desks : (b b' k : Bytes) (l l' : List LampPlace) → Twin b b' → LampCourse b k l → LampCourse b' k l' → AtEach TwinLampPlaces l l' → AtEach AlikeLampPlaces l l'
desks b b' k [] [] t x y w = tt
desks b b' k [] (p ∷ l) t x y w = w
desks b b' k (p ∷ l) [] t x y w = w
desks b b' k (called m ∷ l) (called m' ∷ l') t x y w =
    let r = twin_made b b' m m' t x.0 y.0 x.1 y.1 w.0 in
    (r.0, desks m.register m'.register k l l' r.1 x.2 y.2 w.1)
desks b b' k (called m ∷ l) (shown p ∷ l') t x y w = absurd w.0
desks b b' k (shown p ∷ l) (called m ∷ l') t x y w = absurd w.0
desks b b' k (shown p ∷ l) (shown p' ∷ l') t x y w =
    let h = twin_sound b b' t in
    let r = same_shown h.0 h.1 (twin_register b b' t) w.0 x.0 y.0 in
    (r, desks b b' p.block l l' t x.1 (rw r.block y.1) w.1)

pub lit : Lamps
lit =
    record {
      registers = λ b b' k p p'. same_shown;
      lists = λ a h e b b' k l l' f f'. desks b b' k l l' (fresh_twin a h e b b' f f');
    }
