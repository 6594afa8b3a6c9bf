-- M-113: the reach of one wrong severity, on whole lists. Before the raise both lists keep one register; the raise leaves two that are near, and
-- every later call leaves them so. For the theorem in `station`.
use Rattle.std.specs.Prelude.{ℕ, zero, suc, ◌≡◌, refl, List, [], ◌∷◌, ◌++◌, map, Bool, false, ◌&&◌, T, eqb, length, drop}
use Rattle.std.proofs.Common.{sym, ap, ◌∙◌, subst, arith, length-append, ne_eqb}
use Rattle.octets.specs.Bytes.{Bytes}
use Rattle.definition.specs.Station.{fresh}
use Rattle.definition.specs.Sound.{sound}
use Rattle.definition.specs.Lists.{step_of}
use Rattle.definition.specs.Numbers.{Among}
use Rattle.definition.specs.Twins.{AtEach}
use Rattle.definition.specs.Claim.{Fresh, Made, Trace, operation, asked, AllOctets}
use Rattle.definition.specs.Balance.{is_answered}
use Rattle.definition.specs.Reach.{SeverityApart, MadeApart, is_policy, NoPolicy, behind, BoundedAfter, requested_operations, Requested, Reach}
use Rattle.definition.proofs.Laws.Steps.SoundStation.{legal_sound}
use Rattle.definition.proofs.Laws.Twins.ClaimHolds.{opened_fresh, made_sound}
use Rattle.definition.proofs.Laws.Twins.NearStations.{Wrong, wrong}
use Rattle.definition.proofs.Laws.Twins.NearRegisters.{NearRegisters, near_made, same_made, apart_made}

-- ---- lists

-- the same calls on each of two registers that are near
near_run : (w : Wrong) (b b' : Bytes) (l l' : List Made) → NearRegisters w b b' → Trace b l → Trace b' l' → AllOctets l → AllOctets l' → NoPolicy l → NoPolicy l' →
    map asked l ≡ map asked l' → AtEach (BoundedAfter w.severity w.severity') l l'
near_run w b b' [] [] r t t' o o' n n' z = tt
near_run w b b' [] (m ∷ l) r t t' o o' n n' z = omega (arith, ap length z)
near_run w b b' (m ∷ l) [] r t t' o o' n n' z = omega (arith, ap length z)
near_run w b b' (m ∷ l) (m' ∷ l') r t t' o o' n n' z =
    let a : asked m' ≡ asked m = cc in
    let q = near_made w b b' m m' r t.0 t'.0 o.0 o'.0 n.0 n'.0 a in
    (q.1, near_run w _ _ l l' q.0 t.1 t'.1 o.1 o'.1 n.1 n'.1 cc)

module _ (v v' : ℕ) (call call' : Bytes) (n : ℕ) (later : List (Bytes × ℕ)) (d : SeverityApart v v' call call') where
  -- from one register on: before the raise both lists keep one register
  one_run : (earlier : List (Bytes × ℕ)) (b : Bytes) (l l' : List Made) → T (sound b) → Trace b l → Trace b l' → AllOctets l → AllOctets l' →
      NoPolicy (drop (suc (length earlier)) l) → NoPolicy (drop (suc (length earlier)) l') → map asked l ≡ earlier ++ ((call, n) ∷ later) → map asked l' ≡ earlier ++ ((call', n) ∷ later) → AtEach (BoundedAfter v v') l l'
  one_run k b [] l' h t t' o o' x x' z z' = absurd (omega (arith, ap length z, length-append k ((call, n) ∷ later)))
  one_run k b (m ∷ l) [] h t t' o o' x x' z z' = absurd (omega (arith, ap length z', length-append k ((call', n) ∷ later)))
  one_run [] b (m ∷ l) (m' ∷ l') h t t' o o' x x' z z' =
      let a : asked m ≡ (call, n) = cc in
      let a' : asked m' ≡ (call', n) = cc in
      let y : map asked l ≡ map asked l' = cc in
      let e : SeverityApart v v' m.call m'.call = rw (ap (λ (p : Bytes × ℕ). p.0) a, ap (λ (p : Bytes × ℕ). p.0) a') d in
      let q = apart_made v v' b m m' h t.0 t'.0 o.0 o'.0 e (ap (λ (p : Bytes × ℕ). p.1) a ∙ sym (ap (λ (p : Bytes × ℕ). p.1) a')) in
      (q.1.1, near_run (wrong v v' q.0) _ _ l l' q.1.0 t.1 t'.1 o.1 o'.1 x x' y)
  one_run (p ∷ k) b (m ∷ l) (m' ∷ l') h t t' o o' x x' z z' =
      let a : asked m ≡ asked m' = cc in
      let r : m'.register ≡ m.register = t'.0.register_is ∙ sym (t.0.register_is ∙ ap (λ (q : Bytes × ℕ). (step_of b q.0 q.1).register) a) in
      let y : map asked l ≡ k ++ ((call, n) ∷ later) = cc in
      let y' : map asked l' ≡ k ++ ((call', n) ∷ later) = cc in
      let q = same_made (wrong v v' 0) b m m' h t.0 t'.0 o.0 o'.0 a in
      (q.1, one_run k m.register l l' (made_sound b m h o.0 t.0) t.1 (rw r at t'.1) o.1 o'.1 x x' y y')

-- ---- the reach

-- from registers that are one
from_one : (v v' : ℕ) (b b' : Bytes) (l l' : List Made) → T (sound b) → b' ≡ b → (d : MadeApart v v' b b' l l') → NoPolicy (behind d l) → NoPolicy (behind d l') →
    AtEach (BoundedAfter v v') l l'
from_one v v' b b' l l' h e d n n' =
    let a = d.apart in
    one_run v v' a.call a.call' a.answer_length a.later a.apart a.earlier b l l' h d.made (rw e at d.made') d.octets d.octets' n n' a.is a.is'

-- such are those that were opened with the same limits
from_fresh : (a h e v v' : ℕ) (b b' : Bytes) (l l' : List Made) → Fresh a h e b → Fresh a h e b' → (d : MadeApart v v' b b' l l') → NoPolicy (behind d l) → NoPolicy (behind d l') →
    AtEach (BoundedAfter v v') l l'
from_fresh a h e v v' b b' l l' f f' =
    let p = opened_fresh a h e b f in
    from_one v v' b b' l l' (rw p.1 (legal_sound (fresh a h e) p.0)) ((opened_fresh a h e b' f').1 ∙ sym p.1)

-- operations 1 to 4, 7 to 12 and 14 are no policy calls
requested_aside : (l : List Made) → Requested l → NoPolicy l
requested_aside [] h = tt
requested_aside (m ∷ l) h = (aside (operation m) (is_answered m) h.0, requested_aside l h.2)
  where
    aside : (op : ℕ) (y : Bool) → Among op requested_operations → is_policy op && y ≡ false
    aside op y k = rw (is_not 5 (λ h. h), is_not 6 (λ h. h), is_not 13 (λ h. h)) refl
      where
        is_not : (i : ℕ) → (Among i requested_operations → ⊥) → eqb op i ≡ false
        is_not i n = ne_eqb op i (λ e. n (subst (λ (j : ℕ). Among j requested_operations) e k))

drop_aside : (i : ℕ) (l : List Made) → NoPolicy l → NoPolicy (drop i l)
drop_aside zero l h = h
drop_aside (suc i) [] h = tt
drop_aside (suc i) (m ∷ l) h = drop_aside i l h.1

pub reached : Reach
reached =
    record {
      fresh = from_fresh;
      requested = λ a h e v v' b b' l l' f f' d n n'.
          let i = suc (length d.apart.earlier) in
          from_fresh a h e v v' b b' l l' f f' d (drop_aside i l (requested_aside l n)) (drop_aside i l' (requested_aside l' n'));
      onward = λ v v' b l l' h. from_one v v' b b l l' h refl;
    }
