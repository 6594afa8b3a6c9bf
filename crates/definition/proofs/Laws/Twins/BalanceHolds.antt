-- M-111: the balance holds. Each call of a list moves the active length by what its answer's head says, and a refused one does not; so do all of
-- them together. For the theorem in `station`.
use Rattle.std.specs.Prelude.{ℕ, ◌+◌, ◌^◌, ◌≤◌, ◌<◌, ◌≡◌, List, [], ◌∷◌, Bool, true, false, cond, T, eqb, length}
use Rattle.std.proofs.Math.Path.{refl}
use Rattle.std.proofs.Common.{sym, ap, ◌∙◌, subst, arith, eqb-true}
use Rattle.octets.specs.Bytes.{Bytes, Octets, splice, digits, number_at}
use Rattle.octets.specs.NumberLaws.{number_digits}
use Rattle.definition.specs.Station.{Outcome, fresh}
use Rattle.definition.specs.Answer.{Answer, head_of, answer_bytes}
use Rattle.definition.specs.Numbers.{sound_refusals, Among}
use Rattle.definition.specs.Sound.{station, sound}
use Rattle.definition.specs.Lists.{reply_of}
use Rattle.definition.specs.Claim.{Made, MadeOn, AsReplied, operation}
use Rattle.definition.specs.Balance.{active_length, is_answered, raised, cleared, expired, Place, called, carried, sum, Course, last_left, Balance}
use Rattle.definition.proofs.Laws.Steps.Answers.{said, kind_of, expires_op}
use Rattle.definition.proofs.Laws.Steps.SoundStation.{sound_holds, legal_sound}
use Rattle.definition.proofs.Laws.Steps.SoundChains.{active_length_lem, active_encoded}
use Rattle.definition.proofs.Laws.Twins.KeptLegal.{Kept, answered, refused, sound_kept}
use Rattle.definition.proofs.Laws.Twins.ClaimHolds.{opened_fresh, made_reply, made_sound}

-- ---- what is read of an answer's bytes is what its head says

-- the number in the head of an answer, at the front of its slice
number_head : (o : Bytes) (x : Answer) → (head_of x).number < 256 ^ 8 → number_at 8 (splice o 0 (answer_bytes x)) 8 ≡ (head_of x).number
unfolding answer_bytes splice digits
number_head o x h = number_digits 8 (head_of x).number [] h

-- ---- one call

-- a call that was answered counts what the answer says
module _ (m : Made) (x : Answer) (z : m.number ≡ 0) (w : m.answer ≡ splice m.former 0 (answer_bytes x)) where
  raised_is : raised m ≡ (said x).came
  unfolding answer_bytes splice
  raised_is = rw (z, w) refl

  cleared_is : cleared m ≡ cond (eqb (head_of x).code 3) 1 0
  unfolding answer_bytes splice
  cleared_is = rw (z, w) refl

  expired_is : eqb (operation m) 7 ≡ eqb (said x).kind 7 → (said x).went < 256 ^ 8 → expired m ≡ cond (eqb (said x).kind 7) (head_of x).number 0
  expired_is q = rw (z, w, q) (go (eqb (said x).kind 7))
    where
      go : (seven : Bool) → cond (eqb (head_of x).code 3) 1 0 + cond seven (head_of x).number 0 < 256 ^ 8 → cond seven (number_at 8 (splice m.former 0 (answer_bytes x)) 8) 0 ≡ cond seven (head_of x).number 0
      go true h = number_head m.former x (omega (arith, h))
      go false h = refl

at_most_one : (b : Bool) → cond b 1 0 ≤ 1
at_most_one true = omega arith
at_most_one false = omega arith

-- a refused call counts nothing
quiet : (m : Made) → is_answered m ≡ false → (raised m ≡ 0) × (cleared m ≡ 0) × (expired m ≡ 0)
quiet m e = (rw e refl, rw e refl, rw e refl)

-- a refusal's number is not 0
refusal : (n : ℕ) → Among n sound_refusals → eqb n 0 ≡ false
refusal n h = go (eqb n 0) refl
  where
    go : (z : Bool) → eqb n 0 ≡ z → z ≡ false
    go true e = absurd (subst (λ (i : ℕ). Among i sound_refusals) (eqb-true n 0 e) h)
    go false e = refl

module _ (b : Bytes) (m : Made) (h : T (sound b)) where
  -- the active length moves by what was answered
  kept_even : {o : Outcome Answer} → Kept (kind_of (operation m)) (station b) o → AsReplied m (reply_of b o) →
      active_length b + raised m ≡ active_length m.register + cleared m + expired m
  kept_even (answered {x} {t} l k e) g =
      let r = ap active_length g.register_is ∙ active_encoded t l in
      let p = (sound_holds b h).legal.chains in
      let c = raised_is m x g.number_is g.answer_is in
      let d = cleared_is m x g.number_is g.answer_is in
      let q = expired_is m x g.number_is g.answer_is (sym (ap (λ (i : ℕ). eqb i 7) k ∙ expires_op (operation m))) (omega (arith, e, at_most_one (eqb (head_of x).code 1), p.active_fits, p.limits.0.1)) in
      omega (arith, active_length_lem b h, r, c, d, q, e)
  kept_even (refused {n} a) g =
      let z = quiet m (ap (λ (i : ℕ). eqb i 0) g.number_is ∙ refusal n a) in
      omega (arith, z.0, z.1, z.2, ap active_length g.register_is)

  -- and the register stays sound
  call_even : Octets m.call → MadeOn b m → T (sound m.register) × (active_length b + raised m ≡ active_length m.register + cleared m + expired m)
  call_even o g =
      let l = sound_holds b h in
      (made_sound b m h o g, kept_even (sound_kept b m.call (length m.former) o h) (made_reply b (station b) m l.legal (sym l.bytes) g))

-- ---- lists

onward : (b : Bytes) (l : List Place) → T (sound b) → Course b l → active_length b + sum raised l ≡ active_length (last_left b l) + sum cleared l + sum expired l
onward b [] h c = omega arith
onward b (called m ∷ l) h c =
    let e = call_even b m h c.0 c.1 in
    omega (arith, e.1, onward m.register l e.0 c.2)
onward b (carried b' ∷ l) h c = omega (arith, c.0.1, onward b' l c.0.0 c.1)

pub balanced : Balance
unfolding fresh
balanced =
    record {
      fresh = λ a h e b l f c.
          let p = opened_fresh a h e b f in
          let z : active_length b ≡ 0 = ap active_length p.1 ∙ active_encoded (fresh a h e) p.0 in
          omega (arith, z, onward b l (subst (λ (c : Bytes). T (sound c)) (sym p.1) (legal_sound (fresh a h e) p.0)) c);
      onward = onward;
    }
