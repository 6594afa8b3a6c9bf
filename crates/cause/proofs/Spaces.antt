-- White space by its first bytes, by computed tests.
use Rattle.std.specs.Prelude.{◌≡◌, ℕ, true, false, cond, ◌||◌, [], ◌∷◌, ◌≤◌, ◌<◌, eqb, Option, Some, None, SomeIff, IfSome, is_some}
use Rattle.std.proofs.Common.{sym, arith, eq-eqb, eqb-true, eqb→eq, ne_eqb}
use Rattle.octets.specs.Bytes.{begins}
use Rattle.octets.specs.BoolLaws.{holds, true_holds, same_tests}
use Rattle.octets.specs.RangeLaws.{on_range, eq_on}
use Rattle.definition.specs.White.{space, front_of}

pub eqb_swap : (a b : ℕ) → eqb a b ≡ eqb b a
eqb_swap a b =
    same_tests (eqb a b) (eqb b a) (λ t. true_holds _ (eq-eqb b a (sym (eqb-true a b (holds _ t))))) (λ t. true_holds _ (eq-eqb a b (sym (eqb-true b a (holds _ t)))))

-- what is said of the number n, where it is the width v of a character, or 0
pub some_at : {v n : ℕ} → 0 < v → v ≡ n → SomeIff (Some v) (0 < n) n
some_at h e = (omega (arith, h, e), e)

pub none_at : {n : ℕ} → 0 ≡ n → SomeIff None (0 < n) n
none_at e = λ h. omega (arith, h, e)

-- no white space after E2 80 behind U+2029, but U+202F
pub none_e280 : (c : ℕ) → 170 ≤ c → c < 256 → (c ≡ 0xAF → ⊥) → space (0xE2 ∷ 0x80 ∷ c ∷ []) ≡ 0
unfolding space front_of begins
none_e280 c l h n =
    sym (rw (ne_eqb c 0xAF n) at (eq_on (λ (x : ℕ). cond (eqb x 0xAF) 0 (space (0xE2 ∷ 0x80 ∷ x ∷ []))) 0 86 170 tt c l h))

-- no white space behind U+000D that begins with another byte than these
pub none_behind : (a b c : ℕ) → 14 ≤ a → a < 256 → (a ≡ 0x20 → ⊥) → (a ≡ 0xC2 → ⊥) → (a ≡ 0xE1 → ⊥) → (a ≡ 0xE2 → ⊥) → (a ≡ 0xE3 → ⊥) → 0 ≡ space (a ∷ b ∷ c ∷ [])
unfolding space front_of begins
none_behind a b c l h n p q r s =
    rw (ne_eqb a 0x20 n, ne_eqb a 0xC2 p, ne_eqb a 0xE1 q, ne_eqb a 0xE2 r, ne_eqb a 0xE3 s) at
    (eq_on (λ (x : ℕ). cond (eqb x 0x20 || (eqb x 0xC2 || (eqb x 0xE1 || (eqb x 0xE2 || eqb x 0xE3)))) 0 (space (x ∷ b ∷ c ∷ []))) 0 242 14 tt a l h)

-- below C2 the first byte decides
pub by_first : (a b c : ℕ) → a < 0xC2 → space (a ∷ 0 ∷ 0 ∷ []) ≡ space (a ∷ b ∷ c ∷ [])
unfolding space front_of begins
by_first a b c h =
    eqb→eq _ _ (on_range (λ (x : ℕ). eqb (space (x ∷ 0 ∷ 0 ∷ [])) (space (x ∷ b ∷ c ∷ []))) 0xC2 0 tt a (omega arith) (omega (arith, h)))

pub within_at : (r : Option ℕ) (n m : ℕ) → n ≤ m → SomeIff r (0 < n) n → IfSome r (λ k. k ≤ m)
within_at None n m h e = tt
within_at (Some k) n m h e = omega (arith, e)

-- the white space that was found, or that there is none
pub found_space : {r : Option ℕ} {n k : ℕ} → SomeIff r (0 < n) n → r ≡ Some k → (0 < k) × (k ≡ n)
found_space {r} {n} {k} e q = let h = rw q at e in (omega (arith, h), h.1)

pub found_none : {r : Option ℕ} {n : ℕ} → SomeIff r (0 < n) n → r ≡ None → n ≡ 0
found_none {r} {n} e q = let h = rw q at e in omega (arith, h)

pub some_space : (r : Option ℕ) (n : ℕ) → SomeIff r (0 < n) n → is_some r ≡ true → n ≡ 0 → ⊥
some_space None n e t z = absurd (true_holds false t)
some_space (Some k) n e t z = omega (arith, e, z)

pub no_space : (r : Option ℕ) (n : ℕ) → SomeIff r (0 < n) n → is_some r ≡ false → n ≡ 0
no_space None n e t = omega (arith, e)
no_space (Some k) n e t = absurd (true_holds false (sym t))
