-- The check's parts, put together: for the functions of `register_check`, which look at one after the other.
use Rattle.std.specs.Prelude.{◌≡◌, refl, Bool, true, false, not, ℕ, zero, suc, ◌+◌, ◌*◌, ◌≤◌, ◌<◌, T, length}
use Rattle.std.proofs.Common.{sym, subst, arith}
use Rattle.octets.specs.Bytes.{Bytes, at32}
use Rattle.definition.specs.Book.{capacity, read_book}
use Rattle.definition.specs.Clauses.LegalBook.{Limit, chain, last_of}
use Rattle.definition.specs.Clauses.Check.{Leads, Numbers, Chained, Decides, Lengths, Apart, Way}

-- ---- a test's answer

pub confirms : (r : Bool) {P : Type 0} → Decides r P → r ≡ true → P
confirms true d e = d
confirms false d e = absurd (subst (λ (t : Bool). T (not t)) e tt)

pub refutes : (r : Bool) {P : Type 0} → Decides r P → r ≡ false → P → ⊥
refutes true d e = absurd (subst (λ (t : Bool). T t) e tt)
refutes false d e = d

-- an answer to an equivalent question
decides_map : (r : Bool) {P Q : Type 0} → (P → Q) → (Q → P) → Decides r P → Decides r Q
decides_map true f g d = f d
decides_map false f g d = λ q. d (g q)

-- ---- the header's numbers

pub capacity_read : (b : Bytes) → capacity (read_book b) ≡ at32 b 0 + at32 b 4 + at32 b 8
unfolding read_book
capacity_read b = refl

pub numbers_of_lem : (b : Bytes) → Limit (at32 b 0) × Limit (at32 b 4) × Limit (at32 b 8) → length b ≡ 1536 * (at32 b 0 + at32 b 4 + at32 b 8 + 1) → Lengths b (at32 b 0) (at32 b 4) (at32 b 8) → Numbers b
numbers_of_lem b l z k =
    record { limits = l; size = omega (arith, capacity_read b); lengths = k }

pub size_of : (b : Bytes) → Numbers b → (length b ≡ 1536 * (at32 b 0 + at32 b 4 + at32 b 8 + 1)) × (at32 b 0 + at32 b 4 + at32 b 8 ≤ 196605)
size_of b n = omega (arith, n.size, n.limits, capacity_read b)

-- ---- the chains' ways and their last records

apart_to : (f : ℕ → ℕ) → Apart (f 0) (f 1) (f 2) (f 3) → (x y : ℕ) → x < 4 → y < 4 → (x ≡ y → ⊥) → 1 ≤ f x → f x ≡ f y → ⊥
apart_to f a zero zero hx hy n h e = n refl
apart_to f a zero (suc zero) hx hy n h e = a.pq h e
apart_to f a zero (suc (suc zero)) hx hy n h e = a.pr h e
apart_to f a zero (suc (suc (suc zero))) hx hy n h e = a.pt h e
apart_to f a zero (suc (suc (suc (suc y)))) hx hy n h e = omega arith
apart_to f a (suc zero) zero hx hy n h e = a.pq (omega arith) (sym e)
apart_to f a (suc zero) (suc zero) hx hy n h e = n refl
apart_to f a (suc zero) (suc (suc zero)) hx hy n h e = a.qr h e
apart_to f a (suc zero) (suc (suc (suc zero))) hx hy n h e = a.qt h e
apart_to f a (suc zero) (suc (suc (suc (suc y)))) hx hy n h e = omega arith
apart_to f a (suc (suc zero)) zero hx hy n h e = a.pr (omega arith) (sym e)
apart_to f a (suc (suc zero)) (suc zero) hx hy n h e = a.qr (omega arith) (sym e)
apart_to f a (suc (suc zero)) (suc (suc zero)) hx hy n h e = n refl
apart_to f a (suc (suc zero)) (suc (suc (suc zero))) hx hy n h e = a.rt h e
apart_to f a (suc (suc zero)) (suc (suc (suc (suc y)))) hx hy n h e = omega arith
apart_to f a (suc (suc (suc zero))) zero hx hy n h e = a.pt (omega arith) (sym e)
apart_to f a (suc (suc (suc zero))) (suc zero) hx hy n h e = a.qt (omega arith) (sym e)
apart_to f a (suc (suc (suc zero))) (suc (suc zero)) hx hy n h e = a.rt (omega arith) (sym e)
apart_to f a (suc (suc (suc zero))) (suc (suc (suc zero))) hx hy n h e = n refl
apart_to f a (suc (suc (suc zero))) (suc (suc (suc (suc y)))) hx hy n h e = omega arith
apart_to f a (suc (suc (suc (suc x)))) y hx hy n h e = omega arith

apart_from : (f : ℕ → ℕ) → ((x y : ℕ) → x < 4 → y < 4 → (x ≡ y → ⊥) → 1 ≤ f x → f x ≡ f y → ⊥) → Apart (f 0) (f 1) (f 2) (f 3)
apart_from f g =
    record {
      pq = g 0 1 (omega arith) (omega arith) (λ q. omega arith);
      pr = g 0 2 (omega arith) (omega arith) (λ q. omega arith);
      pt = g 0 3 (omega arith) (omega arith) (λ q. omega arith);
      qr = g 1 2 (omega arith) (omega arith) (λ q. omega arith);
      qt = g 1 3 (omega arith) (omega arith) (λ q. omega arith);
      rt = g 2 3 (omega arith) (omega arith) (λ q. omega arith);
    }

pub chained_decides :
    (b : Bytes) (m p q r t : ℕ) → Way b m 0 p → Way b m 1 q → Way b m 2 r → Way b m 3 t →
    (y : Bool) → Decides y (Apart p q r t) → Decides y (Chained b m)
unfolding read_book
chained_decides b m p q r t wp wq wr wt y d =
    decides_map y
    (λ a. record {
      leads = leads;
      apart = apart_to last (subst (λ (k : ℕ). Apart k (last 1) (last 2) (last 3)) wp.1 (subst (λ (k : ℕ). Apart p k (last 2) (last 3)) wq.1
          (subst (λ (k : ℕ). Apart p q k (last 3)) wr.1 (subst (λ (k : ℕ). Apart p q r k) wt.1 a))));
    })
    (λ c. subst (λ (k : ℕ). Apart p q r k) (sym wt.1) (subst (λ (k : ℕ). Apart p q k (last 3)) (sym wr.1) (subst (λ (k : ℕ). Apart p k (last 2) (last 3)) (sym wq.1)
    (subst (λ (k : ℕ). Apart k (last 1) (last 2) (last 3)) (sym wp.1) (apart_from last c.apart)))))
    d
  where
    last : ℕ → ℕ
    last x = last_of (chain x (read_book b))

    leads : (x : ℕ) → x < 4 → Leads b m (at32 b (16 + 8 * x)) (at32 b (12 + 8 * x))
    leads zero h = wp.0
    leads (suc zero) h = wq.0
    leads (suc (suc zero)) h = wr.0
    leads (suc (suc (suc zero))) h = wt.0
    leads (suc (suc (suc (suc x)))) h = absurd (omega arith)
