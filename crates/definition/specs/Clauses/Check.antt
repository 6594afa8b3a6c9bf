-- What a check of the register looks at instead of "sound": the header's numbers, ways by links that end, and last records that differ.
-- Laws/Book/CheckSound and CheckComplete: it comes to the same. Words of the contracts of `register_check`.
use Rattle.std.specs.Prelude.{◌≡◌, ℕ, zero, suc, ◌+◌, ◌*◌, ◌≤◌, ◌<◌, Bool, true, false, length, take, drop}
use Rattle.octets.specs.Bytes.{Bytes, at32, zeros}
use Rattle.definition.specs.Book.{capacity, read_book, walk}
use Rattle.definition.specs.Clauses.LegalBook.{Zeroed, Limit, chain, last_of}

-- a test's answer to a question
abbrev pub Decides : Bool → Type 0 → Type 0
Decides true P = P
Decides false P = P → ⊥

-- n records of 1 to m from i on, by their links, and then 0
abbrev pub Leads : Bytes → ℕ → ℕ → ℕ → Type 0
Leads b m zero i = i ≡ 0
Leads b m (suc n) i = (1 ≤ i) × (i ≤ m) × Leads b m n (at32 b (1536 * i))

-- lengths that the limits a, h and e allow, and that make up their sum
pub record Lengths (b : Bytes) (a h e : ℕ) : Type 0 where
  pub within : (at32 b 16 ≤ a) × (at32 b 24 ≤ h) × (at32 b 32 ≤ e)
  pub filled : at32 b 16 + (at32 b 24 + (at32 b 32 + at32 b 40)) ≡ a + h + e

-- the header's numbers
pub record Numbers (b : Bytes) : Type 0 where
  pub limits : Limit (at32 b 0) × Limit (at32 b 4) × Limit (at32 b 8)
  pub size : length b ≡ 1536 * suc (capacity (read_book b))
  pub lengths : Lengths b (at32 b 0) (at32 b 4) (at32 b 8)

-- the chains' ways, and that their last records differ
pub record Chained (b : Bytes) (m : ℕ) : Type 0 where
  pub leads : (x : ℕ) → x < 4 → Leads b m (at32 b (16 + 8 * x)) (at32 b (12 + 8 * x))
  pub apart : (x y : ℕ) → x < 4 → y < 4 → (x ≡ y → ⊥) → 1 ≤ last_of (chain x (read_book b)) → last_of (chain x (read_book b)) ≡ last_of (chain y (read_book b)) → ⊥

-- four numbers, of which those that are not 0 differ
pub record Apart (p q r t : ℕ) : Type 0 where
  pub pq : 1 ≤ p → p ≡ q → ⊥
  pub pr : 1 ≤ p → p ≡ r → ⊥
  pub pt : 1 ≤ p → p ≡ t → ⊥
  pub qr : 1 ≤ q → q ≡ r → ⊥
  pub qt : 1 ≤ q → q ≡ t → ⊥
  pub rt : 1 ≤ r → r ≡ t → ⊥

-- chain x's way ends in l
abbrev pub Way : Bytes → ℕ → ℕ → ℕ → Type 0
Way b m x l = Leads b m (at32 b (16 + 8 * x)) (at32 b (12 + 8 * x)) × (l ≡ last_of (walk b (at32 b (16 + 8 * x)) (at32 b (12 + 8 * x))))

pub record PassesCheck (b : Bytes) : Type 0 where
  pub numbers : Numbers b
  pub chained : Chained b (capacity (read_book b))
  pub tail : take 1476 (drop 60 b) ≡ zeros 1476
  pub zeroed : Zeroed (read_book b).free
