-- "Each field is read from a part of the call's bytes": a reader takes the bytes that are left, and gives a value and the bytes
-- left after it, or the number of a refusal.
use Rattle.std.specs.Prelude.{ℕ, cond, ◌&&◌, leb, eqb, length, take, drop}
use Rattle.std.proofs.Math.Option.{Option, none, some}
use Rattle.octets.specs.Bytes.{Bytes, value}
use Rattle.definition.specs.Limits.{cause_limit}
use Rattle.definition.specs.Utf8.{utf8}
use Rattle.definition.specs.Cause.{cause_of}

pub data Out (A : Type 0) : Type 0 where
  got : A → Bytes → Out A
  bad : ℕ → Out A

abbrev pub Reader : Type 0 → Type 0
Reader A = Bytes → Out A

module _ {A B : Type 0} where
  abbrev pub next : Out A → (A → Reader B) → Out B
  next (got a s) k = k a s
  next (bad n) k = bad n

  -- one reader and then another; "the first fault wins". This is what `do` stands for
  unfoldable pub ◌>>=◌ : Reader A → (A → Reader B) → Reader B
  ◌>>=◌ p k s = next (p s) k

module _ {A : Type 0} where
  abbrev pub give : A → Reader A
  give a s = got a s

  abbrev pub refuse : ℕ → Reader A
  refuse n s = bad n

module _ {A B : Type 0} where
  -- what is read, as a value of another kind
  unfoldable pub into : (A → B) → Reader A → Reader B
  into c r = do
    a ← r
    give (c a)

-- n bytes; 24: "ends early"
unfoldable pub bytes : ℕ → Reader Bytes
bytes n s = cond (leb n (length s)) (got (take n s) (drop n s)) (bad 24)

-- a number of n bytes: "unsigned and big-endian"
unfoldable pub number : ℕ → Reader ℕ
number n = do
  b ← bytes n
  give (value b)

-- a byte from lo to hi; 25: "a byte outside its values"
unfoldable pub choice : ℕ → ℕ → Reader ℕ
choice lo hi = do
  b ← number 1
  cond (leb lo b && leb b hi) (give b) (refuse 25)

-- "a u32 length and its bytes"; 26: "length above its limit, before its bytes are read"
unfoldable pub blob : ℕ → Reader Bytes
blob limit = do
  n ← number 4
  cond (leb n limit) (bytes n) (refuse 26)

-- a string; 27: "string not UTF-8"
unfoldable pub text : ℕ → Reader Bytes
text limit = do
  t ← blob limit
  cond (utf8 t) (give t) (refuse 27)

-- "byte 0, or byte 1 and the string"
unfoldable pub optional : {A : Type 0} → Reader A → Reader (Option A)
optional r = do
  p ← choice 0 1
  cond (eqb p 0) (give none) (do
    t ← r
    give (some t))

abbrev pub cause_is : Option Bytes → Reader Bytes
cause_is none = refuse 28
cause_is (some t) = give t

-- a cause, in its stored form; 28: "not a cause"
unfoldable pub cause_text : Reader Bytes
cause_text = do
  t ← text cause_limit
  cause_is (cause_of t)
