-- "Twins": lists of calls that may differ in the texts and details of their raises, and in nothing else.
use Rattle.std.specs.Prelude.{ℕ, ◌≤◌, ◌≡◌, List, [], ◌∷◌, ◌++◌, cond, T, length}
use Rattle.std.proofs.Math.Option.{Option, none, some}
use Rattle.octets.specs.Bytes.{Bytes, Octets}
use Rattle.definition.specs.Limits.{text_limit, details_limit, code_point_limit}
use Rattle.definition.specs.Utf8.{code_points, at_most}
use Rattle.definition.specs.Key.{string, optional}
use Rattle.definition.specs.Value.{RaiseHeadValue, KeyValue, RaiseValue}
use Rattle.definition.specs.Reader.{got, Reader, ◌>>=◌, give, refuse}
use Rattle.definition.specs.Parse.{raise_head, key, named, raise_body}

-- the fields of a raise before its text: those of `raise_fields`, up to the fault 29
unfoldable pub before_text : Reader (RaiseHeadValue × KeyValue)
before_text = do
  h ← raise_head
  k ← key
  cond (named k.places.region) (give (h, k)) (refuse 29)

-- "with each field read without a fault": those before the text from the bytes `before`, text and details from `texts`. `after` is what is
-- left over. 33 is such a fault, so texts that differ meet both limits (`TextLimits` below)
pub record ReadRaise (before texts after : Bytes) : Type 0 where
  pub early : RaiseHeadValue × KeyValue
  pub raise : RaiseValue
  pub before_read : before_text (before ++ (texts ++ after)) ≡ got early (texts ++ after)
  pub texts_read : raise_body early.0 early.1 (texts ++ after) ≡ got raise after

-- "both are raises with each field read without a fault, and equal outside the fields text and details"
pub record TwinRaises (b b' : Bytes) : Type 0 where
  pub before : Bytes
  pub texts : Bytes
  pub texts' : Bytes
  pub after : Bytes
  pub is : b ≡ 1 ∷ (before ++ (texts ++ after))
  pub is' : b' ≡ 1 ∷ (before ++ (texts' ++ after))
  pub read : ReadRaise before texts after
  pub read' : ReadRaise before texts' after

-- "the calls are too [equal], or both are raises .."
pub data TwinCall (b b' : Bytes) : Type 0 where
  equal : b ≡ b' → TwinCall b b'
  raises : TwinRaises b b' → TwinCall b b'

-- equally many, and R at each place
abbrev pub AtEach : {A B : Type 0} → (A → B → Type 0) → List A → List B → Type 0
AtEach R [] [] = Unit {0}
AtEach R [] (q ∷ m) = ⊥
AtEach R (p ∷ l) [] = ⊥
AtEach R (p ∷ l) (q ∷ m) = R p q × AtEach R l m

-- "At each place the answer lengths are equal, and the calls are too, or .."
abbrev pub TwinPlaces : Bytes × ℕ → Bytes × ℕ → Type 0
TwinPlaces p q = (p.1 ≡ q.1) × TwinCall p.0 q.0

-- "Twins have equally many calls"
abbrev pub TwinLists : List (Bytes × ℕ) → List (Bytes × ℕ) → Type 0
TwinLists = AtEach TwinPlaces

-- ---- M-104: "Secrecy of the texts is claimed from now on for twin lists whose differing texts meet both limits"

-- "at most 120 code points and still at most 256 bytes"
pub record MeetsLimits (t : Bytes) : Type 0 where
  pub points : T (at_most code_point_limit (code_points t))
  pub bytes : length t ≤ text_limit

-- text and details as a call has them
abbrev pub texts_of : Bytes → Option Bytes → Bytes
texts_of t d = string t ++ optional d

-- details within their limit
abbrev pub DetailsFit : Option Bytes → Type 0
DetailsFit none = Unit {0}
DetailsFit (some d) = length d ≤ details_limit

pub record TextLimits : Type 0 where
  -- texts of twin raises meet both limits; what slices hold is bytes
  pub met : {before texts after : Bytes} (r : ReadRaise before texts after) → Octets (texts ++ after) → MeetsLimits r.raise.text
  -- and with texts that meet them, raises that are equal before and behind text and details are twins
  pub enough :
      {before texts after : Bytes} → ReadRaise before texts after → (t t' : Bytes) (d d' : Option Bytes) → MeetsLimits t → MeetsLimits t' → DetailsFit d → DetailsFit d' →
      TwinRaises (1 ∷ (before ++ (texts_of t d ++ after))) (1 ∷ (before ++ (texts_of t' d' ++ after)))
