-- Laws of what is fed to the hash: an option, and an object's tag and strings, from the parts lent for them.
use mathlib.Core.Path.{◌≡◌, sym, ap, ◌∙◌}
use mathlib.Core.List.{[], ◌∷◌, ◌++◌, append_assoc, append-nil}
use mathlib.Core.Option.{Option}
use Prim.Native.Nat.{ℕ}
use Rattle.octets.specs.Bytes.{Bytes, ascii}
use Rattle.definition.specs.Value.{data_plane_queue}
use Rattle.definition.specs.Key.{string, optional, strings, decimal, parts, fed_object}
use Rattle.model.specs.declared.AffectedObject.{AffectedObject}
use Rattle.model.specs.declared.AffectedObject.TheVariants.{SessionStore}
use Rattle.model.specs.declared.Span.{Span}
use Rattle.model.specs.Meaning.{OptSpan}
use Rattle.model.specs.Meaning.{part, opt_part, object_value}
use Rattle.key.specs.Hashed.{tagged_one, tagged_two}

-- what is fed of the case that the code has met is fed of the option
pub option_fed : (call : Bytes) {x : Option Bytes} {p q : OptSpan} → p ≡ q → x ≡ opt_part call q → optional x ≡ optional (opt_part call p)
option_fed call e f = ap optional (f ∙ ap (opt_part call) (sym e))

-- what is fed of the variant that the code has met is fed of the object
pub object_fed : (call : Bytes) {u : Bytes} {o p : AffectedObject} → o ≡ p → u ≡ fed_object (object_value call p) → u ≡ fed_object (object_value call o)
object_fed call e f = f ∙ ap (λ (x : AffectedObject). fed_object (object_value call x)) (sym e)

-- ---- one string, or two

module _ (t : Bytes) {a x : Bytes} (e : x ≡ a) where
  pub single_fed : tagged_one t x ≡ string t ++ (strings (a ∷ []) ++ [])
  unfolding strings
  single_fed = ap (tagged_one t) e ∙ simp append-nil

  pub pair_fed : {b y : Bytes} → y ≡ b → tagged_two t x y ≡ string t ++ (strings (a ∷ b ∷ []) ++ [])
  unfolding strings
  pair_fed {b} f = (λ i. tagged_two t (e i) (f i)) ∙ simp (append_assoc, append-nil)

-- ---- kind 4's shard and kind 8's queue behind them

pub store_fed :
    (call : Bytes) {o : AffectedObject} {a : Span} {h : OptSpan} {x : Bytes} → o ≡ SessionStore a h → x ≡ part call a →
    tagged_one (ascii "SessionStore") x ++ optional (opt_part call h) ≡ fed_object (object_value call o)
unfolding strings fed_object parts
store_fed call {h = h} e f =
    object_fed call e (ap (λ (s : Bytes). tagged_one (ascii "SessionStore") s ++ optional (opt_part call h)) f ∙ simp (append_assoc, append-nil))

pub queue_fed : (a b : Bytes) (q : ℕ) → tagged_two (ascii "DataPlaneQueue") a b ++ string (decimal q) ≡ fed_object (data_plane_queue a b q)
unfolding strings fed_object parts
queue_fed a b q = simp (append_assoc, append-nil)

pub queue_lent : {a x b y : Bytes} (q : ℕ) → x ≡ a → y ≡ b → fed_object (data_plane_queue x y q) ≡ fed_object (data_plane_queue a b q)
queue_lent q e f = λ i. fed_object (data_plane_queue (e i) (f i) q)
