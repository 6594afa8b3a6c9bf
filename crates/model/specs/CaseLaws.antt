-- The variant that the code has met: its parts lie in the call, too.
use Rattle.std.specs.Prelude.{◌≡◌, ℕ}
use Rattle.std.proofs.Common.{subst}
use Rattle.octets.specs.Bytes.{Bytes}
use Rattle.model.specs.Meaning.{OptSpan}
use Rattle.model.specs.declared.AffectedObject.{AffectedObject}
use Rattle.model.specs.Meaning.{opt_within, object_within}

module _ (call : Bytes) where
  pub option_case : (n : ℕ) {s t : OptSpan} → s ≡ t → opt_within call n s → opt_within call n t
  option_case n e w = subst (λ (x : OptSpan). opt_within call n x) e w

  pub object_case : {o p : AffectedObject} → o ≡ p → object_within call o → object_within call p
  object_case e w = subst (λ (x : AffectedObject). object_within call x) e w
