-- A run has a row for each byte that is no tail; all else is ill-formed.
use Rattle.std.proofs.Common.{◌≡◌, ℕ, Bool, sym, ap, ◌∙◌}
use Rattle.std.proofs.Common.{rules}
use Rattle.std.specs.Prelude.{Option, Some, None, is_some, IfSome}
use Rattle.std.proofs.Math.Option as maybe
use Rattle.octets.specs.Bytes.{Bytes}
use Rattle.definition.specs.Utf8.{code_points, utf8}
use Rattle.utf8.specs.Meaning.{counted, leads_in}
use Rattle.utf8.specs.LeadLaws.{run_counted, no_run}
use Rattle.utf8.proofs.check_run.Goals as goal

told : (s : Bytes) (o : Option ℕ) (run : Bool) → is_some o ≡ run → run ≡ utf8 s → IfSome o (λ n. n ≡ leads_in s) → counted o ≡ code_points s
told s None run e u l = no_run s (sym u ∙ sym e)
told s (Some n) run e u l = ap maybe.some l ∙ run_counted s (sym u ∙ sym e)

pub returns : goal.returns
returns c =
    let l : IfSome c.then.result (λ n. n ≡ leads_in c.args.s.now) = search rules in
    told _ _ _ c.then.ensures.variant c.is_run.ensures l
