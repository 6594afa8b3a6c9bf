-- `pass`: the sweep goes on past a record that is taken, or left as it is.
use mathlib.Core.Path.{sym, ◌∙◌}
use native.Mathlib.Omega.{arith}
use borrow.Author.Rules.{rules}
use Rattle.register.specs.WalkLaws.{on_fits}
use Rattle.expiry.specs.SweepLaws.{sweep_taken, sweep_kept}
use Rattle.expiry.proofs.pass.Goals as goal

pub is_taken-requires : goal.is_taken-requires
is_taken-requires c =
    on_fits _ c.requires.0.whole 0 _ (omega arith) c.requires.1.on

pub returns-then-not-is_taken : goal.returns-then-not-is_taken
returns-then-not-is_taken c b₀ n k r w h e = sweep_kept _ _ b₀ _ n _ _ k w h (sym c.is_taken.ensures ∙ c.if-not-is_taken.true) r e

pub returns : goal.returns
returns c b₀ n k r w h e =
    sweep_taken _ _ b₀ _ n _ _ k w h (search rules) (sym c.is_taken.ensures ∙ c.if-not-is_taken.false) _ _ c.take_at-newest.ensures r _ c.kept_by.ensures e
