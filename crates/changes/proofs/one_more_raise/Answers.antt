-- `one_more_raise`: below the most there is room for one more.
use Rattle.std.specs.Prelude.{◌≡◌, refl, ℕ, ◌+◌, ◌^◌, ◌<◌, Option, Some, None, SomeIff}
use Rattle.std.specs.Option.{unwrap_or}
use Rattle.std.proofs.Common.{inl, inr, ◌∙◌, arith}
use Rattle.std.proofs.lemmas.Bool.{cases_lt, cond_below, cond_above}
use Rattle.definition.specs.Steps.{one_more_raise}
use Rattle.changes.proofs.one_more_raise.Goals as goal

held : (n : ℕ) (sum : Option ℕ) → SomeIff sum (n + 1 < 2 ^ 32) (n + 1) → unwrap_or sum 4294967295 ≡ one_more_raise n
unfolding one_more_raise
held n None e =
    elim (cases_lt n 4294967295) [
      | inl h ↦ absurd (e (omega (arith, h)))
      | inr h ↦ cond_above n 4294967295 (n + 1) 4294967295 4294967295 h refl
    ]
held n (Some k) e = e.1 ∙ cond_below n 4294967295 (n + 1) 4294967295 (omega (arith, e.0))

pub returns : goal.returns
returns c = c.unwrap_or.ensures ∙ held c.args.raises c.checked_add.result c.checked_add.ensures
