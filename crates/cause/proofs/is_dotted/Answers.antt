-- The bytes left are scanned with what is known of those passed.
use mathlib.Core.Path.{◌∙◌, sym, ap, ap₂}
use mathlib.Core.Bool.{Bool, true, false, ◌&&◌}
use Prim.Native.Nat.{◌+◌}
use lib.ListN.{drop}
use Rattle.cause.proofs.Dotted.{scan, scan_dotted, scan_dot, scan_plain, scan_space, scan_end}
use Rattle.octets.specs.PartLaws.{part_rest}
use Rattle.definition.specs.White.{space}
use Rattle.cause.proofs.Spaces.{some_space, no_space}
use Rattle.cause.proofs.is_dotted.Goals as goal
use Rattle.cause.proofs.is_dotted.Goals.{then-b-eq46+else-not-open, else-b-eq46+else-is_some}

pub loop-i-init : goal.loop-i-init
loop-i-init c = scan_dotted _

pub returns-then-not-open : goal.returns-then-not-open
returns-then-not-open c =
    sym (scan_dot c.args.s.now c.loop-i.i c.loop-i.«open» c.loop-i.dot c.loop-i-test.true c.if-b-eq46.true ∙ ap (λ (v : Bool). v && scan false true (drop (c.loop-i.i + 1) c.args.s.now)) c.if-not-open.true) ∙ c.loop-i.invariant

pub returns-then-is_some : goal.returns-then-is_some
returns-then-is_some c =
    let f = some_space _ _ c.space.ensures.tells (sym c.is_some.ensures ∙ c.if-is_some.true) in
    sym (scan_space _ c.loop-i.i c.loop-i.«open» c.loop-i.dot c.loop-i-test.true c.if-b-eq46.false (λ z. f (ap space (part_rest c.args.s.now c.loop-i.i) ∙ z))) ∙ c.loop-i.invariant

pub loop-i-preserved : goal.loop-i-preserved
loop-i-preserved c =
    let next = λ (o d : Bool). scan o d (drop (c.loop-i.i + 1) c.args.s.now) in
    elim c.if-b-eq46.branch [
      | then-b-eq46+else-not-open w ↦
          ap₂ next w.open-is w.dot-is
          ∙ sym (scan_dot c.args.s.now c.loop-i.i c.loop-i.«open» c.loop-i.dot c.loop-i-test.true w.if-b-eq46.true ∙ ap (λ (v : Bool). v && next false true) w.if-not-open.false)
          ∙ c.loop-i.invariant
      | else-b-eq46+else-is_some w ↦
          let f = no_space _ _ w.space.ensures.tells (sym w.is_some.ensures ∙ w.if-is_some.false) in
          ap₂ next w.open-is w.dot-is
          ∙ sym (scan_plain _ c.loop-i.i c.loop-i.«open» c.loop-i.dot c.loop-i-test.true w.if-b-eq46.false (ap space (sym (part_rest c.args.s.now c.loop-i.i)) ∙ f))
          ∙ c.loop-i.invariant
    ]

pub returns-then-open : goal.returns-then-open
returns-then-open c =
    sym (scan_end _ c.loop-i.i c.loop-i.«open» c.loop-i.dot c.loop-i-test.false ∙ ap (λ (v : Bool). v && c.loop-i.dot) c.if-open.true) ∙ c.loop-i.invariant

pub returns-else-open : goal.returns-else-open
returns-else-open c =
    c.if-open.false ∙ sym (scan_end _ c.loop-i.i c.loop-i.«open» c.loop-i.dot c.loop-i-test.false ∙ ap (λ (v : Bool). v && c.loop-i.dot) c.if-open.false) ∙ c.loop-i.invariant
