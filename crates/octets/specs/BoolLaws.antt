-- Tests, and tests joined by and, or by or.
use Rattle.std.specs.Prelude.{◌≡◌, refl, Bool, true, false, ◌&&◌, ◌||◌, T}
use Rattle.std.proofs.Common.{sym, subst}

pub and_false : (x : Bool) → x && false ≡ false
and_false true = refl
and_false false = refl

pub and_true : (x : Bool) → x && true ≡ x
and_true true = refl
and_true false = refl

pub and_assoc : (x y z : Bool) → (x && y) && z ≡ x && (y && z)
and_assoc true y z = refl
and_assoc false y z = refl

pub and_comm : (x y : Bool) → x && y ≡ y && x
and_comm true y = sym (and_true y)
and_comm false y = sym (and_false y)

pub both : (a b : Bool) → T a → T b → T (a && b)
both true b t u = u
both false b t u = t

pub both_left : (a b : Bool) → T (a && b) → T a
both_left true b t = tt
both_left false b t = t

pub both_right : (a b : Bool) → T (a && b) → T b
both_right true b t = t
both_right false b t = absurd t

pub either_right : (a b : Bool) → T b → T (a || b)
either_right true b t = tt
either_right false b t = t

pub either_on : (a b c : Bool) → (T b → T c) → T (a || b) → T (a || c)
either_on true b c f t = tt
either_on false b c f t = f t

pub holds : (x : Bool) → T x → x ≡ true
holds true t = refl
holds false t = absurd t

pub fails : (x : Bool) → (T x → ⊥) → x ≡ false
fails true t = absurd (t tt)
fails false t = refl

pub true_holds : (x : Bool) → x ≡ true → T x
true_holds x e = subst (λ (b : Bool). T b) (sym e) tt

-- two tests that follow from each other are equal
pub same_tests : (x y : Bool) → (T x → T y) → (T y → T x) → x ≡ y
same_tests true true f g = refl
same_tests true false f g = absurd (f tt)
same_tests false true f g = absurd (g tt)
same_tests false false f g = refl
