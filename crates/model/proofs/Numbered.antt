-- What a method's number is read as: nothing else is allowed.
use Prim.Native.Nat.{ℕ}
use mathlib.Core.Path.{◌≡◌, refl, sym, ap, ◌∙◌}
use native.Mathlib.Omega.{arith}
use Rattle.std.specs.Prelude.{Result, Ok, Err}
use Rattle.model.specs.Latency.{method_number}
use Rattle.model.specs.Numbered.{Numbered}
use Rattle.model.specs.declared.Method.{Method}
use Rattle.model.specs.declared.Method.TheVariants.{SB, XLWX, IBN}
use Rattle.model.specs.declared.UnknownMethod.{UnknownMethod}

-- Two methods of one number are the same.
pub number_once : (m n : Method) → method_number m ≡ method_number n → m ≡ n
number_once SB SB e = refl
number_once SB XLWX e = absurd (omega (arith, e))
number_once SB IBN e = absurd (omega (arith, e))
number_once XLWX SB e = absurd (omega (arith, e))
number_once XLWX XLWX e = refl
number_once XLWX IBN e = absurd (omega (arith, e))
number_once IBN SB e = absurd (omega (arith, e))
number_once IBN XLWX e = absurd (omega (arith, e))
number_once IBN IBN e = refl

none_other : (number : ℕ) (m : Method) (e : UnknownMethod) → Numbered number (Ok m) → Numbered number (Err e) → ⊥
none_other number SB e a (_, b, c, d) = b a
none_other number XLWX e a (_, b, c, d) = c a
none_other number IBN e a (_, b, c, d) = d a

-- Two results allowed for one number coincide.
pub numbered_once : (number : ℕ) (q r : Result Method UnknownMethod) → Numbered number q → Numbered number r → q ≡ r
numbered_once number (Ok m) (Ok n) a b = ap Ok (number_once m n (sym a ∙ b))
numbered_once number (Ok m) (Err e) a b = absurd (none_other number m e a b)
numbered_once number (Err e) (Ok m) a b = absurd (none_other number m e b a)
numbered_once number (Err d) (Err e) a b = ap Err (λ i. record { 0 = (a.0 ∙ sym b.0) i })
