-- Numbers that stand for methods.
use Rattle.std.proofs.Common.{◌≡◌, ◌-◌, ◌≤◌, ℕ, false, Bool, None, Option, slice_get, nat_lt, sym, subst, arith, if◌then◌else◌}
use Rattle.std.proofs.lemmas.Bool.Decides.{nat_tests}
use Rattle.pt_content.specs.declared.method_name.MethodName.{MethodName}
use Rattle.pt_methods.specs.declared.names.TheConstants.{METHODS}
use Rattle.pt_methods.specs.Names.{of_method_number}

pub by_number : (n : ℕ) (found : Option MethodName) → 28 ≤ n → found ≡ slice_get METHODS (n - 28) → found ≡ of_method_number n
by_number n found l e =
    let b : nat_lt n 28 ≡ false = grind (arith, nat_tests, l) in
    subst (λ (c : Bool). found ≡ (if c then None else slice_get METHODS (n - 28))) (sym b) e
