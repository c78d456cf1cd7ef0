-- Steps over arguments and targets.
use Rattle.std.proofs.Common.{◌≡◌, ℕ, ◌+◌, suc, List, [], ◌∷◌, ◌++◌, length, map, false, Option, Some, None, refl, ap, arith, append_assoc}
use Rattle.std.specs.Prelude.{option_map, if◌then◌else◌}
use Rattle.pt_tree.specs.declared.expression.Target.{Target}
use Rattle.pt_tree.specs.Fold.{target_of, targets_of}
use Rattle.pt_tree.specs.Syntax as S
use Rattle.pt_tree.specs.Syntax.{Name, Tgt, Tgts}
use Rattle.sem_control.specs.control.Turn as T
use Rattle.sem_control.specs.control.Statements.{star_of, count}
use Rattle.sem_compile.specs.emitter.Ops.{are_plain}
use Rattle.pt_write_ops.specs.Roles.{is_plain_argument}
use Rattle.pt_write_ops.specs.Written.{is_starred}

pub are_plain_first : (r : T.Role) (rs : List T.Role) → are_plain (r ∷ rs) ≡ (if is_plain_argument r then are_plain rs else false)
are_plain_first T.positional rs = refl
are_plain_first (T.named x) rs = refl
are_plain_first T.spread rs = refl
are_plain_first T.spread_named rs = refl

pub names_alone_more : (xs : List Name) (x : Name) (o : Option (List Name))
    → option_map (λ ys. xs ++ ys) (option_map (λ ys. x ∷ ys) o) ≡ option_map (λ ys. (xs ++ x ∷ []) ++ ys) o
names_alone_more xs x None = refl
names_alone_more xs x (Some ys) = rw append_assoc

pub star_of_first : (t : Tgt) (ts : Tgts) → star_of (S.more_targets t ts) ≡ (if is_starred t then Some 0 else option_map suc (star_of ts))
star_of_first (S.single p) ts = refl
star_of_first (S.several l f us) ts = refl
star_of_first (S.starred l t) ts = refl

pub shifted : (i : ℕ) (o : Option ℕ) → option_map (λ k. i + k) (option_map suc o) ≡ option_map (λ k. i + 1 + k) o
shifted i None = refl
shifted i (Some k) = let at : i + suc k ≡ i + 1 + k = omega arith in rw at

pub count_all : (ts : List Target) → count (targets_of (map target_of ts)) ≡ length ts
count_all [] = refl
count_all (t ∷ ts) = ap (λ n. suc n) (count_all ts)

pub ruleset steps = (are_plain_first, names_alone_more, star_of_first, shifted, count_all)
