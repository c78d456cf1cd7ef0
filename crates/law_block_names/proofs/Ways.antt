-- What holds of a part where it is in the tree, if it does of its own parts.
use Rattle.std.proofs.Common.{Bool, true, false, Option, Some, None}
use Rattle.std.specs.Prelude.{option_map, if◌then◌else◌}
use Rattle.pt_refine_expr.specs.Ways.{both, three, four}

pub data Holds {A : Type 0} (P : A → Type 0) : Option A → Type 0 where
  absent : Holds P None
  there : (x : A) → P x → Holds P (Some x)

-- a part of which nothing is asked
abbrev pub Any : {A : Type 0} → A → Type 0
Any x = Unit {0}

pub any : {A : Type 0} (o : Option A) → Holds Any o
any None = absent
any (Some x) = there x tt

pub made : {A B : Type 0} {P : A → Type 0} {Q : B → Type 0} {o : Option A} (g : A → B) → ((x : A) → P x → Q (g x)) → Holds P o → Holds Q (option_map g o)
made g f absent = absent
made g f (there x p) = there (g x) (f x p)

pub if-allowed : {A : Type 0} {P : A → Type 0} {o : Option A} (b : Bool) → Holds P o → Holds P (if b then o else None)
if-allowed true h = h
if-allowed false h = absent

pub of-both : {A B C : Type 0} {P : A → Type 0} {Q : B → Type 0} {R : C → Type 0} {o : Option A} {p : Option B} (g : A → B → C)
    → ((x : A) (y : B) → P x → Q y → R (g x y)) → Holds P o → Holds Q p → Holds R (both g o p)
of-both g f absent b = absent
of-both g f (there x a) absent = absent
of-both g f (there x a) (there y b) = there (g x y) (f x y a b)

pub of-three : {A B C D : Type 0} {P : A → Type 0} {Q : B → Type 0} {R : C → Type 0} {S : D → Type 0} {o : Option A} {p : Option B} {q : Option C} (g : A
    → B → C → D)
    → ((x : A) (y : B) (z : C) → P x → Q y → R z → S (g x y z)) → Holds P o → Holds Q p → Holds R q → Holds S (three g o p q)
of-three g f absent b c = absent
of-three g f (there x a) b c = of-both (g x) (λ y z. f x y z a) b c

pub of-four : {A B C D E : Type 0} {P : A → Type 0} {Q : B → Type 0} {R : C → Type 0} {S : D → Type 0} {T : E
    → Type 0} {o : Option A} {p : Option B} {q : Option C} {r : Option D}
    (g : A → B → C → D → E) → ((x : A) (y : B) (z : C) (u : D) → P x → Q y → R z → S u → T (g x y z u)) → Holds P o → Holds Q p → Holds R q → Holds S r
    → Holds T (four g o p q r)
of-four g f absent b c d = absent
of-four g f (there x a) b c d = of-three (g x) (λ y z u. f x y z u a) b c d
