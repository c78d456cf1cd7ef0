-- Which characters a class has.
use Rattle.std.specs.Prelude.{ℕ, Bool, not}
use Rattle.std.specs.BTreeSet.{contains}
use Rattle.std.specs.Ordering.{nat_cmp}
use Rattle.pt_strs.specs.declared.class.Class.{Class}
use Rattle.pt_strs.specs.declared.class.Class.TheVariants.{Blank, Visible, Of}
use Rattle.pt_strs.specs.Blank.{is_blank}

abbrev pub has : Class → ℕ → Bool
has Blank c = is_blank c
has Visible c = not (is_blank c)
has (Of set) c = contains nat_cmp set c
