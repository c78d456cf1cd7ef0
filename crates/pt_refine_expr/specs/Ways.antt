-- A part is in the tree where all of its parts are.
use Rattle.std.specs.Prelude.{Option, Some, None, option_map}

abbrev pub both : {A B C : Type 0} → (A → B → C) → Option A → Option B → Option C
both f None b = None
both f (Some a) b = option_map (f a) b

abbrev pub three : {A B C D : Type 0} → (A → B → C → D) → Option A → Option B → Option C → Option D
three f None b c = None
three f (Some a) b c = both (f a) b c

abbrev pub four : {A B C D E : Type 0} → (A → B → C → D → E) → Option A → Option B → Option C → Option D → Option E
four f None b c d = None
four f (Some a) b c d = three (f a) b c d
