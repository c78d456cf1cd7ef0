-- What the tables of a script's names tell.
use Rattle.std.specs.Prelude.{◌≡◌, ℕ, ◌==◌, filter}
use Rattle.pt_scopes.specs.NameSets.{is_in}
use Rattle.pt_scopes.specs.Resolved.{scope_told}
use Rattle.pt_scopes.specs.Scope.{home_of, scope_of}
use Rattle.pt_tree.specs.Syntax.{Name}
use Rattle.pt_symbols.specs.sem_names.BlockNames.{has_class, makes_class, read_free}
use Rattle.pt_symbols.specs.sem_names.Naming.{is_captured}
use Rattle.pt_symbols.specs.sem_names.Regions.{numbered}
use Rattle.pt_symbols.specs.sem_names.Script.{Naming, functions_of}
use Rattle.pt_symbols.specs.RegionSets.{has_region}
use Rattle.pt_symbols.specs.Tables.{mentions_at, mentions_in, names_in, next_in}
use Rattle.pt_block_names.specs.declared.tables.Tables.{Tables}

pub record Tells (g : Naming) (t : Tables) : Type 0 where
  pub scopes : (b : ℕ) (x : Name) → scope_told t.scopes b x ≡ scope_of g.places b x
  pub nexts : (h n : ℕ) → next_in t.nexts h n ≡ numbered g.places.regions g.nexts h n
  pub frees : (h : ℕ) → names_in t.frees h ≡ read_free g.places h
  pub captured : (q : ℕ) (x : Name) → is_in t.captured q x ≡ is_captured g.places q x
  pub classes : (h : ℕ) → has_region t.classes h ≡ has_class g.places.regions (functions_of g) h
  pub class_makers : (h : ℕ) → has_region t.class_makers h ≡ makes_class g.places (functions_of g) h
  pub mentions : (h : ℕ) → mentions_at g.places.mentions (mentions_in t.mentions h) ≡ filter (λ m. home_of g.places.regions m.region == h) g.places.mentions
