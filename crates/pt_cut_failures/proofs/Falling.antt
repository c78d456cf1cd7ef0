-- The edges of a vertex that depend on fewer slots come later.
use Rattle.std.proofs.Common.{◌≡◌, ℕ, ◌+◌, ◌-◌, zero, suc, Bool, true, false, List, [], ◌∷◌, length, Option, Some, None, refl, sym, ap, ◌∙◌, arith}
use Rattle.std.specs.Prelude.{nat_le, nat_lt, cond, Contains, slice_get}
use Rattle.pt_ranges.specs.declared.handlers.Handler.{Handler}
use Rattle.pt_places.specs.declared.places.Place.{Place}
use Rattle.pt_sizes.specs.Flow.{entry}
use Rattle.pt_sizes.specs.Waiting.{levels_of}
use Rattle.pt_step_graph.proofs.Numbers.{only_one}
use Rattle.sem_fits.specs.fits.Block.{Links, captured, effect}
use Rattle.sem_fits.specs.fits.Steps.{held_by, target_of}
use Rattle.pt_verify_depths.specs.Sizes.{left}
use Rattle.pt_block_kinds.specs.Leads.{Lead, lead, inside, own_leads, landing_leads}
use Rattle.pt_block_kinds.proofs.Lists.{in_inside}
use Rattle.pt_block_kinds.proofs.Falling.{depends, Falls, falls_inside, falls_append, alone, own_falls}
use Rattle.pt_cut_failures.specs.declared.chains.Link.{Link}
use Rattle.pt_cut_failures.specs.declared.chains.Chains.{Chains}
use Rattle.pt_cut_failures.specs.Chains.{starts_of}
use Rattle.pt_cut_failures.specs.Leads.{chain_leads, place_leads, leads_from, link_leads, vertex_leads}
use Rattle.pt_cut_failures.proofs.Coming.{in_chains}

-- those that depend on as many slots
alike_fall : (k : ℕ) (ls : List Lead) → ((l : Lead) → Contains ls l → depends l ≡ k) → Falls ls
alike_fall k [] f = tt
alike_fall k (l ∷ ls) f = (
  λ m c. let a = f l (zero, omega arith, refl) in let b = f m (let (j, lt, e) = c in (suc j, omega (arith, lt), e)) in omega (arith, a, b),
  alike_fall k ls (λ m c. f m (let (j, lt, e) = c in (suc j, omega (arith, lt), e))),
)

chains_depend : (base : ℕ) (c : Chains) (pc below : ℕ) (l : Lead) → Contains (chain_leads base c pc below) l → depends l ≡ below
chains_depend base c pc below l d = let (k, (lt, e)) = in_chains base (levels_of c.waiting.levels) (starts_of c.starts) pc below (length c.waiting.levels.items) l d in
    sym (ap depends e) ∙ (let z : below + 0 ≡ below = omega arith in z)

module _ (c : Chains) (count base : ℕ) where
  place_falls : (links : Links) (p : Place) (m pc : ℕ) → Falls (place_leads count base c (effect links p.instr) m pc p.next.0 (target_of p.instr))
  place_falls links p m pc =
      let own = own_falls p.instr (captured links p.instr) m pc p.next.0 (target_of p.instr) in
      let own_list = own_leads (effect links p.instr) m pc p.next.0 (target_of p.instr) in
      let below = left (effect links p.instr) m in
      falls_append (inside count own_list) (chain_leads base c pc below) (falls_inside count own_list own.0)
      (alike_fall below (chain_leads base c pc below) (chains_depend base c pc below))
      (λ x y d e. let a = own.1 x (in_inside count own_list x d).1 in let b = chains_depend base c pc below y e in omega (arith, a, b))

  from_falls : (links : Links) (limit pc : ℕ) (o : Option Place) (s : Option ℕ) → Falls (leads_from count base c links limit pc o s)
  from_falls links limit pc None None = tt
  from_falls links limit pc None (Some m) = tt
  from_falls links limit pc (Some p) None = tt
  from_falls links limit pc (Some p) (Some m) = by (nat_le pc limit)
    where
      by : (t : Bool) → Falls (cond t (place_leads count base c (effect links p.instr) m pc p.next.0 (target_of p.instr)) [])
      by true = place_falls links p m pc
      by false = tt

  link_falls : (number : ℕ) (o : Option Link) → Falls (link_leads count base number o)
  link_falls number None = tt
  link_falls number (Some link) = by link.last
    where
      by : (t : Bool) → Falls (lead (count + link.row) link.depth [] false ∷ cond t [] (lead (base + (number + 1)) link.depth [] false ∷ []))
      by true = alone (lead (count + link.row) link.depth [] false)
      by false = (λ m d. let e = only_one (lead (base + (number + 1)) link.depth [] false) m d in let f = sym (ap depends e) in omega (arith, f), alone (lead (base + (number + 1)) link.depth [] false))

pub vertex_falls : (links : Links) (rows : List Handler) (place : Option Place) (p : ℕ) (T : List (Option ℕ)) (c : Chains) (v : ℕ) → Falls (vertex_leads links rows place p T c v)
vertex_falls links rows place p T c v = by (nat_lt v (length T)) (nat_lt v (length T + length rows))
  where
    row_falls : (o : Option Handler) → Falls (landing_leads (length T) o)
    row_falls None = tt
    row_falls (Some row) = let l = lead row.target.0 row.depth (held_by row ∷ []) false in falls_inside (length T) (l ∷ []) (alone l)

    by : (s t : Bool) → Falls (cond s (leads_from (length T) (length T + length rows) c links p v place (entry T v))
        (cond t (landing_leads (length T) (slice_get rows (v - length T))) (link_leads (length T) (length T + length rows) (v - (length T + length rows))
        (slice_get c.links.items (v - (length T + length rows))))))
    by true t = from_falls c (length T) (length T + length rows) links p v place (entry T v)
    by false true = row_falls (slice_get rows (v - length T))
    by false false = link_falls c (length T) (length T + length rows) (v - (length T + length rows)) (slice_get c.links.items (v - (length T + length rows)))
