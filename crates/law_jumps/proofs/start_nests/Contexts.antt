-- The surroundings that a piece's context is.
use Rattle.std.proofs.Common.{◌≡◌, ℕ, suc, ◌+◌, true, List, [], ◌∷◌, Option, Some, None, refl, ap, subst, arith}
use Rattle.pt_ranges.specs.declared.handlers.Handler.{Handler}
use Rattle.pt_code.specs.declared.Start.{Start}
use Rattle.pt_assembler.specs.PieceAt.{Exits, Context, Passes, LeadsOut, over, in_loop, target, row_of}
use Rattle.sem_code.specs.comp.Surroundings as around
use Rattle.sem_code.specs.comp.Surroundings.{Surroundings, Reached, Within_loop, TakesAll}
use Rattle.sem_compile.specs.stm_pieces.Laws.{loop_of, surroundings}

module _ (table : List Start) where
  abbrev pub in_context : Context → Surroundings
  in_context x = surroundings table x

  pub reached : (pc : ℕ) (rows : List Handler) → Passes rows pc → Reached pc rows
  reached pc [] h = tt
  reached pc (r ∷ rows) (e, h) = (e, reached pc rows h)

  within : (r : Handler) (o : Option Exits) → LeadsOut r o → Within_loop r (loop_of o)
  within r None h = tt
  within r (Some e) (b, c) = (c, b)

  pub takes_all : (from to pc : ℕ) (x : Context) → LeadsOut (row_of from to pc x.depth true) x.around → TakesAll (row_of from to pc x.depth true) (in_context x)
  takes_all from to pc x h = record { depth = refl; always = refl; around = within (row_of from to pc x.depth true) x.around h }

  one_deeper : (d : ℕ) → d + 1 ≡ suc d
  one_deeper d = omega arith

  abbrev at_depth : Context → ℕ → Surroundings
  at_depth x d = record { rows = x.rows; depth = d; loop = loop_of x.around; starts = table }

  pub deeper_is : (x : Context) → in_context (over 1 x) ≡ around.deeper (in_context x)
  deeper_is x = ap (at_depth x) (one_deeper x.depth)

  pub takes_deeper : (from to pc : ℕ) (x : Context) → LeadsOut (row_of from to pc (x.depth + 1) true) x.around
      → TakesAll (row_of from to pc (x.depth + 1) true) (around.deeper (in_context x))
  takes_deeper from to pc x h = subst (λ (s : Surroundings). TakesAll (row_of from to pc (x.depth + 1) true) s) (deeper_is x)
      (takes_all from to pc (over 1 x) h)

  abbrev for_at : (next end : ℕ) → Context → ℕ → Surroundings
  for_at next end x d = record {
    rows = x.rows;
    depth = d;
    loop = Some (record { next = next; next_depth = d; end = end; end_depth = x.depth });
    starts = table;
  }

  pub for_is : (next end : ℕ) (x : Context) → in_context (in_loop (target end x.depth) next (over 1 x)) ≡ around.in_for next end (in_context x)
  for_is next end x = ap (for_at next end x) (one_deeper x.depth)
