use Rattle.std.proofs.Common.{◌+◌, ◌++◌, map, ap, ◌∙◌, refl}
use Rattle.pt_heap.specs.declared.object.Object.TheVariants.{Str}
use Rattle.pt_builtin_objects.specs.Start.{start_objects}
use Rattle.pt_helper_objects.specs.Objects.{helper_objects}
use Rattle.pt_code_tables.specs.pt_machine_state.declared.machine.Machine.{Machine}
use Rattle.pt_code_tables.specs.pt_machine_state.declared.machine.Standing.TheVariants as standing
use Rattle.pt_code_loader.specs.Starting.{stands_in}
use Rattle.pt_code_loader.proofs.StartLemmas.{begun}
use Rattle.pt_code_loader.proofs.starting.start.Goals as goal

pub returns-clause-begins : goal.returns-clause-begins
returns-clause-begins c program code are same =
    let h = c.in_ok-here.ensures.activation in
    let next = c.in_ok-here.ensures.ok in
    let m : Machine = record {
      alloc = c.args.alloc;
      here = record c.in_ok-here.here { slots = c.in_ok-here-2.field-0 };
      standing = standing.AtPlace;
      frames = c.fresh.new.self;
      heap = c.in_ok-heap.heap;
      units = 0;
    } in
    begun program code c.args.loaded.now.tables c.args.loaded.now.texts m are same (record {
      here = record {
        frame = ap (λ a. a.frame.0) h ∙ c.in_ok-frames.ensures.frame_count;
        block = ap (λ a. a.block.0) h;
        hidden = ap (λ a. a.hidden) h;
        pc = ap (λ a. a.pc.0) h;
        line = ap (λ a. a.line) h;
        locals = ap (λ a. a.locals) h ∙ c.in_ok-names.ensures.values;
        cells = ap (λ a. a.cells) h ∙ c.in_ok-names.ensures.cells;
        names = ap (λ a. a.names) h;
        slots = c.in_ok-here-2.ensures;
      };
      standing = refl;
      globals = ap (λ f. f.globals) next ∙ c.in_ok-frames.ensures.globals;
      cells = ap (λ f. f.cells) next ∙ c.in_ok-frames.ensures.cells;
      frames = ap (λ f. f.frame_count) next ∙ ap (λ n. n + 1) c.in_ok-frames.ensures.frame_count;
      heap = c.in_ok-heap.ensures ∙ ap (λ ts. (start_objects ++ helper_objects (stands_in c.args.loaded.now.tables.facts)) ++ map Str ts) c.as_slice.ensures;
      units = refl;
    })

pub returns-clause-names : goal.returns-clause-names
returns-clause-names c = ap (λ a. a.names) c.in_ok-here.ensures.activation
