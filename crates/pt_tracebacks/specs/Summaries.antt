-- What a traceback tells of the exceptions of a chain, the most recent one last (Library Reference, "traceback", `TracebackException`, `FrameSummary`).
use Rattle.std.specs.Prelude.{ℕ, List, [], ◌∷◌, Option, Some, None, map, reverse}
use Rattle.pt_base.specs.declared.numbers.ObjId.{ObjId}
use Rattle.pt_heap.specs.declared.value.Value.{Value}
use Rattle.pt_heap.specs.declared.value.Value.TheVariants.{Obj}
use Rattle.pt_heap.specs.declared.object.Error.{Error as ErrorObject}
use Rattle.pt_heap.specs.declared.object.Object.{Object}
use Rattle.pt_heap.specs.declared.object.TraceEntry.{TraceEntry}
use Rattle.pt_content.specs.declared.content.Content.{Content}
use Rattle.pt_content.specs.declared.content.Content.TheVariants as content
use Rattle.pt_content.specs.declared.content.NewObject.TheVariants as new
use Rattle.pt_content.specs.Classes.{name_at}
use Rattle.pt_reprs.specs.Texts.{error_content}
use Rattle.pt_tracebacks.specs.declared.summary.FrameSummary.{FrameSummary}
use Rattle.pt_tracebacks.specs.declared.summary.ExceptionSummary.{ExceptionSummary}
use Rattle.pt_tracebacks.specs.Chain.{Link, chain}

-- the text that is given, none where a method of a script would be asked or no text is there
abbrev pub given_text : Content → List ℕ
given_text (content.New (new.Text t)) = t
given_text c = []

-- what `str` gives of an exception
abbrev pub error_text : List Object → ErrorObject → List ℕ
error_text h x = given_text (error_content h x)

-- over the names of blocks
module _ (name : ℕ → List ℕ) where
  -- where an exception came through a frame: the line on which this stood, and the name of its block
  abbrev pub frame_summary : TraceEntry → FrameSummary
  frame_summary e = record { line = e.line; block = name e.block.0 }

  module _ (h : List Object) where
    -- an exception came to the most recent call first
    abbrev pub summary : Link → ExceptionSummary
    summary l = record { stack = map frame_summary (reverse l.0.trace); class = name_at h l.0.class; text = error_text h l.0; role = l.1 }

    abbrev pub summaries : Value → List ExceptionSummary
    summaries (Obj id) = map summary (reverse (chain h id))
    summaries v = []
