use Rattle.std.proofs.Common.{refl}
use Rattle.pt_sinks.specs.declared.writing.Out.TheVariants as stream
use Rattle.pt_sinks.specs.declared.writing.WriteErr.TheVariants as error
use Rattle.pt_sinks.proofs.WritingLemmas.{front_in_out, front_in_log}
use Rattle.pt_sinks.proofs.writing.put.Goals as goal

pub returns-in-Err-Failed-clause-err : goal.returns-in-Err-Failed-clause-err
returns-in-Err-Failed-clause-err g c =
    front_in_out _ _ _ _ c.args.which c.in-Out.is (error.Failed stream.Out) c.args.piece.now refl c.in-Err-Failed.ensures.err (λ a b t. t)

pub returns-in-Err-Memory-clause-err : goal.returns-in-Err-Memory-clause-err
returns-in-Err-Memory-clause-err g c =
    front_in_out _ _ _ _ c.args.which c.in-Out.is error.Memory c.args.piece.now tt c.in-Err-Memory.ensures.err (λ a b t. t)

pub returns-in-Err-Failed-write-clause-err : goal.returns-in-Err-Failed-write-clause-err
returns-in-Err-Failed-write-clause-err g c =
    front_in_log _ _ _ _ c.args.which c.in-Log.is (error.Failed stream.Log) c.args.piece.now refl (λ a b t. t) c.in-Err-Failed-write.ensures.err

pub returns-in-Err-Memory-write-clause-err : goal.returns-in-Err-Memory-write-clause-err
returns-in-Err-Memory-write-clause-err g c =
    front_in_log _ _ _ _ c.args.which c.in-Log.is error.Memory c.args.piece.now tt (λ a b t. t) c.in-Err-Memory-write.ensures.err
