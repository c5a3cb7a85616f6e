use Rattle.std.proofs.lemmas.Result.{err_from_is_err_and}
use Rattle.asl_rules.specs.values.Strings.{string_text}
use Rattle.asl_run.proofs.Pieces.{refused_piece}
use Rattle.asl_run.proofs.output.put_string.Goals as goal

pub returns-in_err-put_piece-clause-writes : goal.returns-in_err-put_piece-clause-writes
returns-in_err-put_piece-clause-writes g c =
    let p = err_from_is_err_and c.from_residual.result c.from_residual.ensures.1 in
    rw (p.1, p.2)
    (refused_piece c.in_err-put_piece.field-0.0 (string_text c.args.text.now) c.loop-rest.rest.now c.split_at-in-loop-rest.result.0.now c.piece_length.result c.args.text_open.now c.loop-rest.text_open c.put_piece.new.text_open
    (g.K.Sink.written c.args.sink.now) (g.K.Sink.written c.loop-rest.sink) (g.K.Sink.written c.put_piece.new.sink) c.loop-rest.invariant.wrote c.split_at-in-loop-rest.ensures.front c.piece_length.ensures.splits c.in_err-put_piece.ensures.writes)
