use Rattle.std.proofs.Common.{List, ℕ, sym, ap, subst, ◌∙◌}
use Rattle.std.specs.Prelude.{MatchResult}
use Rattle.asl_io.specs.Told.{Takes, TakesPrefix}
use Rattle.asl_rules.specs.report.WordList.{Word}
use Rattle.asl_words.proofs.Writing.{long_line}
use Rattle.asl_words.proofs.line.put_word.Goals as goal

pub returns-else-is_short-clause-text : goal.returns-else-is_short-clause-text
returns-else-is_short-clause-text g c =
    subst (λ (line : List ℕ). MatchResult c.put-else-is_short.result
    (λ it. Takes (g.K.Sink.written c.args.sink.now) (g.K.Sink.written c.put-else-is_short.new.sink) line)
    (λ e. TakesPrefix (g.K.Sink.written c.args.sink.now) (g.K.Sink.written c.put-else-is_short.new.sink) line))
    (c.long_text.ensures ∙ long_line c.args.word _ (sym c.is_short.ensures ∙ c.if-is_short.false) (ap (λ (w : Word). w.bits) (sym c.word.view_is))) c.put-else-is_short.ensures.text
