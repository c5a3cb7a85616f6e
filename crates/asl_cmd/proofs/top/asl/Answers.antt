use Rattle.std.proofs.Common.{◌≡◌, ◌∙◌, inr, sym, map, string_bytes}
use Rattle.asl_line.specs.Line.{line_of}
use Rattle.asl_line.specs.private.Model.{meaning_of}
use Rattle.asl_answer.specs.private.Model.{came_in}
use Rattle.asl_cmd.proofs.ReadingLemmas.{IfSome-at}
use Rattle.asl_io.specs.Told.{Takes}
use Rattle.asl_answer.specs.Statuses.{code_of}
use Rattle.asl_cmd.proofs.Reports.{of_report, written_prefix, prefix_written}
use Rattle.asl_grammar.proofs.OneProgram.{some_reader}
use Rattle.asl_answer.proofs.Grown.{some_suits}
use Rattle.asl_answer.proofs.Statuses.{not_read, not_write, usage_alone}
use Rattle.asl_cmd.proofs.top.asl.Goals as goal

pub returns-in-Ok-write_answer-clause-whole : goal.returns-in-Ok-write_answer-clause-whole
returns-in-Ok-write_answer-clause-whole g c = λ t u read is held told a b n.
    of_report (λ x. Takes (g.K.Sink.written c.args.out.now) (g.K.Sink.written c.write_answer.new.out) x.text × (code_of c.in-Ok-write_answer.status ≡ x.status)) t read (meaning_of c.in-Ok.line) (line_of (map string_bytes c.args.words.now)) (came_in c.in-Ok-read_line.reading) held
    c.in-Ok.ensures.meaning (IfSome-at _ _ held told c.in-Ok-read_line.ensures.reading) (c.in-Ok-write_answer.ensures.answer t u read is)

pub returns-in-Ok-write_answer-clause-report : goal.returns-in-Ok-write_answer-clause-report
returns-in-Ok-write_answer-clause-report g c = λ t u read is held told a b.
    inr (of_report (λ x. Takes (g.K.Sink.written c.args.out.now) (g.K.Sink.written c.write_answer.new.out) x.text × (code_of c.in-Ok-write_answer.status ≡ x.status)) t read (meaning_of c.in-Ok.line) (line_of (map string_bytes c.args.words.now)) (came_in c.in-Ok-read_line.reading) held
    c.in-Ok.ensures.meaning (IfSome-at _ _ held told c.in-Ok-read_line.ensures.reading) (c.in-Ok-write_answer.ensures.answer t u read is))

pub returns-in-Ok-write_answer-clause-nothing : goal.returns-in-Ok-write_answer-clause-nothing
returns-in-Ok-write_answer-clause-nothing g c is = absurd (not_read some_suits.0 some_reader.0 _ _ _ (c.in-Ok-write_answer.ensures.answer some_suits.0 some_suits.1 some_reader.0 some_reader.1).1 is)

pub returns-in-Ok-write_answer-clause-usage : goal.returns-in-Ok-write_answer-clause-usage
returns-in-Ok-write_answer-clause-usage g c is = sym c.in-Ok.ensures.meaning ∙ usage_alone some_suits.0 some_reader.0 _ _ _ (c.in-Ok-write_answer.ensures.answer some_suits.0 some_suits.1 some_reader.0 some_reader.1).1 is

pub returns-in-Ok-write_answer-clause-read_fault : goal.returns-in-Ok-write_answer-clause-read_fault
returns-in-Ok-write_answer-clause-read_fault g c is = absurd (not_read some_suits.0 some_reader.0 _ _ _ (c.in-Ok-write_answer.ensures.answer some_suits.0 some_suits.1 some_reader.0 some_reader.1).1 is)

pub returns-in-Ok-write_answer-clause-write_fault : goal.returns-in-Ok-write_answer-clause-write_fault
returns-in-Ok-write_answer-clause-write_fault g c is = absurd (not_write some_suits.0 some_reader.0 _ _ _ (c.in-Ok-write_answer.ensures.answer some_suits.0 some_suits.1 some_reader.0 some_reader.1).1 is)

pub returns-in-Ok-write_answer-clause-sure : goal.returns-in-Ok-write_answer-clause-sure
returns-in-Ok-write_answer-clause-sure g c sure is = not_read some_suits.0 some_reader.0 _ _ _ (c.in-Ok-write_answer.ensures.answer some_suits.0 some_suits.1 some_reader.0 some_reader.1).1 is

pub returns-in-Ok-write_answer-clause-prefix : goal.returns-in-Ok-write_answer-clause-prefix
returns-in-Ok-write_answer-clause-prefix g c = λ t u read is held told no.
    written_prefix t read (meaning_of c.in-Ok.line) (line_of (map string_bytes c.args.words.now)) (came_in c.in-Ok-read_line.reading) held
    (g.K.Sink.written c.args.out.now) (g.K.Sink.written c.write_answer.new.out) c.in-Ok.ensures.meaning
    (IfSome-at _ _ held told c.in-Ok-read_line.ensures.reading) (c.in-Ok-write_answer.ensures.answer t u read is).0

pub returns-in-Err-Fault-write_answer-clause-prefix : goal.returns-in-Err-Fault-write_answer-clause-prefix
returns-in-Err-Fault-write_answer-clause-prefix g c = λ t u read is held told no.
    prefix_written t read (meaning_of c.in-Ok.line) (line_of (map string_bytes c.args.words.now)) (came_in c.in-Ok-read_line.reading) held
    (g.K.Sink.written c.args.out.now) (g.K.Sink.written c.write_answer.new.out) c.in-Ok.ensures.meaning
    (IfSome-at _ _ held told c.in-Ok-read_line.ensures.reading) (c.in-Err-Fault-write_answer.ensures.answer t u read is)

pub returns-clause-prefix : goal.returns-clause-prefix
returns-clause-prefix g c = λ t u read is held told no.
    prefix_written t read (meaning_of c.in-Ok.line) (line_of (map string_bytes c.args.words.now)) (came_in c.in-Ok-read_line.reading) held
    (g.K.Sink.written c.args.out.now) (g.K.Sink.written c.write_answer.new.out) c.in-Ok.ensures.meaning
    (IfSome-at _ _ held told c.in-Ok-read_line.ensures.reading) (c.in-Err-NoMemory-write_answer.ensures.answer t u read is)
