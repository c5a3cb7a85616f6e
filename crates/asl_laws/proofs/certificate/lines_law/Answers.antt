use Rattle.asl_laws.proofs.certificates.Wanted.{wanted_law, first_line_law, feeds_fed}
use Rattle.asl_laws.proofs.certificates.Spellings.{line_spelled}
use Rattle.asl_laws.proofs.certificates.Recognised.{line_recognised}
use Rattle.asl_laws.proofs.certificates.Mistakes.{mistake_law, about_law}
use Rattle.asl_laws.proofs.certificates.WidthSpellings.{width_law}
use Rattle.asl_laws.proofs.certificate.lines_law.Goals as goal

pub returns-clause-all : goal.returns-clause-all
returns-clause-all c = wanted_law

pub returns-clause-first : goal.returns-clause-first
returns-clause-first c = first_line_law

pub returns-clause-spelled : goal.returns-clause-spelled
returns-clause-spelled c = line_spelled

pub returns-clause-recognised : goal.returns-clause-recognised
returns-clause-recognised c = line_recognised

pub returns-clause-mistake : goal.returns-clause-mistake
returns-clause-mistake c = mistake_law

pub returns-clause-about : goal.returns-clause-about
returns-clause-about c = about_law

pub returns-clause-width : goal.returns-clause-width
returns-clause-width c = width_law

pub returns-clause-number : goal.returns-clause-number
returns-clause-number c = feeds_fed
