-- What is known of declarations that were read, and right tests.
use Rattle.std.proofs.Common.{List, Ok}
use Rattle.asl_bits.specs.declared.TheConstants.{WIDTH_LIMIT}
use Rattle.asl_syn.specs.declared.read.ReadDecl.{ReadDecl}
use Rattle.asl_grammar.specs.Reading.{File, Reads}
use Rattle.asl_rules.specs.private.Grown.{AreReadGrown}
use Rattle.asl_rules.specs.Tests.{Tests}
use Rattle.asl_laws.proofs.scopes.GrownTexts.{read_grown}
use Rattle.asl_rules.proofs.verdict.SomeTests.{some_tests, limit_within}
use Rattle.asl_types.specs.Suits.{Suits}

pub grown : (files : List File) (ds : List ReadDecl) → Reads files (Ok ds) → AreReadGrown ds
grown files ds r = read_grown files ds r

pub some_suits : (t : Tests) × Suits t
some_suits = let s = some_tests WIDTH_LIMIT limit_within in (s.tests, record { right = s.right; limit = s.within })
