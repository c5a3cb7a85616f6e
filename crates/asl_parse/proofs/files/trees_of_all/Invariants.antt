use Rattle.std.proofs.Common.{map, take}
use Rattle.asl_grammar.specs.Reading.{text_of, HasTrees}
use Rattle.asl_parse.proofs.files.trees_of_all.Given as goal

abbrev pub invariant-loop-number : goal.invariant-loop-number
invariant-loop-number l = HasTrees (take l.number (map text_of l.files)) (take l.number (map (λ ts. ts.items) l.tokens)) l.decls
