-- What a symbol of the grammar stands for has its spans in the file, where this holds of the symbols in it.
-- Written by tools/grammar/generate.py from tools/grammar/table.py.
use Rattle.std.proofs.Common.{ℕ}
use Rattle.asl_grammar.specs.grammar.Rules.{Sym, Val, rule, Parenthesized, Arguments, Braced, Operand, IfParts, Bracketed, Width, SetParts, PatternParts, ConstraintParts, Bitfields, TypeParts, ArrayParts, TargetParts, IfBody, CaseBody, ForBody, WhileBody, RepeatBody, TryBody, Program}
use Rattle.asl_laws.proofs.reading.Symbols.{SymIn, In}
use Rattle.asl_laws.proofs.reading.RulesOfExpressions.{unary_inside, if_parts_inside, parenthesized_in_inside, arguments_in_inside, width_in_inside}
use Rattle.asl_laws.proofs.reading.RulesOfParts.{braced_in_inside, bracketed_in_inside, set_parts_inside, pattern_parts_inside, constraint_parts_inside, bitfields_in_inside, type_parts_inside, array_parts_inside}
use Rattle.asl_laws.proofs.reading.RulesOfStatements.{target_parts_inside, if_body_inside, case_body_inside, for_body_inside, while_body_inside, repeat_body_inside, try_body_inside}
use Rattle.asl_laws.proofs.reading.RulesOfDeclarations.{program_inside}

module _ (n size limit : ℕ) where
  -- what each symbol stands for is as asked
  pub made : (s : Sym) (v : Val s) → In n size limit (rule s) v → SymIn n size limit s v
  made Parenthesized v h = parenthesized_in_inside n size limit v h
  made Arguments v h = arguments_in_inside n size limit v h
  made Braced v h = braced_in_inside n size limit v h
  made Operand v h = unary_inside n size limit v h
  made IfParts v h = if_parts_inside n size limit v h
  made Bracketed v h = bracketed_in_inside n size limit v h
  made Width v h = width_in_inside n size limit v h
  made SetParts v h = set_parts_inside n size limit v h
  made PatternParts v h = pattern_parts_inside n size limit v h
  made ConstraintParts v h = constraint_parts_inside n size limit v h
  made Bitfields v h = bitfields_in_inside n size limit v h
  made TypeParts v h = type_parts_inside n size limit v h
  made ArrayParts v h = array_parts_inside n size limit v h
  made TargetParts v h = target_parts_inside n size limit v h
  made IfBody v h = if_body_inside n size limit v h
  made CaseBody v h = case_body_inside n size limit v h
  made ForBody v h = for_body_inside n size limit v h
  made WhileBody v h = while_body_inside n size limit v h
  made RepeatBody v h = repeat_body_inside n size limit v h
  made TryBody v h = try_body_inside n size limit v h
  made Program v h = program_inside n size limit v h
