-- What is asked of what each symbol of the grammar stands for, and of what a rule reads.
-- Written by tools/grammar/generate.py from tools/grammar/table.py.
use Rattle.std.proofs.Common.{ℕ}
use Rattle.asl_grammar.specs.grammar.Rules.{Sym, Val, Rule, after, Parenthesized, Arguments, Braced, Operand, IfParts, Bracketed, Width, SetParts, PatternParts, ConstraintParts, Bitfields, TypeParts, ArrayParts, TargetParts, IfBody, CaseBody, ForBody, WhileBody, RepeatBody, TryBody, Program}
use Rattle.asl_laws.proofs.basics.Lists.{AllOf}
use Rattle.asl_laws.proofs.reading.Inside.{in_opt, Inside}
use Rattle.asl_laws.proofs.reading.Predicates.{IdentIn, ExprIn, TypeExprIn, ConstraintPartIn, BitfieldIn, PatternIn, SuffixIn, TargetIn, ReadStmtIn, ReadElseIfIn, ReadAlternativeIn, ReadOtherwiseIn, ReadCatcherIn, ReadDeclIn, DirectionIn, BracesIn}

module _ (n size limit : ℕ) where
  -- what is asked of what is read behind a token that opens a level
  abbrev pub SymIn : (s : Sym) → Val s → Type 0
  SymIn Parenthesized v = AllOf (ExprIn n size limit) v
  SymIn Arguments v = AllOf (ExprIn n size limit) v
  SymIn Braced v = BracesIn n size limit v
  SymIn Operand v = ExprIn n size limit v
  SymIn IfParts v = ExprIn n size limit v.0 × ExprIn n size limit v.1 × ExprIn n size limit v.2
  SymIn Bracketed v = SuffixIn n size limit v
  SymIn Width v = ExprIn n size limit v
  SymIn SetParts v = AllOf (PatternIn n size limit) v
  SymIn PatternParts v = AllOf (PatternIn n size limit) v
  SymIn ConstraintParts v = AllOf (ConstraintPartIn n size limit) v
  SymIn Bitfields v = AllOf (BitfieldIn n size limit) v
  SymIn TypeParts v = AllOf (TypeExprIn n size limit) v
  SymIn ArrayParts v = ExprIn n size limit v.0 × TypeExprIn n size limit v.1
  SymIn TargetParts v = AllOf (TargetIn n size limit) v
  SymIn IfBody v = ExprIn n size limit v.0 × AllOf (ReadStmtIn n size limit) v.1 × AllOf (ReadElseIfIn n size limit) v.2 × AllOf (ReadStmtIn n size limit) v.3
  SymIn CaseBody v = ExprIn n size limit v.0 × AllOf (ReadAlternativeIn n size limit) v.1 × ReadOtherwiseIn n size limit v.2
  SymIn ForBody v = IdentIn n size limit v.0 × ExprIn n size limit v.1 × DirectionIn n size limit v.2 × ExprIn n size limit v.3 × in_opt (ExprIn n size limit) v.4 × AllOf (ReadStmtIn n size limit) v.5
  SymIn WhileBody v = ExprIn n size limit v.0 × in_opt (ExprIn n size limit) v.1 × AllOf (ReadStmtIn n size limit) v.2
  SymIn RepeatBody v = AllOf (ReadStmtIn n size limit) v.0 × ExprIn n size limit v.1 × in_opt (ExprIn n size limit) v.2
  SymIn TryBody v = AllOf (ReadStmtIn n size limit) v.0 × AllOf (ReadCatcherIn n size limit) v.1 × ReadOtherwiseIn n size limit v.2
  SymIn Program v = AllOf (ReadDeclIn n size limit) v

  -- what a rule reads lies in the file, part by part
  abbrev pub In : {A : Type 0} → Rule A → A → Type 0
  In g v = Inside Sym Val after n size limit SymIn g v
