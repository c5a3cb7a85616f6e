-- The kinds of tokens. All words that are left out have one kind, and so have `XOR` and `EOR`.
-- Written by tools/grammar/generate.py from tools/grammar/table.py.
use Rattle.std.specs.Prelude.{Bool}
use denote.Enum.Bare.{sameb}
use Rattle.asl_syn.specs.declared.token.Mark.{Mark}
use Rattle.asl_syn.specs.declared.token.Mark.TheVariants as mk
use Rattle.asl_syn.specs.declared.token.Word.{Word}
use Rattle.asl_syn.specs.declared.token.Word.TheVariants as wd
use Rattle.asl_syn.specs.declared.token.TokenKind.{TokenKind}
use Rattle.asl_syn.specs.declared.token.TokenKind.TheVariants as tk
use Rattle.asl_grammar.specs.contracts.kinds.Kind.{the_type}
use Rattle.asl_grammar.specs.declared.kinds.Kind.{Kind}
use Rattle.asl_grammar.specs.declared.kinds.Kind.TheVariants as kind

-- `==` on kinds
abbrev pub same_kind : Kind → Kind → Bool
same_kind = sameb the_type

abbrev pub kind_of_mark : Mark → Kind
kind_of_mark mk.OpenParen = kind.OpenParen
kind_of_mark mk.CloseParen = kind.CloseParen
kind_of_mark mk.OpenBracket = kind.OpenBracket
kind_of_mark mk.CloseBracket = kind.CloseBracket
kind_of_mark mk.OpenBrace = kind.OpenBrace
kind_of_mark mk.CloseBrace = kind.CloseBrace
kind_of_mark mk.Semicolon = kind.Semicolon
kind_of_mark mk.Comma = kind.Comma
kind_of_mark mk.Dot = kind.Dot
kind_of_mark mk.DotDot = kind.DotDot
kind_of_mark mk.Colon = kind.Colon
kind_of_mark mk.ColonColon = kind.ColonColon
kind_of_mark mk.Assign = kind.Assign
kind_of_mark mk.Equal = kind.Equal
kind_of_mark mk.FatArrow = kind.FatArrow
kind_of_mark mk.Bang = kind.Bang
kind_of_mark mk.NotEqual = kind.NotEqual
kind_of_mark mk.AndAnd = kind.AndAnd
kind_of_mark mk.OrOr = kind.OrOr
kind_of_mark mk.Implies = kind.Implies
kind_of_mark mk.Iff = kind.Iff
kind_of_mark mk.Less = kind.Less
kind_of_mark mk.LessEqual = kind.LessEqual
kind_of_mark mk.ShiftLeft = kind.ShiftLeft
kind_of_mark mk.Greater = kind.Greater
kind_of_mark mk.GreaterEqual = kind.GreaterEqual
kind_of_mark mk.ShiftRight = kind.ShiftRight
kind_of_mark mk.Plus = kind.Plus
kind_of_mark mk.PlusColon = kind.PlusColon
kind_of_mark mk.Minus = kind.Minus
kind_of_mark mk.Star = kind.Star
kind_of_mark mk.StarColon = kind.StarColon
kind_of_mark mk.Caret = kind.Caret
kind_of_mark mk.Slash = kind.Slash
kind_of_mark mk.Access = kind.Access

abbrev pub kind_of_word : Word → Kind
kind_of_word wd.BitAnd = kind.BitAnd
kind_of_word wd.Div = kind.Div
kind_of_word wd.DivRm = kind.DivRm
kind_of_word wd.False = kind.False
kind_of_word wd.In = kind.In
kind_of_word wd.Mod = kind.Mod
kind_of_word wd.Not = kind.Not
kind_of_word wd.BitOr = kind.BitOr
kind_of_word wd.True = kind.True
kind_of_word wd.BitXor = kind.BitXor
kind_of_word wd.Array = kind.Array
kind_of_word wd.As = kind.As
kind_of_word wd.Assert = kind.Assert
kind_of_word wd.Begin = kind.Begin
kind_of_word wd.Bit = kind.Bit
kind_of_word wd.Bits = kind.Bits
kind_of_word wd.Boolean = kind.Boolean
kind_of_word wd.Case = kind.Case
kind_of_word wd.Catch = kind.Catch
kind_of_word wd.Constant = kind.Constant
kind_of_word wd.Do = kind.Do
kind_of_word wd.DownTo = kind.DownTo
kind_of_word wd.Else = kind.Else
kind_of_word wd.ElsIf = kind.ElsIf
kind_of_word wd.End = kind.End
kind_of_word wd.Enumeration = kind.Enumeration
kind_of_word wd.Exception = kind.Exception
kind_of_word wd.For = kind.For
kind_of_word wd.Func = kind.Func
kind_of_word wd.If = kind.If
kind_of_word wd.Integer = kind.Integer
kind_of_word wd.Let = kind.Let
kind_of_word wd.LoopLimit = kind.LoopLimit
kind_of_word wd.Of = kind.Of
kind_of_word wd.Otherwise = kind.Otherwise
kind_of_word wd.Pass = kind.Pass
kind_of_word wd.Print = kind.Print
kind_of_word wd.PrintLine = kind.PrintLine
kind_of_word wd.Pure = kind.Pure
kind_of_word wd.ReadOnly = kind.ReadOnly
kind_of_word wd.Record = kind.Record
kind_of_word wd.RecurseLimit = kind.RecurseLimit
kind_of_word wd.Repeat = kind.Repeat
kind_of_word wd.Return = kind.Return
kind_of_word wd.Subtypes = kind.Subtypes
kind_of_word wd.Then = kind.Then
kind_of_word wd.Throw = kind.Throw
kind_of_word wd.To = kind.To
kind_of_word wd.Try = kind.Try
kind_of_word wd.TypeWord = kind.TypeWord
kind_of_word wd.Unreachable = kind.Unreachable
kind_of_word wd.Until = kind.Until
kind_of_word wd.Var = kind.Var
kind_of_word wd.When = kind.When
kind_of_word wd.Where = kind.Where
kind_of_word wd.While = kind.While
kind_of_word wd.Accessor = kind.Accessor
kind_of_word wd.ImpDef = kind.ImpDef
kind_of_word wd.Implementation = kind.Implementation
kind_of_word wd.Getter = kind.Getter
kind_of_word wd.Setter = kind.Setter
kind_of_word wd.BitEor = kind.BitXor
kind_of_word wd.Real = kind.LeftOut
kind_of_word wd.StringWord = kind.LeftOut
kind_of_word wd.Collection = kind.LeftOut
kind_of_word wd.Pragma = kind.LeftOut
kind_of_word wd.NoReturn = kind.LeftOut
kind_of_word wd.Arbitrary = kind.LeftOut
kind_of_word wd.Config = kind.LeftOut

abbrev pub kind_of : TokenKind → Kind
kind_of tk.Name = kind.Name
kind_of (tk.Int n) = kind.IntegerLiteral
kind_of tk.Bits = kind.BitsLiteral
kind_of tk.Mask = kind.MaskLiteral
kind_of tk.Text = kind.StringLiteral
kind_of (tk.Word w) = kind_of_word w
kind_of (tk.Mark m) = kind_of_mark m
