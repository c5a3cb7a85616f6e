-- What an initialiser outside bodies and a `recurselimit` may not hold: a call, and the name of a global `var`.
use Rattle.std.specs.Prelude.{Bool, false, ◌&&◌, if◌then◌else◌, List, Option, Some, None}
use Rattle.asl_syn.specs.declared.token.Span.{Span}
use Rattle.asl_syn.specs.declared.tree.Expr.{Expr}
use Rattle.asl_rules.specs.declarations.Scopes.{Entry, Storage, storage_of}
use Rattle.asl_rules.specs.declarations.UsedNames.{Use, of_value, of_subprogram, of_type, first_said, expr_uses}

abbrev pub is_global_var : Option Storage → Bool
is_global_var None = false
is_global_var (Some s) = s.is_global && s.is_mutable

abbrev pub at_var : Span → Option Storage → Option Span
at_var span o = if is_global_var o then Some span else None

-- a call, or the name of a global `var`: where it stands
abbrev pub barred_at : List Entry → Use → Option Span
barred_at names (of_value span name) = at_var span (storage_of name names)
barred_at names (of_subprogram span name) = Some span
barred_at names (of_type name) = None

-- the first of them in an expression
abbrev pub barred : Expr → List Entry → Option Span
barred e names = first_said (barred_at names) (expr_uses e)
