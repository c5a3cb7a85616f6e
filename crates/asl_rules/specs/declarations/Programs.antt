-- Programs: well formed, or with their one fault. The phases come in order: names, declarations that reach themselves, declarations of types and storage,
-- signatures, overloads, bodies, the entry.
use Rattle.std.specs.Prelude.{◌≡◌, ℕ, suc, ◌==◌, ℤ, pos, negsuc, Bool, true, false, ◌&&◌, ◌||◌, not, if◌then◌else◌, List, [], ◌∷◌, ◌++◌, map, Option, Some, None, Result, Ok, Err, codes}
use Rattle.std.specs.Str.{bytes_eq}
use Rattle.asl_syn.specs.declared.token.Span.{Span}
use Rattle.asl_syn.specs.declared.code.Fault.{Fault}
use Rattle.asl_syn.specs.declared.code.StaticCode.TheVariants.{T01, T04, T05, T10, T17, T24}
use Rattle.asl_syn.specs.declared.tree.Expr.{Expr}
use Rattle.asl_syn.specs.declared.tree.TypeExpr.{TypeExpr}
use Rattle.asl_syn.specs.declared.tree.Formal.{Formal}
use Rattle.asl_syn.specs.declared.tree.Param.{Param as WrittenParam}
use Rattle.asl_syn.specs.declared.tree.Qualifier.{Qualifier}
use Rattle.asl_syn.specs.declared.tree.Qualifier.TheVariants as qualifier
use Rattle.asl_syn.specs.declared.tree.Decl.{Decl}
use Rattle.asl_syn.specs.declared.tree.Decl.TheVariants as dc
use Rattle.asl_syn.specs.declared.tree.Func.{Func}
use Rattle.asl_syn.specs.declared.read.ReadDecl.{ReadDecl}
use Rattle.asl_poly.specs.Poly.{atom_map, constant_value}
use Rattle.asl_rules.specs.declared.effect.Effect.{Effect}
use Rattle.asl_rules.specs.declared.effect.Effect.TheVariants.{Pure, Readonly, Writes}
use Rattle.asl_rules.specs.declared.entry.Entry.{Entry}
use Rattle.asl_rules.specs.declared.entry.Entry.TheVariants as entry
use Rattle.asl_rules.specs.Faults.{◌>>=◌, ◌>>◌, need, none_at, fault}
use Rattle.asl_rules.specs.runs.Limits.{most_activations}
use Rattle.asl_rules.specs.Tests.{Tests, IsRight}
use Rattle.asl_rules.specs.types.Types.{Ty, Parts, integer_of, no_part, part, only_width, width_of, is_integer, is_bits, same_kinds}
use Rattle.asl_rules.specs.values.Values.{Value, int}
use Rattle.asl_rules.specs.runs.Trees.{TreeFunc, Acts}
use Rattle.asl_rules.specs.declarations.Names.{names_rule, all_declared}
use Rattle.asl_rules.specs.declarations.Scopes as scopes
use Rattle.asl_rules.specs.declarations.Scopes.{Scope, Body, Signature, Param, is_absent, is_free, fixed, atom_at, next_atom, with_class}
use Rattle.asl_rules.specs.expressions.Typing.{Typed}
use Rattle.asl_rules.specs.values.Members.{has_name}
use Rattle.asl_rules.specs.expressions.Exprs.{found, found_type, typed, written}
use Rattle.asl_rules.specs.declarations.Uses.{cycles_rule}
use Rattle.asl_rules.specs.declarations.Barred.{barred}
use Rattle.asl_rules.specs.declarations.Declarations.{in_names, known}
use Rattle.asl_rules.specs.declarations.Turns.{names_of_program, globals_rule}
use Rattle.asl_rules.specs.declarations.WrittenOut.{written_out}
use Rattle.asl_rules.specs.declarations.Replacing.{bodies_matched, defaults, replaced}
use Rattle.asl_rules.specs.statements.Acting.{in_order}
use Rattle.asl_rules.specs.statements.Locals.{itself}
use Rattle.asl_rules.specs.statements.Stmts.{found_stmt}
use Rattle.asl_rules.specs.statements.Falling.{falls_through}

-- ---- signatures

-- the subprograms of a program, in source order
abbrev pub funcs_of : List Decl → List Func
funcs_of [] = []
funcs_of (dc.Type d ∷ ds) = funcs_of ds
funcs_of (dc.Storage d ∷ ds) = funcs_of ds
funcs_of (dc.Func f ∷ ds) = f ∷ funcs_of ds

-- the names of the parameters and the formals stand once and aren't visible
abbrev pub params_free : List WrittenParam → List (List ℕ) → List scopes.Entry → Result (List (List ℕ)) Fault
params_free [] before names = Ok before
params_free (p ∷ ps) before names =
    need (is_free p.name.text names && not (has_name p.name.text before)) T01 p.name.span >> params_free ps (before ++ p.name.text ∷ []) names

abbrev pub formals_free : List Formal → List (List ℕ) → List scopes.Entry → Result (Unit {0}) Fault
formals_free [] before names = Ok tt
formals_free (f ∷ fs) before names =
    need (is_free f.name.text names && not (has_name f.name.text before)) T01 f.name.span >> formals_free fs (before ++ f.name.text ∷ []) names

-- the type of a parameter, over the globals and the parameters before it
abbrev pub param_written : Tests → Option TypeExpr → List scopes.Entry → Result (Option Ty) Fault
param_written t None names = Ok None
param_written t (Some ty) names = written t ty false (in_names names) >>= λ W. Ok (Some W.ty)

-- a parameter without a type has that of its own value
abbrev pub type_or_itself : Option Ty → ℕ → Ty
type_or_itself None n = integer_of (only_width (atom_map n))
type_or_itself (Some T) n = T

abbrev pub param_entry : List ℕ → Option Ty → ℕ → scopes.Entry
param_entry name T n = fixed name (type_or_itself T n) (Some (atom_at n))

-- the parameters, and the names that are visible with them
abbrev pub params_rule : Tests → List WrittenParam → List Param → List scopes.Entry → Result (List Param × List scopes.Entry) Fault
params_rule t [] before names = Ok (before, names)
params_rule t (p ∷ ps) before names =
    param_written t p.ty names >>= λ T.
    params_rule t ps (before ++ record { atom = next_atom names; ty = T } ∷ []) (names ++ param_entry p.name.text T (next_atom names) ∷ [])

abbrev pub formals_rule : Tests → List Formal → List scopes.Entry → Result Parts Fault
formals_rule t [] names = Ok no_part
formals_rule t (f ∷ fs) names = written t f.ty false (in_names names) >>= λ W. formals_rule t fs names >>= λ Ts. Ok (part W.ty Ts)

abbrev pub result_rule : Tests → Option TypeExpr → List scopes.Entry → Result (Option Ty) Fault
result_rule t None names = Ok None
result_rule t (Some ty) names = written t ty false (in_names names) >>= λ W. Ok (Some W.ty)

-- a `recurselimit`, over the globals: before all else in it, it holds no call and no global `var`
abbrev pub limit_typed : Tests → Option Expr → List scopes.Entry → Result (Option Typed) Fault
limit_typed t None globals = Ok None
limit_typed t (Some e) globals = none_at T04 (barred e globals) >> typed t e (with_class (in_names globals) Pure) >>= λ S. Ok (Some S)

-- the types of the parameters are integers
abbrev pub type_is_integer : Tests → Option TypeExpr → Option Ty → Result (Unit {0}) Fault
type_is_integer t (Some ty) (Some T) = need (is_integer T) T05 (found_type t ty).span
type_is_integer t o p = Ok tt

abbrev pub params_are_integers : Tests → List WrittenParam → List Param → Result (Unit {0}) Fault
params_are_integers t (p ∷ ps) (q ∷ qs) = type_is_integer t p.ty q.ty >> params_are_integers t ps qs
params_are_integers t ps qs = Ok tt

abbrev pub as_number : Span → Value → Result ℤ Fault
as_number span (int z) = Ok z
as_number span x = fault T04 span

abbrev pub limit_of_expr : Tests → Expr → Option Typed → List scopes.Entry → Result ℤ Fault
limit_of_expr t e None globals = Ok (pos most_activations)
limit_of_expr t e (Some S) globals =
    need (is_integer S.ty) T05 (found t e).span >>
    known t e (in_names globals) >>= λ x. as_number (found t e).span x

abbrev pub limit_rule : Tests → Option Expr → Option Typed → List scopes.Entry → Result ℤ Fault
limit_rule t None S globals = Ok (pos most_activations)
limit_rule t (Some e) S globals = limit_of_expr t e S globals

-- the formals as names of the body, integers among them standing for themselves in widths
abbrev pub with_formals : List Formal → Parts → List scopes.Entry → List scopes.Entry
with_formals (f ∷ fs) (part T Ts) names = with_formals fs Ts (names ++ fixed f.name.text T (itself T names) ∷ [])
with_formals fs Ts names = names

-- the greatest effect in a body
abbrev pub class_of : Qualifier → Effect
class_of qualifier.Unqualified = Writes
class_of qualifier.Pure = Pure
class_of qualifier.Readonly = Readonly

-- a subprogram with its signature, and the names that its body begins with
pub record Head : Type 0 where
  pub func : Func
  pub signature : Signature
  pub names : List scopes.Entry

abbrev pub signature_rule : Tests → List scopes.Entry → Func → Result Head Fault
signature_rule t globals f =
    params_free f.params [] globals >>= λ before.
    formals_free f.formals before globals >>
    params_rule t f.params [] globals >>= λ p.
    formals_rule t f.formals p.1 >>= λ Ts.
    result_rule t f.result p.1 >>= λ T.
    limit_typed t f.limit globals >>= λ l.
    params_are_integers t f.params p.0 >>
    limit_rule t f.limit l globals >>= λ limit.
    Ok (record {
      func = f;
      signature = record { name = f.name.text; class = class_of f.qualifier; params = p.0; formals = Ts; result = T; limit = limit };
      names = with_formals f.formals Ts p.1;
    })

abbrev pub signatures_rule : Tests → List scopes.Entry → List Func → Result (List Head) Fault
signatures_rule t globals [] = Ok []
signatures_rule t globals (f ∷ fs) = signature_rule t globals f >>= λ h. signatures_rule t globals fs >>= λ hs. Ok (h ∷ hs)

abbrev pub signatures : List Head → List Signature
signatures hs = map (λ (h : Head). h.signature) hs

-- one of these has the name of this one, and formals of its kinds
abbrev pub clashes : List Signature → Signature → Bool
clashes [] f = false
clashes (g ∷ gs) f = (bytes_eq g.name f.name && same_kinds g.formals f.formals) || clashes gs f

-- T10 at the first name of a subprogram that clashes with one before it
abbrev pub overloads_rule : List Signature → List Head → Result (Unit {0}) Fault
overloads_rule before [] = Ok tt
overloads_rule before (h ∷ hs) = need (not (clashes before h.signature)) T10 h.func.name.span >> overloads_rule (before ++ h.signature ∷ []) hs

-- ---- bodies

abbrev pub may_end : Option Ty → Func → Bool
may_end None f = true
may_end (Some T) f = not (falls_through f.body)

abbrev pub body_scope : List Signature → Head → Scope
body_scope subs h = record { names = h.names; subs = subs; class = h.signature.class }

abbrev pub body_of : List Signature → Head → Body
body_of subs h = record { scope = body_scope subs h; result = h.signature.result; handles = false }

abbrev pub types_in : Parts → List Ty
types_in no_part = []
types_in (part T Ts) = T ∷ types_in Ts

abbrev pub param_types : List Param → List (Option Ty)
param_types [] = []
param_types (p ∷ ps) = p.ty ∷ param_types ps

-- a subprogram with its typed tree
abbrev pub tree_func : Head → Acts → TreeFunc
tree_func h acts = record {
  span = h.func.name.span;
  params = param_types h.signature.params;
  formals = types_in h.signature.formals;
  result = h.signature.result;
  limit = h.signature.limit;
  body = acts;
}

-- a body: its statements in order, and then T17 where the end of a function can be reached
abbrev pub body_rule : Tests → List Signature → Head → Result TreeFunc Fault
body_rule t subs h =
    in_order (map (found_stmt t) h.func.body) Pure (body_of subs h) >>= λ l.
    need (may_end h.signature.result h.func) T17 h.func.name.span >> Ok (tree_func h l.acts)

abbrev pub bodies_rule : Tests → List Signature → List Head → Result (List TreeFunc) Fault
bodies_rule t subs [] = Ok []
bodies_rule t subs (h ∷ hs) = body_rule t subs h >>= λ f. bodies_rule t subs hs >>= λ fs. Ok (f ∷ fs)

-- ---- the entry

abbrev pub has_integer : Option Ty → Bool
has_integer None = false
has_integer (Some T) = is_integer T

abbrev pub has_no_param : List Param → Bool
has_no_param [] = true
has_no_param (p ∷ ps) = false

abbrev pub has_no_formal : Parts → Bool
has_no_formal no_part = true
has_no_formal (part T Ts) = false

-- a function that a run can begin with
abbrev pub is_main : Signature → Bool
is_main f = bytes_eq f.name (codes "main") && (has_no_param f.params && (has_no_formal f.formals && has_integer f.result))

abbrev pub is_wide : ℕ → Option ℤ → Bool
is_wide n None = false
is_wide n (Some (pos w)) = w == n
is_wide n (Some (negsuc w)) = false

-- one formal of n bits
abbrev pub has_word : ℕ → Parts → Bool
has_word n no_part = false
has_word n (part T no_part) = is_bits T && is_wide n (constant_value (width_of T))
has_word n (part T (part U Ts)) = false

-- a procedure of this name that takes a word of n bits
abbrev pub takes_word : List ℕ → ℕ → Signature → Bool
takes_word name n f = bytes_eq f.name name && (has_no_param f.params && (has_word n f.formals && is_absent f.result))

abbrev pub is_decode : Signature → Bool
is_decode f = takes_word (codes "decode") 32 f

abbrev pub is_decode16 : Signature → Bool
is_decode16 f = takes_word (codes "decode16") 16 f

-- the number of the first that is such an entry, counted from n
abbrev pub entry_from : (Signature → Bool) → ℕ → List Signature → Option ℕ
entry_from is n [] = None
entry_from is n (f ∷ fs) = if is f then Some n else entry_from is (suc n) fs

-- the beginning of the first file
abbrev pub origin : Span
origin = record { file = 0; start = 0; len = 0 }

abbrev pub entry_found : Option ℕ → Result (Option ℕ) Fault
entry_found None = fault T24 origin
entry_found (Some n) = Ok (Some n)

-- the numbers of the subprograms that are entries, where they were asked for: the one that a run begins with or that is called for words of 32 bits, and the
-- one that is called for words of 16 bits
pub record Entries : Type 0 where
  pub main : Option ℕ
  pub entry16 : Option ℕ

abbrev pub entries : Option ℕ → Option ℕ → Entries
entries main entry16 = record { main = main; entry16 = entry16 }

abbrev pub main_rule : Option ℕ → Result Entries Fault
main_rule found = entry_found found >>= λ main. Ok (entries main None)

abbrev pub entry16_rule : Option ℕ → Option ℕ → Result Entries Fault
entry16_rule main found = entry_found found >>= λ entry16. Ok (entries main entry16)

-- the entries that are asked for
abbrev pub entry_rule : Entry → List Signature → Result Entries Fault
entry_rule entry.None fs = Ok (entries None None)
entry_rule entry.Main fs = main_rule (entry_from is_main 0 fs)
entry_rule entry.Decode fs = main_rule (entry_from is_decode 0 fs)
entry_rule entry.Decode16 fs = entry16_rule None (entry_from is_decode16 0 fs)
entry_rule entry.Both fs = entry_found (entry_from is_decode 0 fs) >>= λ main. entry16_rule main (entry_from is_decode16 0 fs)

-- ---- the verdict

-- a program that is well formed: the entries that were asked for, the numbers of the subprograms that they are, the subprograms in source order with their
-- signatures and their trees, and the names that are visible outside bodies
pub record Accepted : Type 0 where
  pub asked : Entry
  pub entries : Entries
  pub signatures : List Signature
  pub funcs : List TreeFunc
  pub names : List scopes.Entry

abbrev pub accepted : Entry → Entries → List Signature → List TreeFunc → List scopes.Entry → Accepted
accepted e found fs trees names = record { asked = e; entries = found; signatures = fs; funcs = trees; names = names }

-- the program that is accepted, or its one fault
unfoldable pub verdict : Entry → List Decl → Tests → Result Accepted Fault
verdict e ds t =
    names_rule [] (all_declared ds) >>
    cycles_rule ds ds >>
    globals_rule t ds >>= λ names.
    signatures_rule t names (funcs_of ds) >>= λ hs.
    overloads_rule [] hs >>
    bodies_rule t (signatures hs) hs >>= λ trees.
    entry_rule e (signatures hs) >>= λ found.
    Ok (accepted e found (signatures hs) trees names)

-- declarations that are well formed with their entry under this width limit, by right tests
pub record ProgramOk (limit : ℕ) (e : Entry) (ds : List Decl) (a : Accepted) : Type 0 where
  pub tests : Tests
  pub right : IsRight tests
  pub within : tests.limit ≡ limit
  pub is : verdict e ds tests ≡ Ok a

-- declarations with this one fault
pub record FaultOf (limit : ℕ) (e : Entry) (ds : List Decl) (f : Fault) : Type 0 where
  pub tests : Tests
  pub right : IsRight tests
  pub within : tests.limit ≡ limit
  pub is : verdict e ds tests ≡ Err f

-- ---- programs as they are read

-- what is judged of the declarations that are read: first with the bodies that may be replaced, and then with those that replace them, which runs
abbrev pub default_decls : List ReadDecl → List Decl
default_decls ds = written_out (defaults ds)

abbrev pub final_decls : List ReadDecl → List Decl
final_decls ds = written_out (replaced ds)

-- the program that is accepted, with the bodies that replace others, or the one fault of what is read: that of the bodies that replace others, else that of the
-- program without them, else that of the program with them
unfoldable pub read_verdict : Entry → List ReadDecl → Tests → Result Accepted Fault
read_verdict e ds t = bodies_matched ds >> verdict e (default_decls ds) t >>= λ a. verdict e (final_decls ds) t

-- what is read is well formed with its entry under this width limit, by right tests
pub record ReadOk (limit : ℕ) (e : Entry) (ds : List ReadDecl) (a : Accepted) : Type 0 where
  pub tests : Tests
  pub right : IsRight tests
  pub within : tests.limit ≡ limit
  pub is : read_verdict e ds tests ≡ Ok a

-- what is read has this one fault
pub record ReadFault (limit : ℕ) (e : Entry) (ds : List ReadDecl) (f : Fault) : Type 0 where
  pub tests : Tests
  pub right : IsRight tests
  pub within : tests.limit ≡ limit
  pub is : read_verdict e ds tests ≡ Err f

-- ---- what a run needs of a program

-- its declarations, what the names outside bodies stand for, and the width limit
pub record Environment : Type 0 where
  pub decls : List Decl
  pub names : List scopes.Entry
  pub limit : ℕ

abbrev pub environment : Tests → List Decl → Environment
environment t ds = record { decls = ds; names = names_of_program t ds; limit = t.limit }
