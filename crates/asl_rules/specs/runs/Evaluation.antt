-- What expressions and statements do, over the untyped trees: names are found by name, and no type is consulted but those
-- that are written at places.
use Rattle.std.specs.Prelude.{ℕ, ◌+◌, ℤ, pos, Bool, true, false, ◌&&◌, if◌then◌else◌, List, [], ◌∷◌, ◌++◌, length, take, slice_get, option_map, option_and_then, Option, Some, None}
use Rattle.std.specs.Str.{bytes_eq}
use Rattle.asl_syn.specs.declared.token.Span.{Span}
use Rattle.asl_syn.specs.declared.code.DynCode.TheVariants.{D15}
use Rattle.asl_syn.specs.declared.tree.Expr.{Expr, out-Expr}
use Rattle.asl_syn.specs.declared.tree.FieldValue.{FieldValue}
use Rattle.asl_syn.specs.declared.tree.Pattern.{Pattern}
use Rattle.asl_syn.specs.declared.tree.Slice.{Slice}
use Rattle.asl_syn.specs.declared.tree.Bitfield.TheOpen as ex
use Rattle.asl_syn.specs.declared.tree.TypeExpr.{TypeExpr, out-TypeExpr}
use Rattle.asl_syn.specs.declared.tree.Ident.{Ident}
use Rattle.asl_syn.specs.declared.tree.Binder.{Binder}
use Rattle.asl_syn.specs.declared.tree.Binder.TheVariants.{Bound, Unbound}
use Rattle.asl_syn.specs.declared.tree.Bind.{Bind}
use Rattle.asl_syn.specs.declared.tree.Bind.TheVariants.{Single, Several}
use Rattle.asl_syn.specs.declared.tree.PlacedSuffix.{PlacedSuffix}
use Rattle.asl_syn.specs.declared.tree.Suffix.{Suffix}
use Rattle.asl_syn.specs.declared.tree.Suffix.TheVariants.{FieldOf, FieldsOf, SlicesOf, ElementOf}
use Rattle.asl_syn.specs.declared.tree.Target.{Target, fold-Target}
use Rattle.asl_syn.specs.declared.tree.Target.TheOpen as tg
use Rattle.asl_syn.specs.declared.tree.PrintItem.{PrintItem}
use Rattle.asl_syn.specs.declared.tree.PrintItem.TheVariants.{Verbatim, Shown}
use Rattle.asl_syn.specs.declared.tree.Alternative.{Alternative, out-Alternative}
use Rattle.asl_syn.specs.declared.tree.Catcher.{Catcher, out-Catcher}
use Rattle.asl_syn.specs.declared.tree.Otherwise.{Otherwise, out-Otherwise}
use Rattle.asl_syn.specs.declared.tree.ElseIf.{ElseIf, out-ElseIf}
use Rattle.asl_syn.specs.declared.tree.Stmt.{Stmt, out-Stmt}
use Rattle.asl_syn.specs.declared.tree.Alternative.TheOpen as st
use Rattle.asl_syn.specs.declared.tree.StorageDecl.{StorageDecl}
use Rattle.asl_syn.specs.declared.tree.Decl.{Decl}
use Rattle.asl_syn.specs.declared.tree.Decl.TheVariants as dc
use Rattle.asl_syn.specs.declared.tree.Formal.{Formal}
use Rattle.asl_syn.specs.declared.tree.Param.{Param}
use Rattle.asl_syn.specs.declared.tree.Func.{Func}
use Rattle.asl_syn.specs.Layers.{ExprLayer, TypeLayer, StmtLayer}
use Rattle.asl_rules.specs.expressions.Exprs.{expr_span}
use Rattle.asl_poly.specs.Poly.{constant_map, atom_map}
use Rattle.asl_rules.specs.types.Types.{Ty, Kind, kind_eq}
use Rattle.asl_rules.specs.types.Closed as cl
use Rattle.asl_rules.specs.types.Closed.{Closed, ClosedParts, closed, parts_at}
use Rattle.asl_rules.specs.declarations.Scopes.{Entry, Standing, Stored, Subprogram, TypeName, Label, Storage, standing_of, storage_of}
use Rattle.asl_rules.specs.declarations.Declarations as programs
use Rattle.asl_rules.specs.declarations.Programs.{Environment, funcs_of, origin}
use Rattle.asl_rules.specs.statements.Locals.{is_var}
use Rattle.asl_rules.specs.statements.Targets.{up_to}
use Rattle.asl_rules.specs.runs.Limits.{most_activations}
use Rattle.asl_rules.specs.values.Values.{Value, Values, int, bits_with, tuple_with, no_value, value, kind_of, Exit}
use Rattle.asl_rules.specs.types.Shapes.{SliceShape}
use Rattle.asl_rules.specs.types.Shaped.{Named, exprs_in, shapes_in, given_parts, slice_parts, pattern_parts, type_parts, exprs_in_patterns, shapes_of_patterns, sizes_in, shape_of}
use Rattle.asl_rules.specs.runs.States.{Under, of_type, of_value, kept, Binding, Core, entered, restored}
use Rattle.asl_rules.specs.values.Structures.{element_of, with_element, field_of, with_field, parts}
use Rattle.asl_rules.specs.values.Vectors.{slice_places, with_slices, bitfields_named, bitfields_of, with_bitfields, bits_at}
use Rattle.asl_rules.specs.values.Matching.{is_matched}
use Rattle.asl_rules.specs.declarations.Routines.{Routine, routine_named}
use Rattle.asl_rules.specs.values.Library.{routine_value}
use Rattle.asl_rules.specs.types.Numbers.{Numbers, wholes, integer_of_value, present, outside, all_fractions}
use Rattle.asl_rules.specs.types.Present.{present_type}
use Rattle.asl_rules.specs.types.Alone.{Polynomials, polynomial, is_alone}
use Rattle.asl_rules.specs.types.Written.{Sized, sized, type_span, kind_written}
use Rattle.asl_rules.specs.runs.Pures.{◌>>=◌, there, known, found_type}
use Rattle.asl_rules.specs.declarations.Constants.{constant}
use Rattle.asl_rules.specs.runs.ByNames.{Asks, Views, expr_plan, types_among}
use Rattle.asl_rules.specs.runs.Plans.{Faulted, Stuck, UnknownName, WrongKind, Immutable, Plan, Stop, Pure, Good, Bad, lift, Meaning, Nodes, meanings}
use Rattle.asl_rules.specs.runs.Forms.{call, routine_gives, unless_full, Keeps, in_frame, procedure_gives}
use Rattle.asl_rules.specs.runs.StatementForms.{Frames, in_order, Branch, branch, branches, assertion, with_value, with_values, Ahead, ready, by_one, by_all, Store, assignment, return_value, Item, Written, Valued, print_items, done_normal, Choice, case_of, for_loop, while_loop, repeat_loop, throw, Catch, try_list}
use Rattle.asl_rules.specs.values.Strings.{string_text}
use Rattle.asl_rules.specs.runs.Cuts.{Cutting, cuttings}

abbrev pub Does : Type 0 → Type 1
Does A = Plan Core Expr Stmt A

-- ---- names

-- the value of a name among these
abbrev pub value_of : List ℕ → List Binding → Option Value
value_of name [] = None
value_of name (b ∷ bs) = if bytes_eq b.name name then Some b.value else value_of name bs

abbrev pub or_value : Option Value → Option Value → Option Value
or_value None o = o
or_value (Some x) o = Some x

-- the value of a name, in the frame or else among the globals
abbrev pub held : Span → List ℕ → Core → Pure Value
held span name c = known span (or_value (value_of name c.frame) (value_of name c.globals))

-- a store in a place that was declared: it can be assigned, and keeps the value
abbrev pub put_value : Span → Value → Binding → Pure Binding
put_value span x b = if b.is_mutable then (there span (kept b.under x) >>= λ y. Good (record b { value = y })) else Bad (Stuck Immutable span)

abbrev pub map_pure : {A B : Type 0} → (A → B) → Pure A → Pure B
map_pure f (Good x) = Good (f x)
map_pure f (Bad e) = Bad e

-- a store under a name among these, none where it isn't there
abbrev pub stored_in : Span → List ℕ → Value → List Binding → Option (Pure (List Binding))
stored_in span name x [] = None
stored_in span name x (b ∷ bs) =
    if bytes_eq b.name name then Some (map_pure (λ b1. b1 ∷ bs) (put_value span x b))
    else option_map (map_pure (λ cs. b ∷ cs)) (stored_in span name x bs)

abbrev pub first_store : Span → (List Binding → Core) → (List Binding → Core) → Option (Pure (List Binding)) → Option (Pure (List Binding)) → Pure Core
first_store span f g (Some r) o = map_pure f r
first_store span f g None (Some r) = map_pure g r
first_store span f g None None = Bad (Stuck UnknownName span)

-- a store under a name, in the frame or else among the globals
abbrev pub store : Span → List ℕ → Value → Core → Pure Core
store span name x c = first_store span (λ bs. record c { frame = bs }) (λ bs. record c { globals = bs }) (stored_in span name x c.frame) (stored_in span name x c.globals)

-- ---- declared types and labels

-- the value of a label
abbrev pub label_in : Option Standing → Option Value
label_in None = None
label_in (Some (Stored s)) = None
label_in (Some Subprogram) = None
label_in (Some (TypeName T)) = None
label_in (Some (Label T x)) = Some x

-- the value of a name: in the frame, or else among the globals, or else a label
abbrev pub value_here : Environment → List ℕ → Core → Option Value
value_here env name c = or_value (value_of name c.frame) (or_value (value_of name c.globals) (label_in (standing_of name env.names)))

abbrev pub value_or_label : Environment → Span → List ℕ → Core → Pure Value
value_or_label env span name c = known span (value_here env name c)

-- what declared names stand for
abbrev pub types_of : Environment → Named
types_of env = types_among env.names

-- a written type with the values of its expressions
abbrev pub sized_at : Environment → TypeExpr → List Value → Option Sized
sized_at env t zs = sized env.limit (type_span t) zs (shape_of (types_of env) t)

-- the type that is written, where names stand for these integers
abbrev pub type_at : Environment → Numbers → TypeExpr → Option Closed
type_at env f t = option_and_then (λ rs. present_type rs (shape_of (types_of env) t)) (all_fractions (wholes f) (sizes_in t))

-- ---- declarations

-- a new name with its value
abbrev pub declared : List ℕ → Value → Under → Bool → Core → Core
declared name x u is_mutable c = record c { frame = c.frame ++ record { name = name; value = x; under = u; is_mutable = is_mutable } ∷ [] }

abbrev pub type_under : Option Closed → Option Under
type_under o = option_map (λ T. of_type T) o

-- a place without a written type keeps what the value that it was declared with shows
abbrev pub stored_under : Environment → Core → Option TypeExpr → Value → Option Under
stored_under env c None x = Some (of_value x)
stored_under env c (Some t) x = type_under (type_at env (present c) t)

abbrev pub declare : Span → List ℕ → Bool → Option Under → Value → Core → Pure Core
declare span name is_mutable o x c = found_type span o >>= λ u. there span (kept u x) >>= λ y. Good (declared name y u is_mutable c)

-- what the parts of a tuple are stored under
abbrev pub unders_of_values : Values → List Under
unders_of_values no_value = []
unders_of_values (value x xs) = of_value x ∷ unders_of_values xs

abbrev pub unders_of_parts : ClosedParts → List Under
unders_of_parts cl.no_part = []
unders_of_parts (cl.part T ts) = of_type T ∷ unders_of_parts ts

abbrev pub values_of_tuple : Value → Option Values
values_of_tuple (tuple_with xs) = Some xs
values_of_tuple x = None

abbrev pub unders_in : Under → Option (List Under)
unders_in (of_type T) = option_map unders_of_parts (parts_at T)
unders_in (of_value x) = option_map unders_of_values (values_of_tuple x)

-- each name of a tuple bind with its part, where there are as many
abbrev pub declare_each : Span → List Binder → Bool → List Under → List Value → Core → Pure Core
declare_each span [] is_mutable [] [] c = Good c
declare_each span (Bound i ∷ bs) is_mutable (u ∷ us) (x ∷ xs) c = declare span i.text is_mutable (Some u) x c >>= λ c1. declare_each span bs is_mutable us xs c1
declare_each span (Unbound at ∷ bs) is_mutable (u ∷ us) (x ∷ xs) c = declare_each span bs is_mutable us xs c
declare_each span bs is_mutable us xs c = Bad (Stuck WrongKind span)

abbrev pub unders_or : Span → Option Under → Pure (List Under)
unders_or span o = found_type span o >>= λ u. there span (unders_in u)

abbrev pub bound_to : Environment → Span → Bind → Bool → Option TypeExpr → Value → Core → Pure Core
bound_to env span (Single (Bound i)) is_mutable t x c = declare span i.text is_mutable (stored_under env c t x) x c
bound_to env span (Single (Unbound at)) is_mutable t x c = Good c
bound_to env span (Several at bs) is_mutable t x c = unders_or span (stored_under env c t x) >>= λ us. parts span x >>= λ xs. declare_each span bs is_mutable us xs c

-- without an initialiser each name starts with the first value of the type, whose expressions are evaluated once
abbrev pub declare_all : List Ident → Closed → Value → Core → Core
declare_all [] T x c = c
declare_all (i ∷ is) T x c = declare_all is T x (declared i.text x (of_type T) true c)

abbrev pub declare_first : Environment → Span → List Ident → TypeExpr → List Value → Core → Pure Core
declare_first env span is t zs c = found_type span (sized_at env t zs) >>= λ s. s.first >>= λ x. Good (declare_all is s.type_is x c)

-- ---- calls

-- what a function's body gives belongs to the type that is written, over the globals and the parameters; a procedure gives nothing
abbrev pub under_written : Span → Option Closed → Value → Pure Value
under_written span o x = found_type span o >>= λ T. there span (kept (of_type T) x)

abbrev pub result_at : Environment → Span → Numbers → Option TypeExpr → Keeps
result_at env span f None = None
result_at env span f (Some t) = Some (under_written span (type_at env f t))

-- a parameter without a type holds an integer
abbrev pub param_value : Option TypeExpr → Value → Option Value
param_value None x = option_map int (integer_of_value x)
param_value (Some t) x = Some x

-- parameters in order, each over the globals and those before it; one without a type holds its own value
abbrev pub param_under : Environment → Core → Option TypeExpr → Value → Option Under
param_under env c None x = Some (of_value x)
param_under env c (Some t) x = type_under (type_at env (present c) t)

abbrev pub params_bound : Environment → Span → List Param → List Value → Core → Pure Core
params_bound env span [] [] c = Good c
params_bound env span [] (x ∷ xs) c = Bad (Stuck WrongKind span)
params_bound env span (p ∷ ps) [] c = Bad (Stuck WrongKind span)
params_bound env span (p ∷ ps) (x ∷ xs) c =
    there span (param_value p.ty x) >>= λ y.
    declare span p.name.text false (param_under env c p.ty y) y c >>= λ c1.
    params_bound env span ps xs c1

-- formals in order, their types over the globals and the parameters
abbrev pub formals_bound : Environment → Span → Numbers → List Formal → List Value → Core → Pure Core
formals_bound env span f [] [] c = Good c
formals_bound env span f [] (x ∷ xs) c = Bad (Stuck WrongKind span)
formals_bound env span f (g ∷ gs) [] c = Bad (Stuck WrongKind span)
formals_bound env span f (g ∷ gs) (x ∷ xs) c = declare span g.name.text false (type_under (type_at env f g.ty)) x c >>= λ c1. formals_bound env span f gs xs c1

-- the states in which a body begins: with its parameters, and with its formals behind them
pub record Entering : Type 0 where
  pub params : Core
  pub inner : Core

abbrev pub entering : Environment → Span → ℕ → Func → List Value → List Value → Core → Pure Entering
entering env span id f ps xs c =
    params_bound env span f.params ps (entered id c) >>= λ c1.
    formals_bound env span (present c1) f.formals xs c1 >>= λ c2.
    Good (record { params = c1; inner = c2 })

-- a body in a frame of its own, and the caller's frame again at its end
abbrev pub run_body : Environment → Func → Core → Entering → Does (Option Value)
run_body env f c e = in_frame f.name.span (result_at env f.name.span (present e.params) f.result) (restored c) (in_order f.body e.inner)

abbrev pub run_with : Environment → Span → ℕ → Func → List Value → List Value → Core → Does (Option Value)
run_with env span id f ps xs c = lift (entering env span id f ps xs c) c (run_body env f c)

-- the widths of bits
abbrev pub width_of_bits : Value → Option Value
width_of_bits (bits_with bs v) = Some (int (pos (length bs)))
width_of_bits x = None

-- what names stand for in the width of a formal: the parameters for themselves, each by its atom, and what is outside bodies for its number
abbrev pub width_over : Numbers → List Param → ℕ → Polynomials
width_over f [] n name = option_map constant_map (f name)
width_over f (p ∷ ps) n name = if bytes_eq p.name.text name then Some (atom_map n) else width_over f ps (n + 2) name

-- a formal that is written `bits(P)` with the parameter P alone
abbrev pub is_width_alone : Polynomials → ℕ → TypeLayer → Bool
is_width_alone f n (ex.IntegerType span ps) = false
is_width_alone f n (ex.BooleanType span) = false
is_width_alone f n (ex.BitType span) = false
is_width_alone f n (ex.NamedType span name) = false
is_width_alone f n (ex.BitsType span e fs) = is_alone n (polynomial e f)
is_width_alone f n (ex.TupleType span ts) = false
is_width_alone f n (ex.ArrayType span e t) = false

-- a parameter that is omitted is the width of the first argument whose formal it is alone
abbrev pub given_by : Polynomials → ℕ → List Formal → List Value → Option Value
given_by f n [] xs = None
given_by f n (g ∷ gs) [] = None
given_by f n (g ∷ gs) (x ∷ xs) = if is_width_alone f n (out-TypeExpr g.ty) then width_of_bits x else given_by f n gs xs

abbrev pub omitted : Span → Polynomials → ℕ → List Param → List Formal → List Value → Pure (List Value)
omitted span f n [] gs xs = Good []
omitted span f n (p ∷ ps) gs xs = there span (given_by f n gs xs) >>= λ y. omitted span f (n + 2) ps gs xs >>= λ ys. Good (y ∷ ys)

-- the parameters: those that are given, or else the widths of the arguments
abbrev pub params_of : Span → Numbers → Func → List Value → List Value → Pure (List Value)
params_of span f g [] xs = omitted span (width_over f g.params 0) 0 g.params g.formals xs
params_of span f g (p ∷ ps) xs = Good (p ∷ ps)

-- how often a subprogram may be active
abbrev pub limit_in : Span → Value → Pure ℤ
limit_in span (int z) = Good z
limit_in span x = Bad (Stuck WrongKind span)

abbrev pub limit_of : Environment → Span → Option Expr → Pure ℤ
limit_of env span None = Good (pos most_activations)
limit_of env span (Some e) = constant env.limit e env.names >>= λ x. limit_in span x

-- a subprogram of the program, with its number
pub record Numbered : Type 0 where
  pub id : ℕ
  pub func : Func

abbrev pub is_kind : Value → Option Kind → Bool
is_kind x None = false
is_kind x (Some k) = kind_eq k (kind_of x)

abbrev pub takes : Environment → Polynomials → List Formal → List Value → Bool
takes env f [] [] = true
takes env f [] (x ∷ xs) = false
takes env f (g ∷ gs) [] = false
takes env f (g ∷ gs) (x ∷ xs) = is_kind x (kind_written (types_of env) f g.ty) && takes env f gs xs

-- the first of the name whose formals are of the kinds of the arguments, counted from n
abbrev pub overload : Environment → Numbers → ℕ → List Func → List ℕ → List Value → Option Numbered
overload env f n [] name xs = None
overload env f n (g ∷ gs) name xs = if bytes_eq g.name.text name && takes env (width_over f g.params 0) g.formals xs then Some (record { id = n; func = g }) else overload env f (n + 1) gs name xs

-- a subprogram of the program: D11 where it is as often active as it may be, then its parameters, and its body
abbrev pub call_one : Environment → Span → List Value → List Value → Numbered → Core → Does (Option Value)
call_one env span ps xs s c =
    lift (limit_of env span s.func.limit) c (λ limit. unless_full span s.id c.live limit
    (lift (params_of span (outside c) s.func ps xs) c (λ qs. run_with env span s.id s.func qs xs c)) c)

-- a subprogram of the library, or else one of the program
abbrev pub call_named : Environment → Span → List ℕ → List Value → List Value → Core → Option Routine → Does (Option Value)
call_named env span name ps xs c (Some r) = routine_gives (routine_value env.limit span r ps xs) c
call_named env span name ps xs c None = lift (known span (overload env (outside c) 0 (funcs_of env.decls) name xs)) c (λ s. call_one env span ps xs s c)

abbrev pub called : Environment → Span → List ℕ → List Value → List Value → Core → Does (Option Value)
called env span name ps xs c = call_named env span name ps xs c (routine_named name)

-- ---- all expressions

-- what expressions ask of a state
abbrev pub in_state : Environment → Asks Core Expr Stmt
in_state env = record { limit = env.limit; value = value_or_label env; types = λ c. types_of env; call = called env }

abbrev pub tree_parts : Views Expr FieldValue Slice Pattern TypeExpr
tree_parts = record { given = given_parts; slice = slice_parts; pattern = pattern_parts; written = type_parts }

abbrev pub expr_node : Environment → ExprLayer → Core → Does Value
expr_node env layer c = expr_plan (in_state env) tree_parts layer c

-- ---- statements, taken apart

abbrev pub cut : ℕ → Core → Core
cut n c = record c { frame = take n c.frame }

abbrev pub frames : Frames Core
frames = record { height = λ c. length c.frame; cut = cut; handled = λ c. c.handled; with_handled = λ xs c. record c { handled = xs } }

abbrev pub branch_layer : st.ElseIf-F Alternative Catcher ElseIf Otherwise Stmt → Branch Expr Stmt
branch_layer (st.ElseIf e ss) = record { condition = e; body = ss }

abbrev pub branch_in : ElseIf → Branch Expr Stmt
branch_in b = branch_layer (out-ElseIf b)

abbrev pub choice_layer : Environment → st.Alternative-F Alternative Catcher ElseIf Otherwise Stmt → Choice Expr Stmt
choice_layer env (st.When ps e ss) = record { exprs = exprs_in_patterns ps; matches = is_matched env.limit (shapes_of_patterns ps); condition = e; body = ss }

abbrev pub choice_in : Environment → Alternative → Choice Expr Stmt
choice_in env a = choice_layer env (out-Alternative a)

abbrev pub otherwise_layer : st.Otherwise-F Alternative Catcher ElseIf Otherwise Stmt → Option (List Stmt)
otherwise_layer st.NoOtherwise = None
otherwise_layer (st.Otherwise ss) = Some ss

abbrev pub otherwise_in : Otherwise → Option (List Stmt)
otherwise_in o = otherwise_layer (out-Otherwise o)

-- the exception gets the name of its catcher, under the type that the catcher names
abbrev pub caught_as : Environment → Ident → List ℕ → Value → Core → Pure Core
caught_as env i name x c = known i.span (types_of env name) >>= λ T. declare i.span i.text false (Some (of_type T)) x c

abbrev pub catch_layer : Environment → st.Catcher-F Alternative Catcher ElseIf Otherwise Stmt → Catch Core Stmt
catch_layer env (st.Catch o t ss) = record { caught = t.text; named = option_map (λ i. caught_as env i t.text) o; body = ss }

abbrev pub catch_in : Environment → Catcher → Catch Core Stmt
catch_in env h = catch_layer env (out-Catcher h)

abbrev pub item_in : PrintItem → Item Expr
item_in (Verbatim span t) = Written (string_text t)
item_in (Shown e) = Valued e

-- the index of a loop holds integers, and can't be assigned
abbrev pub with_index : Ident → Value → Core → Pure Core
with_index i x c = declare i.span i.text false (Some (of_value x)) x c

-- ---- assignments

-- a step into a value, with the place of its faults
pub data Step : Type 0 where
  into_field : Span → List ℕ → Step
  into_fields : Span → List Ident → Step
  into_slices : Span → List SliceShape → List Value → Step
  into_element : Span → Value → Step

-- a value with another at the end of these steps, which is stored as what it replaces was
abbrev pub updated : Environment → Span → List Step → Value → Value → Pure Value
updated env at [] y x = there at (kept (of_value x) y)
updated env at (into_field span f ∷ ss) y x = field_of span f x >>= λ q. updated env at ss y q >>= λ r. with_field (types_of env) span f r x
updated env at (into_fields span is ∷ ss) y x = bitfields_named span is x >>= λ fs. bitfields_of env.limit span fs x >>= λ q. updated env at ss y q >>= λ r. with_bitfields env.limit span fs r x
updated env at (into_slices span sl zs ∷ ss) y x = slice_places env.limit span sl zs x >>= λ ps. bits_at span ps x >>= λ q. updated env at ss y q >>= λ r. with_slices env.limit span sl zs r x
updated env at (into_element span i ∷ ss) y x = element_of span x i >>= λ q. updated env at ss y q >>= λ r. with_element span r x i

-- a store at the end of these steps into a name
abbrev pub store_at : Environment → Ident → Value → List Step → Core → Pure Core
store_at env i y ss c = held i.span i.text c >>= λ x. updated env i.span ss y x >>= λ z. store i.span i.text z c

abbrev pub step_of : Span → Suffix → Ahead Expr Step
step_of span (FieldOf f) = ready (into_field span f.text)
step_of span (ElementOf e) = by_one e (λ x. into_element span x)
step_of span (FieldsOf fs) = ready (into_fields span fs)
step_of span (SlicesOf sl) = by_all (exprs_in slice_parts sl) (λ zs. into_slices span (shapes_in slice_parts sl) zs)

-- the faults of a step stand at the target up to it
abbrev pub steps_of : Ident → List PlacedSuffix → List (Ahead Expr Step)
steps_of i [] = []
steps_of i (x ∷ xs) = step_of (up_to i x.end) x.suffix ∷ steps_of i xs

-- the stores of a value that is assigned, where a tuple has as many parts as the target
abbrev pub Stores : Type 0
Stores = List (Store Core Expr Step)

abbrev pub Assigning : Type 0
Assigning = Environment → Span → Value → Pure Stores

abbrev pub assign_each : List Assigning → Environment → Span → List Value → Pure Stores
assign_each [] env span [] = Good []
assign_each [] env span (x ∷ xs) = Bad (Stuck WrongKind span)
assign_each (t ∷ ts) env span [] = Bad (Stuck WrongKind span)
assign_each (t ∷ ts) env span (x ∷ xs) = t env span x >>= λ ps. assign_each ts env span xs >>= λ qs. Good (ps ++ qs)

abbrev pub assigning_layer : tg.Target-F Assigning → Assigning
assigning_layer (tg.Discarded at) env span x = Good []
assigning_layer (tg.Place at i xs) env span x = Good (record { steps = steps_of i xs; put = store_at env i x } ∷ [])
assigning_layer (tg.Targets at ts) env span x = parts span x >>= λ xs. assign_each ts env span xs

abbrev pub assigned : Target → Assigning
assigned = fold-Target Assigning assigning_layer

-- ---- all statements

abbrev pub stmt_node : Environment → StmtLayer → Core → Does Exit
stmt_node env (st.Pass span) c = done_normal c
stmt_node env (st.Unreachable span) c = Stop (Faulted D15 span) c
stmt_node env (st.Assert span e) c = assertion span e c
stmt_node env (st.Local span kind b t e) c = with_value e (bound_to env span b (is_var kind) t) c
stmt_node env (st.LocalVars span iss t) c = with_values (sizes_in t) (declare_first env span iss t) c
stmt_node env (st.Assign span t e) c = assignment e (assigned t env span) c
stmt_node env (st.Invoke span i ps es) c = call ps es c (called env span i.text) (procedure_gives span)
stmt_node env (st.If span e ss others last) c = branch frames span e ss (branches frames branch_in span others last) c
stmt_node env (st.Case span e alts o) c = case_of frames (choice_in env) span e alts (otherwise_in o) c
stmt_node env (st.For span i a d b l ss) c = for_loop frames (with_index i) span a d b l ss c
stmt_node env (st.While span e l ss) c = while_loop frames span e l ss c
stmt_node env (st.Repeat span ss e l) c = repeat_loop frames span ss e l c
stmt_node env (st.Return span o) c = return_value o c
stmt_node env (st.Throw span o) c = throw frames span o c
stmt_node env (st.Try span ss hs o) c = try_list frames (catch_in env) ss hs (otherwise_in o) c
stmt_node env (st.Print span kind iss) c = print_items item_in kind iss c

-- where a node stands
abbrev pub stmt_layer_span : StmtLayer → Span
stmt_layer_span (st.Pass span) = span
stmt_layer_span (st.Unreachable span) = span
stmt_layer_span (st.Assert span e) = span
stmt_layer_span (st.Local span k b t e) = span
stmt_layer_span (st.LocalVars span iss t) = span
stmt_layer_span (st.Assign span t e) = span
stmt_layer_span (st.Invoke span i ps xs) = span
stmt_layer_span (st.If span c ss es zs) = span
stmt_layer_span (st.Case span e ass o) = span
stmt_layer_span (st.For span i a d b l ss) = span
stmt_layer_span (st.While span e l ss) = span
stmt_layer_span (st.Repeat span ss e l) = span
stmt_layer_span (st.Return span e) = span
stmt_layer_span (st.Throw span e) = span
stmt_layer_span (st.Try span ss cs o) = span
stmt_layer_span (st.Print span k iss) = span

abbrev pub stmt_span : Stmt → Span
stmt_span s = stmt_layer_span (out-Stmt s)

-- what the nodes of a program do, and what they mean where at most d more may be open
abbrev pub nodes : Environment → Nodes Core Expr Stmt
nodes env = record {
  expr_at = expr_span;
  stmt_at = stmt_span;
  expr = λ e c. expr_node env (out-Expr e) c;
  stmt = λ s c. stmt_node env (out-Stmt s) c;
}

abbrev pub meaning : Environment → ℕ → Meaning Core Expr Stmt
meaning env d = meanings (nodes env) d

abbrev pub cutting : Environment → ℕ → Cutting Core Expr Stmt
cutting env d = cuttings (nodes env) d

-- ---- calls from outside

-- a call from outside, of a subprogram without parameters, which no limit refuses
abbrev pub call_of : Environment → ℕ → List Value → Core → Does (Option Value)
call_of env id args c = lift (known origin (slice_get (funcs_of env.decls) id)) c (λ f. run_with env f.name.span id f [] args c)

-- ---- globals

-- what global storage holds
abbrev pub global_under : Option TypeExpr → Ty → Value → Under
global_under None T x = of_value x
global_under (Some t) T x = of_type (closed T)

abbrev pub global_with : StorageDecl → Ty → Value → Binding
global_with d T x = record { name = d.name.text; value = x; under = global_under d.ty T x; is_mutable = programs.is_var d.kind }

abbrev pub global_in : StorageDecl → Option Storage → Option Binding
global_in d o = option_and_then (λ (s : Storage). option_map (global_with d s.ty) s.initial) o

abbrev pub cons_some : Option Binding → List Binding → List Binding
cons_some None bs = bs
cons_some (Some b) bs = b ∷ bs

abbrev pub globals_among : List Decl → List Entry → List Binding
globals_among [] names = []
globals_among (dc.Type d ∷ ds) names = globals_among ds names
globals_among (dc.Storage d ∷ ds) names = cons_some (global_in d (storage_of d.name.text names)) (globals_among ds names)
globals_among (dc.Func f ∷ ds) names = globals_among ds names

-- the globals before the first call, in source order
abbrev pub initial_globals : Environment → List Binding
initial_globals env = globals_among env.decls env.names
