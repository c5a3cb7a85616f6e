-- What a run finds by names and by values at a node is what the typed tree of the node has: the subprogram that is called, with the values of its parameters; the
-- place of a field; the bitfields that a view has under their names; and the places of the values that a construction gives to its fields.
use Rattle.std.specs.Prelude.{◌≡◌, ℕ, zero, suc, true, false, ◌⊎◌, List, [], ◌∷◌, Some, None, slice_get, ℤ, ◌++◌}
use Rattle.std.specs.Str.{bytes_eq}
use Rattle.asl_syn.specs.declared.token.Span.{Span}
use Rattle.asl_syn.specs.declared.tree.Expr.{Expr}
use Rattle.asl_syn.specs.declared.tree.Func.{Func}
use Rattle.asl_syn.specs.declared.tree.Bitfield.TheOpen as ex
use Rattle.asl_syn.specs.declared.tree.Alternative.TheOpen as st
use Rattle.asl_syn.specs.Layers.{ExprLayer, StmtLayer}
use Rattle.asl_rules.specs.types.Types.{BitField}
use Rattle.asl_rules.specs.types.Shaped.{exprs_in, shapes_in, given_parts}
use Rattle.asl_rules.specs.types.Numbers.{outside}
use Rattle.asl_rules.specs.declarations.Routines.{routine_named}
use Rattle.asl_rules.specs.declarations.Programs.{Environment, funcs_of}
use Rattle.asl_rules.specs.runs.Trees as tree
use Rattle.asl_rules.specs.runs.Trees.{Note, Tree, Trees, Callee, own, of_library, Shell, FieldGiven, Act, TreeStep, into_field, into_bitfield, into_bitfields, into_slices, into_element, TreePlace}
use Rattle.asl_rules.specs.values.Values.{Value, FieldValues, int, bool, bits_with, label, record_with, exception_with, tuple_with, array_with, no_value_of, value_of_field}
use Rattle.asl_rules.specs.values.Vectors.{view_of, named_among, bitfields_named, bits_at, Places}
use Rattle.asl_rules.specs.values.Structures.{constructed, field_of, element_of}
use Rattle.asl_rules.specs.runs.States.{Core}
use Rattle.asl_rules.specs.runs.Plans.{Meter, Outcome, Done, Thrown, Halt, Ret, Good, run}
use Rattle.asl_rules.specs.runs.Forms.{eval_all}
use Rattle.asl_rules.specs.runs.Evaluation.{Does, meaning, overload, params_of, types_of, held}
use Rattle.asl_rules.specs.private.ByPlace as places
use Rattle.asl_rules.specs.private.TypedMeaning as bare
use Rattle.asl_syn.specs.declared.tree.Ident.{Ident}
use Rattle.asl_syn.specs.declared.tree.Suffix.{Suffix}
use Rattle.asl_syn.specs.declared.tree.Suffix.TheVariants.{FieldOf, FieldsOf, SlicesOf, ElementOf}
use Rattle.asl_syn.specs.declared.tree.PlacedSuffix.{PlacedSuffix}
use Rattle.asl_syn.specs.declared.tree.Target.{Target, fold-Target}
use Rattle.asl_syn.specs.declared.tree.Target.TheOpen as tg
use Rattle.asl_rules.specs.types.Shapes.{SliceShape}
use Rattle.asl_rules.specs.private.Erasure.{erased}

-- ---- when it is found

-- where a run gives something, it is so
abbrev pub Gave : {A : Type 0} → (A → Core → Type 0) → Outcome Core A → Type 0
Gave P (Done x c h) = P x c
Gave P (Thrown x c h) = Unit {0}
Gave P (Halt e c h) = Unit {0}

-- where an expression gives a value, and where several do, however many nodes may be open and whatever the meter is
abbrev pub OfValue : Environment → Expr → Core → (Value → Type 0) → Type 0
OfValue env e c P = (d : ℕ) (h : Meter) → Gave (λ x c1. P x) ((meaning env d).expr e c h)

abbrev pub OfValues : Environment → List Expr → Core → (List Value → Type 0) → Type 0
OfValues env es c P = (d : ℕ) (h : Meter) → Gave (λ xs c1. P xs) (run (meaning env d) (eval_all es [] c (λ xs c1. Ret xs c1)) h)

-- ---- calls

-- the parameters in braces and the arguments, in order
abbrev pub both_given : List Expr → List Expr → Core → Does (List Value × List Value)
both_given ps es c = eval_all ps [] c (λ ys c1. eval_all es [] c1 (λ xs c2. Ret (ys, xs) c2))

-- of these values the subprogram of this number is the one that the run finds, and its parameters are those that the tree takes, from the braces or from the
-- arguments in these places
pub record FindsOwn (env : Environment) (span : Span) (name : List ℕ) (id : ℕ) (widths : List ℕ) (ys xs : List Value) (c : Core) : Type 0 where
  pub func : Func
  pub is_found : overload env (outside c) 0 (funcs_of env.decls) name xs ≡ Some (record { id = id; func = func })
  pub params : List Value
  pub params_are : params_of span (outside c) func ys xs ≡ Good params
  pub tree_has : bare.params_of span widths ys xs ≡ Good params

abbrev pub FindsCallee : Environment → Span → List ℕ → Callee → List ℕ → List Value → List Value → Core → Type 0
FindsCallee env span name (own id) widths ys xs c = (routine_named name ≡ None) × FindsOwn env span name id widths ys xs c
FindsCallee env span name (of_library r) widths ys xs c = routine_named name ≡ Some r

abbrev pub CallFinds : Environment → Span → List ℕ → List Expr → List Expr → Callee → List ℕ → Core → Type 0
CallFinds env span name ps es callee widths c =
    (d : ℕ) (h : Meter) → Gave (λ v c1. FindsCallee env span name callee widths v.0 v.1 c1) (run (meaning env d) (both_given ps es c) h)

-- ---- fields and bitfields

-- the field of this name is the one in this place
abbrev pub IsFieldAt : List ℕ → ℕ → FieldValues → Type 0
IsFieldAt f i no_value_of = ⊥
IsFieldAt f zero (value_of_field g x xs) = bytes_eq g f ≡ true
IsFieldAt f (suc i) (value_of_field g x xs) = (bytes_eq g f ≡ false) × IsFieldAt f i xs

abbrev pub HasFieldAt : List ℕ → ℕ → Value → Type 0
HasFieldAt f i (record_with name xs) = IsFieldAt f i xs
HasFieldAt f i (exception_with built supers name xs) = IsFieldAt f i xs
HasFieldAt f i (int z) = ⊥
HasFieldAt f i (bool b) = ⊥
HasFieldAt f i (bits_with bs v) = ⊥
HasFieldAt f i (label n l) = ⊥
HasFieldAt f i (tuple_with xs) = ⊥
HasFieldAt f i (array_with k xs) = ⊥

-- the view of bits has this bitfield under this name
abbrev pub HasBitfield : List ℕ → BitField → Value → Type 0
HasBitfield f b x = (v : _) × (view_of x ≡ Some v) × (named_among f v ≡ Some b)

-- ---- constructions

-- each field is given the value that stands under its name
abbrev pub GivenByName : List (List ℕ) → List FieldGiven → Type 0
GivenByName names [] = Unit {0}
GivenByName names (g ∷ gs) = (slice_get names g.place ≡ Some g.name) × GivenByName names gs

-- ---- places of assignments

-- behind a suffix of a target, for a value that the part before it may have: the tree's step, with the place of the field, or with the bitfields that the view has
-- under their names; and so behind the next suffix, for what the value has there
abbrev pub SuffixFinds : Suffix → List TreeStep → Value → (List TreeStep → Value → Type 0) → Type 0
SuffixFinds (FieldOf f) ss x next =
    ((at : Span) × (k : ℕ) × (more : List TreeStep) × (ss ≡ into_field at k ∷ more) × HasFieldAt f.text k x × ((y : Value) → field_of at f.text x ≡ Good y → next more y))
    ⊎ ((at : Span) × (b : BitField) × (more : List TreeStep) × (ss ≡ into_bitfield at b ∷ more) × HasBitfield f.text b x × ((ps : List Places) (y : Value) → bits_at at ps x ≡ Good y → next more y))
SuffixFinds (FieldsOf is) ss x next =
    (at : Span) × (fs : List BitField) × (more : List TreeStep) × (ss ≡ into_bitfields at fs ∷ more) × (bitfields_named at is x ≡ Good fs) × ((ps : List Places) (y : Value) → bits_at at ps x ≡ Good y → next more y)
SuffixFinds (SlicesOf sl) ss x next =
    (at : Span) × (shapes : List SliceShape) × (es : Trees) × (more : List TreeStep) × (ss ≡ into_slices at shapes es ∷ more) × ((ps : List Places) (y : Value) → bits_at at ps x ≡ Good y → next more y)
SuffixFinds (ElementOf e) ss x next =
    (at : Span) × (a : Tree) × (more : List TreeStep) × (ss ≡ into_element at a ∷ more) × ((z : ℤ) (y : Value) → element_of at x (int z) ≡ Good y → next more y)

abbrev pub SuffixesFind : List PlacedSuffix → List TreeStep → Value → Type 0
SuffixesFind [] ss x = ss ≡ []
SuffixesFind (p ∷ ps) ss x = SuffixFinds p.suffix ss x (SuffixesFind ps)

-- the places of a target from left to right, each a name with its suffixes
abbrev pub NamedPlaces : Type 0
NamedPlaces = List (Ident × List PlacedSuffix)

abbrev pub all_named : List NamedPlaces → NamedPlaces
all_named [] = []
all_named (ps ∷ pss) = ps ++ all_named pss

abbrev pub named_layer : tg.Target-F NamedPlaces → NamedPlaces
named_layer (tg.Discarded at) = []
named_layer (tg.Place at i xs) = (i, xs) ∷ []
named_layer (tg.Targets at ts) = all_named ts

abbrev pub named_places : Target → NamedPlaces
named_places = fold-Target NamedPlaces named_layer

-- in each such state the tree's place holds the value of the name, and its steps are what is found in it
abbrev pub PlaceFinds : (Core → Type 0) → Ident × List PlacedSuffix → TreePlace → Type 0
PlaceFinds P q p = (c : Core) (x : Value) → P c → held (q.0).span (q.0).text c ≡ Good x → (bare.value_at p.slot (erased c) ≡ Some x) × SuffixesFind q.1 p.steps x

abbrev pub PlacesFind : (Core → Type 0) → NamedPlaces → List TreePlace → Type 0
PlacesFind P [] ps = ps ≡ []
PlacesFind P (q ∷ qs) [] = ⊥
PlacesFind P (q ∷ qs) (p ∷ ps) = PlaceFinds P q p × PlacesFind P qs ps

-- ---- all forms

abbrev pub ExprChosen : Environment → ExprLayer → Tree → Core → Type 0
ExprChosen env (ex.Int span n) a c = Unit {0}
ExprChosen env (ex.Bits span text) a c = Unit {0}
ExprChosen env (ex.Bool span b) a c = Unit {0}
ExprChosen env (ex.Name span name) a c = Unit {0}
ExprChosen env (ex.Unary span o e) a c = Unit {0}
ExprChosen env (ex.Binary span o e f) a c = Unit {0}
ExprChosen env (ex.Conditional span e f g) a c = Unit {0}
ExprChosen env (ex.Tuple span es) a c = Unit {0}
ExprChosen env (ex.Construct span i fs) a c =
    (n : Note) × (s : Shell) × (gs : List FieldGiven) × (es : Trees) × (a ≡ tree.Construct n s gs es) × GivenByName (shapes_in given_parts fs) gs
    × OfValues env (exprs_in given_parts fs) c (λ xs. constructed span (types_of env i.text) (shapes_in given_parts fs) xs ≡ places.constructed span s gs xs)
ExprChosen env (ex.Call span i ps es) a c =
    (n : Note) × (f : Callee) × (widths : List ℕ) × (ts : Trees) × (us : Trees) × (a ≡ tree.Call n f widths ts us) × CallFinds env span i.text ps es f widths c
ExprChosen env (ex.Field span e i) a c =
    ((n : Note) × (b : Tree) × (k : ℕ) × (a ≡ tree.Field n b k) × OfValue env e c (HasFieldAt i.text k))
    ⊎ ((n : Note) × (b : Tree) × (f : BitField) × (a ≡ tree.Bitfield n b f) × OfValue env e c (HasBitfield i.text f))
ExprChosen env (ex.Fields span e is) a c = (n : Note) × (b : Tree) × (fs : List BitField) × (a ≡ tree.Bitfields n b fs) × OfValue env e c (λ x. bitfields_named span is x ≡ Good fs)
ExprChosen env (ex.Slices span e ss) a c = Unit {0}
ExprChosen env (ex.Element span e f) a c = Unit {0}
ExprChosen env (ex.As span e ty) a c = Unit {0}
ExprChosen env (ex.In span e p) a c = Unit {0}

-- of a statement; what an assignment finds is said for each of the states that agree with its scope
abbrev pub StmtChosen : Environment → (Core → Type 0) → StmtLayer → Act → Core → Type 0
StmtChosen env P (st.Pass span) a c = Unit {0}
StmtChosen env P (st.Unreachable span) a c = Unit {0}
StmtChosen env P (st.Assert span e) a c = Unit {0}
StmtChosen env P (st.Local span kind b ty e) a c = Unit {0}
StmtChosen env P (st.LocalVars span is ty) a c = Unit {0}
StmtChosen env P (st.Assign span x e) a c = (at : Span) × (ps : List TreePlace) × (b : Tree) × (a ≡ tree.Assign at ps b) × PlacesFind P (named_places x) ps
StmtChosen env P (st.Invoke span i ps es) a c =
    (at : Span) × (f : Callee) × (widths : List ℕ) × (ts : Trees) × (us : Trees) × (a ≡ tree.Invoke at f widths ts us) × CallFinds env span i.text ps es f widths c
StmtChosen env P (st.If span e ss es last) a c = Unit {0}
StmtChosen env P (st.Case span e alts last) a c = Unit {0}
StmtChosen env P (st.For span i e d f limit ss) a c = Unit {0}
StmtChosen env P (st.While span e limit ss) a c = Unit {0}
StmtChosen env P (st.Repeat span ss e limit) a c = Unit {0}
StmtChosen env P (st.Return span e) a c = Unit {0}
StmtChosen env P (st.Throw span e) a c = Unit {0}
StmtChosen env P (st.Try span ss cs last) a c = Unit {0}
StmtChosen env P (st.Print span kind is) a c = Unit {0}
