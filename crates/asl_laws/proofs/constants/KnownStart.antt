-- As a run begins, each name has the value that it has before any run: what stands for storage outside bodies comes from its declaration.
use Rattle.std.proofs.Common.{◌≡◌, ℕ, Bool, true, false, cond, ◌⊎◌, inl, inr, List, [], ◌∷◌, Option, Some, None, Ok, Err, refl, sym, ap, ◌∙◌, subst}
use Rattle.std.specs.Prelude.{Result, length, option_map, option_and_then}
use Rattle.std.specs.Str.{bytes_eq}
use Rattle.asl_syn.specs.declared.code.Fault.{Fault}
use Rattle.asl_syn.specs.declared.tree.Ident.{Ident}
use Rattle.asl_syn.specs.declared.tree.TypeDef.{TypeDef}
use Rattle.asl_syn.specs.declared.tree.TypeDef.TheVariants as td
use Rattle.asl_syn.specs.declared.tree.StorageDecl.{StorageDecl}
use Rattle.asl_syn.specs.declared.tree.Decl.{Decl}
use Rattle.asl_syn.specs.declared.tree.Decl.TheVariants as dc
use Rattle.asl_rules.specs.Faults.{◌>>=◌}
use Rattle.asl_rules.specs.Tests.{Tests}
use Rattle.asl_rules.specs.types.Types.{Ty, named, structure}
use Rattle.asl_rules.specs.values.Values.{Value}
use Rattle.asl_rules.specs.declarations.Scopes.{Entry, Standing, Stored, Subprogram, TypeName, Label, Storage, Scope, standing_of, storage_in, storage_of}
use Rattle.asl_rules.specs.declarations.Declarations.{def_rule, supertype_rule, label_entries, type_entries, storage_rule, decl_rule, in_names}
use Rattle.asl_rules.specs.declarations.Declarations as decl
use Rattle.asl_rules.specs.runs.States.{Binding, resting}
use Rattle.asl_rules.specs.declarations.Constants.{initial_value}
use Rattle.asl_rules.specs.runs.Evaluation.{value_of, or_value, label_in, global_with, global_in, cons_some, globals_among}
use Rattle.asl_laws.specs.BeforeRuns.{HoldsInitial, BeginsSo}
use Rattle.asl_laws.specs.Evaluated.{names_after}
use Rattle.asl_rules.proofs.basics.Tests.{same_name, name_is, no}
use Rattle.asl_rules.proofs.verdict.Distinct.{In}
use Rattle.asl_rules.proofs.verdict.EachName.{EachName, name_has, visible_have}

-- ---- what stands for storage has a name with P

abbrev One : (List ℕ → Type 0) → List ℕ → Standing → Type 0
One P name (Stored s) = P name
One P name Subprogram = Unit {0}
One P name (TypeName T) = Unit {0}
One P name (Label T x) = Unit {0}

abbrev From : (List ℕ → Type 0) → List Entry → Type 0
From P es = EachName (λ e. One P e.name e.standing) es

one_more : (P Q : List ℕ → Type 0) → ((name : List ℕ) → P name → Q name) → (name : List ℕ) (s : Standing) → One P name s → One Q name s
one_more P Q f name (Stored s) a = f name a
one_more P Q f name Subprogram a = tt
one_more P Q f name (TypeName T) a = tt
one_more P Q f name (Label T x) a = tt

from_more : (P Q : List ℕ → Type 0) → ((name : List ℕ) → P name → Q name) → (es : List Entry) → From P es → From Q es
from_more P Q f [] a = tt
from_more P Q f (e ∷ es) a = (one_more P Q f e.name e.standing a.0, from_more P Q f es a.1)

-- ---- declarations

abbrev IsStorage : Decl → List ℕ → Type 0
IsStorage (dc.Type d) name = ⊥
IsStorage (dc.Storage d) name = d.name.text ≡ name
IsStorage (dc.Func f) name = ⊥

abbrev HasStorage : List Decl → List ℕ → Type 0
HasStorage [] name = ⊥
HasStorage (d ∷ ds) name = IsStorage d name ⊎ HasStorage ds name

has_storage : (ds : List Decl) (d : Decl) (name : List ℕ) → In d ds → IsStorage d name → HasStorage ds name
has_storage [] d name i h = absurd i
has_storage (e ∷ ds) d name (inl q) h = inl (subst (λ z. IsStorage z name) (sym q) h)
has_storage (e ∷ ds) d name (inr i) h = inr (has_storage ds d name i h)

abbrev OkFrom : Decl → Result (List Entry) Fault → Type 0
OkFrom d (Ok es) = From (IsStorage d) es
OkFrom d (Err f) = Unit {0}

bind_from : {A : Type 0} (d : Decl) (r : Result A Fault) (k : A → Result (List Entry) Fault) → ((x : A) → OkFrom d (k x)) → OkFrom d (r >>= k)
bind_from d (Ok x) k f = f x
bind_from d (Err e) k f = tt

from_labels : (P : List ℕ → Type 0) (def : TypeDef) (name : List ℕ) (T : Ty) → From P (label_entries def name T)
from_labels P (td.Labels span is) name T = all is
  where
    all : (is : List Ident) → From P (label_entries (td.Labels span is) name T)
    all [] = tt
    all (i ∷ is) = (tt, all is)
from_labels P (td.Alias ty) name T = tt
from_labels P (td.Record span fs) name T = tt
from_labels P (td.Exception span fs) name T = tt

decl_from : (t : Tests) (d : Decl) (G : Scope) → OkFrom d (decl_rule t d G)
decl_from t (dc.Type d) G = bind_from (dc.Type d) (def_rule t d.name.text d.def G) _ (λ T. bind_from (dc.Type d) (supertype_rule t d.supertype T G) (λ supers. Ok (type_entries d (named d.name.text supers (structure T)))) (λ supers. (tt, from_labels (IsStorage (dc.Type d)) d.def d.name.text (named d.name.text supers (structure T)))))
decl_from t (dc.Storage d) G = bind_from (dc.Storage d) (storage_rule t d (decl.is_var d.kind) d.ty d.init G) _ (λ s. (refl, tt))
decl_from t (dc.Func f) G = (tt, tt)

-- after any number of turns each name of storage is that of a declaration
names_from : (t : Tests) (n : ℕ) (ds : List Decl) → From (HasStorage ds) (names_after t n ds)
names_from t n ds =
    visible_have (λ e. One (HasStorage ds) e.name e.standing) (λ m. tt) t ds (λ d i. has_storage ds (dc.Storage d) d.name.text i refl)
    (λ d i names a es h.
    let own : From (IsStorage d) es = subst (OkFrom d) h (decl_from t d (in_names names)) in
    from_more (IsStorage d) (HasStorage ds) (λ name k. has_storage ds d name i k) es own) n

-- ---- the globals as a run begins

-- a binding under another name
other_one : (d : StorageDecl) (T : Ty) (o : Option Value) (name : List ℕ) (rest : List Binding) → bytes_eq d.name.text name ≡ false → value_of name (cons_some (option_map (global_with d T) o) rest) ≡ value_of name rest
other_one d T None name rest is = refl
other_one d T (Some x) name rest is = ap (λ b. cond b (Some x) (value_of name rest)) is

other_is : (d : StorageDecl) (o : Option Storage) (name : List ℕ) (rest : List Binding) → bytes_eq d.name.text name ≡ false → value_of name (cons_some (global_in d o) rest) ≡ value_of name rest
other_is d None name rest is = refl
other_is d (Some s) name rest is = other_one d s.ty s.initial name rest is

-- what is held under a name
abbrev held_by : Option Storage → Option Value
held_by o = option_and_then (λ (s : Storage). s.initial) o

same_one : (d : StorageDecl) (T : Ty) (o : Option Value) (name : List ℕ) (rest : List Binding) → bytes_eq d.name.text name ≡ true → value_of name (cons_some (option_map (global_with d T) o) rest) ≡ or_value o (value_of name rest)
same_one d T None name rest is = refl
same_one d T (Some x) name rest is = ap (λ b. cond b (Some x) (value_of name rest)) is

same_is : (d : StorageDecl) (o : Option Storage) (name : List ℕ) (rest : List Binding) → bytes_eq d.name.text name ≡ true → value_of name (cons_some (global_in d o) rest) ≡ or_value (held_by o) (value_of name rest)
same_is d None name rest is = refl
same_is d (Some s) name rest is = same_one d s.ty s.initial name rest is

-- none is held, so there is none
absent_in : (names : List Entry) (name : List ℕ) (d : StorageDecl) (rest : List Binding) → held_by (storage_of name names) ≡ None → value_of name rest ≡ None → (b : Bool) → bytes_eq d.name.text name ≡ b → value_of name (cons_some (global_in d (storage_of d.name.text names)) rest) ≡ None
absent_in names name d rest h r true is = same_is d (storage_of d.name.text names) name rest is
    ∙ ap (λ n. or_value (held_by (storage_of n names)) (value_of name rest)) (same_name d.name.text name is)
    ∙ ap (λ o. or_value o (value_of name rest)) h ∙ r
absent_in names name d rest h r false is = other_is d (storage_of d.name.text names) name rest is ∙ r

absent : (names : List Entry) (name : List ℕ) → held_by (storage_of name names) ≡ None → (ds : List Decl) → value_of name (globals_among ds names) ≡ None
absent names name h [] = refl
absent names name h (dc.Type d ∷ ds) = absent names name h ds
absent names name h (dc.Func f ∷ ds) = absent names name h ds
absent names name h (dc.Storage d ∷ ds) = absent_in names name d (globals_among ds names) h (absent names name h ds) (bytes_eq d.name.text name) refl

-- one is held by what a declaration names
present_in : (names : List Entry) (name : List ℕ) (x : Value) (d : StorageDecl) (ds : List Decl) → held_by (storage_of name names) ≡ Some x → (HasStorage ds name → value_of name (globals_among ds names) ≡ Some x) → (b : Bool) → bytes_eq d.name.text name ≡ b → IsStorage (dc.Storage d) name ⊎ HasStorage ds name → value_of name (cons_some (global_in d (storage_of d.name.text names)) (globals_among ds names)) ≡ Some x
present_in names name x d ds h r true is w = same_is d (storage_of d.name.text names) name (globals_among ds names) is
    ∙ ap (λ n. or_value (held_by (storage_of n names)) (value_of name (globals_among ds names))) (same_name d.name.text name is)
    ∙ ap (λ o. or_value o (value_of name (globals_among ds names))) h
present_in names name x d ds h r false is (inl w) = no (sym is ∙ ap (λ n. bytes_eq n name) w ∙ name_is name)
present_in names name x d ds h r false is (inr w) = other_is d (storage_of d.name.text names) name (globals_among ds names) is ∙ r w

present : (names : List Entry) (name : List ℕ) (x : Value) → held_by (storage_of name names) ≡ Some x → (ds : List Decl) → HasStorage ds name → value_of name (globals_among ds names) ≡ Some x
present names name x h [] w = absurd w
present names name x h (dc.Type d ∷ ds) (inl w) = absurd w
present names name x h (dc.Type d ∷ ds) (inr w) = present names name x h ds w
present names name x h (dc.Func f ∷ ds) (inl w) = absurd w
present names name x h (dc.Func f ∷ ds) (inr w) = present names name x h ds w
present names name x h (dc.Storage d ∷ ds) w = present_in names name x d ds h (present names name x h ds) (bytes_eq d.name.text name) refl w

-- one name
module _ (names : List Entry) (ds : List Decl) (from : From (HasStorage ds) names) (name : List ℕ) where
  abbrev Holds : Option Standing → Type 0
  Holds o = or_value (value_of name (globals_among ds names)) (label_in o) ≡ initial_value o

  none_held : (o : Option Standing) → standing_of name names ≡ o → held_by (storage_in o) ≡ None → label_in o ≡ initial_value o → Holds o
  none_held o is h e = ap (λ v. or_value v (label_in o)) (absent names name (ap (λ z. held_by (storage_in z)) is ∙ h) ds) ∙ e

  stored : (s : Storage) (i : Option Value) → s.initial ≡ i → standing_of name names ≡ Some (Stored s) → Holds (Some (Stored s))
  stored s None e is = none_held (Some (Stored s)) is e (sym e)
  stored s (Some x) e is =
      let of_decl : HasStorage ds name = name_has (One (HasStorage ds)) names name (Stored s) from is in
      ap (λ v. or_value v None) (present names name x (ap (λ z. held_by (storage_in z)) is ∙ e) ds of_decl) ∙ sym e

  each : (o : Option Standing) → standing_of name names ≡ o → Holds o
  each None is = none_held None is refl refl
  each (Some Subprogram) is = none_held (Some Subprogram) is refl refl
  each (Some (TypeName T)) is = none_held (Some (TypeName T)) is refl refl
  each (Some (Label T x)) is = none_held (Some (Label T x)) is refl refl
  each (Some (Stored s)) is = stored s s.initial refl is

-- after any number of turns
pub starts_at : (t : Tests) (n : ℕ) (ds : List Decl) →
    let names : List Entry = names_after t n ds in
    HoldsInitial (record { decls = ds; names = names; limit = t.limit }) (resting (globals_among ds names))
starts_at t n ds name = each (names_after t n ds) ds (names_from t n ds) name (standing_of name (names_after t n ds)) refl

-- and so as a run begins
pub starts : (t : Tests) (ds : List Decl) → BeginsSo t ds
starts t ds = starts_at t (length ds) ds
