-- Fields and labels that are built one by one.
use Rattle.std.proofs.Common.{◌≡◌, ℕ, List, [], ◌∷◌, ◌++◌, true, Result, Ok, Err, refl, sym, ap, ◌∙◌}
use Rattle.asl_syn.specs.declared.code.Fault.{Fault}
use Rattle.asl_syn.specs.declared.tree.Formal.{Formal}
use Rattle.asl_syn.specs.declared.tree.Ident.{Ident}
use Rattle.asl_rules.specs.Faults.{◌>>=◌}
use Rattle.asl_rules.specs.Tests.{Tests}
use Rattle.asl_rules.specs.types.Types as types
use Rattle.asl_rules.specs.types.Writing.{Written}
use Rattle.asl_rules.specs.declarations.Scopes.{Scope}
use Rattle.asl_rules.specs.expressions.Exprs.{written}
use Rattle.asl_rules.specs.declarations.Declarations.{labels, fields_written}
use Rattle.asl_types.specs.declared.ty.FieldType.{FieldType}
use Rattle.asl_types.specs.declared.ty.FieldType.TheVariants as field
use Rattle.asl_types.specs.View.{fields_of}
use Rattle.asl_judge.specs.private.Definitions.{fields_after, labels_after}

-- ---- fields

abbrev before : List FieldType → types.Fields → types.Fields
before [] Fs = Fs
before (field.Field n T ∷ xs) Fs = types.field n T (before xs Fs)

before_none : (xs : List FieldType) → before xs types.no_field ≡ fields_of xs
before_none [] = refl
before_none (field.Field n T ∷ xs) = ap (types.field n T) (before_none xs)

before_one : (xs : List FieldType) (n : List ℕ) (T : types.Ty) (Fs : types.Fields) → before (xs ++ field.Field n T ∷ []) Fs ≡ before xs (types.field n T Fs)
before_one [] n T Fs = refl
before_one (field.Field m U ∷ xs) n T Fs = ap (types.field m U) (before_one xs n T Fs)

abbrev good : {A : Type 0} → A → Result A Fault
good x = Ok x

abbrev seen : Result (List FieldType) Fault → Result types.Fields Fault
seen r = r >>= λ xs. Ok (fields_of xs)

abbrev behind : List FieldType → Result types.Fields Fault → Result types.Fields Fault
behind xs r = r >>= λ Fs. Ok (before xs Fs)

one_more : (xs : List FieldType) (n : List ℕ) (T : types.Ty) (r : Result types.Fields Fault) → behind (xs ++ field.Field n T ∷ []) r ≡ behind xs (r >>= λ Fs. Ok (types.field n T Fs))
one_more xs n T (Ok Fs) = ap good (before_one xs n T Fs)
one_more xs n T (Err e) = refl

by_type : (t : Tests) (xs : List FieldType) (n : List ℕ) (fs : List Formal) (G : Scope) (r : Result Written Fault) →
    ((T : types.Ty) → seen (fields_after t (xs ++ field.Field n T ∷ []) fs G) ≡ behind (xs ++ field.Field n T ∷ []) (fields_written t fs G)) →
    seen ((r >>= λ W. Ok W.ty) >>= λ T. fields_after t (xs ++ field.Field n T ∷ []) fs G) ≡ behind xs (r >>= λ W. fields_written t fs G >>= λ Fs. Ok (types.field n W.ty Fs))
by_type t xs n fs G (Ok W) h = h W.ty ∙ one_more xs n W.ty (fields_written t fs G)
by_type t xs n fs G (Err e) h = refl

fields_behind : (t : Tests) (fs : List Formal) (xs : List FieldType) (G : Scope) → seen (fields_after t xs fs G) ≡ behind xs (fields_written t fs G)
fields_behind t [] xs G = ap good (sym (before_none xs))
fields_behind t (f ∷ fs) xs G = by_type t xs f.name.text fs G (written t f.ty true G) (λ T. fields_behind t fs (xs ++ field.Field f.name.text T ∷ []) G)

behind_nothing : (r : Result types.Fields Fault) → behind [] r ≡ r
behind_nothing (Ok Fs) = refl
behind_nothing (Err e) = refl

fields_are : (t : Tests) (fs : List Formal) (G : Scope) → fields_written t fs G ≡ seen (fields_after t [] fs G)
fields_are t fs G = sym (fields_behind t fs [] G ∙ behind_nothing (fields_written t fs G))

-- the fields one by one are all of them
pub fields_good : (t : Tests) (fs : List Formal) (G : Scope) (xs : List FieldType) → fields_after t [] fs G ≡ Ok xs → fields_written t fs G ≡ Ok (fields_of xs)
fields_good t fs G xs h = fields_are t fs G ∙ ap seen h

pub fields_bad : (t : Tests) (fs : List Formal) (G : Scope) (e : Fault) → fields_after t [] fs G ≡ Err e → fields_written t fs G ≡ Err e
fields_bad t fs G e h = fields_are t fs G ∙ ap seen h

-- ---- names

append_one : (xs : List (List ℕ)) (n : List ℕ) (ns : List (List ℕ)) → (xs ++ n ∷ []) ++ ns ≡ xs ++ n ∷ ns
append_one [] n ns = refl
append_one (x ∷ xs) n ns = ap (λ zs. x ∷ zs) (append_one xs n ns)

append_nil : (xs : List (List ℕ)) → xs ≡ xs ++ []
append_nil [] = refl
append_nil (x ∷ xs) = ap (λ zs. x ∷ zs) (append_nil xs)

labels_behind : (is : List Ident) (xs : List (List ℕ)) → labels_after xs is ≡ xs ++ labels is
labels_behind [] xs = append_nil xs
labels_behind (i ∷ is) xs = labels_behind is (xs ++ i.text ∷ []) ∙ append_one xs i.text (labels is)

pub labels_all : (xs : List (List ℕ)) (is : List Ident) → xs ≡ labels_after [] is → xs ≡ labels is
labels_all xs is h = h ∙ labels_behind is []
