-- What the names outside bodies stand for: storage counts as nothing in widths, and a declared type goes by its name.
use Rattle.std.proofs.Common.{◌≡◌, ℕ, List, [], ◌∷◌, Some, None, Ok, refl, subst, map, length}
use Rattle.asl_syn.specs.declared.tree.Ident.{Ident}
use Rattle.asl_syn.specs.declared.tree.TypeDef.{TypeDef}
use Rattle.asl_syn.specs.declared.tree.TypeDef.TheVariants as td
use Rattle.asl_syn.specs.declared.tree.Decl.{Decl}
use Rattle.asl_syn.specs.declared.tree.Decl.TheVariants as dc
use Rattle.asl_rules.specs.Tests.{Tests}
use Rattle.asl_rules.specs.types.Types.{Ty, named, structure}
use Rattle.asl_rules.specs.values.Values.{label}
use Rattle.asl_rules.specs.declarations.Scopes.{Entry, Scope, Standing, Stored, Subprogram, TypeName, Label, subprogram, global, label_name, standing_of}
use Rattle.asl_rules.specs.declarations.Declarations.{in_names, def_rule, supertype_rule, label_entries, type_entries, storage_rule, is_var, decl_rule}
use Rattle.asl_rules.specs.declarations.Turns.{names_of_program}
use Rattle.asl_rules.proofs.basics.Inversions.{ok_ok, bind_ok}
use Rattle.asl_rules.proofs.verdict.EachName.{EachName, name_has, visible_have}

-- a type that goes by this name
pub record GoesBy (name : List ℕ) (T : Ty) : Type 0 where
  pub supers : List (List ℕ)
  pub ty : Ty
  pub is : named name supers ty ≡ T

abbrev pub Formed : List ℕ → Standing → Type 0
Formed name (Stored s) = s.counted ≡ None
Formed name Subprogram = Unit {0}
Formed name (TypeName T) = GoesBy name T
Formed name (Label T x) = Unit {0}

abbrev AllFormed : List Entry → Type 0
AllFormed es = EachName (λ e. Formed e.name e.standing) es

formed_labels : (T : Ty) (name : List ℕ) (is : List Ident) → AllFormed (map (λ (i : Ident). label_name i.text T (label name i.text)) is)
formed_labels T name [] = tt
formed_labels T name (i ∷ is) = (tt, formed_labels T name is)

formed_def : (def : TypeDef) (name : List ℕ) (T : Ty) → AllFormed (label_entries def name T)
formed_def (td.Alias t) name T = tt
formed_def (td.Labels span is) name T = formed_labels T name is
formed_def (td.Record span fs) name T = tt
formed_def (td.Exception span fs) name T = tt

-- what a declaration brings
formed_decl : (t : Tests) (d : Decl) (G : Scope) (es : List Entry) → decl_rule t d G ≡ Ok es → AllFormed es
formed_decl t (dc.Type d) G es h =
    let v = bind_ok (def_rule t d.name.text d.def G) _ es h in
    let s = bind_ok (supertype_rule t d.supertype v.value G) _ es v.then in
    let T : Ty = named d.name.text s.value (structure v.value) in
    subst AllFormed (ok_ok (type_entries d T) es s.then) (record { supers = s.value; ty = structure v.value; is = refl }, formed_def d.def d.name.text T)
formed_decl t (dc.Storage d) G es h =
    let s = bind_ok (storage_rule t d (is_var d.kind) d.ty d.init G) _ es h in
    subst AllFormed (ok_ok (global d.name.text s.value.ty (is_var d.kind) s.value.value ∷ []) es s.then) (refl, tt)
formed_decl t (dc.Func f) G es h = subst AllFormed (ok_ok (subprogram f.name.text ∷ []) es h) (tt, tt)

-- each name outside bodies
pub formed : (t : Tests) (ds : List Decl) (name : List ℕ) (st : Standing) → standing_of name (names_of_program t ds) ≡ Some st →
    Formed name st
formed t ds name st h =
    let all : AllFormed (names_of_program t ds) =
    visible_have (λ e. Formed e.name e.standing) (λ n. tt) t ds (λ d i. refl)
    (λ d i names a es k. formed_decl t d (in_names names) es k) (length ds) in
    name_has Formed (names_of_program t ds) name st all h
