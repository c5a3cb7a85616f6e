-- The names that are visible in a turn are well formed, and the globals hold the storage among them: after any number of turns, since a
-- constant that is evaluated in a turn belongs to its type.
use Rattle.std.proofs.Common.{◌≡◌, ℕ, zero, suc, ◌⊎◌, inl, inr, Bool, true, false, cond, List, [], ◌∷◌, ◌++◌, Option, Some, None, Ok, Err, refl, sym, ap, ◌∙◌, subst, length, map}
use Rattle.std.specs.Prelude.{Result}
use Rattle.asl_syn.specs.declared.code.Fault.{Fault}
use Rattle.asl_syn.specs.declared.tree.Expr.{Expr}
use Rattle.asl_syn.specs.declared.tree.TypeExpr.{TypeExpr}
use Rattle.asl_syn.specs.declared.tree.Ident.{Ident}
use Rattle.asl_syn.specs.declared.tree.TypeDef.{TypeDef}
use Rattle.asl_syn.specs.declared.tree.TypeDef.TheVariants as td
use Rattle.asl_syn.specs.declared.tree.StorageDecl.{StorageDecl}
use Rattle.asl_syn.specs.declared.tree.Decl.{Decl}
use Rattle.asl_syn.specs.declared.tree.Decl.TheVariants as dc
use Rattle.asl_rules.specs.Tests.{Tests, IsRight}
use Rattle.asl_rules.specs.types.Types.{Ty, boolean, named, structure}
use Rattle.asl_rules.specs.types.Closed.{Assignment}
use Rattle.asl_rules.specs.values.Values.{Value, bool, label, has}
use Rattle.asl_rules.specs.types.Views.{viewed}
use Rattle.asl_rules.specs.private.WellFormed.{Extends, Fixed}
use Rattle.asl_rules.specs.private.Judgements.{EachJudged, CameOf}
use Rattle.asl_rules.specs.declarations.Names.{library, labels_of, names_rule, all_declared}
use Rattle.asl_rules.specs.declarations.Scopes.{Scope, Entry, Standing, Stored, Subprogram, TypeName, Label, Storage, subprogram, global, label_name, standing_of, storage_in, storage_of, type_in}
use Rattle.asl_rules.specs.expressions.Typing.{Typed}
use Rattle.asl_rules.specs.expressions.Exprs.{typed}
use Rattle.asl_rules.specs.runs.States.{Binding, resting}
use Rattle.asl_laws.specs.BeforeRuns.{HoldsInitial}
use Rattle.asl_laws.specs.Evaluated.{names_after}
use Rattle.asl_rules.specs.private.Belonging.{InType}
use Rattle.asl_rules.specs.private.Agreement.{no_atoms, IsUnder, IsKnown, HoldsGlobal, types_in, AllMatch, GlobalsMatch, global_matches}
use Rattle.asl_rules.specs.private.Worth.{IsHeld}
use Rattle.asl_rules.specs.private.Grown.{is_def_grown, is_grown, AreGrown}
use Rattle.asl_rules.specs.runs.Plans.{Good}
use Rattle.asl_rules.specs.declarations.Constants.{constant}
use Rattle.asl_rules.specs.declarations.Programs.{environment}
use Rattle.asl_rules.specs.declarations.Declarations.{in_names, def_rule, supertype_rule, label_entries, type_entries, Initial, with_type, storage_rule, decl_rule, is_var}
use Rattle.asl_rules.specs.declarations.Turns.{Judged, Waiting, Fine, judged, SoFar, reserved, entries_or, entries, names_so_far, decl_judged, turns, all_waiting, final, faults_rule, names_of_program, globals_rule}
use Rattle.asl_rules.specs.runs.Evaluation.{global_under, global_with, global_in, cons_some, globals_among, initial_globals}
use Rattle.asl_rules.proofs.basics.Inversions.{ok_ok, bind_ok, then_ok}
use Rattle.asl_rules.proofs.basics.Tests.{no, some_same, none_some, name_is}
use Rattle.asl_rules.proofs.scopes.Naming.{GoodNames, WellNamed}
use Rattle.asl_rules.proofs.scopes.Slots.{IsOutside, AllOutside}
use Rattle.asl_rules.proofs.scopes.EachOnce.{once_apart, passed_over}
use Rattle.asl_laws.proofs.scopes.OverScope.{NamesOver}
use Rattle.asl_laws.proofs.widths.TypesOver.{Never}
use Rattle.asl_laws.proofs.scopes.ScopesOver.{fixed_never, turns_over}
use Rattle.asl_rules.proofs.verdict.Distinct.{Distinct, distinct_of, IsPlain, In}
use Rattle.asl_rules.proofs.verdict.Turning.{each_at, each_waiting, came_in, OneTurn, turn_later, turns_hold}
use Rattle.asl_rules.proofs.verdict.Named.{AllStand, turns_stand, FoundAt, own_visible, own_stands, found_visible}
use Rattle.asl_rules.proofs.verdict.SharedNames.{names_once, names_shared}
use Rattle.asl_rules.proofs.verdict.EachName.{EachName, name_has, visible_have}
use Rattle.asl_rules.proofs.verdict.AfterTurns.{came_later, next_after, next_holds}
use Rattle.asl_laws.proofs.constants.KnownStart.{starts_at}
use Rattle.asl_laws.proofs.scopes.DeclWell.{StandsWell, AllWell, well_at, well_grows, reserved_well, Ready, LabelsIn, HasLabels, decl_well}

type_standing : (o : Option Standing) (T : Ty) → type_in o ≡ Some T → o ≡ Some (TypeName T)
type_standing (Some (TypeName U)) T h = ap (λ V. Some (TypeName V)) (some_same U T h)
type_standing (Some (Stored s)) T h = none_some T h
type_standing (Some Subprogram) T h = none_some T h
type_standing (Some (Label U x)) T h = none_some T h
type_standing None T h = none_some T h

-- ---- what sort of names a declaration brings

abbrev has_no_storage : Standing → Type 0
has_no_storage (Stored s) = ⊥
has_no_storage Subprogram = Unit {0}
has_no_storage (TypeName T) = Unit {0}
has_no_storage (Label T x) = Unit {0}

abbrev NoneStored : List Entry → Type 0
NoneStored [] = Unit {0}
NoneStored (e ∷ es) = has_no_storage e.standing × NoneStored es

abbrev Brings : Decl → List Entry → Type 0
Brings (dc.Type t) es = NoneStored es
Brings (dc.Storage s) es = (i : Initial) × (es ≡ global s.name.text i.ty (is_var s.kind) i.value ∷ [])
Brings (dc.Func f) es = NoneStored es

labels_stored : (T : Ty) (name : List ℕ) (is : List Ident) → NoneStored (map (λ (i : Ident). label_name i.text T (label name i.text)) is)
labels_stored T name [] = tt
labels_stored T name (i ∷ is) = (tt, labels_stored T name is)

def_stored : (def : TypeDef) (name : List ℕ) (T : Ty) → NoneStored (label_entries def name T)
def_stored (td.Alias t) name T = tt
def_stored (td.Labels span is) name T = labels_stored T name is
def_stored (td.Record span fs) name T = tt
def_stored (td.Exception span fs) name T = tt

decl_brings : (tests : Tests) (d : Decl) (G : Scope) (es : List Entry) → decl_rule tests d G ≡ Ok es → Brings d es
decl_brings tests (dc.Type t) G es h =
    let v = bind_ok (def_rule tests t.name.text t.def G) _ es h in
    let s = bind_ok (supertype_rule tests t.supertype v.value G) _ es v.then in
    subst NoneStored (ok_ok (type_entries t (named t.name.text s.value (structure v.value))) es s.then) (tt, def_stored t.def t.name.text (named t.name.text s.value (structure v.value)))
decl_brings tests (dc.Storage s) G es h =
    let i = bind_ok (storage_rule tests s (is_var s.kind) s.ty s.init G) _ es h in
    (i.value, sym (ok_ok (global s.name.text i.value.ty (is_var s.kind) i.value.value ∷ []) es i.then))
decl_brings tests (dc.Func f) G es h = subst NoneStored (ok_ok (subprogram f.name.text ∷ []) es h) (tt, tt)

-- what stands in for a declaration is of its sort

reserved_labels : (is : List Ident) → NoneStored (map (λ (i : Ident). subprogram i.text) is)
reserved_labels [] = tt
reserved_labels (i ∷ is) = (tt, reserved_labels is)

reserved_brings : (d : Decl) → Brings d (reserved d)
reserved_brings (dc.Type d) = (tt, reserved_labels (labels_of d.def))
reserved_brings (dc.Storage d) = (with_type boolean (bool false), refl)
reserved_brings (dc.Func f) = (tt, tt)

judged_brings : (d : Decl) (r : Result (List Entry) Fault) → ((es : List Entry) → r ≡ Ok es → Brings d es) →
    Brings d (entries_or d (judged r))
judged_brings d (Ok es) f = f es refl
judged_brings d (Err e) f = reserved_brings d

-- nothing that stands in is a type

abbrev IsNoType : Standing → Type 0
IsNoType (Stored s) = Unit {0}
IsNoType Subprogram = Unit {0}
IsNoType (TypeName T) = ⊥
IsNoType (Label T x) = Unit {0}

abbrev NoTypes : List Entry → Type 0
NoTypes es = EachName (λ e. IsNoType e.standing) es

labels_no_type : (is : List Ident) → NoTypes (map (λ (i : Ident). subprogram i.text) is)
labels_no_type [] = tt
labels_no_type (i ∷ is) = (tt, labels_no_type is)

reserved_no_type : (d : Decl) → NoTypes (reserved d)
reserved_no_type (dc.Type d) = (tt, labels_no_type (labels_of d.def))
reserved_no_type (dc.Storage d) = (tt, tt)
reserved_no_type (dc.Func f) = (tt, tt)

-- ---- names outside bodies

outside_one : (st : Standing) → has_no_storage st → IsOutside st
outside_one (Stored s) k = absurd k
outside_one Subprogram k = tt
outside_one (TypeName T) k = tt
outside_one (Label T x) k = tt

outside_none : (es : List Entry) → NoneStored es → AllOutside es
outside_none [] k = tt
outside_none (e ∷ es) k = (outside_one e.standing k.0, outside_none es k.1)

outside_brought : (d : Decl) (es : List Entry) → Brings d es → AllOutside es
outside_brought (dc.Type t) es b = outside_none es b
outside_brought (dc.Storage s) es b = subst AllOutside (sym b.1) (refl, tt)
outside_brought (dc.Func f) es b = outside_none es b

-- ---- types without atoms

in_any : (d : List ℕ → Option Ty) (T : Ty) (x : Value) → Fixed T → InType d no_atoms x T → (a : Assignment) → InType d a x T
in_any d T x f i a = (subst (λ C. has x C ≡ true) (sym (f a)) i.0, i.1, subst (λ C. viewed C x ≡ x) (sym (f a)) i.2)

-- constants belong to their types, where these names are visible
abbrev pub ConstantsBelong : Tests → List Entry → Type 0
ConstantsBelong tests base = (e : Expr) (S : Typed) (x : Value) → typed tests e (in_names base) ≡ Ok S → constant tests.limit e base ≡ Good x → InType (types_in base) no_atoms x S.ty

module _ (tests : Tests) (right : IsRight tests) (ds : List Decl) (distinct : Distinct (all_declared ds)) (labels : (d : Decl) → In d ds → HasLabels d) (belong : (base : List Entry) → WellNamed base → GlobalsMatch base (globals_among ds base) → HoldsInitial (record { decls = ds; names = base; limit = tests.limit }) (resting (globals_among ds base)) → ConstantsBelong tests base) where
  abbrev state : ℕ → SoFar
  state n = turns tests n ds (all_waiting ds)

  -- a turn was taken behind so many
  abbrev Turned : ℕ → Type 0
  Turned n = OneTurn tests ds (state n) (state (suc n))

  abbrev names_at : ℕ → List Entry
  names_at n = names_after tests n ds

  abbrev types_at : ℕ → List ℕ → Option Ty
  types_at n = types_in (names_at n)

  all_stand : (n : ℕ) → AllStand ds (state n)
  all_stand n = turns_stand tests ds n

  abbrev AllBring : List Decl → SoFar → Type 0
  AllBring rs js = EachJudged (λ d j. Brings d (entries_or d j)) rs js

  all_bring : (n : ℕ) → AllBring ds (state n)
  all_bring n =
      turns_hold tests ds (λ d j. Brings d (entries_or d j))
      (λ js a d i r. let G = in_names (names_so_far ds js) in judged_brings d (decl_rule tests d G) (decl_brings tests d G))
      n (all_waiting ds) (each_waiting (λ d j. Brings d (entries_or d j)) reserved_brings ds)

  all_outside : (n : ℕ) → AllOutside (names_at n)
  all_outside n =
      visible_have (λ e. IsOutside e.standing) (λ m. tt) tests ds (λ d i. refl)
      (λ d i names a es h. outside_brought d es (decl_brings tests d (in_names names) es h)) n

  found_in : (n : ℕ) (name : List ℕ) (st : Standing) → IsPlain st → standing_of name (names_at n) ≡ Some st → FoundAt ds (state n) name st
  found_in n name st p h = found_visible ds (state n) name st (all_stand n) p h

  own : (n : ℕ) (d : Decl) (j : Judged) (name : List ℕ) (st : Standing) → CameOf d j ds (state n) →
      standing_of name (entries_or d j) ≡ Some st → IsPlain st → standing_of name (names_at n) ≡ Some st
  own n d j name st c h p = own_stands ds (state n) d j name st (all_stand n) distinct c h p

  type_stays : (n : ℕ) → Turned n → (d : Decl) (j : Judged) (name : List ℕ) (T : Ty) → CameOf d j ds (state n) →
      standing_of name (entries_or d j) ≡ Some (TypeName T) → CameOf d j ds (state (suc n))
  type_stays n o d j name T c h =
      by (came_later d j ds (state n) (state (suc n)) (turn_later tests ds (state n) ds (state n) (state (suc n)) o) c)
    where
      by : (j ≡ Waiting) ⊎ CameOf d j ds (state (suc n)) → CameOf d j ds (state (suc n))
      by (inl w) =
          let waits : standing_of name (reserved d) ≡ Some (TypeName T) =
          subst (λ k. standing_of name (entries_or d k) ≡ Some (TypeName T)) w h in
          absurd (name_has (λ m st. IsNoType st) (reserved d) name (TypeName T) (reserved_no_type d) waits)
      by (inr k) = k

  extends : (n : ℕ) → Turned n → Extends (types_at n) (types_at (suc n))
  extends n o = record {
    kept = λ name T h.
        let f = found_in n name (TypeName T) tt (type_standing (standing_of name (names_at n)) T h) in
        ap type_in (own (suc n) f.decl f.judged name (TypeName T) (type_stays n o f.decl f.judged name T f.is_of f.stands) f.stands tt);
  }

  -- what stands in the places of each declaration is well formed
  abbrev WellIn : SoFar → Type 0
  WellIn js = EachJudged (λ d j. AllWell (types_in (names_so_far ds js)) (entries_or d j)) ds js

  abbrev Well : ℕ → Type 0
  Well n = WellIn (state n)

  stands_well : (n : ℕ) → Well n → (name : List ℕ) (st : Standing) → IsPlain st → standing_of name (names_at n) ≡ Some st →
      StandsWell (types_at n) name st
  stands_well n w name st p h =
      let f = found_in n name st p h in
      let well = each_at (λ d j. AllWell (types_at n) (entries_or d j)) f.decl f.judged ds (state n) w f.is_of in
      well_at (types_at n) (entries_or f.decl f.judged) name st well f.stands

  over_at : (n : ℕ) → NamesOver Never (names_at n)
  over_at n = turns_over tests Never n ds

  good_at : (n : ℕ) → Well n → GoodNames (types_at n) (names_at n)
  good_at n w name (Stored s) h = let k = stands_well n w name (Stored s) tt h in (k.0, subst IsHeld (sym k.4) tt)
  good_at n w name Subprogram h = tt
  good_at n w name (TypeName T) h = let k = stands_well n w name (TypeName T) tt h in (k.0, k.1, fixed_never T ((over_at n).standing name (TypeName T) h))
  good_at n w name (Label T x) h = let k = stands_well n w name (Label T x) tt h in (k.0, in_any (types_at n) T x (fixed_never T ((over_at n).standing name (Label T x) h)) k.1)

  well_named_at : (n : ℕ) → Well n → WellNamed (names_at n)
  well_named_at n w = record { good = good_at n w; apart = once_apart (names_at n) (names_once ds (state n)); outside = all_outside n }

  -- ---- the globals of a turn

  module _ (n : ℕ) (w : Well n) where
    abbrev D : List ℕ → Option Ty
    D = types_at n

    library_match : (ns : List (List ℕ)) (es : List Entry) (bs : List Binding) → AllMatch D es bs → AllMatch D (map subprogram ns ++ es) bs
    library_match [] es bs m = m
    library_match (l ∷ ns) es bs m = library_match ns es bs m

    passed : (name : List ℕ) (st : Standing) (es : List Entry) (bs : List Binding) → has_no_storage st → AllMatch D es bs → global_matches D name st bs (AllMatch D es)
    passed name (Stored s) es bs k m = absurd k
    passed name Subprogram es bs k m = m
    passed name (TypeName T) es bs k m = m
    passed name (Label T x) es bs k m = m

    none_match : (es tail : List Entry) (bs : List Binding) → NoneStored es → AllMatch D tail bs → AllMatch D (es ++ tail) bs
    none_match [] tail bs k m = m
    none_match (e ∷ es) tail bs k m = passed e.name e.standing (es ++ tail) bs k.0 (none_match es tail bs k.1 m)

    under_written : (t : Option TypeExpr) (T : Ty) (x : Value) → InType D no_atoms x T → IsUnder D no_atoms (global_under t T x) T
    under_written None T x i = i
    under_written (Some t) T x i = refl

    known_self : (m : Bool) (x : Value) → IsKnown (cond m None (Some x)) x
    known_self true x = tt
    known_self false x = refl

    abbrev stored : StorageDecl → Ty → Value → Storage
    stored s T x = record { ty = T; is_global = true; is_mutable = is_var s.kind; initial = Some x; counted = None }

    holds_global : (s : StorageDecl) (T : Ty) (x : Value) → standing_of s.name.text (names_at n) ≡ Some (Stored (stored s T x)) →
        HoldsGlobal D s.name.text (stored s T x) (global_with s T x)
    holds_global s T x h =
        let st : Standing = Stored (stored s T x) in
        let k = stands_well n w s.name.text st tt h in
        let i : InType D no_atoms x T = subst (λ y. InType D no_atoms y T) (sym (some_same x k.1 k.2)) k.3 in
        record {
          holds = record {
            name_is = refl;
            under_is = under_written s.ty T x i;
            mutable_is = refl;
            well_formed = k.0;
            belongs = i;
            known = known_self (is_var s.kind) x;
            counts = tt;
          };
          fixed = fixed_never T ((over_at n).standing s.name.text st h);
          no_atom = refl;
        }

    storage_match : (s : StorageDecl) (es tail : List Entry) (rest : List Binding) → Brings (dc.Storage s) es →
        standing_of s.name.text (names_at n) ≡ standing_of s.name.text es → AllMatch D tail rest →
        AllMatch D (es ++ tail) (cons_some (global_in s (storage_of s.name.text (names_at n))) rest)
    storage_match s es tail rest b q m =
        let T = b.0.ty in
        let x = b.0.value in
        let st : Standing = Stored (stored s T x) in
        let here : standing_of s.name.text es ≡ Some st = ap (standing_of s.name.text) b.1 ∙ ap (λ t. cond t (Some st) None) (name_is s.name.text) in
        let k = q ∙ here in
        subst (λ o. AllMatch D (es ++ tail) (cons_some (global_in s (storage_in o)) rest)) (sym k)
        (subst (λ l. AllMatch D (l ++ tail) (global_with s T x ∷ rest)) (sym b.1) (holds_global s T x k, m))

    among_match : (rs : List Decl) (js : SoFar) → ((d : Decl) (j : Judged) → CameOf d j rs js → CameOf d j ds (state n)) → AllBring rs js →
        AllMatch D (entries rs js) (globals_among rs (names_at n))
    among_match [] [] f b = tt
    among_match [] (j ∷ js) f b = absurd b
    among_match (d ∷ rs) [] f b = absurd b
    among_match (dc.Type t ∷ rs) (j ∷ js) f b =
        none_match (entries_or (dc.Type t) j) (entries rs js) (globals_among rs (names_at n)) b.0
        (among_match rs js (λ d k i. f d k (inr i)) b.1)
    among_match (dc.Storage s ∷ rs) (j ∷ js) f b =
        let came = f (dc.Storage s) j (inl (refl, refl)) in
        let here = own_visible ds (state n) (dc.Storage s) j s.name.text (all_stand n) distinct came (inl (refl, refl)) in
        storage_match s (entries_or (dc.Storage s) j) (entries rs js) (globals_among rs (names_at n)) b.0 here
        (among_match rs js (λ d k i. f d k (inr i)) b.1)
    among_match (dc.Func g ∷ rs) (j ∷ js) f b =
        none_match (entries_or (dc.Func g) j) (entries rs js) (globals_among rs (names_at n)) b.0
        (among_match rs js (λ d k i. f d k (inr i)) b.1)

    -- a name that stands for no storage is passed over
    match_same : AllMatch D (names_at n) ≡ AllMatch D (map subprogram library ++ entries ds (state n))
    match_same =
        passed_over (AllMatch D) (λ e P bs. global_matches D e.name e.standing bs P) (λ e es. refl)
        (λ e P h. ap (λ st bs. global_matches D e.name st bs P) h)
        (entries ds (state n)) (map subprogram library) (names_shared ds (state n) (all_stand n) distinct)

    globals_match_at : GlobalsMatch (names_at n) (globals_among ds (names_at n))
    globals_match_at =
        let bs = globals_among ds (names_at n) in
        let all = among_match ds (state n) (λ d j c. c) (all_bring n) in
        subst (λ P. P bs) (sym match_same) (library_match library (entries ds (state n)) bs all)

  -- ---- turn by turn

  ready_at : (n : ℕ) → Well n → Ready tests (types_at n) (names_at n)
  ready_at n w = record {
    good = good_at n w;
    named_by = λ name T h. (stands_well n w name (TypeName T) tt (type_standing (standing_of name (names_at n)) T h)).2;
    declared = record {
      each = λ name T h. (stands_well n w name (TypeName T) tt (type_standing (standing_of name (names_at n)) T h)).0;
      fixed = λ name T h. fixed_never T ((over_at n).standing name (TypeName T) (type_standing (standing_of name (names_at n)) T h));
    };
    is = λ name. refl;
    constants = belong (names_at n) (well_named_at n w) (globals_match_at n w) (starts_at tests n ds);
  }

  judged_well : (n : ℕ) → Well n → Turned n → (d : Decl) → CameOf d (decl_judged tests d (names_at n)) ds (state (suc n)) →
      AllWell (types_at (suc n)) (entries_or d (decl_judged tests d (names_at n)))
  judged_well n w o d c = by (decl_rule tests d (in_names (names_at n))) refl
    where
      by : (r : Result (List Entry) Fault) → decl_rule tests d (in_names (names_at n)) ≡ r →
          AllWell (types_at (suc n)) (entries_or d (judged r))
      by (Err e) q = reserved_well (types_at (suc n)) d
      by (Ok es) q =
          let came : CameOf d (Fine es) ds (state (suc n)) = subst (λ r. CameOf d (judged r) ds (state (suc n))) q c in
          decl_well tests right (types_at n) (types_at (suc n)) (extends n o) (names_at n) (ready_at n w) d es q
          (labels d (came_in d (Fine es) ds (state (suc n)) came))
          (λ name T s. ap type_in (own (suc n) d (Fine es) name (TypeName T) came s tt))

  one_well : (n : ℕ) → Well n → Turned n → Well (suc n)
  one_well n w o =
      next_holds tests ds (λ d j. AllWell (types_at n) (entries_or d j)) (λ d j. AllWell (types_at (suc n)) (entries_or d j)) (state n)
      (state (suc n)) o (λ d j c a. well_grows (types_at n) (types_at (suc n)) (extends n o) (entries_or d j) a)
      (λ d r c. judged_well n w o d c) w

  well_next : (n : ℕ) → Well n → (state n ≡ state (suc n)) ⊎ Turned n → Well (suc n)
  well_next n w (inl q) = subst WellIn q w
  well_next n w (inr o) = one_well n w o

  well_after : (n : ℕ) → Well n
  well_after zero = each_waiting (λ d j. AllWell (types_at zero) (entries_or d j)) (reserved_well (types_at zero)) ds
  well_after (suc n) = well_next n (well_after n) (next_after tests ds n)

  -- after any number of turns the names are well formed, and the globals hold their storage
  pub turn_named : (n : ℕ) → WellNamed (names_after tests n ds)
  turn_named n = well_named_at n (well_after n)

  pub turn_match : (n : ℕ) → GlobalsMatch (names_after tests n ds) (globals_among ds (names_after tests n ds))
  turn_match n = globals_match_at n (well_after n)

  -- and so they are at the end
  pub names_good : WellNamed (names_of_program tests ds)
  names_good = turn_named (length ds)

  pub globals_good : GlobalsMatch (names_of_program tests ds) (initial_globals (environment tests ds))
  globals_good = turn_match (length ds)

-- ---- of a program

pub names_same : (tests : Tests) (ds : List Decl) (names : List Entry) → globals_rule tests ds ≡ Ok names → names_of_program tests ds ≡ names
names_same tests ds names h =
    ok_ok (names_of_program tests ds) names (then_ok (faults_rule (final tests ds)) (Ok (names_of_program tests ds)) names h).then

-- what is read from texts has a label in each enumeration
def_labels : (def : TypeDef) → is_def_grown def ≡ true → LabelsIn def
def_labels (td.Alias t) g = tt
def_labels (td.Labels span []) g = no g
def_labels (td.Labels span (i ∷ is)) g = tt
def_labels (td.Record span fs) g = tt
def_labels (td.Exception span fs) g = tt

own_labels : (d : Decl) → is_grown d ≡ true → HasLabels d
own_labels (dc.Type d) g = def_labels d.def g
own_labels (dc.Storage d) g = tt
own_labels (dc.Func f) g = tt

pub grown_labels : (ds : List Decl) → AreGrown ds → (d : Decl) → In d ds → HasLabels d
grown_labels [] g d i = absurd i
grown_labels (e ∷ ds) g d (inl q) = subst HasLabels q (own_labels e g.0)
grown_labels (e ∷ ds) g d (inr i) = grown_labels ds g.1 d i

-- constants belong to their types wherever the names are well formed and the globals hold their storage, as they begin
abbrev pub AllBelong : Tests → List Decl → Type 0
AllBelong tests ds = (base : List Entry) → WellNamed base → GlobalsMatch base (globals_among ds base) → HoldsInitial (record { decls = ds; names = base; limit = tests.limit }) (resting (globals_among ds base)) → ConstantsBelong tests base

module _ (tests : Tests) (right : IsRight tests) (ds : List Decl) (names : List Entry) (grown : AreGrown ds) (apart : names_rule [] (all_declared ds) ≡ Ok tt) (rule : globals_rule tests ds ≡ Ok names) (belong : AllBelong tests ds) where
  pub well_named : WellNamed names
  well_named = subst WellNamed (names_same tests ds names rule) (names_good tests right ds (distinct_of (all_declared ds) [] apart) (grown_labels ds grown) belong)

  pub initial_match : GlobalsMatch names (initial_globals (environment tests ds))
  initial_match = subst (λ ns. GlobalsMatch ns (initial_globals (environment tests ds))) (names_same tests ds names rule) (globals_good tests right ds (distinct_of (all_declared ds) [] apart) (grown_labels ds grown) belong)
