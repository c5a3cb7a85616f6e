-- Whatever came of the declarations so far, each name that is declared stands in its place: so what it stands for is found where it is
-- declared.
use Rattle.std.proofs.Common.{◌≡◌, ℕ, inl, inr, false, List, [], ◌∷◌, ◌++◌, map, length, Option, Some, None, Ok, Err, refl, sym, ap, ◌∙◌}
use Rattle.std.proofs.Common.{subst}
use Rattle.std.specs.Prelude.{Result}
use Rattle.asl_syn.specs.declared.code.Fault.{Fault}
use Rattle.asl_syn.specs.declared.tree.Ident.{Ident}
use Rattle.asl_syn.specs.declared.tree.TypeDef.{TypeDef}
use Rattle.asl_syn.specs.declared.tree.TypeDef.TheVariants as td
use Rattle.asl_syn.specs.declared.tree.TypeDecl.{TypeDecl}
use Rattle.asl_syn.specs.declared.tree.StorageDecl.{StorageDecl}
use Rattle.asl_syn.specs.declared.tree.Decl.{Decl}
use Rattle.asl_syn.specs.declared.tree.Decl.TheVariants as dc
use Rattle.asl_rules.specs.Tests.{Tests}
use Rattle.asl_rules.specs.types.Types.{Ty, named, structure}
use Rattle.asl_rules.specs.values.Values.{label}
use Rattle.asl_rules.specs.declarations.Names.{library, declared_as, declared_by, labels_of, all_declared}
use Rattle.asl_rules.specs.declarations.Scopes.{Entry, Scope, Standing, subprogram, global, label_name, standing_of}
use Rattle.asl_rules.specs.declarations.Declarations.{in_names, def_rule, supertype_rule, label_entries, type_entries, type_decl_rule}
use Rattle.asl_rules.specs.declarations.Declarations.{storage_rule, storage_decl_rule, is_var, decl_rule}
use Rattle.asl_rules.specs.declarations.Turns.{Judged, judged, SoFar, reserved, entries_or, entries, names_so_far, decl_judged, turns}
use Rattle.asl_rules.specs.declarations.Turns.{all_waiting, final}
use Rattle.asl_rules.specs.private.Judgements.{EachJudged, CameOf}
use Rattle.asl_rules.proofs.basics.Inversions.{ok_ok, bind_ok}
use Rattle.asl_rules.proofs.basics.Tests.{none_some}
use Rattle.asl_rules.proofs.scopes.Lookups.{behind, before_is, Apart}
use Rattle.asl_rules.proofs.scopes.EachOnce.{SameStandings, entries_same}
use Rattle.asl_rules.proofs.verdict.Distinct.{Distinct, Plain, AllNamed, IsPlain, HasNames, has_names, plain_named, past_library}
use Rattle.asl_rules.proofs.verdict.Distinct.{names_append, names_apart, none_named, plain_in, plain_new, front_not_in, back_not_in}
use Rattle.asl_rules.proofs.verdict.Distinct.{rest_distinct, behind_library, library_apart}
use Rattle.asl_rules.proofs.verdict.Turning.{each_at, came_in, each_waiting, turns_hold}

-- ---- what a declaration brings has the names that it declares

labels_named : (T : Ty) (name : List ℕ) (is : List Ident) →
    AllNamed (map (declared_as false) is) (map (λ (i : Ident). label_name i.text T (label name i.text)) is)
labels_named T name [] = tt
labels_named T name (i ∷ is) = (refl, tt, labels_named T name is)

def_named : (def : TypeDef) (name : List ℕ) (T : Ty) → AllNamed (map (declared_as false) (labels_of def)) (label_entries def name T)
def_named (td.Alias t) name T = tt
def_named (td.Labels span is) name T = labels_named T name is
def_named (td.Record span fs) name T = tt
def_named (td.Exception span fs) name T = tt

type_named : (t : Tests) (d : TypeDecl) (G : Scope) (es : List Entry) → type_decl_rule t d G ≡ Ok es → AllNamed (declared_by (dc.Type d)) es
type_named t d G es h =
    let u = bind_ok (def_rule t d.name.text d.def G) _ es h in
    let s = bind_ok (supertype_rule t d.supertype u.value G) _ es u.then in
    let T = named d.name.text s.value (structure u.value) in
    subst (AllNamed (declared_by (dc.Type d))) (ok_ok (type_entries d T) es s.then) (refl, tt, def_named d.def d.name.text T)

storage_named : (t : Tests) (d : StorageDecl) (G : Scope) (es : List Entry) → storage_decl_rule t d G ≡ Ok es →
    AllNamed (declared_by (dc.Storage d)) es
storage_named t d G es h =
    let s = bind_ok (storage_rule t d (is_var d.kind) d.ty d.init G) _ es h in
    let e = global d.name.text s.value.ty (is_var d.kind) s.value.value in
    subst (AllNamed (declared_by (dc.Storage d))) (ok_ok (e ∷ []) es s.then) (refl, tt, tt)

pub decl_named : (t : Tests) (d : Decl) (G : Scope) (es : List Entry) → decl_rule t d G ≡ Ok es → AllNamed (declared_by d) es
decl_named t (dc.Type d) G es h = type_named t d G es h
decl_named t (dc.Storage d) G es h = storage_named t d G es h
decl_named t (dc.Func f) G es h = subst (AllNamed (declared_by (dc.Func f))) (ok_ok (subprogram f.name.text ∷ []) es h) (refl, refl, tt)

-- ---- and so have the stand-ins

labels_reserved : (is : List Ident) → HasNames (map (declared_as false) is) (map (λ (i : Ident). subprogram i.text) is)
labels_reserved [] = tt
labels_reserved (i ∷ is) = (refl, (λ h. refl), labels_reserved is)

pub reserved_names : (d : Decl) → HasNames (declared_by d) (reserved d)
reserved_names (dc.Type d) = (refl, (λ h. refl), labels_reserved (labels_of d.def))
reserved_names (dc.Storage d) = has_names (declared_by (dc.Storage d)) (reserved (dc.Storage d)) (refl, tt, tt)
reserved_names (dc.Func f) = (refl, (λ h. refl), tt)

-- what stands in the places of a declaration has its names
abbrev pub StandsIn : Decl → Judged → Type 0
StandsIn d j = HasNames (declared_by d) (entries_or d j)

judged_stands : (d : Decl) (r : Result (List Entry) Fault) → ((es : List Entry) → r ≡ Ok es → AllNamed (declared_by d) es) →
    StandsIn d (judged r)
judged_stands d (Ok es) f = has_names (declared_by d) es (f es refl)
judged_stands d (Err e) f = reserved_names d

pub decl_stands : (t : Tests) (d : Decl) (names : List Entry) → StandsIn d (decl_judged t d names)
decl_stands t d names = judged_stands d (decl_rule t d (in_names names)) (λ es h. decl_named t d (in_names names) es h)

abbrev pub AllStand : List Decl → SoFar → Type 0
AllStand ds js = EachJudged StandsIn ds js

-- after so many turns, and at the end
pub turns_stand : (t : Tests) (ds : List Decl) (n : ℕ) → AllStand ds (turns t n ds (all_waiting ds))
turns_stand t ds n = turns_hold t ds StandsIn (λ js a d i r. decl_stands t d (names_so_far ds js)) n (all_waiting ds)
    (each_waiting StandsIn reserved_names ds)

pub final_stands : (t : Tests) (ds : List Decl) → AllStand ds (final t ds)
final_stands t ds = turns_stand t ds (length ds)

-- ---- all declarations

pub entries_named : (ds : List Decl) (js : SoFar) → AllStand ds js → HasNames (all_declared ds) (entries ds js)
entries_named [] [] a = tt
entries_named [] (j ∷ js) a = absurd a
entries_named (d ∷ ds) [] a = absurd a
entries_named (d ∷ ds) (j ∷ js) a =
    names_append (declared_by d) (all_declared ds) (entries_or d j) (entries ds js) a.0 (entries_named ds js a.1)

pub all_apart : (ds : List Decl) (js : SoFar) → AllStand ds js → Distinct (all_declared ds) →
    Apart (map subprogram library ++ entries ds js)
all_apart ds js a x = library_apart library (entries ds js) (names_apart (all_declared ds) (entries ds js) (entries_named ds js a) x)

-- where a name was found
pub record FoundAt (ds : List Decl) (js : SoFar) (n : List ℕ) (st : Standing) : Type 0 where
  pub decl : Decl
  pub judged : Judged
  pub is_of : CameOf decl judged ds js
  pub stands : standing_of n (entries_or decl judged) ≡ Some st

pub found_at : (ds : List Decl) (js : SoFar) (n : List ℕ) (st : Standing) → AllStand ds js → standing_of n (entries ds js) ≡ Some st →
    FoundAt ds js n st
found_at [] [] n st a h = none_some st h
found_at [] (j ∷ js) n st a h = absurd a
found_at (d ∷ ds) [] n st a h = absurd a
found_at (d ∷ ds) (j ∷ js) n st a h = by (standing_of n (entries_or d j)) refl (found_at ds js n st a.1)
  where
    by : (o : Option Standing) → standing_of n (entries_or d j) ≡ o → (standing_of n (entries ds js) ≡ Some st → FoundAt ds js n st) →
        FoundAt (d ∷ ds) (j ∷ js) n st
    by None q next =
        let r = next (sym (behind (entries_or d j) (entries ds js) n q) ∙ h) in
        record { decl = r.decl; judged = r.judged; is_of = inr r.is_of; stands = r.stands }
    by (Some own) q next =
        let stands = q ∙ sym (before_is (entries_or d j) (entries ds js) n own q) ∙ h in
        record { decl = d; judged = j; is_of = inl (refl, refl); stands = stands }

none_behind : (n : List ℕ) (es fs : List Entry) → standing_of n fs ≡ None → standing_of n (es ++ fs) ≡ standing_of n es
none_behind n es fs h = by (standing_of n es) refl
  where
    by : (o : Option Standing) → standing_of n es ≡ o → standing_of n (es ++ fs) ≡ standing_of n es
    by None q = behind es fs n q ∙ h ∙ sym q
    by (Some st) q = before_is es fs n st q ∙ sym q

-- a type, storage or a label stands for what it does where it is declared
pub own_found : (ds : List Decl) (js : SoFar) (d : Decl) (j : Judged) (n : List ℕ) → AllStand ds js → Distinct (all_declared ds) →
    CameOf d j ds js → Plain n (declared_by d) → standing_of n (entries ds js) ≡ standing_of n (entries_or d j)
own_found [] js d j n a x i p = absurd i
own_found (e ∷ ds) [] d j n a x i p = absurd i
own_found (e ∷ ds) (k ∷ js) d j n a x (inl q) p =
    let h : Plain n (declared_by e) = subst (λ z. Plain n (declared_by z)) (sym q.0) p in
    let b = back_not_in n (declared_by e) (all_declared ds) x h in
    none_behind n (entries_or e k) (entries ds js) (none_named n (all_declared ds) (entries ds js) (entries_named ds js a.1) b)
    ∙ ap (λ z. standing_of n (entries_or z k)) q.0 ∙ ap (λ z. standing_of n (entries_or d z)) q.1
own_found (e ∷ ds) (k ∷ js) d j n a x (inr i) p =
    let h = plain_in d ds n (came_in d j ds js i) p in
    let f = front_not_in n (declared_by e) (all_declared ds) x h in
    behind (entries_or e k) (entries ds js) n (none_named n (declared_by e) (entries_or e k) a.0 f)
    ∙ own_found ds js d j n a.1 (rest_distinct (declared_by e) (all_declared ds) x) i p

-- ---- the names that are visible, each once

-- all that the library and the declarations bring
abbrev pub all_so_far : List Decl → SoFar → List Entry
all_so_far ds js = map subprogram library ++ entries ds js

pub names_stand : (ds : List Decl) (js : SoFar) → SameStandings (all_so_far ds js) (names_so_far ds js)
names_stand ds js = entries_same (entries ds js) (map subprogram library)

pub own_visible : (ds : List Decl) (js : SoFar) (d : Decl) (j : Judged) (n : List ℕ) → AllStand ds js → Distinct (all_declared ds) →
    CameOf d j ds js → Plain n (declared_by d) → standing_of n (names_so_far ds js) ≡ standing_of n (entries_or d j)
own_visible ds js d j n a x i p =
    let new = plain_new n (all_declared ds) x (plain_in d ds n (came_in d j ds js i) p) in
    sym (names_stand ds js n) ∙ behind_library n (entries ds js) new ∙ own_found ds js d j n a x i p

-- so what stands in the places of a declaration is visible under its names
pub own_stands : (ds : List Decl) (js : SoFar) (d : Decl) (j : Judged) (n : List ℕ) (st : Standing) → AllStand ds js →
    Distinct (all_declared ds) → CameOf d j ds js →
    standing_of n (entries_or d j) ≡ Some st → IsPlain st → standing_of n (names_so_far ds js) ≡ Some st
own_stands ds js d j n st a x i h p =
    own_visible ds js d j n a x i (plain_named n st (declared_by d) (entries_or d j) (each_at StandsIn d j ds js a i) h p) ∙ h

-- and what is visible and no subprogram stands in the places of a declaration
pub found_visible : (ds : List Decl) (js : SoFar) (n : List ℕ) (st : Standing) → AllStand ds js → IsPlain st →
    standing_of n (names_so_far ds js) ≡ Some st → FoundAt ds js n st
found_visible ds js n st a p h = found_at ds js n st a (past_library n (entries ds js) st p (names_stand ds js n ∙ h))
