-- The rule of declarations that reach themselves, by the graph.
use Rattle.std.proofs.Common.{◌≡◌, ℕ, zero, suc, ◌<◌, Bool, true, false, not, List, [], ◌∷◌, length, get_or, map, Some, Ok, Err, refl, sym, ap, ◌∙◌, subst}
use Rattle.std.proofs.lemmas.Option.{slice_get_within, slice_get-get_or}
use Rattle.asl_syn.specs.declared.code.StaticCode.TheVariants.{T03}
use Rattle.asl_syn.specs.declared.tree.Decl.{Decl}
use Rattle.asl_syn.specs.declared.tree.Decl.TheVariants as dc
use Rattle.asl_syn.specs.declared.tree.Func.{Func}
use Rattle.asl_rules.specs.Faults.{◌>>◌, need, fault_of}
use Rattle.asl_rules.specs.declarations.Names.{names_rule, all_declared}
use Rattle.asl_rules.specs.declarations.Uses.{leads_by, leads_to, reaches_itself, cycles_rule}
use Rattle.asl_names.specs.private.Graphs.{graph_of}
use Rattle.asl_names.specs.private.Ways.{HasWay, HasEdges}
use Rattle.asl_names.specs.private.Cycles.{name_of}
use Rattle.asl_rules.proofs.basics.Tests.{no, some_same}
use Rattle.asl_rules.proofs.verdict.Distinct.{distinct_of}
use Rattle.asl_names.proofs.Bridge.{At, edge_at, way_reaches, reaches_way}

length_map : {A B : Type 0} (f : A → B) (xs : List A) → length (map f xs) ≡ length xs
length_map f [] = refl
length_map f (x ∷ xs) = ap suc (length_map f xs)

pub length_graph : (ds : List Decl) → length (graph_of ds) ≡ length ds
length_graph ds = length_map _ ds

-- ---- subprograms use nothing

func_leads : (on : Decl → Bool) (f : Func) (ds : List Decl) → leads_by on (dc.Func f) ds ≡ false
func_leads on f [] = refl
func_leads on f (d ∷ ds) = func_leads on f ds

func_never : (n : ℕ) (ds : List Decl) (f : Func) (e : Decl) → leads_to n ds (dc.Func f) e ≡ false
func_never zero ds f e = refl
func_never (suc n) ds f e = func_leads (λ m. leads_to n ds m e) f ds

pub cycles_stop : (all : List Decl) (d : Decl) (ds : List Decl) → reaches_itself all d ≡ true → cycles_rule all (d ∷ ds) ≡ Err (fault_of T03 (name_of d).span)
cycles_stop all (dc.Type d) ds h = ap (λ b. need (not b) T03 d.name.span >> cycles_rule all ds) h
cycles_stop all (dc.Storage d) ds h = ap (λ b. need (not b) T03 d.name.span >> cycles_rule all ds) h
cycles_stop all (dc.Func f) ds h = no (sym (func_never (length all) all f (dc.Func f)) ∙ h)

-- ---- one declaration of a program with distinct names

pub at_here : (ds : List Decl) (n : ℕ) (d : Decl) → n < length ds → d ≡ get_or ds n d → At ds n d
at_here ds n d l e = slice_get-get_or ds n d l ∙ ap Some (sym e)

pub at_one : {A : Type 0} (xs : List A) (n : ℕ) (x y : A) → At xs n x → At xs n y → x ≡ y
at_one xs n x y a b = some_same x y (sym a ∙ b)

pub edges_within : (ds : List Decl) → names_rule [] (all_declared ds) ≡ Ok tt → HasEdges (graph_of ds)
edges_within ds h n k i =
    let e = edge_at ds (distinct_of (all_declared ds) [] h) n k i in
    subst (λ m. k < m) (sym (length_graph ds)) (slice_get_within ds k e.0 e.1)

pub way_back : (ds : List Decl) (n : ℕ) (d : Decl) → names_rule [] (all_declared ds) ≡ Ok tt → At ds n d → HasWay (graph_of ds) n n → reaches_itself ds d ≡ true
way_back ds n d h a w = way_reaches ds (distinct_of (all_declared ds) [] h) n d a w

is_false : (b : Bool) → (b ≡ true → ⊥) → b ≡ false
is_false true h = absurd (h refl)
is_false false h = refl

pub not_back : (ds : List Decl) (n : ℕ) (d : Decl) (back : Bool) → names_rule [] (all_declared ds) ≡ Ok tt → At ds n d → back ≡ false → (HasWay (graph_of ds) n n → back ≡ true) → reaches_itself ds d ≡ false
not_back ds n d back h a q f = is_false (reaches_itself ds d) (λ r. no (sym q ∙ f (reaches_way ds (distinct_of (all_declared ds) [] h) n d a r)))
