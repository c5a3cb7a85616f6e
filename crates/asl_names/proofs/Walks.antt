-- The walks over the names are the rules: what is kept answers as the declarations before do.
use Rattle.std.proofs.Common.{◌≡◌, ℕ, Bool, true, false, ◌&&◌, not, cond, List, [], ◌∷◌, ◌++◌, Option, Some, None, Result, Ok, Err, refl, sym, ap, ◌∙◌}
use Rattle.std.specs.Str.{bytes_eq}
use Rattle.std.specs.Cmp.Lexicographic.{bytes_decides, nat_list_eq_equiv}
use Rattle.asl_syn.specs.declared.code.Fault.{Fault}
use Rattle.asl_syn.specs.declared.code.StaticCode.{StaticCode}
use Rattle.asl_syn.specs.declared.code.StaticCode.TheVariants.{T01}
use Rattle.asl_syn.specs.declared.token.Span.{Span}
use Rattle.asl_syn.specs.declared.tree.Decl.{Decl}
use Rattle.asl_rules.specs.Faults.{◌>>=◌, ◌>>◌, need}
use Rattle.asl_rules.specs.declarations.Names.{Declared, library, is_listed, may_share, standing, is_new, names_rule, declared_by, all_declared}
use Rattle.asl_names.specs.private.Known.{Known, known, with_first, with_name, is_free, after_name, after_names, after_decls}

-- the first of two
or_then : Option Bool → Option Bool → Option Bool
or_then None p = p
or_then (Some a) p = Some a

or_none : (o : Option Bool) → or_then o None ≡ o
unfolding or_then
or_none None = refl
or_none (Some a) = refl

or_in : (t x : Bool) (o p q : Option Bool) → o ≡ or_then p q → cond t (Some x) o ≡ or_then (cond t (Some x) p) q
unfolding or_then
or_in true x o p q h = refl
or_in false x o p q h = h

-- a name at the end answers for itself where there was none before
known_last : (names : Known) (name q : List ℕ) (b : Bool) → known (names ++ (name, b) ∷ []) q ≡ or_then (known names q) (cond (bytes_eq q name) (Some b) None)
unfolding or_then
known_last [] name q b = refl
known_last (e ∷ es) name q b = or_in (bytes_eq q e.0) e.1 _ _ _ (known_last es name q b)

standing_last : (before : List Declared) (d : Declared) (q : List ℕ) → standing (before ++ d ∷ []) q ≡ or_then (standing before q) (cond (bytes_eq q d.name.text) (Some d.is_subprogram) None)
unfolding or_then
standing_last [] d q = ap (λ t. cond t (Some d.is_subprogram) None) (nat_list_eq_equiv.symm d.name.text q)
standing_last (e ∷ es) d q = or_in (bytes_eq e.name.text q) e.is_subprogram _ _ _ (standing_last es d q)

-- the names answer as these declarations do
Holds : Known → List Declared → Type 0
Holds names before = (q : List ℕ) → known names q ≡ standing before q

-- where a name stands, one more of it changes nothing
stands : (names : Known) (name q : List ℕ) (a b : Bool) → known names name ≡ Some a → or_then (known names q) (cond (bytes_eq q name) (Some b) None) ≡ known names q
unfolding or_then
stands names name q a b h = by (bytes_eq q name) refl
  where
    by : (t : Bool) → bytes_eq q name ≡ t → or_then (known names q) (cond t (Some b) None) ≡ known names q
    by false e = or_none (known names q)
    by true e =
        let there : known names q ≡ Some a = ap (known names) ((bytes_decides q name).0 e) ∙ h in
        ap (λ o. or_then o (Some b)) there ∙ sym there

kept_known : (names : Known) (name q : List ℕ) (b : Bool) → known (with_name name b names) q ≡ or_then (known names q) (cond (bytes_eq q name) (Some b) None)
kept_known names name q b = by (known names name) refl
  where
    by : (o : Option Bool) → known names name ≡ o → known (with_first o name b names) q ≡ or_then (known names q) (cond (bytes_eq q name) (Some b) None)
    by None h = known_last names name q b
    by (Some a) h = sym (stands names name q a b h)

holds_more : (names : Known) (before : List Declared) (d : Declared) → Holds names before → Holds (with_name d.name.text d.is_subprogram names) (before ++ d ∷ [])
unfolding Holds
holds_more names before d h = λ q.
    kept_known names d.name.text q d.is_subprogram ∙ ap (λ o. or_then o (cond (bytes_eq q d.name.text) (Some d.is_subprogram) None)) (h q) ∙ sym (standing_last before d q)

-- a walk whose names are dropped at its end
end : {A : Type 0} → Result A Fault → Result (Unit {0}) Fault
end r = r >>= λ x. Ok tt

-- one condition, by either test
step : (s t : Bool) (c : StaticCode) (span : Span) (names : Known) (f : Known → Result Known Fault) (rest : Result (Unit {0}) Fault) → s ≡ t → end (f names) ≡ rest →
    end ((need s c span >> Ok names) >>= f) ≡ (need t c span >> rest)
unfolding end
step true true c span names f rest e h = h
step false false c span names f rest e h = refl
step true false c span names f rest e h = cc e
step false true c span names f rest e h = cc e

walk_names : (ds : List Declared) (names : Known) (before : List Declared) → Holds names before → end (after_names names ds) ≡ names_rule before ds
unfolding Holds end
walk_names [] names before h = refl
walk_names (d ∷ ds) names before h =
    step (is_free names d.name.text d.is_subprogram) (is_new before d) T01 d.name.span (with_name d.name.text d.is_subprogram names) (λ more. after_names more ds) (names_rule (before ++ d ∷ []) ds)
    (ap (λ o. not (is_listed library d.name.text) && may_share o d.is_subprogram) (h d.name.text))
    (walk_names ds _ _ (holds_more names before d h))

-- one declaration after another
then_same : (r : Result Known Fault) (f g : Known → Result Known Fault) → ((more : Known) → f more ≡ g more) → (r >>= f) ≡ (r >>= g)
then_same (Ok more) f g h = h more
then_same (Err e) f g h = refl

then_then : (r : Result Known Fault) (f g : Known → Result Known Fault) → (r >>= λ more. f more >>= g) ≡ (r >>= f >>= g)
then_then (Ok more) f g = refl
then_then (Err e) f g = refl

after_append : (xs ys : List Declared) (names : Known) → after_names names (xs ++ ys) ≡ (after_names names xs >>= λ more. after_names more ys)
after_append [] ys names = refl
after_append (d ∷ ds) ys names =
    then_same (after_name names d.name d.is_subprogram) _ _ (λ more. after_append ds ys more)
    ∙ then_then (after_name names d.name d.is_subprogram) (λ more. after_names more ds) (λ more. after_names more ys)

after_all : (ds : List Decl) (names : Known) → after_decls names ds ≡ after_names names (all_declared ds)
after_all [] names = refl
after_all (d ∷ ds) names =
    then_same (after_names names (declared_by d)) _ _ (λ more. after_all ds more) ∙ sym (after_append (declared_by d) (all_declared ds) names)

-- the rule of the names, by the names that were kept
pub names_walk : (ds : List Decl) → names_rule [] (all_declared ds) ≡ (after_decls [] ds >>= λ names. Ok tt)
unfolding Holds end
names_walk ds = sym (ap end (after_all ds []) ∙ walk_names (all_declared ds) [] [] (λ q. refl))
