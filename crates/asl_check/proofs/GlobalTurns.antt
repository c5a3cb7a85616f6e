-- The globals that a run begins with, one by one, and a program that is sealed with them.
use Rattle.std.proofs.Common.{◌≡◌, ℕ, ◌+◌, ◌<◌, ◌≤◌, List, [], ◌∷◌, ◌++◌, length, get_or, drop, Option, Some, None, Ok, option_map, refl, sym, ap, ◌∙◌, append_assoc}
use Rattle.std.specs.List.{All}
use Rattle.std.specs.Prelude.{IfSome}
use Rattle.std.proofs.lemmas.List.{drop_all}
use Rattle.std.proofs.lemmas.List.Elements.{All-append, All-cons, All-nil, All-same}
use Rattle.asl_syn.specs.declared.tree.Decl.{Decl}
use Rattle.asl_syn.specs.declared.tree.Decl.TheVariants as dc
use Rattle.asl_rules.specs.declared.entry.Entry.{Entry as Asked}
use Rattle.asl_rules.specs.private.Grown.{AreGrown}
use Rattle.asl_rules.specs.declarations.Programs.{Entries, verdict, accepted, Accepted}
use Rattle.asl_rules.specs.declarations.Scopes.{Entry, Signature, storage_of}
use Rattle.asl_rules.specs.runs.States.{Binding}
use Rattle.asl_rules.specs.runs.Evaluation.{global_in, globals_among, cons_some}
use Rattle.asl_rules.specs.declarations.Turns.{names_of_program}
use Rattle.asl_rules.specs.Tests.{Tests}
use Rattle.asl_laws.proofs.soundness.SoundnessFacts.{facts_of}
use Rattle.asl_types.specs.Suits.{Suits}
use Rattle.asl_tree.specs.Funcs.{all_funcs}
use Rattle.asl_tree.specs.declared.act.TreeFunc.{TreeFunc}
use Rattle.asl_tree.specs.declared.checked.Global.{Global}
use Rattle.asl_tree.specs.Sealed.{Cell, cell_in, cell_of, cells_in, cells_of, HasItsType, IsSealed}
use Rattle.asl_check.specs.private.GlobalViews.{found_global, with_found}
use Rattle.asl_blocks.proofs.Chains.{next_of, append_nothing}

cells_both : (gs : List Global) (g : Global) → cells_of (gs ++ g ∷ []) ≡ cells_of gs ++ cell_of g ∷ []
cells_both [] g = refl
cells_both (x ∷ gs) g = ap (λ cs. cell_of x ∷ cs) (cells_both gs g)

cells_found : (gs : List Global) (g : Option Global) → cells_of (with_found gs g) ≡ with_found (cells_of gs) (option_map cell_of g)
cells_found gs None = refl
cells_found gs (Some g) = cells_both gs g

one_found : (d : Decl) (ds : List Decl) (names : List Entry) (cs : List Cell) →
    cs ++ cells_in (globals_among (d ∷ ds) names)
    ≡ with_found cs (option_map cell_in (found_global d names)) ++ cells_in (globals_among ds names)
one_found (dc.Type d) ds names cs = refl
one_found (dc.Func f) ds names cs = refl
one_found (dc.Storage d) ds names cs = by (global_in d (storage_of d.name.text names))
  where
    by : (o : Option Binding) → cs ++ cells_in (cons_some o (globals_among ds names))
        ≡ with_found cs (option_map cell_in o) ++ cells_in (globals_among ds names)
    by None = refl
    by (Some b) = sym (append_assoc cs (cell_in b ∷ []) (cells_in (globals_among ds names)))

pub cells_next : (names : List Entry) (ds : List Decl) (i : ℕ) (d : Decl) (gs more : List Global) (all : List Cell) (g : Option Global) →
    i < length ds → d ≡ get_or ds i d →
    option_map cell_of g ≡ option_map cell_in (found_global d names) → more ≡ with_found gs g →
    cells_of gs ++ cells_in (globals_among (drop i ds) names) ≡ all →
    cells_of more ++ cells_in (globals_among (drop (i + 1) ds) names) ≡ all
cells_next names ds i d gs more all g within here found m before =
    ap (λ xs. xs ++ cells_in (globals_among (drop (i + 1) ds) names))
    (ap cells_of m ∙ cells_found gs g ∙ ap (with_found (cells_of gs)) found)
    ∙ sym (one_found d (drop (i + 1) ds) names (cells_of gs))
    ∙ ap (λ rest. cells_of gs ++ cells_in (globals_among rest names)) (sym (next_of ds i d within here))
    ∙ before

pub cells_end : (names : List Entry) (ds : List Decl) (i : ℕ) (cs all : List Cell) → length ds ≤ i → cs ++ cells_in (globals_among (drop i ds) names) ≡ all → cs ≡ all
cells_end names ds i cs all past before = sym (append_nothing cs) ∙ ap (λ rest. cs ++ cells_in (globals_among rest names)) (sym (drop_all i ds past)) ∙ before

-- ---- their types

module _ (names : List Entry) where
  typed_found : (gs : List Global) (g : Option Global) → All (HasItsType names) gs → IfSome g (HasItsType names) →
      All (HasItsType names) (with_found gs g)
  typed_found gs None before one = before
  typed_found gs (Some g) before one =
      All-append (HasItsType names) gs (g ∷ []) before (All-cons (HasItsType names) g [] one (All-nil (HasItsType names)))

  pub typed_next : (gs more : List Global) (g : Option Global) → more ≡ with_found gs g → All (HasItsType names) gs → IfSome g (HasItsType names) →
      All (HasItsType names) more
  typed_next gs more g m before one = All-same (HasItsType names) more (with_found gs g) m (typed_found gs g before one)

-- ---- sealed

names_are : (t : Tests) (e : Asked) (ds : List Decl) (a : Accepted) → verdict e ds t ≡ Ok a → a.names ≡ names_of_program t ds
names_are t e ds a h = sym (ap (λ (x : Accepted). x.names) (facts_of t e ds a h).is)

pub sealed_by : (ds : List Decl) (e : Asked) (found : Entries) (funcs : List TreeFunc) (globals : List Global) (subs : List Signature) (names : List Entry) →
    AreGrown ds → ((t : Tests) → Suits t → verdict e ds t ≡ Ok (accepted e found subs (all_funcs funcs) names)) → cells_of globals ≡ cells_in (globals_among ds names) →
    All (HasItsType names) globals → IsSealed ds e found funcs globals
sealed_by ds e found funcs globals subs names grown v begins typed = λ t s. ∣ record {
  signatures = subs;
  names = names;
  grown = grown;
  accepts = v t s;
  begins = begins ∙ ap (λ ns. cells_in (globals_among ds ns)) (names_are t e ds _ (v t s));
  typed = typed;
} ∣₁
