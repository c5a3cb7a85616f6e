-- Which codes the faults of declarations that are read have: those of the rules. What no text gives, a literal that is none and
-- storage with neither a type nor an initialiser, has another one, and isn't met.
use Rattle.std.proofs.Common.{◌≡◌, ℕ, inl, inr, Bool, true, ◌||◌, List, [], ◌∷◌, Option, Some, None, Ok, refl, sym, ap₂, ◌∙◌, subst, Err}
use Rattle.std.specs.Prelude.{is_some}
use Rattle.asl_syn.specs.declared.token.Span.{Span}
use Rattle.asl_syn.specs.declared.code.DynCode.{DynCode}
use Rattle.asl_syn.specs.declared.code.Fault.{Fault}
use Rattle.asl_syn.specs.declared.code.StaticCode.{StaticCode}
use Rattle.asl_syn.specs.declared.code.StaticCode.TheVariants.{S03, T04}
use Rattle.asl_syn.specs.declared.tree.Decl.{Decl}
use Rattle.asl_syn.specs.declared.tree.Decl.TheVariants as dc
use Rattle.asl_syn.specs.declared.tree.StorageDecl.{StorageDecl}
use Rattle.asl_grammar.specs.Reading.{File, ReadsAt}
use Rattle.asl_laws.specs.Answers.{AreJudged}
use Rattle.asl_rules.specs.declared.entry.Entry.{Entry}
use Rattle.asl_rules.specs.Faults.{none_at, found_or}
use Rattle.asl_rules.specs.Tests.{Tests}
use Rattle.asl_rules.specs.values.Values as values
use Rattle.asl_rules.specs.values.Values.{Value}
use Rattle.asl_rules.specs.values.Vectors.{literal_of}
use Rattle.asl_rules.specs.types.Closed.{closed}
use Rattle.asl_rules.specs.types.Written.{first_value}
use Rattle.asl_rules.specs.expressions.Exprs.{found, found_type}
use Rattle.asl_rules.specs.runs.Plans.{Faulted, Stuck, Pure, Good, Bad}
use Rattle.asl_rules.specs.declarations.Barred.{barred}
use Rattle.asl_rules.specs.declarations.Constants.{constant}
use Rattle.asl_rules.specs.declarations.Declarations.{evaluated}
use Rattle.asl_rules.specs.declarations.Programs.{as_number, origin, ReadFault, default_decls, final_decls, verdict}
use Rattle.asl_rules.specs.private.Grown.{is_grown, AreGrown}
use Rattle.asl_rules.proofs.basics.Tests.{no}
use Rattle.asl_laws.specs.Evaluated.{StandsIn}
use Rattle.asl_laws.specs.Codes.{IsOfRules, HasRuleCode}
use Rattle.asl_laws.specs.Spans.{Mark, place, literal, Each, all_of, decl_spans}
use Rattle.asl_laws.proofs.reading.Trees.{LiteralKept, judged_literals}
use Rattle.asl_laws.proofs.scopes.GrownTexts.{judged_grown}
use Rattle.asl_laws.proofs.spans.EachSpan.{each_so}
use Rattle.asl_laws.proofs.spans.OtherCodes.{Other}
use Rattle.asl_laws.proofs.spans.Standing.{At, Stands, Marked}
use Rattle.asl_laws.proofs.spans.ProgramSpans.{AsksOf, fault_stands}
use Rattle.asl_syn.specs.declared.read.ReadDecl.{ReadDecl}
use Rattle.asl_laws.proofs.verdict.ReadVerdict.{Faulty, HeaderSays, bodies_say, fault_of_steps}
use Rattle.asl_laws.proofs.basics.Lists.{AllOf}
use Rattle.asl_rules.specs.declarations.Replacing.{Header, header_of}

other_of_rules : (code : StaticCode) → Other code → IsOfRules code
other_of_rules T04 o = absurd o
other_of_rules code o = o

no_inner : (d : DynCode) → (let o : Option DynCode = None in o) ≡ Some d → ⊥
no_inner d h = cc

-- a rule has a code of rules, and no dynamic one
anywhere : (span : Span) → At HasRuleCode span
anywhere span = record { fault_has = λ code o. record { code = other_of_rules code o; inner = λ d h. absurd (no_inner d h) } }

-- ---- evaluations

evaluated_has : (r : Pure Value) → Stands HasRuleCode (evaluated r)
evaluated_has (Good x) = tt
evaluated_has (Bad (Faulted code span)) = record { has = record { code = tt; inner = λ d h. refl } }
evaluated_has (Bad (Stuck mistake span)) = record { has = record { code = tt; inner = λ d h. refl } }

none_has : (o : Option Span) → Stands HasRuleCode (none_at T04 o)
none_has None = tt
none_has (Some span) = record { has = record { code = tt; inner = λ d h. refl } }

number_has : (span : Span) (x : Value) → Stands HasRuleCode (as_number span x)
number_has span (values.int z) = tt
number_has span x = record { has = record { code = tt; inner = λ d h. refl } }

-- ---- what no text gives

literal_has : (span : Span) (o : Option (List Bool)) → (bs : List Bool) × (o ≡ Some bs) → Stands HasRuleCode (found_or o S03 span)
literal_has span None (bs, e) = absurd cc
literal_has span (Some cs) l = tt

-- storage that is grown has a type or an initialiser
bare : (s : StorageDecl) → is_grown (dc.Storage s) ≡ true → s.ty ≡ None → s.init ≡ None → ⊥
bare s g ty init = no (sym (ap₂ (λ x y. is_some x || is_some y) ty init) ∙ g)

grown_in : (d : Decl) (ds : List Decl) → StandsIn d ds → AreGrown ds → is_grown d ≡ true
grown_in d [] i g = absurd i
grown_in d (e ∷ ds) (inl same) g = subst (λ z. is_grown z ≡ true) same g.0
grown_in d (e ∷ ds) (inr i) g = grown_in d ds i g.1

module _ (t : Tests) (ds : List Decl) (grown : AreGrown ds) where
  kept : (mark : Mark) → LiteralKept t.limit mark → Marked HasRuleCode t mark
  kept (place span) k = anywhere span
  kept (literal span text) k = (anywhere span, literal_has span (literal_of t.limit text) k)

  asks : AsksOf t ds HasRuleCode
  asks = record {
    barred_at = λ names v e o. none_has (barred e names);
    known_at = λ names v e o k S b so. evaluated_has (constant t.limit e names);
    number_at = λ names v e o k S b so i x g. number_has (found t e).span x;
    bare_at = λ s i ty init p. absurd (bare s (grown_in (dc.Storage s) ds i grown) ty init);
    first_at = λ names v s i init ty q W w p. evaluated_has (first_value t.limit (found_type t ty).span (closed W.ty));
  }

-- a fault of declarations that are judged has a code of the rules
judged_code : (limit : ℕ) (e : Entry) (files : List File) (ds : List Decl) (f : Fault) → AreJudged limit files ds →
    (t : Tests) → t.limit ≡ limit → verdict e ds t ≡ Err f → HasRuleCode f
judged_code limit e files ds f r t within is =
    let grown = judged_grown limit files ds r in
    let there : Each (LiteralKept t.limit) (all_of decl_spans ds) =
    subst (λ (l : ℕ). Each (LiteralKept l) (all_of decl_spans ds)) (sym within) (judged_literals limit files ds r) in
    fault_stands t HasRuleCode ds (asks t ds grown) e f (anywhere origin)
    (each_so (LiteralKept t.limit) (Marked HasRuleCode t) (kept t ds grown) (all_of decl_spans ds) there) is

header_has : (o : Option Header) → HeaderSays HasRuleCode o
header_has None = tt
header_has (Some h) = (record { code = tt; inner = λ d e. absurd (no_inner d e) }, record { code = tt; inner = λ d e. absurd (no_inner d e) })
  where
    no_inner : (d : DynCode) → None ≡ Some d → ⊥
    no_inner d e = cc

headers_have : (ds : List ReadDecl) → AllOf (λ d. HeaderSays HasRuleCode (header_of d)) ds
headers_have [] = tt
headers_have (d ∷ ds) = (header_has (header_of d), headers_have ds)

-- so has one of declarations that are read
pub read_code : (limit : ℕ) (e : Entry) (files : List File) (ds : List ReadDecl) (f : Fault) → ReadsAt limit files (Ok ds) →
    ReadFault limit e ds f → HasRuleCode f
read_code limit e files ds f r p = by (fault_of_steps e ds p.tests f p.is)
  where
    by : Faulty e ds p.tests f → HasRuleCode f
    by (inl m) = bodies_say HasRuleCode f ds (headers_have ds) m
    by (inr (m, inl d)) = judged_code limit e files (default_decls ds) f (record { read = ds; reads = r; are = inl refl }) p.tests p.within d
    by (inr (m, inr (a, d, g))) = judged_code limit e files (final_decls ds) f (record { read = ds; reads = r; are = inr refl }) p.tests p.within g
