-- The verdict on what is read is that on the programs that come of it, in their order: a law's clauses.
use Rattle.std.proofs.Common.{◌≡◌, ◌≤◌, ◌↔◌, inl, inr, ℕ, List, Ok, ap, sym, ◌∙◌, subst}
use Rattle.asl_poly.specs.WidthLimits.{heaviest}
use Rattle.asl_syn.specs.declared.code.Fault.{Fault}
use Rattle.asl_syn.specs.declared.read.ReadDecl.{ReadDecl}
use Rattle.asl_rules.specs.declared.entry.Entry.{Entry}
use Rattle.asl_rules.specs.Tests.{Tests, IsRight}
use Rattle.asl_rules.specs.declarations.Programs.{Accepted, ReadOk, ReadFault, default_decls, verdict}
use Rattle.asl_rules.specs.report.Report.{on_verdict}
use Rattle.asl_rules.specs.report.Texts.{File}
use Rattle.asl_laws.specs.WrittenVerdicts.{BothOk, FirstFault, ReportsFinal}
use Rattle.asl_laws.proofs.verdict.OneVerdict.{one_test, right_tests}
use Rattle.asl_laws.proofs.verdict.ReadVerdict.{Faulty, steps_of, of_steps, fault_of_steps, of_fault}

-- right tests of one limit are the same
same_tests : (t u : Tests) (limit : ℕ) → IsRight t → IsRight u → t.limit ≡ limit → u.limit ≡ limit → t ≡ u
same_tests t u limit p q l m = one_test t u p q (l ∙ sym m)

module _ (limit : ℕ) (e : Entry) (ds : List ReadDecl) where
  both_of : (a : Accepted) → ReadOk limit e ds a → BothOk limit e ds a
  both_of a p =
      let s = steps_of e ds p.tests a p.is in
      record {
        bodies = s.matched;
        with_defaults = s.first;
        default_ok = record { tests = p.tests; right = p.right; within = p.within; is = s.default_is };
        final_ok = record { tests = p.tests; right = p.right; within = p.within; is = s.final_is };
      }

  of_both : (a : Accepted) → BothOk limit e ds a → ReadOk limit e ds a
  of_both a b =
      let d = b.default_ok in
      let f = b.final_ok in
      record {
        tests = f.tests;
        right = f.right;
        within = f.within;
        is = of_steps e ds f.tests a (record {
          matched = b.bodies;
          first = b.with_defaults;
          default_is = subst (λ t. verdict e (default_decls ds) t ≡ Ok b.with_defaults) (same_tests d.tests f.tests limit d.right f.right d.within f.within) d.is;
          final_is = f.is;
        });
      }

  faults_of : (f : Fault) (p : ReadFault limit e ds f) → Faulty e ds p.tests f → FirstFault limit e ds f
  faults_of f p (inl m) = inl m
  faults_of f p (inr (m, inl d)) = inr (m, inl (record { tests = p.tests; right = p.right; within = p.within; is = d }))
  faults_of f p (inr (m, inr (a, d, g))) =
      inr (m, inr (a, record { tests = p.tests; right = p.right; within = p.within; is = d }, record { tests = p.tests; right = p.right; within = p.within; is = g }))

  fault_of : (f : Fault) → ReadFault limit e ds f → FirstFault limit e ds f
  fault_of f p = faults_of f p (fault_of_steps e ds p.tests f p.is)

  of_first : limit ≤ heaviest → (f : Fault) → FirstFault limit e ds f → ReadFault limit e ds f
  of_first light f (inl m) =
      let t = right_tests limit light in
      record { tests = t.0; right = t.1.0; within = t.1.1; is = of_fault e ds t.0 f (inl m) }
  of_first light f (inr (m, inl d)) = record { tests = d.tests; right = d.right; within = d.within; is = of_fault e ds d.tests f (inr (m, inl d.is)) }
  of_first light f (inr (m, inr (a, d, g))) =
      let same = same_tests d.tests g.tests limit d.right g.right d.within g.within in
      record {
        tests = g.tests;
        right = g.right;
        within = g.within;
        is = of_fault e ds g.tests f (inr (m, inr (a, subst (λ t. verdict e (default_decls ds) t ≡ Ok a) same d.is, g.is)));
      }

pub both_ok : (limit : ℕ) (e : Entry) (ds : List ReadDecl) (a : Accepted) → ReadOk limit e ds a ↔ BothOk limit e ds a
both_ok limit e ds a = (both_of limit e ds a, of_both limit e ds a)

pub first_fault : (limit : ℕ) → limit ≤ heaviest → (e : Entry) (ds : List ReadDecl) (f : Fault) → ReadFault limit e ds f ↔ FirstFault limit e ds f
first_fault limit light e ds f = (fault_of limit e ds f, of_first limit e ds light f)

pub reports_final : (t : Tests) (files : List File) (ds : List ReadDecl) → ReportsFinal t files ds
reports_final t files ds = record {
  check = λ a h. ap (on_verdict files _) h;
  run = λ a steps h. ap (on_verdict files _) h;
  words = λ a steps words h. ap (on_verdict files _) h;
}
