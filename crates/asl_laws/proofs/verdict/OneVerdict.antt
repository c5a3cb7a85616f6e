-- Right tests of one width limit answer alike, so a program has one verdict, and files have one answer.
use Rattle.std.proofs.Common.{◌≡◌, ◌≤◌, ℕ, ◌⊎◌, inl, inr, Bool, true, false, List, Result, Ok, Err, refl, ap, sym, ◌∙◌, subst}
use Rattle.asl_poly.specs.WidthLimits.{heaviest}
use Rattle.asl_syn.specs.declared.code.Fault.{Fault}
use Rattle.asl_syn.specs.declared.read.ReadDecl.{ReadDecl}
use Rattle.asl_grammar.specs.Reading.{File, ReadsAt}
use Rattle.asl_grammar.proofs.OneProgram.{one_answer_at as one_reading, some_reader_at}
use Rattle.asl_rules.specs.declared.entry.Entry.{Entry}
use Rattle.asl_rules.specs.Tests.{Tests, IsRight}
use Rattle.asl_rules.specs.declarations.Programs.{Accepted, read_verdict, ReadOk, ReadFault}
use Rattle.asl_laws.specs.Answers.{AnsweredBy, OneAnswer}
use Rattle.asl_rules.proofs.verdict.SomeTests.{SomeTests, some_tests}

no_true : false ≡ true → ⊥
no_true h = cc

pub same_bool : (a b : Bool) → (a ≡ true → b ≡ true) → (b ≡ true → a ≡ true) → a ≡ b
same_bool true true f g = refl
same_bool true false f g = sym (f refl)
same_bool false true f g = g refl
same_bool false false f g = refl

pub one_test : (t u : Tests) → IsRight t → IsRight u → t.limit ≡ u.limit → t ≡ u
one_test t u p q l = λ i. record {
  limit = l i;
  same = λ x y. same_bool (t.same x y) (u.same x y) (λ h. q.same_all x y (p.same_yes x y h)) (λ h. p.same_all x y (q.same_yes x y h)) i;
  below = λ x y. same_bool (t.below x y) (u.below x y) (λ h. q.below_all x y (p.below_yes x y h)) (λ h. p.below_all x y (q.below_yes x y h)) i;
}

ok_same : {A : Type 0} {x y : A} → (let r : Result A Fault = Ok x in r) ≡ Ok y → x ≡ y
ok_same h = cc

err_same : {A : Type 0} {f g : Fault} → (let r : Result A Fault = Err f in r) ≡ Err g → f ≡ g
err_same h = cc

ok_err : {A : Type 0} {x : A} {f : Fault} → (let r : Result A Fault = Ok x in r) ≡ Err f → ⊥
ok_err h = cc

-- right tests exist under each limit that a width may have
pub right_tests : (limit : ℕ) → limit ≤ heaviest → (t : Tests) × (IsRight t × (t.limit ≡ limit))
right_tests limit light = let s = some_tests limit light in (s.tests, (s.right, s.within))

-- ---- declarations

one_value : (e : Entry) (ds : List ReadDecl) (t u : Tests) → IsRight t → IsRight u → t.limit ≡ u.limit → read_verdict e ds t ≡ read_verdict e ds u
one_value e ds t u p q l = ap (read_verdict e ds) (one_test t u p q l)

one_accepted : (limit : ℕ) (e : Entry) (ds : List ReadDecl) (a b : Accepted) → ReadOk limit e ds a → ReadOk limit e ds b → a ≡ b
one_accepted limit e ds a b p q = ok_same (sym p.is ∙ one_value e ds p.tests q.tests p.right q.right (p.within ∙ sym q.within) ∙ q.is)

one_fault : (limit : ℕ) (e : Entry) (ds : List ReadDecl) (f g : Fault) → ReadFault limit e ds f → ReadFault limit e ds g → f ≡ g
one_fault limit e ds f g p q = err_same (sym p.is ∙ one_value e ds p.tests q.tests p.right q.right (p.within ∙ sym q.within) ∙ q.is)

not_both : (limit : ℕ) (e : Entry) (ds : List ReadDecl) (a : Accepted) (f : Fault) → ReadOk limit e ds a → ReadFault limit e ds f → ⊥
not_both limit e ds a f p q = ok_err (sym p.is ∙ one_value e ds p.tests q.tests p.right q.right (p.within ∙ sym q.within) ∙ q.is)

abbrev Judged : ℕ → Entry → List ReadDecl → Type 0
Judged limit e ds = ((a : Accepted) × ReadOk limit e ds a) ⊎ ((f : Fault) × ReadFault limit e ds f)

decided : (limit : ℕ) (s : SomeTests limit) (e : Entry) (ds : List ReadDecl) (r : Result Accepted Fault) → read_verdict e ds s.tests ≡ r → Judged limit e ds
decided limit s e ds (Ok a) h = inl (a, record { tests = s.tests; right = s.right; within = s.within; is = h })
decided limit s e ds (Err f) h = inr (f, record { tests = s.tests; right = s.right; within = s.within; is = h })

some_verdict : (limit : ℕ) → limit ≤ heaviest → (e : Entry) (ds : List ReadDecl) → Judged limit e ds
some_verdict limit light e ds = let s = some_tests limit light in decided limit s e ds (read_verdict e ds s.tests) refl

-- ---- files

-- the declarations that files are read to
same_decls : (limit : ℕ) (files : List File) (ds es : List ReadDecl) → ReadsAt limit files (Ok ds) → ReadsAt limit files (Ok es) → ds ≡ es
same_decls limit files ds es h k = ok_same (one_reading limit files (Ok ds) (Ok es) h k)

no_fault : (limit : ℕ) (files : List File) (ds : List ReadDecl) (f : Fault) → ReadsAt limit files (Ok ds) → ReadsAt limit files (Err f) → ⊥
no_fault limit files ds f h k = ok_err (one_reading limit files (Ok ds) (Err f) h k)

-- a fault that is met as files are read
only_refused : (limit : ℕ) (e : Entry) (files : List File) (f : Fault) → ReadsAt limit files (Err f) → (r : Result Accepted Fault) → AnsweredBy limit e files r → r ≡ Err f
only_refused limit e files f k (Ok a) h = absurd (no_fault limit files h.decls f h.reads k)
only_refused limit e files f k (Err g) (inl h) = ap Err (err_same (one_reading limit files (Err g) (Err f) h k))
only_refused limit e files f k (Err g) (inr (ds, h, i)) = absurd (no_fault limit files ds f h k)

only_accepted : (limit : ℕ) (e : Entry) (files : List File) (ds : List ReadDecl) → ReadsAt limit files (Ok ds) → (a : Accepted) → ReadOk limit e ds a → (r : Result Accepted Fault) → AnsweredBy limit e files r → r ≡ Ok a
only_accepted limit e files ds k a p (Ok b) h = ap Ok (one_accepted limit e ds b a (subst (λ es. ReadOk limit e es b) (same_decls limit files h.decls ds h.reads k) h.ok) p)
only_accepted limit e files ds k a p (Err g) (inl h) = absurd (no_fault limit files ds g k h)
only_accepted limit e files ds k a p (Err g) (inr (es, h, i)) = absurd (not_both limit e ds a g p (subst (λ fs. ReadFault limit e fs g) (same_decls limit files es ds h k) i))

only_faulty : (limit : ℕ) (e : Entry) (files : List File) (ds : List ReadDecl) → ReadsAt limit files (Ok ds) → (f : Fault) → ReadFault limit e ds f → (r : Result Accepted Fault) → AnsweredBy limit e files r → r ≡ Err f
only_faulty limit e files ds k f p (Ok b) h = absurd (not_both limit e ds b f (subst (λ es. ReadOk limit e es b) (same_decls limit files h.decls ds h.reads k) h.ok) p)
only_faulty limit e files ds k f p (Err g) (inl h) = absurd (no_fault limit files ds g k h)
only_faulty limit e files ds k f p (Err g) (inr (es, h, i)) = ap Err (one_fault limit e ds g f (subst (λ fs. ReadFault limit e fs g) (same_decls limit files es ds h k) i) p)

judged : (limit : ℕ) (e : Entry) (files : List File) (ds : List ReadDecl) → ReadsAt limit files (Ok ds) → Judged limit e ds → OneAnswer limit e files
judged limit e files ds k (inl (a, p)) = record { answer = Ok a; is = record { decls = ds; reads = k; ok = p }; only = only_accepted limit e files ds k a p }
judged limit e files ds k (inr (f, p)) = record { answer = Err f; is = inr (ds, k, p); only = only_faulty limit e files ds k f p }

answered : (limit : ℕ) → limit ≤ heaviest → (e : Entry) (files : List File) (r : Result (List ReadDecl) Fault) → ReadsAt limit files r →
    OneAnswer limit e files
answered limit light e files (Ok ds) k = judged limit e files ds k (some_verdict limit light e ds)
answered limit light e files (Err f) k = record { answer = Err f; is = inl k; only = only_refused limit e files f k }

pub one_answer : (limit : ℕ) → limit ≤ heaviest → (e : Entry) (files : List File) → OneAnswer limit e files
one_answer limit light e files = answered limit light e files ((some_reader_at limit).0 files) ((some_reader_at limit).1 files)
