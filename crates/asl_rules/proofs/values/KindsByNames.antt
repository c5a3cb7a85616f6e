-- Where types agree with what is declared, declared names are of one kind by the names exactly where they are by structure.
use Rattle.std.proofs.Common.{◌≡◌, ℕ, ◌&&◌, ◌||◌, Bool, true, false, List, [], ◌∷◌, Option, Some, refl, sym, ap, ap₂, ◌∙◌}
use Rattle.std.specs.Prelude.{◌==◌}
use Rattle.std.specs.Str.{bytes_eq}
use Rattle.asl_rules.specs.types.Types.{Ty, Parts, integer_of, boolean, bits_of, enumeration_of, record_of, exception_of, tuple_of, array_of, named, no_part, part, integers, booleans, bitvectors, tuples, arrays, kind, kinds, kind_eq, kinds_eq, is_among, reaches, by_relation, is_tuple, is_array_of, same_kind, same_kinds, parts_of, element_of}
use Rattle.asl_rules.specs.private.WellFormed.{Declared, Nearest, Shaped, ShapedParts, WellDeclared}
use Rattle.asl_rules.proofs.basics.Tests.{no, some_same, either, same_name}
use Rattle.asl_rules.proofs.values.SameKind.{tests_equal, tests_turned}

-- ---- what declarations say

stands_for : Ty → Ty
stands_for (named n supers T) = T
stands_for T = T

supers_of : Ty → List (List ℕ)
supers_of (named n supers T) = supers
supers_of T = []

pub one_type : (n : List ℕ) (s r : List (List ℕ)) (m : List ℕ) (S T : Ty) (o : Option Ty) → o ≡ Some (named n s S) → o ≡ Some (named m r T) → named n s S ≡ named m r T
one_type n s r m S T o g h = some_same (named n s S) (named m r T) (sym g ∙ h)

pub one_structure : (n : List ℕ) (s r : List (List ℕ)) (m : List ℕ) (S T : Ty) → named n s S ≡ named m r T → S ≡ T
unfolding stands_for
one_structure n s r m S T h = ap stands_for h

pub one_supers : (n : List ℕ) (s r : List (List ℕ)) (m : List ℕ) (S T : Ty) → named n s S ≡ named m r T → s ≡ r
unfolding supers_of
one_supers n s r m S T h = ap supers_of h

pub declared_of : (d : List ℕ → Option Ty) → WellDeclared d → (n : List ℕ) (s : List (List ℕ)) (T : Ty) → d n ≡ Some (named n s T) → Declared d n s T
declared_of d w n s T e = (w.each n (named n s T) e).shaped.1

-- ---- names that are reached

-- the structures of a name and of one that it reaches are of one kind
kinds_climb : (d : List ℕ → Option Ty) → WellDeclared d → (ns : List (List ℕ)) (S : Ty) (c : List ℕ) (others : List (List ℕ)) (U : Ty) → Nearest d S ns → is_among c ns ≡ true → d c ≡ Some (named c others U) → kind S ≡ kind U
kinds_climb d w [] S c others U r e i = no e
kinds_climb d w (n ∷ ns) S c others U r e i =
    either (bytes_eq n c) (is_among c ns) e
    (λ o. r.3 ∙ ap kind (one_structure n ns others c r.0 U (one_type n ns others c r.0 U (d c) (ap d (sym (same_name n c o)) ∙ r.1) i)))
    (λ o. r.3 ∙ kinds_climb d w ns r.0 c others U (declared_of d w n ns r.0 r.1).nearest o i)

pub reached_kind : (d : List ℕ → Option Ty) → WellDeclared d → (own : List ℕ) (s : List (List ℕ)) (T : Ty) (c : List ℕ) (others : List (List ℕ)) (U : Ty) → d own ≡ Some (named own s T) → d c ≡ Some (named c others U) → reaches own s c ≡ true → kind T ≡ kind U
reached_kind d w own s T c others U e i h =
    either (bytes_eq own c) (is_among c s) h
    (λ o. ap kind (one_structure own s others c T U (one_type own s others c T U (d c) (ap d (sym (same_name own c o)) ∙ e) i)))
    (λ o. kinds_climb d w s T c others U (declared_of d w own s T e).nearest o i)

-- ---- the test by names

by_tuple : (d : List ℕ → Option Ty) (ss : Parts) (T : Ty) → Shaped d T → ((ts : Parts) → ShapedParts d ts → same_kinds ss ts ≡ kinds_eq (kinds ss) (kinds ts)) → (is_tuple T && same_kinds ss (parts_of T)) ≡ kind_eq (tuples (kinds ss)) (kind T)
by_tuple d ss (integer_of ps) t f = refl
by_tuple d ss boolean t f = refl
by_tuple d ss (bits_of w view) t f = refl
by_tuple d ss (enumeration_of n labels) t f = refl
by_tuple d ss (record_of n fs) t f = refl
by_tuple d ss (exception_of n fs) t f = refl
by_tuple d ss (tuple_of ts) t f = f ts t
by_tuple d ss (array_of n T) t f = refl
by_tuple d ss (named n supers T) t f = by_tuple d ss T t.2 f

by_array : (d : List ℕ → Option Ty) (n : ℕ) (S T : Ty) → Shaped d T → ((U : Ty) → Shaped d U → same_kind S U ≡ kind_eq (kind S) (kind U)) → (is_array_of n T && same_kind S (element_of T)) ≡ kind_eq (arrays n (kind S)) (kind T)
by_array d n S (integer_of ps) t f = refl
by_array d n S boolean t f = refl
by_array d n S (bits_of w view) t f = refl
by_array d n S (enumeration_of m labels) t f = refl
by_array d n S (record_of m fs) t f = refl
by_array d n S (exception_of m fs) t f = refl
by_array d n S (tuple_of ts) t f = refl
by_array d n S (array_of m T) t f = ap (λ b. (n == m) && b) (f T t.1)
by_array d n S (named m supers T) t f = by_array d n S T t.2 f

-- a test that says no more than another, before that
before : (a b c k : Bool) → (a ≡ true → k ≡ true) → (b ≡ true → k ≡ true) → c ≡ k → (a || (b || c)) ≡ k
before true b c k f g h = sym (f refl)
before false true c k f g h = sym (g refl)
before false false c k f g h = h

by_name : (d : List ℕ → Option Ty) → WellDeclared d → (name : List ℕ) (supers : List (List ℕ)) (S T : Ty) (rest : Bool) → Shaped d (named name supers S) → Shaped d T → rest ≡ kind_eq (kind S) (kind T) → by_relation name supers T rest ≡ kind_eq (kind S) (kind T)
by_name d w name supers S (named target others T) rest s t e =
    before (reaches name supers target) (reaches target others name) rest (kind_eq (kind S) (kind T))
    (λ h. tests_equal (kind S) (kind T) (reached_kind d w name supers S target others T s.1.stands t.1.stands h))
    (λ h. tests_equal (kind S) (kind T) (sym (reached_kind d w target others T name supers S t.1.stands s.1.stands h)))
    e
by_name d w name supers S T rest s t e = e

mutual
  pub kinds_by_names : (d : List ℕ → Option Ty) → WellDeclared d → (S T : Ty) → Shaped d S → Shaped d T → same_kind S T ≡ kind_eq (kind S) (kind T)
  kinds_by_names d w (integer_of ps) T s t = tests_turned (kind T) integers
  kinds_by_names d w boolean T s t = tests_turned (kind T) booleans
  kinds_by_names d w (bits_of p view) T s t = tests_turned (kind T) bitvectors
  kinds_by_names d w (enumeration_of n labels) T s t = refl
  kinds_by_names d w (record_of n fs) T s t = refl
  kinds_by_names d w (exception_of n fs) T s t = refl
  kinds_by_names d w (tuple_of ss) T s t = by_tuple d ss T t (λ ts u. all_by_names d w ss ts s u)
  kinds_by_names d w (array_of n S) T s t = by_array d n S T t (λ U u. kinds_by_names d w S U s.1 u)
  kinds_by_names d w (named n supers S) T s t = by_name d w n supers S T (same_kind S T) s t (kinds_by_names d w S T s.2 t)

  pub all_by_names : (d : List ℕ → Option Ty) → WellDeclared d → (ss ts : Parts) → ShapedParts d ss → ShapedParts d ts → same_kinds ss ts ≡ kinds_eq (kinds ss) (kinds ts)
  all_by_names d w no_part no_part s t = refl
  all_by_names d w no_part (part T ts) s t = refl
  all_by_names d w (part S ss) no_part s t = refl
  all_by_names d w (part S ss) (part T ts) s t = ap₂ (λ b c. b && c) (kinds_by_names d w S T s.1 t.1) (all_by_names d w ss ts s.2 t.2)

-- types that are found to be of one kind are
pub one_kind : (d : List ℕ → Option Ty) → WellDeclared d → (S T : Ty) → Shaped d S → Shaped d T → same_kind S T ≡ true → kind_eq (kind S) (kind T) ≡ true
one_kind d w S T s t h = sym (kinds_by_names d w S T s t) ∙ h
