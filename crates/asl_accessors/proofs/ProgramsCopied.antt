-- The two programs, copied declaration by declaration.
use Rattle.std.proofs.Common.{◌≡◌, ℕ, zero, suc, ◌+◌, ◌<◌, ◌≤◌, Bool, false, List, [], ◌∷◌, ◌++◌, length, get_or, drop, Option, Some, refl, sym, ap, ◌∙◌, subst, append_assoc, append-nil, add-one, arith}
use Rattle.std.specs.Prelude.{if◌then◌else◌, slice_get}
use Rattle.std.proofs.lemmas.List.{at_drop_all}
use Rattle.asl_syn.specs.declared.read.ReadDecl.{ReadDecl}
use Rattle.asl_rules.specs.declarations.Replacing.{defaults, has_word, header_of, is_implementation, replaced, without_implementations, without_word}
use Rattle.asl_accessors.specs.declared.matching.Part.{Part}
use Rattle.asl_accessors.specs.declared.matching.Part.TheVariants.{Stays, Replaced, AlsoReplaced, Replaces}
use Rattle.asl_accessors.specs.private.Parts.{header_part, parts_in}
use Rattle.asl_accessors.specs.private.Standing.{all_without_word, default_for, final_for}
use Rattle.asl_accessors.proofs.PartsSaid.{other_is, part_is, IsPart}
use Rattle.asl_accessors.proofs.ProgramsParted.{final_in, left_out, length_parts, part_at, stands_at}

-- ---- one declaration and what becomes of it

record IsTurn (all : List ReadDecl) (i : ℕ) (part : Part) : Type 0 where
  pub decl : ReadDecl
  pub rest : List ReadDecl
  pub here : decl ∷ rest ≡ drop i all
  pub said : IsPart all rest decl part

split : (ds : List ReadDecl) (i : ℕ) → i < length ds → (d : ReadDecl) × ((rest : List ReadDecl) × (d ∷ rest ≡ drop i ds))
split [] i h = absurd (omega (arith, h))
split (d ∷ ds) zero h = (d, (ds, refl))
split (d ∷ ds) (suc i) h = split ds i (omega (arith, h))

turn : (all : List ReadDecl) (parts : List Part) (i : ℕ) (past : Part) → parts ≡ parts_in all all → i < length parts → IsTurn all i (get_or parts i past)
turn all parts i past q h =
    let within : i < length all = omega (arith, h, ap length q, length_parts all all) in
    let s = split all i within in
    let is : get_or parts i past ≡ header_part all s.1.0 (header_of s.0) = ap (λ (ps : List Part). get_or ps i past) q ∙ part_at all all i past s.0 s.1.0 s.1.1 in
    record { decl = s.0; rest = s.1.0; here = s.1.1; said = subst (λ (part : Part). IsPart all s.1.0 s.0 part) (sym is) (part_is all s.1.0 s.0) }

-- ---- what is copied

kept_is : (make : ReadDecl → ReadDecl) (d : ReadDecl) (ds : List ReadDecl) (o : Option ReadDecl) → has_word is_implementation (header_of d) ≡ false → o ≡ Some (make d) →
    without_implementations make (d ∷ ds) ≡ all_without_word o ++ without_implementations make ds
kept_is make d ds o k q =
    ap (λ (b : Bool). if b then without_implementations make ds else without_word (make d) ∷ without_implementations make ds) k
    ∙ ap (λ (o : Option ReadDecl). all_without_word o ++ without_implementations make ds) (sym q)

-- what is copied at one turn
default_copied : {all : List ReadDecl} {i : ℕ} {part : Part} (t : IsTurn all i part) →
    without_implementations (λ d. d) (t.decl ∷ t.rest) ≡ all_without_word (default_for part i all) ++ without_implementations (λ d. d) t.rest
default_copied {all = all} {i = i} {part = part} t = by part t.said
  where
    stands : slice_get all i ≡ Some t.decl
    stands = (stands_at all i t.decl t.rest t.here).0

    by : (part : Part) → IsPart all t.rest t.decl part →
        without_implementations (λ d. d) (t.decl ∷ t.rest) ≡ all_without_word (default_for part i all) ++ without_implementations (λ d. d) t.rest
    by Stays s = kept_is (λ d. d) t.decl t.rest (slice_get all i) s.0 stands
    by (Replaced p) s = kept_is (λ d. d) t.decl t.rest (slice_get all i) (other_is s).kept stands
    by (AlsoReplaced p) s = kept_is (λ d. d) t.decl t.rest (slice_get all i) (other_is s).kept stands
    by Replaces s = left_out (λ d. d) t.decl t.rest s

final_copied : {all : List ReadDecl} {i : ℕ} {part : Part} (t : IsTurn all i part) →
    without_implementations (final_in all) (t.decl ∷ t.rest) ≡ all_without_word (final_for part i all) ++ without_implementations (final_in all) t.rest
final_copied {all = all} {i = i} {part = part} t = by part t.said
  where
    stands : slice_get all i ≡ Some t.decl
    stands = (stands_at all i t.decl t.rest t.here).0

    some : (d e : ReadDecl) → d ≡ e → Some d ≡ Some e
    some d e q = ap (λ d. Some d) q

    by : (part : Part) → IsPart all t.rest t.decl part →
        without_implementations (final_in all) (t.decl ∷ t.rest) ≡ all_without_word (final_for part i all) ++ without_implementations (final_in all) t.rest
    by Stays s = kept_is (final_in all) t.decl t.rest (slice_get all i) s.0 (stands ∙ some t.decl (final_in all t.decl) (sym s.1))
    by (Replaced p) s =
        let o = other_is s in
        kept_is (final_in all) t.decl t.rest (slice_get all p) o.kept (o.stands ∙ some o.decl (final_in all t.decl) (sym o.in_its_place))
    by (AlsoReplaced p) s =
        let o = other_is s in
        kept_is (final_in all) t.decl t.rest (slice_get all p) o.kept (o.stands ∙ some o.decl (final_in all t.decl) (sym o.in_its_place))
    by Replaces s = left_out (final_in all) t.decl t.rest s

-- what is copied, and what is left, are all
abbrev pub CopiedTo : (ReadDecl → ReadDecl) → List ReadDecl → ℕ → List ReadDecl → Type 0
CopiedTo make all i copies = copies ++ without_implementations make (drop i all) ≡ without_implementations make all

copied_on : (make : ReadDecl → ReadDecl) (all : List ReadDecl) (i : ℕ) (d : ReadDecl) (rest copies new : List ReadDecl) (o : Option ReadDecl) → d ∷ rest ≡ drop i all →
    without_implementations make (d ∷ rest) ≡ all_without_word o ++ without_implementations make rest → new ≡ copies ++ all_without_word o →
    CopiedTo make all i copies → CopiedTo make all (i + 1) new
copied_on make all i d rest copies new o q s n h =
    subst (λ (n : ℕ). CopiedTo make all n new) (sym (add-one i)) (
    ap (λ (xs : List ReadDecl). xs ++ without_implementations make (drop (suc i) all)) n
    ∙ append_assoc copies (all_without_word o) (without_implementations make (drop (suc i) all))
    ∙ ap (λ (ds : List ReadDecl). copies ++ (all_without_word o ++ without_implementations make ds)) (sym (stands_at all i d rest q).1)
    ∙ ap (λ (xs : List ReadDecl). copies ++ xs) (sym s)
    ∙ ap (λ (ds : List ReadDecl). copies ++ without_implementations make ds) q
    ∙ h)

pub default_on : (all : List ReadDecl) (parts : List Part) (i : ℕ) (past : Part) (copies new : List ReadDecl) (o : Option ReadDecl) → parts ≡ parts_in all all →
    i < length parts → o ≡ default_for (get_or parts i past) i all → new ≡ copies ++ all_without_word o → CopiedTo (λ d. d) all i copies →
    CopiedTo (λ d. d) all (i + 1) new
default_on all parts i past copies new o q h e n v =
    let t = turn all parts i past q h in
    copied_on (λ d. d) all i t.decl t.rest copies new (default_for (get_or parts i past) i all) t.here (default_copied t)
    (n ∙ ap (λ (o : Option ReadDecl). copies ++ all_without_word o) e) v

pub final_on : (all : List ReadDecl) (parts : List Part) (i : ℕ) (past : Part) (copies new : List ReadDecl) (o : Option ReadDecl) → parts ≡ parts_in all all →
    i < length parts → o ≡ final_for (get_or parts i past) i all → new ≡ copies ++ all_without_word o → CopiedTo (final_in all) all i copies →
    CopiedTo (final_in all) all (i + 1) new
final_on all parts i past copies new o q h e n v =
    let t = turn all parts i past q h in
    copied_on (final_in all) all i t.decl t.rest copies new (final_for (get_or parts i past) i all) t.here (final_copied t)
    (n ∙ ap (λ (o : Option ReadDecl). copies ++ all_without_word o) e) v

all_copied : (make : ReadDecl → ReadDecl) (all : List ReadDecl) (parts : List Part) (i : ℕ) (copies : List ReadDecl) → parts ≡ parts_in all all → length parts ≤ i →
    CopiedTo make all i copies → copies ≡ without_implementations make all
all_copied make all parts i copies q h v =
    let past : length all ≤ i = omega (arith, h, ap length q, length_parts all all) in
    sym (append-nil copies)
    ∙ sym (at_drop_all (λ (ds : List ReadDecl). copies ++ without_implementations make ds) all i past)
    ∙ v

pub defaults_are : (all : List ReadDecl) (parts : List Part) (i : ℕ) (copies : List ReadDecl) → parts ≡ parts_in all all → length parts ≤ i →
    CopiedTo (λ d. d) all i copies → copies ≡ defaults all
unfolding defaults
defaults_are all parts i copies q h v = all_copied (λ d. d) all parts i copies q h v

pub replaced_are : (all : List ReadDecl) (parts : List Part) (i : ℕ) (copies : List ReadDecl) → parts ≡ parts_in all all → length parts ≤ i →
    CopiedTo (final_in all) all i copies → copies ≡ replaced all
unfolding replaced
replaced_are all parts i copies q h v = all_copied (final_in all) all parts i copies q h v
