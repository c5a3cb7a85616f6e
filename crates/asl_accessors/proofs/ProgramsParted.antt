-- A program that is parted, declaration by declaration.
use Rattle.std.proofs.Common.{◌≡◌, ℕ, zero, suc, ◌+◌, ◌≤◌, Bool, true, false, List, [], ◌∷◌, ◌++◌, length, get_or, set, drop, map, reverse, Option, Some, None, inl, inr, refl, sym, ap, ◌∙◌, subst, append_assoc, append-nil, arith, length-append}
use Rattle.std.specs.Prelude.{if◌then◌else◌, slice_get}
use Rattle.std.proofs.lemmas.Option.{none-some, same_Some}
use Rattle.std.proofs.lemmas.List.{length-reverse, length_push, reverse-append, reverse-reverse}
use Rattle.asl_syn.specs.declared.read.ReadDecl.{ReadDecl}
use Rattle.asl_syn.specs.declared.tree.Decl.{Decl}
use Rattle.asl_rules.specs.declarations.Programs.{default_decls, final_decls}
use Rattle.asl_rules.specs.declarations.Replacing.{defaults, has_word, header_of, in_place, is_implementation, replaced, without_implementations, without_word}
use Rattle.asl_rules.specs.declarations.WrittenOut.{decl_written, written_out}
use Rattle.asl_accessors.specs.Judged.{or_defaults}
use Rattle.asl_accessors.specs.declared.holes.Hole.{Hole}
use Rattle.asl_accessors.specs.declared.matching.Part.{Part}
use Rattle.asl_accessors.specs.declared.matching.Part.TheVariants.{Stays, Replaced, AlsoReplaced, Replaces}
use Rattle.asl_accessors.specs.private.Holes.{filled, holes_for, others_from, others_written}
use Rattle.asl_accessors.specs.private.Parts.{header_part, parts_in}
use Rattle.asl_accessors.specs.private.Standing.{left_for, written_for}
use Rattle.asl_accessors.proofs.OthersInPlace.{grown, grown_by_other, length_filled}
use Rattle.asl_accessors.proofs.PartsSaid.{other_is, part_is, without_word_written, IsOther, IsPart}
use Rattle.asl_accessors.proofs.PlacesHeld.{still_held, wanted_is_implementation, AreHeld, IsWantedFor}

-- ---- one declaration and what becomes of it

pub length_parts : (all ds : List ReadDecl) → length (parts_in all ds) ≡ length ds
length_parts all [] = refl
length_parts all (d ∷ ds) = ap suc (length_parts all ds)

pub stands_at : (all : List ReadDecl) (n : ℕ) (d : ReadDecl) (ds : List ReadDecl) → d ∷ ds ≡ drop n all → (slice_get all n ≡ Some d) × (ds ≡ drop (suc n) all)
stands_at [] zero d ds q = absurd (by (ap length q))
  where
    by : suc (length ds) ≡ 0 → ⊥
    by e = omega (arith, e)
stands_at [] (suc n) d ds q = absurd (by (ap length q))
  where
    by : suc (length ds) ≡ 0 → ⊥
    by e = omega (arith, e)
stands_at (x ∷ xs) zero d ds q = (ap head (sym q), ap tail q)
  where
    head : List ReadDecl → Option ReadDecl
    head [] = None
    head (y ∷ ys) = Some y

    tail : List ReadDecl → List ReadDecl
    tail [] = []
    tail (y ∷ ys) = ys
stands_at (x ∷ xs) (suc n) d ds q = stands_at xs n d ds q

-- where a declaration has its number
pub part_at : (all ds : List ReadDecl) (i : ℕ) (past : Part) (d : ReadDecl) (rest : List ReadDecl) → d ∷ rest ≡ drop i ds →
    get_or (parts_in all ds) i past ≡ header_part all rest (header_of d)
part_at all [] i past d rest q = absurd (none-some d (stands_at [] i d rest q).0)
part_at all (x ∷ xs) zero past d rest q =
    let h = stands_at (x ∷ xs) zero d rest q in
    ap (λ (ds : List ReadDecl). header_part all ds (header_of x)) (sym h.1) ∙ ap (λ (d : ReadDecl). header_part all rest (header_of d)) (same_Some x d h.0)
part_at all (x ∷ xs) (suc i) past d rest q = part_at all xs i past d rest q

-- ---- what is written

pub kept_written : (make : ReadDecl → ReadDecl) (d : ReadDecl) (ds : List ReadDecl) → has_word is_implementation (header_of d) ≡ false →
    written_out (without_implementations make (d ∷ ds)) ≡ decl_written (make d) ++ written_out (without_implementations make ds)
kept_written make d ds k =
    ap (λ (b : Bool). written_out (if b then without_implementations make ds else without_word (make d) ∷ without_implementations make ds)) k
    ∙ ap (λ (xs : List Decl). xs ++ written_out (without_implementations make ds)) (without_word_written (make d))

pub left_out : (make : ReadDecl → ReadDecl) (d : ReadDecl) (ds : List ReadDecl) → has_word is_implementation (header_of d) ≡ true →
    without_implementations make (d ∷ ds) ≡ without_implementations make ds
left_out make d ds k = ap (λ (b : Bool). if b then without_implementations make ds else without_word (make d) ∷ without_implementations make ds) k

-- what a declaration is in the program with the bodies that replace others
abbrev pub final_in : List ReadDecl → ReadDecl → ReadDecl
final_in all d = in_place all d (header_of d)

-- the two programs, written out
abbrev pub default_out : List ReadDecl → List Decl
default_out ds = written_out (without_implementations (λ d. d) ds)

abbrev pub final_out : List ReadDecl → List ReadDecl → List Decl
final_out all ds = written_out (without_implementations (final_in all) ds)

default_step : (all ds : List ReadDecl) (d : ReadDecl) (part : Part) → IsPart all ds d part → written_for part d ++ default_out ds ≡ default_out (d ∷ ds)
default_step all ds d Stays s = sym (kept_written (λ d. d) d ds s.0)
default_step all ds d (Replaced p) s = sym (kept_written (λ d. d) d ds (other_is s).kept)
default_step all ds d (AlsoReplaced p) s = sym (kept_written (λ d. d) d ds (other_is s).kept)
default_step all ds d Replaces s = ap written_out (sym (left_out (λ d. d) d ds s))

-- ---- the holes, and what is left in the places

-- the holes of these, where so many declarations are written before them
abbrev pub holes_from : ℕ → List ReadDecl → List ReadDecl → List Hole
holes_from n all [] = []
holes_from n all (d ∷ ds) =
    holes_for (header_part all ds (header_of d)) n ++ holes_from (n + length (written_for (header_part all ds (header_of d)) d)) all ds

abbrev pub left_of : ReadDecl → Option ReadDecl
left_of d = if has_word is_implementation (header_of d) then Some d else None

abbrev pub all_left : List ReadDecl → List (Option ReadDecl)
all_left ds = map left_of ds

left_is : (all ds : List ReadDecl) (d : ReadDecl) (part : Part) → IsPart all ds d part → left_for part d ≡ left_of d
left_is all ds d part s = by part s
  where
    none : has_word is_implementation (header_of d) ≡ false → None ≡ left_of d
    none k = sym (ap (λ (b : Bool). if b then Some d else None) k)

    by : (part : Part) → IsPart all ds d part → left_for part d ≡ left_of d
    by Stays s = none s.0
    by (Replaced p) s = none (other_is s).kept
    by (AlsoReplaced p) s = none (other_is s).kept
    by Replaces s = sym (ap (λ (b : Bool). if b then Some d else None) s)

left_at : (ds : List ReadDecl) (p : ℕ) (e : ReadDecl) → slice_get ds p ≡ Some e → has_word is_implementation (header_of e) ≡ true →
    get_or (all_left ds) p None ≡ Some e
left_at [] p e q k = absurd (none-some e q)
left_at (d ∷ ds) zero e q k =
    let same : d ≡ e = same_Some d e q in
    ap left_of same ∙ ap (λ (b : Bool). if b then Some e else None) k
left_at (d ∷ ds) (suc p) e q k = left_at ds p e q k

all_held : (all : List ReadDecl) → AreHeld all all (all_left all)
all_held all p w =
    let e = wanted_is_implementation all p all w in
    left_at all p e.0 e.1.0 e.1.1 ∙ sym e.1.0

-- ---- the declarations that take the places of others

-- what comes of these, behind what is written
abbrev AllInPlace : List ReadDecl → List ReadDecl → List Decl → List (Option Decl) → List (Option ReadDecl) → Type 0
AllInPlace all ds written os placed =
    or_defaults (written ++ default_out ds) (others_from os (holes_from (length written) all ds) placed) ≡ or_defaults written os ++ final_out all ds

-- what is the same for those that are written and hold a hole, or none
behind : (all ds : List ReadDecl) (d : ReadDecl) (part : Part) (written : List Decl) (new : List (Option Decl)) (placed : List (Option ReadDecl)) →
    IsPart all ds d part → AllInPlace all ds (written ++ written_for part d) new placed →
    or_defaults (written ++ default_out (d ∷ ds)) (others_from new (holes_from (length written + length (written_for part d)) all ds) placed) ≡
    or_defaults (written ++ written_for part d) new ++ final_out all ds
behind all ds d part written new placed s h =
    ap (λ (xs : List Decl). or_defaults (written ++ xs) (others_from new (holes_from (length written + length (written_for part d)) all ds) placed)) (sym (default_step all ds d part s))
    ∙ ap (λ (xs : List Decl). or_defaults xs (others_from new (holes_from (length written + length (written_for part d)) all ds) placed))
    (sym (append_assoc written (written_for part d) (default_out ds)))
    ∙ ap (λ (n : ℕ). or_defaults ((written ++ written_for part d) ++ default_out ds) (others_from new (holes_from n all ds) placed)) (sym (length-append written (written_for part d)))
    ∙ h

kept_final : (all ds : List ReadDecl) (d e : ReadDecl) (xs : List Decl) → has_word is_implementation (header_of d) ≡ false → final_in all d ≡ e →
    (xs ++ decl_written e) ++ final_out all ds ≡ xs ++ final_out all (d ∷ ds)
kept_final all ds d e xs k q =
    append_assoc xs (decl_written e) (final_out all ds)
    ∙ ap (λ (d : ReadDecl). xs ++ (decl_written d ++ final_out all ds)) (sym q)
    ∙ ap (λ (ys : List Decl). xs ++ ys) (sym (kept_written (final_in all) d ds k))

-- a declaration that is replaced
in_its_place : (all ds : List ReadDecl) (d : ReadDecl) (written : List Decl) (os : List (Option Decl)) (o : Option ReadDecl) (p : ℕ) → length os ≤ length written →
    IsOther all d p → o ≡ slice_get all p →
    or_defaults (written ++ decl_written d) (filled (length written) os ++ others_written o) ++ final_out all ds ≡ or_defaults written os ++ final_out all (d ∷ ds)
in_its_place all ds d written os o p h i q =
    ap (λ (o : Option ReadDecl). or_defaults (written ++ decl_written d) (filled (length written) os ++ others_written o) ++ final_out all ds) (q ∙ i.stands)
    ∙ ap (λ (xs : List Decl). xs ++ final_out all ds) (grown_by_other written (decl_written d) (decl_written i.decl) os h i.alike)
    ∙ kept_final all ds d i.decl (or_defaults written os) i.kept i.in_its_place

length_in_place : (all : List ReadDecl) (d : ReadDecl) (written : List Decl) (os : List (Option Decl)) (o : Option ReadDecl) (p : ℕ) → length os ≤ length written →
    IsOther all d p → o ≡ slice_get all p →
    length (filled (length written) os ++ others_written o) ≤ length (written ++ decl_written d)
length_in_place all d written os o p h i q = omega (arith, size, length-append written (decl_written d), i.alike)
  where
    some_length : (ds : List Decl) → length (map (λ e. Some e) ds) ≡ length ds
    some_length [] = refl
    some_length (d ∷ ds) = ap suc (some_length ds)

    size : length (filled (length written) os ++ others_written o) ≡ length written + length (decl_written i.decl)
    size =
        ap (λ (o : Option ReadDecl). length (filled (length written) os ++ others_written o)) (q ∙ i.stands)
        ∙ length-append (filled (length written) os) (map (λ e. Some e) (decl_written i.decl))
        ∙ ap (λ (n : ℕ). n + length (map {B = Option Decl} (λ e. Some e) (decl_written i.decl))) (length_filled (length written) os h)
        ∙ ap (λ (n : ℕ). length written + n) (some_length (decl_written i.decl))

all_in_place : (all ds : List ReadDecl) (written : List Decl) (os : List (Option Decl)) (placed : List (Option ReadDecl)) → length os ≤ length written →
    AreHeld all ds placed → AllInPlace all ds written os placed
all_in_place all [] written os placed h held = ap (λ (ds : List Decl). or_defaults ds os) (append-nil written) ∙ sym (append-nil (or_defaults written os))
all_in_place all (d ∷ ds) written os placed h held =
    by (header_part all ds (header_of d)) (part_is all ds d) (λ p w. held p (inl w)) (λ ws os placed h held. all_in_place all ds ws os placed h held)
  where
    tail : AreHeld all ds placed
    tail p w = held p (inr w)

    by : (part : Part) → IsPart all ds d part → ((p : ℕ) → IsWantedFor p part → get_or placed p None ≡ slice_get all p) →
        ((ws : List Decl) (os : List (Option Decl)) (placed : List (Option ReadDecl)) → length os ≤ length ws → AreHeld all ds placed → AllInPlace all ds ws os placed) →
        or_defaults (written ++ default_out (d ∷ ds)) (others_from os (holes_for part (length written) ++ holes_from (length written + length (written_for part d)) all ds) placed) ≡
        or_defaults written os ++ final_out all (d ∷ ds)
    by Stays s here go =
        behind all ds d Stays written os placed s (go (written ++ decl_written d) os placed (omega (arith, h, length-append written (decl_written d))) tail)
        ∙ ap (λ (xs : List Decl). xs ++ final_out all ds) (grown written (decl_written d) os h)
        ∙ kept_final all ds d d (or_defaults written os) s.0 s.1
    by (Replaced p) s here go =
        let new = filled (length written) os ++ others_written (get_or placed p None) in
        behind all ds d (Replaced p) written new (set placed p None) s
        (go (written ++ decl_written d) new (set placed p None) (length_in_place all d written os (get_or placed p None) p h (other_is s) (here p refl))
        (still_held all p d ds placed s tail))
        ∙ in_its_place all ds d written os (get_or placed p None) p h (other_is s) (here p refl)
    by (AlsoReplaced p) s here go =
        let new = filled (length written) os ++ others_written (get_or placed p None) in
        behind all ds d (AlsoReplaced p) written new placed s
        (go (written ++ decl_written d) new placed (length_in_place all d written os (get_or placed p None) p h (other_is s) (here p refl)) tail)
        ∙ in_its_place all ds d written os (get_or placed p None) p h (other_is s) (here p refl)
    by Replaces s here go =
        behind all ds d Replaces written os placed s
        (subst (λ (ws : List Decl). AllInPlace all ds ws os placed) (sym (append-nil written)) (go written os placed h tail))
        ∙ ap (λ (ws : List Decl). or_defaults ws os ++ final_out all ds) (append-nil written)
        ∙ ap (λ (ds : List ReadDecl). or_defaults written os ++ written_out ds) (sym (left_out (final_in all) d ds s))

-- ---- the loop

pub record IsParting (all rest : List ReadDecl) (decls : List Decl) (holes : List Hole) (placed : List (Option ReadDecl)) : Type 0 where
  pub here : reverse rest ≡ drop (length placed) all
  pub many : length placed + length rest ≡ length all
  pub written : decls ++ default_out (reverse rest) ≡ default_out all
  pub found : holes ++ holes_from (length decls) all (reverse rest) ≡ holes_from 0 all all
  pub left : placed ++ all_left (reverse rest) ≡ all_left all

pub begun : (all rest : List ReadDecl) (decls : List Decl) (holes : List Hole) (placed : List (Option ReadDecl)) → rest ≡ reverse all → decls ≡ [] → holes ≡ [] → placed ≡ [] →
    IsParting all rest decls holes placed
begun all rest decls holes placed r d h p =
    let back : reverse rest ≡ all = ap reverse r ∙ reverse-reverse all in
    let none : length placed ≡ 0 = ap length p in
    record {
      here = back ∙ ap (λ (n : ℕ). drop n all) (sym none);
      many = omega (arith, none, ap length r, length-reverse all);
      written = ap (λ (ds : List Decl). ds ++ default_out (reverse rest)) d ∙ ap default_out back;
      found = ap (λ (hs : List Hole). hs ++ holes_from (length decls) all (reverse rest)) h
          ∙ ap (λ (ds : List Decl). holes_from (length ds) all (reverse rest)) d
          ∙ ap (holes_from 0 all) back;
      left = ap (λ (os : List (Option ReadDecl)). os ++ all_left (reverse rest)) p ∙ ap all_left back;
    }

pub ended : (all rest : List ReadDecl) (decls : List Decl) (holes : List Hole) (placed : List (Option ReadDecl)) → IsParting all rest decls holes placed → rest ≡ [] →
    (decls ≡ default_decls all) × (or_defaults decls (others_from [] holes placed) ≡ final_decls all)
unfolding defaults replaced
ended all rest decls holes placed w none =
    let v : IsParting all [] decls holes placed = subst (λ (ds : List ReadDecl). IsParting all ds decls holes placed) none w in
    let written : decls ≡ default_out all = sym (append-nil decls) ∙ v.written in
    let found : holes ≡ holes_from 0 all all = sym (append-nil holes) ∙ v.found in
    let left : placed ≡ all_left all = sym (append-nil placed) ∙ v.left in (
      written,
      ap (λ (ds : List Decl). or_defaults ds (others_from [] holes placed)) written
          ∙ ap (λ (hs : List Hole). or_defaults (default_out all) (others_from [] hs placed)) found
          ∙ ap (λ (os : List (Option ReadDecl)). or_defaults (default_out all) (others_from [] (holes_from 0 all all) os)) left
          ∙ all_in_place all all [] [] (all_left all) (omega arith) (all_held all),
    )

popped : (rest left : List ReadDecl) (d : ReadDecl) → rest ≡ left ++ d ∷ [] → reverse rest ≡ d ∷ reverse left
popped rest left d q = ap reverse q ∙ reverse-append left (d ∷ [])

pub gone_on : (all rest more : List ReadDecl) (d : ReadDecl) (part : Part) (decls new : List Decl) (holes others : List Hole) (placed next : List (Option ReadDecl)) (o : Option ReadDecl) →
    IsParting all rest decls holes placed → rest ≡ more ++ d ∷ [] → part ≡ get_or (parts_in all all) (length placed) part →
    new ≡ decls ++ written_for part d → others ≡ holes ++ holes_for part (length decls) → o ≡ left_for part d → next ≡ placed ++ o ∷ [] →
    IsParting all more new others next
gone_on all rest more d part decls new holes others placed next o v q is w f l n =
    let r : reverse rest ≡ d ∷ reverse more = popped rest more d q in
    let at_it : d ∷ reverse more ≡ drop (length placed) all = sym r ∙ v.here in
    let part_here : part ≡ header_part all (reverse more) (header_of d) = is ∙ part_at all all (length placed) part d (reverse more) at_it in
    let said : IsPart all (reverse more) d part = subst (λ (part : Part). IsPart all (reverse more) d part) (sym part_here) (part_is all (reverse more) d) in
    let size : length next ≡ suc (length placed) = ap length n ∙ omega (arith, length_push placed o) in
    let size_new : length new ≡ length decls + length (written_for part d) = ap length w ∙ length-append decls (written_for part d) in
    record {
      here = (stands_at all (length placed) d (reverse more) at_it).1 ∙ ap (λ (n : ℕ). drop n all) (sym size);
      many = omega (arith, size, v.many, ap length q, length_push more d);
      written = ap (λ (ds : List Decl). ds ++ default_out (reverse more)) w
          ∙ append_assoc decls (written_for part d) (default_out (reverse more))
          ∙ ap (λ (ds : List Decl). decls ++ ds) (default_step all (reverse more) d part said)
          ∙ ap (λ (ds : List ReadDecl). decls ++ default_out ds) (sym r)
          ∙ v.written;
      found = ap (λ (hs : List Hole). hs ++ holes_from (length new) all (reverse more)) f
          ∙ ap (λ (n : ℕ). (holes ++ holes_for part (length decls)) ++ holes_from n all (reverse more)) size_new
          ∙ append_assoc holes (holes_for part (length decls)) (holes_from (length decls + length (written_for part d)) all (reverse more))
          ∙ ap (λ (part : Part). holes ++ (holes_for part (length decls) ++ holes_from (length decls + length (written_for part d)) all (reverse more))) part_here
          ∙ ap (λ (ds : List ReadDecl). holes ++ holes_from (length decls) all ds) (sym r)
          ∙ v.found;
      left = ap (λ (os : List (Option ReadDecl)). os ++ all_left (reverse more)) (n ∙ ap (λ (o : Option ReadDecl). placed ++ o ∷ []) (l ∙ left_is all (reverse more) d part said))
          ∙ append_assoc placed (left_of d ∷ []) (all_left (reverse more))
          ∙ ap (λ (ds : List ReadDecl). placed ++ all_left ds) (sym r)
          ∙ v.left;
    }
