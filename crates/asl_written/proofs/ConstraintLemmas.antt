-- Parts of constraints in order, one by one.
use Rattle.std.proofs.Common.{◌≡◌, ℕ, suc, ◌+◌, ◌<◌, ◌≤◌, nat_le, length, get_or, drop, List, [], ◌∷◌, ◌++◌, Result, Ok, Err, refl, sym, ap, ◌∙◌, append_assoc}
use Rattle.std.proofs.lemmas.List.{drop_all}
use Rattle.asl_syn.specs.declared.token.Span.{Span}
use Rattle.asl_syn.specs.declared.code.Fault.{Fault}
use Rattle.asl_syn.specs.declared.code.StaticCode.TheVariants.{T20}
use Rattle.asl_syn.specs.declared.tree.ConstraintPart.{ConstraintPart}
use Rattle.asl_rules.specs.Faults.{◌>>=◌, ◌>>◌, need}
use Rattle.asl_rules.specs.types.Shapes as shape
use Rattle.asl_rules.specs.types.Types.{integer_of}
use Rattle.asl_rules.specs.declarations.Scopes.{Scope}
use Rattle.asl_rules.specs.Tests.{Tests}
use Rattle.asl_rules.specs.types.Writing.{Written, WrittenPart, all_parts, parts_written, part_shapes, part_trees, integer_written, written_as, most_parts}
use Rattle.asl_types.proofs.Rest.{at_next}
use Rattle.asl_written.specs.private.Constraints.{found_part, found_parts, Gathered, with_parts, none_gathered, gathered, behind_parts, integer_from}

abbrev Found : Type 0
Found = Result (List WrittenPart) Fault

pub append_none : {A : Type 0} (xs : List A) → xs ++ [] ≡ xs
append_none [] = refl
append_none (x ∷ xs) = ap (λ ys. x ∷ ys) (append_none xs)

one_more : (g h : Gathered) (q : WrittenPart) (r : Found) → h ≡ with_parts g (q ∷ []) → behind_parts g (r >>= λ qs. Ok (q ∷ qs)) ≡ behind_parts h r
one_more g h q (Err e) more = refl
one_more g h q (Ok qs) more =
    ap (λ (x : Gathered). let a : Result Gathered Fault = Ok x in a) joined
    ∙ ap (λ (x : Gathered). behind_parts x (Ok qs)) (sym more)
  where
    joined : with_parts g (q ∷ qs) ≡ with_parts (with_parts g (q ∷ [])) qs
    joined i = record {
      parts = sym (append_assoc g.parts (q.part ∷ []) (parts_written qs)) i;
      shapes = sym (append_assoc g.shapes (q.shape ∷ []) (part_shapes qs)) i;
      trees = (ap (λ ts. g.trees ++ (ts ++ part_trees qs)) (sym (append_none q.trees)) ∙ sym (append_assoc g.trees (q.trees ++ []) (part_trees qs))) i;
    }

pub parts_next : (t : Tests) (all : Result Gathered Fault) (ps : List ConstraintPart) (i : ℕ) (p : ConstraintPart) (g h : Gathered) (q : WrittenPart) (G : Scope) →
    i < length ps → p ≡ get_or ps i p → found_part t p G ≡ Ok q → h ≡ with_parts g (q ∷ []) →
    all ≡ behind_parts g (all_parts (found_parts t (drop i ps)) G) → all ≡ behind_parts h (all_parts (found_parts t (drop (i + 1) ps)) G)
parts_next t all ps i p g h q G within here w more before =
    before
    ∙ ap (λ xs. behind_parts g (all_parts (found_parts t xs) G)) (at_next ps i p within here)
    ∙ ap (λ r. behind_parts g (r >>= λ x. all_parts (found_parts t (drop (i + 1) ps)) G >>= λ xs. Ok (x ∷ xs))) w
    ∙ one_more g h q (all_parts (found_parts t (drop (i + 1) ps)) G) more

pub parts_last : (t : Tests) (all : Result Gathered Fault) (ps : List ConstraintPart) (i : ℕ) (g : Gathered) (G : Scope) → length ps ≤ i →
    all ≡ behind_parts g (all_parts (found_parts t (drop i ps)) G) → all ≡ Ok g
parts_last t all ps i g G past before =
    before
    ∙ ap (λ xs. behind_parts g (all_parts (found_parts t xs) G)) (drop_all i ps past)
    ∙ ap (λ (x : Gathered). let a : Result Gathered Fault = Ok x in a) whole
  where
    whole : with_parts g [] ≡ g
    whole j = record { parts = append_none g.parts j; shapes = append_none g.shapes j; trees = append_none g.trees j }

later : (g : Gathered) (r : Result WrittenPart Fault) (k : WrittenPart → Found) → behind_parts g (r >>= k) ≡ (r >>= λ q. behind_parts g (k q))
later g (Ok q) k = refl
later g (Err e) k = refl

-- all of them, by the next
pub parts_opened : (t : Tests) (all : Result Gathered Fault) (ps : List ConstraintPart) (i : ℕ) (p : ConstraintPart) (g : Gathered) (G : Scope) →
    i < length ps → p ≡ get_or ps i p →
    all ≡ behind_parts g (all_parts (found_parts t (drop i ps)) G) →
    all ≡ (found_part t p G >>= λ q. behind_parts g (all_parts (found_parts t (drop (i + 1) ps)) G >>= λ qs. Ok (q ∷ qs)))
parts_opened t all ps i p g G within here before =
    before
    ∙ ap (λ xs. behind_parts g (all_parts (found_parts t xs) G)) (at_next ps i p within here)
    ∙ later g (found_part t p G) (λ q. all_parts (found_parts t (drop (i + 1) ps)) G >>= λ qs. Ok (q ∷ qs))

pub parts_first : (r : Found) → (r >>= λ qs. Ok (gathered qs)) ≡ behind_parts none_gathered r
parts_first (Ok qs) = refl
parts_first (Err e) = refl

-- ---- the number of parts

as_many : (qs : List WrittenPart) → length (parts_written qs) ≡ length qs
as_many [] = refl
as_many (q ∷ qs) = ap (λ n. suc n) (as_many qs)

pub integer_gathered : (span : Span) (qs : List WrittenPart) → integer_from span (gathered qs) ≡ integer_written span qs
integer_gathered span qs =
    ap (λ n. need (nat_le n most_parts) T20 span >> Ok (written_as (integer_of (parts_written qs)) (shape.integer_of (part_shapes qs)) (part_trees qs))) (as_many qs)

-- integers in the constraint of the parts that were gathered
pub integer_by : (span : Span) (r : Found) → (r >>= λ qs. integer_written span qs) ≡ ((r >>= λ qs. Ok (gathered qs)) >>= λ g. integer_from span g)
integer_by span (Ok qs) = sym (integer_gathered span qs)
integer_by span (Err e) = refl
