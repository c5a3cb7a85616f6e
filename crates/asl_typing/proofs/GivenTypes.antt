-- The names and the types of the fields that are given, one by one.
use Rattle.std.proofs.Common.{◌≡◌, ℕ, zero, suc, ◌+◌, ◌<◌, ◌≤◌, not, length, get_or, take, drop, List, [], ◌∷◌, ◌++◌, Option, Some, None, Result, Ok, Err, option_map, refl, sym, ap, ◌∙◌, append_assoc}
use Rattle.std.proofs.lemmas.List.{drop_all, take_more, append-nil}
use Rattle.asl_syn.specs.declared.token.Span.{Span}
use Rattle.asl_syn.specs.declared.code.Fault.{Fault}
use Rattle.asl_syn.specs.declared.code.StaticCode.TheVariants.{T15}
use Rattle.asl_syn.specs.declared.tree.FieldValue.{FieldValue}
use Rattle.asl_syn.specs.declared.tree.Ident.{Ident}
use Rattle.asl_rules.specs.Faults.{◌>>=◌, ◌>>◌, need, found_or}
use Rattle.asl_rules.specs.values.Members.{given_once, has_name, numbered}
use Rattle.asl_rules.specs.types.Types.{Ty, Fields}
use Rattle.asl_types.proofs.Rest.{at_next}
use Rattle.asl_typing.specs.private.Constructs.{given_name, given_names, given_texts, given_type, behind_types}

-- ---- names

given_added : (gs : List FieldValue) (g : FieldValue) → given_texts (gs ++ g ∷ []) ≡ given_texts gs ++ (given_name g).text ∷ []
given_added [] g = refl
given_added (h ∷ gs) g = ap (λ ns. (given_name h).text ∷ ns) (given_added gs g)

one_more : {A : Type 0} (xs : List A) (i : ℕ) (x : A) → i < length xs → x ≡ get_or xs i x → take (i + 1) xs ≡ take i xs ++ x ∷ []
one_more xs i x within here = take_more xs i x within ∙ ap (λ z. take i xs ++ z ∷ []) (sym here)

given_more : (gs : List FieldValue) (i : ℕ) (g : FieldValue) → i < length gs → g ≡ get_or gs i g → given_texts (take (i + 1) gs) ≡ given_texts (take i gs) ++ (given_name g).text ∷ []
given_more gs i g within here = ap given_texts (one_more gs i g within here) ∙ given_added (take i gs) g

given_before : (gs : List FieldValue) (i : ℕ) → take i (given_texts gs) ≡ given_texts (take i gs)
given_before [] zero = refl
given_before [] (suc i) = refl
given_before (g ∷ gs) zero = refl
given_before (g ∷ gs) (suc i) = ap (λ ns. (given_name g).text ∷ ns) (given_before gs i)

-- ---- types

abbrev Types : Type 0
Types = Result (List Ty) Fault

pub types_first : (r : Types) → r ≡ behind_types [] r
types_first (Ok Ts) = refl
types_first (Err e) = refl

behind_one : (Ts : List Ty) (x : Ty) (r : Types) → behind_types Ts (r >>= λ Us. Ok (x ∷ Us)) ≡ behind_types (Ts ++ x ∷ []) r
behind_one Ts x (Ok Us) = ap (λ Vs. let o : Types = Ok Vs in o) (sym (append_assoc Ts (x ∷ []) Us))
behind_one Ts x (Err e) = refl

joined : (r : Result (Unit {0}) Fault) (o : Option (ℕ × Ty)) (span : Span) (k : Ty → Types) →
    (r >> found_or o T15 span >>= λ p. k p.1) ≡ ((r >> found_or (option_map (λ p. p.1) o) T15 span) >>= k)
joined (Ok u) None span k = refl
joined (Ok u) (Some p) span k = refl
joined (Err e) o span k = refl

-- the rest of the fields, by the type of the first
opened : (gs : List FieldValue) (i : ℕ) (g : FieldValue) (fs : Fields) → i < length gs → g ≡ get_or gs i g →
    given_once (given_names (drop i gs)) (given_texts (take i gs)) fs
    ≡ (given_type (given_name g) (given_texts (take i gs)) fs >>= λ T. given_once (given_names (drop (i + 1) gs)) (given_texts (take (i + 1) gs)) fs >>= λ Ts. Ok (T ∷ Ts))
opened gs i g fs within here =
    ap (λ hs. given_once (given_names hs) (given_texts (take i gs)) fs) (at_next gs i g within here)
    ∙ joined (need (not (has_name (given_name g).text (given_texts (take i gs)))) T15 (given_name g).span) (numbered (given_name g).text fs) (given_name g).span
    (λ T. given_once (given_names (drop (i + 1) gs)) (given_texts (take i gs) ++ (given_name g).text ∷ []) fs >>= λ Ts. Ok (T ∷ Ts))
    ∙ ap (λ ns. given_type (given_name g) (given_texts (take i gs)) fs >>= λ T. given_once (given_names (drop (i + 1) gs)) ns fs >>= λ Ts. Ok (T ∷ Ts)) (sym (given_more gs i g within here))

pub types_next : (all : Types) (gs : List FieldValue) (i : ℕ) (g : FieldValue) (n : Ident) (Ts Us : List Ty) (x : Ty) (fs : Fields) →
    i < length gs → g ≡ get_or gs i g → n ≡ given_name g → given_type n (take i (given_texts gs)) fs ≡ Ok x → Us ≡ Ts ++ x ∷ [] →
    all ≡ behind_types Ts (given_once (given_names (drop i gs)) (given_texts (take i gs)) fs) →
    all ≡ behind_types Us (given_once (given_names (drop (i + 1) gs)) (given_texts (take (i + 1) gs)) fs)
types_next all gs i g n Ts Us x fs within here name w more inv =
    let rest : Types = given_once (given_names (drop (i + 1) gs)) (given_texts (take (i + 1) gs)) fs in
    inv
    ∙ ap (λ r. behind_types Ts r) (opened gs i g fs within here)
    ∙ ap (λ ns. behind_types Ts (given_type (given_name g) ns fs >>= λ T. rest >>= λ Vs. Ok (T ∷ Vs))) (sym (given_before gs i))
    ∙ ap (λ (m : Ident). behind_types Ts (given_type m (take i (given_texts gs)) fs >>= λ T. rest >>= λ Vs. Ok (T ∷ Vs))) (sym name)
    ∙ ap (λ r. behind_types Ts (r >>= λ T. rest >>= λ Vs. Ok (T ∷ Vs))) w
    ∙ behind_one Ts x rest
    ∙ ap (λ Vs. behind_types Vs rest) (sym more)

later : (Ts : List Ty) (q : Result Ty Fault) (k : Ty → Types) → behind_types Ts (q >>= k) ≡ (q >>= λ T. behind_types Ts (k T))
later Ts (Ok T) k = refl
later Ts (Err e) k = refl

-- all of them, by the type of the next
pub types_opened : (all : Types) (gs : List FieldValue) (i : ℕ) (g : FieldValue) (n : Ident) (Ts : List Ty) (fs : Fields) →
    i < length gs → g ≡ get_or gs i g → n ≡ given_name g →
    all ≡ behind_types Ts (given_once (given_names (drop i gs)) (given_texts (take i gs)) fs) →
    all ≡ (given_type n (take i (given_texts gs)) fs >>= λ T. behind_types Ts (given_once (given_names (drop (i + 1) gs)) (given_texts (take (i + 1) gs)) fs >>= λ Vs. Ok (T ∷ Vs)))
types_opened all gs i g n Ts fs within here name inv =
    let rest : Types = given_once (given_names (drop (i + 1) gs)) (given_texts (take (i + 1) gs)) fs in
    inv
    ∙ ap (λ r. behind_types Ts r) (opened gs i g fs within here)
    ∙ ap (λ ns. behind_types Ts (given_type (given_name g) ns fs >>= λ T. rest >>= λ Vs. Ok (T ∷ Vs))) (sym (given_before gs i))
    ∙ ap (λ (m : Ident). behind_types Ts (given_type m (take i (given_texts gs)) fs >>= λ T. rest >>= λ Vs. Ok (T ∷ Vs))) (sym name)
    ∙ later Ts (given_type n (take i (given_texts gs)) fs) (λ T. rest >>= λ Vs. Ok (T ∷ Vs))

pub types_last : (all : Types) (gs : List FieldValue) (i : ℕ) (Ts : List Ty) (fs : Fields) → length gs ≤ i →
    all ≡ behind_types Ts (given_once (given_names (drop i gs)) (given_texts (take i gs)) fs) → all ≡ Ok Ts
types_last all gs i Ts fs end inv =
    inv
    ∙ ap (λ hs. behind_types Ts (given_once (given_names hs) (given_texts (take i gs)) fs)) (drop_all i gs end)
    ∙ ap (λ Us. let o : Types = Ok Us in o) (append-nil Ts)
