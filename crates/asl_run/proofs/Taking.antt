-- Parts of a tuple that take the next places, one by one.
use Rattle.std.proofs.Common.{◌≡◌, ◌≢◌, ℕ, suc, ◌+◌, ◌<◌, ◌≤◌, Bool, true, false, List, [], ◌∷◌, length, get_or, drop, map, refl, sym, ap, ◌∙◌, append_assoc, append-nil}
use Rattle.std.proofs.lemmas.List.{at_drop_more, at_drop_all, length-map}
use Rattle.asl_syn.specs.declared.token.Span.{Span}
use Rattle.asl_rules.specs.runs.Plans.{Stuck, WrongKind, Pure, Good, Bad}
use Rattle.asl_rules.specs.runs.Pures.{◌>>=◌}
use Rattle.asl_rules.specs.values.Structures.{values_in}
use Rattle.asl_rules.specs.private.TypedMeaning.{BareCore, parts_taken, with_next}
use Rattle.asl_rules.specs.values.Values as rules
use Rattle.asl_value.specs.declared.value.FieldValue.TheFolds.{fold-roll-Value}
use Rattle.asl_value.specs.declared.value.FieldValue.TheOpen as layers
use Rattle.asl_value.specs.declared.value.Value.{Value}
use Rattle.asl_value.specs.declared.value.Value.TheVariants as variants
use Rattle.asl_value.specs.View as view
use Rattle.asl_value.specs.View.{value_of}
use Rattle.asl_run.specs.private.Finishes.{parts_pushed, tuple_pushed}

-- one that has a name stands before those behind it
pub part_then : (span : Span) (bs : List Bool) (xs : List rules.Value) (x : rules.Value) (c : BareCore) → parts_pushed span (true ∷ bs) (x ∷ xs) c ≡ parts_pushed span bs xs (with_next (x ∷ []) c)
part_then span bs xs x c = behind (parts_taken span bs xs)
  where
    behind : (r : Pure (List rules.Value)) → ((r >>= λ ys. Good (x ∷ ys)) >>= λ ys. Good (with_next ys c)) ≡ (r >>= λ ys. Good (with_next ys (with_next (x ∷ []) c)))
    behind (Good ys) = ap (λ (l : List rules.Value). Good (record c { frame = l })) (sym (append_assoc c.frame (x ∷ []) ys))
    behind (Bad e) = refl

-- the part in front was taken, or left out
pub part_pushed : (span : Span) (bs : List Bool) (xs : List Value) (i : ℕ) (x : Value) (c c1 : BareCore) → i < length bs → i < length xs → x ≡ get_or xs i x →
    ((others : List Bool) (ys : List rules.Value) → parts_pushed span (get_or bs i false ∷ others) (value_of x ∷ ys) c ≡ parts_pushed span others ys c1) →
    parts_pushed span (drop (i + 1) bs) (map value_of (drop (i + 1) xs)) c1 ≡ parts_pushed span (drop i bs) (map value_of (drop i xs)) c
part_pushed span bs xs i x c c1 p q f h =
    sym (at_drop_more (λ l. parts_pushed span l (map value_of (drop i xs)) c) bs i false p
    ∙ at_drop_more (λ l. parts_pushed span (get_or bs i false ∷ drop (i + 1) bs) (map value_of l) c) xs i x q
    ∙ ap (λ y. parts_pushed span (get_or bs i false ∷ drop (i + 1) bs) (value_of y ∷ map value_of (drop (i + 1) xs)) c) (sym f)
    ∙ h (drop (i + 1) bs) (map value_of (drop (i + 1) xs)))

none_pushed : (c : BareCore) → with_next [] c ≡ c
none_pushed c = ap (λ (l : List rules.Value). record c { frame = l }) (append-nil c.frame)

-- no part is left
pub parts_ended : (span : Span) (bs : List Bool) (xs : List Value) (i : ℕ) (c : BareCore) → length bs ≤ i → length xs ≤ i → parts_pushed span (drop i bs) (map value_of (drop i xs)) c ≡ Good c
parts_ended span bs xs i c p q =
    at_drop_all (λ l. parts_pushed span l (map value_of (drop i xs)) c) bs i p ∙ at_drop_all (λ l. parts_pushed span [] (map value_of l) c) xs i q ∙ ap Good (none_pushed c)

-- they aren't as many
uneven : (span : Span) (bs : List Bool) (xs : List rules.Value) → length bs ≢ length xs → parts_taken span bs xs ≡ Bad (Stuck WrongKind span)
uneven span [] [] h = absurd (h refl)
uneven span [] (x ∷ xs) h = refl
uneven span (b ∷ bs) [] h = refl
uneven span (true ∷ bs) (x ∷ xs) h = ap (λ r. r >>= λ ys. Good (x ∷ ys)) (uneven span bs xs (λ e. h (ap (λ n. suc n) e)))
uneven span (false ∷ bs) (x ∷ xs) h = uneven span bs xs (λ e. h (ap (λ n. suc n) e))

pub parts_uneven : (span : Span) (bs : List Bool) (xs : List Value) (c : BareCore) → length bs ≢ length xs → parts_pushed span bs (map value_of xs) c ≡ Bad (Stuck WrongKind span)
parts_uneven span bs xs c h = ap (λ r. r >>= λ ys. Good (with_next ys c)) (uneven span bs (map value_of xs) (λ e. h (e ∙ length-map xs value_of)))

-- ---- parts of a value

-- what a tuple stands for
pub tuple_there : (x : Value) (xs ys : List Value) → x ≡ variants.Tuple xs → ys ≡ xs → value_of x ≡ rules.tuple_with (view.values_of (map value_of ys))
tuple_there x xs ys e same =
    ap value_of (e ∙ sym (variants.rolls-Tuple xs)) ∙ fold-roll-Value view.Of rules.Value view.field_rule view.value_rule (layers.Tuple xs) ∙ ap (λ l. rules.tuple_with (view.values_of (map value_of l))) (sym same)

pub parts_back : (xs : List rules.Value) → values_in (view.values_of xs) ≡ xs
parts_back [] = refl
parts_back (x ∷ xs) = ap (λ ys. x ∷ ys) (parts_back xs)

pub tuple_parts : (span : Span) (bs : List Bool) (x : Value) (xs ys : List Value) (c : BareCore) → x ≡ variants.Tuple xs → ys ≡ xs → tuple_pushed span bs (value_of x) c ≡ parts_pushed span bs (map value_of ys) c
tuple_parts span bs x xs ys c e same =
    ap (λ v. tuple_pushed span bs v c) (tuple_there x xs ys e same) ∙ ap (λ zs. parts_pushed span bs zs c) (parts_back (map value_of ys))
