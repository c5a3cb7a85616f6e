-- Bitfields by their names.
use Rattle.std.proofs.Common.{◌≡◌, ℕ, Bool, true, false, cond, List, [], ◌∷◌, ◌++◌, Some, refl, sym, ap, ◌∙◌}
use Rattle.std.specs.Str.{bytes_eq}
use Rattle.asl_syn.specs.declared.token.Span.{Span}
use Rattle.asl_syn.specs.declared.tree.Ident.{Ident}
use Rattle.asl_rules.specs.values.Members.{bitfield_in}
use Rattle.asl_rules.specs.runs.Plans.{Pure, Good, Bad}
use Rattle.asl_rules.specs.runs.Pures.{◌>>=◌}
use Rattle.asl_rules.specs.types.Types.{BitField, View}
use Rattle.asl_rules.specs.values.Vectors.{named_among, bitfield_named, each_named}
use Rattle.asl_const.specs.private.Finds.{named_after}

pub named_is : (name : List ℕ) (v : View) → named_among name v ≡ bitfield_in name v
named_is name [] = refl
named_is name (f ∷ fs) = by (bytes_eq f.name name) (named_is name fs)
  where
    by : (b : Bool) → named_among name fs ≡ bitfield_in name fs → cond b (Some f) (named_among name fs) ≡ cond b (Some f) (bitfield_in name fs)
    by true h = refl
    by false h = h

append_nil : {A : Type 0} (xs : List A) → xs ++ [] ≡ xs
append_nil [] = refl
append_nil (x ∷ xs) = ap (λ ys. x ∷ ys) (append_nil xs)

append_one : {A : Type 0} (xs : List A) (x : A) (ys : List A) → (xs ++ x ∷ []) ++ ys ≡ xs ++ x ∷ ys
append_one [] x ys = refl
append_one (z ∷ xs) x ys = ap (λ zs. z ∷ zs) (append_one xs x ys)

abbrev behind : List BitField → List BitField → Pure (List BitField)
behind xs ys = Good (xs ++ ys)

after_is : (span : Span) (xs : List BitField) (is : List Ident) (v : View) → named_after span xs is v ≡ (each_named span is v >>= behind xs)
after_is span xs [] v = ap Good (sym (append_nil xs))
after_is span xs (i ∷ is) v = by (bitfield_named span i.text v) (λ f. after_is span (xs ++ f ∷ []) is v)
  where
    one : (f : BitField) (r : Pure (List BitField)) → (r >>= behind (xs ++ f ∷ [])) ≡ ((r >>= λ fs. Good (f ∷ fs)) >>= behind xs)
    one f (Good fs) = ap Good (append_one xs f fs)
    one f (Bad e) = refl

    by : (p : Pure BitField) → ((f : BitField) → named_after span (xs ++ f ∷ []) is v ≡ (each_named span is v >>= behind (xs ++ f ∷ []))) →
        (p >>= λ f. named_after span (xs ++ f ∷ []) is v) ≡ ((p >>= λ f. each_named span is v >>= λ fs. Good (f ∷ fs)) >>= behind xs)
    by (Good f) h = h f ∙ one f (each_named span is v)
    by (Bad e) h = refl

pub all_is : (span : Span) (is : List Ident) (v : View) → each_named span is v ≡ named_after span [] is v
all_is span is v = sym (after_is span [] is v ∙ by (each_named span is v))
  where
    by : (r : Pure (List BitField)) → (r >>= behind []) ≡ r
    by (Good fs) = refl
    by (Bad e) = refl
