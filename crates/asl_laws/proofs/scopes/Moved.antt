-- A state that agrees with a scope agrees with it at each assignment that gives the atoms of the scope the same integers; and such an assignment, where the next
-- atom has an integer of its own.
use Rattle.std.proofs.Common.{◌≡◌, ℕ, ◌<◌, ℤ, Bool, true, false, cond, List, [], ◌∷◌, ◌++◌, Option, Some, None, refl, sym, ap, ◌∙◌, subst, arith}
use Rattle.std.proofs.lemmas.Bool.Decides.{nat_tests}
use Rattle.std.specs.Prelude.{◌==◌}
use Rattle.std.specs.Str.{bytes_eq}
use Rattle.asl_poly.specs.Poly.{HasWidth}
use Rattle.asl_rules.specs.types.Types.{Ty}
use Rattle.asl_rules.specs.types.Closed.{Assignment, type_with}
use Rattle.asl_rules.specs.declarations.Scopes.{Storage, standing_of, Counted, Entry, Standing, Stored, Subprogram, TypeName, Label, next_atom}
use Rattle.asl_rules.specs.values.Values.{Value, int, has}
use Rattle.asl_rules.specs.types.Views.{viewed}
use Rattle.asl_rules.specs.runs.States.{Under, of_type, of_value, Binding, Core}
use Rattle.asl_rules.specs.private.Belonging.{InType}
use Rattle.asl_rules.specs.private.Agreement.{IsUnder, CountsAs, local_matches, FrameMatches, Agrees, SameOn, types_in}
use Rattle.asl_laws.proofs.widths.PresentNumbers.{CountedFixed}
use Rattle.asl_rules.proofs.basics.Tests.{some_same, none_some}
use Rattle.asl_rules.proofs.values.SameKind.{number_is}
use Rattle.asl_rules.proofs.widths.WidthAtoms.{Good}
use Rattle.asl_laws.proofs.scopes.OverScope.{StandingOver, CountedOver, EachOver}
use Rattle.asl_laws.proofs.scopes.ScopesOver.{Below, value_moved, width_moved, type_moved}

pub in_type_moved : (d : List ℕ → Option Ty) (a b : Assignment) (T : Ty) (x : Value) → type_with T a ≡ type_with T b → InType d a x T → InType d b x T
in_type_moved d a b T x e i = (subst (λ C. has x C ≡ true) e i.0, i.1, subst (λ C. viewed C x ≡ x) e i.2)

pub under_moved : (d : List ℕ → Option Ty) (a b : Assignment) (u : Under) (T : Ty) → type_with T a ≡ type_with T b → IsUnder d a u T → IsUnder d b u T
under_moved d a b (of_type U) T e h = h ∙ e
under_moved d a b (of_value y) T e h = in_type_moved d a b T y e h

module _ (A : ℕ → Type 0) (a b : Assignment) (same : (n : ℕ) → A n → a n ≡ b n) (d : List ℕ → Option Ty) where
  counts_moved : (o : Option Counted) (x : Value) → ((c : Counted) → o ≡ Some c → Good A c.poly) → CountsAs a o x → CountsAs b o x
  counts_moved None x g h = tt
  counts_moved (Some c) x g h =
      let v = value_moved A a b same c.poly.terms (g c refl) in
      let e = width_moved A a b same c.poly (g c refl) in
      (h.0 ∙ ap int e, subst (HasWidth c.poly b) e (sym v ∙ h.1), h.2)

  local_moved : (name : List ℕ) (x : Standing) (u : Binding) → StandingOver A x → CountedOver A x → local_matches d a name x u → local_matches d b name x u
  local_moved name (Stored s) u t g h =
      let e = type_moved A a b same s.ty t in
      record {
        name_is = h.name_is;
        under_is = under_moved d a b u.under s.ty e h.under_is;
        mutable_is = h.mutable_is;
        well_formed = h.well_formed;
        belongs = in_type_moved d a b s.ty u.value e h.belongs;
        known = h.known;
        counts = counts_moved s.counted u.value (λ c q. (g s c refl q).0) h.counts;
      }
  local_moved name Subprogram u t g h = absurd h
  local_moved name (TypeName T) u t g h = absurd h
  local_moved name (Label T x) u t g h = absurd h

  frame_moved : (es : List Entry) (bs : List Binding) → EachOver A es → FrameMatches d a es bs → FrameMatches d b es bs
  frame_moved [] [] g h = tt
  frame_moved [] (u ∷ bs) g h = absurd h
  frame_moved (e ∷ es) [] g h = absurd h
  frame_moved (e ∷ es) (u ∷ bs) g h = (local_moved e.name e.standing u g.0 g.1.0 h.0, frame_moved es bs g.1.1 h.1)

each_behind : (A : ℕ → Type 0) (es fs : List Entry) → EachOver A (es ++ fs) → EachOver A fs
each_behind A [] fs g = g
each_behind A (e ∷ es) fs g = each_behind A es fs g.1.1

pub agrees_moved : (base names : List Entry) (a b : Assignment) (c : Core) → EachOver (Below names) names → SameOn names a b → Agrees base names a c → Agrees base names b c
agrees_moved base names a b c g s k = record {
  locals = k.locals;
  names_are = k.names_are;
  fresh = k.fresh;
  plain = k.plain;
  frame = frame_moved (Below names) a b s (types_in base) k.locals c.frame (each_behind (Below names) base k.locals (subst (λ ns. EachOver (Below names) ns) k.names_are g)) k.frame;
  globals = k.globals;
  handled = k.handled;
  callers = k.callers;
}

-- ---- the next atom

abbrev pub extended : ℕ → ℤ → Assignment → Assignment
extended m z a n = cond (n == m) z (a n)

pub extended_at : (m : ℕ) (z : ℤ) (a : Assignment) → extended m z a m ≡ z
extended_at m z a = ap (λ b. cond b z (a m)) (number_is m)

other_number : (n m : ℕ) → n < m → (n == m) ≡ false
other_number n m h = grind (arith, nat_tests)

pub extended_same : (names : List Entry) (z : ℤ) (a : Assignment) → SameOn names a (extended (next_atom names) z a)
extended_same names z a n h = sym (ap (λ b. cond b z (a n)) (other_number n (next_atom names) h))

-- ---- what counts can't be assigned

fixed_if : (b : Bool) (x : Standing) (o : Option Standing) (A : ℕ → Type 0) (s : Storage) (c : Counted) → CountedOver A x → (o ≡ Some (Stored s) → s.is_mutable ≡ false) → s.counted ≡ Some c → cond b (Some x) o ≡ Some (Stored s) → s.is_mutable ≡ false
fixed_if true x o A s c g f q h = (g s c (some_same x (Stored s) h) q).1
fixed_if false x o A s c g f q h = f h

pub counted_fixed : (A : ℕ → Type 0) (names : List Entry) → EachOver A names → CountedFixed names
counted_fixed A [] g name s c h q = none_some (Stored s) h
counted_fixed A (e ∷ names) g name s c h q = fixed_if (bytes_eq e.name name) e.standing (standing_of name names) A s c g.1.0 (λ k. counted_fixed A names g.1.1 name s c k q) q h
