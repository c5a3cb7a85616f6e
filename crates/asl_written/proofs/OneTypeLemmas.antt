-- Written types that are all one type are judged alike.
use Rattle.std.proofs.Common.{◌≡◌, ℕ, Bool, true, false, ◌&&◌, ◌||◌, List, [], ◌∷◌, Option, Some, None, Result, Ok, Err, refl, sym, ap, subst, ◌∙◌}
use Rattle.std.specs.Str.{bytes_eq}
use Rattle.asl_syn.specs.declared.code.Fault.{Fault}
use Rattle.asl_syn.specs.declared.code.StaticCode.TheVariants.{T02}
use Rattle.asl_syn.specs.declared.tree.TypeExpr.{TypeExpr, out-TypeExpr}
use Rattle.asl_syn.specs.declared.tree.Bitfield.TheOpen as ex
use Rattle.asl_syn.specs.declared.tree.Bitfield.TheFolds.{fold_out-TypeExpr}
use Rattle.asl_syn.specs.Layers.{TypeLayer}
use Rattle.asl_rules.specs.expressions.Exprs.{FoundField, written, found_type, bitfield_rule, part_rule, expr_rule, given_rule, pattern_rule, slice_rule, type_rule}
use Rattle.asl_rules.specs.Faults.{◌>>=◌, found_or}
use Rattle.asl_rules.specs.expressions.Patterns.{FoundPattern}
use Rattle.asl_rules.specs.declarations.Scopes.{Scope, type_of_name}
use Rattle.asl_rules.specs.expressions.Slicing.{FoundSlice}
use Rattle.asl_rules.specs.Tests.{Tests}
use Rattle.asl_rules.specs.types.Types.{Ty, part, integer_of}
use Rattle.asl_rules.specs.expressions.Typing.{Found}
use Rattle.asl_rules.specs.types.Writing.{Written, FoundPart, FoundBitfield, FoundType, types_in_order, types_written, named_written}
use Rattle.asl_rules.proofs.basics.Inversions.{ok_ok, bind_ok, then_ok}
use Rattle.asl_rules.proofs.basics.Opening.{type_opened}
use Rattle.asl_rules.proofs.basics.Tests.{no, some_none, some_same, both, either, same_name}
use Rattle.asl_rules.proofs.verdict.SomeTests.{some_tests, limit_within}
use Rattle.asl_bits.specs.declared.TheConstants.{WIDTH_LIMIT}
use Rattle.asl_types.specs.private.Alike.{AllAre, Alike, IsAlike}
use Rattle.asl_types.specs.Suits.{Suits}
use Rattle.asl_types.specs.View.{parts_of}
use Rattle.asl_written.specs.private.OneType.{name_in_layer, name_in, has_none, whole_layer, is_whole, same_names, is_like, are_like, is_one_type}
use Rattle.asl_written.specs.private.WrittenTypes.{found_types, TypesSeen, no_types, all_ty, with_types}

module _ (t : Tests) (outside : Bool) (G : Scope) where
  judged : (w : TypeExpr) → written t w outside G ≡ (type_rule t (type_opened t (out-TypeExpr w))).ty outside G
  judged w = ap (λ (f : FoundType). f.ty outside G) (fold_out-TypeExpr FoundBitfield FoundPart Found FoundField FoundPattern FoundSlice FoundType bitfield_rule part_rule (expr_rule t) given_rule (pattern_rule t) slice_rule (type_rule t) w)

  -- a declared name stands for its type
  named_layer : (layer : TypeLayer) (name : List ℕ) (W : Written) → name_in_layer layer ≡ Some name → (type_rule t (type_opened t layer)).ty outside G ≡ Ok W → type_of_name name G.names ≡ Some W.ty
  named_layer (ex.NamedType span n) name W e h = by (type_of_name n G.names) refl h
    where
      by : (o : Option Ty) → type_of_name n G.names ≡ o → (found_or o T02 span >>= λ T. Ok (named_written T)) ≡ Ok W → type_of_name name G.names ≡ Some W.ty
      by None q k = bad k
        where
          bad : {A : Type 0} → (found_or None T02 span >>= λ T. Ok (named_written T)) ≡ Ok W → A
          bad k = absurd cc
      by (Some T) q k =
          ap (λ m. type_of_name m G.names) (sym (some_same n name e)) ∙ q ∙ ap (λ (V : Written). Some V.ty) (ok_ok (named_written T) W k)
  named_layer (ex.IntegerType span parts) name W e h = some_none name (sym e)
  named_layer (ex.BooleanType span) name W e h = some_none name (sym e)
  named_layer (ex.BitType span) name W e h = some_none name (sym e)
  named_layer (ex.BitsType span width fields) name W e h = some_none name (sym e)
  named_layer (ex.TupleType span ts) name W e h = some_none name (sym e)
  named_layer (ex.ArrayType span a u) name W e h = some_none name (sym e)

  -- and integers in no constraint are one type
  whole_is : (layer : TypeLayer) (W : Written) → whole_layer layer ≡ true → (type_rule t (type_opened t layer)).ty outside G ≡ Ok W → W.ty ≡ integer_of []
  whole_is (ex.IntegerType span []) W e h = let q = then_ok _ _ W h in sym (ap (λ (V : Written). V.ty) (ok_ok _ W q.then))
  whole_is (ex.IntegerType span (p ∷ ps)) W e h = no e
  whole_is (ex.BooleanType span) W e h = no e
  whole_is (ex.BitType span) W e h = no e
  whole_is (ex.NamedType span n) W e h = no e
  whole_is (ex.BitsType span width fields) W e h = no e
  whole_is (ex.TupleType span ts) W e h = no e
  whole_is (ex.ArrayType span a u) W e h = no e

  like_same : (w v : TypeExpr) (W V : Written) → is_like w v ≡ true → written t w outside G ≡ Ok W → written t v outside G ≡ Ok V → V.ty ≡ W.ty
  like_same w v W V l h k = either (same_names (name_in w) (name_in v)) (is_whole w && is_whole v) l (named (name_in w) (name_in v) refl refl) wholes
    where
      here : (type_rule t (type_opened t (out-TypeExpr w))).ty outside G ≡ Ok W
      here = sym (judged w) ∙ h

      there : (type_rule t (type_opened t (out-TypeExpr v))).ty outside G ≡ Ok V
      there = sym (judged v) ∙ k

      wholes : (is_whole w && is_whole v) ≡ true → V.ty ≡ W.ty
      wholes q = let p = both (is_whole w) (is_whole v) q in whole_is (out-TypeExpr v) V p.1 there ∙ sym (whole_is (out-TypeExpr w) W p.0 here)

      named : (o p : Option (List ℕ)) → name_in w ≡ o → name_in v ≡ p → same_names o p ≡ true → V.ty ≡ W.ty
      named (Some m) (Some n) a b q =
          let m_is = named_layer (out-TypeExpr w) m W a here in
          let n_is = named_layer (out-TypeExpr v) n V b there in
          some_same V.ty W.ty (sym n_is ∙ ap (λ z. type_of_name z G.names) (sym (same_name m n q)) ∙ m_is)
      named (Some m) None a b q = no q
      named None p a b q = no q

  all_like : (w : TypeExpr) (W : Written) (vs : List TypeExpr) (Vs : List Written) → written t w outside G ≡ Ok W → are_like w vs ≡ true → types_in_order outside (found_types t vs) G ≡ Ok Vs → AllAre W.ty (types_written Vs)
  all_like w W [] [] h l k = tt
  all_like w W [] (V ∷ Vs) h l k = absurd cc
  all_like w W (v ∷ vs) Vs h l k =
      let p = both (is_like w v) (are_like w vs) l in
      let a = bind_ok (written t v outside G) _ Vs k in
      let b = bind_ok (types_in_order outside (found_types t vs) G) _ Vs a.then in
      subst (λ Us. AllAre W.ty (types_written Us)) (ok_ok (a.value ∷ b.value) Vs b.then)
      (like_same w v W a.value p.0 h a.first, all_like w W vs b.value h p.1 b.first)

  -- written types that are all one type are alike
  pub alike : (ws : List TypeExpr) (Ws : List Written) → is_one_type ws ≡ true → types_in_order outside (found_types t ws) G ≡ Ok Ws → Alike (types_written Ws)
  alike [] Ws l k = subst (λ Us. Alike (types_written Us)) (ok_ok [] Ws k) tt
  alike (w ∷ ws) Ws l k =
      let a = bind_ok (written t w outside G) _ Ws k in
      let b = bind_ok (types_in_order outside (found_types t ws) G) _ Ws a.then in
      subst (λ Us. Alike (types_written Us)) (ok_ok (a.value ∷ b.value) Ws b.then) (all_like w a.value ws b.value a.first l b.first)

parts_all : (Ws : List Written) → parts_of (all_ty Ws) ≡ types_written Ws
parts_all [] = refl
parts_all (W ∷ Ws) = ap (part W.ty) (parts_all Ws)

-- so the mark of what was gathered of them is right
pub marked_types : (b outside : Bool) (ws : List TypeExpr) (G : Scope) (g : TypesSeen) → b ≡ is_one_type ws
    → ((t : Tests) → Suits t → (types_in_order outside (found_types t ws) G >>= λ Ws. Ok (with_types no_types Ws)) ≡ Ok g) → IsAlike b (parts_of g.types)
marked_types false outside ws G g e h = tt
marked_types true outside ws G g e h =
    let s = some_tests WIDTH_LIMIT limit_within in
    let a = bind_ok (types_in_order outside (found_types s.tests ws) G) _ g (h s.tests (record { right = s.right; limit = s.within })) in
    subst Alike (sym (parts_all a.value) ∙ ap (λ (x : TypesSeen). parts_of x.types) (ok_ok (with_types no_types a.value) g a.then)) (alike s.tests outside G ws a.value (sym e) a.first)
