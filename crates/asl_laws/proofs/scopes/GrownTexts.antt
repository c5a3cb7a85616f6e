-- What the grammar gives: an enumeration has a label, and storage a type or an initialiser.
use Rattle.std.proofs.Common.{◌≡◌, ◌⊎◌, inl, inr, ℕ, zero, suc, true, ◌||◌, List, [], ◌∷◌, ◌++◌, length, Option, Ok, refl, sym, subst, map}
use Rattle.std.specs.Prelude.{is_some}
use Rattle.std.proofs.Math.Bool.{or-true}
use Rattle.asl_syn.specs.declared.token.Token.{Token}
use Rattle.asl_syn.specs.declared.tree.Expr.{Expr}
use Rattle.asl_syn.specs.declared.tree.TypeExpr.{TypeExpr}
use Rattle.asl_syn.specs.declared.tree.Ident.{Ident}
use Rattle.asl_syn.specs.declared.tree.TypeDef.{TypeDef}
use Rattle.asl_syn.specs.declared.tree.Decl.{Decl}
use Rattle.asl_syn.specs.declared.token.Span.{Span}
use Rattle.asl_syn.specs.declared.read.BodyWord.{BodyWord}
use Rattle.asl_syn.specs.declared.read.ReadDecl.{ReadDecl}
use Rattle.asl_syn.specs.declared.read.ReadDecl.TheVariants as rd
use Rattle.asl_grammar.specs.declared.parts.Bodied.{Bodied}
use Rattle.asl_grammar.specs.declared.parts.Bodied.TheVariants as bo
use Rattle.asl_grammar.specs.Reading.{File, Text, HasTrees, ReadsAt, Reads}
use Rattle.asl_grammar.specs.lexemes.Refusals.{max_width}
use Rattle.asl_grammar.specs.grammar.Cursor.{Cursor}
use Rattle.asl_grammar.specs.grammar.Combinators as comb
use Rattle.asl_grammar.specs.grammar.Combinators.{Reading, reads, reads_all, either}
use Rattle.asl_grammar.specs.grammar.Faults.{Parses, max_levels, lexemes}
use Rattle.asl_grammar.specs.grammar.Syntax.{start}
use Rattle.asl_grammar.specs.grammar.Build.{bodied_of}
use Rattle.asl_grammar.specs.grammar.Rules.{Sym, Val, rule, label_list, label_braces, labels, record_type, exception_type, type_definition, type_decl, fixed_storage, typed_var, global_rest, global_var, bodied, declaration, program}
use Rattle.asl_rules.specs.private.Grown.{is_positive, is_def_grown, is_read_grown, AreGrown, AreReadGrown}
use Rattle.asl_rules.specs.declarations.Programs.{default_decls, final_decls}
use Rattle.asl_rules.specs.declarations.WrittenOut.{decl_written}
use Rattle.asl_laws.proofs.basics.Lists.{AllOf}
use Rattle.asl_laws.specs.Answers.{AreJudged}
use Rattle.asl_laws.proofs.reading.Judged.{judged_each}

module _ (R : (s : Sym) → Reading (Val s)) where
  abbrev OwnGrown : TypeDef → Type 0
  OwnGrown def = is_def_grown def ≡ true

  abbrev DeclGrown : ReadDecl → Type 0
  DeclGrown d = is_read_grown d ≡ true

  some_label : (a b : Cursor) (is : List Ident) → reads R label_list a is b → is_positive (length is) ≡ true
  unfolding label_list
  some_label a b is (x, r, e) = subst (λ z. is_positive (length z) ≡ true) (sym e) refl

  label_in_braces : (a b : Cursor) (is : List Ident) → reads R label_braces a is b → is_positive (length is) ≡ true
  unfolding label_braces
  label_in_braces a b is (mid, (x, r, e), k) = subst (λ z. is_positive (length z) ≡ true) (sym e) (some_label r.0 r.2.0 x.1.0 r.2.1)

  def_grown : (a b : Cursor) (def : TypeDef) → reads R type_definition a def b → OwnGrown def
  unfolding type_definition labels record_type exception_type
  def_grown a b def (inl (x, r, e)) = subst OwnGrown (sym e) refl
  def_grown a b def (inr (inl (x, r, e))) = subst OwnGrown (sym e) (label_in_braces r.0.0 b x.0.1 r.0.2)
  def_grown a b def (inr (inr (inl (x, r, e)))) = subst OwnGrown (sym e) refl
  def_grown a b def (inr (inr (inr (x, r, e)))) = subst OwnGrown (sym e) refl

  type_grown : (a b : Cursor) (d : ReadDecl) → reads R type_decl a d b → DeclGrown d
  unfolding type_decl
  type_grown a b d (x, r, e) = subst DeclGrown (sym e) (def_grown r.0.2.2.0 r.0.2.2.2.0 x.0.1.1.1.0 r.0.2.2.2.1)

  storage_grown : (a b : Cursor) (d : ReadDecl) → reads R fixed_storage a d b → DeclGrown d
  unfolding fixed_storage
  storage_grown a b d (x, r, e) = subst DeclGrown (sym e) (or-true (is_some x.0.1.1.0))

  rest_grown : (a b : Cursor) (v : Option TypeExpr × Option Expr) → reads R global_rest a v b → (is_some v.0 || is_some v.1) ≡ true
  unfolding global_rest typed_var
  rest_grown a b v (inl (x, r, e)) = subst (λ (z : Option TypeExpr × Option Expr). (is_some z.0 || is_some z.1) ≡ true) (sym e) refl
  rest_grown a b v (inr (x, r, e)) = subst (λ (z : Option TypeExpr × Option Expr). (is_some z.0 || is_some z.1) ≡ true) (sym e) refl

  var_grown : (a b : Cursor) (d : ReadDecl) → reads R global_var a d b → DeclGrown d
  unfolding global_var
  var_grown a b d (x, r, e) = subst DeclGrown (sym e) (rest_grown r.0.2.0 b x.0.1.1 r.0.2.2)

  bodied_of_grown : (span : Span) (w : BodyWord) (x : Bodied) → DeclGrown (bodied_of span w x)
  bodied_of_grown span w (bo.Subprogram q i ps fs result most ss) = refl
  bodied_of_grown span w (bo.Accessor i ps fs value q getter setter) = refl

  bodied_grown : (a b : Cursor) (d : ReadDecl) → reads R bodied a d b → DeclGrown d
  unfolding bodied
  bodied_grown a b d (x, r, e) = subst DeclGrown (sym e) (bodied_of_grown _ _ _)

  decl_grown : (a b : Cursor) (d : ReadDecl) → reads R declaration a d b → DeclGrown d
  unfolding declaration
  decl_grown a b d (inl r) = type_grown a b d r
  decl_grown a b d (inr (inl r)) = storage_grown a b d r
  decl_grown a b d (inr (inr (inl r))) = var_grown a b d r
  decl_grown a b d (inr (inr (inr r))) = bodied_grown a b d r

  all_grown : (a b : Cursor) (ds : List ReadDecl) → reads_all (reads R declaration) a ds b → AreReadGrown ds
  all_grown a b [] r = tt
  all_grown a b (d ∷ ds) (mid, p, q) = (decl_grown a mid d p, all_grown mid b ds q)

  program_grown : (a b : Cursor) (ds : List ReadDecl) → reads R program a ds b → AreReadGrown ds
  unfolding program
  program_grown a b ds r = all_grown a b ds r

append_grown : (ds es : List ReadDecl) → AreReadGrown ds → AreReadGrown es → AreReadGrown (ds ++ es)
append_grown [] es g h = h
append_grown (d ∷ ds) es g h = (g.0, append_grown ds es g.1 h)

text_grown : (text : Text) (ts : List Token) (ds : List ReadDecl) → Parses text ts ds → AreReadGrown ds
text_grown text ts ds (zero, b, r, e) = absurd r
text_grown text ts ds (suc n, b, r, e) = program_grown (comb.Reads Sym Val rule n) (start max_levels (lexemes text ts)) b ds r

trees_grown : (texts : List Text) (tss : List (List Token)) (ds : List ReadDecl) → HasTrees texts tss ds → AreReadGrown ds
trees_grown [] [] ds h = subst AreReadGrown (sym h) tt
trees_grown [] (ts ∷ tss) ds h = absurd h
trees_grown (text ∷ texts) [] ds h = absurd h
trees_grown (text ∷ texts) (ts ∷ tss) ds (v, vs, p, q, e) = subst AreReadGrown (sym e) (append_grown v vs (text_grown text ts v p) (trees_grown texts tss vs q))

-- what files are read to is grown, as far as declarations themselves go
read_grown_at : (limit : ℕ) (files : List File) (ds : List ReadDecl) → ReadsAt limit files (Ok ds) → AreReadGrown ds
read_grown_at limit files ds h = trees_grown (map (λ f. f.1) files) h.tokens ds h.trees

pub read_grown : (files : List File) (ds : List ReadDecl) → Reads files (Ok ds) → AreReadGrown ds
read_grown = read_grown_at max_width

-- ---- what is written out

both_grown : (ds es : List Decl) → AreGrown ds → AreGrown es → AreGrown (ds ++ es)
both_grown [] es g h = h
both_grown (d ∷ ds) es g h = (g.0, both_grown ds es g.1 h)

decl_written_grown : (d : ReadDecl) → is_read_grown d ≡ true → AreGrown (decl_written d)
decl_written_grown (rd.Type d) h = (h, tt)
decl_written_grown (rd.Storage d) h = (h, tt)
decl_written_grown (rd.Func f) h = (refl, tt)
decl_written_grown (rd.Accessor a) h = (refl, (refl, tt))

each_written_grown : (ds : List ReadDecl) → AreReadGrown ds → AllOf (λ d. AreGrown (decl_written d)) ds
each_written_grown [] h = tt
each_written_grown (d ∷ ds) h = (decl_written_grown d h.0, each_written_grown ds h.1)

-- declarations that are judged of such as are read
pub written_grown : (read : List ReadDecl) (ds : List Decl) → (ds ≡ default_decls read) ⊎ (ds ≡ final_decls read) → AreReadGrown read → AreGrown ds
written_grown read ds o h = judged_each AreGrown tt both_grown read ds o (each_written_grown read h)

pub judged_grown : (limit : ℕ) (files : List File) (ds : List Decl) → AreJudged limit files ds → AreGrown ds
judged_grown limit files ds h = written_grown h.read ds h.are (read_grown_at limit files h.read h.reads)
