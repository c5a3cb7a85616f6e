-- What holds of each declaration that is read, written out, holds of all that is judged of them: with the bodies that may be replaced, and with those that
-- replace them.
use Rattle.std.proofs.Common.{◌≡◌, ◌++◌, ◌⊎◌, inl, inr, Bool, true, false, if◌then◌else◌, List, [], ◌∷◌, Option, Some, None, sym, subst}
use Rattle.asl_syn.specs.declared.read.BodyWord.{BodyWord}
use Rattle.asl_syn.specs.declared.read.ReadDecl.{ReadDecl}
use Rattle.asl_syn.specs.declared.read.ReadDecl.TheVariants as rd
use Rattle.asl_syn.specs.declared.tree.Decl.{Decl}
use Rattle.asl_rules.specs.declarations.Keys.{Key}
use Rattle.asl_rules.specs.declarations.Programs.{default_decls, final_decls}
use Rattle.asl_rules.specs.declarations.Replacing.{Header, header_of, is_impdef, is_implementation, has_word, has_header, first_with, without_word, without_implementations, defaults, or_itself, in_place, replaced}
use Rattle.asl_rules.specs.declarations.WrittenOut.{decl_written, written_out}
use Rattle.asl_laws.proofs.basics.Lists.{AllOf}

-- ---- declarations that are kept, and those that take the place of others

module _ (R : ReadDecl → Type 0) where
  either : (b : Bool) (xs ys : List ReadDecl) → AllOf R xs → AllOf R ys → AllOf R (if b then xs else ys)
  either true xs ys h k = h
  either false xs ys h k = k

  one_of : (b : Bool) (d e : ReadDecl) → R d → R e → R (if b then d else e)
  one_of true d e h k = h
  one_of false d e h k = k

  kept : ((d : ReadDecl) → R d → R (without_word d)) → (make : ReadDecl → ReadDecl) → ((d : ReadDecl) → R d → R (make d)) → (ds : List ReadDecl) → AllOf R ds →
      AllOf R (without_implementations make ds)
  kept word make makes [] h = tt
  kept word make makes (d ∷ ds) h =
      let rest = kept word make makes ds h.1 in
      either (has_word is_implementation (header_of d)) (without_implementations make ds) (without_word (make d) ∷ without_implementations make ds)
      rest (word (make d) (makes d h.0), rest)

  first_or : (b : Bool) (d e : ReadDecl) (o : Option ReadDecl) → R e → R (or_itself d o) → R (or_itself d (if b then Some e else o))
  first_or true d e o h k = h
  first_or false d e o h k = k

  found : (is : BodyWord → Bool) (k : Key) (d : ReadDecl) → R d → (all : List ReadDecl) → AllOf R all → R (or_itself d (first_with is k all))
  found is k d r [] h = r
  found is k d r (e ∷ all) h = first_or (has_header is k (header_of e)) d e (first_with is k all) h.0 (found is k d r all h.1)

  placed : (all : List ReadDecl) → AllOf R all → (d : ReadDecl) → R d → (o : Option Header) → R (in_place all d o)
  placed all h d r None = r
  placed all h d r (Some x) = one_of (is_impdef x.word) (or_itself d (first_with is_implementation x.key all)) d (found is_implementation x.key d r all h) r

  defaults_each : ((d : ReadDecl) → R d → R (without_word d)) → (ds : List ReadDecl) → AllOf R ds → AllOf R (defaults ds)
  unfolding defaults
  defaults_each word ds h = kept word (λ d. d) (λ d r. r) ds h

  replaced_each : ((d : ReadDecl) → R d → R (without_word d)) → (ds : List ReadDecl) → AllOf R ds → AllOf R (replaced ds)
  unfolding replaced
  replaced_each word ds h = kept word (λ d. in_place ds d (header_of d)) (λ d r. placed ds h d r (header_of d)) ds h

-- ---- what is written out

module _ (P : List Decl → Type 0) (none : P []) (more : (ds es : List Decl) → P ds → P es → P (ds ++ es)) where
  -- the word of a body isn't written out
  wordless : (d : ReadDecl) → P (decl_written d) → P (decl_written (without_word d))
  wordless (rd.Type d) h = h
  wordless (rd.Storage d) h = h
  wordless (rd.Func f) h = h
  wordless (rd.Accessor a) h = h

  written : (ds : List ReadDecl) → AllOf (λ d. P (decl_written d)) ds → P (written_out ds)
  written [] h = none
  written (d ∷ ds) h = more (decl_written d) (written_out ds) h.0 (written ds h.1)

  default_each : (ds : List ReadDecl) → AllOf (λ d. P (decl_written d)) ds → P (default_decls ds)
  default_each ds h = written (defaults ds) (defaults_each (λ d. P (decl_written d)) wordless ds h)

  final_each : (ds : List ReadDecl) → AllOf (λ d. P (decl_written d)) ds → P (final_decls ds)
  final_each ds h = written (replaced ds) (replaced_each (λ d. P (decl_written d)) wordless ds h)

  -- so of the declarations that are judged
  pub judged_each : (read : List ReadDecl) (ds : List Decl) → (ds ≡ default_decls read) ⊎ (ds ≡ final_decls read) → AllOf (λ d. P (decl_written d)) read → P ds
  judged_each read ds (inl e) h = subst P (sym e) (default_each read h)
  judged_each read ds (inr e) h = subst P (sym e) (final_each read h)
