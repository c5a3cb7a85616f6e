-- The spans of the trees that a file has lie in it, and so does the fault of files in one of them. Literals of bits keep within the
-- width limit.
use Rattle.std.proofs.Common.{ℕ, ◌+◌, List, [], ◌∷◌, map, length, sym, subst}
use Rattle.asl_syn.specs.declared.code.Fault.{Fault}
use Rattle.asl_syn.specs.declared.token.Token.{Token}
use Rattle.asl_syn.specs.declared.tree.Decl.{Decl}
use Rattle.asl_syn.specs.declared.read.ReadDecl.{ReadDecl}
use Rattle.asl_grammar.specs.lexemes.Files.{AllTokens}
use Rattle.asl_grammar.specs.lexemes.Texts.{LiesIn}
use Rattle.asl_grammar.specs.lexemes.Tokens.{Tokens}
use Rattle.asl_grammar.specs.grammar.Faults.{Parses}
use Rattle.asl_grammar.specs.Reading.{Text, File, HasTrees}
use Rattle.asl_rules.specs.declared.entry.Entry.{Entry}
use Rattle.asl_rules.specs.declarations.WrittenOut.{decl_written}
use Rattle.asl_laws.proofs.basics.Lists.{AllOf}
use Rattle.asl_laws.specs.Answers.{AreJudged, FaultOfFiles}
use Rattle.asl_laws.specs.Spans.{Mark, place, literal, Each, Placed, all_of, decl_spans}
use Rattle.asl_laws.proofs.spans.EachSpan.{each_so}
use Rattle.asl_laws.proofs.spans.FileSpans.{Within, TreesStand, joined_decls, files_fault_stands}
use Rattle.asl_laws.proofs.reading.Literals.{IsLiteral}
use Rattle.asl_laws.proofs.reading.Judged.{judged_each}
use Rattle.asl_laws.proofs.reading.Predicates.{MarkIn, ReadDeclIn, each_in, append_in}
use Rattle.asl_laws.proofs.reading.Symbols.{SymIn}
use Rattle.asl_laws.proofs.reading.Made.{made}
use Rattle.asl_laws.proofs.reading.Files.{program_in}

trees_marked : (limit n : ℕ) (text : Text) (ts : List Token) (v : List ReadDecl) → Tokens limit n text ts → Parses text ts v →
    AllOf (ReadDeclIn n (length text) limit) v
trees_marked limit n text ts v k p = let size = length text in program_in n text limit (SymIn n size limit) (made n size limit) ts v k p

-- what holds of each mark that another thing holds of, in each declaration
each_marked : (P Q : Mark → Type 0) → ((mark : Mark) → P mark → Q mark) → (v : List ReadDecl) → AllOf (λ d. Each P (all_of decl_spans (decl_written d))) v →
    AllOf (λ d. Each Q (all_of decl_spans (decl_written d))) v
each_marked P Q k [] h = tt
each_marked P Q k (d ∷ ds) h = (each_so P Q k (all_of decl_spans (decl_written d)) h.0, each_marked P Q k ds h.1)

in_each : (n size limit : ℕ) (v : List ReadDecl) → AllOf (ReadDeclIn n size limit) v → AllOf (λ d. Each (MarkIn n size limit) (all_of decl_spans (decl_written d))) v
in_each n size limit [] h = tt
in_each n size limit (d ∷ ds) h = (each_in n size limit decl_spans (decl_written d) h.0, in_each n size limit ds h.1)

trees_stand : TreesStand
trees_stand limit n text ts v k p =
    each_marked (MarkIn n (length text) limit) (Placed (Within n text)) at v (in_each n (length text) limit v (trees_marked limit n text ts v k p))
  where
    at : (mark : Mark) → MarkIn n (length text) limit mark → Placed (Within n text) mark
    at (place span) h = h
    at (literal span text) h = h.0

-- where there is a file at all, the fault stands in one of them
pub fault_lies : (limit : ℕ) (e : Entry) (file : File) (files : List File) (f : Fault) → FaultOfFiles limit e (file ∷ files) f →
    LiesIn 0 (map (λ g. g.1) (file ∷ files)) f.span
fault_lies = files_fault_stands trees_stand

-- ---- literals

-- a literal of bits keeps within the width limit
abbrev pub LiteralKept : ℕ → Mark → Type 0
LiteralKept limit (place span) = Unit {0}
LiteralKept limit (literal span text) = IsLiteral limit text

-- so do those of what a declaration is written out as
abbrev DeclKept : ℕ → ReadDecl → Type 0
DeclKept limit d = Each (LiteralKept limit) (all_of decl_spans (decl_written d))

text_literals : (limit n : ℕ) (text : Text) (ts : List Token) (v : List ReadDecl) → Tokens limit n text ts → Parses text ts v → AllOf (DeclKept limit) v
text_literals limit n text ts v k p =
    each_marked (MarkIn n (length text) limit) (LiteralKept limit) of v (in_each n (length text) limit v (trees_marked limit n text ts v k p))
  where
    of : (mark : Mark) → MarkIn n (length text) limit mark → LiteralKept limit mark
    of (place span) h = tt
    of (literal span text) h = h.1

all_literals : (limit n : ℕ) (texts : List Text) (tss : List (List Token)) (ds : List ReadDecl) → AllTokens limit n texts tss →
    HasTrees texts tss ds → AllOf (DeclKept limit) ds
all_literals limit n [] [] ds k h = subst (AllOf (DeclKept limit)) (sym h) tt
all_literals limit n [] (ts ∷ tss) ds k h = absurd h
all_literals limit n (text ∷ texts) [] ds k h = absurd h
all_literals limit n (text ∷ texts) (ts ∷ tss) ds k (v, vs, p, r, e) =
    subst (AllOf (DeclKept limit)) (sym e)
    (append_in (DeclKept limit) v vs (text_literals limit n text ts v k.0 p) (all_literals limit (n + 1) texts tss vs k.1 r))

-- so do all that are judged
pub judged_literals : (limit : ℕ) (files : List File) (ds : List Decl) → AreJudged limit files ds → Each (LiteralKept limit) (all_of decl_spans ds)
judged_literals limit files ds h =
    judged_each (λ es. Each (LiteralKept limit) (all_of decl_spans es)) tt (joined_decls (LiteralKept limit)) h.read ds h.are
    (all_literals limit 0 (map (λ f. f.1) files) h.reads.tokens h.read h.reads.lexemes h.reads.trees)
