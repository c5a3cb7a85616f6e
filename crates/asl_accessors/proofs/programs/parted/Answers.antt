use Rattle.std.proofs.Common.{ℕ, ◌≡◌, ◌++◌, ◌∷◌, [], List, Ok, ap, arith, get_or, length, length-append, reverse, subst, ◌∙◌, rules}
use Rattle.asl_syn.specs.declared.read.ReadDecl.{ReadDecl}
use Rattle.asl_rules.specs.declarations.Replacing.{bodies_matched}
use Rattle.asl_accessors.specs.declared.matching.Part.{Part}
use Rattle.asl_accessors.specs.private.Holes.{holes_for}
use Rattle.asl_accessors.specs.private.Parts.{parts_in}
use Rattle.asl_accessors.proofs.ProgramsParted.{begun, ended, gone_on, length_parts}
use Rattle.asl_accessors.proofs.programs.parted.Goals as goal

pub index-part-requires : goal.index-part-requires
index-part-requires c =
    let all = c.args.program.decls in
    let are : c.in_ok-parts.parts.items ≡ parts_in all all = c.in_ok-parts.ensures.each ∙ ap (λ (ds : List ReadDecl). parts_in ds ds) c.as_slice.ensures in
    let one : c.loop-decl.rest ≡ c.pop.new.self ++ c.in-Some.decl ∷ [] = c.in-Some.ensures in
    omega (
      arith,
      c.len.ensures,
      c.in_ok-parts.parts.ok.0,
      c.loop-decl.placed.ok.0,
      c.loop-decl.invariant.many,
      ap length one,
      length-append c.pop.new.self (c.in-Some.decl ∷ []),
      ap length are,
      length_parts all all,
    )

pub loop-decl-init : goal.loop-decl-init
loop-decl-init c =
    begun c.args.program.decls c.in_ok-rest.rest c.new-decls.result c.new-holes.result c.new-placed.result.items
    (c.in_ok-rest.ensures ∙ ap reverse c.into_decls.ensures) c.new-decls.ensures c.new-holes.ensures c.new-placed.ensures.items

pub loop-decl-preserved : goal.loop-decl-preserved
loop-decl-preserved c =
    let all = c.args.program.decls in
    let part = c.index-part.result.now in
    let placed = c.loop-decl.placed.items in
    let are : c.in_ok-parts.parts.items ≡ parts_in all all = c.in_ok-parts.ensures.each ∙ ap (λ (ds : List ReadDecl). parts_in ds ds) c.as_slice.ensures in
    let many : c.len.result ≡ length placed = omega (arith, c.len.ensures, c.loop-decl.placed.ok.0) in
    let is : part ≡ get_or (parts_in all all) (length placed) part =
    c.index-part.ensures ∙ ap (λ (ps : List Part). get_or ps c.len.result part) are ∙ ap (λ (n : ℕ). get_or (parts_in all all) n part) many in
    gone_on all c.loop-decl.rest c.pop.new.self c.in-Some.decl part c.loop-decl.decls c.write_default.new.decls c.loop-decl.holes c.push_hole.new.holes placed c.push.new.self.items
    c.in_ok-write_default.field-0 c.loop-decl.invariant c.in-Some.ensures is c.in_ok-write_default.ensures.written
    (c.in_ok-push_hole.ensures ∙ ap (λ (n : ℕ). c.loop-decl.holes ++ holes_for part n) c.len-in-Some.ensures) c.in_ok-write_default.ensures.left
    c.in_ok-push.ensures.items

pub returns : goal.returns
returns c =
    let all = c.args.program.decls in
    let none : c.loop-decl.rest ≡ [] = search rules in
    let e = ended all c.loop-decl.rest c.loop-decl.decls c.loop-decl.holes c.loop-decl.placed.items c.loop-decl.invariant none in
    record {
      matched = subst (λ (ds : List ReadDecl). bodies_matched ds ≡ Ok tt) c.as_slice.ensures c.in_ok-parts.ensures.matched;
      defaults = e.0;
      replaced = e.1;
    }
