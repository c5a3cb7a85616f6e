use Rattle.std.proofs.Common.{sym, ap, ◌∙◌}
use Rattle.std.specs.Option.{option_copied_mut}
use Rattle.asl_types.specs.declared.scope.Scope.TheInside.{Inside}
use Rattle.asl_types.specs.private.Standings.{storage_sort, form_view}
use Rattle.asl_types.proofs.ScopeLemmas.{entry-settled, not-absent}
use Rattle.asl_types.proofs.NumberLemmas.{kept-settled}
use Rattle.asl_types.proofs.scope.Scope.settle.Goals as goal
use Rattle.asl_types.proofs.scope.Scope.settle.Goals.{in-None, in-Some}

pub invariant_of-self : goal.invariant_of-self
invariant_of-self c =
    elim c.match-get_mut.branch [
      | in-None w ↦
          not-absent c.self.inside.declared.entries c.args.self.now c.args.name.now (storage_sort (form_view c.args.form)) c.self.view_is
          (sym c.get_mut.ensures.value ∙ ap option_copied_mut w.in-None.is) c.requires
      | in-Some w ↦
          kept-settled c.self.inside.declared.entries c.match-get_mut.self-inside.declared.entries c.args.self.now c.args.name.now
          w.in-Some.d.now w.declare_as.new.d c.args.form c.self.invariant c.self.view_is
          (sym c.get_mut.ensures.value ∙ ap option_copied_mut w.in-Some.is) c.requires w.declare_as.ensures.form w.declare_as.ensures.before
          (ap (λ (s : Inside). s.declared.entries) w.self-inside-is ∙ (c.get_mut.follows.holds w.declare_as.new.d).0)
    ]

pub returns : goal.returns
returns c =
    elim c.match-get_mut.branch [
      | in-None w ↦
          not-absent c.self.inside.declared.entries c.args.self.now c.args.name.now (storage_sort (form_view c.args.form)) c.self.view_is
          (sym c.get_mut.ensures.value ∙ ap option_copied_mut w.in-None.is) c.requires
      | in-Some w ↦
          entry-settled c.self.inside.declared.entries c.match-get_mut.self-inside.declared.entries c.args.self.now c.args.name.now
          w.declare_as.new.d c.args.form c.self.view_is w.declare_as.ensures.form
          (ap (λ (s : Inside). s.declared.entries) w.self-inside-is ∙ (c.get_mut.follows.holds w.declare_as.new.d).0)
    ]
