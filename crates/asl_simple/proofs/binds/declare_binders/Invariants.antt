use Rattle.std.proofs.Common.{◌≡◌, drop, true}
use Rattle.asl_types.specs.View.{parts_of}
use Rattle.asl_blocks.specs.private.Walks.{after, binder_step, binding}
use Rattle.asl_simple.proofs.binds.declare_binders.Given as goal

abbrev pub invariant-loop-binder : goal.invariant-loop-binder
invariant-loop-binder l =
    after (binder_step l.kind l.written) (drop l.binder-index l.binders) (binding l.names (parts_of l.rest) l.as_many)
    ≡ after (binder_step l.kind l.written) l.binders (binding l.fn.names (parts_of l.parts) true)
