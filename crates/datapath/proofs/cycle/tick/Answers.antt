-- A cycle is its decision carried out, or refused.
use Rattle.std.proofs.Common.{sym, ap, ◌∙◌}
use Rattle.terms.specs.Answers.{No, chain, answered, refused}
use Rattle.datapath.specs.Effects.{carried_out}
use Rattle.datapath.specs.Machines.{MachineState, machine_state}
use Rattle.datapath.specs.Ticking.{tick_of}
use Rattle.datapath.proofs.Decided.{decided}
use Rattle.datapath.proofs.cycle.tick.Goals as goal

pub returns-in-Ok : goal.returns-in-Ok
returns-in-Ok c =
    let cells = c.args.cells.now in
    let image = c.args.image.now in
    let start = machine_state cells c.args.latches image in
    ap (λ (m : MachineState). tick_of start (answered m)) c.carry.ensures
    ∙ sym (ap (tick_of start) (decided c.args.control c.args.latches cells image ∙ ap (λ d. chain d (λ e. answered (carried_out e cells image))) (sym c.in-Ok.ensures)))

pub returns-in-Err : goal.returns-in-Err
returns-in-Err c =
    let cells = c.args.cells.now in
    let image = c.args.image.now in
    let start = machine_state cells c.args.latches image in
    ap (λ (r : No). tick_of start (refused r)) c.refusal_of.ensures
    ∙ sym (ap (tick_of start) (decided c.args.control c.args.latches cells image ∙ ap (λ d. chain d (λ e. answered (carried_out e cells image))) (sym c.in-Err.ensures)))
