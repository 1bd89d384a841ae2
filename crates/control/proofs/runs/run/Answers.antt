-- What the unit gives is what the loop is given.
use Rattle.std.proofs.Common.{rules, ap, ◌∙◌}
use Rattle.datapath.specs.Machines.{with_image, fetching}
use Rattle.terms.specs.Running.{running, unless}
use Rattle.control.specs.Running.{unit_run}
use Rattle.control.specs.Units.{unit_gives, unit_cycle}
use Rattle.control.specs.declared.units.Unit.TheVariants.{StateTable, Rom, Pla, Sequencer}
use Rattle.control.proofs.runs.run.Goals as goal

pub returns-in-StateTable : goal.returns-in-StateTable
unfolding unit_run unit_gives
returns-in-StateTable c =
    let m = with_image c.args.machine c.args.image.now in
    rw c.in-StateTable.is
    (c.start.ensures (unit_gives StateTable) (λ state code r hs hc p. rw (← c.fixed_store-store.ensures) (search rules))
    ∙ ap (λ a. unless a m (running (unit_cycle StateTable) fetching c.args.budget.0 m)) c.ask-asked.ensures)

pub returns-in-Rom : goal.returns-in-Rom
unfolding unit_run unit_gives
returns-in-Rom c =
    let m = with_image c.args.machine c.args.image.now in
    rw c.in-Rom.is
    (c.start-in-Rom.ensures (unit_gives Rom) (λ state code r hs hc p. rw (← c.rom_table-entries.ensures) (search rules))
    ∙ ap (λ a. unless a m (running (unit_cycle Rom) fetching c.args.budget.0 m)) c.ask-asked.ensures)

pub returns-in-Pla : goal.returns-in-Pla
unfolding unit_run unit_gives
returns-in-Pla c =
    let m = with_image c.args.machine c.args.image.now in
    rw c.in-Pla.is
    (c.start-in-Pla.ensures (unit_gives Pla) (λ state code r hs hc p. search rules)
    ∙ ap (λ a. unless a m (running (unit_cycle Pla) fetching c.args.budget.0 m)) c.ask-asked.ensures)

pub returns-in-Sequencer : goal.returns-in-Sequencer
unfolding unit_run unit_gives
returns-in-Sequencer c =
    let m = with_image c.args.machine c.args.image.now in
    rw c.in-Sequencer.is
    (c.start-in-Sequencer.ensures (unit_gives Sequencer) (λ state code r hs hc p. rw (← c.fixed_store-store.ensures) (search rules))
    ∙ ap (λ a. unless a m (running (unit_cycle Sequencer) fetching c.args.budget.0 m)) c.ask-asked.ensures)
