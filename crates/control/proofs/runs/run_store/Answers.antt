-- What the store gives is what the loop is given.
use Rattle.std.proofs.Common.{rules, ap, ◌∙◌}
use Rattle.datapath.specs.Machines.{with_image, fetching}
use Rattle.microcode.specs.Sequencing.{store_gives, store_cycle}
use Rattle.terms.specs.Running.{running, unless}
use Rattle.control.specs.Running.{store_run}
use Rattle.control.proofs.runs.run_store.Goals as goal

pub returns : goal.returns
unfolding store_run
returns c =
    let m = with_image c.args.machine c.args.image.now in
    c.start.ensures (store_gives c.args.store.now) (λ state code r hs hc p. search rules)
    ∙ ap (λ a. unless a m (running (store_cycle c.args.store.now) fetching c.args.budget.0 m)) c.ask_store-asked.ensures
