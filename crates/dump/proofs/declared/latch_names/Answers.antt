use Rattle.dump.specs.Waves.{latch_names}
use Rattle.dump.proofs.declared.latch_names.Goals as goal

pub returns : goal.returns
unfolding latch_names
returns c = (cc, rw (c.text-6.ensures.1, c.text-5.ensures.1, c.text-4.ensures.1, c.text-3.ensures.1, c.text-2.ensures.1, c.text.ensures.1))
