use Rattle.dump.specs.Waves.{signal_names}
use Rattle.dump.proofs.declared.signal_names.Goals as goal

pub returns : goal.returns
unfolding signal_names
returns c = (cc, rw (c.text-7.ensures.1, c.text-6.ensures.1, c.text-5.ensures.1, c.text-4.ensures.1, c.text-3.ensures.1, c.text-2.ensures.1, c.text.ensures.1))
