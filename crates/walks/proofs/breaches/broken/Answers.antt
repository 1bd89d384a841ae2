-- The six rules one after the other: the first that is not kept decides.
use Rattle.walks.specs.Checking.{first_from}
use Rattle.walks.proofs.First.{or_assoc, or_admitted, breach_or}
use Rattle.walks.proofs.breaches.broken.Goals as goal

pub returns : goal.returns
unfolding first_from
returns c = λ opcode.
    let two = c.or.ensures in
    let three = c.or-2.ensures in
    let four = c.or-3.ensures in
    let five = c.or-4.ensures in
    rw (c.or-5.ensures, breach_or opcode c.or-4.result c.unless-six.result, five, breach_or opcode c.or-3.result c.unless-five.result)
    (rw (four, breach_or opcode c.or-2.result c.unless-four.result, three, breach_or opcode c.or.result c.unless-three.result, two, breach_or opcode c.unless-one.result c.unless-two.result)
    (rw (c.unless-one.ensures opcode, c.unless-two.ensures opcode, c.unless-three.ensures opcode, c.unless-four.ensures opcode, c.unless-five.ensures opcode, c.unless-six.ensures opcode)
    (rw (c.rule1.ensures, c.rule2.ensures, c.rule3.ensures, c.rule4.ensures, c.rule5.ensures, c.rule6.ensures) (simp (or_assoc, or_admitted)))))
