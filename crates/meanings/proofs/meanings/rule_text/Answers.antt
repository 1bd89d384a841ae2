-- Each arm's text is the one beside its number; the last arm's is the one of a number that no row has.
use Rattle.std.proofs.Common.{arith}
use Rattle.terms.proofs.Tables.{Missed, miss}
use Rattle.meanings.specs.Meanings.{rule_meanings, rule_text}
use Rattle.meanings.proofs.meanings.rule_text.Goals as goal

pub returns-in-1 : goal.returns-in-1
unfolding rule_text
returns-in-1 c = rw c.in-1.is c.text.ensures

pub returns-in-2 : goal.returns-in-2
unfolding rule_text
returns-in-2 c = rw c.in-2.is c.text-in-2.ensures

pub returns-in-3 : goal.returns-in-3
unfolding rule_text
returns-in-3 c = rw c.in-3.is c.text-in-3.ensures

pub returns-in-4 : goal.returns-in-4
unfolding rule_text
returns-in-4 c = rw c.in-4.is c.text-in-4.ensures

pub returns-in-5 : goal.returns-in-5
unfolding rule_text
returns-in-5 c = rw c.in-5.is c.text-in-5.ensures

pub returns-in_default : goal.returns-in_default
unfolding rule_text
returns-in_default c =
    let none : Missed (Unit {0}) rule_meanings c.args.rule =
    (((((tt, omega arith), omega arith), omega arith), omega arith), omega arith) in
    rw (miss _ rule_meanings "no state is entered twice, and state 15 never counts on" _ none) c.text-in_default.ensures
