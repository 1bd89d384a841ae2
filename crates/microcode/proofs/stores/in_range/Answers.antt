-- What `all` says of each array is what the definition says of it.
use Rattle.std.proofs.Common.{rules, ◌≡◌, true, false}
use Rattle.std.proofs.lemmas.Iterator.{YieldsList-from_slice, cases_from_all}
use borrow.Author.Tests.{tests}
use Rattle.microcode.specs.Stores.{every, word_fits, entry_fits, in_range}
use Rattle.microcode.proofs.Every.{every_by}
use Rattle.microcode.proofs.stores.in_range.Goals as goal

pub returns : goal.returns
unfolding in_range
returns c =
    let s = c.args.store.now in
    let words : c.all-words.result ≡ every word_fits s.words = every_by word_fits s.words c.all-words.result (cases_from_all _ _ _ (λ x. word_fits x ≡ true) (λ x. word_fits x ≡ false) c.all-words.ensures.ran (YieldsList-from_slice s.words cc) (λ x q k. search (rules, tests)) (λ x q k. search (rules, tests))) in
    let one : c.all-one.result ≡ every entry_fits s.rom1 = every_by entry_fits s.rom1 c.all-one.result (cases_from_all _ _ _ (λ x. entry_fits x ≡ true) (λ x. entry_fits x ≡ false) c.all-one.ensures.ran (YieldsList-from_slice s.rom1 cc) (λ x q k. search (rules, tests)) (λ x q k. search (rules, tests))) in
    let two : c.all-two.result ≡ every entry_fits s.rom2 = every_by entry_fits s.rom2 c.all-two.result (cases_from_all _ _ _ (λ x. entry_fits x ≡ true) (λ x. entry_fits x ≡ false) c.all-two.ensures.ran (YieldsList-from_slice s.rom2 cc) (λ x q k. search (rules, tests)) (λ x q k. search (rules, tests))) in
    rw (words, one, two)
