-- "A store is 16 words of 18 bits and two ROMs of 64 entries, each a state 0 to 15 or 255 for none."
use Rattle.std.specs.Prelude.{Bool, true, ◌&&◌, ◌||◌, List, [], ◌∷◌, ℕ, ◌^◌, nat_lt, ◌==◌}
use Rattle.microcode.specs.declared.stores.Store.{Store}

abbrev pub word_fits : ℕ → Bool
word_fits w = nat_lt w (2 ^ 18)

abbrev pub entry_fits : ℕ → Bool
entry_fits e = nat_lt e 16 || e == 255

-- each of a list passes a test
abbrev pub every : (ℕ → Bool) → List ℕ → Bool
every f [] = true
every f (x ∷ l) = f x && every f l

-- 12 store word of 2^18 or more, or entry 16 to 254: every word and every entry is looked at
unfoldable pub in_range : Store → Bool
in_range s = every word_fits s.words && (every entry_fits s.rom1 && every entry_fits s.rom2)
