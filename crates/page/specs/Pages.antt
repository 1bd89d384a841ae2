-- A page: the bytes of a buffer, and the place at which the next one goes. What a function here writes is what it
-- makes of a page; where the page is full, what has no room is left out.
use Rattle.std.specs.Prelude.{ℕ, zero, suc, ◌+◌, ◌-◌, List, [], ◌∷◌, length, nat_lt, slice_set}
use Prim.Native.Char.{code}
use Prim.Native.String.{String, [] as no_text, ◌∷◌ as ◌then◌}
use Rattle.terms.specs.Answers.{pick}

pub record Page : Type 0 where
  pub bytes : List ℕ
  pub place : ℕ

abbrev pub page : List ℕ → ℕ → Page
page bytes place = record { bytes = bytes; place = place }

-- a page with one byte more
unfoldable pub put : ℕ → Page → Page
put byte p =
    pick (nat_lt p.place (length p.bytes))
    (page (slice_set p.bytes p.place byte) (p.place + 1))
    p

-- a page with some bytes more, one after the other
unfoldable pub write : List ℕ → Page → Page
write [] p = p
write (byte ∷ bytes) p = write bytes (put byte p)

-- the bytes of a text in ASCII
abbrev pub ascii : String → List ℕ
ascii no_text = []
ascii (letter then rest) = code letter ∷ ascii rest

-- a page with a text more
abbrev pub say : String → Page → Page
say text p = write (ascii text) p

-- as many blanks more
unfoldable pub spaces : ℕ → Page → Page
spaces zero p = p
spaces (suc k) p = spaces k (put 32 p)

-- blanks up to a place
abbrev pub up_to : ℕ → Page → Page
up_to place p = spaces (place - p.place) p
