-- "The fixed store is the ten words above, words 10 to 15 zero, all other entries 255."
use Rattle.std.specs.Prelude.{List, [], ◌∷◌, ◌++◌, ℕ, replicate}
use Rattle.terms.specs.Tables.{choose, table_from}
use Rattle.microcode.specs.declared.stores.Store.{Store}

-- "States 0 to 9, in hexadecimal"
unfoldable pub ten_words : List ℕ
ten_words =
    0x25023 ∷ 0x00061 ∷ 0x00052 ∷ 0x0C003 ∷ 0x00808 ∷ 0x0A000 ∷ 0x00113 ∷ 0x0000C ∷ 0x10290 ∷ 0x20400 ∷ []

-- "Dispatch 1: opcode 0 to 6, 2 to 9, 4 to 8, 35 and 43 to 2."
unfoldable pub dispatch1 : ℕ → ℕ
dispatch1 opcode = choose ((0, 6) ∷ (2, 9) ∷ (4, 8) ∷ (35, 2) ∷ (43, 2) ∷ []) 255 opcode

-- "Dispatch 2: 35 to 3, 43 to 5. No other entries."
unfoldable pub dispatch2 : ℕ → ℕ
dispatch2 opcode = choose ((35, 3) ∷ (43, 5) ∷ []) 255 opcode

unfoldable pub fixed_store : Store
fixed_store =
    record {
      words = ten_words ++ replicate 6 0;
      rom1 = table_from 0 64 dispatch1;
      rom2 = table_from 0 64 dispatch2;
    }
