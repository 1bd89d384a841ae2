-- What a refusal means, in words.
use Rattle.std.specs.Prelude.{List, [], ◌∷◌, ℕ}
use Prim.Native.String.{String}
use Rattle.terms.specs.Refusals.{number_of}
use Rattle.terms.specs.Tables.{choose}
use Rattle.terms.specs.declared.refusals.AccessKind.TheVariants.{Fetch, Load, Store, Loader}
use Rattle.terms.specs.declared.refusals.AccessKind.{AccessKind}
use Rattle.terms.specs.declared.refusals.Refusal.TheVariants as Refusal'
use Rattle.terms.specs.declared.refusals.Refusal.{Refusal}
use Rattle.page.specs.Numbers.{decimal}
use Rattle.page.specs.Pages.{Page, write, ascii, say}

-- what each walk rule asks; the sixth is the last
abbrev pub rule_meanings : List (ℕ × String)
rule_meanings =
    (1, "state 0 has MemRead and IRWrite, not IorD, and AddrCtl 3") ∷
    (2, "no state but 0 has IRWrite") ∷
    (3, "no state has MemRead with MemWrite") ∷
    (4, "ALUOp and PCSource are never 3") ∷
    (5, "after RegWrite or MemWrite no MemRead, MemWrite, ALUOp 2 or missing entry") ∷
    []

unfoldable pub rule_text : ℕ → Page → Page
rule_text rule p = say (choose rule_meanings "no state is entered twice, and state 15 never counts on" rule) p

unfoldable pub with_number : List ℕ → ℕ → Page → Page
with_number name n p = decimal n (write name p)

unfoldable pub breach : ℕ → ℕ → ℕ → Page → Page
breach opcode state rule p =
    rule_text rule
    (say ": " (decimal rule (say ", rule " (decimal state (say ", state " (decimal opcode (say "opcode " p)))))))

-- what memory was accessed for
abbrev pub kind_text : AccessKind → Page → Page
kind_text Fetch p = say "fetch" p
kind_text Load p = say "load" p
kind_text Store p = say "store" p
kind_text Loader p = say "loader" p

-- a refused access: what it was for, where, and why
unfoldable pub access_text : ℕ → AccessKind → List ℕ → Page → Page
access_text address kind why p = write why (decimal address (say " at byte " (kind_text kind p)))

abbrev pub meaning : Refusal → Page → Page
meaning (Refusal'.Misaligned address kind) p = access_text address.0 kind (ascii ": not a multiple of 4") p
meaning (Refusal'.Outside address kind) p = access_text address.0 kind (ascii ": outside the image") p
meaning Refusal'.NoEntry p = say "the opcode has no entry at this dispatch" p
meaning Refusal'.UnknownFunction p = say "ALUOp is 2 and the function is unknown" p
meaning Refusal'.StartState p = say "the engine does not have the start state" p
meaning Refusal'.ImageSize p = say "the image has not 1 to 16384 words" p
meaning Refusal'.Budget p = say "the budget is above 1000000 cycles" p
meaning Refusal'.FieldTooLarge p = say "a field to encode is too large" p
meaning Refusal'.FileSize p = say "the file has not 197 bytes" p
meaning Refusal'.FileMark p = say "the file does not begin with the mark MCS" p
meaning Refusal'.FileVersion p = say "the version of the file is not 1" p
meaning Refusal'.StoreRange p = say "a word of the store has more than 18 bits, or an entry is 16 to 254" p
meaning (Refusal'.WalkRule opcode state rule) p = breach opcode state rule p
meaning Refusal'.NoInstructions p = say "an average over no instructions" p

-- its number, and what it means
unfoldable pub refusal_text : Refusal → Page → Page
refusal_text refusal p = meaning refusal (say ": " (decimal (number_of refusal) p))
