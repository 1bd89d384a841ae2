-- No second answer, and no other image, meets the promises of `access`, `fetch` and `load`.
-- Assumes nothing.
use Rattle.std.proofs.Common.{◌≡◌, ℕ, eqb, List, Result, Ok, Err, refl, ap}
use Rattle.terms.specs.Answers.{No, no, Answer, pick, fold, OneAnswer, OneWith}
use Rattle.terms.proofs.One.{one_reading, one_value, reply_one}
use Rattle.parts.specs.Image.{bad_number, accessed_as, fetched_as, Accesses, Fetches}
use Rattle.parts.specs.Loading.{Loading, Loads}
use Rattle.terms.specs.declared.counts.WordIndex.{WordIndex}
use Rattle.parts.specs.declared.image.BadAddress.TheVariants.{Misaligned, Outside}
use Rattle.parts.specs.declared.image.BadAddress.{BadAddress}

-- why an address is refused is known by its number
bad_from : No → BadAddress
bad_from r = pick (eqb r.number 1) Misaligned Outside

bad_undone : (b : BadAddress) → bad_from (no (bad_number b)) ≡ b
unfolding bad_from
bad_undone Misaligned = refl
bad_undone Outside = refl

pub access_one : (words address : ℕ) → OneAnswer (Accesses words address)
access_one words address = one_reading accessed_as back undone
  where
    back : Answer ℕ → Result WordIndex BadAddress
    back = fold (λ k. Ok (record { 0 = k })) (λ r. Err (bad_from r))

    undone : (x : Result WordIndex BadAddress) → back (accessed_as x) ≡ x
    undone (Ok k) = refl
    undone (Err b) = ap Err (bad_undone b)

pub fetch_one : (image : List ℕ) (address : ℕ) → OneAnswer (Fetches image address)
fetch_one image address = one_reading fetched_as back undone
  where
    back : Answer ℕ → Result ℕ BadAddress
    back = fold Ok (λ r. Err (bad_from r))

    undone : (x : Result ℕ BadAddress) → back (fetched_as x) ≡ x
    undone (Ok w) = refl
    undone (Err b) = ap Err (bad_undone b)

pub load_one : (program : List ℕ) (base : ℕ) (image : List ℕ) → OneWith (Loads program base image)
load_one program base image r s a b p q = (
  reply_one r s (ap (λ (l : Loading). l.answer) p) (ap (λ (l : Loading). l.answer) q),
  one_value (ap (λ (l : Loading). l.image) p) (ap (λ (l : Loading). l.image) q),
)
