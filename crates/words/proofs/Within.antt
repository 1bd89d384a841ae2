-- A number that is not above n is below n + 1, as a test on the code's numeral has it.
use Rattle.std.proofs.Common.{ℕ, suc, ◌<◌, ◌≤◌, suc-le-suc}

pub within : {a n : ℕ} → a ≤ n → a < suc n
within h = suc-le-suc h
