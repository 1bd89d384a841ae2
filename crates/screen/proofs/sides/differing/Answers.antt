use Rattle.std.proofs.Common.{◌≡◌, ◌+◌, length, [], ◌∷◌, ◌++◌, length-append}
use Rattle.screen.specs.Sides.{counted_at}
use Rattle.screen.proofs.Along.{along_next}
use Rattle.screen.proofs.sides.differing.Goals as goal

pub loop-our-preserved : goal.loop-our-preserved
loop-our-preserved c =
    let more : length (c.loop-our.yielded ++ (c.in-Some.our, c.in-Some.their) ∷ []) ≡ length c.loop-our.yielded + 1 =
    length-append c.loop-our.yielded ((c.in-Some.our, c.in-Some.their) ∷ []) in
    let next = along_next counted_at (length c.loop-our.yielded) _ _ c.loop-our.count _ _ _ _ c.in-Some.ensures.steps.0 c.in-Some.ensures.steps.1 in
    cc
