-- The definitions compute: the first draws of three seeds. Assumes nothing.
use Rattle.std.proofs.Common.{◌≡◌, refl}
use Rattle.draw.specs.Draw.{state_after, draw}

-- The first two draws of the least seeds and of the greatest. From seed 0 the first leaves 2654435769, 9E3779B9 in hexadecimal, whose halves
-- 9E37 and 79B9 give E78E; the sum of the second wraps around to 3C6EF372.
pub first_draws : (draw 0 0 ≡ 59278) × (draw 0 1 ≡ 53020) × (draw 1 0 ≡ 59277) × (draw 1 1 ≡ 53021) × (draw 4294967295 0 ≡ 59279) × (draw 4294967295 1 ≡ 53023)
unfolding state_after
first_draws = (refl, refl, refl, refl, refl, refl)
