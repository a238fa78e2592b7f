-- Numbers in decimal, computed. Assumes nothing.
use mathlib.Core.Path.{◌≡◌, refl}
use Rattle.lent.specs.Decimal.{digits, decimal}
use Rattle.lent.specs.Letters.{letters}

pub zero_printed : decimal 0 ≡ letters "0"
unfolding letters digits
zero_printed = refl

pub last_tick-printed : decimal 999999 ≡ letters "999999"
unfolding letters digits
last_tick-printed = refl

pub greatest_printed : decimal 4294967295 ≡ letters "4294967295"
unfolding letters digits
greatest_printed = refl
