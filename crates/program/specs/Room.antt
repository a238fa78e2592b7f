-- What the program lends, and the longest text that it prints.
use Rattle.std.specs.Prelude.{ℕ, ◌+◌, ◌*◌}
use Rattle.network.specs.Buffer.{room}

abbrev pub lent_bytes : ℕ
lent_bytes = 60000

-- a first line of 31 bytes, and a line of 21 for each record that the listing takes; a refusal's one line is far shorter
abbrev pub text_bytes : ℕ
text_bytes = 31 + 21 * room lent_bytes
