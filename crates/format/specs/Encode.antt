-- Document 01, "The sheet", the other way: a sheet's bytes. A count is two bytes; numbers of several bytes have the low byte first.
use mathlib.Core.List.{List, [], ◌∷◌, ◌++◌, Memᴰ}
use Rattle.std.specs.Prelude.{◌≡◌, ℕ, ◌-◌, ◌/◌, ◌%◌, ◌^◌, ◌<◌, length, get_or, take, drop}
use Rattle.sheet.specs.declared.Edition.{Edition}
use Rattle.sheet.specs.declared.Module.{Module}
use Rattle.sheet.specs.declared.Event.{Event}
use Rattle.sheet.specs.Sheet.{Sheet}
use Rattle.sheet.specs.Wiring.{inputs}

abbrev pub word_bytes : ℕ → List ℕ
word_bytes n = n % 256 ∷ n / 256 % 256 ∷ []

abbrev pub long_bytes : ℕ → List ℕ
long_bytes n = n % 256 ∷ n / 256 % 256 ∷ n / 65536 % 256 ∷ n / 16777216 % 256 ∷ []

-- as many of the inputs as the edition's record has room for, beside kind, parameter, output and delay
abbrev pub room_for_inputs : Edition → ℕ
room_for_inputs e = e.size - 5

abbrev pub module_bytes : Edition → Module → List ℕ
module_bytes e m = m.kind ∷ m.parameter ∷ m.output ∷ take (room_for_inputs e) (inputs m) ++ word_bytes m.delay

abbrev pub event_bytes : Event → List ℕ
event_bytes e = long_bytes e.tick ++ e.node ∷ e.value ∷ []

-- the records' bytes in a row
unfoldable pub all_bytes {ℓ} : {A : Type ℓ} → (A → List ℕ) → List A → List ℕ
all_bytes bytes [] = []
all_bytes bytes (r ∷ rs) = bytes r ++ all_bytes bytes rs

unfoldable pub encode : Edition → Sheet → List ℕ
encode e sheet =
    word_bytes (length sheet.nodes)
    ++ sheet.nodes
    ++ word_bytes (length sheet.modules)
    ++ all_bytes (module_bytes e) sheet.modules
    ++ word_bytes (length sheet.drive)
    ++ all_bytes event_bytes sheet.drive
    ++ word_bytes (length sheet.watched)
    ++ sheet.watched

-- every entry is a byte
abbrev pub Bytes : List ℕ → Type 0
Bytes s = (p : ℕ) → p < length s → get_or s p 0 < 256

-- What fits the format of an edition. A count and a delay have two bytes, a tick has four; an input for which a record has no room is 0:
pub record Encodable (e : Edition) (sheet : Sheet) : Type 0 where
  pub nodes : length sheet.nodes < 65536
  pub modules : length sheet.modules < 65536
  pub drive : length sheet.drive < 65536
  pub watched : length sheet.watched < 65536
  pub delays : (m : Module) → Memᴰ m sheet.modules → m.delay < 65536
  pub ticks : (e : Event) → Memᴰ e sheet.drive → e.tick < 2 ^ 32
  pub room : (m : Module) → Memᴰ m sheet.modules → (v : ℕ) → Memᴰ v (drop (room_for_inputs e) (inputs m)) → v ≡ 0

-- and every other number has one byte
pub record OneByteEach (sheet : Sheet) : Type 0 where
  pub nodes : (b : ℕ) → Memᴰ b sheet.nodes → b < 256
  pub modules : (m : Module) → Memᴰ m sheet.modules
      → (m.kind < 256) × (m.parameter < 256) × (m.output < 256) × (m.first < 256) × (m.second < 256) × (m.third < 256)
  pub drive : (e : Event) → Memᴰ e sheet.drive → (e.node < 256) × (e.value < 256)
  pub watched : (b : ℕ) → Memᴰ b sheet.watched → b < 256
