-- An accepted sheet of an edition's kinds, written in that edition: it is read back from its bytes, which are accepted, strictly where each of its inputs
-- is driven at tick 0. Assumes nothing.
use mathlib.Core.Path.{◌≡◌}
use Prim.Native.Nat.{ℕ}
use Rattle.sheet.specs.Layout.{sheet_of}
use Rattle.sheet.specs.Sheet.{Sheet}
use Rattle.sheet.specs.declared.Edition.{Edition}
use Rattle.format.specs.Accepted.{Input, Accepted, Known, HasKinds, AcceptedIn, DrivenAtStart, StrictlyAcceptedIn}
use Rattle.format.specs.Encode.{encode, Bytes, Encodable}
use Rattle.format.proofs.EncodeBytes.{encode_bytes}
use Rattle.format.proofs.EncodePlaces.{encode_whole, read_encode}
use Rattle.network.proofs.Fits.{fits, one_byte_each}

module _ {E : Edition} (known : Known E) (S : Sheet) (acc : Accepted S) (kinds : HasKinds E S) where
  fits_edition : Encodable E S
  fits_edition = fits S acc known kinds

  pub read_back : sheet_of E (encode E S) ≡ S
  read_back = read_encode known S fits_edition

  pub written_bytes : Bytes (encode E S)
  written_bytes = encode_bytes E S (one_byte_each S acc)

  pub written_accepted : AcceptedIn E (encode E S)
  written_accepted = record { sheet = rw read_back acc; kinds = rw read_back kinds; whole = encode_whole known S fits_edition }

  pub written_strictly : ((v : ℕ) → Input S v → DrivenAtStart S v) → StrictlyAcceptedIn E (encode E S)
  written_strictly started = record { accepted = written_accepted; driven_from_start = rw read_back started }
