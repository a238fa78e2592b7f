-- `sheet::module_record` meets its contract, field by field. Assumes nothing.
use mathlib.Core.Path.{◌≡◌, ap, ◌∙◌}
use native.Mathlib.Omega.{arith}
use Rattle.sheet.specs.Layout.{delay_place}
use Prim.Native.Nat.{◌+◌, ◌*◌}
use Rattle.sheet.specs.Bytes.{word_at}
use Rattle.sheet.proofs.module_record.Goals as goal

pub returns : goal.returns
returns c =
    let read : c.from_le_bytes.result ≡ c.byte-6.result + 256 * c.byte-7.result = omega arith in
    let stands : c.from_le_bytes.result ≡ word_at c.args.s.now (delay_place c.args.e c.args.p) = read ∙ (λ j. c.byte-6.ensures j + 256 * c.byte-7.ensures j) ∙ ap (λ p. word_at c.args.s.now p) c.delay_place-delay.ensures.0 in
    let s = c.args.s.now in
    λ i.
    record {
      kind = c.byte.ensures i;
      parameter = c.byte-2.ensures i;
      output = c.byte-3.ensures i;
      first = c.byte-4.ensures i;
      second = c.byte-5.ensures i;
      third = c.third_at-third.ensures i;
      delay = stands i;
    }
