-- `text::print` meets its contract: the sentence, the line's end, and after a finished run the lines. Assumes nothing.
use Rattle.std.proofs.Common.{rules}
use Rattle.lent.proofs.Putting.{from_start, puts_then}
use Rattle.text.specs.Printing.{printed_text}
use Rattle.text.proofs.print.Goals as goal

pub returns : goal.returns
unfolding printed_text
returns c =
    let printed = from_start c.new-out.ensures.start (puts_then c.put_sentence.ensures (puts_then c.put.ensures c.put_listed.ensures)) in
    search rules
