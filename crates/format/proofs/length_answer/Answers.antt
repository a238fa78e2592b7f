-- `format::length_answer` meets its contract: the output is too short, or it takes the sheet. Assumes nothing.
use borrow.Author.Tests.{lt-ltb, le-ltb}
use lib.ListN.{length}
use Rattle.format.proofs.length_answer.Goals as goal

pub returns-then-bytes-needed : goal.returns-then-bytes-needed
returns-then-bytes-needed c sheet e = rw (lt-ltb c.args.bytes (length sheet) (rw e c.if-bytes-needed.true), e)

pub returns : goal.returns
returns c sheet e = rw (le-ltb c.args.bytes (length sheet) (rw e c.if-bytes-needed.false), e)
