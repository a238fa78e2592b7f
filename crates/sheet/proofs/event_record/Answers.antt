-- `sheet::event_record` meets its contract, field by field. Assumes nothing.
use Rattle.sheet.proofs.event_record.Goals as goal

pub returns : goal.returns
returns c = cc
