-- `pending::Pending::pass_next` meets its contract: a change is due or stays. Assumes nothing.
use Rattle.std.proofs.Common.{sym, ap, arith}
use Rattle.pending.proofs.Taking.{number_at, number_set, due_passed, kept_passed}
use Rattle.pending.proofs.Pending.pass_next.Goals as goal

pub returns-then-p-t : goal.returns-then-p-t
returns-then-p-t c = λ start taken w.
    let v = sym (ap (λ s. s.kept) c.self.view_is) in
    let e = number_at c.self.inside.changes c.self.inside.count v (omega arith) {i = c.args.scan.at} (omega arith) in
    rw e (due_passed w (omega arith) (rw e at c.if-p-t.true))

pub returns : goal.returns
returns c = λ start taken w.
    let v = sym (ap (λ s. s.kept) c.self.view_is) in
    let e = number_at c.self.inside.changes c.self.inside.count v (omega arith) {i = c.args.scan.at} (omega arith) in
    rw (number_set c.self.inside.changes c.self.inside.count v (omega arith) {i = c.args.scan.kept} (omega arith), e)
    (kept_passed w (omega arith) (rw e at c.if-p-t.false))
