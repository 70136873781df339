use Rattle.std.proofs.Common.{rules, sym}
use Rattle.r2_frag.proofs.Taken.{begin-full, begin-room}
use Rattle.r2_frag.proofs.assembly.begin.Goals as goal

pub returns-then-is_full-clause-ok : goal.returns-then-is_full-clause-ok
returns-then-is_full-clause-ok c =
    rw c.remove-oldest.ensures.items (rw c.in_ok-push.ensures.items (sym (begin-full c.args.next c.args.messages.now.items c.remove-oldest.result (search rules) (rw c.in_ok-push.ensures.items at c.remove-oldest.ensures.value))))

pub returns-clause-ok : goal.returns-clause-ok
returns-clause-ok c =
    rw c.in_ok-push.ensures.items (sym (begin-room c.args.next c.args.messages.now.items (search rules)))
