use Rattle.std.proofs.Common.{length, map, ap, arith}
use Rattle.std.proofs.lemmas.Grind.{common_steps}
use Rattle.std.proofs.lemmas.Result.{on_ok_weaker}
use Rattle.r2_link.proofs.Records.{copied-run, copied-twin}
use Rattle.r2_link.specs.Sent.{datagram_at, sent_upto}
use Rattle.r2_link.proofs.sent.+copy_upto.Goals as goal

pub returns-in-Nobody : goal.returns-in-Nobody
returns-in-Nobody t c =
    on_ok_weaker c.copy_run.result (copied-run c.args.out.now.items _ c.args.bytes.now c.args.heads.now c.run_of.result.now c.args.n c.args.joined.now c.in-Nobody.is c.run_of.ensures) c.copy_run.ensures

pub returns-in_ok-copy_upto-in-Twin-2 : goal.returns-in_ok-copy_upto-in-Twin-2
returns-in_ok-copy_upto-in-Twin-2 t c =
    let twin = c.in-Twin.twin.value in
    let own = map (datagram_at c.args.bytes.now) c.args.heads.now in
    on_ok_weaker c.copy_run-in-Twin.result
    (copied-twin c.args.out.now.items c.copy_upto.new.out.items c.copy_upto-in-Twin.new.out.items _
    (sent_upto twin.at own twin.before) (sent_upto (length twin.heads.items) (map (datagram_at twin.bytes.items) twin.heads.items) twin.joined)
    c.args.bytes.now c.args.heads.now c.run_of-in-Twin.result.now c.args.n c.saturating_sub.result twin.at c.args.joined.now
    (ap (sent_upto c.args.n own) c.in-Twin.is) (cc (c.in_ok-copy_upto-in-Twin.ensures, c.deref.ensures, c.deref-in-Twin.ensures))
    (grind (arith, common_steps, c.in_ok-copy_upto-in-Twin-2.ensures)) (grind (arith, common_steps)) (cc (c.run_of-in-Twin.ensures)))
    c.copy_run-in-Twin.ensures
