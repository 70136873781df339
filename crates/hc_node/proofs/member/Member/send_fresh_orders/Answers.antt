use Rattle.std.proofs.Common.{◌≡◌, ◌++◌, true, false, List, length, map, sym, ap, subst, arith}
use Rattle.std.specs.Prelude.{nat_lt, OnOk}
use Rattle.std.proofs.lemmas.Bool.{lt-ltb}
use Rattle.r2_base.specs.declared.datagram.Datagram.{Datagram}
use Rattle.hc_message.specs.declared.msg.Msg.{Msg}
use Rattle.hc_message.specs.Message.{IsValid}
use Rattle.hc_member.specs.Member.{Member}
use Rattle.hc_member.specs.Sending.{Sending, Tell, datagrams_of, datagrams_of_all}
use Rattle.hc_member.specs.Setup.{address_of, others}
use Rattle.hc_node.proofs.FreshOrders.{fresh-to_aggregator, fresh-to_others, fresh-valid}
use Rattle.hc_node.proofs.member.Member.send_fresh_orders.Goals as goal

pub tell-requires-clause-message : goal.tell-requires-clause-message
tell-requires-clause-message g c =
    subst IsValid (sym c.in_ok-message-in-Some.ensures)
    (fresh-valid c.args.setup.now c.args.self.now c.args.keep true c.requires.setup c.requires.sound c.requires.role c.requires.keep c.requires.few)

pub tell_others-requires-clause-message : goal.tell_others-requires-clause-message
tell_others-requires-clause-message g c =
    subst IsValid (sym c.in_ok-message-in-None.ensures)
    (fresh-valid c.args.setup.now c.args.self.now c.args.keep false c.requires.setup c.requires.sound c.requires.role c.requires.keep c.requires.few)

pub returns-in_ok-message-in-Some : goal.returns-in_ok-message-in-Some
returns-in_ok-message-in-Some g c =
    let s = c.args.setup.now in
    let m : Member = c.args.self.now in
    let keep = c.args.keep in
    let to = c.in-Some.aggregator in
    let size = ap (λ (x : Member). length x.log) c.self.view_is in
    let some : nat_lt keep (length m.log) ≡ true = lt-ltb keep (length m.log) (omega (arith, size)) in
    subst (λ (ds : List Datagram). OnOk c.tell.result (c.tell.new.sends.items ≡ c.args.sends.now.items ++ ds)) (sym (fresh-to_aggregator s m keep to some c.in-Some.is))
    (subst (λ (x : Msg). OnOk c.tell.result (c.tell.new.sends.items ≡ c.args.sends.now.items ++ datagrams_of s (Tell to x))) c.in_ok-message-in-Some.ensures c.tell.ensures)

pub returns-in_ok-message-in-None : goal.returns-in_ok-message-in-None
returns-in_ok-message-in-None g c =
    let s = c.args.setup.now in
    let m : Member = c.args.self.now in
    let keep = c.args.keep in
    let size = ap (λ (x : Member). length x.log) c.self.view_is in
    let some : nat_lt keep (length m.log) ≡ true = lt-ltb keep (length m.log) (omega (arith, size)) in
    subst (λ (xs : List Sending). OnOk c.tell_others.result (c.tell_others.new.sends.items ≡ c.args.sends.now.items ++ datagrams_of_all s xs)) (sym (fresh-to_others s m keep some c.in-None.is))
    (subst
    (λ (x : Msg). OnOk c.tell_others.result (c.tell_others.new.sends.items ≡ c.args.sends.now.items ++ datagrams_of_all s (map (λ member. Tell (address_of s member) x) (others s))))
    c.in_ok-message-in-None.ensures c.tell_others.ensures)
