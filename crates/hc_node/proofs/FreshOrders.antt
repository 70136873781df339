-- What a leader sends to all: the entries that a turn appended.
use Rattle.std.proofs.Common.{◌≡◌, ℕ, ◌+◌, ◌-◌, ◌≤◌, Bool, true, false, List, length, map, take, drop, Option, None, Some, ap, ◌∙◌, append-nil, arith, length-drop}
use Rattle.std.specs.Prelude.{nat_lt}
use Rattle.std.proofs.lemmas.List.{drop-map, length-map, take_all}
use Rattle.r2_base.specs.Limits.{most_entries}
use Rattle.r2_base.specs.declared.addr.Addr.{Addr}
use Rattle.r2_base.specs.declared.entry.Entry.{Entry}
use Rattle.hc_log.specs.declared.stored.Stored.{Stored}
use Rattle.hc_log.specs.Log.{metas_of}
use Rattle.hc_message.specs.declared.msg.Msg.{Msg}
use Rattle.hc_message.specs.Message.{IsValid}
use Rattle.hc_member.specs.declared.setup.Setup.{Setup}
use Rattle.hc_member.specs.declared.role.Role.TheVariants.{Leader}
use Rattle.hc_member.specs.Member.{Member}
use Rattle.hc_member.specs.Orders.{fresh_orders, order_after, orders_to}
use Rattle.hc_member.specs.Sending.{Tell, datagrams_of, datagrams_of_all}
use Rattle.hc_member.specs.Setup.{IsSetup, address_of, others, own_address}
use Rattle.hc_member.specs.Sound.{IsSound}
use Rattle.hc_member.proofs.Settled.{fresh-order}

-- an Order has room for all entries after an index where there are so few
fresh-entries : (log : List Stored) (keep : ℕ) → length log ≤ keep + most_entries → take most_entries (drop (keep + 1 - 1) (metas_of log)) ≡ metas_of (drop keep log)
fresh-entries log keep few =
    let at : keep + 1 - 1 ≡ keep = omega arith in
    let moved : drop keep (metas_of log) ≡ metas_of (drop keep log) = drop-map (λ (s : Stored). s.entry) keep log in
    let size = length-map (drop keep log) (λ (s : Stored). s.entry) in
    let left = length-drop keep log in
    ap (λ (n : ℕ). take most_entries (drop n (metas_of log))) at ∙ ap (take most_entries) moved ∙ take_all most_entries (metas_of (drop keep log)) (omega (arith, size, left, few))

-- the fresh Order as it is made
pub fresh-is : (s : Setup) (m : Member) (keep : ℕ) (via : Bool) (message : Msg) → length m.log ≤ keep + most_entries
    → message ≡ order_after s m keep via (take most_entries (drop (keep + 1 - 1) (metas_of m.log))) → message ≡ order_after s m keep via (metas_of (drop keep m.log))
fresh-is s m keep via message few is = is ∙ ap (λ (es : List Entry). order_after s m keep via es) (fresh-entries m.log keep few)

-- it is valid
pub fresh-valid : (s : Setup) (m : Member) (keep : ℕ) (via : Bool) → IsSetup s → IsSound s m → m.role ≡ Leader → keep ≤ length m.log → length m.log ≤ keep + most_entries
    → IsValid (order_after s m keep via (metas_of (drop keep m.log)))
fresh-valid s m keep via is sound role within few = (fresh-order s is m (own_address s) keep via sound role within few).0

-- it goes to the aggregator where there is one, and else to each other member
pub fresh-to_aggregator : (s : Setup) (m : Member) (keep : ℕ) (aggregator : Addr) → nat_lt keep (length m.log) ≡ true → s.aggregator ≡ Some aggregator
    → datagrams_of_all s (fresh_orders s m keep) ≡ datagrams_of s (Tell aggregator (order_after s m keep true (metas_of (drop keep m.log))))
unfolding fresh_orders
fresh-to_aggregator s m keep aggregator some e =
    rw some (ap (λ (o : Option Addr). datagrams_of_all s (orders_to s m keep o)) e ∙ append-nil (datagrams_of s (Tell aggregator (order_after s m keep true (metas_of (drop keep m.log))))))

pub fresh-to_others : (s : Setup) (m : Member) (keep : ℕ) → nat_lt keep (length m.log) ≡ true → s.aggregator ≡ None
    → fresh_orders s m keep ≡ map (λ member. Tell (address_of s member) (order_after s m keep false (metas_of (drop keep m.log)))) (others s)
unfolding fresh_orders
fresh-to_others s m keep some e = rw some (ap (orders_to s m keep) e)
