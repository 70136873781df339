-- An Order as a message.
use Rattle.std.specs.Prelude.{ℕ, []}
use Rattle.hc_message.specs.declared.msg.Msg.{Msg}
use Rattle.hc_message.specs.declared.msg.Msg.TheVariants.{Order}
use Rattle.hc_member.specs.Orders.{HeardOrder}

-- what a member hears of an Order; no other message is one
abbrev pub heard_order : Msg → HeardOrder
heard_order (Order term leader prev_index prev_term term_start commit via entries) =
    record {
      leader = leader;
      prev_index = prev_index;
      prev_term = prev_term;
      commit = commit;
      entries = entries;
    }
heard_order _ = record { leader = 0; prev_index = 0; prev_term = 0; commit = 0; entries = [] }

-- the term of an Order
abbrev pub order_term : Msg → ℕ
order_term (Order term leader prev_index prev_term term_start commit via entries) = term
order_term _ = 0

-- a message is an Order
abbrev pub IsOrder : Msg → Type 0
IsOrder (Order term leader prev_index prev_term term_start commit via entries) = Unit {0}
IsOrder _ = ⊥
