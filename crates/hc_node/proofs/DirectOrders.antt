-- What a leader sends to one member.
use Rattle.std.proofs.Common.{◌≡◌, ℕ, ◌+◌, ◌-◌, ◌≤◌, Bool, false, List, length, take, drop, sym, ap, subst, ◌∙◌, arith}
use Rattle.std.proofs.lemmas.List.{drop-map}
use Rattle.r2_base.specs.Limits.{most_entries}
use Rattle.r2_base.specs.declared.addr.Addr.{Addr}
use Rattle.r2_base.specs.declared.entry.Entry.{Entry}
use Rattle.hc_log.specs.declared.stored.Stored.{Stored}
use Rattle.hc_log.specs.Durable.{IsValid}
use Rattle.hc_log.specs.Log.{metas_of}
use Rattle.hc_message.specs.declared.msg.Msg.{Msg}
use Rattle.hc_message.specs.Message.{IsValid as IsValidMessage}
use Rattle.hc_member.specs.declared.setup.Setup.{Setup}
use Rattle.hc_member.specs.Member.{Member, durable_of}
use Rattle.hc_member.specs.Orders.{direct_order, next_to, order_after}
use Rattle.hc_member.specs.Sending.{Sending, Tell}
use Rattle.hc_member.specs.Setup.{IsSetup, address_of, own_address}
use Rattle.hc_member.specs.Sound.{IsLeading}
use Rattle.hc_member.proofs.Sends.{sent-order}

-- entries of a log from an index on
direct-entries : (log : List Stored) (from most : ℕ) → take most (drop (from - 1) (metas_of log)) ≡ take most (metas_of (drop (from - 1) log))
direct-entries log from most = ap (take most) (drop-map (λ (s : Stored). s.entry) (from - 1) log)

-- an Order of a leader with these is valid
pub direct-valid : (s : Setup) (m : Member) (from : ℕ) (via : Bool) → IsSetup s → IsValid (durable_of m) → IsLeading s m.term (length m.log) m.lead
    → m.commit ≤ length m.log → from ≤ length m.log + 1
    → IsValidMessage (order_after s m (from - 1) via (take most_entries (drop (from - 1) (metas_of m.log))))
direct-valid s m from via is valid lead commit high =
    let sent = sent-order s m (own_address s) (from - 1) most_entries via is valid lead.term_is_set lead.start_low lead.start_high commit (omega arith) (omega arith) in
    subst (λ (es : List Entry). IsValidMessage (order_after s m (from - 1) via es)) (sym (direct-entries m.log from most_entries)) sent.0

-- it is the direct Order
pub direct-is : (s : Setup) (m : Member) (member from : ℕ) (to : Addr) (message : Msg) → to ≡ address_of s member → from ≡ next_to m.lead member
    → message ≡ order_after s m (from - 1) false (take most_entries (drop (from - 1) (metas_of m.log))) → Tell to message ≡ direct_order s m member
direct-is s m member from to message at next is =
    let whole : ℕ → Sending = λ n. Tell (address_of s member) (order_after s m (n - 1) false (take most_entries (metas_of (drop (n - 1) m.log)))) in
    ap (λ (a : Addr). Tell a message) at
    ∙ ap (Tell (address_of s member)) is
    ∙ ap (λ (es : List Entry). Tell (address_of s member) (order_after s m (from - 1) false es)) (direct-entries m.log from most_entries)
    ∙ ap whole next
