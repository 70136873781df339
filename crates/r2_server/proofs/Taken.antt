-- A packet that is taken is a part of a request under policy 0 or 1.
use Rattle.std.proofs.Common.{◌≡◌, ◌≤◌, ℕ, Bool, true, Option, Some, None, refl, subst, ap, ◌∙◌, arith}
use Rattle.std.specs.Prelude.{◌==◌, ◌||◌, ◌&&◌, is_some, option_map}
use Rattle.std.proofs.lemmas.Bool.{eqb-true, leb-true}
use Rattle.r2_base.specs.declared.addr.Addr.{Addr}
use Rattle.r2_header.specs.declared.header.Header.{Header}
use Rattle.r2_header.specs.declared.packet.Packet.{Packet}
use Rattle.r2_header.specs.declared.packet.Packet.TheVariants as packet
use Rattle.r2_header.specs.Header.{IsValid}
use Rattle.r2_header.specs.Policy.{jbsq}
use Rattle.r2_frag.specs.declared.class.Class.{Class}
use Rattle.r2_frag.specs.declared.class.Class.TheVariants.{Request}
use Rattle.r2_frag.specs.declared.key.Key.{Key}
use Rattle.r2_frag.specs.Keys.{class_of, key_at, key_between}
use Rattle.r2_server.specs.Sound.{IsPartOfRequest}
use Rattle.r2_server.specs.Timers.{key_for}
use Rattle.r2_server.specs.Turn.{is_router, is_taken}

first-policy : (n : ℕ) (a b : Bool) → ((n == 0) || ((n == 1) && a && b)) ≡ true → n ≤ 1
first-policy n a b e = grind (arith, e)

taken-policy : (router : Option Addr) (from : Addr) (h : Header) (p : Packet) → is_taken router from h p ≡ true → h.policy ≤ 1
taken-policy router from h packet.Req0 e = first-policy h.policy (is_some h.client) (is_router router from) e
taken-policy router from h packet.ReqN e = leb-true h.policy 1 e
taken-policy router from h packet.Reply e = cc
taken-policy router from h packet.ReqRdy e = cc
taken-policy router from h packet.Feedback e = cc
taken-policy router from h packet.Reject e = cc
taken-policy router from h packet.Ordering e = cc
taken-policy router from h packet.Recover e = cc

taken-class : (router : Option Addr) (from : Addr) (h : Header) (p : Packet) → is_taken router from h p ≡ true → class_of p ≡ Some Request
taken-class router from h packet.Req0 e = refl
taken-class router from h packet.ReqN e = refl
taken-class router from h packet.Reply e = cc
taken-class router from h packet.ReqRdy e = cc
taken-class router from h packet.Feedback e = cc
taken-class router from h packet.Reject e = cc
taken-class router from h packet.Ordering e = cc
taken-class router from h packet.Recover e = cc

-- a key by its class
key-of : (from to : Addr) (h : Header) (key : Key) (class : Class) (o : Option Class) → o ≡ Some class
    → option_map (key_between h from to) o ≡ Some key → key_between h from to class ≡ key
key-of from to h key class None e same = cc
key-of from to h key class (Some c) e same = cc

pub taken : (router : Option Addr) (from to : Addr) (h : Header) (key : Key)
    → IsValid h → key_at from to h ≡ Some key → is_taken router from h h.packet ≡ true → IsPartOfRequest h key
unfolding key_at
taken router from to h key valid e is =
    let class = taken-class router from h h.packet is in
    let same = key-of from to h key Request (class_of h.packet) class e in
    let policy = taken-policy router from h h.packet is in
    subst (λ (k : Key). IsPartOfRequest h k) same (record { valid = valid; class = class; request = refl; policy = policy })

-- and where it is under JBSQ, its key is that of the request
pub taken-known : (router : Option Addr) (from to : Addr) (h : Header) (key : Key)
    → key_at from to h ≡ Some key → is_taken router from h h.packet ≡ true → (key.policy == jbsq) ≡ true → key ≡ key_for key.rid
unfolding key_at
taken-known router from to h key e is routed =
    let class = taken-class router from h h.packet is in
    let same = key-of from to h key Request (class_of h.packet) class e in
    let policy : key.policy ≡ jbsq = eqb-true key.policy jbsq routed in
    let there : (key_between h from to Request).policy ≡ jbsq = ap (λ (k : Key). k.policy) same ∙ policy in
    subst (λ (k : Key). k ≡ key_for k.rid) same (λ k. record { class = Request; policy = there k; from = (key_between h from to Request).from; rid = (key_between h from to Request).rid })
