-- An address's text is read part by part, and what was read is the text of the address.
use Rattle.std.proofs.Common.{◌≡◌, ◌∙◌, ap, Some}
use Rattle.r2_base.proofs.AddrTexts.{from_b, from_c, from_d, addr_text-parts, addr_from_parts, addr_text-from_parts}
use Rattle.r2_base.proofs.NumberBytes.{byte_at-lt}
use Rattle.r2_base.proofs.addr.read_addr.Goals as goal

pub returns-in_err-a-clause-only : goal.returns-in_err-a-clause-only
returns-in_err-a-clause-only c a is =
    absurd (c.in_err-a.ensures.only _ (from_b a) (byte_at-lt 3 a.ip) (is.spelled ∙ addr_text-parts a))

pub returns-in_err-b-clause-only : goal.returns-in_err-b-clause-only
returns-in_err-b-clause-only c a is =
    let at_a = c.in_ok-a.ensures.only _ (from_b a) (byte_at-lt 3 a.ip) (is.spelled ∙ addr_text-parts a) in
    absurd (c.in_err-b.ensures.only _ (from_c a) (byte_at-lt 2 a.ip) at_a.1)

pub returns-in_err-c-clause-only : goal.returns-in_err-c-clause-only
returns-in_err-c-clause-only c a is =
    let at_a = c.in_ok-a.ensures.only _ (from_b a) (byte_at-lt 3 a.ip) (is.spelled ∙ addr_text-parts a) in
    let at_b = c.in_ok-b.ensures.only _ (from_c a) (byte_at-lt 2 a.ip) at_a.1 in
    absurd (c.in_err-c.ensures.only _ (from_d a) (byte_at-lt 1 a.ip) at_b.1)

pub returns-in_err-d-clause-only : goal.returns-in_err-d-clause-only
returns-in_err-d-clause-only c a is =
    let at_a = c.in_ok-a.ensures.only _ (from_b a) (byte_at-lt 3 a.ip) (is.spelled ∙ addr_text-parts a) in
    let at_b = c.in_ok-b.ensures.only _ (from_c a) (byte_at-lt 2 a.ip) at_a.1 in
    let at_c = c.in_ok-c.ensures.only _ (from_d a) (byte_at-lt 1 a.ip) at_b.1 in
    absurd (c.in_err-d.ensures.only _ _ (byte_at-lt 0 a.ip) at_c.1)

pub returns-in_err-port-clause-only : goal.returns-in_err-port-clause-only
returns-in_err-port-clause-only c a is =
    let at_a = c.in_ok-a.ensures.only _ (from_b a) (byte_at-lt 3 a.ip) (is.spelled ∙ addr_text-parts a) in
    let at_b = c.in_ok-b.ensures.only _ (from_c a) (byte_at-lt 2 a.ip) at_a.1 in
    let at_c = c.in_ok-c.ensures.only _ (from_d a) (byte_at-lt 1 a.ip) at_b.1 in
    let at_d = c.in_ok-d.ensures.only _ _ (byte_at-lt 0 a.ip) at_c.1 in
    cc (c.in_err-port.ensures.only a.port is.port_is_set is.port_fits at_d.1)

pub returns-clause-found : goal.returns-clause-found
returns-clause-found c = record {
  ip_fits = c.from_be_bytes.type_inv;
  port_is_set = c.in_ok-port.ensures.found.0;
  port_fits = c.in_ok-port.ensures.found.1;
  spelled = addr_text-from_parts c.in_ok-a.a c.in_ok-b.b c.in_ok-c.c c.in_ok-d.d c.from_be_bytes.result c.in_ok-port.port _ _ _ _ _ c.in_ok-a.ensures.found.0 c.in_ok-b.ensures.found.0
      c.in_ok-c.ensures.found.0 c.in_ok-d.ensures.found.0 c.from_be_bytes.ensures c.in_ok-a.ensures.found.1 c.in_ok-b.ensures.found.1 c.in_ok-c.ensures.found.1
      c.in_ok-d.ensures.found.1 c.in_ok-port.ensures.found.2;
}

pub returns-clause-only : goal.returns-clause-only
returns-clause-only c a is =
    let at_a = c.in_ok-a.ensures.only _ (from_b a) (byte_at-lt 3 a.ip) (is.spelled ∙ addr_text-parts a) in
    let at_b = c.in_ok-b.ensures.only _ (from_c a) (byte_at-lt 2 a.ip) at_a.1 in
    let at_c = c.in_ok-c.ensures.only _ (from_d a) (byte_at-lt 1 a.ip) at_b.1 in
    let at_d = c.in_ok-d.ensures.only _ _ (byte_at-lt 0 a.ip) at_c.1 in
    let port : c.in_ok-port.port ≡ a.port = cc (c.in_ok-port.ensures.only a.port is.port_is_set is.port_fits at_d.1) in
    ap Some (addr_from_parts a c.in_ok-a.a c.in_ok-b.b c.in_ok-c.c c.in_ok-d.d c.from_be_bytes.result c.in_ok-port.port is.ip_fits at_a.0 at_b.0 at_c.0 at_d.0
    c.from_be_bytes.ensures port)
