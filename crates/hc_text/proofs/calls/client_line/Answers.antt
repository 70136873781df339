-- The first word of the line says which call it is.
use Rattle.std.proofs.Common.{◌≡◌, sym, ◌∙◌, codes}
use Rattle.std.specs.Cmp.Lexicographic.{same_text, other_text}
use Rattle.std.proofs.lemmas.Result.{IfOk-weaker}
use Rattle.hc_store.specs.Command.{Get, Put, Del, Cas, Scan, Count}
use Rattle.hc_text.specs.Call.{call_of}
use Rattle.hc_text.proofs.CallLines.{along, cas_only, count_only, del_line, del_only, get_line, get_only, line_cut, line_parts, not_outside, other_only, put_only, raw_only, scan_only}
use Rattle.hc_text.proofs.calls.client_line.Goals as goal

pub returns-then-eq-clause-only : goal.returns-then-eq-clause-only
returns-then-eq-clause-only c = λ call says.
    along c.count_call.result call (call_of Count) (count_only _ (same_text _ _ c.if-eq.ensures ∙ c.as_slice.ensures) call says) c.count_call.ensures

pub returns-in_default-clause-only : goal.returns-in_default-clause-only
returns-in_default-clause-only c = λ call says.
    let cut = line_cut _ (λ same. other_text _ _ c.if-eq.ensures (same ∙ sym c.as_slice.ensures)) call says in
    absurd (c.in_default.ensures.only cut.0 cut.1 cut.2)

pub returns-in_default-clause-outside : goal.returns-in_default-clause-outside
returns-in_default-clause-outside c = λ failed call says.
    let cut = line_cut _ (λ same. other_text _ _ c.if-eq.ensures (same ∙ sym c.as_slice.ensures)) call says in
    absurd (c.in_default.ensures.only cut.0 cut.1 cut.2)

pub returns-then-eq-2-clause-found : goal.returns-then-eq-2-clause-found
returns-then-eq-2-clause-found c =
    let word = same_text _ _ c.if-eq-2.ensures ∙ c.as_slice-2.ensures in
    IfOk-weaker c.get_call.result _ _ (λ call f. get_line _ _ _ c.in-Some.ensures.found word call f.0 f.1 f.2 f.3) c.get_call.ensures.found

pub returns-then-eq-4-clause-found : goal.returns-then-eq-4-clause-found
returns-then-eq-4-clause-found c =
    let word = same_text _ _ c.if-eq-4.ensures ∙ c.as_slice-4.ensures in
    IfOk-weaker c.del_call.result _ _ (λ call f. del_line _ _ _ c.in-Some.ensures.found word call f.0 f.1 f.2 f.3) c.del_call.ensures.found

pub returns-then-eq-2-clause-only : goal.returns-then-eq-2-clause-only
returns-then-eq-2-clause-only c = λ call says.
    let other = λ (same : c.args.line.now ≡ codes "count"). other_text _ _ c.if-eq.ensures (same ∙ sym c.as_slice.ensures) in
    let word = same_text _ _ c.if-eq-2.ensures ∙ c.as_slice-2.ensures in
    let q = get_only _ _ call word (line_parts _ _ _ c.in-Some.ensures.only other call says) in
    along c.get_call.result call (call_of (Get q.0)) q.3 (c.get_call.ensures.only q.0 q.1 q.2)

pub returns-then-eq-2-clause-outside : goal.returns-then-eq-2-clause-outside
returns-then-eq-2-clause-outside c = λ failed call says.
    let other = λ (same : c.args.line.now ≡ codes "count"). other_text _ _ c.if-eq.ensures (same ∙ sym c.as_slice.ensures) in
    let word = same_text _ _ c.if-eq-2.ensures ∙ c.as_slice-2.ensures in
    let q = get_only _ _ call word (line_parts _ _ _ c.in-Some.ensures.only other call says) in
    not_outside c.get_call.result call (along c.get_call.result call (call_of (Get q.0)) q.3 (c.get_call.ensures.only q.0 q.1 q.2)) failed

pub returns-then-eq-3-clause-only : goal.returns-then-eq-3-clause-only
returns-then-eq-3-clause-only c = λ call says.
    let other = λ (same : c.args.line.now ≡ codes "count"). other_text _ _ c.if-eq.ensures (same ∙ sym c.as_slice.ensures) in
    let word = same_text _ _ c.if-eq-3.ensures ∙ c.as_slice-3.ensures in
    let q = put_only _ _ call word (line_parts _ _ _ c.in-Some.ensures.only other call says) in
    along c.put_call.result call (call_of (Put q.0 q.1)) q.4 (c.put_call.ensures.only q.0 q.1 q.2 q.3)

pub returns-then-eq-3-clause-outside : goal.returns-then-eq-3-clause-outside
returns-then-eq-3-clause-outside c = λ failed call says.
    let other = λ (same : c.args.line.now ≡ codes "count"). other_text _ _ c.if-eq.ensures (same ∙ sym c.as_slice.ensures) in
    let word = same_text _ _ c.if-eq-3.ensures ∙ c.as_slice-3.ensures in
    let q = put_only _ _ call word (line_parts _ _ _ c.in-Some.ensures.only other call says) in
    not_outside c.put_call.result call (along c.put_call.result call (call_of (Put q.0 q.1)) q.4 (c.put_call.ensures.only q.0 q.1 q.2 q.3)) failed

pub returns-then-eq-4-clause-only : goal.returns-then-eq-4-clause-only
returns-then-eq-4-clause-only c = λ call says.
    let other = λ (same : c.args.line.now ≡ codes "count"). other_text _ _ c.if-eq.ensures (same ∙ sym c.as_slice.ensures) in
    let word = same_text _ _ c.if-eq-4.ensures ∙ c.as_slice-4.ensures in
    let q = del_only _ _ call word (line_parts _ _ _ c.in-Some.ensures.only other call says) in
    along c.del_call.result call (call_of (Del q.0)) q.3 (c.del_call.ensures.only q.0 q.1 q.2)

pub returns-then-eq-4-clause-outside : goal.returns-then-eq-4-clause-outside
returns-then-eq-4-clause-outside c = λ failed call says.
    let other = λ (same : c.args.line.now ≡ codes "count"). other_text _ _ c.if-eq.ensures (same ∙ sym c.as_slice.ensures) in
    let word = same_text _ _ c.if-eq-4.ensures ∙ c.as_slice-4.ensures in
    let q = del_only _ _ call word (line_parts _ _ _ c.in-Some.ensures.only other call says) in
    not_outside c.del_call.result call (along c.del_call.result call (call_of (Del q.0)) q.3 (c.del_call.ensures.only q.0 q.1 q.2)) failed

pub returns-then-eq-5-clause-only : goal.returns-then-eq-5-clause-only
returns-then-eq-5-clause-only c = λ call says.
    let other = λ (same : c.args.line.now ≡ codes "count"). other_text _ _ c.if-eq.ensures (same ∙ sym c.as_slice.ensures) in
    let word = same_text _ _ c.if-eq-5.ensures ∙ c.as_slice-5.ensures in
    let q = cas_only _ _ call word (line_parts _ _ _ c.in-Some.ensures.only other call says) in
    along c.cas_call.result call (call_of (Cas q.0 q.1 q.2)) q.6 (c.cas_call.ensures.only q.0 q.1 q.2 q.3 q.4 q.5)

pub returns-then-eq-5-clause-outside : goal.returns-then-eq-5-clause-outside
returns-then-eq-5-clause-outside c = λ failed call says.
    let other = λ (same : c.args.line.now ≡ codes "count"). other_text _ _ c.if-eq.ensures (same ∙ sym c.as_slice.ensures) in
    let word = same_text _ _ c.if-eq-5.ensures ∙ c.as_slice-5.ensures in
    let q = cas_only _ _ call word (line_parts _ _ _ c.in-Some.ensures.only other call says) in
    not_outside c.cas_call.result call (along c.cas_call.result call (call_of (Cas q.0 q.1 q.2)) q.6 (c.cas_call.ensures.only q.0 q.1 q.2 q.3 q.4 q.5)) failed

pub returns-then-eq-6-clause-only : goal.returns-then-eq-6-clause-only
returns-then-eq-6-clause-only c = λ call says.
    let other = λ (same : c.args.line.now ≡ codes "count"). other_text _ _ c.if-eq.ensures (same ∙ sym c.as_slice.ensures) in
    let word = same_text _ _ c.if-eq-6.ensures ∙ c.as_slice-6.ensures in
    let q = scan_only _ _ call word (line_parts _ _ _ c.in-Some.ensures.only other call says) in
    along c.scan_call.result call (call_of (Scan q.0 q.1)) q.4 (c.scan_call.ensures.only q.0 q.1 q.2 q.3)

pub returns-then-eq-6-clause-outside : goal.returns-then-eq-6-clause-outside
returns-then-eq-6-clause-outside c = λ failed call says.
    let other = λ (same : c.args.line.now ≡ codes "count"). other_text _ _ c.if-eq.ensures (same ∙ sym c.as_slice.ensures) in
    let word = same_text _ _ c.if-eq-6.ensures ∙ c.as_slice-6.ensures in
    let q = scan_only _ _ call word (line_parts _ _ _ c.in-Some.ensures.only other call says) in
    not_outside c.scan_call.result call (along c.scan_call.result call (call_of (Scan q.0 q.1)) q.4 (c.scan_call.ensures.only q.0 q.1 q.2 q.3)) failed

pub returns-then-eq-7-clause-only : goal.returns-then-eq-7-clause-only
returns-then-eq-7-clause-only c = λ call says.
    let other = λ (same : c.args.line.now ≡ codes "count"). other_text _ _ c.if-eq.ensures (same ∙ sym c.as_slice.ensures) in
    let word = same_text _ _ c.if-eq-7.ensures ∙ c.as_slice-7.ensures in
    let q = raw_only _ _ call word (line_parts _ _ _ c.in-Some.ensures.only other call says) in
    c.raw_call.ensures.only call q

pub returns-then-eq-7-clause-outside : goal.returns-then-eq-7-clause-outside
returns-then-eq-7-clause-outside c = λ failed call says.
    let other = λ (same : c.args.line.now ≡ codes "count"). other_text _ _ c.if-eq.ensures (same ∙ sym c.as_slice.ensures) in
    let word = same_text _ _ c.if-eq-7.ensures ∙ c.as_slice-7.ensures in
    let q = raw_only _ _ call word (line_parts _ _ _ c.in-Some.ensures.only other call says) in
    not_outside c.raw_call.result call (c.raw_call.ensures.only call q) failed

pub returns-clause-only : goal.returns-clause-only
returns-clause-only c = λ call says.
    let other = λ (same : c.args.line.now ≡ codes "count"). other_text _ _ c.if-eq.ensures (same ∙ sym c.as_slice.ensures) in
    absurd (other_only _ _ call
    (λ same. other_text _ _ c.if-eq-2.ensures (same ∙ sym c.as_slice-2.ensures))
    (λ same. other_text _ _ c.if-eq-3.ensures (same ∙ sym c.as_slice-3.ensures))
    (λ same. other_text _ _ c.if-eq-4.ensures (same ∙ sym c.as_slice-4.ensures))
    (λ same. other_text _ _ c.if-eq-5.ensures (same ∙ sym c.as_slice-5.ensures))
    (λ same. other_text _ _ c.if-eq-6.ensures (same ∙ sym c.as_slice-6.ensures))
    (λ same. other_text _ _ c.if-eq-7.ensures (same ∙ sym c.as_slice-7.ensures))
    (line_parts _ _ _ c.in-Some.ensures.only other call says))

pub returns-clause-outside : goal.returns-clause-outside
returns-clause-outside c = λ failed call says.
    let other = λ (same : c.args.line.now ≡ codes "count"). other_text _ _ c.if-eq.ensures (same ∙ sym c.as_slice.ensures) in
    absurd (other_only _ _ call
    (λ same. other_text _ _ c.if-eq-2.ensures (same ∙ sym c.as_slice-2.ensures))
    (λ same. other_text _ _ c.if-eq-3.ensures (same ∙ sym c.as_slice-3.ensures))
    (λ same. other_text _ _ c.if-eq-4.ensures (same ∙ sym c.as_slice-4.ensures))
    (λ same. other_text _ _ c.if-eq-5.ensures (same ∙ sym c.as_slice-5.ensures))
    (λ same. other_text _ _ c.if-eq-6.ensures (same ∙ sym c.as_slice-6.ensures))
    (λ same. other_text _ _ c.if-eq-7.ensures (same ∙ sym c.as_slice-7.ensures))
    (line_parts _ _ _ c.in-Some.ensures.only other call says))
