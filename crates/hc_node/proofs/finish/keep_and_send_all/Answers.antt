-- Each turn of the loop keeps and sends the reply to one answer more.
use Rattle.std.proofs.Common.{◌≡◌, ◌∷◌, [], ◌++◌, List, length, map, sym, ap, ◌∙◌, append_assoc, append-nil, arith}
use Rattle.std.specs.Prelude.{fold}
use Rattle.std.specs.Vec.Iter.{into_iter_items}
use Rattle.std.proofs.lemmas.List.{nil_from_length}
use Rattle.hc_service.specs.declared.answer.Answer.{Answer}
use Rattle.r2_frag.specs.Kept.{kept_with}
use Rattle.hc_member.specs.Finish.{reply_to}
use Rattle.hc_member.specs.Sending.{Reply, datagrams_of_all}
use Rattle.hc_node.proofs.Finishing.{next-replied}
use Rattle.hc_node.proofs.finish.keep_and_send_all.Goals as goal

pub answers-preserved : goal.answers-preserved
answers-preserved c =
    let at = c.answers in
    let x = c.in-Some.answer in
    let steps : into_iter_items at.answer-iterator ≡ x ∷ into_iter_items c.next.new.self = c.in-Some.ensures.steps.0 in
    record {
      left = append_assoc at.yielded (x ∷ []) _ ∙ rw (← steps) at.invariant.left;
      size =
          (let was = at.invariant.size in
          let gone = c.in-Some.ensures.steps.1 in
          let short = ap length steps in
          omega arith);
      done = next-replied _ _ _ at.yielded x _ _ _ _ at.invariant.done c.in_ok-keep_and_send.ensures.kept c.in_ok-keep_and_send.ensures.sends;
    }

pub returns-clause-kept : goal.returns-clause-kept
returns-clause-kept c =
    let at = c.answers in
    let none = c.in-None.ensures.steps in
    let empty : into_iter_items at.answer-iterator ≡ [] = nil_from_length _ (sym at.invariant.size ∙ none.0) in
    let all : at.yielded ≡ c.args.answers =
    sym (append-nil at.yielded) ∙ rw empty at at.invariant.left ∙ c.into_iter-answer-iterator.ensures.into_iter_gives.0 ∙ c.into_vec-answer-items.ensures in
    at.invariant.done.kept ∙ ap (λ (xs : List Answer). fold kept_with c.args.kept.now (map reply_to xs)) all

pub returns-clause-sends : goal.returns-clause-sends
returns-clause-sends c =
    let at = c.answers in
    let none = c.in-None.ensures.steps in
    let empty : into_iter_items at.answer-iterator ≡ [] = nil_from_length _ (sym at.invariant.size ∙ none.0) in
    let all : at.yielded ≡ c.args.answers =
    sym (append-nil at.yielded) ∙ rw empty at at.invariant.left ∙ c.into_iter-answer-iterator.ensures.into_iter_gives.0 ∙ c.into_vec-answer-items.ensures in
    at.invariant.done.sends
    ∙ ap (λ (xs : List Answer). c.args.sends.now.items ++ datagrams_of_all c.args.setup.now (map (λ a. Reply (reply_to a)) xs)) all
