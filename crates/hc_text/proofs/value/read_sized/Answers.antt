use Rattle.hc_text.proofs.value.read_sized.Goals as goal

pub returns-in-Err-clause-only : goal.returns-in-Err-clause-only
returns-in-Err-clause-only c = λ value named fits. c.in-Err.ensures.only value named
