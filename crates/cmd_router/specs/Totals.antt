-- The line of totals of a router's run.
use Rattle.std.specs.Prelude.{ℕ, List, [], ◌∷◌, ◌++◌, codes, count_by, length}
use Rattle.std.specs.Fmt.{decimal}
use Rattle.r2_base.specs.declared.event.Event.{Event}
use Rattle.r2_jbsq.specs.declared.router_setup.RouterSetup.{RouterSetup}
use Rattle.r2_jbsq.specs.Answer.{history_after}
use Rattle.r2_jbsq.specs.History.{is_accept, is_answer, is_forward}

-- a name, and a number in decimal
unfoldable pub count_text : List ℕ → ℕ → List ℕ
count_text name n = name ++ decimal n

-- how many events came, and how many requests were accepted, forwarded and answered
unfoldable pub totals_line : ℕ → ℕ → ℕ → ℕ → List ℕ
totals_line turns accepted forwarded answered =
    count_text (codes "turns ") turns ++ count_text (codes " accepted ") accepted ++ count_text (codes " forwarded ") forwarded
    ++ count_text (codes " answered ") answered ++ 10 ∷ []

-- the totals of a new router after these events: the marks of each kind in its history
abbrev pub totals_text : RouterSetup → List Event → List ℕ
totals_text setup events =
    let history = history_after setup [] events in
    totals_line (length events) (count_by is_accept history) (count_by is_forward history) (count_by is_answer history)
