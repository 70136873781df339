use Rattle.r2_desk.proofs.tests.two_passes_make_a_turn_each.Given as goal

abbrev pub ghosts-two_requests-T-Ledger : goal.ghosts-two_requests-T-Ledger
ghosts-two_requests-T-Ledger g a = record { name = a.turns.name; parts = a.turns.parts }

abbrev pub ghosts-two_requests-S-Ledger : goal.ghosts-two_requests-S-Ledger
ghosts-two_requests-S-Ledger g a = record { name = a.slots.name; parts = a.slots.parts }

abbrev pub ghosts-two_requests-A-Ledger : goal.ghosts-two_requests-A-Ledger
ghosts-two_requests-A-Ledger g a = record { name = a.accepted.name; parts = a.accepted.parts }

abbrev pub ghosts-two_requests-F-Ledger : goal.ghosts-two_requests-F-Ledger
ghosts-two_requests-F-Ledger g a = record { name = a.forwarded.name; parts = a.forwarded.parts }

abbrev pub ghosts-two_requests-W-Ledger : goal.ghosts-two_requests-W-Ledger
ghosts-two_requests-W-Ledger g a = record { name = a.answered.name; parts = a.answered.parts }
