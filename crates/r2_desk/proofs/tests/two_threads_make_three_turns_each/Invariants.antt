use Rattle.r2_desk.proofs.tests.two_threads_make_three_turns_each.Given as goal

abbrev pub ghosts-two_threads-T-Ledger : goal.ghosts-two_threads-T-Ledger
ghosts-two_threads-T-Ledger g a = record { name = a.turns.name; parts = a.turns.parts }

abbrev pub ghosts-two_threads-S-Ledger : goal.ghosts-two_threads-S-Ledger
ghosts-two_threads-S-Ledger g a = record { name = a.slots.name; parts = a.slots.parts }

abbrev pub ghosts-two_threads-A-Ledger : goal.ghosts-two_threads-A-Ledger
ghosts-two_threads-A-Ledger g a = record { name = a.accepted.name; parts = a.accepted.parts }

abbrev pub ghosts-two_threads-F-Ledger : goal.ghosts-two_threads-F-Ledger
ghosts-two_threads-F-Ledger g a = record { name = a.forwarded.name; parts = a.forwarded.parts }

abbrev pub ghosts-two_threads-W-Ledger : goal.ghosts-two_threads-W-Ledger
ghosts-two_threads-W-Ledger g a = record { name = a.answered.name; parts = a.answered.parts }
