use Rattle.cmd_router.proofs.routing.serve_shared.Given as goal

abbrev pub ghosts-share_router-T-Ledger : goal.ghosts-share_router-T-Ledger
ghosts-share_router-T-Ledger g a = record { name = a.turns.name; parts = a.turns.parts }

abbrev pub ghosts-share_router-S-Ledger : goal.ghosts-share_router-S-Ledger
ghosts-share_router-S-Ledger g a = record { name = a.slots.name; parts = a.slots.parts }

abbrev pub ghosts-share_router-A-Ledger : goal.ghosts-share_router-A-Ledger
ghosts-share_router-A-Ledger g a = record { name = a.accepted.name; parts = a.accepted.parts }

abbrev pub ghosts-share_router-F-Ledger : goal.ghosts-share_router-F-Ledger
ghosts-share_router-F-Ledger g a = record { name = a.forwarded.name; parts = a.forwarded.parts }

abbrev pub ghosts-share_router-W-Ledger : goal.ghosts-share_router-W-Ledger
ghosts-share_router-W-Ledger g a = record { name = a.answered.name; parts = a.answered.parts }
