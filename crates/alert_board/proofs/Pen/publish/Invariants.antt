use Rattle.alert_board.proofs.Pen.publish.Given as goal

-- the flags that are published
abbrev pub ghosts-publish : goal.ghosts-publish
ghosts-publish a = record { flags = a.flags }
